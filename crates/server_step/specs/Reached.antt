-- How far a run has come.
use Rattle.std.specs.Prelude.{ℕ, ◌<◌, ◌⊎◌, List}
use Rattle.law_behind.specs.Past.{Past}
use Rattle.server_engine.specs.EndsLast.{running}
use Rattle.spec_history.specs.Lists.{Text, Each}
use Rattle.format_lines.specs.Line.{Statement}
use Rattle.server_engine.specs.CoreInput.{CoreInput, at_end}
use Rattle.server_engine.specs.Standing.{IsEnded, IsOpen, Stands}
use Rattle.server_engine.specs.declared.one_thread.Core.{Core}
use Rattle.server_result.specs.Moments.{IsMoment}
use Rattle.server_step.specs.Lines.{lines_of}

-- statements of these sessions, at these moments, behind this past
abbrev pub asked : Past → Text → ℕ → List Text → List Statement → List ℕ → CoreInput
asked past database size names statements times = record {
  database = database;
  size = size;
  past = past;
  phase = running;
  names = names;
  lines = lines_of statements;
  moments = times;
}

-- these statements were run, at moments that are said
pub record Reached {H : Type 0} (digest : H → List ℕ → List ℕ) (h : H) (past : Past) (database : Text)
    (size : ℕ) (names : List Text) (says : ℕ → Type 0) (statements : List Statement) (c : Core H) : Type 0 where
  pub times : List ℕ
  pub moments : Each (IsMoment says) times
  pub stands : Stands digest h c (asked past database size names statements times)

-- the first so many sessions may be asked something
abbrev pub AreOpen : {H : Type 0} → Core H → ℕ → Type 0
AreOpen c n = (j : ℕ) → j < n → IsOpen c j

-- they are over
abbrev pub AreEnded : {H : Type 0} → Core H → ℕ → Type 0
AreEnded c n = (j : ℕ) → j < n → IsEnded c j

-- the last of its sessions have been ended, if it has any
abbrev pub StandsEnded : {H : Type 0} → (H → List ℕ → List ℕ) → H → Core H → CoreInput → Type 0
StandsEnded digest h c a = Stands digest h c a ⊎ Stands digest h c (at_end a)
