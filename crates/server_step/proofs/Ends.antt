-- What a core left, by what it was asked.
use Rattle.std.proofs.Common.{◌≡◌, ℕ, List, true, length, subst, arith, ⊎_elim, Result, Ok, Err}
use Rattle.std.specs.Prelude.{IfOk}
use Rattle.base_types.specs.DatabaseName.{is_database_name}
use Rattle.base_types.specs.SessionName.{is_session_name}
use Rattle.spec_history.specs.Lists.{Text, Each}
use Rattle.format_lines.specs.Line.{Statement}
use Rattle.format_lines.specs.Sessions.{sessions_of}
use Rattle.law_behind.specs.Past.{Past}
use Rattle.server_engine.specs.CoreInput.{CoreInput, at_end}
use Rattle.server_engine.specs.Parts.{HasLeft, IsDone}
use Rattle.server_engine.specs.Standing.{IsStanding, Stands}
use Rattle.server_engine.specs.declared.one_thread.Core.{Core}
use Rattle.server_engine.specs.declared.parts.Parts.{Parts}
use Rattle.server_step.specs.RunOutcome.{HasRun}
use Rattle.server_step.specs.Reached.{AreEnded, Reached, StandsEnded, asked}

pub if_ok : {T E : Type 0} {P Q : T → Type 0} (r : Result T E) → ((v : T) → P v → Q v) → IfOk r P → IfOk r Q
if_ok (Ok v) f p = f v p
if_ok (Err e) f p = tt

module _ {H : Type 0} (digest : H → List ℕ → List ℕ) (h : H) where
  at_the_end : (a : CoreInput) (p : Parts H) → HasLeft (digest h) (at_end a) p → HasLeft (digest h) a p
  at_the_end a p left = record {
    transcripts = left.transcripts;
    texts = left.texts;
    names = left.names;
    version = left.version;
    database = left.database;
    ended = left.ended;
    image = left.image;
    room = left.room;
  }

  pub still_stands : (past : Past) (database : Text) (size : ℕ) (names : List Text) (says : ℕ → Type 0) (ss : List Statement) (c : Core H) → Reached digest h past database size names says ss c → IsStanding digest c
  still_stands past database size names says ss c r = record { h = h; a = asked past database size names ss r.times; stands = r.stands }

  pub is_done : (a : CoreInput) (c : Core H) (n : ℕ) → n ≡ length a.names → StandsEnded digest h c a → AreEnded c n → IsDone digest c
  is_done a c n many standing ended = ⊎_elim
      (λ s. record { h = h; a = a; stands = s; ended = λ j less. ended j (omega (arith, many, less)) })
      (λ s. record { h = h; a = at_end a; stands = s; ended = λ j less. ended j (omega (arith, many, less)) })
      standing

  run_of : {E : Type 0} (past : Past) (database : Text) (size : ℕ) (says : ℕ → Type 0) (ss : List Statement) (c d : Core H) (r : Result (Parts H) E)
      → is_database_name database ≡ true → Each (λ name. is_session_name name ≡ true) (sessions_of ss)
      → (reached : Reached digest h past database size (sessions_of ss) says ss c)
      → StandsEnded digest h d (asked past database size (sessions_of ss) ss reached.times)
      → ((k : H) (a : CoreInput) → Stands digest k d a → IfOk r (HasLeft (digest k) a))
      → IfOk r (HasRun (digest h) past database size says ss)
  run_of past database size says ss c d r named formed reached standing leaves =
      let a = asked past database size (sessions_of ss) ss reached.times in
      if_ok r (λ p left. record { database_is_named = named; sessions_are_named = formed; times = reached.times; moments = reached.moments; left = left })
      (⊎_elim (λ s. leaves h a s) (λ s. if_ok r (at_the_end a) (leaves h (at_end a) s)) standing)

  -- the names of the sessions are as they were given
  pub has_run : {E : Type 0} (past : Past) (database : Text) (size : ℕ) (says : ℕ → Type 0) (ss : List Statement) (names : List Text) (c d : Core H) (r : Result (Parts H) E) → names ≡ sessions_of ss
      → is_database_name database ≡ true → Each (λ name. is_session_name name ≡ true) (sessions_of ss)
      → (reached : Reached digest h past database size names says ss c)
      → StandsEnded digest h d (asked past database size names ss reached.times)
      → ((k : H) (a : CoreInput) → Stands digest k d a → IfOk r (HasLeft (digest k) a))
      → IfOk r (HasRun (digest h) past database size says ss)
  has_run past database size says ss names c d r are named formed reached standing leaves = run_of past database size says ss c d r named formed
      (record { times = reached.times; moments = reached.moments; stands = as_given (λ a. Stands digest h c a) reached.stands }) (as_given (λ a. StandsEnded digest h d a) standing) leaves
    where
      as_given : (P : CoreInput → Type 0) → P (asked past database size names ss reached.times) → P (asked past database size (sessions_of ss) ss reached.times)
      as_given P p = subst (λ (n : List Text). P (asked past database size n ss reached.times)) are p
