-- The entries of many transcripts, as they are written: one list, in the order of the input's lines.
use Rattle.std.specs.Prelude.{ℕ, zero, suc, ◌≡◌, ◌<◌, List, [], ◌∷◌, drop, flat_map, length}
use Rattle.spec_history.specs.Inputs.{InputLine}
use Rattle.spec_history.specs.Lists.{Text, Each, At}
use Rattle.spec_history.specs.StepOrder.{Row, entries_of, RowsInOrder}
use Rattle.spec_history.specs.Transcripts.{Transcript}
use Rattle.format_transcript.specs.TranscriptText.{entry_text}

-- each is of a session behind those of the entries before it
abbrev pub SessionsRise : List Row → Type 0
SessionsRise [] = Unit {0}
SessionsRise (row ∷ rows) = Each (λ later. row.0 < later.0) rows × SessionsRise rows

-- these are the entries of the transcripts: one for each line, in the order of the lines, and behind them the
-- (end)s, in the order of the sessions
pub record AreWritten (X : List Transcript) (lines : List InputLine) (rows : List Row) : Type 0 where
  pub all : (i : ℕ) (x : Transcript) → At X i x → entries_of i rows ≡ x.entries
  pub in_order : RowsInOrder X lines rows
  pub ends_rise : SessionsRise (drop (length lines) rows)

-- ---- their text

-- the name at this place, if there is one
abbrev pub name_at : List Text → ℕ → Text
name_at [] i = []
name_at (name ∷ names) zero = name
name_at (name ∷ names) (suc i) = name_at names i

-- each entry behind the name of its session
unfoldable pub rows_text : List Text → List Row → List ℕ
rows_text names rows = flat_map (λ row. entry_text (name_at names row.0) row.1) rows
