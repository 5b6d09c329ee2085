-- The cells with which a run starts.
use Rattle.std.specs.Prelude.{ℕ, List}
use Rattle.spec_history.specs.Lists.{Text}
use Rattle.spec_syntax.specs.Text.{statement_of}
use Rattle.law_behind.specs.Past.{Past}
use Rattle.server_session.specs.KeptCell.{KeptCell, Keeps}
use Rattle.server_board.specs.StartsWith as board
use Rattle.server_board.specs.StartsWith.{StartsWith}
use Rattle.server_engine.specs.Standing.{cells_seen}

-- a run starts with them behind this past, on each server that reads by the grammar and hashes so
abbrev pub StartsBehind : (List ℕ → List ℕ) → Text → ℕ → Past → List KeptCell → Type 0
StartsBehind h database size past cells = StartsWith (λ (k : KeptCell). k.cell) Keeps h statement_of database size past cells

-- the past that the ledger's cell has
abbrev pub past_in : List KeptCell → Past
past_in cells = board.past_in (cells_seen cells)

-- a run starts with them behind their past
abbrev pub Starts : (List ℕ → List ℕ) → Text → ℕ → List KeptCell → Type 0
Starts h database size cells = StartsBehind h database size (past_in cells) cells
