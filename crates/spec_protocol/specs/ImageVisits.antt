-- An image is kept: one visit of all cells, which changes none of them.
use Rattle.std.specs.Prelude.{ℕ, ◌≡◌, ◌<◌, List, length, None}
use Rattle.sql_types.specs.declared.reply.Reply.TheVariants as reply
use Rattle.sql_types.specs.declared.statement.Stmt.TheVariants as stmt
use Rattle.spec_model.specs.Journals.{tx_count}
use Rattle.spec_history.specs.Lists.{In}
use Rattle.spec_protocol.specs.Server.{Server, journal_image}
use Rattle.spec_protocol.specs.Cells.{LedgerCell, Cell, Ledger, cell_count, ledger_at}
use Rattle.spec_protocol.specs.Seats.{begun, answering, inside, SeatState}
use Rattle.spec_protocol.specs.Moves.{keeping, at_place, sits, marking, InStatement}

-- all cells are out; the image is that of the whole journal of the ledger's cell among them, and the number
-- answered is that of the journal's items
pub record KeepsImage (v : Server) (out : List (ℕ × Cell)) (s : SeatState) (t : SeatState) : Type 0 where
  pub all : (i : ℕ) → i < cell_count → (c : Cell) × In (i, c) out
  pub ledger : LedgerCell
  pub there : In (ledger_at, Ledger ledger) out
  pub stands : InStatement v s
  pub at_begin : stands.stage ≡ begun
  pub none_open : stands.x.open_one ≡ None
  pub asks : stands.stmt ≡ stmt.Image
  -- a session keeps two images at most
  pub fewer : length stands.x.images < 2
  pub seat : t ≡ marking (tx_count ledger.items) (sits s (keeping
      (length ledger.items, journal_image v ledger.database ledger.items)
      (at_place None (inside stands.text (answering (reply.Image (length ledger.items)) None)) stands.x)))
