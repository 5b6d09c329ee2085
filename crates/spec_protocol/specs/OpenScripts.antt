-- Open scripts: what the open transactions did is what their scripts do.
use Rattle.std.specs.Prelude.{ℕ, ◌≡◌, ◌≤◌, ◌==◌, false, if◌then◌else◌, List, [], map}
use Rattle.std.specs.List.{list_any}
use Rattle.sql_types.specs.declared.version.Version.{Version}
use Rattle.sql_types.specs.declared.event.Event.{Event}
use Rattle.spec_model.specs.Replies.{reply_text}
use Rattle.spec_model.specs.Catalog.{Tables, versions_of}
use Rattle.spec_model.specs.Undo.{versions_undone}
use Rattle.spec_history.specs.Transactions.{unfixed}
use Rattle.spec_protocol.specs.Server.{Server}
use Rattle.spec_protocol.specs.Cells.{cell_of}
use Rattle.spec_protocol.specs.Contents.{Contents, Known}
use Rattle.spec_protocol.specs.Seats.{OpenTransaction, StatementProgress, going_back, SessionStatus, inside, Session, SeatState}
use Rattle.spec_protocol.specs.OpenOnes.{HasOpen, script_so_far, script_end}
use Rattle.spec_model.specs.Touched.{touched}
use Rattle.spec_protocol.specs.EventsIn.{events_in}

-- In the time of a way back its transaction's starts and ends with the savepoint's number or above, in cells
-- that are still to be visited, don't count.
abbrev pub counted_in : ℕ → ℕ → StatementProgress → List Version → List Version
counted_in tx id (going_back seq cells) versions = if list_any
    (λ i. i == cell_of id) cells then versions_undone tx seq versions else versions
counted_in tx id _ versions = versions

abbrev pub counted : ℕ → ℕ → SessionStatus → List Version → List Version
counted tx id (inside text stage) versions = counted_in tx id stage versions
counted tx id _ versions = versions

-- the starts and ends of a transaction in the table with this id, as far as they count
abbrev pub events_counted : Contents → Session → OpenTransaction → ℕ → List Event
events_counted c x o id = events_in o.id id (counted o.id id x.place (c.versions id))

-- its replies, the versions that it started or ended in the cells and its counter are those of its script
-- over the tables that the journal leads to
pub record IsOfItsScript (v : Server) (c : Contents) (T : Tables) (x : Session)
    (o : OpenTransaction) : Type 0 where
  pub replies : map (λ l. l.1) (script_so_far x o) ≡ map reply_text (script_end v T x o).replies
  pub versions : (id : ℕ) → 1 ≤ id → touched o.id (counted o.id id x.place (c.versions id)) ≡ touched o.id
      (versions_of (script_end v T x o).state.tables id)
  pub counter : o.seq ≡ (script_end v T x o).state.seq
  -- a transaction of its own has no statement but the one in which it stands
  pub alone : o.explicit ≡ false → o.script ≡ []

-- for each open transaction whose end isn't fixed
abbrev pub OpenScripts : Server → Contents → Known → List SeatState → Type 0
OpenScripts v c k seats = (j : ℕ) (x : Session) (o : OpenTransaction) → HasOpen seats j x o → o.end ≡ unfixed
    → IsOfItsScript v c k.tables x o
