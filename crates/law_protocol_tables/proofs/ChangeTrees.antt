-- A change of rows keeps trees those of the events.
use Rattle.std.proofs.Common.{◌≡◌, ◌≢◌, ℕ, zero, suc, ◌≤◌, Bool, List, ◌++◌, sym, ap, ◌∙◌, subst, arith}
use Rattle.sql_types.specs.declared.event.Event.{Event}
use Rattle.sql_types.specs.declared.statement.RowStmt.{RowStmt}
use Rattle.sql_types.specs.declared.version.Version.{Version}
use Rattle.spec_model.specs.Catalog.{NamedPart}
use Rattle.spec_model.specs.Changes.{Change}
use Rattle.spec_model.specs.Script.{ScriptEnd}
use Rattle.law_frame.proofs.UndoneVersions.{row_undoes}
use Rattle.spec_history.specs.Lists.{Text}
use Rattle.spec_history.specs.Transactions.{unfixed}
use Rattle.spec_protocol.specs.Server.{Server}
use Rattle.spec_protocol.specs.Cells.{TableCell, Cell, cell_of, versions_at}
use Rattle.spec_protocol.specs.Seats.{OpenTransaction, Session, SeatState}
use Rattle.spec_protocol.specs.OpenOnes.{HasOpen}
use Rattle.spec_protocol.specs.OpenScripts.{counted}
use Rattle.spec_protocol.specs.EventsIn.{events_in}
use Rattle.spec_protocol.specs.Doing.{events_from}
use Rattle.spec_protocol.specs.Moves.{sits}
use Rattle.spec_protocol.specs.TreesAreOfEvents.{AreOpenSavepoints}
use Rattle.spec_protocol.specs.StandTogether.{History, Stands}
use Rattle.law_protocol_steps.proofs.SeatsAfter.{each_open}
use Rattle.spec_protocol.proofs.NewEvents.{come_last}
use Rattle.law_protocol_changes.proofs.Grown.{grown_trees}
use Rattle.law_protocol_steps.proofs.SameOne.{no_change, trees_same}
use Rattle.law_protocol_changes.proofs.ChangesAt as ch
use Rattle.law_protocol_changes.proofs.ChangeKeeps as keeps
use Rattle.law_protocol_steps.proofs.OfCells.{HasItsTrees, TreesAreOfEvents, events_counted}
use Rattle.law_protocol_steps.proofs.FreshIds.{events_of_touched}

module _ (v : Server) (cells : List Cell) (seats : List SeatState) {history : History} (S : Stands v history cells seats) (j : ℕ) (s : SeatState) (x : Session) (o : OpenTransaction) (text : Text) (named : NamedPart) (fresh : Bool)
    (i : ℕ) (c : TableCell) (row : RowStmt) (changes : List Change) (count : ℕ) (K : ch.Changing v cells seats S j s x o text named fresh i c row changes count) where
  abbrev V' : List Version
  V' = ch.rows_then v cells seats S j s x o text named fresh i c row changes count K

  abbrev p : OpenTransaction
  p = ch.open_then v cells seats S j s x o text named fresh i c row changes count K

  abbrev y : Session
  y = ch.session_then v cells seats S j s x o text named fresh i c row changes count K

  abbrev C' : List Cell
  C' = ch.cells_then v cells seats S j s x o text named fresh i c row changes count K

  abbrev seats' : List SeatState
  seats' = ch.seats_then v cells seats S j s x o text named fresh i c row changes count K

  user : 3 ≤ c.id
  user = ch.user v cells seats S j s x o text named fresh i c row changes count K

  -- a table that isn't this one's lies in another cell
  other_cell : (id : ℕ) → id ≢ c.id → cell_of id ≢ i
  other_cell zero ne e = let q = (ch.at v cells seats S j s x o text named fresh i c row changes count K).is in omega arith
  other_cell (suc m) ne e = ne (ch.only_id v cells seats S j s x o text named fresh i c row changes count K (suc m) (omega arith) e)

  same_else : (id : ℕ) → id ≢ c.id → versions_at C' id ≡ versions_at cells id
  same_else id ne = ch.rows_elsewhere v cells seats S j s x o text named fresh i c row changes count K id (other_cell id ne)

  events_were : (id : ℕ) → events_counted cells x o id ≡ events_in o.id id (versions_at cells id)
  events_were id = ap (events_in o.id id) (ch.no_count v cells seats S j s x o text named fresh i c row changes count K id (versions_at cells id))

  events_are : (id : ℕ) → events_counted C' y p id ≡ events_in o.id id (versions_at C' id)
  events_are id = ap (events_in o.id id) (ch.counts_then v cells seats S j s x o text named fresh i c row changes count K o.id id (versions_at C' id))

  more_here : events_counted C' y p c.id ≡ events_counted cells x o c.id ++ events_from o.id o.seq c.id V'
  more_here = events_are c.id ∙ ap (events_in o.id c.id) (ch.rows_are v cells seats S j s x o text named fresh i c row changes count K)
      ∙ come_last o.seq o.id c.id changes c.versions (ch.V_before v cells seats S j s x o text named fresh i c row changes count K)
      (row_undoes o.id o.seq named.0 row c.versions (changes, count) (ch.V_rising v cells seats S j s x o text named fresh i c row changes count K) K.changed)
      ∙ ap (λ (l : List Event). l ++ events_from o.id o.seq c.id V') (ap (events_in o.id c.id) (sym (ch.rows_were v cells seats S j s x o text named fresh i c row changes count K)) ∙ sym (events_were c.id))

  here : HasItsTrees v C' S.ledger y p
  here = let was = S.trees_are_of_events j x o (ch.has_open v cells seats S j s x o text named fresh i c row changes count K) K.unfixed in record {
    trees = grown_trees v c.id (events_from o.id o.seq c.id V') (events_counted C' y p) (events_counted cells x o) more_here
        (λ id l ne. events_are id ∙ ap (events_in o.id id) (same_else id ne) ∙ sym (events_were id)) o.trees (omega (arith, user)) was.trees;
    open_savepoints = subst (λ (e : ScriptEnd). AreOpenSavepoints o.id o.open_savepoints e.state.saved) (sym (ch.ends_so v cells seats S j s x o text named fresh i c row changes count K)) was.open_savepoints;
  }

  other_events : (n : ℕ) (z : Session) (r : OpenTransaction) → n ≢ j → HasOpen seats n z r → r.end ≡ unfixed → (id : ℕ) → events_counted C' z r id ≡ events_counted cells z r id
  other_events n z r ne h e zero = ap (λ (vs : List Version). events_in r.id zero (counted r.id zero z.place vs)) (same_else zero (λ q. omega (arith, user, q)))
  other_events n z r ne h e (suc m) = events_of_touched r.id (suc m) _ ∙ ap (events_in r.id (suc m)) (keeps.seen_stays v cells seats S j s x o text named fresh i c row changes count K n z r ne h e (suc m) (omega arith)) ∙ sym (events_of_touched r.id (suc m) _)

  pub trees_then : TreesAreOfEvents v C' S.ledger seats'
  trees_then = each_open seats j (sits s y) x o y p (ch.goes v cells seats S j s x o text named fresh i c row changes count K) (λ n z r. r.end ≡ unfixed → HasItsTrees v C' S.ledger z r)
      (λ e. here)
      (λ n z r ne h e. let was = S.trees_are_of_events n z r h e in record { trees = trees_same z r z r (no_change z r) v (events_counted cells z r) (events_counted C' z r) r.trees (other_events n z r ne h e) was.trees; open_savepoints = was.open_savepoints })
