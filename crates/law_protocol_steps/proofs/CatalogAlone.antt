-- Who has the catalog's X is alone there.
use Rattle.std.proofs.Common.{◌≡◌, ◌≢◌, ℕ, true, false, List, sym, ap, ◌∙◌, ⊎_elim}
use Rattle.std.proofs.lemmas.Bool.{cases_eq}
use Rattle.sql_types.specs.declared.lock.Mode.{Mode}
use Rattle.sql_types.specs.declared.lock.Mode.TheVariants as mode
use Rattle.sql_types.specs.declared.lock.LockRequest.{LockRequest}
use Rattle.spec_model.specs.Locks.{whole, same_item, conflict, requests_conflict}
use Rattle.spec_history.specs.Lists.{In}
use Rattle.spec_protocol.specs.Server.{Server}
use Rattle.sql_types.specs.declared.lock.Hold.{Hold}
use Rattle.spec_protocol.specs.Cells.{Cell, holds_at, catalog_at}
use Rattle.spec_protocol.specs.Seats.{SeatState}
use Rattle.spec_protocol.specs.StandTogether.{History, Stands}
use Rattle.law_protocol_steps.proofs.Locks.{no_conflict}
use Rattle.law_protocol_steps.proofs.OfCells.{HasLock}
use Rattle.sql_types.specs.declared.lock.Item.TheVariants as item
use Rattle.sql_types.specs.declared.lock.Item.{Item}
use Rattle.std.specs.Prelude.{◌&&◌}

against_whole : (x : Item) (m : Mode) → x ≡ item.Whole → (same_item item.Whole x && conflict mode.X m) ≡ true
unfolding same_item conflict
against_whole x mode.IS e = ap (λ (y : Item). same_item item.Whole y && true) e
against_whole x mode.IX e = ap (λ (y : Item). same_item item.Whole y && true) e
against_whole x mode.S e = ap (λ (y : Item). same_item item.Whole y && true) e
against_whole x mode.X e = ap (λ (y : Item). same_item item.Whole y && true) e

-- a lock on all of a cell stands beside no X
pub on_all : (w : LockRequest) → w.item ≡ item.Whole → requests_conflict (whole mode.X) w ≡ true
on_all w e = against_whole w.item w.mode e

module _ (v : Server) (cells : List Cell) (seats : List SeatState) {history : History} (S : Stands v history cells seats) (id : ℕ) (exclusive : In (record { tx = id; request = whole mode.X }) (holds_at cells catalog_at)) where
  pub none_besides : (h : Hold) → In h (holds_at cells catalog_at) → h.tx ≡ id
  none_besides h has = ⊎_elim (λ (e : h.tx ≡ id). e)
      (λ (ne : h.tx ≢ id).
      let no : requests_conflict (whole mode.X) h.request ≡ false = no_conflict v cells seats S catalog_at (record { tx = id; request = whole mode.X }) h exclusive has (λ e. ne (sym e)) in
      let yes : requests_conflict (whole mode.X) h.request ≡ true = on_all h.request (S.locks_cover.on_whole h has) in cc)
      (cases_eq h.tx id)

  pub alone : (other : ℕ) → HasLock cells catalog_at other → other ≡ id
  alone other l = sym l.mine ∙ none_besides l.hold l.has
