-- A visit or a step keeps what locks were asked for.
use Rattle.std.proofs.Common.{◌≡◌, ◌⊎◌, ℕ, List, ◌++◌, map, set, refl, sym, ap, ◌∙◌, subst, inl, inr, ⊎_elim}
use mathlib.Core.Option.{some}
use lib.ListN.{get_elem?}
use Rattle.sql_types.specs.declared.lock.Hold.{Hold}
use Rattle.spec_model.specs.Catalog.{Defs, defs_of}
use Rattle.spec_model.specs.Journals.{serial}
use Rattle.spec_history.specs.Lists.{Each, In}
use Rattle.spec_history.specs.Acts.{SessionAct, by}
use Rattle.spec_protocol.specs.Server.{Server}
use Rattle.spec_protocol.specs.Cells.{Cell, Ledger, ledger_at, holds_at, holds_in}
use Rattle.spec_protocol.specs.Contents.{contents}
use Rattle.spec_protocol.specs.Seats.{SeatState}
use Rattle.spec_protocol.specs.LocksWereAsked.{IsAskedFor}
use Rattle.spec_protocol.specs.StandTogether.{History, LocksAskedFor, Stands, StandsAfter}
use Rattle.law_protocol_steps.proofs.ActedFor.{sessions_at}
use Rattle.law_protocol_tables.proofs.AskedStays.{AssignsNoId, for_lock, locks_stay}
use Rattle.law_protocol_steps.proofs.CellsAfter.{each_holds, held_here}

-- the definitions of the journal
abbrev pub defs_at : {v : Server} {h : History} {cells : List Cell} {seats : List SeatState} → Stands v h cells seats → Defs
defs_at {v} st = defs_of (serial v.reads st.ledger.items)

module _ (v : Server) {h g : History} {cells then_cells : List Cell} {seats then_seats : List SeatState} (st : Stands v h cells seats) (after : Stands v g then_cells then_seats) where
  -- where the ledger's cell stays, so does the journal
  pub same_ledger : get_elem? then_cells ledger_at ≡ get_elem? cells ledger_at → after.ledger ≡ st.ledger
  same_ledger e = let q : some (Ledger after.ledger) ≡ some (Ledger st.ledger) = sym after.are_cells.has_ledger ∙ e ∙ st.are_cells.has_ledger in cc

module _ (v : Server) {history : History} {cells : List Cell} {seats : List SeatState} (st : Stands v history cells seats) where
  -- after acts that draw no id, where each lock was there and is asked for over the journal's definitions then, or is a new one that is
  pub stay_asked_over : {j : ℕ} {acts : List SessionAct} {then_cells : List Cell} {then_seats : List SeatState} (after : StandsAfter v j history acts then_cells then_seats) → Each AssignsNoId acts
      → ((i : ℕ) (lock : Hold) → In lock (holds_at cells i) → IsAskedFor v (sessions_at history) (defs_at after.stands) i lock)
      → ((i : ℕ) (lock : Hold) → In lock (holds_at then_cells i) → In lock (holds_at cells i) ⊎ IsAskedFor v (sessions_at (history ++ map (by after.session) acts)) (defs_at after.stands) i lock)
      → LocksAskedFor after.stands
  stay_asked_over {j} {acts} {then_cells} {then_seats} after none were new =
      locks_stay v history st.ledger after.stands.ledger seats then_seats (contents cells) (contents then_cells) after.session acts none st.transcripts_agree after.stands.transcripts_agree after.stands.locks_cover were new

module _ (v : Server) {history : History} {cells : List Cell} {seats : List SeatState} (st : Stands v history cells seats) (asked : LocksAskedFor st) where
  -- where the journal has the same definitions
  pub stay_asked : {j : ℕ} {acts : List SessionAct} {then_cells : List Cell} {then_seats : List SeatState} (after : StandsAfter v j history acts then_cells then_seats) → Each AssignsNoId acts
      → defs_at st ≡ defs_at after.stands
      → ((i : ℕ) (lock : Hold) → In lock (holds_at then_cells i) → In lock (holds_at cells i) ⊎ IsAskedFor v (sessions_at (history ++ map (by after.session) acts)) (defs_at after.stands) i lock)
      → LocksAskedFor after.stands
  stay_asked after none same new = stay_asked_over v st after none (λ i lock has. subst (λ (ds : Defs). IsAskedFor v (sessions_at history) ds i lock) same (asked i lock has)) new

  -- where cells and history stay
  pub still_asked_for : {then_seats : List SeatState} (after : Stands v history cells then_seats) → LocksAskedFor after
  still_asked_for after i lock has = for_lock v (sessions_at history) (sessions_at history) _ _ i lock (ap (λ l. defs_of (serial v.reads l.items)) (sym (same_ledger v st after refl))) (asked i lock has) (λ explicit a w. w)

-- ---- locks of one cell

module _ (cells : List Cell) (i : ℕ) (old new : Cell) (out : get_elem? cells i ≡ some old) (P : ℕ → Hold → Type 0) where
  -- what holds of the new ones of the cell holds of all
  pub new_locks : ((lock : Hold) → In lock (holds_in new) → In lock (holds_in old) ⊎ P i lock) → (k : ℕ) (lock : Hold) → In lock (holds_at (set cells i new) k) → In lock (holds_at cells k) ⊎ P k lock
  new_locks here k lock = each_holds cells i old new out (λ n hs. In lock hs → In lock (holds_at cells n) ⊎ P n lock)
      (λ has. ⊎_elim (λ (q : In lock (holds_in old)). inl (subst (In lock) (sym (held_here cells i old new out)) q)) (λ (q : P i lock). inr q) (here lock has))
      (λ n has. inl has) k
