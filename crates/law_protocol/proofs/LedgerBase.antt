-- The database and the block size of the ledger's cell stay, whatever happens.
use Rattle.std.proofs.Common.{◌≡◌, ℕ, zero, suc, Bool, true, false, List, set, refl, sym, ap, ◌∙◌, subst, ⊎_elim}
use Rattle.std.proofs.lemmas.Bool.{cases_eq}
use Rattle.std.specs.Prelude.{if◌then◌else◌, nat_le}
use mathlib.Core.Option.{some}
use lib.ListN.{get_elem?}
use Rattle.spec_history.specs.Lists.{Text}
use Rattle.spec_protocol.specs.Server.{Server}
use Rattle.spec_protocol.specs.Cells.{Cell, Catalog, Ledger, LedgerCell, Rows, ledger_at, pending_in}
use Rattle.spec_protocol.specs.LedgerVisits.{all_closed, closed_by}
use Rattle.spec_protocol.specs.AllowedVisit.{OutsAreIn, AllowedVisit}
use Rattle.spec_protocol.specs.Seats.{SeatState}
use Rattle.spec_protocol.specs.StandTogether.{History, Stands}
use Rattle.spec_protocol.specs.Steps.{Step, alone, visits, splits, joins, Steps, none, more}
use Rattle.spec_protocol.specs.Visits.{Visit, assign_id, commit, read_point, close, issue, lack_block, keep, nothing, Happens}
use Rattle.law_protocol_steps.proofs.AfterSet.{set_else, set_here}

-- the second has the database and the block size of the first
pub record SameBase (c d : LedgerCell) : Type 0 where
  pub database : d.database ≡ c.database
  pub block_size : d.block_size ≡ c.block_size

same_base : (c d : LedgerCell) → d ≡ c → SameBase c d
same_base c d e = record { database = ap (λ (l : LedgerCell). l.database) e; block_size = ap (λ (l : LedgerCell). l.block_size) e }

pub and_then : (c d e : LedgerCell) → SameBase c d → SameBase d e → SameBase c e
and_then c d e a b = record { database = b.database ∙ a.database; block_size = b.block_size ∙ a.block_size }

base_chosen : (b : Bool) (l c d : LedgerCell) → SameBase l c → SameBase l d → SameBase l (if b then c else d)
base_chosen true l c d p q = p
base_chosen false l c d p q = q

closed_base : (h : Text → Text) (n : ℕ) (c : LedgerCell) → SameBase c (all_closed h n c)
closed_base h zero c = record { database = refl; block_size = refl }
closed_base h (suc n) c = let k = if nat_le c.block_size (pending_in c) then c.block_size else pending_in c in
    let rest = closed_base h n (closed_by h k c) in
    base_chosen (nat_le (pending_in c) 0) c c (all_closed h n (closed_by h k c)) (record { database = refl; block_size = refl }) (record { database = rest.database; block_size = rest.block_size })

abbrev CellBase : Cell → Cell → Type 0
CellBase (Ledger c) (Ledger d) = SameBase c d
CellBase (Ledger c) _ = ⊥
CellBase _ _ = Unit {0}

itself : (c : Cell) → CellBase c c
itself (Ledger c) = record { database = refl; block_size = refl }
itself (Catalog c) = tt
itself (Rows c) = tt

visit_base : (v : Server) (out : List (ℕ × Cell)) (visit : Visit) (c d : Cell) (s t : SeatState) → Happens v out visit c s d t → CellBase c d
visit_base v out visit (Catalog c) d s t h = tt
visit_base v out visit (Rows c) d s t h = tt
visit_base v out (assign_id explicit) (Ledger c) (Ledger d) s t h = record { database = ap (λ (l : LedgerCell). l.database) h.cell; block_size = ap (λ (l : LedgerCell). l.block_size) h.cell }
visit_base v out (commit time) (Ledger c) (Ledger d) s t h = record { database = ap (λ (l : LedgerCell). l.database) h.cell; block_size = ap (λ (l : LedgerCell). l.block_size) h.cell }
visit_base v out read_point (Ledger c) (Ledger d) s t h = same_base c d h.1
visit_base v out (close k) (Ledger c) (Ledger d) s t h = record { database = ap (λ (l : LedgerCell). l.database) h.0.cell; block_size = ap (λ (l : LedgerCell). l.block_size) h.0.cell }
visit_base v out (issue moment) (Ledger c) (Ledger d) s t h = let rest = closed_base v.hash (pending_in c) c in
    record { database = ap (λ (l : LedgerCell). l.database) h.cell ∙ rest.database; block_size = ap (λ (l : LedgerCell). l.block_size) h.cell ∙ rest.block_size }
visit_base v out lack_block (Ledger c) (Ledger d) s t h = same_base c d h.1
visit_base v out keep (Ledger c) d s t h = subst (CellBase (Ledger c)) (sym h.1) (itself (Ledger c))
visit_base v out nothing (Ledger c) d s t h = subst (CellBase (Ledger c)) (sym h.0) (itself (Ledger c))
visit_base v out visit (Ledger c) d s t h = absurd h

-- the ledger's cell lies there then, with the database and the block size of this one
pub record LedgerThen (l : LedgerCell) (cells : List Cell) : Type 0 where
  pub then_ledger : LedgerCell
  pub there : get_elem? cells ledger_at ≡ some (Ledger then_ledger)
  pub same : SameBase l then_ledger

abbrev pub KeepsBase : List Cell → List Cell → Type 0
KeepsBase cells then_cells = (l : LedgerCell) → get_elem? cells ledger_at ≡ some (Ledger l) → LedgerThen l then_cells

pub base_kept : (cells : List Cell) → KeepsBase cells cells
base_kept cells l e = record { then_ledger = l; there = e; same = record { database = refl; block_size = refl } }

pub may_base : (v : Server) (cells : List Cell) (s : SeatState) (out : List (ℕ × Cell)) → OutsAreIn cells out → (i : ℕ) (c : Cell) (t : SeatState) → AllowedVisit v s out i c t → KeepsBase cells (set cells i c)
may_base v cells s out outs i c t m l e = ⊎_elim
    (λ (k : i ≡ ledger_at). here k m.old old_there c refl (visit_base v out m.visit m.old c m.begun m.ended m.happens))
    (λ ne. record { then_ledger = l; there = set_else cells i ledger_at c (λ k. ne (sym k)) ∙ e; same = record { database = refl; block_size = refl } })
    (cases_eq i ledger_at)
  where
    old_there : get_elem? cells i ≡ some m.old
    old_there = (subst (OutsAreIn cells) m.is_out outs).0

    here : i ≡ ledger_at → (old : Cell) → get_elem? cells i ≡ some old → (new : Cell) → new ≡ c → CellBase old new → LedgerThen l (set cells i c)
    here k (Ledger a) at (Ledger d) same base = let is : a ≡ l = (let f : some (Ledger a) ≡ some (Ledger l) = sym at ∙ ap (get_elem? cells) k ∙ e in cc) in record {
      then_ledger = d;
      there = ap (get_elem? (set cells i c)) (sym k) ∙ set_here cells i (Ledger a) c at ∙ ap some (sym same);
      same = subst (λ (z : LedgerCell). SameBase z d) is base;
    }
    here k (Ledger a) at (Catalog d) same base = absurd base
    here k (Ledger a) at (Rows d) same base = absurd base
    here k (Catalog a) at new same base = let f : some (Catalog a) ≡ some (Ledger l) = sym at ∙ ap (get_elem? cells) k ∙ e in cc
    here k (Rows a) at new same base = let f : some (Rows a) ≡ some (Ledger l) = sym at ∙ ap (get_elem? cells) k ∙ e in cc

pub step_base : (v : Server) (cells : List Cell) (seats : List SeatState) (then_cells : List Cell) (then_seats : List SeatState) → Step v cells seats then_cells then_seats → KeepsBase cells then_cells
step_base v cells seats then_cells then_seats (alone j s t there step a b) = subst (KeepsBase cells) (sym a) (base_kept cells)
step_base v cells seats then_cells then_seats (visits w) = subst (KeepsBase cells) (sym w.cells_are) (may_base v cells w.s w.out w.are_out w.i w.c w.t w.may)
step_base v cells seats then_cells then_seats (splits j n s there a b) = subst (KeepsBase cells) (sym a) (base_kept cells)
step_base v cells seats then_cells then_seats (joins j k s t there there_k apart rest a b) = subst (KeepsBase cells) (sym a) (base_kept cells)

pub steps_base : (v : Server) (cells : List Cell) (seats : List SeatState) (then_cells : List Cell) (then_seats : List SeatState) → Steps v cells seats then_cells then_seats → KeepsBase cells then_cells
steps_base v cells seats _ _ none = base_kept cells
steps_base v cells seats then_cells then_seats (more {between_cells} {between_seats} steps last) = λ l e.
    let w = steps_base v cells seats between_cells between_seats steps l e in
    let z = step_base v between_cells between_seats then_cells then_seats last w.then_ledger w.there in
    record { then_ledger = z.then_ledger; there = z.there; same = and_then l w.then_ledger z.then_ledger w.same z.same }

-- so it is where cells and seats stand together before and after
pub base_stays : (v : Server) {h g : History} {cells then_cells : List Cell} {seats then_seats : List SeatState} → KeepsBase cells then_cells → (st : Stands v h cells seats) (after : Stands v g then_cells then_seats) → SameBase st.ledger after.ledger
base_stays v base st after = let w = base st.ledger st.are_cells.has_ledger in
    let is : w.then_ledger ≡ after.ledger = (let f : some (Ledger w.then_ledger) ≡ some (Ledger after.ledger) = sym w.there ∙ after.are_cells.has_ledger in cc) in
    subst (SameBase st.ledger) is w.same
