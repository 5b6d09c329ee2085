-- A split keeps cells and seats standing together.
use Rattle.std.proofs.Common.{◌≡◌, ℕ, zero, suc, ◌<◌, ◌⊎◌, Bool, List, [], ◌∷◌, ◌++◌, map, length, None, slice_set, refl, sym, ap, ◌∙◌, subst, inl, inr, ⊎_elim, arith}
use Rattle.std.proofs.lemmas.Bool.{eq-eqb, ne_eqb}
use Rattle.std.specs.Prelude.{◌==◌, if◌then◌else◌}
use mathlib.Core.Option.{some, some-injective, some-ne-none}
use lib.ListN.{get_elem?}
use Rattle.spec_history.specs.Lists.{Each, In}
use Rattle.spec_history.specs.Acts.{Act}
use Rattle.spec_history.proofs.Trace.{each_append, each_weaker}
use Rattle.spec_protocol.specs.Server.{Server}
use Rattle.spec_protocol.specs.Cells.{LedgerCell, Cell}
use Rattle.spec_protocol.specs.Contents.{contents, known}
use Rattle.spec_protocol.specs.Seats.{OpenTransaction, Session, Written, idle, session, SeatState, kept, split}
use Rattle.spec_protocol.specs.OpenOnes.{HasOpen}
use Rattle.spec_protocol.specs.Parts.{Numbers, all_of, IsOver, Past}
use Rattle.spec_protocol.specs.TranscriptsAgree.{IsMoment, SeatAgrees, TranscriptsAgree}
use Rattle.spec_protocol.specs.StandTogether.{History, Stands}
use Rattle.spec_protocol.proofs.Places.{set_same}
use Rattle.law_protocol_end.proofs.SameOpens.{tables_same, scripts_same, trees_same, agree_same, cover_same, rows_same}

module _ {A : Type 0} where
  at_longer : (l : List A) (a : A) (i : ℕ) (b : A) → get_elem? l i ≡ some b → get_elem? (l ++ a ∷ []) i ≡ some b
  at_longer [] a i b e = absurd (some-ne-none b (sym e))
  at_longer (x ∷ xs) a zero b e = e
  at_longer (x ∷ xs) a (suc i) b e = at_longer xs a i b e

  -- what stands there stood there, or is the last
  at_snoc : (l : List A) (a b : A) (i : ℕ) → get_elem? (l ++ a ∷ []) i ≡ some b → ((get_elem? l i ≡ some b) × (i < length l)) ⊎ ((i ≡ length l) × (a ≡ b))
  at_snoc [] a b zero e = inr (refl, some-injective a b e)
  at_snoc [] a b (suc i) e = absurd (some-ne-none b (sym e))
  at_snoc (x ∷ xs) a b zero e = inl (e, omega arith)
  at_snoc (x ∷ xs) a b (suc i) e = ⊎_elim (λ t. inl (t.0, (let l = t.1 in omega arith))) (λ t. inr (ap suc t.0, t.1)) (at_snoc xs a b i e)

  within : (l : List A) (i : ℕ) (b : A) → get_elem? l i ≡ some b → i < length l
  within [] i b e = absurd (some-ne-none b (sym e))
  within (x ∷ xs) zero b e = omega arith
  within (x ∷ xs) (suc i) b e = omega (arith, within xs i b e)

all_over : (h : List Act) (ns : List ℕ) (xs : List Written) → Past h ns xs → Each (IsOver h) (map (λ x. x.transcript) xs)
all_over h [] [] p = tt
all_over h [] (x ∷ xs) p = absurd p
all_over h (n ∷ ns) [] p = absurd p
all_over h (n ∷ ns) (x ∷ xs) p = (record { number = n; over = p.0.over; is = p.0.is }, all_over h ns xs p.1)

module _ (v : Server) (cells : List Cell) (seats : List SeatState) {history : History} (st : Stands v history cells seats) (j : ℕ) (s : SeatState) (there : get_elem? seats j ≡ some s) (n : ℕ) where
  abbrev new : SeatState
  new = split s n

  abbrev then_seats : List SeatState
  then_seats = seats ++ new ∷ []

  abbrev ledger : LedgerCell
  ledger = st.ledger

  not_new : (y : Session) → new.role ≡ session y → ⊥
  not_new y e = let f : idle ≡ session y = e in cc

  on : (k : ℕ) (y : Session) (p : OpenTransaction) → HasOpen seats k y p → HasOpen then_seats k y p
  on k y p h = record { seat = h.seat; there = at_longer seats new k h.seat h.there; role = h.role; open_one = h.open_one }

  pub back : (k : ℕ) (y : Session) (p : OpenTransaction) → HasOpen then_seats k y p → HasOpen seats k y p
  back k y p h = ⊎_elim
      (λ (e : (get_elem? seats k ≡ some h.seat) × (k < length seats)). record { seat = h.seat; there = e.0; role = h.role; open_one = h.open_one })
      (λ (e : (k ≡ length seats) × (new ≡ h.seat)). absurd (not_new y (ap (λ (u : SeatState). u.role) e.1 ∙ h.role)))
      (at_snoc seats new h.seat k h.there)

  abbrev none_yet : Numbers
  none_yet = record { past = []; now = None }

  abbrev agree : TranscriptsAgree v history ledger seats
  agree = st.transcripts_agree

  abbrev of_seat : ℕ → Numbers
  of_seat k = if k == length seats then none_yet else agree.of_seat k

  at_new : of_seat (length seats) ≡ none_yet
  at_new = ap (λ (b : Bool). if b then none_yet else agree.of_seat (length seats)) (eq-eqb (length seats) (length seats) refl)

  at_old : (k : ℕ) → k < length seats → of_seat k ≡ agree.of_seat k
  at_old k l = ap (λ (b : Bool). if b then none_yet else agree.of_seat k) (ne_eqb k (length seats) (λ e. omega arith))

  was : SeatAgrees v history ledger (agree.of_seat j) s
  was = agree.agree j s there

  new_agrees : SeatAgrees v history ledger none_yet new
  new_agrees = record {
    sessions = record { differ = tt; past = tt; now = tt; earlier = each_append (IsOver history) (map (λ x. x.transcript) s.written) s.earlier (all_over history (agree.of_seat j).past s.written was.sessions.past) was.sessions.earlier };
    database = was.database;
    block_size = was.block_size;
    marks = tt;
    greatest = (omega arith, was.greatest.1);
    past_images = tt;
    images = tt;
  }

  all_agree : (k : ℕ) (u : SeatState) → get_elem? then_seats k ≡ some u → SeatAgrees v history ledger (of_seat k) u
  all_agree k u e = ⊎_elim
      (λ (f : (get_elem? seats k ≡ some u) × (k < length seats)). subst (λ (m : Numbers). SeatAgrees v history ledger m u) (sym (at_old k f.1)) (agree.agree k u f.0))
      (λ (f : (k ≡ length seats) × (new ≡ u)). subst (λ (w : SeatState). SeatAgrees v history ledger (of_seat k) w) f.1 (subst (λ (i : ℕ). SeatAgrees v history ledger (of_seat i) new) (sym f.0) (subst (λ (m : Numbers). SeatAgrees v history ledger m new) (sym at_new) new_agrees)))
      (at_snoc seats new u k e)

  all_own : (k : ℕ) (u : SeatState) → get_elem? then_seats k ≡ some u → Each (λ i. agree.owner i ≡ k) (all_of (of_seat k))
  all_own k u e = ⊎_elim
      (λ (f : (get_elem? seats k ≡ some u) × (k < length seats)). subst (λ (m : Numbers). Each (λ i. agree.owner i ≡ k) (all_of m)) (sym (at_old k f.1)) (agree.own k u f.0))
      (λ (f : (k ≡ length seats) × (new ≡ u)). subst (λ (m : Numbers). Each (λ i. agree.owner i ≡ k) (all_of m)) (sym (ap of_seat f.0 ∙ at_new)) tt)
      (at_snoc seats new u k e)

  moment : (time : ℕ) → IsMoment seats time → IsMoment then_seats time
  moment time e = record { j = e.j; seat = e.seat; there = at_longer seats new e.j e.seat e.there; is = e.is }

  pub split_stands : Stands v history cells then_seats
  split_stands = let c = contents cells in let k = known v.reads ledger.items in record {
    catalog = st.catalog;
    ledger = ledger;
    are_cells = st.are_cells;
    ledger_is_legal = st.ledger_is_legal;
    tables_are_serial = tables_same v c k seats then_seats on back st.catalog.defs st.catalog.creator st.tables_are_serial;
    rows_agree = rows_same v c k seats then_seats on back st.rows_agree;
    open_scripts = scripts_same v c k seats then_seats on back st.open_scripts;
    locks_cover = cover_same v c k seats then_seats on back st.locks_cover;
    locks_agree = agree_same v c k seats then_seats on back st.locks_agree;
    trees_are_of_events = trees_same v c k seats then_seats on back st.trees_are_of_events;
    transcripts_agree = record {
      good = agree.good;
      items = agree.items;
      next = agree.next;
      issued = agree.issued;
      of_seat = of_seat;
      agree = all_agree;
      owner = agree.owner;
      own = all_own;
      count = agree.count;
      all = λ i l. let o = agree.all i l in (o.0, at_longer seats new (agree.owner i) o.0 o.1, subst (λ (m : Numbers). In i (all_of m)) (sym (at_old (agree.owner i) (within seats (agree.owner i) o.0 o.1))) o.2);
      no_others = agree.no_others;
      times = each_weaker (IsMoment seats) (IsMoment then_seats) moment _ agree.times;
      made = each_weaker (λ g. IsMoment seats g.made) (λ g. IsMoment then_seats g.made) (λ g. moment g.made) ledger.issued agree.made;
    };
  }

-- the form in which a board asks for it
pub splits_stand : (v : Server) (cells : List Cell) (seats : List SeatState) (j : ℕ) (s : SeatState) (n : ℕ) {history : History} → Stands v history cells seats → get_elem? seats j ≡ some s
    → Stands v history cells (slice_set seats j (kept s n) ++ split s n ∷ [])
splits_stand v cells seats j s n {history} st there = subst (λ (us : List SeatState). Stands v history cells (us ++ split s n ∷ [])) (sym (set_same seats j s there)) (split_stands v cells seats st j s there n)
