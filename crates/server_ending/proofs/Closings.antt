-- Closing what is pending keeps cells and seats standing together.
use Rattle.std.proofs.Common.{◌≡◌, ◌<◌, ◌≤◌, ◌+◌, ◌-◌, ◌++◌, ◌∙◌, ℕ, Bool, true, false, List, [], ◌∷◌, length, nat_lt, refl, sym, ap, subst, subst₂, ⊎_elim, arith, length-append}
use Rattle.std.specs.Prelude.{MatchBool, nat_le, slice_set}
use Rattle.std.proofs.lemmas.Bool.Decides.{nat_tests}
use Rattle.std.proofs.lemmas.List.{length-map}
use mathlib.Core.Option.{some, some-injective}
use lib.ListN.{get_elem?}
use Rattle.sql_types.specs.declared.journal.JournalItem.TheVariants.{Close}
use Rattle.spec_syntax.specs.Text.{statement_of}
use Rattle.spec_protocol.specs.Cells.{Cell, Catalog, Ledger, Rows, LedgerCell, ledger_at, pending_in}
use Rattle.spec_protocol.specs.LedgerVisits.{closed_by, next_block}
use Rattle.spec_protocol.specs.Seats.{SeatState}
use Rattle.spec_protocol.proofs.LedgerNumbers.{pending_after}
use Rattle.spec_protocol.proofs.Places.{set_here, set_same}
use Rattle.server_engine.specs.Full.{ClosesNext, ClosesPending, IsLedger}
use Rattle.server_session.specs.KeptCell.{KeptCell, Keeps}
use Rattle.server_session.specs.Steps.{items_of}
use Rattle.server_session.specs.SessionOutput.{pending_of, size_of}
use Rattle.server_engine.specs.Laws.{visits_keep}
use Rattle.server_engine.specs.ServedDatabase.{ServedDatabase, StandsOn}
use Rattle.server_engine.specs.Standing.{pending_found}
use Rattle.server_engine.proofs.Pairs.{seen_at}
use Rattle.server_engine.proofs.Servers.{some_server}
use Rattle.server_ending.specs.Closing.{pending_there, ClosesThere, HasLedger, StandBeside, StillStand}
use Rattle.server_engine.proofs.ClosingPending.{kept_there, may_close}

-- ---- what one closing tells

-- a block takes some of what is pending
some_taken : (c : LedgerCell) → 1 ≤ c.block_size → 1 ≤ pending_in c → 1 ≤ next_block c
some_taken c size any = by_case (nat_le c.block_size (pending_in c)) refl
  where
    by_case : (b : Bool) → nat_le c.block_size (pending_in c) ≡ b → 1 ≤ next_block c
    by_case true e = rw e size
    by_case false e = rw e any

module _ (h : List ℕ → List ℕ) (c : LedgerCell) (size : 1 ≤ c.block_size) where
  fewer : 1 ≤ pending_in c → pending_in (closed_by h (next_block c) c) < pending_in c
  fewer any =
      let v = some_server h statement_of in
      let left = subst (λ (g : List ℕ → List ℕ). pending_in (closed_by g (next_block c) c) ≡ pending_in c - next_block c) v.1.hash (pending_after v.0 (next_block c) c) in
      let taken = some_taken c size any in omega (arith, left, taken, any)

  -- whether the journal has an item more tells whether any was pending
  pub tells : (d : Cell) → ClosesNext h c d → MatchBool (nat_lt (length c.items) (length (items_of d))) (pending_of d < pending_in c) (pending_of d ≡ 0)
  tells d closes = ⊎_elim
      (λ p. subst (λ (e : Cell). MatchBool (nat_lt (length c.items) (length (items_of e))) (pending_of e < pending_in c) (pending_of e ≡ 0)) (sym p.1)
      (subst (λ (b : Bool). MatchBool b (pending_in (closed_by h (next_block c) c) < pending_in c) (pending_in (closed_by h (next_block c) c) ≡ 0)) (sym more) (fewer p.0)))
      (λ p. subst (λ (e : Cell). MatchBool (nat_lt (length c.items) (length (items_of e))) (pending_of e < pending_in c) (pending_of e ≡ 0)) (sym p.1)
      (subst (λ (b : Bool). MatchBool b (pending_in c < pending_in c) (pending_in c ≡ 0)) (sym same) p.0))
      closes
    where
      longer : length (c.items ++ Close (next_block c) ∷ []) ≡ length c.items + 1
      longer = length-append c.items (Close (next_block c) ∷ [])

      more : nat_lt (length c.items) (length (c.items ++ Close (next_block c) ∷ [])) ≡ true
      more = grind (arith, nat_tests, longer)

      same : nat_lt (length c.items) (length c.items) ≡ false
      same = grind (arith, nat_tests)

told_cell : (h : List ℕ → List ℕ) (c d : Cell) → IsLedger c → 1 ≤ size_of c → ClosesPending h c d
    → MatchBool (nat_lt (length (items_of c)) (length (items_of d))) (pending_of d < pending_of c) (pending_of d ≡ 0)
told_cell h (Catalog c) d l size closes = absurd l
told_cell h (Ledger c) d l size closes = tells h c size d closes
told_cell h (Rows c) d l size closes = absurd l

pub told_of : (h : List ℕ → List ℕ) (x y : KeptCell) → IsLedger x.cell → 1 ≤ size_of x.cell → ClosesPending h x.cell y.cell
    → (m n : ℕ) → m ≡ length (items_of x.cell) → n ≡ length (items_of y.cell) → MatchBool (nat_lt m n) (pending_of y.cell < pending_of x.cell) (pending_of y.cell ≡ 0)
told_of h x y l size closes m n before after = subst₂ (λ (p q : ℕ). MatchBool (nat_lt p q) (pending_of y.cell < pending_of x.cell) (pending_of y.cell ≡ 0)) (sym before) (sym after)
    (told_cell h x.cell y.cell l size closes)

-- ---- among cells

module _ (h : List ℕ → List ℕ) (cells after : List KeptCell) (more : Bool) (c : ClosesThere h more cells after) where
  pub still_stand : StillStand h cells after
  still_stand d seats j s w = record {
    serves = w.serves;
    stands = subst (λ (cs : List KeptCell). StandsOn (λ (k : KeptCell). k.cell) Keeps d cs seats) (sym c.is)
        (subst (StandsOn (λ (k : KeptCell). k.cell) Keeps d (slice_set cells ledger_at c.y)) (set_same seats j s w.there)
        (visits_keep (λ (k : KeptCell). k.cell) Keeps d cells seats j s ((ledger_at, c.x) ∷ []) ledger_at c.y s w.stands w.there (c.there, tt)
        (may_close d h statement_of w.serves c.x c.y s c.closes c.keeps)));
    there = w.there;
  }

  pending_before : pending_there cells ≡ pending_of c.x.cell
  pending_before = ap pending_found (seen_at (λ (k : KeptCell). k.cell) cells ledger_at c.x c.there)

  pending_then : pending_there after ≡ pending_of c.y.cell
  pending_then = ap pending_there c.is
      ∙ ap pending_found (seen_at (λ (k : KeptCell). k.cell) (slice_set cells ledger_at c.y) ledger_at c.y (set_here cells ledger_at c.y c.x c.there))

  pub pending_falls : more ≡ true → pending_there after < pending_there cells
  pending_falls e = let told = subst (λ (b : Bool). MatchBool b (pending_of c.y.cell < pending_of c.x.cell) (pending_of c.y.cell ≡ 0)) e c.told in
      omega (arith, told, pending_before, pending_then)

  pub none_pending : more ≡ false → pending_there after ≡ 0
  none_pending e = let told = subst (λ (b : Bool). MatchBool b (pending_of c.y.cell < pending_of c.x.cell) (pending_of c.y.cell ≡ 0)) e c.told in
      pending_then ∙ told

module _ (h : List ℕ → List ℕ) (cells : List KeptCell) (d : ServedDatabase) (seats : List SeatState) (j : ℕ) (s : SeatState) (w : StandBeside h cells d seats j s) where
  is_ledger : (x : KeptCell) → get_elem? cells ledger_at ≡ some x → Ledger w.stands.together.stands.ledger ≡ x.cell
  is_ledger x here = some-injective (Ledger w.stands.together.stands.ledger) x.cell
      (sym w.stands.together.stands.are_cells.has_ledger ∙ seen_at (λ (k : KeptCell). k.cell) cells ledger_at x here)

  pub has_ledger : HasLedger h cells
  has_ledger = record {
    within = let e = w.stands.together.stands.are_cells.count in let f = length-map cells (λ (k : KeptCell). k.cell) in omega (arith, e, f);
    is = λ x here. (
      subst IsLedger (is_ledger x here) tt,
      subst (λ (c : Cell). 1 ≤ size_of c) (is_ledger x here) w.stands.together.stands.ledger_is_legal.some_size,
      kept_there d h statement_of w.serves cells seats w.stands ledger_at x here,
    );
  }
