-- The last event of a transaction, among events that rise.
use Rattle.std.proofs.Common.{◌≡◌, ◌<◌, ◌≤◌, ◌-◌, ℕ, zero, suc, refl, ap, ◌∙◌, Bool, true, false, List, [], ◌∷◌, length, get_or, arith, ◌⊎◌, inl, inr}
use Rattle.std.proofs.lemmas.Grind.{common_steps}
use Rattle.std.specs.Prelude.{nat_le}
use Rattle.std.specs.List.{AllByRecursion}
use Rattle.std.specs.List.Sorted.{IsPartitionedBy, IsPartitionPoint}
use Rattle.std.specs.Cmp.{tied_itself}
use Rattle.std.specs.Ordering.{is_lt, ordering_reverse}
use Rattle.std.specs.declared.cmp.Ordering.TheVariants.{Less}
use Rattle.sql_types.specs.declared.version.Version.{Version}
use Rattle.spec_model.specs.Rows.{EventId, event_cmp, start_cmp}
use Rattle.spec_model.specs.Runs.{Rising}
use Rattle.law_frame.proofs.Sounds.{event_total}
use Rattle.spec_model.specs.Undo.{is_undone}

itself : (a : EventId) → is_lt (event_cmp a a) ≡ false
itself a = ap is_lt (tied_itself event_total a)

turned_less : (a b : EventId) → event_cmp a b ≡ Less → is_lt (event_cmp b a) ≡ false
turned_less a b less = ap is_lt (event_total.antisymm b a ∙ ap ordering_reverse less)

-- a doesn't come before b
not_before : (a b : EventId) → is_lt (event_cmp a b) ≡ false → b.0 ≤ a.0
not_before a b h = grind (arith, common_steps)

same_tx : (a b : EventId) → is_lt (event_cmp a b) ≡ false → a.0 ≡ b.0 → b.1 ≤ a.1
same_tx a b h e = grind (arith, common_steps)

undone_parts : (tx seq : ℕ) (e : EventId) → is_undone tx seq e ≡ true → (e.0 ≡ tx) × (seq ≤ e.1)
undone_parts tx seq e h = grind (arith, common_steps)

undone_of : (tx seq : ℕ) (e : EventId) → e.0 ≡ tx → seq ≤ e.1 → is_undone tx seq e ≡ true
undone_of tx seq e h k = grind (arith, common_steps)

le_of : (m n : ℕ) → nat_le m n ≡ true → m ≤ n
le_of m n h = grind (arith, common_steps)

le_test : (m n : ℕ) → m ≤ n → nat_le m n ≡ true
le_test m n h = grind (arith, common_steps)

above_of : (m n : ℕ) → nat_le m n ≡ false → n < m
above_of m n h = grind (arith, common_steps)

-- b is later, and of no later transaction
later_undone : (tx seq : ℕ) (a b : EventId) → is_lt (event_cmp b a) ≡ false → b.0 ≤ tx → is_undone tx seq a ≡ true → is_undone tx seq b ≡ true
later_undone tx seq a b after within h =
    let p = undone_parts tx seq a h in
    let le = not_before b a after in
    let same : b.0 ≡ a.0 = omega (arith, le, within, p.0) in
    let up = same_tx b a after same in
    undone_of tx seq b (same ∙ p.0) (omega (arith, up, p.1))

from_index : {A : Type 0} (P : A → Type 0) (xs : List A) → ((k : ℕ) (d : A) → k < length xs → P (get_or xs k d)) → AllByRecursion P xs
from_index P [] h = tt
from_index P (x ∷ xs) h = (h zero x (omega arith), from_index P xs (λ k d inside. h (suc k) d (omega (arith, inside))))

cases : (b : Bool) → (b ≡ true) ⊎ (b ≡ false)
cases true = inl refl
cases false = inr refl

module _ {A : Type 0} (event : A → EventId) (xs : List A)
    (rises : (i j : ℕ) (d : A) → i ≤ j → j < length xs → is_lt (event_cmp (event (get_or xs j d)) (event (get_or xs i d))) ≡ false) (tx seq : ℕ) where
  pub up_to_parted : IsPartitionedBy (λ x. nat_le (event x).0 tx) xs
  up_to_parted = λ i j d le lt passes.
      let one = not_before (event (get_or xs j d)) (event (get_or xs i d)) (rises i j d le lt) in
      let two = le_of (event (get_or xs j d)).0 tx passes in
      le_test (event (get_or xs i d)).0 tx (omega (arith, one, two))

  module _ (n : ℕ) (within : n ≤ length xs) (point : IsPartitionPoint (λ x. nat_le (event x).0 tx ≡ true) (λ x. nat_le (event x).0 tx ≡ false) xs n)
      (last : (d : A) → 0 < n → is_undone tx seq (event (get_or xs (n - 1) d)) ≡ false) where
    not_undone : (k : ℕ) (d : A) → k < length xs → (b : Bool) → is_undone tx seq (event (get_or xs k d)) ≡ b → b ≡ false
    not_undone k d inside false e = refl
    not_undone k d inside true e =
        let p = undone_parts tx seq (event (get_or xs k d)) e in
        elim (cases (nat_le (n) k)) [
          | inl above ↦
              let out = above_of (event (get_or xs k d)).0 tx (point.1 k d (le_of n k above) inside) in
              absurd (omega (arith, out, p.0))
          | inr below ↦
              let lt = above_of n k below in
              let late = later_undone tx seq (event (get_or xs k d)) (event (get_or xs (n - 1) d)) (rises k (n - 1) d (omega (arith, lt)) (omega (arith, within, lt)))
              (le_of (event (get_or xs (n - 1) d)).0 tx (point.0 (n - 1) d (omega arith) (omega (arith, lt)))) e in
              let no = last d (omega (arith, lt)) in
              cc
        ]

    pub none_undone : AllByRecursion (λ x. is_undone tx seq (event x) ≡ false) xs
    none_undone = from_index (λ x. is_undone tx seq (event x) ≡ false) xs (λ k d inside. not_undone k d inside (is_undone tx seq (event (get_or xs k d))) refl)

-- ---- versions by rising start

start_below : (vs : List Version) (v : Version) → AllByRecursion (λ w. start_cmp v w ≡ Less) vs → (j : ℕ) (d : Version) → j < length vs → is_lt (event_cmp (get_or vs j d).start v.start) ≡ false
start_below [] v h j d inside = absurd (omega (arith, inside))
start_below (w ∷ ws) v h zero d inside = turned_less v.start w.start h.0
start_below (w ∷ ws) v h (suc j) d inside = start_below ws v h.1 j d (omega (arith, inside))

pub versions_rise : (vs : List Version) → Rising vs → (i j : ℕ) (d : Version) → i ≤ j → j < length vs → is_lt (event_cmp (get_or vs j d).start (get_or vs i d).start) ≡ false
versions_rise [] r i j d le inside = absurd (omega (arith, inside))
versions_rise (v ∷ vs) r zero zero d le inside = itself v.start
versions_rise (v ∷ vs) r zero (suc j) d le inside = start_below vs v r.0 j d (omega (arith, inside))
versions_rise (v ∷ vs) r (suc i) zero d le inside = absurd (omega (arith, le))
versions_rise (v ∷ vs) r (suc i) (suc j) d le inside = versions_rise vs r.1 i j d (omega (arith, le)) (omega (arith, inside))
