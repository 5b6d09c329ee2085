-- The versions of one key, among those in key order.
use Rattle.std.proofs.Common.{◌≡◌, ◌+◌, ℕ, suc, refl, sym, ap, subst, ◌∙◌, Bool, true, false, cond, List, [], ◌∷◌, take, drop, Option, Some, None, arith}
use Rattle.std.specs.Prelude.{is_none, not, ◌&&◌, if◌then◌else◌}
use Rattle.std.specs.List.{AllByRecursion, filter, filter_map, prefix_len}
use Rattle.std.specs.Cmp.{on_total}
use Rattle.std.specs.declared.cmp.Ordering.{Ordering}
use Rattle.sql_types.specs.declared.version.Version.{Version}
use Rattle.spec_model.specs.Lists.{sorted}
use Rattle.spec_model.specs.Rows.{live}
use Rattle.spec_model.specs.Keys.{Key, key_cmp, live_by_key_at, part_read_at, same_key, version_key_at}
use Rattle.spec_model.specs.Runs.{Rising}
use Rattle.sql_parts.proofs.Orders.{key_total}
use Rattle.law_frame.proofs.Alls.{all_filter, all_sorted}
use Rattle.store_table.specs.Orders.{order_cmp, in_order, starts_of, version_at}
use Rattle.sql_parts.proofs.OneMore.{sorted_passing}
use Rattle.store_table.proofs.InOrder.{find_own}
use Rattle.store_table.proofs.Keeping.{row_is, rows_in_order}

filters_turn : {A : Type 0} (p q : A → Bool) (xs : List A) → filter p (filter q xs) ≡ filter q (filter p xs)
filters_turn p q [] = refl
filters_turn p q (x ∷ xs) = by (p x) (q x) refl refl (filters_turn p q xs)
  where
    by : (a b : Bool) → p x ≡ a → q x ≡ b → filter p (filter q xs) ≡ filter q (filter p xs) → filter p (if b then x ∷ filter q xs else filter q xs) ≡ filter q (if a then x ∷ filter p xs else filter p xs)
    by true true e f rest = rw (e, f) (ap (λ l. x ∷ l) rest)
    by true false e f rest = rw f rest
    by false true e f rest = rw e rest
    by false false e f rest = rest

module _ (places : List ℕ) (vs : List Version) (r : Rising vs) where
  abbrev by_key : Version → Version → Ordering
  by_key v w = key_cmp (version_key_at places v) (version_key_at places w)

  sorted_by_key : sorted by_key (live vs) ≡ in_order [] places vs
  sorted_by_key = (λ i. sorted (λ v w. row_is places [] v w i) (live vs)) ∙ rows_in_order [] places vs r

  pub one_in_order : (k : Key) → live_by_key_at places (Some k) vs ≡ filter (λ v. same_key (version_key_at places v) k) (in_order [] places vs)
  unfolding live_by_key_at
  one_in_order k =
      ap (sorted by_key) (filters_turn (λ v. is_none v.end) (λ v. same_key (version_key_at places v) k) vs)
      ∙ sym (sorted_passing by_key (on_total (version_key_at places) key_total) (λ v. same_key (version_key_at places v) k) (live vs))
      ∙ ap (filter (λ v. same_key (version_key_at places v) k)) sorted_by_key

-- ---- found by their starts

pub starts_found : (vs us : List Version) → AllByRecursion (λ w. version_at w.start vs ≡ Some w) us → filter_map (λ s. version_at s vs) (starts_of us) ≡ us
starts_found vs [] h = refl
starts_found vs (u ∷ us) h = rw h.0 (ap (λ l. u ∷ l) (starts_found vs us h.1))

-- the versions that stand, of a key or all, are found by their starts
pub live_of_key_found : (places : List ℕ) (key : Option Key) (vs : List Version) → Rising vs
    → filter_map (λ s. version_at s vs) (starts_of (live_by_key_at places key vs)) ≡ live_by_key_at places key vs
unfolding live_by_key_at
live_of_key_found places key vs r =
    starts_found vs _ (all_sorted (λ w. version_at w.start vs ≡ Some w) (λ v w. key_cmp (version_key_at places v) (version_key_at places w)) (live (part_read_at places key vs))
    (all_filter (λ w. version_at w.start vs ≡ Some w) (λ w. is_none w.end) (part_read_at places key vs) (part key)))
  where
    part : (o : Option Key) → AllByRecursion (λ w. version_at w.start vs ≡ Some w) (part_read_at places o vs)
    part None = find_own vs r
    part (Some k) = all_filter (λ w. version_at w.start vs ≡ Some w) (λ v. same_key (version_key_at places v) k) vs (find_own vs r)

-- ---- a key's part of a list in which what is below it comes first, and then what is up to it

-- what passes stands in front of what doesn't
abbrev pub Front : {A : Type 0} → (A → Bool) → List A → Type 0
Front p [] = Unit {0}
Front p (x ∷ xs) = (p x ≡ false → AllByRecursion (λ y. p y ≡ false) xs) × Front p xs

module _ {A : Type 0} (below up : A → Bool) (both : (x : A) → below x ≡ true → up x ≡ true) where
  abbrev has : A → Bool
  has x = not (below x) && up x

  none_pass : (xs : List A) → AllByRecursion (λ y. up y ≡ false) xs → filter has xs ≡ []
  none_pass [] h = refl
  none_pass (x ∷ xs) h = by (below x) (up x) h.0 (none_pass xs h.1)
    where
      by : (a b : Bool) → b ≡ false → filter has xs ≡ [] → (if not a && b then x ∷ filter has xs else filter has xs) ≡ []
      by true b e rest = rest
      by false true e rest = absurd cc
      by false false e rest = rest

  first_pass : (xs : List A) → AllByRecursion (λ y. below y ≡ false) xs → Front up xs → take (prefix_len up xs) xs ≡ filter has xs
  first_pass [] h f = refl
  first_pass (x ∷ xs) h f = by (up x) refl (first_pass xs h.1 f.1)
    where
      by : (b : Bool) → up x ≡ b → take (prefix_len up xs) xs ≡ filter has xs → take (cond b (1 + prefix_len up xs) 0) (x ∷ xs) ≡ (if not (below x) && up x then x ∷ filter has xs else filter has xs)
      by true e rest = rw (h.0, e) (subst (λ (n : ℕ). take n (x ∷ xs) ≡ x ∷ filter has xs) {x = suc (prefix_len up xs)} (omega arith) (ap (λ l. x ∷ l) rest))
      by false e rest = rw (h.0, e) (sym (none_pass xs (f.0 e)))

  pub between : (xs : List A) → Front below xs → Front up xs → drop (prefix_len below xs) (take (prefix_len up xs) xs) ≡ filter has xs
  between [] g f = refl
  between (x ∷ xs) g f = by (below x) refl (between xs g.1 f.1)
    where
      by : (b : Bool) → below x ≡ b → drop (prefix_len below xs) (take (prefix_len up xs) xs) ≡ filter has xs
          → drop (cond b (1 + prefix_len below xs) 0) (take (prefix_len up (x ∷ xs)) (x ∷ xs)) ≡ (if not (below x) && up x then x ∷ filter has xs else filter has xs)
      by true e rest = rw (e, both x e)
          (subst (λ (n : ℕ). drop n (take (1 + prefix_len up xs) (x ∷ xs)) ≡ filter has xs) {x = suc (prefix_len below xs)} (omega arith)
          (subst (λ (n : ℕ). drop (suc (prefix_len below xs)) (take n (x ∷ xs)) ≡ filter has xs) {x = suc (prefix_len up xs)} (omega arith) rest))
      by false e rest = first_pass (x ∷ xs) (e, g.0 e) f
