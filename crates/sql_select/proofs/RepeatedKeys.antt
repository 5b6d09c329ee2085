-- A key of a column that has come before tells nothing.
use Rattle.std.proofs.Common.{◌≡◌, ◌∙◌, ◌++◌, ℕ, refl, sym, ap, append_assoc, eqb-true, Bool, true, false, List, [], ◌∷◌, Some, None, Option}
use Rattle.std.specs.Prelude.{◌||◌, if◌then◌else◌}
use Rattle.std.specs.List.{list_any}
use Rattle.std.specs.declared.cmp.Ordering.{Ordering}
use Rattle.std.specs.declared.cmp.Ordering.TheVariants.{Less, Equal, Greater}
use Rattle.std.specs.Ordering.{ordering_then, ordering_reverse}
use Rattle.sql_value.specs.declared.value.Value.{Value}
use Rattle.sql_value.specs.Order.{value_cmp, value_total}
use Rattle.spec_model.specs.Rows.{Row}
use Rattle.spec_model.specs.Query.{value_in}
use Rattle.sql_select.specs.SortKeys.{key_cmp, keys_cmp, same_place}
use Rattle.sql_select.specs.declared.ordering.SortKey.{SortKey}

pub one_place : (p q : Option ℕ) → same_place p q ≡ true → p ≡ q
one_place (Some m) (Some n) h = ap Some (eqb-true m n h)
one_place None None h = refl
one_place (Some m) None h = cc
one_place None (Some n) h = cc

turned : (x y : Value) → value_cmp x y ≡ Equal → value_cmp y x ≡ Equal
turned x y h = value_total.antisymm y x ∙ ap ordering_reverse h

-- values that are equal in one direction are in both
both_ways : (d e : Bool) (x y : Value) → (if d then value_cmp y x else value_cmp x y) ≡ Equal → (if e then value_cmp y x else value_cmp x y) ≡ Equal
both_ways true true x y h = h
both_ways false false x y h = h
both_ways true false x y h = turned y x h
both_ways false true x y h = turned x y h

equal_too : (j k : SortKey) (a b : Row) → same_place j.place k.place ≡ true → key_cmp j a b ≡ Equal → key_cmp k a b ≡ Equal
equal_too j k a b same h =
    ap (λ p. if k.descending then value_cmp (value_in p b) (value_in p a) else value_cmp (value_in p a) (value_in p b)) (sym (one_place j.place k.place same))
    ∙ both_ways j.descending k.descending (value_in j.place a) (value_in j.place b) h

-- what is equal by a key may be compared without it
without : (kept : List SortKey) (k : SortKey) (rest : List SortKey) (a b : Row) → key_cmp k a b ≡ Equal
    → keys_cmp (kept ++ k ∷ rest) a b ≡ keys_cmp (kept ++ rest) a b
without [] k rest a b h = ap (λ o. ordering_then o (keys_cmp rest a b)) h
without (j ∷ js) k rest a b h = ap (ordering_then (key_cmp j a b)) (without js k rest a b h)

module _ (k : SortKey) (rest : List SortKey) (a b : Row) where
  decided : (o : Ordering) (js : List SortKey) → (o ≡ Equal → keys_cmp (js ++ k ∷ rest) a b ≡ keys_cmp (js ++ rest) a b)
      → ordering_then o (keys_cmp (js ++ k ∷ rest) a b) ≡ ordering_then o (keys_cmp (js ++ rest) a b)
  decided Less js h = refl
  decided Equal js h = h refl
  decided Greater js h = refl

  by_first : (j : SortKey) (js : List SortKey) (t : Bool) → same_place j.place k.place ≡ t
      → (list_any (λ i. same_place i.place k.place) js ≡ true → keys_cmp (js ++ k ∷ rest) a b ≡ keys_cmp (js ++ rest) a b)
      → (t || list_any (λ i. same_place i.place k.place) js) ≡ true
      → keys_cmp ((j ∷ js) ++ k ∷ rest) a b ≡ keys_cmp ((j ∷ js) ++ rest) a b
  by_first j js true same later h = decided (key_cmp j a b) js (λ e. without js k rest a b (equal_too j k a b same e))
  by_first j js false same later h = ap (ordering_then (key_cmp j a b)) (later h)

repeated : (kept : List SortKey) (k : SortKey) (rest : List SortKey) (a b : Row) → list_any (λ j. same_place j.place k.place) kept ≡ true
    → keys_cmp (kept ++ k ∷ rest) a b ≡ keys_cmp (kept ++ rest) a b
repeated [] k rest a b h = cc
repeated (j ∷ js) k rest a b h = by_first k rest a b j js (same_place j.place k.place) refl (repeated js k rest a b) h

-- a key of a column that one of those kept is of may be left out
pub left_out : (kept : List SortKey) (k : SortKey) (rest : List SortKey) (a b : Row) → true ≡ list_any (λ j. same_place j.place k.place) kept
    → keys_cmp (kept ++ rest) a b ≡ keys_cmp (kept ++ k ∷ rest) a b
left_out kept k rest a b h = sym (repeated kept k rest a b (sym h))

-- a key put behind those that are kept
pub put_behind : (kept more : List SortKey) (k : SortKey) (rest : List SortKey) (a b : Row) → more ≡ kept ++ k ∷ []
    → keys_cmp (more ++ rest) a b ≡ keys_cmp (kept ++ k ∷ rest) a b
put_behind kept more k rest a b is = ap (λ keys. keys_cmp keys a b) (ap (λ keys. keys ++ rest) is ∙ append_assoc kept (k ∷ []) rest)
