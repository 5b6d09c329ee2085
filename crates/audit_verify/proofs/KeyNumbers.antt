-- Versions whose keys are numbers stand by those as by their keys.
use Rattle.std.proofs.Common.{◌≡◌, refl, sym, ap, ap₂, subst, ◌∙◌, ℤ, pos, Bool, true, false, List, [], ◌∷◌, Option, Some, None}
use Rattle.std.proofs.lemmas.Bool.{true≢false}
use Rattle.std.specs.Prelude.{◌&&◌, is_some, unwrap_or, IfSome}
use Rattle.std.specs.Cmp.{IsTotalOrder, on_total, then_total, int_cmp_total}
use Rattle.std.specs.List.{AllByRecursion, list_all}
use Rattle.std.specs.declared.cmp.Ordering.{Ordering}
use Rattle.std.specs.declared.cmp.Ordering.TheVariants.{Less, Equal, Greater}
use Rattle.std.specs.Ordering.{int_cmp, ordering_then}
use Rattle.sql_value.proofs.Numbers.{cmp_raised}
use Rattle.sql_value.specs.Order.{value_cmp}
use Rattle.sql_value.specs.declared.column.ColumnDef.{ColumnDef}
use Rattle.sql_value.specs.declared.value.Value.TheVariants.{Num}
use Rattle.spec_model.specs.Keys.{key_cmp, version_key}
use Rattle.spec_model.specs.Lists.{sorted}
use Rattle.audit_columns.proofs.Sortings.{sorted_agree}
use Rattle.audit_verify.specs.declared.order.VersionWithRanks.{VersionWithRanks}
use Rattle.audit_verify.specs.Order.{IsNumbered, has_number, key_order, number_of, numbered_cmp, ranked_cmp, start_cmp}
use Rattle.audit_verify.proofs.InRuns.{starts_total}

pub numbered_total : IsTotalOrder numbered_cmp
numbered_total = then_total (on_total number_of int_cmp_total) starts_total

then_equal : (o : Ordering) → ordering_then o Equal ≡ o
then_equal Less = refl
then_equal Equal = refl
then_equal Greater = refl

number_keys : (m n : ℤ) → key_cmp (Num 0 m ∷ []) (Num 0 n ∷ []) ≡ int_cmp m n
unfolding key_cmp value_cmp
number_keys m n = then_equal _ ∙ then_equal _ ∙ cmp_raised m n 255

module _ (columns : List ColumnDef) where
  -- it has a number, which is its key
  record HasNumber (r : VersionWithRanks) : Type 0 where
    is : IsNumbered columns r
    some : has_number r ≡ true

  key_is : (r : VersionWithRanks) (n : ℤ) → r.key_number ≡ Some n → IsNumbered columns r → version_key columns r.version.now ≡ Num 0 n ∷ []
  key_is r n e p = subst (λ (o : Option ℤ). IfSome o (λ (k : ℤ). version_key columns r.version.now ≡ Num 0 k ∷ [])) e p

  by_its_numbers : (x y : VersionWithRanks) (m n : Option ℤ) → x.key_number ≡ m → y.key_number ≡ n → HasNumber x → HasNumber y
      → key_order columns x y ≡ int_cmp (number_of x) (number_of y)
  by_its_numbers x y None n e f p q = absurd (true≢false (sym p.some ∙ ap is_some e))
  by_its_numbers x y (Some m) None e f p q = absurd (true≢false (sym q.some ∙ ap is_some f))
  by_its_numbers x y (Some m) (Some n) e f p q =
      ap₂ key_cmp (key_is x m e p.is) (key_is y n f q.is) ∙ number_keys m n
      ∙ sym (ap₂ (λ (o p : Option ℤ). int_cmp (unwrap_or o (pos 0)) (unwrap_or p (pos 0))) e f)

  in_numbers : (x y : VersionWithRanks) → HasNumber x → HasNumber y → key_order columns x y ≡ int_cmp (number_of x) (number_of y)
  in_numbers x y = by_its_numbers x y x.key_number y.key_number refl refl

  -- two keys that are numbers stand by them
  pub keys_by_numbers : (x y : VersionWithRanks) (order : Ordering) → IsNumbered columns x → IsNumbered columns y → has_number x ≡ true → has_number y ≡ true
      → order ≡ int_cmp (number_of x) (number_of y) → order ≡ key_order columns x y
  keys_by_numbers x y order p q some_x some_y by = by ∙ sym (in_numbers x y (record { is = p; some = some_x }) (record { is = q; some = some_y }))

  agree : (x y : VersionWithRanks) → HasNumber x → HasNumber y → numbered_cmp x y ≡ ranked_cmp columns x y
  agree x y p q = ap (λ (o : Ordering). ordering_then o (start_cmp x y)) (sym (in_numbers x y p q))

  all_have : (rs : List VersionWithRanks) → AllByRecursion (IsNumbered columns) rs → list_all has_number rs ≡ true → AllByRecursion HasNumber rs
  all_have [] all some = tt
  all_have (r ∷ rs) all some = let both = split (has_number r) (list_all has_number rs) some in (record { is = all.0; some = both.0 }, all_have rs all.1 both.1)
    where
      split : (a b : Bool) → (a && b) ≡ true → (a ≡ true) × (b ≡ true)
      split true b e = (refl, e)
      split false b e = absurd (true≢false (sym e))

  -- sorted by their numbers they are sorted by their keys
  sorted_by_numbers : (rs : List VersionWithRanks) → AllByRecursion (IsNumbered columns) rs → list_all has_number rs ≡ true → sorted numbered_cmp rs ≡ sorted (ranked_cmp columns) rs
  sorted_by_numbers rs all some = sorted_agree numbered_cmp (ranked_cmp columns) HasNumber agree rs (all_have rs all some)

  pub by_numbers : (old new : List VersionWithRanks) → AllByRecursion (IsNumbered columns) old → list_all has_number old ≡ true → new ≡ sorted numbered_cmp old → new ≡ sorted (ranked_cmp columns) old
  by_numbers old new all some order = order ∙ sorted_by_numbers old all some
