-- The order of values as a total order, and kind by kind.
use Rattle.std.proofs.Common.{◌≡◌, ◌∙◌, ℕ, ◌+◌, ◌-◌, ◌<◌, ◌≤◌, ◌^◌, List, ap, sym, refl, arith, rules, IsTrue}
use Rattle.std.specs.Prelude.{ℤ, pos, ◌≢◌, ◌↔◌, ◌<ℤ◌}
use Rattle.std.specs.declared.cmp.Ordering.{Ordering}
use Rattle.std.specs.declared.cmp.Ordering.TheVariants.{Less, Equal, Greater}
use Rattle.std.specs.Ordering.{nat_cmp, int_cmp, ordering_then, ordering_reverse, is_le, MatchOrdering}
use Rattle.std.specs.Cmp.{IsTotalOrder, int_cmp_total, nat_cmp_total, int_cmp_is, ranked}
use Rattle.std.specs.Cmp.Lexicographic.{slice_cmp, nat_list_cmp_total}
use Rattle.std.proofs.lemmas.Int.{ints}
use Rattle.std.proofs.lemmas.Map.Lookups.{exact_signed, exact_unsigned, exact_bytes}
use Rattle.sql_value.specs.declared.value.Value.{Value}
use Rattle.sql_value.specs.declared.value.Value.TheVariants.{Null, Num, Text, Bytes, Date}
use Rattle.sql_value.specs.Number.{raised}
use Rattle.sql_value.specs.Order.{value_cmp, value_total, IsSameValue, HasScale}
use Rattle.sql_value.proofs.Numbers.{raised_twice, cmp_raised}

then_equal : (r : Ordering) → ordering_then r Equal ≡ r
then_equal Less = refl
then_equal Equal = refl
then_equal Greater = refl

-- each brought to the units of both
same_units : (v w : ℤ) (s z : ℕ) → s ≤ 255 → z ≤ 255 → int_cmp (raised v (255 - s)) (raised w (255 - z)) ≡ int_cmp (raised v z) (raised w s)
same_units v w s z most also =
    let left : 255 - s + (s + z) ≡ z + 255 = omega arith in
    let right : 255 - z + (s + z) ≡ s + 255 = omega arith in
    sym (cmp_raised (raised v (255 - s)) (raised w (255 - z)) (s + z))
    ∙ rw (raised_twice v (255 - s) (s + z), raised_twice w (255 - z) (s + z), left, right, ← raised_twice v z 255, ← raised_twice w s 255) (cmp_raised (raised v z) (raised w s) 255)

pub numbers : (v w : ℤ) (s z : ℕ) → s < 2 ^ 8 → z < 2 ^ 8 → value_cmp (Num s v) (Num z w) ≡ int_cmp (raised v z) (raised w s)
unfolding value_cmp
numbers v w s z small also = then_equal (int_cmp (raised v (255 - s)) (raised w (255 - z))) ∙ same_units v w s z (omega arith) (omega arith)

pub texts : (a b : List ℕ) → value_cmp (Text a) (Text b) ≡ slice_cmp nat_cmp a b
unfolding value_cmp
texts a b = refl

pub bytes : (a b : List ℕ) → value_cmp (Bytes a) (Bytes b) ≡ slice_cmp nat_cmp a b
unfolding value_cmp
bytes a b = refl

pub null : (b : Value) → b ≢ Null → value_cmp Null b ≡ Less
unfolding value_cmp
null Null apart = absurd (apart refl)
null (Num s v) apart = refl
null (Text t) apart = refl
null (Bytes t) apart = refl
null (Date d) apart = refl

ranks_up : (d e : ℕ) (r : Ordering) → MatchOrdering r (d < e) (d ≡ e) (e < d) → MatchOrdering r (pos d <ℤ pos e) (pos d ≡ pos e) (pos e <ℤ pos d)
ranks_up d e Less h = omega (arith, ints)
ranks_up d e Equal h = ap pos h
ranks_up d e Greater h = omega (arith, ints)

days_int : (d e : ℕ) → int_cmp (pos d) (pos e) ≡ nat_cmp d e
days_int d e = sym (int_cmp_is (pos d) (pos e) (nat_cmp d e) (ranks_up d e (nat_cmp d e) (ranked d e (nat_cmp d e) refl)))

pub days : (d e : ℕ) → value_cmp (Date d) (Date e) ≡ nat_cmp d e
unfolding value_cmp
days d e = then_equal (int_cmp (pos d) (pos e)) ∙ days_int d e

-- from a total order, that `less or equal` goes on
le_from : {K : Type 0} {R : K → K → Ordering} → IsTotalOrder R → (a b c : K) (p q : Ordering) → R a b ≡ p → R b c ≡ q → IsTrue (is_le p) → IsTrue (is_le q) → IsTrue (is_le (R a c))
le_from o a b c Less Less e f g h = rw (o.trans a b c e f) refl
le_from o a b c Less Equal e f g h =
    let same = o.congr b c a f in
    rw (o.antisymm a c, ← same, ← o.antisymm a b, e) refl
le_from o a b c Equal q e f g h = rw (o.congr a b c e, f) h
le_from o a b c Greater q e f g h = absurd (search rules)
le_from o a b c p Greater e f g h = absurd (search rules)

pub transitive : (a b c : Value) → IsTrue (is_le (value_cmp a b)) → IsTrue (is_le (value_cmp b c)) → IsTrue (is_le (value_cmp a c))
transitive a b c g h = le_from value_total a b c (value_cmp a b) (value_cmp b c) refl refl g h

turns : (r : Ordering) → r ≡ ordering_reverse r → r ≡ Equal
turns Less e = absurd (grind arith)
turns Equal e = refl
turns Greater e = absurd (grind arith)

-- a value is equal to itself
self_equal : {K : Type 0} {R : K → K → Ordering} → IsTotalOrder R → (x y : K) → x ≡ y → R x y ≡ Equal
self_equal o x y same = rw same (turns _ (o.antisymm y y))

of_kinds : (a b : Value) → HasScale a → HasScale b → (value_cmp a b ≡ Equal) ↔ IsSameValue a b
unfolding value_cmp
of_kinds Null Null g h = (λ e. tt, λ e. refl)
of_kinds Null (Num z w) g h = (λ e. absurd (search rules), λ e. absurd e)
of_kinds Null (Text b) g h = (λ e. absurd (search rules), λ e. absurd e)
of_kinds Null (Bytes b) g h = (λ e. absurd (search rules), λ e. absurd e)
of_kinds Null (Date d) g h = (λ e. absurd (search rules), λ e. absurd e)
of_kinds (Num s v) Null g h = (λ e. absurd (search rules), λ e. absurd e)
of_kinds (Num s v) (Num z w) g h = (
  λ e. exact_signed (raised v z) (raised w s) (sym (numbers v w s z g h) ∙ e),
  λ e. numbers v w s z g h ∙ self_equal int_cmp_total (raised v z) (raised w s) e,
)
of_kinds (Num s v) (Text b) g h = (λ e. absurd (search rules), λ e. absurd e)
of_kinds (Num s v) (Bytes b) g h = (λ e. absurd (search rules), λ e. absurd e)
of_kinds (Num s v) (Date d) g h = (λ e. absurd (search rules), λ e. absurd e)
of_kinds (Text a) Null g h = (λ e. absurd (search rules), λ e. absurd e)
of_kinds (Text a) (Num z w) g h = (λ e. absurd (search rules), λ e. absurd e)
of_kinds (Text a) (Text b) g h = (λ e. exact_bytes a b e, λ e. self_equal nat_list_cmp_total a b e)
of_kinds (Text a) (Bytes b) g h = (λ e. absurd (search rules), λ e. absurd e)
of_kinds (Text a) (Date d) g h = (λ e. absurd (search rules), λ e. absurd e)
of_kinds (Bytes a) Null g h = (λ e. absurd (search rules), λ e. absurd e)
of_kinds (Bytes a) (Num z w) g h = (λ e. absurd (search rules), λ e. absurd e)
of_kinds (Bytes a) (Text b) g h = (λ e. absurd (search rules), λ e. absurd e)
of_kinds (Bytes a) (Bytes b) g h = (λ e. exact_bytes a b e, λ e. self_equal nat_list_cmp_total a b e)
of_kinds (Bytes a) (Date d) g h = (λ e. absurd (search rules), λ e. absurd e)
of_kinds (Date d) Null g h = (λ e. absurd (search rules), λ e. absurd e)
of_kinds (Date d) (Num z w) g h = (λ e. absurd (search rules), λ e. absurd e)
of_kinds (Date d) (Text b) g h = (λ e. absurd (search rules), λ e. absurd e)
of_kinds (Date d) (Bytes b) g h = (λ e. absurd (search rules), λ e. absurd e)
of_kinds (Date d) (Date f) g h = (λ e. exact_unsigned d f (sym (days d f) ∙ e), λ e. days d f ∙ self_equal nat_cmp_total d f e)

pub equal : (a b : Value) → HasScale a → HasScale b → (value_cmp a b ≡ Equal) ↔ IsSameValue a b
equal = of_kinds
