-- What a column makes of a value is stored.
use Rattle.std.proofs.Common.{◌≡◌, ◌≤◌, ℕ, zero, suc, Bool, true, false, List, length, refl, subst, arith, rules, Option, Some, None, Ok, Err}
use Rattle.std.specs.Prelude.{ℤ, pos, negsuc, ◌==◌, nat_le, if◌then◌else◌}
use Rattle.std.proofs.lemmas.Bool.{le-leb}
use Rattle.std.proofs.lemmas.Bool.Decides.{nat_tests}
use Rattle.sql_value.specs.declared.value.Value.{Value}
use Rattle.sql_value.specs.declared.value.Value.TheVariants.{Null, Num, Text, Bytes, Date}
use Rattle.sql_value.specs.declared.refusal.ValueErr.{ValueErr}
use Rattle.sql_value.specs.declared.refusal.ValueErr.TheVariants.{Mismatch, OutOfRange, TooLong}
use Rattle.sql_value.specs.declared.sql_type.SqlType.{SqlType}
use Rattle.sql_value.specs.declared.sql_type.SqlType.TheVariants as t
use Rattle.sql_value.specs.Number.{rescaled, has_digits}
use Rattle.sql_value.specs.Stored.{is_in_range, is_stored, is_value_of, in_bits, is_bit}
use Rattle.sql_value.specs.Conversion.{Converted, conversion_of, number_to, whole_to, text_to, bytes_to, day_to, only_if, bit_of, day_or_mismatch}
use Rattle.sql_value.specs.Text.{utf16_units}
use Rattle.sql_value.specs.Day.{day_of, last_day}
use Rattle.sql_value.proofs.Dates.{day_bound}

only : (b : Bool) (e : ValueErr) (x w : Value) → only_if b e x ≡ Ok w → (b ≡ true) × (x ≡ w)
only true e x w is = (refl, search rules)
only false e x w is = absurd (search rules)

guarded : (b : Bool) (x : Converted) (w : Value) → (if b then x else Err Mismatch) ≡ Ok w → (b ≡ true) × (x ≡ Ok w)
guarded true x w is = (refl, is)
guarded false x w is = absurd (search rules)

abbrev taken : Value → Converted
taken x = Ok x

same_value : (x w : Value) → taken x ≡ Ok w → x ≡ w
same_value x w is = search rules

some_size : (n : ℕ) → (suc n == 0) ≡ false
some_size n = grind (arith, nat_tests)

bit_small : (v : ℤ) → is_bit (bit_of v) ≡ true
bit_small (pos zero) = refl
bit_small (pos (suc n)) = rw (some_size n) refl
bit_small (negsuc n) = rw (some_size n) refl

-- what a conversion gives is of the type
abbrev AreOf : SqlType → Value → Type 0
AreOf ty w = is_value_of ty w ≡ true

whole_fits : (ty : SqlType) (v : ℤ) (w : Value) → whole_to ty v ≡ Ok w → AreOf ty w
whole_fits t.Bit v w is = subst (AreOf t.Bit) (same_value _ w is) (bit_small v)
whole_fits t.Int v w is = let p = only (in_bits 31 v) OutOfRange (Num 0 v) w is in subst (AreOf t.Int) p.1 p.0
whole_fits t.BigInt v w is = let p = only (in_bits 63 v) OutOfRange (Num 0 v) w is in subst (AreOf t.BigInt) p.1 p.0
whole_fits _ v w is = absurd (search rules)

self_equal : (n : ℕ) → (n == n) ≡ true
self_equal n = grind (arith, nat_tests)

number_fits : (ty : SqlType) (v : ℤ) (s : ℕ) (w : Value) → number_to ty v s ≡ Ok w → AreOf ty w
number_fits (t.Decimal p z) v s w is =
    let parts = only (has_digits (rescaled v s z) p) OutOfRange (Num z (rescaled v s z)) w is in
    subst (AreOf (t.Decimal p z)) parts.1 (rw (self_equal z) parts.0)
number_fits ty v s w is = whole_fits ty v w (guarded (s == 0) _ w is).1

day_fits : (o : Option ℕ) (w : Value) → ((n : ℕ) → o ≡ Some n → n ≤ last_day) → day_or_mismatch o ≡ Ok w → AreOf t.Date w
day_fits (Some n) w small is = subst (AreOf t.Date) (same_value (Date n) w is) (le-leb n last_day (small n refl))
day_fits None w small is = absurd (search rules)

text_fits : (ty : SqlType) (x : List ℕ) (w : Value) → text_to ty x ≡ Ok w → AreOf ty w
text_fits (t.NVarChar n) x w is = let p = only (nat_le (utf16_units x) n) TooLong (Text x) w is in subst (AreOf (t.NVarChar n)) p.1 p.0
text_fits t.Date x w is = day_fits (day_of x) w (day_bound x) is
text_fits _ x w is = absurd (search rules)

bytes_fit : (ty : SqlType) (x : List ℕ) (w : Value) → bytes_to ty x ≡ Ok w → AreOf ty w
bytes_fit (t.VarBinary n) x w is = let p = only (nat_le (length x) n) TooLong (Bytes x) w is in subst (AreOf (t.VarBinary n)) p.1 p.0
bytes_fit _ x w is = absurd (search rules)

days_fit : (ty : SqlType) (d : ℕ) (w : Value) → day_to ty d ≡ Ok w → AreOf ty w
days_fit t.Date d w is = let p = only (nat_le d last_day) Mismatch (Date d) w is in subst (AreOf t.Date) p.1 p.0
days_fit _ d w is = absurd (search rules)

stored_if : (w : Value) (ty : SqlType) → is_in_range ty ≡ true → AreOf ty w → is_stored w ty ≡ true
unfolding is_stored
stored_if Null ty h is = refl
stored_if (Num s v) ty h is = rw (h, is) refl
stored_if (Text x) ty h is = rw (h, is) refl
stored_if (Bytes x) ty h is = rw (h, is) refl
stored_if (Date d) ty h is = rw (h, is) refl

made_if : (ty : SqlType) (x : Converted) (w : Value) → (x ≡ Ok w → AreOf ty w) → (if is_in_range ty then x else Err Mismatch) ≡ Ok w → is_stored w ty ≡ true
made_if ty x w fits is = let p = guarded (is_in_range ty) x w is in stored_if w ty p.0 (fits p.1)

-- what a column makes of a value it stores
pub made_stored : (v w : Value) (ty : SqlType) → conversion_of v ty ≡ Ok w → is_stored w ty ≡ true
unfolding conversion_of is_stored
made_stored Null w ty is = subst (λ x. is_stored x ty ≡ true) (same_value Null w is) refl
made_stored (Num s v) w ty is = made_if ty _ w (number_fits ty v s w) is
made_stored (Text x) w ty is = made_if ty _ w (text_fits ty x w) is
made_stored (Bytes x) w ty is = made_if ty _ w (bytes_fit ty x w) is
made_stored (Date d) w ty is = made_if ty _ w (days_fit ty d w) is
