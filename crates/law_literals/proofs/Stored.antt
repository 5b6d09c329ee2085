-- What a type stores is what a literal writes, or a day.
use Rattle.std.proofs.Common.{◌≡◌, ◌∙◌, ◌<◌, ◌≤◌, ℕ, ◌^◌, true, List, ap, refl, rules, arith, lit<, Some, Ok, ◌⊎◌, inl, inr, ⊎_elim}
use Rattle.std.specs.Prelude.{ℤ, pos, negsuc, ◌==◌, ◌&&◌, unsigned_abs, nat_le}
use Rattle.std.proofs.Math.Nat.{pow-le-pow_right}
use Rattle.std.proofs.lemmas.Bool.{and_parts, eqb-true, ltb-true, leb-true}
use Rattle.sql_value.specs.declared.sql_type.SqlType.{SqlType}
use Rattle.sql_value.specs.declared.sql_type.SqlType.TheVariants as t
use Rattle.sql_value.specs.declared.value.Value.{Value}
use Rattle.sql_value.specs.declared.value.Value.TheVariants.{Null, Num, Text, Bytes, Date}
use Rattle.sql_value.specs.Conversion.{conversion_of, day_or_mismatch}
use Rattle.sql_value.specs.Day.{date_of, date_text, day_of, last_day}
use Rattle.sql_value.specs.Literal.{literal_of}
use Rattle.sql_value.specs.Literals.{IsLiteral}
use Rattle.sql_value.specs.Number.{has_digits}
use Rattle.sql_value.specs.Printed.{literal_text, printed}
use Rattle.sql_value.specs.Stored.{in_bits, is_bit, is_in_range, is_stored, is_value_of, number_stored, day_stored}
use Rattle.law_literals.specs.Written.{HasBytes, IsWrittenFor}

-- ---- numbers

small : (v : ℤ) (n : ℕ) → unsigned_abs v ≤ 2 ^ n → n ≤ 63 → unsigned_abs v < 10 ^ 38
small v n at_most few =
    let power = pow-le-pow_right {n = 2} (lit< tt) {i = n} {j = 63} few in
    let wide : 2 ^ 63 < 10 ^ 38 = lit< tt in
    omega (arith, at_most, power, wide)

bits_small : (bits : ℕ) (v : ℤ) → in_bits bits v ≡ true → unsigned_abs v ≤ 2 ^ bits
bits_small bits (pos n) is = let l = ltb-true n (2 ^ bits) is in omega (arith, l)
bits_small bits (negsuc n) is = let l = ltb-true n (2 ^ bits) is in omega (arith, l)

bit_small : (v : ℤ) → is_bit v ≡ true → unsigned_abs v ≤ 2 ^ 1
bit_small (pos n) is = let l = ltb-true n 2 is in omega (arith, l)
bit_small (negsuc n) is = absurd (search rules)

whole : (v : ℤ) (s n : ℕ) → (s == 0) ≡ true → unsigned_abs v ≤ 2 ^ n → n ≤ 63 → IsLiteral (Num s v)
whole v s n none at_most few = let e = eqb-true s 0 none in (small v n at_most few, omega (arith, e))

decimal_literal : (p z : ℕ) (v : ℤ) (s : ℕ) → is_in_range (t.Decimal p z) ≡ true → number_stored (t.Decimal p z) v s ≡ true → IsLiteral (Num s v)
unfolding is_in_range
decimal_literal p z v s range is =
    let parts = and_parts (nat_le 1 p && nat_le p 38) (nat_le z p) range in
    let digits = leb-true p 38 (and_parts (nat_le 1 p) (nat_le p 38) parts.0).1 in
    let places = leb-true z p parts.1 in
    let stored = and_parts (s == z) (has_digits v p) is in
    let scale = eqb-true s z stored.0 in
    let size = ltb-true (unsigned_abs v) (10 ^ p) stored.1 in
    let power = pow-le-pow_right {n = 10} (lit< tt) {i = p} {j = 38} digits in
    (omega (arith, size, power), omega (arith, scale, places, digits))

number_literal : (ty : SqlType) (v : ℤ) (s : ℕ) → is_in_range ty ≡ true → number_stored ty v s ≡ true → IsLiteral (Num s v)
number_literal t.Bit v s range is = let p = and_parts (s == 0) (is_bit v) is in whole v s 1 p.0 (bit_small v p.1) (omega arith)
number_literal t.Int v s range is = let p = and_parts (s == 0) (in_bits 31 v) is in whole v s 31 p.0 (bits_small 31 v p.1) (omega arith)
number_literal t.BigInt v s range is = let p = and_parts (s == 0) (in_bits 63 v) is in whole v s 63 p.0 (bits_small 63 v p.1) (omega arith)
number_literal (t.Decimal p z) v s range is = decimal_literal p z v s range is
number_literal (t.NVarChar n) v s range is = absurd (search rules)
number_literal (t.VarBinary n) v s range is = absurd (search rules)
number_literal t.Date v s range is = absurd (search rules)

-- ---- days

-- a day is written as it is shown
day_written : (d : ℕ) → literal_text (Date d) ≡ printed (Date d)
unfolding literal_text printed
day_written d = refl

day_of_type : (ty : SqlType) (d : ℕ) → day_stored ty d ≡ true → (ty ≡ t.Date) × (d ≤ last_day)
day_of_type t.Date d is = (refl, leb-true d last_day is)
day_of_type t.Bit d is = absurd (search rules)
day_of_type t.Int d is = absurd (search rules)
day_of_type t.BigInt d is = absurd (search rules)
day_of_type (t.Decimal p z) d is = absurd (search rules)
day_of_type (t.NVarChar n) d is = absurd (search rules)
day_of_type (t.VarBinary n) d is = absurd (search rules)

-- a text that is read as a day becomes the day
text_to_day : (text : List ℕ) (d : ℕ) → day_of text ≡ Some d → conversion_of (Text text) t.Date ≡ Ok (Date d)
unfolding conversion_of is_in_range
text_to_day text d is = ap (λ o. day_or_mismatch o) is

-- ---- all

stored_parts : (v : Value) (ty : SqlType) → is_stored v ty ≡ true → (v ≡ Null) ⊎ ((is_in_range ty ≡ true) × (is_value_of ty v ≡ true))
unfolding is_stored
stored_parts Null ty is = inl refl
stored_parts (Num s v) ty is = inr (and_parts (is_in_range ty) (is_value_of ty (Num s v)) is)
stored_parts (Text x) ty is = inr (and_parts (is_in_range ty) (is_value_of ty (Text x)) is)
stored_parts (Bytes x) ty is = inr (and_parts (is_in_range ty) (is_value_of ty (Bytes x)) is)
stored_parts (Date d) ty is = inr (and_parts (is_in_range ty) (is_value_of ty (Date d)) is)

module _
    (written : (v : Value) → IsLiteral v → literal_of (literal_text v) ≡ Some v)
    (kept : (v : Value) (ty : SqlType) → is_stored v ty ≡ true → conversion_of v ty ≡ Ok v)
    (shown : (d : ℕ) → d ≤ last_day → literal_of (printed (Date d)) ≡ Some (Text (date_text (date_of d))))
    (days : (d : ℕ) → d ≤ last_day → day_of (date_text (date_of d)) ≡ Some d)
  where
    itself : (ty : SqlType) (v : Value) → IsLiteral v → is_stored v ty ≡ true → IsWrittenFor ty v
    itself ty v literal is = record { read = v; literal = written v literal; makes = kept v ty is }

    day_for : (ty : SqlType) (d : ℕ) → (ty ≡ t.Date) × (d ≤ last_day) → IsWrittenFor ty (Date d)
    day_for ty d is = record {
      read = Text (date_text (date_of d));
      literal = ap (λ text. literal_of text) (day_written d) ∙ shown d is.1;
      makes = ap (λ y. conversion_of (Text (date_text (date_of d))) y) is.0 ∙ text_to_day (date_text (date_of d)) d (days d is.1);
    }

    pub written_for : (v : Value) (ty : SqlType) → HasBytes v → is_stored v ty ≡ true → IsWrittenFor ty v
    written_for Null ty bytes is = itself ty Null tt is
    written_for (Num s v) ty bytes is = ⊎_elim
        (λ null. absurd (search rules))
        (λ (p : (is_in_range ty ≡ true) × (is_value_of ty (Num s v) ≡ true)). itself ty (Num s v) (number_literal ty v s p.0 p.1) is)
        (stored_parts (Num s v) ty is)
    written_for (Text x) ty bytes is = itself ty (Text x) tt is
    written_for (Bytes x) ty bytes is = itself ty (Bytes x) bytes is
    written_for (Date d) ty bytes is = ⊎_elim
        (λ null. absurd (search rules))
        (λ (p : (is_in_range ty ≡ true) × (is_value_of ty (Date d) ≡ true)). day_for ty d (day_of_type ty d p.1))
        (stored_parts (Date d) ty is)
