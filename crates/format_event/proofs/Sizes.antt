-- A value that a type stores has at most 16,000 bytes.
use Rattle.std.proofs.Common.{◌≡◌, ◌<◌, ◌^◌, ◌+◌, ◌-◌, ◌*◌, ◌/◌, ◌%◌, ◌≤◌, ℕ, ℤ, Bool, true, false, cond, leb, ltb, List, [], ◌∷◌, length, ap, arith, length-append}
use Rattle.std.specs.Prelude.{sum_by}
use Rattle.std.specs.Str.{is_utf8, chars, encode_utf8_all}
use Rattle.std.specs.Char.Escape.{encode_utf16}
use Rattle.std.proofs.Math.Utf8.{encode}
use Rattle.std.proofs.lemmas.Bool.{leb-true}
use Rattle.std.proofs.lemmas.List.Sums.{sum_by-cons}
use Rattle.std.proofs.lemmas.Str.{encodes-chars, length-encode, IsUtf8-from_is_utf8}
use Rattle.base_fields.specs.Fields.{u32_field, signed_field, i128_field}
use Rattle.sql_value.specs.declared.sql_type.SqlType.{SqlType}
use Rattle.sql_value.specs.declared.sql_type.SqlType.TheVariants as types
use Rattle.sql_value.specs.declared.value.Value.{Value}
use Rattle.sql_value.specs.declared.value.Value.TheVariants as values
use Rattle.sql_value.specs.Text.{utf16_units}
use Rattle.sql_value.specs.Stored.{is_in_range, is_stored, text_stored, bytes_stored}
use Rattle.format_event.specs.Leaf.{value_bytes, number_bytes, is_text}
use Rattle.format_event.proofs.TypeLaws.{and_parts}

either_small : (b : Bool) (x y : ℕ) → x ≤ 4 → y ≤ 4 → cond b x y ≤ 4
either_small true x y lx ly = lx
either_small false x y lx ly = ly

character_small : (c : ℕ) → length (encode c) ≤ 4
character_small c = rw (length-encode c) (either_small _ 1 _ (omega arith) (either_small _ 2 _ (omega arith) (either_small _ 3 4 (omega arith) (omega arith))))

characters_small : (cs : List ℕ) → length (encode_utf8_all cs) ≤ 4 * length cs
characters_small [] = omega arith
characters_small (c ∷ cs) = omega (arith, length-append (encode c) (encode_utf8_all cs), character_small c, characters_small cs)

some_units : (b : Bool) (x y z : ℕ) → 1 ≤ length (cond b (x ∷ []) (y ∷ z ∷ []))
some_units true x y z = omega arith
some_units false x y z = omega arith

units_of : (cs : List ℕ) → length cs ≤ sum_by (λ c. length (encode_utf16 c)) cs
units_of [] = omega arith
units_of (c ∷ cs) = omega (arith, sum_by-cons (λ x. length (encode_utf16 x)) c cs, some_units (ltb c 65536) c (55296 + (c - 65536) / 1024) (56320 + (c - 65536) % 1024), units_of cs)

-- a text has at most 4 bytes for each unit
text_small : (x : List ℕ) → is_utf8 x ≡ true → length x ≤ 4 * utf16_units x
unfolding utf16_units
text_small x utf8 =
    let is = encodes-chars x (IsUtf8-from_is_utf8 x utf8) in
    let few = characters_small (chars x) in
    omega (arith, ap length is, few, units_of (chars x))

number_small : (ty : SqlType) (v : ℤ) → length (number_bytes ty v) ≤ 16
unfolding signed_field i128_field
number_small types.Bit v = omega arith
number_small types.Int v = omega arith
number_small types.BigInt v = omega arith
number_small (types.Decimal p s) v = omega arith
number_small (types.NVarChar n) v = omega arith
number_small (types.VarBinary n) v = omega arith
number_small types.Date v = omega arith

text_of_type : (ty : SqlType) (x : List ℕ) → is_in_range ty ≡ true → text_stored ty x ≡ true → is_utf8 x ≡ true → length x ≤ 16000
unfolding is_in_range
text_of_type types.Bit x r e u = absurd cc
text_of_type types.Int x r e u = absurd cc
text_of_type types.BigInt x r e u = absurd cc
text_of_type (types.Decimal p s) x r e u = absurd cc
text_of_type (types.NVarChar n) x r e u =
    let b = and_parts (leb 1 n) (leb n 4000) r in
    omega (arith, leb-true _ _ b.1, leb-true _ _ e, text_small x u)
text_of_type (types.VarBinary n) x r e u = absurd cc
text_of_type types.Date x r e u = absurd cc

bytes_of_type : (ty : SqlType) (x : List ℕ) → is_in_range ty ≡ true → bytes_stored ty x ≡ true → length x ≤ 16000
unfolding is_in_range
bytes_of_type types.Bit x r e = absurd cc
bytes_of_type types.Int x r e = absurd cc
bytes_of_type types.BigInt x r e = absurd cc
bytes_of_type (types.Decimal p s) x r e = absurd cc
bytes_of_type (types.NVarChar n) x r e = absurd cc
bytes_of_type (types.VarBinary n) x r e =
    let b = and_parts (leb 1 n) (leb n 8000) r in
    omega (arith, leb-true _ _ b.1, leb-true _ _ e)
bytes_of_type types.Date x r e = absurd cc

pub value_short : (ty : SqlType) (v : Value) → is_stored v ty ≡ true → is_text v ≡ true → length (value_bytes ty v) ≤ 16000
unfolding is_stored u32_field
value_short ty values.Null e u = omega arith
value_short ty (values.Num s v) e u = omega (arith, number_small ty v)
value_short ty (values.Text x) e u =
    let p = and_parts (is_in_range ty) (text_stored ty x) e in
    omega (arith, text_of_type ty x p.0 p.1 u)
value_short ty (values.Bytes x) e u =
    let p = and_parts (is_in_range ty) (bytes_stored ty x) e in
    omega (arith, bytes_of_type ty x p.0 p.1)
value_short ty (values.Date d) e u = omega arith

pub value_small : (ty : SqlType) (v : Value) → is_stored v ty ≡ true → is_text v ≡ true → length (value_bytes ty v) < 2 ^ 32
value_small ty v e u = omega (arith, value_short ty v e u)
