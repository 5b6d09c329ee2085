-- Values are read as they are written.
use Rattle.std.proofs.Common.{◌≡◌, ◌<◌, ◌^◌, ◌≤◌, ℕ, ℤ, pos, negsuc, true, eqb, leb, List, Some, refl, sym, ap, subst, ◌∙◌, arith, unsigned_abs}
use Rattle.std.specs.Prelude.{◌&&◌, FitsSigned}
use Rattle.std.specs.Int.{w8, w32, w64, w128}
use Rattle.std.specs.Str.{is_utf8}
use Rattle.std.proofs.lemmas.Bool.{eqb-true, leb-true, ltb-true}
use Rattle.std.proofs.lemmas.Int.{fits_signed_from_abs}
use Rattle.std.proofs.Math.Nat.{pow-le-pow_right}
use Rattle.base_fields.specs.Fields.{u32_field, signed_field, i128_field}
use Rattle.base_fields.specs.Readers.{Reader, ◌>>=◌, signed, whole, u32_at, i128_at}
use Rattle.base_fields.specs.Exact.{IsBytes, Exact}
use Rattle.base_fields.proofs.Written.{bind_some, some_is, signed8_exact, signed32_exact, signed64_exact, i128_exact, u32_exact}
use Rattle.base_fields.proofs.Parts.{test_some, whole_sound, whole_complete}
use Rattle.sql_value.specs.declared.sql_type.SqlType.{SqlType}
use Rattle.sql_value.specs.declared.sql_type.SqlType.TheVariants as types
use Rattle.sql_value.specs.declared.value.Value.{Value}
use Rattle.sql_value.specs.declared.value.Value.TheVariants as values
use Rattle.sql_value.specs.Number.{has_digits}
use Rattle.sql_value.specs.Stored.{is_in_range, is_stored, number_stored, text_stored, bytes_stored, day_stored, is_bit, in_bits}
use Rattle.format_event.specs.Leaf.{value_bytes, number_bytes, is_told, is_text, FitsNumber, FitsBytes}
use Rattle.format_event.specs.LeafReading.{number_of, value_of}
use Rattle.format_event.proofs.TypeLaws.{and_parts}

-- ---- the range of a type's numbers fits its bytes

bit_fits : (v : ℤ) → is_bit v ≡ true → FitsSigned w8 v
bit_fits (pos n) e = let lt : n < 2 = ltb-true _ _ e in record { sfits = omega arith }
bit_fits (negsuc n) e = absurd cc

int_fits : (v : ℤ) → in_bits 31 v ≡ true → FitsSigned w32 v
int_fits (pos n) e = record { sfits = ltb-true _ _ e }
int_fits (negsuc n) e = record { sfits = ltb-true _ _ e }

big_int_fits : (v : ℤ) → in_bits 63 v ≡ true → FitsSigned w64 v
big_int_fits (pos n) e = record { sfits = ltb-true _ _ e }
big_int_fits (negsuc n) e = record { sfits = ltb-true _ _ e }

digits_fit : (p : ℕ) (v : ℤ) → p ≤ 38 → has_digits v p ≡ true → FitsSigned w128 v
digits_fit p v le e =
    let lt : unsigned_abs v < 10 ^ p = ltb-true _ _ e in
    let top : 10 ^ p ≤ 10 ^ 38 = pow-le-pow_right {n = 10} (omega arith) {i = p} {j = 38} le in
    fits_signed_from_abs w128 v (omega arith)

number_fits : (ty : SqlType) (v : ℤ) (s : ℕ) → number_stored ty v s ≡ true → FitsNumber ty v
number_fits types.Bit v s e = bit_fits v (and_parts (eqb s 0) (is_bit v) e).1
number_fits types.Int v s e = int_fits v (and_parts (eqb s 0) (in_bits 31 v) e).1
number_fits types.BigInt v s e = big_int_fits v (and_parts (eqb s 0) (in_bits 63 v) e).1
number_fits (types.Decimal d z) v s e = tt
number_fits (types.NVarChar n) v s e = tt
number_fits (types.VarBinary n) v s e = tt
number_fits types.Date v s e = tt

-- the number of a stored value fits the bytes of its type
pub stored_fits : (ty : SqlType) (v : Value) → is_stored v ty ≡ true → FitsBytes ty v
unfolding is_stored
stored_fits ty values.Null e = tt
stored_fits ty (values.Num s v) e = number_fits ty v s (and_parts (is_in_range ty) (number_stored ty v s) e).1
stored_fits ty (values.Text x) e = tt
stored_fits ty (values.Bytes x) e = tt
stored_fits ty (values.Date d) e = tt

-- ---- what is written is read

-- the value is stored, a text is UTF-8, and it isn't NULL
pub record IsStored (ty : SqlType) (v : Value) : Type 0 where
  pub told : is_told v ≡ true
  pub stored : is_stored v ty ≡ true
  pub text : is_text v ≡ true

read_number : (at : Reader ℤ) (s : ℕ) (bytes : List ℕ) (v : ℤ) (z : ℕ) → whole at bytes ≡ Some v → s ≡ z → number_of at z bytes ≡ Some (values.Num s v)
read_number at s bytes v z e same = rw (e, same) refl

number_there : (ty : SqlType) (v : ℤ) (s : ℕ) → is_in_range ty ≡ true → number_stored ty v s ≡ true → value_of ty (number_bytes ty v) ≡ Some (values.Num s v)
unfolding value_of is_in_range
number_there types.Bit v s r e =
    let p = and_parts (eqb s 0) (is_bit v) e in
    read_number (signed w8) s (signed_field w8 v) v 0 (whole_complete (FitsSigned w8) (signed_field w8) (signed w8) signed8_exact v (bit_fits v p.1)) (eqb-true _ _ p.0)
number_there types.Int v s r e =
    let p = and_parts (eqb s 0) (in_bits 31 v) e in
    read_number (signed w32) s (signed_field w32 v) v 0 (whole_complete (FitsSigned w32) (signed_field w32) (signed w32) signed32_exact v (int_fits v p.1)) (eqb-true _ _ p.0)
number_there types.BigInt v s r e =
    let p = and_parts (eqb s 0) (in_bits 63 v) e in
    read_number (signed w64) s (signed_field w64 v) v 0 (whole_complete (FitsSigned w64) (signed_field w64) (signed w64) signed64_exact v (big_int_fits v p.1)) (eqb-true _ _ p.0)
number_there (types.Decimal d z) v s r e =
    let p = and_parts (eqb s z) (has_digits v d) e in
    let a = and_parts (leb 1 d && leb d 38) (leb z d) r in
    let b = and_parts (leb 1 d) (leb d 38) a.0 in
    read_number i128_at s (i128_field v) v z (whole_complete (FitsSigned w128) i128_field i128_at i128_exact v (digits_fit d v (leb-true _ _ b.1) p.1)) (eqb-true _ _ p.0)
number_there (types.NVarChar n) v s r e = absurd cc
number_there (types.VarBinary n) v s r e = absurd cc
number_there types.Date v s r e = absurd cc

text_there : (ty : SqlType) (x : List ℕ) → text_stored ty x ≡ true → is_utf8 x ≡ true → value_of ty x ≡ Some (values.Text x)
unfolding value_of
text_there types.Bit x e u = absurd cc
text_there types.Int x e u = absurd cc
text_there types.BigInt x e u = absurd cc
text_there (types.Decimal d z) x e u = absurd cc
text_there (types.NVarChar n) x e u = rw u refl
text_there (types.VarBinary n) x e u = absurd cc
text_there types.Date x e u = absurd cc

bytes_there : (ty : SqlType) (x : List ℕ) → bytes_stored ty x ≡ true → value_of ty x ≡ Some (values.Bytes x)
unfolding value_of
bytes_there types.Bit x e = absurd cc
bytes_there types.Int x e = absurd cc
bytes_there types.BigInt x e = absurd cc
bytes_there (types.Decimal d z) x e = absurd cc
bytes_there (types.NVarChar n) x e = absurd cc
bytes_there (types.VarBinary n) x e = refl
bytes_there types.Date x e = absurd cc

day_there : (ty : SqlType) (d : ℕ) → day_stored ty d ≡ true → value_of ty (u32_field d) ≡ Some (values.Date d)
unfolding value_of
day_there types.Bit d e = absurd cc
day_there types.Int d e = absurd cc
day_there types.BigInt d e = absurd cc
day_there (types.Decimal p z) d e = absurd cc
day_there (types.NVarChar n) d e = absurd cc
day_there (types.VarBinary n) d e = absurd cc
day_there types.Date d e =
    let le : d ≤ 3652058 = leb-true _ _ e in
    let small : d < 2 ^ 32 = omega arith in
    ap (λ o. o >>= λ (day : ℕ). Some (values.Date day)) (whole_complete (λ (n : ℕ). n < 2 ^ 32) u32_field u32_at u32_exact d small)

pub value_there : (ty : SqlType) (v : Value) → IsStored ty v → value_of ty (value_bytes ty v) ≡ Some v
unfolding is_stored
value_there ty values.Null is = absurd (let e = is.told in cc)
value_there ty (values.Num s v) is = let p = and_parts (is_in_range ty) (number_stored ty v s) is.stored in number_there ty v s p.0 p.1
value_there ty (values.Text x) is = let p = and_parts (is_in_range ty) (text_stored ty x) is.stored in text_there ty x p.1 is.text
value_there ty (values.Bytes x) is = let p = and_parts (is_in_range ty) (bytes_stored ty x) is.stored in bytes_there ty x p.1
value_there ty (values.Date d) is = let p = and_parts (is_in_range ty) (day_stored ty d) is.stored in day_there ty d p.1

-- a value that isn't NULL is stored by types in their ranges alone
pub stored_in_range : (ty : SqlType) (v : Value) → is_told v ≡ true → is_stored v ty ≡ true → is_in_range ty ≡ true
unfolding is_stored
stored_in_range ty values.Null told e = absurd cc
stored_in_range ty (values.Num s v) told e = (and_parts (is_in_range ty) (number_stored ty v s) e).0
stored_in_range ty (values.Text x) told e = (and_parts (is_in_range ty) (text_stored ty x) e).0
stored_in_range ty (values.Bytes x) told e = (and_parts (is_in_range ty) (bytes_stored ty x) e).0
stored_in_range ty (values.Date d) told e = (and_parts (is_in_range ty) (day_stored ty d) e).0

-- ---- what is read was written so

-- a value that was read: not NULL, a text in UTF-8, with these bytes
pub record IsSpelled (ty : SqlType) (bytes : List ℕ) (v : Value) : Type 0 where
  pub told : is_told v ≡ true
  pub text : is_text v ≡ true
  pub encoded : value_bytes ty v ≡ bytes

number_back : (ty : SqlType) (F : ℤ → Type 0) (s : ℤ → List ℕ) (at : Reader ℤ) → Exact F s at → ((v : ℤ) → number_bytes ty v ≡ s v)
    → (z : ℕ) (bytes : List ℕ) (v : Value) → IsBytes bytes → number_of at z bytes ≡ Some v → IsSpelled ty bytes v
number_back ty F s at exact written z bytes v fits e =
    let x = bind_some (whole at bytes) (λ n. Some (values.Num z n)) v e in
    let t = whole_sound F s at exact bytes x.0 fits x.1 in
    let made : IsSpelled ty bytes (values.Num z x.0) = record { told = refl; text = refl; encoded = written x.0 ∙ sym t.1 } in
    let P : Value → Type 0 = IsSpelled ty bytes in
    subst P (some_is (values.Num z x.0) v x.2) made

pub value_back : (ty : SqlType) (bytes : List ℕ) (v : Value) → IsBytes bytes → value_of ty bytes ≡ Some v → IsSpelled ty bytes v
unfolding value_of
value_back types.Bit bytes v fits e = number_back types.Bit (FitsSigned w8) (signed_field w8) (signed w8) signed8_exact (λ n. refl) 0 bytes v fits e
value_back types.Int bytes v fits e = number_back types.Int (FitsSigned w32) (signed_field w32) (signed w32) signed32_exact (λ n. refl) 0 bytes v fits e
value_back types.BigInt bytes v fits e = number_back types.BigInt (FitsSigned w64) (signed_field w64) (signed w64) signed64_exact (λ n. refl) 0 bytes v fits e
value_back (types.Decimal p s) bytes v fits e = number_back (types.Decimal p s) (FitsSigned w128) i128_field i128_at i128_exact (λ n. refl) s bytes v fits e
value_back (types.NVarChar n) bytes v fits e =
    let g = test_some (is_utf8 bytes) (values.Text bytes) v e in
    let made : IsSpelled (types.NVarChar n) bytes (values.Text bytes) = record { told = refl; text = g.0; encoded = refl } in
    let P : Value → Type 0 = IsSpelled (types.NVarChar n) bytes in
    subst P g.1 made
value_back (types.VarBinary n) bytes v fits e =
    let made : IsSpelled (types.VarBinary n) bytes (values.Bytes bytes) = record { told = refl; text = refl; encoded = refl } in
    let P : Value → Type 0 = IsSpelled (types.VarBinary n) bytes in
    subst P (some_is (values.Bytes bytes) v e) made
value_back types.Date bytes v fits e =
    let x = bind_some (whole u32_at bytes) (λ day. Some (values.Date day)) v e in
    let t = whole_sound (λ (n : ℕ). n < 2 ^ 32) u32_field u32_at u32_exact bytes x.0 fits x.1 in
    let made : IsSpelled types.Date bytes (values.Date x.0) = record { told = refl; text = refl; encoded = sym t.1 } in
    let P : Value → Type 0 = IsSpelled types.Date bytes in
    subst P (some_is (values.Date x.0) v x.2) made
