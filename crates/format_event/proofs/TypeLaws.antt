-- Types are read as they are written.
use Rattle.std.proofs.Common.{◌≡◌, ◌<◌, ◌^◌, ◌≤◌, ℕ, Bool, true, false, leb, List, ◌++◌, Some, refl, subst, arith}
use Rattle.std.specs.Prelude.{◌&&◌, ◌==◌}
use Rattle.std.proofs.lemmas.Bool.{eqb-true, eq-eqb, leb-true}
use Rattle.base_fields.specs.Fields.{u8_field, u16_field}
use Rattle.base_fields.specs.Readers.{both, u8_at, u16_at}
use Rattle.base_fields.specs.Exact.{IsBytes, Exact}
use Rattle.base_fields.proofs.Written.{u8_exact, u16_exact}
use Rattle.base_fields.proofs.Parts.{both_exact, decoded_exact, test_some}
use Rattle.sql_value.specs.declared.sql_type.SqlType.{SqlType}
use Rattle.sql_value.specs.declared.sql_type.SqlType.TheVariants as types
use Rattle.sql_value.specs.Stored.{is_in_range}
use Rattle.format_event.specs.Leaf.{type_code, first_parameter, second_parameter, type_bytes}
use Rattle.format_event.specs.LeafReading.{coded, is_coded, type_of, type_at}

-- the parameters fit their fields
pub record FitsFields (ty : SqlType) : Type 0 where
  pub first : first_parameter ty < 2 ^ 16
  pub second : second_parameter ty < 256

pub and_parts : (a b : Bool) → (a && b) ≡ true → (a ≡ true) × (b ≡ true)
and_parts true b e = (refl, e)
and_parts false b e = absurd cc

code_small : (ty : SqlType) → type_code ty < 256
code_small types.Bit = omega arith
code_small types.Int = omega arith
code_small types.BigInt = omega arith
code_small (types.Decimal p s) = omega arith
code_small (types.NVarChar n) = omega arith
code_small (types.VarBinary n) = omega arith
code_small types.Date = omega arith

coded_there : (ty : SqlType) → type_of ((type_code ty, first_parameter ty), second_parameter ty) ≡ Some ty
coded_there types.Bit = refl
coded_there types.Int = refl
coded_there types.BigInt = refl
coded_there (types.Decimal p s) = rw (eq-eqb p p refl, eq-eqb s s refl) refl
coded_there (types.NVarChar n) = rw (eq-eqb n n refl) refl
coded_there (types.VarBinary n) = rw (eq-eqb n n refl) refl
coded_there types.Date = refl

record IsCoded (ty : SqlType) (c f s : ℕ) : Type 0 where
  pub code : type_code ty ≡ c
  pub first : first_parameter ty ≡ f
  pub second : second_parameter ty ≡ s

parts_of : (ty : SqlType) (code first second : ℕ) → is_coded ty code first second ≡ true → IsCoded ty code first second
parts_of ty code first second e =
    let p = and_parts (type_code ty == code) (first_parameter ty == first && second_parameter ty == second) e in
    let q = and_parts (first_parameter ty == first) (second_parameter ty == second) p.1 in
    record { code = eqb-true _ _ p.0; first = eqb-true _ _ q.0; second = eqb-true _ _ q.1 }

abbrev FitParts : (ℕ × ℕ) × ℕ → Type 0
FitParts x = ((x.0.0 < 256) × (x.0.1 < 2 ^ 16)) × (x.1 < 256)

abbrev encode_parts : (ℕ × ℕ) × ℕ → List ℕ
encode_parts x = (u8_field x.0.0 ++ u16_field x.0.1) ++ u8_field x.1

abbrev parts : SqlType → (ℕ × ℕ) × ℕ
parts ty = ((type_code ty, first_parameter ty), second_parameter ty)

type_back : (x : (ℕ × ℕ) × ℕ) (ty : SqlType) → IsBytes (encode_parts x) → FitParts x → type_of x ≡ Some ty → FitsFields ty × (encode_parts x ≡ type_bytes ty)
type_back x ty bytes fits e =
    let made = coded x.0.0 x.0.1 x.1 in
    let g = test_some (is_coded made x.0.0 x.0.1 x.1) made ty e in
    let P : SqlType → Type 0 = λ t. is_coded t x.0.0 x.0.1 x.1 ≡ true in
    let is = parts_of ty x.0.0 x.0.1 x.1 (subst P g.1 g.0) in
    (record { first = rw is.first fits.0.1; second = rw is.second fits.1 }, rw (is.code, is.first, is.second) refl)

pub type_exact : Exact FitsFields type_bytes type_at
unfolding type_at
type_exact = decoded_exact FitParts FitsFields encode_parts type_bytes type_of parts (both (both u8_at u16_at) u8_at)
    (record {
      there = λ ty fits. coded_there ty;
      encoded = λ ty fits. refl;
      fit_back = λ ty fits. ((code_small ty, fits.first), fits.second);
      back = type_back;
    })
    (both_exact (λ (x : ℕ × ℕ). (x.0 < 256) × (x.1 < 2 ^ 16)) (λ (n : ℕ). n < 256) (λ (x : ℕ × ℕ). u8_field x.0 ++ u16_field x.1) u8_field (both u8_at u16_at) u8_at
    (both_exact (λ (n : ℕ). n < 256) (λ (n : ℕ). n < 2 ^ 16) u8_field u16_field u8_at u16_at u8_exact u16_exact) u8_exact)

-- a type in its ranges fits
pub in_range_fits : (ty : SqlType) → is_in_range ty ≡ true → FitsFields ty
unfolding is_in_range
in_range_fits types.Bit e = record { first = omega arith; second = omega arith }
in_range_fits types.Int e = record { first = omega arith; second = omega arith }
in_range_fits types.BigInt e = record { first = omega arith; second = omega arith }
in_range_fits (types.Decimal p s) e =
    let a = and_parts (leb 1 p && leb p 38) (leb s p) e in
    let b = and_parts (leb 1 p) (leb p 38) a.0 in
    let high : p ≤ 38 = leb-true _ _ b.1 in
    let low : s ≤ p = leb-true _ _ a.1 in
    record { first = omega arith; second = omega arith }
in_range_fits (types.NVarChar n) e =
    let b = and_parts (leb 1 n) (leb n 4000) e in
    let high : n ≤ 4000 = leb-true _ _ b.1 in
    record { first = omega arith; second = omega arith }
in_range_fits (types.VarBinary n) e =
    let b = and_parts (leb 1 n) (leb n 8000) e in
    let high : n ≤ 8000 = leb-true _ _ b.1 in
    record { first = omega arith; second = omega arith }
in_range_fits types.Date e = record { first = omega arith; second = omega arith }
