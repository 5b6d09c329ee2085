-- A value with its type is read exactly as it is written.
use Rattle.std.proofs.Common.{◌≡◌, ◌<◌, ◌^◌, ℕ, cond, List, ◌++◌, length, Some, None, refl, sym, ap, subst}
use Rattle.base_fields.specs.Fields.{u32_field, long_field}
use Rattle.base_fields.specs.Readers.{long_at, both}
use Rattle.base_fields.specs.Exact.{IsBytes, Exact}
use Rattle.base_fields.proofs.Written.{IsBytes-back, bind_some, long_exact}
use Rattle.base_fields.proofs.Parts.{both_exact, decoded_exact, test_some}
use Rattle.sql_value.specs.declared.sql_type.SqlType.{SqlType}
use Rattle.sql_value.specs.Stored.{is_stored}
use Rattle.sql_types.specs.declared.version.TypedValue.{TypedValue}
use Rattle.format_event.specs.Leaf.{type_bytes, value_bytes}
use Rattle.format_event.specs.LeafReading.{type_at, value_of}
use Rattle.format_event.specs.TypedBytes.{typed_bytes, IsTyped, typed_of, typed_at}
use Rattle.format_event.proofs.TypeLaws.{FitsFields, type_exact, in_range_fits}
use Rattle.format_event.proofs.Sizes.{value_small}
use Rattle.format_event.proofs.ValueLaws.{value_there, value_back, stored_in_range}

abbrev Parts : Type 0
Parts = SqlType × List ℕ

abbrev FitParts : Parts → Type 0
FitParts x = FitsFields x.0 × (length x.1 < 2 ^ 32)

abbrev encode_parts : Parts → List ℕ
encode_parts x = type_bytes x.0 ++ long_field x.1

abbrev parts_of : TypedValue → Parts
parts_of t = (t.ty, value_bytes t.ty t.value)

typed_there : (t : TypedValue) → IsTyped t → typed_of (parts_of t) ≡ Some t
typed_there t fits = rw (value_there t.ty t.value (record { told = fits.told; stored = fits.stored; text = fits.text }), fits.stored) refl

typed_fits : (t : TypedValue) → IsTyped t → FitParts (parts_of t)
typed_fits t fits = (in_range_fits t.ty (stored_in_range t.ty t.value fits.told fits.stored), value_small t.ty t.value fits.stored fits.text)

typed_back : (x : Parts) (t : TypedValue) → IsBytes (encode_parts x) → FitParts x → typed_of x ≡ Some t → IsTyped t × (encode_parts x ≡ typed_bytes t)
typed_back x t bytes fits e =
    let v = bind_some (value_of x.0 x.1) (λ v. cond (is_stored v x.0) (Some (record { ty = x.0; value = v })) None) t e in
    let g = test_some (is_stored v.0 x.0) (record { ty = x.0; value = v.0 }) t v.2 in
    let long = IsBytes-back (type_bytes x.0) (long_field x.1) bytes in
    let text = IsBytes-back (u32_field (length x.1)) x.1 long in
    let is = value_back x.0 x.1 v.0 text v.1 in
    let made : IsTyped (record { ty = x.0; value = v.0 }) = record { told = is.told; stored = g.0; text = is.text } in
    let same : encode_parts x ≡ typed_bytes (record { ty = x.0; value = v.0 }) = ap (λ bytes. type_bytes x.0 ++ long_field bytes) (sym is.encoded) in
    let P : TypedValue → Type 0 = λ y. IsTyped y × (encode_parts x ≡ typed_bytes y) in
    subst P g.1 (made, same)

pub typed_exact : Exact IsTyped typed_bytes typed_at
unfolding typed_at
typed_exact = decoded_exact FitParts IsTyped encode_parts typed_bytes typed_of parts_of (both type_at long_at)
    (record { there = typed_there; encoded = λ t fits. refl; fit_back = typed_fits; back = typed_back })
    (both_exact FitsFields (λ (x : List ℕ). length x < 2 ^ 32) type_bytes long_field type_at long_at type_exact long_exact)
