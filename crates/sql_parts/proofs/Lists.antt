-- Values at their places.
use Rattle.std.proofs.Common.{◌≡◌, ℕ, List, Option, None, map, slice_get, unwrap_or}
use Rattle.std.proofs.lemmas.Option.{unwrap_or-slice_get}
use Rattle.std.proofs.Math.ListN.{get_or-map}
use Rattle.std.proofs.Common.{ap, sym, ◌∙◌}
use Rattle.sql_value.specs.declared.value.Value.TheVariants.{Null}
use Rattle.sql_types.specs.declared.version.TypedValue.{TypedValue}
use Rattle.spec_model.specs.Rows.{Row, value_or_null}
use Rattle.spec_model.specs.Keys.{value_at}

pub read_at : (row : Row) (place : ℕ) → value_at row place ≡ unwrap_or (slice_get row place) Null
read_at row place = sym (unwrap_or-slice_get row place Null)

pub stored_at : (stored : List (Option TypedValue)) (place : ℕ) → value_at (map value_or_null stored) place ≡ value_or_null (unwrap_or (slice_get stored place) None)
stored_at stored place = get_or-map value_or_null stored place None ∙ ap value_or_null (sym (unwrap_or-slice_get stored place None))
