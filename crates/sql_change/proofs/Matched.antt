-- The versions that a condition takes, by those that stand.
use Rattle.std.proofs.Common.{◌≡◌, List, Option}
use Rattle.sql_value.specs.declared.column.ColumnDef.{ColumnDef}
use Rattle.sql_value.specs.declared.expr.Expr.{Expr}
use Rattle.sql_types.specs.declared.table.Part.TheVariants.{Base}
use Rattle.sql_types.specs.declared.table.TableDef.{TableDef}
use Rattle.sql_types.specs.declared.version.Version.{Version}
use Rattle.spec_model.specs.Changes.{versions_matched}
use Rattle.spec_model.specs.Keys.{live_by_key}
use Rattle.spec_model.specs.Lists.{checked_filter}
use Rattle.spec_model.specs.Parts.{base_row, columns_of}
use Rattle.spec_model.specs.Where.{holds, key_fixed}

pub matched_is : (def : TableDef) (cond : Option Expr) (versions : List Version) (declared columns : List ColumnDef) (found : List Version)
    → declared ≡ def.columns → columns ≡ columns_of def Base → found ≡ live_by_key def.columns (key_fixed def.columns cond) versions
    → checked_filter (λ v. holds columns cond (base_row declared v)) found ≡ versions_matched def.columns cond versions
unfolding versions_matched
matched_is def cond versions declared columns found of is same = λ i. checked_filter (λ v. holds (is i) cond (base_row (of i) v)) (same i)
