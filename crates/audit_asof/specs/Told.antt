-- Definitions that are told one column, one index and one part after another, the first of which has this number.
use Rattle.std.specs.Prelude.{ℕ, ◌==◌, not, List, map, length}
use Rattle.std.specs.List.{filter, filter_map}
use Rattle.sql_value.specs.declared.column.ColumnDef.{ColumnDef}
use Rattle.sql_types.specs.declared.table.IndexDef.{IndexDef}
use Rattle.spec_model.specs.Lists.{numbered}
use Rattle.spec_model.specs.Rows.{Row}
use Rattle.spec_model.specs.SystemTables.{index_row}
use Rattle.spec_asof.specs.DefTold.{column_told, has_row, index_told}

abbrev pub columns_from : List Row → ℕ → List ColumnDef → List ColumnDef
columns_from rows n columns = filter_map (column_told rows) (numbered n columns)

abbrev pub parts_from : List Row → ℕ → ℕ → List ℕ → ℕ → List ℕ → List ℕ
parts_from rows id g name n ordinals =
    map (λ p. p.1) (filter (λ p. has_row rows (index_row id g name p)) (numbered n ordinals))

abbrev pub indexes_from : List Row → ℕ → ℕ → List IndexDef → List IndexDef
indexes_from rows id g indexes =
    filter (λ i. not (length i.ordinals == 0)) (map (index_told rows id) (numbered g indexes))
