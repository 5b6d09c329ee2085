-- The rules of a definition, in three groups.
use Rattle.std.specs.Prelude.{ℕ, ◌==◌, ◌&&◌, not, nat_le, Bool, List, map, length}
use Rattle.std.specs.List.{list_any, list_all}
use Rattle.sql_value.specs.declared.column.ColumnDef.{ColumnDef}
use Rattle.sql_types.specs.declared.table.TableDef.{TableDef}
use Rattle.sql_types.specs.declared.table.IndexDef.{IndexDef}
use Rattle.spec_model.specs.Create.{names_of, table_names}
use Rattle.spec_model.specs.Lists.{repeats}
use Rattle.law_catalog_rows.specs.IsEncodableDef.{is_between, is_proper_name, has_its_history, dropped_are_right, is_encodable_column, are_key_positions, is_encodable_index}

abbrev pub names_are_right : TableDef → Bool
names_are_right def =
    is_between 3 34 def.id
    && is_proper_name def.name && has_its_history def.kind def.history && is_proper_name def.view
    && not (repeats (table_names def)) && dropped_are_right def

abbrev pub columns_are_right : List ColumnDef → List ℕ → Bool
columns_are_right columns positions =
    is_between 1 64 (length columns) && list_all is_encodable_column columns
    && not (repeats (names_of columns))
    && are_key_positions positions
    && not (list_any (λ (c : ColumnDef). c.nullable && not (c.key_position == 0)) columns)

abbrev pub indexes_are_right : ℕ → List IndexDef → Bool
indexes_are_right columns indexes =
    nat_le (length indexes) 4 && list_all (is_encodable_index columns) indexes
    && not (repeats (map (λ (i : IndexDef). i.name) indexes))
