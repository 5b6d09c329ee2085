-- The rules of a definition hold where each group of them does.
use Rattle.std.proofs.Common.{◌≡◌, refl, sym, ap, ap₂, ◌∙◌, ℕ, List, Bool, true, false, length, map}
use Rattle.std.specs.Prelude.{◌&&◌, ◌==◌, not, nat_le}
use Rattle.std.specs.List.{list_all, list_any}
use Rattle.sql_types.specs.declared.table.TableDef.{TableDef}
use Rattle.sql_types.specs.declared.table.IndexDef.{IndexDef}
use Rattle.sql_value.specs.declared.column.ColumnDef.{ColumnDef}
use Rattle.spec_model.specs.Create.{names_of}
use Rattle.spec_model.specs.Lists.{repeats}
use Rattle.law_catalog_rows.specs.IsEncodableDef.{is_encodable_def, positions_of, is_between, is_encodable_column, are_key_positions, is_encodable_index}
use Rattle.audit_definitions.specs.Rules.{names_are_right, columns_are_right, indexes_are_right}

five : (n a b c d e : Bool) → (n && a && b && c && d && e) ≡ (n && (a && b && c && d && e))
five true a b c d e = refl
five false a b c d e = refl

three : (n a b c : Bool) → (n && a && b && c) ≡ (n && (a && b && c))
three true a b c = refl
three false a b c = refl

pub in_three_groups : (def : TableDef)
    → (names_are_right def && columns_are_right def.columns (positions_of def.columns) && indexes_are_right (length def.columns) def.indexes) ≡ is_encodable_def def
in_three_groups def =
    let a = is_between 1 64 (length def.columns) in
    let b = list_all is_encodable_column def.columns in
    let c = not (repeats (names_of def.columns)) in
    let d = are_key_positions (positions_of def.columns) in
    let e = not (list_any (λ (x : ColumnDef). x.nullable && not (x.key_position == 0)) def.columns) in
    let f = nat_le (length def.indexes) 4 in
    let g = list_all (is_encodable_index (length def.columns)) def.indexes in
    let h = not (repeats (map (λ (i : IndexDef). i.name) def.indexes)) in
    sym (three (names_are_right def && a && b && c && d && e) f g h ∙ ap (λ t. t && (f && g && h)) (five (names_are_right def) a b c d e))

pub groups : (def : TableDef) (columns : List ColumnDef) (positions : List ℕ) (indexes : List IndexDef) (a b c : Bool)
    → a ≡ names_are_right def → b ≡ columns_are_right columns positions → c ≡ indexes_are_right (length columns) indexes
    → columns ≡ def.columns → positions ≡ positions_of columns → indexes ≡ def.indexes → (a && b && c) ≡ is_encodable_def def
groups def columns positions indexes a b c a_is b_is c_is columns_is positions_is indexes_is =
    ap₂ (λ x y. x && y) (ap₂ (λ x y. x && y) a_is (b_is ∙ ap (columns_are_right columns) positions_is ∙ ap (λ cs. columns_are_right cs (positions_of cs)) columns_is))
    (c_is ∙ ap₂ (λ (cs : List ColumnDef) is. indexes_are_right (length cs) is) columns_is indexes_is)
    ∙ in_three_groups def

pub either_way : (a b : Bool) → (a && b) ≡ (b && a)
either_way true true = refl
either_way true false = refl
either_way false true = refl
either_way false false = refl
