-- A table gets names that differ from each other, and that no table has then, itself included. The names that a
-- table has at a place are those of the last row about it before.
use Rattle.std.specs.Prelude.{ℕ, ℤ, ◌∷◌, [], ◌&&◌, not, Bool, List}
use Rattle.std.specs.List.{list_all, list_any}
use Rattle.spec_model.specs.Create.{all_names}
use Rattle.spec_model.specs.Lists.{has_name, repeats}
use Rattle.spec_model.specs.SystemTables.{tables_def, columns_def}
use Rattle.law_catalog_rows.specs.IsEncodableDef.{names_in}
use Rattle.spec_rules.specs.Places.{PlacedRow}
use Rattle.spec_rules.specs.Rows.{CatalogRows, tables_about, in_force}

-- the name of the table, of its history unless it is NULL, and of its view
abbrev pub names_of_table : PlacedRow → List (List ℕ)
names_of_table r = names_in r.row

-- one of the names of the first row is one of these
abbrev pub has_one_of : List (List ℕ) → PlacedRow → Bool
has_one_of names r = list_any (has_name names) (names_of_table r)

-- beside all rows of the table of tables
abbrev pub names_are_new : List PlacedRow → PlacedRow → Bool
names_are_new tables r =
    not (repeats (names_of_table r))
    && not (has_one_of (all_names (tables_def ∷ columns_def ∷ [])) r)
    && not (list_any (λ b. has_one_of (names_of_table b) r) (in_force 0 r.place tables))

unfoldable pub table_names_are_new : CatalogRows → ℤ → Bool
table_names_are_new rows t = list_all (names_are_new rows.tables) (tables_about rows t)
