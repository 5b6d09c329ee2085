-- The rows of tables are spelled alike whatever the definitions, where there are rows for each of these.
use Rattle.std.proofs.Common.{◌≡◌, ◌<◌, ℕ, zero, suc, List, [], ◌∷◌, ◌++◌, length, get_or, refl, ap, ◌∙◌, arith}
use Rattle.std.specs.Prelude.{All, flat_map}
use Rattle.std.specs.List.{AllByRecursion}
use Rattle.sql_types.specs.declared.image.Image.{Image}
use Rattle.sql_types.specs.declared.image.TableRows.{TableRows}
use Rattle.sql_types.specs.declared.table.IndexDef.{IndexDef}
use Rattle.sql_types.specs.declared.table.TableDef.{TableDef}
use Rattle.spec_model.specs.Catalog.{Defs}
use Rattle.format_image.specs.Rows.{Stored}
use Rattle.format_image.specs.RowBytes.{AreValues, base_rows_bytes, history_rows_bytes, index_rows_bytes, indexes_bytes, table_bytes, AreIndexes, IsTable, rows_bytes, AreRows}
use Rattle.format_image.specs.ImageBytes.{tables_bytes, AreTables, IsImage}
use Rattle.format_image.specs.Tables.{defs_in}

any_indexes : (indexes : List IndexDef) (rows : List (List Stored)) → AreIndexes indexes rows → indexes_bytes indexes rows ≡ flat_map index_rows_bytes rows
any_indexes [] [] are = refl
any_indexes [] (r ∷ rs) are = absurd are
any_indexes (i ∷ is) [] are = absurd are
any_indexes (i ∷ is) (r ∷ rs) are = ap (λ (bytes : List ℕ). index_rows_bytes r ++ bytes) (any_indexes is rs are.1)

each_index : (indexes : List IndexDef) (rows : List (List Stored)) → AreIndexes indexes rows → AllByRecursion (λ index. AllByRecursion AreValues index) rows
each_index [] [] are = tt
each_index [] (r ∷ rs) are = absurd are
each_index (i ∷ is) [] are = absurd are
each_index (i ∷ is) (r ∷ rs) are = (are.0.1, each_index is rs are.1)

any_table : (def : TableDef) (rows : TableRows) → IsTable def rows → table_bytes def rows ≡ rows_bytes rows
any_table def rows is = ap (λ (bytes : List ℕ). base_rows_bytes rows.base ++ (history_rows_bytes rows.history ++ bytes)) (any_indexes def.indexes rows.indexes is.indexes)

any_tables : (defs : Defs) (tables : List TableRows) → AreTables defs tables → tables_bytes defs tables ≡ flat_map rows_bytes tables
any_tables [] [] are = refl
any_tables [] (r ∷ rs) are = absurd are
any_tables (d ∷ ds) [] are = absurd are
any_tables (d ∷ ds) (r ∷ rs) are =
    ap (λ (bytes : List ℕ). bytes ++ tables_bytes ds rs) (any_table d r are.0) ∙ ap (λ (bytes : List ℕ). rows_bytes r ++ bytes) (any_tables ds rs are.1)

each_table : (defs : Defs) (tables : List TableRows) → AreTables defs tables → AllByRecursion AreRows tables
each_table [] [] are = tt
each_table [] (r ∷ rs) are = absurd are
each_table (d ∷ ds) [] are = absurd are
each_table (d ∷ ds) (r ∷ rs) are =
    let t = are.0 in
    (record { base = t.base.0.1; history = t.history.0.1; indexes = each_index d.indexes r.indexes t.indexes }, each_table ds rs are.1)

at_each : {A : Type 0} (P : A → Type 0) (xs : List A) → AllByRecursion P xs → (k : ℕ) (d : A) → k < length xs → P (get_or xs k d)
at_each P [] h k d lt = absurd (omega arith)
at_each P (x ∷ xs) h zero d lt = h.0
at_each P (x ∷ xs) h (suc k) d lt = at_each P xs h.1 k d (omega arith)

pub image_rows : (i : Image) → IsImage i → All AreRows i.tables
image_rows i is = at_each AreRows i.tables (each_table (defs_in i) i.tables is.tables)

pub image_tables : (i : Image) → IsImage i → tables_bytes (defs_in i) i.tables ≡ flat_map rows_bytes i.tables
image_tables i is = any_tables (defs_in i) i.tables is.tables
