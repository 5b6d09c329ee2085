-- The indexes of the tables of an image.
use Rattle.std.proofs.Common.{◌≡◌, ◌<◌, arith, refl, sym, ap, ap₂, ◌∙◌, List, [], ◌∷◌, length, map}
use Rattle.std.specs.List.{AllByRecursion}
use Rattle.sql_types.specs.declared.image.Image.{Image}
use Rattle.sql_types.specs.declared.table.TableDef.{TableDef}
use Rattle.spec_model.specs.Catalog.{Defs}
use Rattle.spec_model.specs.Lists.{or_else}
use Rattle.format_image.specs.DefBytes.{IsDef}
use Rattle.format_image.specs.ImageBytes.{IsImage}
use Rattle.spec_verify.specs.Indexes.{first_table, table_fault, index_fault}
use Rattle.audit_roots.specs.declared.shown.ImageTable.{ImageTable}
use Rattle.audit_roots.specs.ImageTable.{def_of, rows_of, AreImageTables}
use Rattle.audit_verify.specs.Indexes.{first_among, HasFewIndexes}

pub in_order : (ts : List ImageTable) → first_table (map def_of ts) (map rows_of ts) ≡ first_among ts
in_order [] = refl
in_order (t ∷ ts) = ap (or_else (table_fault (def_of t) (rows_of t))) (in_order ts)

pub first_is : (ts : List ImageTable) (i : Image) → AreImageTables ts i → first_among ts ≡ index_fault i
unfolding index_fault
first_is ts i s = sym (in_order ts) ∙ ap₂ first_table s.defs s.rows

-- ---- what the spelling of an image says of their number

few_each : (ts : List ImageTable) → AllByRecursion (λ d. length d.indexes < 256) (map def_of ts) → AllByRecursion HasFewIndexes ts
few_each [] a = tt
few_each (t ∷ ts) a = (a.0, few_each ts a.1)

few_defs : (ds : Defs) → AllByRecursion IsDef ds → AllByRecursion (λ (d : TableDef). length d.indexes < 256) ds
few_defs [] a = tt
few_defs (d ∷ ds) a = (a.0.index_count, few_defs ds a.1)

pub have_few_indexes : (ts : List ImageTable) (i : Image) → AreImageTables ts i → IsImage i → AllByRecursion HasFewIndexes ts
have_few_indexes ts i s is =
    few_each ts (rw s.defs (omega arith, (omega arith, few_defs i.defs is.defs)))
