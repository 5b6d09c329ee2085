-- The bad versions of the tables of an image.
use Rattle.std.proofs.Common.{◌≡◌, sym, ap, ◌∙◌, List, flat_map}
use Rattle.sql_types.specs.declared.image.Image.{Image}
use Rattle.format_image.specs.Tables.{tables_in}
use Rattle.audit_roots.specs.declared.shown.ImageTable.{ImageTable}
use Rattle.audit_roots.specs.ImageTable.{table_of, AreImageTables}
use Rattle.audit_roots.proofs.Tables.{are_tables}
use Rattle.audit_definitions.proofs.Walks.{over_map}
use Rattle.audit_verify.specs.Groups.{faulty}

pub bad_of_tables : (ts : List ImageTable) (i : Image) → AreImageTables ts i → flat_map (faulty i) (tables_in i) ≡ flat_map (λ t. faulty i (table_of t)) ts
bad_of_tables ts i s = ap (flat_map (faulty i)) (sym (are_tables ts i s)) ∙ over_map (faulty i) table_of ts
