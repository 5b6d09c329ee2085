-- In a legal journal columns have the rows that statements give them, and changes rise.
use Rattle.std.proofs.Common.{◌≡◌, pos, true, List}
use Rattle.sql_types.specs.declared.journal.JournalItem.{JournalItem}
use Rattle.sql_types.specs.declared.table.TableDef.{TableDef}
use Rattle.spec_model.specs.Journals.{serial, IsLegal}
use Rattle.spec_model.specs.Script.{Reading}
use Rattle.law_journal.specs.Serial.{place_in}
use Rattle.law_catalog_rows.specs.Encoded.{IsAmong}
use Rattle.law_catalog_rows.specs.Written.{ReadsWritten}
use Rattle.spec_rules.specs.Columns.{columns_are_right}
use Rattle.spec_rules.specs.OrderOfChanges.{changes_are_in_order}
use Rattle.spec_rules.specs.Rows.{columns_about, tables_about}
use Rattle.law_rules.specs.Steps.{Catalog, catalog_of}
use Rattle.law_rules.proofs.Changes.{ChangesTold, changes_keep_order, changes_told_kept}
use Rattle.law_rules.proofs.ColumnsTold.{ColumnsTold, columns_keep_right, columns_told_kept, ordinals_keep_rising}
use Rattle.law_rules.proofs.Frame.{legal_catalog}
use Rattle.law_rules.proofs.TableByTable.{OfEach, each_kept}

module _ (reads : Reading) (items : List JournalItem) (written : ReadsWritten reads) (legal : IsLegal reads items) where
  abbrev x : Catalog
  x = catalog_of (place_in items) (serial reads items)

  all_columns : OfEach ColumnsTold columns_told_kept x
  all_columns = legal_catalog (OfEach ColumnsTold columns_told_kept) (each_kept ColumnsTold columns_told_kept) tt reads written items legal

  all_changes : OfEach ChangesTold changes_told_kept x
  all_changes = legal_catalog (OfEach ChangesTold changes_told_kept) (each_kept ChangesTold changes_told_kept) tt reads written items legal

  pub columns_legal : (def : TableDef) → IsAmong def x.defs → columns_are_right (columns_about x.rows (pos def.id)) ≡ true
  columns_legal def among = columns_keep_right x all_columns def among

  pub changes_legal : (def : TableDef) → IsAmong def x.defs → changes_are_in_order (tables_about x.rows (pos def.id)) (columns_about x.rows (pos def.id)) ≡ true
  changes_legal def among = changes_keep_order x all_changes def among (ordinals_keep_rising x all_columns def among)
