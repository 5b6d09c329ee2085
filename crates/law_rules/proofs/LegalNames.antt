-- In a legal journal names and ids are new at their places.
use Rattle.std.proofs.Common.{◌≡◌, ◌<◌, ℤ, pos, true, List}
use Rattle.sql_types.specs.declared.journal.JournalItem.{JournalItem}
use Rattle.sql_types.specs.declared.table.TableDef.{TableDef}
use Rattle.spec_model.specs.Journals.{serial, IsLegal}
use Rattle.spec_model.specs.Script.{Reading}
use Rattle.law_journal.specs.Serial.{place_in}
use Rattle.law_catalog_rows.specs.Encoded.{IsAmong}
use Rattle.law_catalog_rows.specs.Written.{ReadsWritten}
use Rattle.spec_rules.specs.ColumnNames.{column_names_are_new}
use Rattle.spec_rules.specs.Ids.{ids_follow}
use Rattle.spec_rules.specs.Rows.{columns_about}
use Rattle.spec_rules.specs.TableNames.{table_names_are_new}
use Rattle.law_rules.specs.Steps.{Catalog, catalog_of}
use Rattle.law_rules.proofs.ColumnNames.{ColumnNamesSaid, column_names_kept, nothing_said, columns_keep_the_rule}
use Rattle.law_rules.proofs.Frame.{legal_catalog}
use Rattle.law_rules.proofs.NamesKept.{AreNew, new_kept, nothing_new, table_names_kept, ids_kept}

module _ (reads : Reading) (items : List JournalItem) (written : ReadsWritten reads) (legal : IsLegal reads items) where
  abbrev x : Catalog
  x = catalog_of (place_in items) (serial reads items)

  all_new : AreNew x
  all_new = legal_catalog AreNew new_kept nothing_new reads written items legal

  all_said : ColumnNamesSaid x
  all_said = legal_catalog ColumnNamesSaid column_names_kept nothing_said reads written items legal

  pub tables_new : (t : ℤ) → table_names_are_new x.rows t ≡ true
  tables_new t = table_names_kept x all_new t

  pub columns_new : (def : TableDef) → IsAmong def x.defs → column_names_are_new (columns_about x.rows (pos def.id)) ≡ true
  columns_new def among = columns_keep_the_rule x all_said def among

  pub ids_new : (def : TableDef) → IsAmong def x.defs → 2 < def.id → ids_follow x.rows (pos def.id) ≡ true
  ids_new def among lt = ids_kept x all_new def among lt
