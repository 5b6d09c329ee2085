-- The definitions of an image are those that its rows spell.
use Rattle.std.proofs.Common.{◌≡◌, ℕ, refl, sym, ap, ap₂, subst, ◌∙◌, false, List, [], ◌∷◌, map, take, None}
use Rattle.std.specs.Prelude.{codes}
use Rattle.std.specs.List.{AllByRecursion}
use Rattle.sql_value.specs.declared.column.ColumnDef.{ColumnDef}
use Rattle.sql_value.specs.declared.sql_type.SqlType.TheVariants.{Int}
use Rattle.sql_types.specs.declared.journal.JournalItem.{JournalItem}
use Rattle.sql_types.specs.declared.table.TableDef.{TableDef}
use Rattle.sql_types.specs.declared.version.Table.{Table}
use Rattle.sql_types.specs.declared.version.Version.{Version}
use Rattle.spec_model.specs.Catalog.{Tables, defs_of}
use Rattle.spec_model.specs.Journals.{serial, IsLegal}
use Rattle.spec_model.specs.Script.{Reading}
use Rattle.spec_model.specs.SystemTables.{a_column, name_type, tables_columns, tables_def, columns_columns, columns_def}
use Rattle.law_journal.specs.Fits.{FitsSoFar}
use Rattle.law_journal.specs.Serial.{TableOf}
use Rattle.law_journal.proofs.Serials.{legal_tables}
use Rattle.law_catalog_rows.specs.Differs.{encoding_fault, EncodingHolds}
use Rattle.law_catalog_rows.specs.Encoded.{live_rows}
use Rattle.law_catalog_rows.specs.Formed.{AreInFront}
use Rattle.law_catalog_rows.specs.Written.{ReadsWritten}
use Rattle.law_catalog_rows.proofs.Journals.{legal_passes}
use Rattle.format_image.specs.Image.{user_defs, image_of}
use Rattle.format_image.specs.Rows.{filled_version, table_rows}
use Rattle.spec_verify.specs.Definitions.{table_place, base_rows, definition_fault}
use Rattle.law_accepts.proofs.FilledTables.{all_stay}
use Rattle.law_accepts.proofs.Shown.{in_front}

-- the rows of the tables of the system are whole, since their last columns may not be NULL
pub first_whole : (items : List JournalItem) (t : Table) → t.def ≡ tables_def → TableOf items t → map (filled_version t.def.columns) t.versions ≡ t.versions
first_whole items t same is =
    subst (λ (cs : List ColumnDef). AllByRecursion (λ v. FitsSoFar cs v.values) t.versions → map (filled_version cs) t.versions ≡ t.versions) (ap (λ (d : TableDef). d.columns) (sym same))
    (all_stay (take 5 tables_columns) (a_column (codes "view_name") name_type false 0) t.versions refl) is.fit

pub second_whole : (items : List JournalItem) (t : Table) → t.def ≡ columns_def → TableOf items t → map (filled_version t.def.columns) t.versions ≡ t.versions
second_whole items t same is =
    subst (λ (cs : List ColumnDef). AllByRecursion (λ v. FitsSoFar cs v.values) t.versions → map (filled_version cs) t.versions ≡ t.versions) (ap (λ (d : TableDef). d.columns) (sym same))
    (all_stay (take 8 columns_columns) (a_column (codes "key_position") Int false 0) t.versions refl) is.fit

spelled : (items : List JournalItem) (T : Tables) → AreInFront (defs_of T) → AllByRecursion (TableOf items) T → EncodingHolds T
    → table_place (encoding_fault (base_rows (map table_rows T) 0) (base_rows (map table_rows T) 1) (user_defs T)) ≡ None
unfolding table_rows
spelled items [] front all holds = absurd holds
spelled items (a ∷ []) front all holds = absurd holds
spelled items (a ∷ b ∷ users) front all holds =
    ap₂ (λ (vs ws : List Version). table_place (encoding_fault (live_rows vs) (live_rows ws) (defs_of users))) (first_whole items a front.0 all.0) (second_whole items b front.1 all.1.0)
    ∙ ap table_place holds

pub definitions_hold : (h : List ℕ → List ℕ) (reads : Reading) (database : List ℕ) (items : List JournalItem) → ReadsWritten reads → IsLegal reads items
    → definition_fault (image_of h reads database items) ≡ None
unfolding image_of definition_fault
definitions_hold h reads database items written legal =
    spelled items (serial reads items) (in_front h reads database items legal) (legal_tables reads items legal).each (legal_passes reads written items legal)
