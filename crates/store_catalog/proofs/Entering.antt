-- What a CREATE needs of the cell and of the context before it changes them.
use Rattle.std.proofs.Common.{◌≡◌, ◌<◌, ℕ, ◌+◌, ◌-◌, ◌^◌, ap, ap₂, ◌∙◌, List, [], ◌∷◌, ◌++◌, length, take, Option, Some, arith}
use Rattle.std.specs.List.{AllByRecursion}
use Rattle.sql_types.specs.declared.change.Change.{Change}
use Rattle.sql_types.specs.declared.statement.CreateIndex.{CreateIndex}
use Rattle.sql_types.specs.declared.statement.CreateTable.{CreateTable}
use Rattle.sql_types.specs.declared.table.TableDef.{TableDef}
use Rattle.sql_types.specs.declared.version.Version.{Version}
use Rattle.spec_model.specs.Catalog.{Defs}
use Rattle.spec_model.specs.Changes.{changed_all}
use Rattle.spec_model.specs.Effect.{column_starts, index_starts, table_start}
use Rattle.spec_model.specs.Runs.{MadeBefore}
use Rattle.spec_model.specs.SystemTables.{column_rows, columns_id, tables_id}
use Rattle.law_journal.proofs.Created.{Created, created}
use Rattle.spec_protocol.specs.CatalogVisits.{replaced_def}
use Rattle.spec_protocol.specs.Cells.{CatalogCell, Creator}
use Rattle.store_catalog.specs.Definitions.{redefined, AreFormed}
use Rattle.store_catalog.specs.WorkedOut.{IsNewIndex, IsNewTable}
use Rattle.store_catalog.specs.declared.creating.NewIndex.{NewIndex}
use Rattle.store_catalog.specs.declared.creating.NewTable.{NewTable}
use Rattle.store_catalog.proofs.Creates.{as_many, cell_of, Entered, Indexes}
use Rattle.store_catalog.proofs.DefsKept.{before_more}
use Rattle.store_catalog.proofs.Fitting.{columns_starts_are_rows, of_index, table_starts_are_rows, OfIndex}

abbrev made_by : ℕ → Defs → Option Creator
made_by tx defs = Some (record { tx = tx; before = defs })

-- ---- CREATE TABLE

module _ (c : CatalogCell) (tx seq : ℕ) (create : CreateTable) (new : NewTable) (changes_worked_out : IsNewTable c.defs tx seq create new) (fl sl : List (List ℕ)) (first : fl ≡ new.first.leaves) (second : sl ≡ new.second.leaves) where
  is_created : Created c.defs new.def
  is_created = created c.defs create new.def changes_worked_out.passes

  pub leaves_room : (n : ℕ) → seq ≡ n → n + (length fl + length sl) < 2 ^ 63
  leaves_room n is =
      let one = as_many tables_id tx seq seq (table_start new.def) fl (first ∙ changes_worked_out.first.leaves) (table_starts_are_rows c.defs new.def is_created) in
      let rest = as_many columns_id tx seq (seq + 1) (column_starts (column_rows new.def)) sl (second ∙ changes_worked_out.second.leaves) (columns_starts_are_rows c.defs new.def is_created) in
      omega (arith, one, rest, changes_worked_out.second.room, is)

  pub entered : (d : CatalogCell) (ts cs : List Version) → AllByRecursion (MadeBefore tx seq) c.tables → AllByRecursion (MadeBefore tx seq) c.columns
      → d.defs ≡ c.defs ++ new.def ∷ [] → d.creator ≡ Some (record { tx = tx; before = take (length d.defs - 1) d.defs })
      → ts ≡ c.tables → cs ≡ c.columns → d.tables ≡ changed_all tx seq new.first.starts ts → d.columns ≡ changed_all tx (seq + 1) new.second.starts cs → d.holds ≡ c.holds
      → Entered tx seq new.def fl sl c d
  entered d ts cs old_tables old_columns defs creator t k tables columns holds = record {
    created = is_created;
    old_tables = old_tables;
    old_columns = old_columns;
    first = first ∙ changes_worked_out.first.leaves;
    second = second ∙ changes_worked_out.second.leaves;
    defs = defs;
    creator = creator ∙ ap (made_by tx) (ap (λ (ds : Defs). take (length ds - 1) ds) defs ∙ before_more c.defs new.def);
    tables = tables ∙ ap₂ (λ (xs : List Change) (vs : List Version). changed_all tx seq xs vs) changes_worked_out.first.starts t;
    columns = columns ∙ ap₂ (λ (xs : List Change) (vs : List Version). changed_all tx (seq + 1) xs vs) changes_worked_out.second.starts k;
    holds = holds;
  }

-- ---- CREATE INDEX

module _ (c : CatalogCell) (tx seq : ℕ) (create : CreateIndex) (new : NewIndex) (formed : AreFormed c.defs) (changes_worked_out : IsNewIndex c.defs tx seq create new) (ls : List (List ℕ)) (leaves : ls ≡ new.rows.leaves) where
  of : OfIndex c.defs changes_worked_out.def changes_worked_out.index
  of = of_index c.defs create changes_worked_out.def changes_worked_out.index formed changes_worked_out.passes

  pub index_room : (n : ℕ) → seq ≡ n → n + length ls < 2 ^ 63
  index_room n is =
      let all = as_many columns_id tx seq seq (index_starts changes_worked_out.def changes_worked_out.index) ls (leaves ∙ changes_worked_out.rows.leaves) of.rows in
      omega (arith, all, changes_worked_out.rows.room, is)

  pub indexes : (d : CatalogCell) (cs : List Version) → AllByRecursion (MadeBefore tx seq) c.columns → cs ≡ changed_all tx seq new.rows.starts c.columns
      → d ≡ redefined tx new.placed.def (cell_of c.defs c.creator c.tables cs c.holds) → Indexes tx seq changes_worked_out.def changes_worked_out.index ls c d
  indexes d cs old_columns columns e = record {
    rows = of.rows;
    old_columns = old_columns;
    leaves = leaves ∙ changes_worked_out.rows.leaves;
    defs = ap (λ (x : CatalogCell). x.defs) e ∙ ap (λ (x : TableDef). replaced_def x c.defs) changes_worked_out.now;
    creator = ap (λ (x : CatalogCell). x.creator) e;
    tables = ap (λ (x : CatalogCell). x.tables) e;
    columns = ap (λ (x : CatalogCell). x.columns) e ∙ columns ∙ ap (λ (xs : List Change). changed_all tx seq xs c.columns) changes_worked_out.rows.starts;
    holds = ap (λ (x : CatalogCell). x.holds) e;
  }
