-- What a CREATE comes to, in the cell and in the transaction's context.
use Rattle.std.proofs.Common.{◌≡◌, ◌≤◌, ◌<◌, ℕ, ◌+◌, ◌^◌, refl, sym, ap, subst, ◌∙◌, List, [], ◌∷◌, ◌++◌, map, length, Option, Some, arith}
use Rattle.std.proofs.lemmas.List.{length-map}
use Rattle.std.specs.List.{AllByRecursion}
use Rattle.std.specs.Prelude.{◌≢◌, Result, Ok, Err, IfErr, IfOk, IsErrAnd, OnErr}
use Rattle.sql_value.specs.declared.refusal.Refusal.{Refusal}
use Rattle.sql_value.specs.declared.refusal.Refusal.TheVariants.{NoMemory, NoSuchTable}
use Rattle.sql_types.specs.declared.change.Change.{Change}
use Rattle.sql_types.specs.declared.change.Change.TheVariants.{Starts, Ends}
use Rattle.sql_types.specs.declared.lock.Hold.{Hold}
use Rattle.sql_types.specs.declared.statement.CreateIndex.{CreateIndex}
use Rattle.sql_types.specs.declared.table.IndexDef.{IndexDef}
use Rattle.sql_types.specs.declared.table.TableDef.{TableDef}
use Rattle.sql_types.specs.declared.version.Version.{Version}
use Rattle.format_event.specs.Leaf.{event_bytes}
use Rattle.spec_model.specs.Catalog.{Defs, NamedPart, find_part}
use Rattle.spec_model.specs.Changes.{changed_all}
use Rattle.spec_model.specs.Create.{index_check, index_check_in, with_index}
use Rattle.spec_model.specs.Effect.{column_starts, index_starts, table_start}
use Rattle.spec_model.specs.Refusals.{and_then, or_refused}
use Rattle.spec_model.specs.Runs.{MadeBefore}
use Rattle.spec_model.specs.SystemTables.{column_rows, columns_id, tables_id}
use Rattle.law_journal.proofs.Created.{Created}
use Rattle.spec_protocol.specs.CatalogVisits.{replaced_def, with_new_index, with_table}
use Rattle.spec_protocol.specs.Cells.{CatalogCell, Creator}
use Rattle.spec_protocol.specs.Doing.{events_from, grown}
use Rattle.spec_protocol.specs.Moves.{noting}
use Rattle.spec_protocol.specs.Seats.{OpenTransaction}
use Rattle.store_tx.specs.Represents.{Represents}
use Rattle.store_tx.specs.declared.context.TxCtx.{TxCtx}
use Rattle.store_catalog.specs.Calls.{HasIndex, HasTable}
use Rattle.store_catalog.specs.Noted.{with_leaves}
use Rattle.store_catalog.specs.WorkedOut.{AreNew}
use Rattle.store_catalog.specs.Rows.{starts_of, IsRow}
use Rattle.store_catalog.specs.declared.rows.NewRows.{NewRows}
use Rattle.store_catalog.proofs.Fitting.{columns_starts_are_rows, length_columns, length_index, table_starts_are_rows}
use Rattle.store_catalog.proofs.NewRows.{all_later, rows_from}
use Rattle.store_catalog.proofs.NotedLeaves.{same_grown, same_leaves}

-- ---- the checks of CREATE INDEX, once its table is found

pub checked_index : (defs : Defs) (c : CreateIndex) (n : NamedPart) → find_part defs c.table ≡ Some n → index_check defs c ≡ index_check_in c n
unfolding index_check
checked_index defs c n found = ap (λ (o : Option NamedPart). and_then (or_refused NoSuchTable o) (index_check_in c)) found

-- ---- rows

length_starts : (table tx seq : ℕ) (cs : List Change) → AllByRecursion IsRow cs → length (starts_of table tx seq cs) ≡ length cs
length_starts table tx seq [] rows = refl
length_starts table tx seq (Starts values ∷ cs) rows = omega (arith, length_starts table tx (seq + 1) cs rows.1)
length_starts table tx seq (Ends start ∷ cs) rows = absurd rows.0

-- the leaves of rows that start in a table after versions that were there
module _ (table tx n m : ℕ) (cs : List Change) (ls : List (List ℕ)) (is : ls ≡ map event_bytes (starts_of table tx m cs)) (rows : AllByRecursion IsRow cs) where
  pub as_many : length ls ≡ length cs
  as_many = ap (λ (l : List (List ℕ)). length l) is ∙ length-map (starts_of table tx m cs) event_bytes ∙ length_starts table tx m cs rows

  pub as_events : (vs ws : List Version) → n ≤ m → AllByRecursion (MadeBefore tx n) vs → AllByRecursion (MadeBefore tx m) vs → ws ≡ changed_all tx m cs vs
      → ls ≡ map event_bytes (events_from tx n table ws)
  as_events vs ws le h k after = is ∙ sym (ap (λ (us : List Version). map event_bytes (events_from tx n table us)) after ∙ ap (map event_bytes) (rows_from tx table n m cs vs le rows h k))

pub made_before : (i n j m : ℕ) (vs ws : List Version) → i ≡ j → n ≡ m → vs ≡ ws → AllByRecursion (MadeBefore i n) vs → AllByRecursion (MadeBefore j m) ws
made_before i n j m vs ws e f g h =
    subst (λ (us : List Version). AllByRecursion (MadeBefore j m) us) g
    (subst (λ (k : ℕ). AllByRecursion (MadeBefore j k) vs) f (subst (λ (k : ℕ). AllByRecursion (MadeBefore k n) vs) e h))

pub are_new : (table tx seq : ℕ) (starts meant : List Change) (rows : NewRows) → starts ≡ meant → rows.starts ≡ starts → rows.leaves ≡ map event_bytes (starts_of table tx seq starts) → seq + length starts < 2 ^ 63
    → AreNew table tx seq meant rows
are_new table tx seq starts meant rows is same leaves room = record {
  starts = same ∙ is;
  leaves = leaves ∙ ap (λ (cs : List Change). map event_bytes (starts_of table tx seq cs)) is;
  room = subst (λ (cs : List Change). seq + length cs < 2 ^ 63) is room;
}

-- ---- the cell

abbrev pub cell_of : Defs → Option Creator → List Version → List Version → List Hold → CatalogCell
cell_of defs creator tables columns holds = record { defs = defs; creator = creator; tables = tables; columns = columns; holds = holds }

pub same_cell : (c d : CatalogCell) → c.defs ≡ d.defs → c.creator ≡ d.creator → c.tables ≡ d.tables → c.columns ≡ d.columns → c.holds ≡ d.holds → c ≡ d
same_cell c d e f g h k =
    ap (λ (x : Defs). cell_of x c.creator c.tables c.columns c.holds) e
    ∙ ap (λ (x : Option Creator). cell_of d.defs x c.tables c.columns c.holds) f
    ∙ ap (λ (x : List Version). cell_of d.defs d.creator x c.columns c.holds) g
    ∙ ap (λ (x : List Version). cell_of d.defs d.creator d.tables x c.holds) h
    ∙ ap (λ (x : List Hold). cell_of d.defs d.creator d.tables d.columns x) k

-- ---- CREATE TABLE

-- the cell d has the table, and these are its leaves
pub record Entered (tx seq : ℕ) (def : TableDef) (fl sl : List (List ℕ)) (c d : CatalogCell) : Type 0 where
  pub created : Created c.defs def
  pub old_tables : AllByRecursion (MadeBefore tx seq) c.tables
  pub old_columns : AllByRecursion (MadeBefore tx seq) c.columns
  pub first : fl ≡ map event_bytes (starts_of tables_id tx seq (table_start def))
  pub second : sl ≡ map event_bytes (starts_of columns_id tx (seq + 1) (column_starts (column_rows def)))
  pub defs : d.defs ≡ c.defs ++ def ∷ []
  pub creator : d.creator ≡ Some (record { tx = tx; before = c.defs })
  pub tables : d.tables ≡ changed_all tx seq (table_start def) c.tables
  pub columns : d.columns ≡ changed_all tx (seq + 1) (column_starts (column_rows def)) c.columns
  pub holds : d.holds ≡ c.holds

module _ {H : Type 0} (digest : H → List ℕ → List ℕ) where
  table_context : (h : H) (ctx : TxCtx H) (o : OpenTransaction) (tx seq : ℕ) (def : TableDef) (fl sl : List (List ℕ)) (c d : CatalogCell) → Entered tx seq def fl sl c d
      → Represents digest h ctx (noting (seq + length fl + length sl) (with_leaves columns_id sl (with_leaves tables_id fl o.trees)) o)
      → Represents digest h ctx (noting (seq + 1 + length def.columns) (grown columns_id (events_from tx seq columns_id d.columns) (grown tables_id (events_from tx seq tables_id d.tables) o.trees)) o)
  table_context h ctx o tx seq def fl sl c d e r =
      let first_rows = table_starts_are_rows c.defs def e.created in
      let second_rows = columns_starts_are_rows c.defs def e.created in
      let one = as_many tables_id tx seq seq (table_start def) fl e.first first_rows in
      let rest = as_many columns_id tx seq (seq + 1) (column_starts (column_rows def)) sl e.second second_rows in
      same_leaves digest h ctx o (seq + length fl + length sl) (seq + 1 + length def.columns) (with_leaves columns_id sl (with_leaves tables_id fl o.trees))
      (grown columns_id (events_from tx seq columns_id d.columns) (grown tables_id (events_from tx seq tables_id d.tables) o.trees))
      (same_grown columns_id sl (events_from tx seq columns_id d.columns) (with_leaves tables_id fl o.trees) (grown tables_id (events_from tx seq tables_id d.tables) o.trees)
      (as_events columns_id tx seq (seq + 1) (column_starts (column_rows def)) sl e.second second_rows c.columns d.columns (omega arith) e.old_columns (all_later tx columns_id seq c.columns e.old_columns) e.columns)
      (same_grown tables_id fl (events_from tx seq tables_id d.tables) o.trees o.trees
      (as_events tables_id tx seq seq (table_start def) fl e.first first_rows c.tables d.tables (omega arith) e.old_tables e.old_tables e.tables) (λ id. refl)))
      (omega (arith, one, rest, length_columns def)) r

  pub has_table : (h : H) (ctx : TxCtx H) (o : OpenTransaction) (tx seq : ℕ) (def : TableDef) (fl sl : List (List ℕ)) (c d : CatalogCell) → Entered tx seq def fl sl c d → tx ≡ o.id → seq ≡ o.seq
      → Represents digest h ctx (noting (o.seq + length fl + length sl) (with_leaves columns_id sl (with_leaves tables_id fl o.trees)) o)
      → HasTable digest h c def o d ctx
  has_table h ctx o tx seq def fl sl c d e i s r =
      let made : d ≡ with_table tx seq def c.holds c = same_cell d (with_table tx seq def c.holds c) e.defs e.creator e.tables e.columns e.holds in
      let of : Represents digest h ctx (noting (seq + length fl + length sl) (with_leaves columns_id sl (with_leaves tables_id fl o.trees)) o) =
      subst (λ (n : ℕ). Represents digest h ctx (noting (n + length fl + length sl) (with_leaves columns_id sl (with_leaves tables_id fl o.trees)) o)) (sym s) r in
      record {
        cell = subst (λ (n : ℕ). d ≡ with_table n o.seq def c.holds c) i (subst (λ (n : ℕ). d ≡ with_table tx n def c.holds c) s made);
        context = subst (λ (n : ℕ). Represents digest h ctx (noting (o.seq + 1 + length def.columns) (grown columns_id (events_from n o.seq columns_id d.columns) (grown tables_id (events_from n o.seq tables_id d.tables) o.trees)) o)) i
            (subst (λ (n : ℕ). Represents digest h ctx (noting (n + 1 + length def.columns) (grown columns_id (events_from tx n columns_id d.columns) (grown tables_id (events_from tx n tables_id d.tables) o.trees)) o)) s
            (table_context h ctx o tx seq def fl sl c d e of));
      }

-- ---- CREATE INDEX

-- the cell d has the index, and these are its leaves
pub record Indexes (tx seq : ℕ) (def : TableDef) (index : IndexDef) (ls : List (List ℕ)) (c d : CatalogCell) : Type 0 where
  pub rows : AllByRecursion IsRow (index_starts def index)
  pub old_columns : AllByRecursion (MadeBefore tx seq) c.columns
  pub leaves : ls ≡ map event_bytes (starts_of columns_id tx seq (index_starts def index))
  pub defs : d.defs ≡ replaced_def (with_index def index) c.defs
  pub creator : d.creator ≡ Some (record { tx = tx; before = c.defs })
  pub tables : d.tables ≡ c.tables
  pub columns : d.columns ≡ changed_all tx seq (index_starts def index) c.columns
  pub holds : d.holds ≡ c.holds

module _ {H : Type 0} (digest : H → List ℕ → List ℕ) where
  index_context : (h : H) (ctx : TxCtx H) (o : OpenTransaction) (tx seq : ℕ) (def : TableDef) (index : IndexDef) (ls : List (List ℕ)) (c d : CatalogCell) → Indexes tx seq def index ls c d
      → Represents digest h ctx (noting (seq + length ls) (with_leaves columns_id ls o.trees) o)
      → Represents digest h ctx (noting (seq + length index.ordinals) (grown columns_id (events_from tx seq columns_id d.columns) o.trees) o)
  index_context h ctx o tx seq def index ls c d e r =
      let all = as_many columns_id tx seq seq (index_starts def index) ls e.leaves e.rows in
      same_leaves digest h ctx o (seq + length ls) (seq + length index.ordinals) (with_leaves columns_id ls o.trees) (grown columns_id (events_from tx seq columns_id d.columns) o.trees)
      (same_grown columns_id ls (events_from tx seq columns_id d.columns) o.trees o.trees
      (as_events columns_id tx seq seq (index_starts def index) ls e.leaves e.rows c.columns d.columns (omega arith) e.old_columns e.old_columns e.columns) (λ id. refl))
      (omega (arith, all, length_index def index)) r

  pub has_index : (h : H) (ctx : TxCtx H) (o : OpenTransaction) (tx seq : ℕ) (def : TableDef) (index : IndexDef) (ls : List (List ℕ)) (c d : CatalogCell) → Indexes tx seq def index ls c d → tx ≡ o.id → seq ≡ o.seq
      → Represents digest h ctx (noting (o.seq + length ls) (with_leaves columns_id ls o.trees) o)
      → HasIndex digest h c def index o d ctx
  has_index h ctx o tx seq def index ls c d e i s r =
      let made : d ≡ with_new_index tx seq def index c.holds c = same_cell d (with_new_index tx seq def index c.holds c) e.defs e.creator e.tables e.columns e.holds in
      let of : Represents digest h ctx (noting (seq + length ls) (with_leaves columns_id ls o.trees) o) =
      subst (λ (n : ℕ). Represents digest h ctx (noting (n + length ls) (with_leaves columns_id ls o.trees) o)) (sym s) r in
      record {
        cell = subst (λ (n : ℕ). d ≡ with_new_index n o.seq def index c.holds c) i (subst (λ (n : ℕ). d ≡ with_new_index tx n def index c.holds c) s made);
        context = subst (λ (n : ℕ). Represents digest h ctx (noting (o.seq + length index.ordinals) (grown columns_id (events_from n o.seq columns_id d.columns) o.trees) o)) i
            (subst (λ (n : ℕ). Represents digest h ctx (noting (n + length index.ordinals) (grown columns_id (events_from tx n columns_id d.columns) o.trees) o)) s
            (index_context h ctx o tx seq def index ls c d e of));
      }

-- ---- where memory lacks

module _ {A : Type 0} where
  pub none_made : (P : A → Type 0) (result : Result A Refusal) → IsErrAnd result (λ e. e ≡ NoMemory) → IfOk result P
  none_made P (Ok a) lacks = absurd lacks
  none_made P (Err e) lacks = tt

  pub none_refused : (P : Refusal → Type 0) (result : Result A Refusal) → IsErrAnd result (λ e. e ≡ NoMemory) → IfErr result (λ e. e ≢ NoMemory → P e)
  none_refused P (Ok a) lacks = absurd lacks
  none_refused P (Err e) lacks = λ other. absurd (other lacks)

  pub still_so : (P : Type 0) (result : Result A Refusal) → P → OnErr result P
  still_so P (Ok a) same = tt
  still_so P (Err e) same = same
