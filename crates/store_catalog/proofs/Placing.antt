-- Definitions for the places of their tables'.
use Rattle.std.proofs.Common.{◌≡◌, ◌≤◌, ◌<◌, ℕ, ◌+◌, refl, sym, ap, subst, ◌∙◌, List, length, get_or, slice_set, Option, Some, None, Ok, arith}
use Rattle.std.specs.Prelude.{IfNone, IfSome}
use Rattle.sql_types.specs.declared.change.Change.TheVariants.{Starts}
use Rattle.sql_types.specs.declared.statement.Alter.{Alter}
use Rattle.sql_types.specs.declared.statement.Alter.TheVariants.{Add, DropColumn}
use Rattle.sql_types.specs.declared.table.IndexDef.{IndexDef}
use Rattle.sql_types.specs.declared.table.Part.TheVariants.{Base}
use Rattle.sql_types.specs.declared.table.TableDef.{TableDef}
use Rattle.sql_types.specs.declared.version.Version.{Version}
use Rattle.spec_model.specs.Alter.{alter_check, alteration, altered_table, drop_check, gone_table, next_change, table_drop, WithColumn}
use Rattle.spec_model.specs.Catalog.{Defs}
use Rattle.spec_model.specs.Create.{with_index}
use Rattle.spec_model.specs.Refusals.{and_then, Checked}
use Rattle.spec_model.specs.Rows.{stored_row}
use Rattle.spec_model.specs.SystemTables.{changed_column_row, changed_table_row, columns_columns, tables_columns}
use Rattle.law_frame.proofs.Alterations.{added, column_dropped, table_dropped, Added, ColumnDropped, TableDropped}
use Rattle.law_journal.specs.Described.{InRange}
use Rattle.law_journal.proofs.Entering.{column_changing, table_changing, Changing, ColumnChanging}
use Rattle.law_journal.proofs.SystemRows.{changed_column_row_fits, changed_table_row_fits}
use Rattle.store_catalog.specs.Definitions.{AreFormed}
use Rattle.store_catalog.specs.Names.{names_from, HasNewNames, HaveSameNames}
use Rattle.store_catalog.specs.Rows.{IsRow}
use Rattle.store_catalog.specs.WorkedOut.{IsPlaced}
use Rattle.store_catalog.specs.declared.named_defs.PlacedDef.{PlacedDef}
use Rattle.store_catalog.proofs.DefsKept.{found_all, found_is_listed, IsListedAt}
use Rattle.store_catalog.proofs.Fitting.{OfIndex}

-- ---- where the definition before stands

its_place : (defs : Defs) (old : TableDef) (place : ℕ) → IsListedAt 1 defs old → old.id ≡ place + 1 → (place < length defs) × ((d : TableDef) → get_or defs place d ≡ old)
its_place defs old place s at =
    let same : s.place ≡ place = omega (arith, s.id, at) in
    (omega (arith, same, s.within), (λ d. subst (λ (n : ℕ). get_or defs n d ≡ old) same (s.there d)))

-- a definition with the same names as the one there
named_alike : (defs : Defs) (old new def : TableDef) (place : ℕ) → IsListedAt 1 defs old → old.id ≡ place + 1 → HaveSameNames old new → def ≡ new → length new.columns ≤ 64 → InRange new
    → IsPlaced defs (record { place = place; def = def; names = None })
named_alike defs old new def place s at names is few types =
    let p = its_place defs old place s at in
    subst (λ (d : TableDef). IsPlaced defs (record { place = place; def = d; names = None })) (sym is) (record {
      place = sym names.id ∙ at;
      may = record {
        within = p.0;
        same_names = λ d. subst (λ (e : TableDef). HaveSameNames e new) (sym (p.1 d)) names;
        new_names = tt;
      };
      few = few;
      types = types;
    })

-- ---- CREATE INDEX

pub index_placed : (defs : Defs) (old : TableDef) (index : IndexDef) (place : ℕ) (def : TableDef) → OfIndex defs old index → old.id ≡ place + 1 → def ≡ with_index old index
    → IsPlaced defs (record { place = place; def = def; names = None })
index_placed defs old index place def of at is =
    named_alike defs old (with_index old index) def place of.has_listing at (record { id = refl; name = refl; history = refl; view = refl }) is of.few of.types

-- ---- ALTER TABLE and DROP TABLE

few_of : (defs : Defs) (def : TableDef) → AreFormed defs → Changing defs def → length def.columns ≤ 64
few_of defs def formed c = c.g.alters.few (found_all (λ (d : TableDef). length d.columns ≤ 64) defs c.g.name (c.g.old, Base) c.g.found formed.few)

types_before : (defs : Defs) (def : TableDef) → AreFormed defs → (c : Changing defs def) → InRange c.g.old
types_before defs def formed c = found_all InRange defs c.g.name (c.g.old, Base) c.g.found formed.types

module _ (defs : Defs) (formed : AreFormed defs) (first second : List Version) where
  -- the definition that ALTER TABLE changes
  record BeforeAlter (x : WithColumn) : Type 0 where
    old : TableDef
    has_listing : IsListedAt 1 defs old
    names : HaveSameNames old x.0

  before_alter : (y : Alter) (x : WithColumn) → alter_check defs y ≡ Ok x → BeforeAlter x
  before_alter (Add table c) x e =
      let p : Added defs table c x = added defs table c x e in
      record {
        old = p.found.0;
        has_listing = found_is_listed 1 defs table p.found formed.ids p.stands.by_name;
        names = subst (λ (z : WithColumn). HaveSameNames p.found.0 z.0) (sym p.is) (record { id = refl; name = refl; history = refl; view = refl });
      }
  before_alter (DropColumn table name) x e =
      let p : ColumnDropped defs table name x = column_dropped defs table name x e in
      record {
        old = p.found.0;
        has_listing = found_is_listed 1 defs table p.found formed.ids p.stands.by_name;
        names = subst (λ (z : WithColumn). HaveSameNames p.found.0 z.0) (sym p.is) (record { id = refl; name = refl; history = refl; view = refl });
      }

  module _ (y : Alter) (x : WithColumn) (passes : alter_check defs y ≡ Ok x) where
    changing : ColumnChanging defs x
    changing = column_changing defs y x passes

    before : BeforeAlter x
    before = before_alter y x passes

    pub altered_id : (1 ≤ x.0.id) × (x.0.id ≤ length defs)
    altered_id = (omega (arith, before.names.id, before.has_listing.id), omega (arith, before.names.id, before.has_listing.id, before.has_listing.within))

    pub altered_is_row : (n : ℕ) → n < 2147483648 → IsRow (Starts (stored_row columns_columns (changed_column_row n x.0 x.1)))
    altered_is_row n few = (
      columns_columns,
      omega arith,
      changed_column_row_fits n x.0 x.1.0 x.1.1 (omega (arith, altered_id.1, formed.count)) (omega (arith, changing.ordinal old_few)) few (changing.small (types_before defs x.0 formed changing.c)),
    )
      where
        old_few : length changing.c.g.old.columns ≤ 64
        old_few = found_all (λ (d : TableDef). length d.columns ≤ 64) defs changing.c.g.name (changing.c.g.old, Base) changing.c.g.found formed.few

    pub altered_placed : (place : ℕ) → x.0.id ≡ place + 1 → IsPlaced defs (record { place = place; def = x.0; names = None })
    altered_placed place at =
        named_alike defs before.old x.0 x.0 place before.has_listing (before.names.id ∙ at) before.names refl (few_of defs x.0 formed changing.c) (changing.c.types (types_before defs x.0 formed changing.c))

    pub altered_meant : (n : ℕ) → n ≡ next_change x.0.id first second → alteration defs first second y ≡ Ok (altered_table n x)
    altered_meant n is =
        ap (λ (m : Checked WithColumn). and_then m (λ z. Ok (altered_table (next_change z.0.id first second) z))) passes ∙ ap (λ (k : ℕ). Ok (altered_table k x)) (sym is)

  module _ (name : List ℕ) (def : TableDef) (passes : drop_check defs name ≡ Ok def) where
    dropping : Changing defs def
    dropping = (table_changing defs name def passes).0

    listed : IsListedAt 1 defs dropping.g.old
    listed = found_is_listed 1 defs dropping.g.name (dropping.g.old, Base) formed.ids dropping.g.found

    pub dropped_id : (1 ≤ def.id) × (def.id ≤ length defs)
    dropped_id = (omega (arith, dropping.g.alters.id, listed.id), omega (arith, dropping.g.alters.id, listed.id, listed.within))

    pub dropped_is_row : (n : ℕ) → n < 2147483648 → IsRow (Starts (stored_row tables_columns (changed_table_row n def)))
    dropped_is_row n few =
        let f = (table_changing defs name def passes).1 in
        (tables_columns, omega arith, changed_table_row_fits n def (omega (arith, dropped_id.1, formed.count)) few f.0 f.1 f.2)

    pub dropped_names : HasNewNames defs def
    dropped_names =
        let p : TableDropped defs name def = table_dropped defs name def passes in
        subst (HasNewNames defs) (sym p.is) (record { unused = p.free; apart = p.differ })

    pub dropped_placed : (placed : PlacedDef) → placed.def ≡ def → placed.def.id ≡ placed.place + 1 → IfNone placed.names ⊥
        → IfSome placed.names (λ names. names.entries ≡ names_from 0 (slice_set defs placed.place placed.def)) → IsPlaced defs placed
    dropped_placed placed is at some names =
        let id : placed.def.id ≡ def.id = ap (λ (d : TableDef). d.id) is in
        record {
          place = at;
          may = record { within = omega (arith, at, id, dropped_id.1); same_names = renamed _ placed.names some; new_names = names };
          few = subst (λ (d : TableDef). length d.columns ≤ 64) (sym is) (few_of defs def formed dropping);
          types = subst InRange (sym is) (dropping.types (types_before defs def formed dropping));
        }
      where
        renamed : {A : Type 0} (P : Type 0) (o : Option A) → IfNone o ⊥ → IfNone o P
        renamed P None none = absurd none
        renamed P (Some x) none = tt

    pub dropped_meant : (n : ℕ) → n ≡ next_change def.id first second → table_drop defs first second name ≡ Ok (gone_table n def)
    dropped_meant n is =
        ap (λ (m : Checked TableDef). and_then m (λ d. Ok (gone_table (next_change d.id first second) d))) passes ∙ ap (λ (k : ℕ). Ok (gone_table k def)) (sym is)
