-- In a legal journal the versions of a table start and end while the table is there.
use Rattle.std.proofs.Common.{◌≡◌, ◌≤◌, ◌<◌, ℕ, zero, suc, ◌+◌, inl, inr, refl, sym, ap, subst, ◌∙◌, Bool, true, false, List, [], ◌∷◌, ◌++◌, length, Ok, Option, Some, None, arith}
use Rattle.std.proofs.lemmas.Bool.{eq-eqb, eqb-true}
use Rattle.std.proofs.lemmas.List.Sorted.{IsPermutation-sym, list_any-IsPermutation}
use Rattle.std.specs.Prelude.{if◌then◌else◌, pos, ◌==◌, ◌&&◌, ◌||◌, not, IfSome}
use Rattle.std.specs.List.{AllByRecursion, list_all, list_any}
use Rattle.std.specs.List.Sorted.{IsPermutation}
use Rattle.std.specs.Ordering.{int_eq}
use Rattle.sql_value.specs.declared.column.TableKind.{TableKind}
use Rattle.sql_value.specs.declared.column.TableKind.TheVariants.{AppendOnly, Updatable}
use Rattle.sql_types.specs.declared.entry.TxEntry.{TxEntry}
use Rattle.sql_types.specs.declared.journal.JournalItem.{JournalItem}
use Rattle.sql_types.specs.declared.statement.CreateTable.{CreateTable}
use Rattle.sql_types.specs.declared.table.TableDef.{TableDef}
use Rattle.sql_types.specs.declared.version.Table.{Table}
use Rattle.sql_types.specs.declared.version.Version.{Version}
use Rattle.spec_model.specs.Agreement.{IdsFrom}
use Rattle.spec_model.specs.Alter.{dropped_table}
use Rattle.spec_model.specs.Catalog.{Tables, changed_table, defs_of, with_versions}
use Rattle.spec_model.specs.Changes.{Change, Starts, Ends, changed, changed_all}
use Rattle.spec_model.specs.Create.{create_check}
use Rattle.spec_model.specs.Effect.{redefined, with_def}
use Rattle.spec_model.specs.Journals.{serial, IsLegal}
use Rattle.spec_model.specs.Rows.{EventId, Row, ended, same_event, start_cmp, started, with_end}
use Rattle.spec_model.specs.Script.{Reading}
use Rattle.spec_model.specs.SystemTables.{kind_code, table_row, changed_table_row}
use Rattle.law_frame.proofs.Alls.{all_append, all_both, all_filter, all_inserted, all_map, all_weaker}
use Rattle.law_journal.specs.Kept.{IsEarlier, IsPast, KeptTable}
use Rattle.law_journal.specs.Serial.{place_in}
use Rattle.law_journal.proofs.Created.{created}
use Rattle.law_journal.proofs.Order.{new_version}
use Rattle.law_catalog_rows.specs.Encoded.{IsAmong}
use Rattle.law_catalog_rows.specs.Written.{ReadsWritten}
use Rattle.law_catalog_rows.proofs.About.{table_starts}
use Rattle.law_catalog_rows.proofs.CountingUp.{not_zero}
use Rattle.spec_rules.specs.Places.{EventPlace, PlacedRow, place_of, position_of, stands_before}
use Rattle.spec_rules.specs.Rows.{CatalogRows, has_no_change, is_about_table, tables_about}
use Rattle.spec_rules.specs.WhileTheTableIsThere.{is_before_end, is_before_event, is_while_the_table_is_there, says_gone}
use Rattle.law_rules.specs.Steps.{Catalog, Entered, StandBefore, Stands, all_defs, catalog_of, nothing, users_of}
use Rattle.law_rules.proofs.Frame.{legal_users, stands_so}
use Rattle.law_rules.proofs.InOrder.{before_is, before_so, both, false_or, never_both, never_true, or_cases, or_second}
use Rattle.law_rules.proofs.Kept.{UsersKeep, at_event}
use Rattle.law_rules.proofs.Orders.{of_any_order, own_rows, other_rows}
use Rattle.law_rules.proofs.Tables.{TableTold, TablesTold, changed_starts, its_one_row, other_id, row_of_table, tables_told_kept, first_tables_told}

module _ (place : ℕ → ℕ) where
  -- ---- what a row of the table of tables lets a version do

  -- the row says that the table was created, before the version starts, or that it was dropped, after the version starts
  -- and ends
  pub record Allows (v : Version) (r : PlacedRow) : Type 0 where
    pub created : has_no_change 0 r ≡ true → stands_before r.place (at_event place v.start) ≡ true
    pub start : says_gone r ≡ true → stands_before (at_event place v.start) r.place ≡ true
    pub end : says_gone r ≡ true → IfSome v.end (λ e. stands_before (at_event place e) r.place ≡ true)

  -- each of these rows does
  abbrev pub AllAllow : List PlacedRow → Version → Type 0
  AllAllow rows v = AllByRecursion (Allows v) rows

  abbrev pub AllAllowed : Catalog → Table → Type 0
  AllAllowed x t = AllByRecursion (AllAllow (tables_about x.rows (pos t.def.id))) t.versions

  -- so it is with the versions of all users' tables
  pub record WhileThere (x : Catalog) (us : Tables) : Type 0 where
    pub told : TablesTold x
    pub allowed : AllByRecursion (AllAllowed x) us

  -- ---- the same rows in another order

  alike : (x y : Catalog) (t : Table) → IsPermutation (tables_about y.rows (pos t.def.id)) (tables_about x.rows (pos t.def.id)) → AllAllowed x t → AllAllowed y t
  alike x y t h all =
      all_weaker (AllAllow (tables_about x.rows (pos t.def.id))) (AllAllow (tables_about y.rows (pos t.def.id)))
      (λ v k. of_any_order (Allows v) _ _ (IsPermutation-sym _ _ h) k) t.versions all

  -- ---- another definition

  with_its_def : (x : Catalog) (def : TableDef) (b : Bool) (t : Table) → (t.def.id == def.id) ≡ b → AllAllowed x t → AllAllowed x (if b then with_def def t else t)
  with_its_def x def true t e h = subst (λ (id : ℕ). AllByRecursion (AllAllow (tables_about x.rows (pos id))) t.versions) (eqb-true t.def.id def.id e) h
  with_its_def x def false t e h = h

  redefined_allowed : (x : Catalog) (def : TableDef) (us : Tables) → AllByRecursion (AllAllowed x) us → AllByRecursion (AllAllowed x) (redefined def us)
  redefined_allowed x def us h = all_map (AllAllowed x) (AllAllowed x) (λ t. if t.def.id == def.id then with_def def t else t) (λ t k. with_its_def x def (t.def.id == def.id) t refl k) us h

  -- where no row of the table of tables was entered
  all_alike : (p : EventPlace) (x y : Catalog) (rows : List Row) (us : Tables) → Entered p [] rows x y → AllByRecursion (AllAllowed x) us → AllByRecursion (AllAllowed y) us
  all_alike p x y rows us entered h =
      all_weaker (AllAllowed x) (AllAllowed y) (λ t k. alike x y t (own_rows p.0 p.1 t.def.id [] tt y.rows.tables x.rows.tables entered.tables) k) us h

  -- ---- CREATE TABLE

  ids_differ : (n id : ℕ) (us : Tables) → IdsFrom n (defs_of us) → n + length (defs_of us) ≤ id → AllByRecursion (λ (t : Table). t.def.id < id) us
  ids_differ n id [] ids le = tt
  ids_differ n id (t ∷ ts) ids le = (omega (arith, ids.0, le), ids_differ (n + 1) id ts ids.1 (omega (arith, le)))

  created_allowed : (p : EventPlace) (x y : Catalog) (us : Tables) → defs_of us ≡ x.defs → IdsFrom 3 x.defs → (c : CreateTable) (def : TableDef) → create_check (all_defs x) c ≡ Ok def
      → (items : List Row) → Entered p (table_row def ∷ []) items x y → AllByRecursion (AllAllowed x) us → AllByRecursion (AllAllowed y) (us ++ record { def = def; versions = [] } ∷ [])
  created_allowed p x y us defs ids c def passed items entered h =
      let new : def.id ≡ 3 + length x.defs = (let i = (created (all_defs x) c def passed).id in omega (arith, i)) in
      let count : length (defs_of us) ≡ length x.defs = ap length defs in
      let others : AllByRecursion (λ (t : Table). t.def.id < def.id) us = ids_differ 3 def.id us (subst (IdsFrom 3) (sym defs) ids) (omega (arith, new, count)) in
      all_append (AllAllowed y) us (record { def = def; versions = [] } ∷ [])
      (all_weaker (λ (t : Table). (t.def.id < def.id) × AllAllowed x t) (AllAllowed y)
      (λ t k. alike x y t (other_rows p.0 p.1 def.id (table_row def ∷ []) (table_starts def, tt) y.rows.tables x.rows.tables entered.tables (pos t.def.id) (other_id def.id t.def.id (λ e. (let lt = k.0 in omega (arith, e, lt))))) k.1) us
      (all_both (λ (t : Table). t.def.id < def.id) (AllAllowed x) us others h))
      (tt, tt)

  -- ---- DROP TABLE

  above_zero : (n : ℕ) → int_eq (pos (suc n)) (pos 0) ≡ true → ⊥
  above_zero n e = never_true (int_eq (pos (suc n)) (pos 0)) e (not_zero n)

  has_change : (p : EventPlace) (change : ℕ) (def : TableDef) → 1 ≤ change → has_no_change 0 (row_of_table p (changed_table_row change def)) ≡ true → ⊥
  unfolding changed_table_row
  has_change p zero def above e = omega (arith, above)
  has_change p (suc n) def above e = above_zero n e

  past_end : (now : EventId) (v : Version) → (o : Option EventId) → IfSome o (λ e. IsEarlier place v.start e × IsEarlier place e now) → IfSome o (λ e. stands_before (at_event place e) (at_event place now) ≡ true)
  past_end now v None h = tt
  past_end now v (Some e) h = stands_so place e now h.1

  drop_allows : (now : EventId) (change : ℕ) (def : TableDef) → 1 ≤ change → (v : Version) → IsPast place now v → Allows v (row_of_table (at_event place now) (changed_table_row change def))
  drop_allows now change def above v past = record {
    created = λ e. absurd (has_change (at_event place now) change def above e);
    start = λ e. stands_so place v.start now past.start;
    end = λ e. past_end now v v.end past.end;
  }

  module _ (now : EventId) (x y : Catalog) (new : TableDef) (change : ℕ) (above : 1 ≤ change) (entered : Entered (at_event place now) (changed_table_row change new ∷ []) [] x y) where
    one_more : (t : Table) (b : Bool) → (t.def.id == new.id) ≡ b → KeptTable place now t → AllAllowed x t → AllAllowed y t
    one_more t true e kept h =
        let same : t.def.id ≡ new.id = eqb-true t.def.id new.id e in
        let s : PlacedRow = row_of_table (at_event place now) (changed_table_row change new) in
        let own : IsPermutation (tables_about y.rows (pos t.def.id)) (s ∷ tables_about x.rows (pos t.def.id)) =
        subst (λ (id : ℕ). IsPermutation (tables_about y.rows (pos id)) (s ∷ tables_about x.rows (pos id))) (sym same)
        (own_rows (place now.0) now.1 new.id (changed_table_row change new ∷ []) (changed_starts change new, tt) y.rows.tables x.rows.tables entered.tables) in
        all_weaker (λ v. IsPast place now v × AllAllow (tables_about x.rows (pos t.def.id)) v) (AllAllow (tables_about y.rows (pos t.def.id)))
        (λ v k. of_any_order (Allows v) _ _ (IsPermutation-sym _ _ own) (drop_allows now change new above v k.0, k.1)) t.versions
        (all_both (IsPast place now) (AllAllow (tables_about x.rows (pos t.def.id))) t.versions kept.past h)
    one_more t false e kept h =
        alike x y t (other_rows (place now.0) now.1 new.id (changed_table_row change new ∷ []) (changed_starts change new, tt) y.rows.tables x.rows.tables entered.tables (pos t.def.id)
        (other_id new.id t.def.id (λ same. isnt_same t.def.id new.id e (sym same)))) h
      where
        isnt_same : (m n : ℕ) → (m == n) ≡ false → m ≡ n → ⊥
        isnt_same m n f is = (let yes : (m == n) ≡ true = eq-eqb m n is in cc)

    all_one_more : (us : Tables) → AllByRecursion (KeptTable place now) us → AllByRecursion (AllAllowed x) us → AllByRecursion (AllAllowed y) us
    all_one_more us kept h =
        all_weaker (λ (t : Table). KeptTable place now t × AllAllowed x t) (AllAllowed y) (λ t k. one_more t (t.def.id == new.id) refl k.0 k.1) us (all_both (KeptTable place now) (AllAllowed x) us kept h)

  -- ---- INSERT, UPDATE and DELETE

  -- a row before now that doesn't say that the table was dropped
  record IsOpen (now : EventId) (r : PlacedRow) : Type 0 where
    earlier : stands_before r.place (at_event place now) ≡ true
    there : says_gone r ≡ true → ⊥

  open_allows : (now : EventId) (v : Version) → v.start ≡ now → (r : PlacedRow) → IsOpen now r → Allows v r
  open_allows now v is r h = record {
    created = λ e. subst (λ (n : EventId). stands_before r.place (at_event place n) ≡ true) (sym is) h.earlier;
    start = λ e. absurd (h.there e);
    end = λ e. absurd (h.there e);
  }

  still_allows : (now end : EventId) (v : Version) (r : PlacedRow) → IsOpen now r × Allows v r → Allows (with_end end v) r
  still_allows now end v r h = record { created = h.1.created; start = h.1.start; end = λ e. absurd (h.0.there e) }

  later : (p : EventPlace) (tx seq : ℕ) → stands_before p (place tx, seq) ≡ true → stands_before p (place tx, seq + 1) ≡ true
  later p tx seq e = elim (before_is p (place tx, seq) e) [
    | inl lt ↦ before_so p (place tx, seq + 1) (inl lt)
    | inr q ↦ before_so p (place tx, seq + 1) (inr (q.0, (let lt = q.1 in omega (arith, lt))))
  ]

  module _ (rows : List PlacedRow) where
    ended_allows : (now start : EventId) (b : Bool) (v : Version) → AllByRecursion (IsOpen now) rows → AllAllow rows v → AllAllow rows (if b then with_end now v else v)
    ended_allows now start true v opened h = all_weaker (λ r. IsOpen now r × Allows v r) (Allows (with_end now v)) (λ r k. still_allows now now v r k) rows (all_both (IsOpen now) (Allows v) rows opened h)
    ended_allows now start false v opened h = h

    one_change : (now : EventId) (c : Change) (vs : List Version) → AllByRecursion (IsOpen now) rows → AllByRecursion (AllAllow rows) vs → AllByRecursion (AllAllow rows) (changed now c vs)
    unfolding started ended
    one_change now (Starts values) vs opened h =
        all_inserted (AllAllow rows) start_cmp (new_version now values) vs (all_weaker (IsOpen now) (Allows (new_version now values)) (λ r k. open_allows now (new_version now values) refl r k) rows opened) h
    one_change now (Ends start) vs opened h =
        all_map (AllAllow rows) (AllAllow rows) (λ v. if same_event v.start start then with_end now v else v) (λ v k. ended_allows now start (same_event v.start start) v opened k) vs h

    all_changes : (tx seq : ℕ) (cs : List Change) (vs : List Version) → AllByRecursion (IsOpen (tx, seq)) rows → AllByRecursion (AllAllow rows) vs → AllByRecursion (AllAllow rows) (changed_all tx seq cs vs)
    unfolding changed_all
    all_changes tx seq [] vs opened h = h
    all_changes tx seq (c ∷ cs) vs opened h =
        all_changes tx (seq + 1) cs (changed (tx, seq) c vs)
        (all_weaker (IsOpen (tx, seq)) (IsOpen (tx, seq + 1)) (λ r k. record { earlier = later r.place tx seq k.earlier; there = k.there }) rows opened)
        (one_change (tx, seq) c vs opened h)

  not_gone_by_kind : (kind : TableKind) → (int_eq (pos (kind_code kind)) (pos 3) || int_eq (pos (kind_code kind)) (pos 4)) ≡ true → ⊥
  not_gone_by_kind AppendOnly e = cc
  not_gone_by_kind Updatable e = cc

  new_not_gone : (p : EventPlace) (def : TableDef) → says_gone (row_of_table p (table_row def)) ≡ true → ⊥
  unfolding table_row
  new_not_gone p def e = not_gone_by_kind def.kind e

  -- the rows about a table that stands
  all_open : (now : EventId) (x : Catalog) → StandBefore (at_event place now) x.rows → TablesTold x → (def : TableDef) → Stands x def → AllByRecursion (IsOpen now) (tables_about x.rows (pos def.id))
  all_open now x before told def st =
      let one = its_one_row x def st.there (told def st.among) in
      let there : AllByRecursion (λ (r : PlacedRow). says_gone r ≡ true → ⊥) (tables_about x.rows (pos def.id)) =
      of_any_order (λ (r : PlacedRow). says_gone r ≡ true → ⊥) _ _ (IsPermutation-sym _ _ one.1) (new_not_gone one.0 def, tt) in
      let earlier : AllByRecursion (λ (r : PlacedRow). stands_before r.place (at_event place now) ≡ true) (tables_about x.rows (pos def.id)) =
      all_filter (λ (r : PlacedRow). stands_before r.place (at_event place now) ≡ true) (is_about_table (pos def.id)) x.rows.tables before.tables in
      all_weaker (λ (r : PlacedRow). (stands_before r.place (at_event place now) ≡ true) × (says_gone r ≡ true → ⊥)) (IsOpen now) (λ r k. record { earlier = k.0; there = k.1 }) _
      (all_both (λ (r : PlacedRow). stands_before r.place (at_event place now) ≡ true) (λ (r : PlacedRow). says_gone r ≡ true → ⊥) _ earlier there)

  rows_of_one : (x : Catalog) (id : ℕ) (tx seq : ℕ) (cs : List Change) → AllByRecursion (IsOpen (tx, seq)) (tables_about x.rows (pos id)) → (b : Bool) (t : Table) → (t.def.id == id) ≡ b → AllAllowed x t
      → AllAllowed x (if b then with_versions (changed_all tx seq cs) t else t)
  rows_of_one x id tx seq cs opened true t e h =
      all_changes (tables_about x.rows (pos t.def.id)) tx seq cs t.versions
      (subst (λ (n : ℕ). AllByRecursion (IsOpen (tx, seq)) (tables_about x.rows (pos n))) (sym (eqb-true t.def.id id e)) opened) h
  rows_of_one x id tx seq cs opened false t e h = h

  rows_allowed : (x : Catalog) (id : ℕ) (tx seq : ℕ) (cs : List Change) → AllByRecursion (IsOpen (tx, seq)) (tables_about x.rows (pos id)) → (us : Tables) → AllByRecursion (AllAllowed x) us
      → AllByRecursion (AllAllowed x) (changed_table id (changed_all tx seq cs) us)
  rows_allowed x id tx seq cs opened us h =
      all_map (AllAllowed x) (AllAllowed x) (λ t. if t.def.id == id then with_versions (changed_all tx seq cs) t else t) (λ t k. rows_of_one x id tx seq cs opened (t.def.id == id) t refl k) us h

  -- ---- each statement

  pub while_there_kept : UsersKeep place WhileThere
  while_there_kept = record {
    table_created = λ now x y us around at c def passed entered defs h. record {
      told = tables_told_kept.table_created (at_event place now) x y around c def passed entered defs h.told;
      allowed = created_allowed (at_event place now) x y us at.defs around.before.ids c def passed _ entered h.allowed;
    };
    index_created = λ now x y us around at c i passed st entered defs h. record {
      told = tables_told_kept.index_created (at_event place now) x y around c i passed st entered defs h.told;
      allowed = redefined_allowed y _ us (all_alike (at_event place now) x y _ us entered h.allowed);
    };
    column_added = λ now x y us around at table c w a st change next entered h. record {
      told = tables_told_kept.column_added (at_event place now) x y around table c w a st change next entered h.told;
      allowed = redefined_allowed y _ us (all_alike (at_event place now) x y _ us entered.rows h.allowed);
    };
    column_dropped = λ now x y us around at table name w d st change next entered h. record {
      told = tables_told_kept.column_dropped (at_event place now) x y around table name w d st change next entered h.told;
      allowed = redefined_allowed y _ us (all_alike (at_event place now) x y _ us entered.rows h.allowed);
    };
    table_dropped = λ now x y us around at name def d st change next entered defs h. record {
      told = tables_told_kept.table_dropped (at_event place now) x y around name def d st change next entered defs h.told;
      allowed = redefined_allowed y _ us (all_one_more now x y (dropped_table d.found.0) change next.above entered us at.kept h.allowed);
    };
    rows_changed = λ now x us ground before at stmt def passed st c is h. record {
      told = h.told;
      allowed = rows_allowed x def.id now.0 now.1 c.0 (all_open now x before h.told def st) us h.allowed;
    };
  }

  pub nothing_there : WhileThere nothing []
  nothing_there = record { told = first_tables_told; allowed = tt }

-- ---- so the rule is kept

no_change : (p : EventPlace) (def : TableDef) → has_no_change 0 (row_of_table p (table_row def)) ≡ true
unfolding table_row
no_change p def = refl

-- each table has a row that says that it was created
has_first : (x : Catalog) (def : TableDef) → TableTold x def → list_any (has_no_change 0) (tables_about x.rows (pos def.id)) ≡ true
has_first x def (inl p) = list_any-IsPermutation (has_no_change 0) _ _ p.1.1 ∙ rw (no_change p.1.0 def) refl
has_first x def (inr two) = list_any-IsPermutation (has_no_change 0) _ _ two.rows ∙ rw (no_change two.first two.old) refl

module _ (place : ℕ → ℕ) (entries : List TxEntry) (same : (id : ℕ) → position_of entries id ≡ place id) where
  at_its_place : (e : EventId) → place_of entries e ≡ at_event place e
  at_its_place e = ap (λ (n : ℕ). (n, e.1)) (same e.0)

  module _ (v : Version) where
    first_before : (rows : List PlacedRow) → AllByRecursion (Allows place v) rows → list_any (has_no_change 0) rows ≡ true → list_any (λ r. has_no_change 0 r && is_before_event entries v.start r) rows ≡ true
    first_before [] all e = e
    first_before (r ∷ rs) all e = elim (or_cases (has_no_change 0 r) (list_any (has_no_change 0) rs) e) [
      | inl is ↦ (let b : is_before_event entries v.start r ≡ true = ap (stands_before r.place) (at_its_place v.start) ∙ all.0.created is in rw (is, b) refl)
      | inr more ↦ or_second (has_no_change 0 r && is_before_event entries v.start r) _ (first_before rs all.1 more)
    ]

    isnt_before : (r : PlacedRow) (e : EventId) → stands_before (at_event place e) r.place ≡ true → is_before_event entries e r ≡ false
    isnt_before r e h = here (stands_before r.place (place_of entries e)) refl
      where
        here : (b : Bool) → stands_before r.place (place_of entries e) ≡ b → b ≡ false
        here true is = absurd (never_both r.place (at_event place e) (ap (stands_before r.place) (sym (at_its_place e)) ∙ is) h)
        here false is = refl

    isnt_before_end : (r : PlacedRow) (o : Option EventId) → IfSome o (λ e. stands_before (at_event place e) r.place ≡ true) → is_before_end entries o r ≡ false
    isnt_before_end r None h = refl
    isnt_before_end r (Some e) h = isnt_before r e h

    none_after : (r : PlacedRow) → Allows place v r → not (says_gone r && (is_before_event entries v.start r || is_before_end entries v.end r)) ≡ true
    none_after r h = here (says_gone r) refl
      where
        here : (b : Bool) → says_gone r ≡ b → not (b && (is_before_event entries v.start r || is_before_end entries v.end r)) ≡ true
        here true e = ap not (false_or _ _ (isnt_before r v.start (h.start e)) (isnt_before_end r v.end (h.end e)))
        here false e = refl

    all_after : (rows : List PlacedRow) → AllByRecursion (Allows place v) rows
        → list_all (λ r. not (says_gone r && (is_before_event entries v.start r || is_before_end entries v.end r))) rows ≡ true
    all_after [] all = refl
    all_after (r ∷ rs) all = both _ _ (none_after r all.0) (all_after rs all.1)

    allowed_there : (x : Catalog) (def : TableDef) → TableTold x def → AllByRecursion (Allows place v) (tables_about x.rows (pos def.id)) → is_while_the_table_is_there entries x.rows (pos def.id) v ≡ true
    unfolding is_while_the_table_is_there
    allowed_there x def told all = both _ _ (first_before (tables_about x.rows (pos def.id)) all (has_first x def told)) (all_after (tables_about x.rows (pos def.id)) all)

-- all versions of a table start and end while it is there
abbrev pub AreThere : List TxEntry → CatalogRows → Table → Type 0
AreThere entries rows t = AllByRecursion (λ v. is_while_the_table_is_there entries rows (pos t.def.id) v ≡ true) t.versions

module _ (place : ℕ → ℕ) (entries : List TxEntry) (same : (id : ℕ) → position_of entries id ≡ place id) (x : Catalog) where
  all_there : (us : Tables) → ((def : TableDef) → IsAmong def (defs_of us) → TableTold x def) → AllByRecursion (AllAllowed place x) us → AllByRecursion (AreThere entries x.rows) us
  all_there [] told all = tt
  all_there (t ∷ ts) told all = (
    all_weaker (AllAllow place (tables_about x.rows (pos t.def.id))) (λ v. is_while_the_table_is_there entries x.rows (pos t.def.id) v ≡ true)
        (λ v k. allowed_there place entries same v x t.def (told t.def (inl refl)) k) t.versions all.0,
    all_there ts (λ def among. told def (inr among)) all.1,
  )

users_defs : (place : ℕ → ℕ) (T : Tables) → defs_of (users_of T) ≡ (catalog_of place T).defs
users_defs place [] = refl
users_defs place (a ∷ []) = refl
users_defs place (a ∷ b ∷ ts) = refl

pub legal_there : (reads : Reading) → ReadsWritten reads → (items : List JournalItem) → IsLegal reads items → (entries : List TxEntry) → ((id : ℕ) → position_of entries id ≡ place_in items id)
    → let T : Tables = serial reads items in AllByRecursion (AreThere entries (catalog_of (place_in items) T).rows) (users_of T)
legal_there reads written items legal entries same =
    let place = place_in items in
    let T : Tables = serial reads items in
    let x : Catalog = catalog_of place T in
    let w : WhileThere place x (users_of T) = legal_users items (WhileThere place) (while_there_kept place) (nothing_there place) reads written legal in
    all_there place entries same x (users_of T) (λ def among. w.told def (subst (IsAmong def) (users_defs place T) among)) w.allowed
