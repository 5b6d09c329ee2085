-- What a statement of rows gets in the catalog, by its name and by its checks.
use Rattle.std.proofs.Common.{◌≡◌, ◌≢◌, ◌⊎◌, ℕ, true, false, List, [], ◌∷◌, Option, Some, None, Ok, Err, refl, sym, ap, ◌∙◌, subst, inl, inr}
use Rattle.std.specs.Prelude.{not, IsErrAnd}
use Rattle.sql_value.specs.declared.column.ColumnDef.{ColumnDef}
use Rattle.sql_value.specs.declared.refusal.Refusal.{Refusal}
use Rattle.sql_value.specs.declared.refusal.Refusal.TheVariants.{NoSuchTable, NameConflict, ReadOnlyTable, LimitExceeded, NoMemory}
use Rattle.sql_types.specs.declared.statement.RowStmt.{RowStmt}
use Rattle.sql_types.specs.declared.statement.RowStmt.TheVariants.{Insert, Update, Delete}
use Rattle.sql_types.specs.declared.statement.Select.{Select}
use Rattle.sql_types.specs.declared.statement.Stmt.TheVariants as st
use Rattle.sql_types.specs.declared.table.Part.{Part}
use Rattle.sql_types.specs.declared.table.Part.TheVariants.{Base, History, View, System}
use Rattle.sql_types.specs.declared.table.TableDef.{TableDef}
use Rattle.spec_model.specs.Catalog.{Defs, NamedPart, find_part, or_in, part_named}
use Rattle.spec_model.specs.Checks.{delete_check, insert_check, is_standing, row_check, row_statement_check, table_of, update_check}
use Rattle.spec_model.specs.Effect.{query_rows}
use Rattle.spec_model.specs.Parts.{columns_of}
use Rattle.spec_model.specs.Query.{query_check, select_check}
use Rattle.spec_model.specs.Refusals.{Checked, MatchesUnlessOom, and_then, or_refused}
use Rattle.spec_model.specs.Rows.{Row}
use Rattle.law_frame.proofs.Checked.{not_refused, was_passed}
use Rattle.server_session.specs.Answering.{error_of, refused_by_check}
use Rattle.server_session.specs.Cells.{Catalog, CatalogCell, versions_in}
use Rattle.server_session.specs.LocksCover.{name_of}
use Rattle.server_visit_catalog.specs.InCatalog.{is_system, Gets, IsBlocked, IsFound, IsShown}
use Rattle.server_visit_catalog.specs.declared.got.LookupResult.{LookupResult}

-- ---- the check over the found definition alone

one_found : (name : List ℕ) (f : NamedPart) (defs : Defs) → find_part defs name ≡ Some f → find_part (f.0 ∷ []) name ≡ Some f
unfolding find_part
one_found name f [] is = absurd cc
one_found name f (d ∷ defs) is = by_part (part_named d name) refl is (one_found name f defs)
  where
    by_part : (p : Option Part) → part_named d name ≡ p → or_in p d (find_part defs name) ≡ Some f → (find_part defs name ≡ Some f → or_in (part_named f.0 name) f.0 None ≡ Some f) → or_in (part_named f.0 name) f.0 None ≡ Some f
    by_part (Some p) same is rec = let e : (d, p) ≡ f = cc in subst (λ (g : NamedPart). or_in (part_named g.0 name) g.0 None ≡ Some g) e (ap (λ (z : Option Part). or_in z d None) same)
    by_part None same is rec = rec is

check_row : (row : RowStmt) (f : NamedPart) → find_part (f.0 ∷ []) (table_of row) ≡ Some f → row_statement_check (f.0 ∷ []) row ≡ and_then (row_check row f.0 f.1) (λ passed. Ok f.0)
unfolding row_statement_check
check_row row f is = ap (λ (n : Option NamedPart). and_then (or_refused NoSuchTable n) (λ n. and_then (row_check row n.0 n.1) (λ passed. Ok n.0))) is

check_query : (q : Select) (f : NamedPart) (defs : Defs) → find_part defs q.table ≡ Some f → query_check defs q ≡ and_then (select_check (columns_of f.0 f.1) q) (λ passed. Ok f)
unfolding query_check
check_query q f defs is = ap (λ (n : Option NamedPart). and_then (or_refused NoSuchTable n) (λ n. and_then (select_check (columns_of n.0 n.1) q) (λ passed. Ok n))) is

pub same_table : (row : RowStmt) → name_of (st.Change row) ≡ Some (table_of row)
same_table (Insert table names rows) = refl
same_table (Update table sets cond) = refl
same_table (Delete table cond) = refl

-- ---- nothing has its name

unknown_row : (row : RowStmt) → row_statement_check [] row ≡ Err NoSuchTable
unfolding row_statement_check find_part
unknown_row row = refl

unknown_query : (q : Select) → query_check [] q ≡ Err NoSuchTable
unfolding query_check find_part
unknown_query q = refl

pub unknown_change : (c : CatalogCell) (row : RowStmt) → find_part c.defs (table_of row) ≡ None → IsBlocked c (st.Change row) NoSuchTable
unknown_change c row is = record {
  name = table_of row;
  named = same_table row;
  fails = ap (λ (n : Option NamedPart). refused_by_check n (st.Change row)) is ∙ ap error_of (unknown_row row);
}

pub unknown_select : (c : CatalogCell) (q : Select) → find_part c.defs q.table ≡ None → IsBlocked c (st.Select q) NoSuchTable
unknown_select c q is = record {
  name = q.table;
  named = refl;
  fails = ap (λ (n : Option NamedPart). refused_by_check n (st.Select q)) is ∙ ap error_of (unknown_query q);
}

-- ---- its checks

pub blocked_change : (c : CatalogCell) (row : RowStmt) (def : TableDef) (part : Part) (e : Refusal) → find_part c.defs (table_of row) ≡ Some (def, part) → row_check row def part ≡ Err e → IsBlocked c (st.Change row) e
blocked_change c row def part e is fails = record {
  name = table_of row;
  named = same_table row;
  fails = ap (λ (n : Option NamedPart). refused_by_check n (st.Change row)) is
      ∙ ap error_of (check_row row (def, part) (one_found (table_of row) (def, part) c.defs is) ∙ ap (λ (m : Checked (Unit {0})). and_then m (λ passed. Ok def)) fails);
}

pub blocked_select : (c : CatalogCell) (q : Select) (def : TableDef) (part : Part) (e : Refusal) → find_part c.defs q.table ≡ Some (def, part) → select_check (columns_of def part) q ≡ Err e → IsBlocked c (st.Select q) e
blocked_select c q def part e is fails = record {
  name = q.table;
  named = refl;
  fails = ap (λ (n : Option NamedPart). refused_by_check n (st.Select q)) is
      ∙ ap error_of (check_query q (def, part) (def ∷ []) (one_found q.table (def, part) c.defs is) ∙ ap (λ (m : Checked (Unit {0})). and_then m (λ passed. Ok (def, part))) fails);
}

base_alone : (def : TableDef) (part : Part) → not (is_standing def part) ≡ false → part ≢ System
base_alone def Base e = λ f. cc
base_alone def History e = absurd cc
base_alone def View e = absurd cc
base_alone def System e = absurd cc

on_base : (row : RowStmt) (def : TableDef) (part : Part) → row_check row def part ≡ Ok tt → part ≢ System
unfolding insert_check update_check delete_check
on_base (Insert table names rows) def part e = base_alone def part (was_passed _ ReadOnlyTable _ tt (not_refused _ LimitExceeded _ tt (not_refused _ NameConflict _ tt e)))
on_base (Update table sets cond) def part e = base_alone def part (was_passed _ ReadOnlyTable _ tt (not_refused _ NameConflict _ tt e))
on_base (Delete table cond) def part e = base_alone def part (was_passed _ ReadOnlyTable _ tt e)

pub found_change : (c : CatalogCell) (row : RowStmt) (def : TableDef) (part : Part) → find_part c.defs (table_of row) ≡ Some (def, part) → row_check row def part ≡ Ok tt → IsFound c (st.Change row) (def, part)
found_change c row def part is passes = record {
  name = table_of row;
  named = same_table row;
  finds = is;
  passes = ap error_of (check_row row (def, part) (one_found (table_of row) (def, part) c.defs is) ∙ ap (λ (m : Checked (Unit {0})). and_then m (λ passed. Ok def)) passes);
  of_rows = tt;
  of_user = on_base row def part passes;
}

pub found_select : (c : CatalogCell) (q : Select) (def : TableDef) (part : Part) → find_part c.defs q.table ≡ Some (def, part) → part ≢ System → select_check (columns_of def part) q ≡ Ok tt → IsFound c (st.Select q) (def, part)
found_select c q def part is ne passes = record {
  name = q.table;
  named = refl;
  finds = is;
  passes = ap error_of (check_query q (def, part) (def ∷ []) (one_found q.table (def, part) c.defs is) ∙ ap (λ (m : Checked (Unit {0})). and_then m (λ passed. Ok (def, part))) passes);
  of_rows = tt;
  of_user = ne;
}

-- ---- a system table is read

module _ (c : CatalogCell) (q : Select) (def : TableDef) (is : find_part c.defs q.table ≡ Some (def, System)) (m : Checked (List Row))
    (reads : (def : TableDef) → query_check c.defs q ≡ Ok (def, System) → MatchesUnlessOom (query_rows q (def, System) (versions_in def.id (Catalog c))) m)
    (refuses : (e : Refusal) → query_check c.defs q ≡ Err e → MatchesUnlessOom (Err e) m) where
  checked : (k : Checked (Unit {0})) → select_check (columns_of def System) q ≡ k → query_check c.defs q ≡ and_then k (λ passed. Ok (def, System))
  checked k e = check_query q (def, System) c.defs is ∙ ap (λ (m : Checked (Unit {0})). and_then m (λ passed. Ok (def, System))) e

  pub shown_rows : (rows : List Row) → m ≡ Ok rows → IsShown c (st.Select q) (Ok rows)
  shown_rows rows e = by (select_check (columns_of def System) q) refl
    where
      by : (k : Checked (Unit {0})) → select_check (columns_of def System) q ≡ k → IsShown c (st.Select q) (Ok rows)
      by (Ok u) f = record { q = q; selects = refl; def = def; passes = checked (Ok u) f; reads = subst (MatchesUnlessOom (query_rows q (def, System) (versions_in def.id (Catalog c)))) e (reads def (checked (Ok u) f)) }
      by (Err r) f = absurd (let no : Err r ≡ Ok rows = subst (MatchesUnlessOom (Err r)) e (refuses r (checked (Err r) f)) in cc)

  pub unread_rows : (e : Refusal) → m ≡ Err e → e ≢ NoMemory → IsBlocked c (st.Select q) e ⊎ IsShown c (st.Select q) (Err e)
  unread_rows e is_err ne = by (select_check (columns_of def System) q) refl
    where
      by : (k : Checked (Unit {0})) → select_check (columns_of def System) q ≡ k → IsBlocked c (st.Select q) e ⊎ IsShown c (st.Select q) (Err e)
      by (Ok u) f = inr (record { q = q; selects = refl; def = def; passes = checked (Ok u) f; reads = (subst (MatchesUnlessOom (query_rows q (def, System) (versions_in def.id (Catalog c)))) is_err (reads def (checked (Ok u) f))) ne })
      by (Err r) f = inl (let same : Err r ≡ Err e = (subst (MatchesUnlessOom (Err r)) is_err (refuses r (checked (Err r) f))) ne in
          let one : r ≡ e = cc in blocked_select c q def System e is (f ∙ ap (λ (u : Refusal). Err u) one))

-- ---- as the calls answer

pub system_or_not : (part : Part) → is_system part ≡ true → part ≡ System
system_or_not System e = refl
system_or_not Base e = absurd cc
system_or_not History e = absurd cc
system_or_not View e = absurd cc

pub not_system : (part : Part) → is_system part ≡ false → part ≢ System
not_system System e = absurd cc
not_system Base e = λ f. cc
not_system History e = λ f. cc
not_system View e = λ f. cc

pub change_err : (c : CatalogCell) (row : RowStmt) (def : TableDef) (part : Part) (g : Checked LookupResult) (e : Refusal) → IsErrAnd g (λ y. y ≡ e) → find_part c.defs (table_of row) ≡ Some (def, part)
    → (e ≢ NoMemory → row_check row def part ≡ Err e) → Gets c (st.Change row) g
change_err c row def part (Ok x) e k is f = absurd k
change_err c row def part (Err y) e k is f = λ ne. inl (subst (IsBlocked c (st.Change row)) (sym k) (blocked_change c row def part e is (f (λ z. ne (k ∙ z)))))

pub select_err : (c : CatalogCell) (q : Select) (def : TableDef) (part : Part) (columns : List ColumnDef) (g : Checked LookupResult) (e : Refusal) → IsErrAnd g (λ y. y ≡ e) → find_part c.defs q.table ≡ Some (def, part)
    → columns ≡ columns_of def part → Err e ≡ select_check columns q → Gets c (st.Select q) g
select_err c q def part columns (Ok x) e k is are f = absurd k
select_err c q def part columns (Err y) e k is are f = λ ne. inl (subst (IsBlocked c (st.Select q)) (sym k) (blocked_select c q def part e is (sym (f ∙ ap (λ (cs : List ColumnDef). select_check cs q) are))))

pub read_err : (c : CatalogCell) (q : Select) (def : TableDef) (g : Checked LookupResult) (e : Refusal) → IsErrAnd g (λ y. y ≡ e) → find_part c.defs q.table ≡ Some (def, System)
    → ((def : TableDef) → query_check c.defs q ≡ Ok (def, System) → MatchesUnlessOom (query_rows q (def, System) (versions_in def.id (Catalog c))) (Err e))
    → ((r : Refusal) → query_check c.defs q ≡ Err r → MatchesUnlessOom {A = List Row} (Err r) (Err e)) → Gets c (st.Select q) g
read_err c q def (Ok x) e k is reads refuses = absurd k
read_err c q def (Err y) e k is reads refuses = λ ne. subst (λ (z : Refusal). IsBlocked c (st.Select q) z ⊎ IsShown c (st.Select q) (Err z)) (sym k)
    (unread_rows c q def is (Err e) reads refuses e refl (λ z. ne (k ∙ z)))
