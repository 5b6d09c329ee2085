-- What a statement that passes what is checked before any row wants in the cell of the table that it found.
use Rattle.std.proofs.Common.{◌≡◌, [], ◌∷◌, Option, Some, None, Ok, Err, refl, sym, ap, ◌∙◌}
use Rattle.sql_value.specs.declared.refusal.Refusal.TheVariants.{NoSuchTable}
use Rattle.sql_types.specs.declared.lock.LockRequest.{LockRequest}
use Rattle.sql_types.specs.declared.statement.RowStmt.{RowStmt}
use Rattle.sql_types.specs.declared.statement.RowStmt.TheVariants.{Insert, Update, Delete}
use Rattle.sql_types.specs.declared.statement.Select.{Select}
use Rattle.sql_types.specs.declared.statement.Stmt.{Stmt}
use Rattle.sql_types.specs.declared.statement.Stmt.TheVariants as stmt
use Rattle.sql_types.specs.declared.table.TableDef.{TableDef}
use Rattle.spec_model.specs.Catalog.{Defs, NamedPart, find_part}
use Rattle.spec_model.specs.Checks as checks
use Rattle.spec_model.specs.Checks.{row_statement_check}
use Rattle.spec_model.specs.Locks.{cell_requests, query_cell_requests, row_cell_requests, row_requests}
use Rattle.spec_model.specs.Parts.{columns_of}
use Rattle.spec_model.specs.Query.{query_check, select_check}
use Rattle.spec_model.specs.Refusals.{Checked, and_then, or_refused}
use Rattle.spec_history.specs.Lists.{Text, In}
use Rattle.spec_protocol.specs.Answering.{error_of, refused_by_check}
use Rattle.spec_protocol.specs.LocksCover.{name_of}
use Rattle.spec_protocol.specs.TableVisits.{requests_here}
use Rattle.law_protocol_steps.proofs.NewLine.{found_alone, same_check}
use Rattle.law_protocol_tables.proofs.RowsVisits.{same_query}

passed : {A : Type 0} (m : Checked A) (def : TableDef) → error_of (and_then m (λ a. Ok def)) ≡ None → and_then m (λ a. Ok def) ≡ Ok def
passed (Ok a) def e = refl
passed (Err r) def e = cc

passed_named : {A : Type 0} (m : Checked A) (n : NamedPart) → error_of (and_then m (λ a. Ok n)) ≡ None → and_then m (λ a. Ok n) ≡ Ok n
passed_named (Ok a) n e = refl
passed_named (Err r) n e = cc

row_passes : (named : NamedPart) (row : RowStmt) → find_part (named.0 ∷ []) (checks.table_of row) ≡ Some named → error_of (row_statement_check (named.0 ∷ []) row) ≡ None → row_statement_check (named.0 ∷ []) row ≡ Ok named.0
unfolding row_statement_check
row_passes named row f e = same ∙ passed (checks.row_check row named.0 named.1) named.0 (ap error_of (sym same) ∙ e)
  where
    same : row_statement_check (named.0 ∷ []) row ≡ and_then (checks.row_check row named.0 named.1) (λ a. Ok named.0)
    same = ap (λ (o : Option NamedPart). and_then (or_refused NoSuchTable o) (λ n. and_then (checks.row_check row n.0 n.1) (λ a. Ok n.0))) f

query_passes : (named : NamedPart) (q : Select) → find_part (named.0 ∷ []) q.table ≡ Some named → error_of (query_check (named.0 ∷ []) q) ≡ None → query_check (named.0 ∷ []) q ≡ Ok named
unfolding query_check
query_passes named q f e = same ∙ passed_named (select_check (columns_of named.0 named.1) q) named (ap error_of (sym same) ∙ e)
  where
    same : query_check (named.0 ∷ []) q ≡ and_then (select_check (columns_of named.0 named.1) q) (λ a. Ok named)
    same = ap (λ (o : Option NamedPart). and_then (or_refused NoSuchTable o) (λ n. and_then (select_check (columns_of n.0 n.1) q) (λ a. Ok n))) f

-- what it wants in the cell of the table that it found is what it wants over all definitions
pub requests_found : (D : Defs) (named : NamedPart) (d : Stmt) (name : Text) → name_of d ≡ Some name → find_part D name ≡ Some named → refused_by_check (Some named) d ≡ None → (w : LockRequest) → In w (requests_here named d)
    → cell_requests D d ≡ Some (named.0.id, requests_here named d)
unfolding cell_requests
requests_found D named (stmt.Change row) name e f p w i = by row e refl
  where
    found_so : (table : Text) → table ≡ name → find_part D table ≡ Some named
    found_so table same = ap (find_part D) same ∙ f

    checked : (table : Text) → checks.table_of row ≡ table → table ≡ name → row_statement_check D row ≡ Ok named.0
    checked table is same = let g = found_so (checks.table_of row) (is ∙ same) in
        sym (same_check D row named g) ∙ row_passes named row (found_alone D (checks.table_of row) named g) p

    by : (r : RowStmt) → name_of (stmt.Change r) ≡ Some name → row ≡ r → row_cell_requests row (row_statement_check D row) ≡ Some (named.0.id, row_requests named.0 row)
    by (Insert table names rs) h is = ap (row_cell_requests row) (checked table (ap checks.table_of is) cc)
    by (Update table sets cond) h is = ap (row_cell_requests row) (checked table (ap checks.table_of is) cc)
    by (Delete table cond) h is = ap (row_cell_requests row) (checked table (ap checks.table_of is) cc)
requests_found D named (stmt.Select q) name e f p w i =
    let same : q.table ≡ name = cc in let g : find_part D q.table ≡ Some named = ap (find_part D) same ∙ f in
    ap (query_cell_requests q) (sym (same_query D q named g) ∙ query_passes named q (found_alone D q.table named g) p)
requests_found D named d name e f p w i = absurd i
