-- Worked examples: which keys conditions fix, and what statements want in a table's cell.
use Rattle.std.proofs.Common.{◌≡◌, ◌∙◌, refl, ap}
use Rattle.std.specs.Prelude.{negsuc, [], ◌∷◌, ◌++◌, codes, Some, None, Ok}
use Rattle.sql_value.specs.declared.value.Value.TheVariants as val
use Rattle.sql_value.specs.declared.sql_type.SqlType.TheVariants.{Int, Date}
use Rattle.sql_value.specs.declared.expr.Expr.TheVariants.{Bin}
use Rattle.sql_value.specs.declared.expr.Op.TheVariants as op
use Rattle.sql_value.specs.Conversion.{conversion_of}
use Rattle.sql_value.specs.Day.{civil, day_of, number_of, written_date}
use Rattle.sql_value.specs.Number.{raised}
use Rattle.sql_value.specs.Order.{value_cmp}
use Rattle.sql_value.specs.Stored.{is_in_range}
use Rattle.sql_value.specs.Tree.{Tree, literal, binary, tree}
use Rattle.sql_value.specs.Tree as t
use Rattle.sql_types.specs.declared.lock.Mode.TheVariants.{IX, S, X}
use Rattle.sql_types.specs.declared.statement.RowStmt.TheVariants.{Delete}
use Rattle.sql_types.specs.declared.statement.Stmt.TheVariants as s
use Rattle.spec_model.specs.Catalog.{defs_of, find_part}
use Rattle.spec_model.specs.Checks.{delete_check, row_statement_check, sets_check, update_check}
use Rattle.spec_model.specs.Create.{table_def}
use Rattle.spec_model.specs.Keys.{key_places}
use Rattle.spec_model.specs.Locks.{cell_requests, of_key, query_requests, row_requests, whole}
use Rattle.spec_model.specs.Query.{query_check, select_check}
use Rattle.spec_model.specs.SystemTables.{first_tables}
use Rattle.spec_model.specs.Where.{key_fixed}
use Rattle.test_samples.specs.Samples.{all_of, create_t, def_t, delete_1, id_is, key_column, nested, num, one_or_other, update_5, update_t, v_is}
use Rattle.test_samples.proofs.Worked.{is_literal_beside, is_plus_one, of_binary, select_5_fixes, update_checked}

-- ---- keys

pub negative_fixed : key_fixed (key_column (codes "id") Int ∷ []) (Some (id_is (val.Num 0 (negsuc 4)))) ≡ Some (val.Num 0 (negsuc 4) ∷ [])
unfolding key_fixed key_places conversion_of is_in_range value_cmp raised
negative_fixed = rw (is_literal_beside (codes "id") (val.Num 0 (negsuc 4))) refl

pub date_fixed : key_fixed (key_column (codes "id") Date ∷ []) (Some (id_is (val.Text (codes "2020-02-29")))) ≡ Some (val.Date (number_of (civil 2020 2 29)) ∷ [])
unfolding key_fixed key_places conversion_of is_in_range value_cmp raised day_of written_date
date_fixed = rw (is_literal_beside (codes "id") (val.Text (codes "2020-02-29"))) refl

abbrev nested_tree : Tree
nested_tree =
    binary op.And
    (binary op.And (binary op.Eq (t.column (codes "v")) (literal (num 1))) (binary op.Eq (t.column (codes "id")) (literal (num 5))))
    (binary op.Eq (t.column (codes "v")) (literal (num 2)))

is_nested : tree nested ≡ nested_tree
is_nested =
    of_binary op.And (Bin op.And (v_is (num 1)) (id_is (num 5))) (v_is (num 2))
    ∙ ap (λ x. binary op.And x (tree (v_is (num 2)))) (of_binary op.And (v_is (num 1)) (id_is (num 5)))
    ∙ rw (is_literal_beside (codes "v") (num 1), is_literal_beside (codes "id") (num 5), is_literal_beside (codes "v") (num 2)) refl

pub nested_fixed : key_fixed (key_column (codes "id") Int ∷ []) (Some nested) ≡ Some (num 5 ∷ [])
unfolding key_fixed key_places conversion_of is_in_range value_cmp raised
nested_fixed = rw is_nested refl

pub or_not_fixed : key_fixed (key_column (codes "id") Int ∷ []) (Some one_or_other) ≡ None
unfolding key_fixed key_places
or_not_fixed = rw (of_binary op.Or (id_is (num 5)) (id_is (num 6))) refl

-- ---- wants

update_5_checked : row_statement_check (defs_of first_tables ++ def_t ∷ []) update_5 ≡ Ok def_t
unfolding first_tables value_cmp raised is_in_range conversion_of find_part key_places update_check sets_check row_statement_check table_def
update_5_checked = rw (is_plus_one, is_literal_beside (codes "id") (num 5)) refl

pub update_key : cell_requests (defs_of first_tables ++ def_t ∷ []) (s.Change update_5) ≡ Some (3, whole IX ∷ of_key X (num 5 ∷ []) ∷ [])
unfolding cell_requests row_requests
update_key = rw (update_5_checked, select_5_fixes) refl

pub update_all : cell_requests (defs_of first_tables ++ def_t ∷ []) update_t ≡ Some (3, whole X ∷ [])
unfolding cell_requests row_requests key_fixed
update_all = rw update_checked refl

delete_1_checked : row_statement_check (defs_of first_tables ++ def_t ∷ []) (Delete (codes "t") (Some (id_is (num 1)))) ≡ Ok def_t
unfolding first_tables value_cmp raised is_in_range conversion_of find_part key_places delete_check row_statement_check table_def
delete_1_checked = rw (is_literal_beside (codes "id") (num 1)) refl

delete_1_fixes : key_fixed def_t.columns (Some (id_is (num 1))) ≡ Some (num 1 ∷ [])
unfolding key_fixed key_places conversion_of is_in_range value_cmp raised
delete_1_fixes = rw (is_literal_beside (codes "id") (num 1)) refl

pub delete_key : cell_requests (defs_of first_tables ++ def_t ∷ []) delete_1 ≡ Some (3, whole IX ∷ of_key X (num 1 ∷ []) ∷ [])
unfolding cell_requests row_requests
delete_key = rw (delete_1_checked, delete_1_fixes) refl

pub create_nowhere : cell_requests (defs_of first_tables ++ def_t ∷ []) create_t ≡ None
unfolding cell_requests
create_nowhere = refl

pub history_whole : cell_requests (defs_of first_tables ++ def_t ∷ []) (all_of (codes "MSSQL_LedgerHistoryFor_3")) ≡ Some (3, whole S ∷ [])
unfolding first_tables cell_requests query_requests find_part query_check select_check
history_whole = refl

pub view_whole : cell_requests (defs_of first_tables ++ def_t ∷ []) (all_of (codes "t_Ledger")) ≡ Some (3, whole S ∷ [])
unfolding first_tables cell_requests query_requests find_part query_check select_check
view_whole = refl

pub system_none : cell_requests (defs_of first_tables ++ def_t ∷ []) (all_of (codes "sys_ledger_columns")) ≡ Some (2, [])
unfolding first_tables cell_requests query_requests find_part query_check select_check
system_none = refl
