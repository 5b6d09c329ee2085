-- Worked examples: what is answered to small statements, closed by computation.
use Rattle.std.proofs.Common.{◌≡◌, ◌∙◌, ℕ, List, refl, ap, sym, arith}
use Rattle.std.specs.Prelude.{pos, negsuc, true, false, [], ◌∷◌, ◌++◌, codes, Option, Some, None, replicate, map, Ok, Err}
use Rattle.std.specs.Fmt.{digits}
use Rattle.std.specs.Str.{chars}
use Rattle.sql_value.specs.declared.value.Value.{Value}
use Rattle.sql_value.specs.declared.value.Value.TheVariants.{Null, Num, Text}
use Rattle.sql_value.specs.declared.column.TableKind.TheVariants.{AppendOnly, Updatable}
use Rattle.sql_value.specs.declared.sql_type.SqlType.TheVariants.{Bit, Int, BigInt, NVarChar, Decimal, Date}
use Rattle.sql_value.specs.declared.expr.Op.{Op}
use Rattle.sql_value.specs.declared.expr.Op.TheVariants as op
use Rattle.sql_value.specs.declared.expr.Expr.{Expr}
use Rattle.sql_value.specs.declared.expr.Expr.TheVariants.{Lit, Col, Bin, rolls-Lit, rolls-Col, rolls-Bin}
use Rattle.sql_value.specs.declared.expr.Expr.TheOpen.{Expr-F}
use Rattle.sql_value.specs.declared.expr.Expr.TheFolds.{fold-roll-Expr}
use Rattle.sql_value.specs.Tree.{Tree, literal, binary, tree, tree_step}
use Rattle.sql_value.specs.Tree as t
use Rattle.spec_model.specs.Evaluation.{meaning_of}
use Rattle.spec_model.specs.Numbers.{sum_of}
use Rattle.sql_value.specs.Stored.{is_in_range}
use Rattle.sql_value.specs.Conversion.{conversion_of}
use Rattle.sql_value.specs.Order.{value_cmp}
use Rattle.sql_value.specs.Number.{raised}
use Rattle.sql_value.specs.Text.{utf16_units}
use Rattle.sql_value.specs.Printed.{pointed, printed}
use Rattle.sql_types.specs.declared.statement.Stmt.TheVariants as s
use Rattle.sql_types.specs.declared.statement.Alter.TheVariants.{Add, DropColumn}
use Rattle.sql_types.specs.declared.table.Part.TheVariants.{Base}
use Rattle.sql_types.specs.declared.statement.RowStmt.TheVariants.{Insert, Delete, Update}
use Rattle.sql_types.specs.declared.reply.Reply.TheVariants as r
use Rattle.sql_value.specs.declared.refusal.Refusal.TheVariants.{NameConflict, NoSuchColumn, NullNotAllowed, DuplicateKey, NumberOutOfRange, ReadOnlyTable, KeyNotUpdatable, LimitExceeded}
use Rattle.sql_types.specs.declared.statement.SelectList.TheVariants.{All, Columns, Aggs}
use Rattle.sql_types.specs.declared.statement.Agg.TheVariants.{Count, Sum}
use Rattle.sql_types.specs.declared.lock.Mode.TheVariants.{IS, IX, S, X}
use Rattle.spec_model.specs.Locks.{conflict, same_item, key_inserted, row_requests, query_requests, cell_requests, clash, whole, of_key}
use Rattle.sql_value.specs.Number.{rounded_size}
use Rattle.sql_value.specs.Day.{day_of, written_date}
use Rattle.spec_model.specs.Catalog.{defs_of, find_part}
use Rattle.spec_model.specs.Rows.{started, ended}
use Rattle.spec_model.specs.Keys.{key_places, key_cmp, same_key, live_by_key_at, has_live_row_at, key_at}
use Rattle.spec_model.specs.Parts.{rows_of, columns_of}
use Rattle.spec_model.specs.Where.{holds, key_fixed}
use Rattle.spec_model.specs.Changes.{changed_all, Starts, Ends, kept, kept_row, arranged, is_duplicate, inserted_rows, versions_matched, row_after_set, row_changes}
use Rattle.spec_model.specs.Checks.{insert_check, values_check, listed_check, sets_check, update_check, delete_check, row_statement_check}
use Rattle.spec_model.specs.Query.{select_check, query_check, total, agg_value, selected}
use Rattle.spec_model.specs.SystemTables.{first_tables, table_row, column_rows, index_rows, changed_table_row, changed_column_row}
use Rattle.spec_model.specs.Alter.{alter_check, drop_check, dropped_table, next_change}
use Rattle.spec_model.specs.Create.{table_def, create_check, index_check}
use Rattle.spec_model.specs.Effect.{query_rows, effect}
use Rattle.spec_model.specs.Replies.{reply_lines, reply_text}
use Rattle.sql_types.specs.declared.event.Event.{Event}
use Rattle.spec_model.specs.Events.{events_of, all_events}
use Rattle.sql_value.specs.declared.refusal.ValueErr.TheVariants.{Mismatch}
use Rattle.spec_model.specs.Script.{saves, rolls_back_to, text_step, script_from, script}
use Rattle.test_samples.specs.Samples.{column, create, create_t, add_to_t, drop_of_t, insert, all_of, num, answers, plus_one, typed, version, key_column, def_t, with_t, update_t, id_is, listed, create_x, select, four, answer, index_on, made_tables, delete_1, create_balance, def_balance, of_nick, balance, set_100, select_5, read_in, texts, in_script, by_themselves, each_alone, in_journal, journal, wide_def, wide_tables, wide, nines, wide_where, wide_select, doubled_is_positive, pairs}
use Rattle.spec_model.specs.Journals.{IsLegal}

pub of_literal : (v : Value) → tree (Lit v) ≡ literal v
of_literal v = ap tree (sym (rolls-Lit v)) ∙ fold-roll-Expr Tree tree_step (Expr-F.Lit v)

pub of_column : (name : List ℕ) → tree (Col name) ≡ t.column name
of_column name = ap tree (sym (rolls-Col name)) ∙ fold-roll-Expr Tree tree_step (Expr-F.Col name)

pub of_binary : (o : Op) (a b : Expr) → tree (Bin o a b) ≡ binary o (tree a) (tree b)
of_binary o a b = ap tree (sym (rolls-Bin o a b)) ∙ fold-roll-Expr Tree tree_step (Expr-F.Bin o a b)

pub system_columns : answers first_tables 1 (create_t ∷ insert (codes "t") ((num 1 ∷ num 10 ∷ []) ∷ []) ∷ all_of (codes "sys_ledger_columns") ∷ [])
    ≡ (codes "made" ∷ []) ∷ (codes "1 rows" ∷ [])
    ∷ (codes "3|1|0|N'id'|2|0|0|0|1" ∷ codes "3|2|0|N'v'|2|0|0|1|0" ∷ codes "2 rows" ∷ []) ∷ []
unfolding chars digits value_cmp raised utf16_units pointed printed is_in_range conversion_of find_part started ended key_places key_at key_cmp same_key has_live_row_at live_by_key_at rows_of holds key_fixed changed_all kept kept_row arranged is_duplicate inserted_rows versions_matched row_after_set row_changes insert_check values_check listed_check update_check sets_check delete_check row_statement_check select_check query_check total agg_value selected first_tables table_row column_rows index_rows table_def create_check index_check query_rows effect reply_lines reply_text
system_columns = refl

abbrev plus_one_tree : Tree
plus_one_tree = binary op.Add (t.column (codes "v")) (literal (num 1))

pub is_plus_one : tree plus_one ≡ plus_one_tree
is_plus_one = of_binary op.Add (Col (codes "v")) (Lit (num 1)) ∙ ap (λ x. binary op.Add x (tree (Lit (num 1)))) (of_column (codes "v"))
    ∙ ap (λ x. binary op.Add (t.column (codes "v")) x) (of_literal (num 1))

pub update_checked : row_statement_check (defs_of first_tables ++ def_t ∷ []) (Update (codes "t") ((codes "v", plus_one) ∷ []) None) ≡ Ok def_t
unfolding first_tables meaning_of sum_of value_cmp raised is_in_range conversion_of find_part key_places key_at key_cmp same_key has_live_row_at live_by_key_at holds key_fixed kept kept_row versions_matched row_after_set row_changes update_check sets_check row_statement_check table_def
update_checked = rw is_plus_one refl

update_changes : row_changes def_t (version 1 10 (2, 0) None ∷ version 2 20 (2, 1) None ∷ []) (Update (codes "t") ((codes "v", plus_one) ∷ []) None)
    ≡ Ok (Ends (2, 0) ∷ Starts (typed 1 ∷ typed 11 ∷ []) ∷ Ends (2, 1) ∷ Starts (typed 2 ∷ typed 21 ∷ []) ∷ [], 2)
unfolding first_tables meaning_of sum_of value_cmp raised is_in_range conversion_of find_part key_places key_at key_cmp same_key has_live_row_at live_by_key_at holds key_fixed kept kept_row versions_matched row_after_set row_changes update_check sets_check row_statement_check table_def
update_changes = rw is_plus_one refl

pub starts : effect (with_t []) 2 0 (insert (codes "t") ((num 1 ∷ num 10 ∷ []) ∷ (num 2 ∷ num 20 ∷ []) ∷ []))
    ≡ record { tables = with_t (version 1 10 (2, 0) None ∷ version 2 20 (2, 1) None ∷ []); seq = 2; reply = r.Changed 2 }
unfolding first_tables effect started changed_all is_duplicate inserted_rows arranged insert_check values_check listed_check value_cmp raised is_in_range conversion_of find_part key_places key_at key_cmp same_key has_live_row_at kept kept_row row_changes row_statement_check
starts = refl

pub ends_and_starts : effect (with_t (version 1 10 (2, 0) None ∷ version 2 20 (2, 1) None ∷ [])) 3 0 update_t
    ≡ record {
      tables = with_t (version 1 10 (2, 0) (Some (3, 0)) ∷ version 2 20 (2, 1) (Some (3, 2)) ∷ version 1 11 (3, 1) None ∷ version 2 21 (3, 3) None ∷ []);
      seq = 4;
      reply = r.Changed 2;
    }
unfolding first_tables effect started ended changed_all
ends_and_starts = rw (update_checked, update_changes) refl

pub view : reply_lines (effect (with_t (version 1 10 (2, 0) (Some (3, 0)) ∷ version 2 20 (2, 1) (Some (3, 2)) ∷ version 1 11 (3, 1) None ∷ version 2 21 (3, 3) None ∷ [])) 4 0 (all_of (codes "t_Ledger"))).reply
    ≡ codes "1|10|2|0|1|N'INSERT'" ∷ codes "2|20|2|1|1|N'INSERT'" ∷ codes "1|10|3|0|2|N'DELETE'" ∷ codes "1|11|3|1|1|N'INSERT'"
    ∷ codes "2|20|3|2|2|N'DELETE'" ∷ codes "2|21|3|3|1|N'INSERT'" ∷ codes "6 rows" ∷ []
unfolding digits pointed printed find_part rows_of holds key_fixed select_check query_check selected first_tables query_rows effect reply_lines
view = refl

pub is_literal_beside : (name : List ℕ) (v : Value) → tree (Bin op.Eq (Col name) (Lit v)) ≡ binary op.Eq (t.column name) (literal v)
is_literal_beside name v = of_binary op.Eq (Col name) (Lit v) ∙ ap (λ x. binary op.Eq x (tree (Lit v))) (of_column name)
    ∙ ap (λ x. binary op.Eq (t.column name) x) (of_literal v)

-- id = 5 fixes an INT key, id = 1.0 doesn't
pub int_fixed : key_fixed (key_column (codes "id") Int ∷ []) (Some (id_is (num 5))) ≡ Some (num 5 ∷ [])
unfolding key_fixed key_places conversion_of is_in_range value_cmp raised
int_fixed = rw (is_literal_beside (codes "id") (num 5)) refl

pub int_not_fixed : key_fixed (key_column (codes "id") Int ∷ []) (Some (id_is (Num 1 (pos 10)))) ≡ None
unfolding key_fixed key_places conversion_of is_in_range value_cmp raised
int_not_fixed = rw (is_literal_beside (codes "id") (Num 1 (pos 10))) refl

-- id = 1.50 fixes a DECIMAL(5,1) key, as 1.5; id = 1.55 doesn't
pub decimal_fixed : key_fixed (key_column (codes "id") (Decimal 5 1) ∷ []) (Some (id_is (Num 2 (pos 150)))) ≡ Some (Num 1 (pos 15) ∷ [])
unfolding key_fixed key_places conversion_of is_in_range value_cmp raised rounded_size
decimal_fixed = rw (is_literal_beside (codes "id") (Num 2 (pos 150))) refl

pub decimal_not_fixed : key_fixed (key_column (codes "id") (Decimal 5 1) ∷ []) (Some (id_is (Num 2 (pos 155)))) ≡ None
unfolding key_fixed key_places conversion_of is_in_range value_cmp raised rounded_size
decimal_not_fixed = rw (is_literal_beside (codes "id") (Num 2 (pos 155))) refl

-- id = 2 changes in a BIT key
pub bit_not_fixed : key_fixed (key_column (codes "id") Bit ∷ []) (Some (id_is (num 2))) ≡ None
unfolding key_fixed key_places conversion_of is_in_range value_cmp raised
bit_not_fixed = rw (is_literal_beside (codes "id") (num 2)) refl

-- id = NULL fixes nothing
pub null_not_fixed : key_fixed (key_column (codes "id") Int ∷ []) (Some (id_is Null)) ≡ None
unfolding key_fixed key_places conversion_of is_in_range value_cmp raised
null_not_fixed = rw (is_literal_beside (codes "id") Null) refl

-- a column twice comes before the part, and the part before a missing column
pub twice_first : (effect (with_t []) 2 0 (s.Change (Insert (codes "t_Ledger") (Some (codes "id" ∷ codes "id" ∷ [])) ((num 1 ∷ []) ∷ [])))).reply ≡ r.Refused NameConflict
unfolding first_tables effect insert_check values_check listed_check find_part row_statement_check
twice_first = refl

pub part_next : (effect (with_t []) 2 0 (s.Change (Insert (codes "t_Ledger") (Some (codes "nope" ∷ [])) ((num 1 ∷ []) ∷ [])))).reply ≡ r.Refused ReadOnlyTable
unfolding first_tables effect insert_check values_check listed_check find_part row_statement_check
part_next = refl

-- a column of the start is hidden, and no row gives it a value
pub hidden_not_listed : (effect (with_t []) 2 0 (listed (codes "ledger_start_transaction_id" ∷ []) ((num 1 ∷ []) ∷ []))).reply ≡ r.Refused NoSuchColumn
unfolding first_tables effect insert_check values_check listed_check find_part row_statement_check
hidden_not_listed = refl

-- row by row: VALUES (1,1),(1,1),(2,2147483648), and (1,1),(1,2147483648)
pub key_before_range : (effect (with_t []) 2 0 (insert (codes "t") ((num 1 ∷ num 1 ∷ []) ∷ (num 1 ∷ num 1 ∷ []) ∷ (num 2 ∷ num 2147483648 ∷ []) ∷ []))).reply ≡ r.Refused DuplicateKey
unfolding first_tables effect is_duplicate inserted_rows arranged insert_check values_check listed_check value_cmp raised is_in_range conversion_of find_part key_places key_at key_cmp same_key has_live_row_at kept kept_row row_changes row_statement_check
key_before_range = refl

pub range_before_key : (effect (with_t []) 2 0 (insert (codes "t") ((num 1 ∷ num 1 ∷ []) ∷ (num 1 ∷ num 2147483648 ∷ []) ∷ []))).reply ≡ r.Refused NumberOutOfRange
unfolding first_tables effect is_duplicate inserted_rows arranged insert_check values_check listed_check value_cmp raised is_in_range conversion_of find_part key_places key_at key_cmp same_key has_live_row_at kept kept_row row_changes row_statement_check
range_before_key = refl

-- a key that isn't listed is NULL
pub key_absent : (effect (with_t []) 2 0 (listed (codes "v" ∷ []) ((num 1 ∷ []) ∷ []))).reply ≡ r.Refused NullNotAllowed
unfolding first_tables effect is_duplicate inserted_rows arranged insert_check values_check listed_check value_cmp raised is_in_range conversion_of find_part key_places key_at key_cmp same_key has_live_row_at kept kept_row row_changes row_statement_check
key_absent = refl

of_lit_id : tree (Lit (num 2)) ≡ literal (num 2)
of_lit_id = of_literal (num 2)

pub key_set : (effect (with_t []) 5 0 (s.Change (Update (codes "t") ((codes "id", Lit (num 2)) ∷ []) None))).reply ≡ r.Refused KeyNotUpdatable
unfolding first_tables effect update_check sets_check find_part row_statement_check
key_set = rw of_lit_id refl

pub type_before_null : (effect first_tables 1 0 (create_x (Decimal 39 0))).reply ≡ r.Refused LimitExceeded
unfolding first_tables effect create_check table_def is_in_range digits
type_before_null = refl

pub null_key : (effect first_tables 1 0 (create_x (Decimal 38 0))).reply ≡ r.Refused NullNotAllowed
unfolding first_tables effect create_check table_def is_in_range digits
null_key = refl

pub view_taken : (effect (with_t []) 2 0 (create (codes "t_Ledger") (column (codes "id") Int false ∷ []) Updatable None)).reply ≡ r.Refused NameConflict
unfolding first_tables effect create_check table_def is_in_range digits
view_taken = refl

-- the name of the view counts: 121 bytes and `_Ledger` are in range, 122 are too long
pub name_fits : (effect first_tables 2 0 (create (replicate 121 97) (column (codes "id") Int false ∷ []) Updatable None)).reply ≡ r.Made
unfolding first_tables effect create_check table_def is_in_range digits
name_fits = refl

pub name_too_long : (effect first_tables 2 0 (create (replicate 122 97) (column (codes "id") Int false ∷ []) Updatable None)).reply ≡ r.Refused LimitExceeded
unfolding first_tables effect create_check table_def is_in_range digits
name_too_long = refl

-- sorted by v: NULL is least, and equal values keep the order of the key
pub ascending : answer four (select (codes "t") All ((codes "v", false) ∷ [])) ≡ codes "2|NULL" ∷ codes "3|5" ∷ codes "1|7" ∷ codes "4|7" ∷ codes "4 rows" ∷ []
unfolding chars meaning_of sum_of digits value_cmp raised utf16_units pointed printed is_in_range conversion_of find_part started ended key_places key_at key_cmp same_key has_live_row_at live_by_key_at rows_of holds key_fixed changed_all kept kept_row arranged is_duplicate inserted_rows versions_matched row_after_set row_changes insert_check values_check listed_check update_check sets_check delete_check row_statement_check select_check query_check total agg_value selected first_tables table_row column_rows index_rows table_def create_check index_check query_rows effect reply_lines reply_text
ascending = refl

pub descending : answer four (select (codes "t") All ((codes "v", true) ∷ [])) ≡ codes "1|7" ∷ codes "4|7" ∷ codes "3|5" ∷ codes "2|NULL" ∷ codes "4 rows" ∷ []
unfolding chars meaning_of sum_of digits value_cmp raised utf16_units pointed printed is_in_range conversion_of find_part started ended key_places key_at key_cmp same_key has_live_row_at live_by_key_at rows_of holds key_fixed changed_all kept kept_row arranged is_duplicate inserted_rows versions_matched row_after_set row_changes insert_check values_check listed_check update_check sets_check delete_check row_statement_check select_check query_check total agg_value selected first_tables table_row column_rows index_rows table_def create_check index_check query_rows effect reply_lines reply_text
descending = refl

pub sums : answer four (select (codes "t") (Aggs (Count ∷ Sum (codes "v") ∷ Sum (codes "id") ∷ [])) []) ≡ codes "4|19|10" ∷ codes "1 rows" ∷ []
unfolding chars meaning_of sum_of digits value_cmp raised utf16_units pointed printed is_in_range conversion_of find_part started ended key_places key_at key_cmp same_key has_live_row_at live_by_key_at rows_of holds key_fixed changed_all kept kept_row arranged is_duplicate inserted_rows versions_matched row_after_set row_changes insert_check values_check listed_check update_check sets_check delete_check row_statement_check select_check query_check total agg_value selected first_tables table_row column_rows index_rows table_def create_check index_check query_rows effect reply_lines reply_text
sums = refl

pub sums_of_none : answer (with_t []) (select (codes "t") (Aggs (Count ∷ Sum (codes "v") ∷ [])) []) ≡ codes "0|NULL" ∷ codes "1 rows" ∷ []
unfolding chars meaning_of sum_of digits value_cmp raised utf16_units pointed printed is_in_range conversion_of find_part started ended key_places key_at key_cmp same_key has_live_row_at live_by_key_at rows_of holds key_fixed changed_all kept kept_row arranged is_duplicate inserted_rows versions_matched row_after_set row_changes insert_check values_check listed_check update_check sets_check delete_check row_statement_check select_check query_check total agg_value selected first_tables table_row column_rows index_rows table_def create_check index_check query_rows effect reply_lines reply_text
sums_of_none = refl

-- hidden columns are shown where they are named
pub hidden_named : answer four (select (codes "t") (Columns (codes "ledger_start_sequence_number" ∷ codes "id" ∷ [])) []) ≡ codes "0|1" ∷ codes "1|2" ∷ codes "3|3" ∷ codes "2|4" ∷ codes "4 rows" ∷ []
unfolding chars meaning_of sum_of digits value_cmp raised utf16_units pointed printed is_in_range conversion_of find_part started ended key_places key_at key_cmp same_key has_live_row_at live_by_key_at rows_of holds key_fixed changed_all kept kept_row arranged is_duplicate inserted_rows versions_matched row_after_set row_changes insert_check values_check listed_check update_check sets_check delete_check row_statement_check select_check query_check total agg_value selected first_tables table_row column_rows index_rows table_def create_check index_check query_rows effect reply_lines reply_text
hidden_named = refl

pub no_hidden_end : answer four (select (codes "t") (Columns (codes "ledger_end_sequence_number" ∷ [])) []) ≡ codes "E04" ∷ []
unfolding chars meaning_of sum_of digits value_cmp raised utf16_units pointed printed is_in_range conversion_of find_part started ended key_places key_at key_cmp same_key has_live_row_at live_by_key_at rows_of holds key_fixed changed_all kept kept_row arranged is_duplicate inserted_rows versions_matched row_after_set row_changes insert_check values_check listed_check update_check sets_check delete_check row_statement_check select_check query_check total agg_value selected first_tables table_row column_rows index_rows table_def create_check index_check query_rows effect reply_lines reply_text
no_hidden_end = refl

-- the history rises by the start, not by the end
pub history_order : answer (with_t (version 1 10 (2, 0) (Some (5, 0)) ∷ version 2 20 (2, 1) (Some (3, 0)) ∷ [])) (all_of (codes "MSSQL_LedgerHistoryFor_3"))
    ≡ codes "1|10|2|5|0|0" ∷ codes "2|20|2|3|1|0" ∷ codes "2 rows" ∷ []
unfolding chars meaning_of sum_of digits value_cmp raised utf16_units pointed printed is_in_range conversion_of find_part started ended key_places key_at key_cmp same_key has_live_row_at live_by_key_at rows_of holds key_fixed changed_all kept kept_row arranged is_duplicate inserted_rows versions_matched row_after_set row_changes insert_check values_check listed_check update_check sets_check delete_check row_statement_check select_check query_check total agg_value selected first_tables table_row column_rows index_rows table_def create_check index_check query_rows effect reply_lines reply_text
history_order = refl

pub index_rows_made : answers (with_t []) 4 (index_on (codes "iv") (codes "t") (codes "v" ∷ codes "id" ∷ []) ∷ index_on (codes "iv") (codes "t_Ledger") (codes "v" ∷ [])
    ∷ index_on (codes "iw") (codes "t_Ledger") (codes "v" ∷ []) ∷ all_of (codes "sys_ledger_columns") ∷ [])
    ≡ (codes "made" ∷ []) ∷ (codes "E03" ∷ []) ∷ (codes "E11" ∷ []) ∷ (codes "3|1001|0|N'iv'|0|0|0|0|2" ∷ codes "3|1002|0|N'iv'|0|0|0|0|1" ∷ codes "2 rows" ∷ []) ∷ []
unfolding chars meaning_of sum_of digits value_cmp raised utf16_units pointed printed is_in_range conversion_of find_part started ended key_places key_at key_cmp same_key has_live_row_at live_by_key_at rows_of holds key_fixed changed_all kept kept_row arranged is_duplicate inserted_rows versions_matched row_after_set row_changes insert_check values_check listed_check update_check sets_check delete_check row_statement_check select_check query_check total agg_value selected first_tables table_row column_rows index_rows table_def create_check index_check query_rows effect reply_lines reply_text
index_rows_made = refl

pub no_leap_day : conversion_of (Text (codes "2023-02-29")) Date ≡ Err Mismatch
unfolding conversion_of is_in_range day_of written_date
no_leap_day = refl

pub tables_32 : (effect (made_tables (3 ∷ 4 ∷ 5 ∷ 6 ∷ 7 ∷ 8 ∷ 9 ∷ 10 ∷ 11 ∷ 12 ∷ 13 ∷ 14 ∷ 15 ∷ 16 ∷ 17 ∷ 18 ∷ 19 ∷ 20 ∷ 21 ∷ 22 ∷ 23 ∷ 24 ∷ 25 ∷ 26 ∷ 27 ∷ 28 ∷ 29 ∷ 30 ∷ 31 ∷ 32 ∷ 33 ∷ [])) 40 0 create_t).reply ≡ r.Made
unfolding chars meaning_of sum_of digits value_cmp raised utf16_units pointed printed is_in_range conversion_of find_part started ended key_places key_at key_cmp same_key has_live_row_at live_by_key_at rows_of holds key_fixed changed_all kept kept_row arranged is_duplicate inserted_rows versions_matched row_after_set row_changes insert_check values_check listed_check update_check sets_check delete_check row_statement_check select_check query_check total agg_value selected first_tables table_row column_rows index_rows table_def create_check index_check query_rows effect reply_lines reply_text
tables_32 = refl

pub tables_33 : (effect (made_tables (3 ∷ 4 ∷ 5 ∷ 6 ∷ 7 ∷ 8 ∷ 9 ∷ 10 ∷ 11 ∷ 12 ∷ 13 ∷ 14 ∷ 15 ∷ 16 ∷ 17 ∷ 18 ∷ 19 ∷ 20 ∷ 21 ∷ 22 ∷ 23 ∷ 24 ∷ 25 ∷ 26 ∷ 27 ∷ 28 ∷ 29 ∷ 30 ∷ 31 ∷ 32 ∷ 33 ∷ 34 ∷ [])) 40 0 create_t).reply ≡ r.Refused LimitExceeded
unfolding chars meaning_of sum_of digits value_cmp raised utf16_units pointed printed is_in_range conversion_of find_part started ended key_places key_at key_cmp same_key has_live_row_at live_by_key_at rows_of holds key_fixed changed_all kept kept_row arranged is_duplicate inserted_rows versions_matched row_after_set row_changes insert_check values_check listed_check update_check sets_check delete_check row_statement_check select_check query_check total agg_value selected first_tables table_row column_rows index_rows table_def create_check index_check query_rows effect reply_lines reply_text
tables_33 = refl

delete_checked : row_statement_check (defs_of first_tables ++ def_t ∷ []) (Delete (codes "t") (Some (id_is (num 1)))) ≡ Ok def_t
unfolding first_tables value_cmp is_in_range find_part delete_check row_statement_check
delete_checked = rw (is_literal_beside (codes "id") (num 1)) refl

delete_changes : row_changes def_t (version 1 1 (2, 0) None ∷ []) (Delete (codes "t") (Some (id_is (num 1)))) ≡ Ok (Ends (2, 0) ∷ [], 1)
unfolding meaning_of value_cmp raised is_in_range conversion_of key_places key_at key_cmp same_key live_by_key_at holds key_fixed versions_matched row_changes
delete_changes = rw (is_literal_beside (codes "id") (num 1)) refl

pub started_and_ended : effect (with_t (version 1 1 (2, 0) None ∷ [])) 2 1 delete_1 ≡ record { tables = with_t (version 1 1 (2, 0) (Some (2, 1)) ∷ []); seq = 2; reply = r.Changed 1 }
unfolding first_tables effect ended changed_all
started_and_ended = rw (delete_checked, delete_changes) refl

-- its history row, and its two events
pub its_history : answer (with_t (version 1 1 (2, 0) (Some (2, 1)) ∷ [])) (all_of (codes "MSSQL_LedgerHistoryFor_3")) ≡ codes "1|1|2|2|0|1" ∷ codes "1 rows" ∷ []
unfolding chars meaning_of sum_of digits value_cmp raised utf16_units pointed printed is_in_range conversion_of find_part started ended key_places key_at key_cmp same_key has_live_row_at live_by_key_at rows_of holds key_fixed changed_all kept kept_row arranged is_duplicate inserted_rows versions_matched row_after_set row_changes insert_check values_check listed_check update_check sets_check delete_check row_statement_check select_check query_check total agg_value selected first_tables table_row column_rows index_rows table_def create_check index_check query_rows effect reply_lines reply_text
its_history = refl

pub its_events : map {B = Option (ℕ × ℕ) × ℕ} (λ (e : Event). (e.ends, e.seq)) (all_events 2 (with_t (version 1 1 (2, 0) (Some (2, 1)) ∷ []))) ≡ (None, 0) ∷ (Some (2, 0), 1) ∷ []
unfolding first_tables all_events events_of
its_events = refl

pub written_names : defs_of (effect first_tables 1 0 create_balance).tables ≡ defs_of first_tables ++ def_balance ∷ []
unfolding chars meaning_of sum_of digits value_cmp raised utf16_units pointed printed is_in_range conversion_of find_part started ended key_places key_at key_cmp same_key has_live_row_at live_by_key_at rows_of holds key_fixed changed_all kept kept_row arranged is_duplicate inserted_rows versions_matched row_after_set row_changes insert_check values_check listed_check update_check sets_check delete_check row_statement_check select_check query_check total agg_value selected first_tables table_row column_rows index_rows table_def create_check index_check query_rows effect reply_lines reply_text
written_names = refl

pub units_kept : effect (balance []) 2 0 (insert (codes "Balance") ((num 1 ∷ Text (codes "Jones") ∷ Text (codes "Nick") ∷ num 50 ∷ []) ∷ []))
    ≡ record { tables = balance (record { values = of_nick 5000; start = (2, 0); end = None } ∷ []); seq = 1; reply = r.Changed 1 }
unfolding rounded_size chars meaning_of sum_of digits value_cmp raised utf16_units pointed printed is_in_range conversion_of find_part started ended key_places key_at key_cmp same_key has_live_row_at live_by_key_at rows_of holds key_fixed changed_all kept kept_row arranged is_duplicate inserted_rows versions_matched row_after_set row_changes insert_check values_check listed_check update_check sets_check delete_check row_statement_check select_check query_check total agg_value selected first_tables table_row column_rows index_rows table_def create_check index_check query_rows effect reply_lines reply_text
units_kept = refl

balance_checked : row_statement_check (defs_of first_tables ++ def_balance ∷ []) set_100 ≡ Ok def_balance
unfolding first_tables value_cmp is_in_range find_part update_check sets_check row_statement_check
balance_checked = rw (is_literal_beside (codes "CustomerID") (num 1), of_literal (num 100)) refl

balance_changes : row_changes def_balance (record { values = of_nick 5000; start = (2, 0); end = None } ∷ []) set_100
    ≡ Ok (Ends (2, 0) ∷ Starts (of_nick 10000) ∷ [], 1)
unfolding meaning_of rounded_size value_cmp raised is_in_range conversion_of key_places key_at key_cmp same_key live_by_key_at holds key_fixed kept kept_row row_after_set versions_matched row_changes
balance_changes = rw (is_literal_beside (codes "CustomerID") (num 1), of_literal (num 100)) refl

pub units_set : effect (balance (record { values = of_nick 5000; start = (2, 0); end = None } ∷ [])) 3 0 (s.Change set_100)
    ≡ record {
      tables = balance (record { values = of_nick 5000; start = (2, 0); end = Some (3, 0) } ∷ record { values = of_nick 10000; start = (3, 1); end = None } ∷ []);
      seq = 2;
      reply = r.Changed 1;
    }
unfolding first_tables effect started ended changed_all
units_set = rw (balance_checked, balance_changes) refl

pub written_history : answer (balance (record { values = of_nick 5000; start = (2, 0); end = Some (3, 0) } ∷ record { values = of_nick 10000; start = (3, 1); end = None } ∷ []))
    (all_of (codes "BalanceHistory")) ≡ codes "1|N'Jones'|N'Nick'|50.00|2|3|0|0" ∷ codes "1 rows" ∷ []
unfolding chars meaning_of sum_of digits value_cmp raised utf16_units pointed printed is_in_range conversion_of find_part started ended key_places key_at key_cmp same_key has_live_row_at live_by_key_at rows_of holds key_fixed changed_all kept kept_row arranged is_duplicate inserted_rows versions_matched row_after_set row_changes insert_check values_check listed_check update_check sets_check delete_check row_statement_check select_check query_check total agg_value selected first_tables table_row column_rows index_rows table_def create_check index_check query_rows effect reply_lines reply_text
written_history = refl

select_5_checked : query_check (defs_of first_tables ++ def_t ∷ []) select_5 ≡ Ok (def_t, Base)
unfolding first_tables is_in_range find_part select_check query_check
select_5_checked = rw (is_literal_beside (codes "id") (num 5)) refl

pub select_5_fixes : key_fixed def_t.columns (Some (id_is (num 5))) ≡ Some (num 5 ∷ [])
unfolding key_fixed key_places conversion_of is_in_range value_cmp raised
select_5_fixes = rw (is_literal_beside (codes "id") (num 5)) refl

select_5_requests : cell_requests (defs_of first_tables ++ def_t ∷ []) (s.Select select_5) ≡ Some (3, whole IS ∷ of_key S (num 5 ∷ []) ∷ [])
unfolding cell_requests query_requests
select_5_requests = rw (select_5_checked, select_5_fixes) refl

insert_5_requests : cell_requests (defs_of first_tables ++ def_t ∷ []) (insert (codes "t") ((num 5 ∷ num 1 ∷ []) ∷ [])) ≡ Some (3, whole IX ∷ of_key X (num 5 ∷ []) ∷ [])
unfolding first_tables cell_requests row_requests key_inserted arranged conversion_of is_in_range find_part insert_check values_check listed_check row_statement_check key_places
insert_5_requests = refl

-- a key that doesn't convert: the whole table
pub insert_far_requests : cell_requests (defs_of first_tables ++ def_t ∷ []) (insert (codes "t") ((num 2147483648 ∷ num 1 ∷ []) ∷ [])) ≡ Some (3, whole X ∷ [])
unfolding first_tables cell_requests row_requests key_inserted arranged conversion_of is_in_range find_part insert_check values_check listed_check row_statement_check key_places
insert_far_requests = refl

pub read_and_inserted : clash (defs_of first_tables ++ def_t ∷ []) true (s.Select select_5) false (insert (codes "t") ((num 5 ∷ num 1 ∷ []) ∷ [])) ≡ true
unfolding clash conflict same_item same_key key_cmp value_cmp raised
read_and_inserted = rw (select_5_requests, insert_5_requests) refl

pub ends_of_bigint : answers first_tables 1 (create (codes "b") (column (codes "id") BigInt false ∷ []) Updatable None
    ∷ insert (codes "b") ((Num 0 (negsuc 9223372036854775807) ∷ []) ∷ (num 9223372036854775807 ∷ []) ∷ [])
    ∷ insert (codes "b") ((num 9223372036854775808 ∷ []) ∷ []) ∷ [])
    ≡ (codes "made" ∷ []) ∷ (codes "2 rows" ∷ []) ∷ (codes "E08" ∷ []) ∷ []
unfolding chars meaning_of sum_of digits value_cmp raised utf16_units pointed printed is_in_range conversion_of find_part started ended key_places key_at key_cmp same_key has_live_row_at live_by_key_at rows_of holds key_fixed changed_all kept kept_row arranged is_duplicate inserted_rows versions_matched row_after_set row_changes insert_check values_check listed_check update_check sets_check delete_check row_statement_check select_check query_check total agg_value selected first_tables table_row column_rows index_rows table_def create_check index_check query_rows effect reply_lines reply_text
ends_of_bigint = refl

-- a text of the one character U+1F600 is two UTF-16 units
pub units_of_text : answers first_tables 1 (create (codes "n") (column (codes "id") Int false ∷ column (codes "x") (NVarChar 2) true ∷ []) Updatable None
    ∷ insert (codes "n") ((num 1 ∷ Text (240 ∷ 159 ∷ 152 ∷ 128 ∷ []) ∷ []) ∷ [])
    ∷ insert (codes "n") ((num 2 ∷ Text (240 ∷ 159 ∷ 152 ∷ 128 ∷ 97 ∷ []) ∷ []) ∷ []) ∷ [])
    ≡ (codes "made" ∷ []) ∷ (codes "1 rows" ∷ []) ∷ (codes "E09" ∷ []) ∷ []
unfolding chars meaning_of sum_of digits value_cmp raised utf16_units pointed printed is_in_range conversion_of find_part started ended key_places key_at key_cmp same_key has_live_row_at live_by_key_at rows_of holds key_fixed changed_all kept kept_row arranged is_duplicate inserted_rows versions_matched row_after_set row_changes insert_check values_check listed_check update_check sets_check delete_check row_statement_check select_check query_check total agg_value selected first_tables table_row column_rows index_rows table_def create_check index_check query_rows effect reply_lines reply_text
units_of_text = refl

pub append_only : answers first_tables 1 (create (codes "log") (column (codes "id") Int false ∷ []) AppendOnly None
    ∷ insert (codes "log") ((num 7 ∷ []) ∷ []) ∷ s.Change (Delete (codes "log") None) ∷ all_of (codes "log") ∷ [])
    ≡ (codes "made" ∷ []) ∷ (codes "1 rows" ∷ []) ∷ (codes "E10" ∷ []) ∷ (codes "7" ∷ codes "1 rows" ∷ []) ∷ []
unfolding chars meaning_of sum_of digits value_cmp raised utf16_units pointed printed is_in_range conversion_of find_part started ended key_places key_at key_cmp same_key has_live_row_at live_by_key_at rows_of holds key_fixed changed_all kept kept_row arranged is_duplicate inserted_rows versions_matched row_after_set row_changes insert_check values_check listed_check update_check sets_check delete_check row_statement_check select_check query_check total agg_value selected first_tables table_row column_rows index_rows table_def create_check index_check query_rows effect reply_lines reply_text
append_only = refl

pub savepoints : map reply_lines (script (read_in in_script) true (effect first_tables 1 0 create_t).tables 2 (texts (0 ∷ 3 ∷ 1 ∷ 3 ∷ 2 ∷ 4 ∷ 5 ∷ 6 ∷ []))).replies
    ≡ (codes "1 rows" ∷ []) ∷ (codes "saved" ∷ []) ∷ (codes "1 rows" ∷ []) ∷ (codes "saved" ∷ []) ∷ (codes "1 rows" ∷ []) ∷ (codes "back" ∷ [])
    ∷ (codes "E15" ∷ []) ∷ (codes "1|1|2|0|1|N'INSERT'" ∷ codes "2|2|2|1|1|N'INSERT'" ∷ codes "2 rows" ∷ []) ∷ []
unfolding chars text_step script_from saves rolls_back_to meaning_of sum_of digits value_cmp raised utf16_units pointed printed is_in_range conversion_of find_part started ended key_places key_at key_cmp same_key has_live_row_at live_by_key_at rows_of holds key_fixed changed_all kept kept_row arranged is_duplicate inserted_rows versions_matched row_after_set row_changes insert_check values_check listed_check update_check sets_check delete_check row_statement_check select_check query_check total agg_value selected first_tables table_row column_rows index_rows table_def create_check index_check query_rows effect reply_lines reply_text
savepoints = refl

-- the 65th savepoint
pub savepoint_65 : (script (read_in in_script) true first_tables 1 (replicate 65 (3 ∷ []))).replies ≡ replicate 64 r.Saved ++ r.Refused LimitExceeded ∷ []
unfolding chars text_step script_from saves rolls_back_to meaning_of sum_of digits value_cmp raised utf16_units pointed printed is_in_range conversion_of find_part started ended key_places key_at key_cmp same_key has_live_row_at live_by_key_at rows_of holds key_fixed changed_all kept kept_row arranged is_duplicate inserted_rows versions_matched row_after_set row_changes insert_check values_check listed_check update_check sets_check delete_check row_statement_check select_check query_check total agg_value selected first_tables table_row column_rows index_rows table_def create_check index_check query_rows effect reply_lines reply_text
savepoint_65 = refl

pub alone : map (each_alone (effect first_tables 1 0 create_t).tables by_themselves) (0 ∷ 1 ∷ 9 ∷ 2 ∷ 3 ∷ [])
    ≡ ((codes "0 rows" ∷ []) ∷ []) ∷ ((codes "E13" ∷ []) ∷ []) ∷ ((codes "E01" ∷ []) ∷ []) ∷ ((codes "E18" ∷ []) ∷ []) ∷ ((codes "E02" ∷ []) ∷ []) ∷ []
unfolding chars text_step script_from saves rolls_back_to meaning_of sum_of digits value_cmp raised utf16_units pointed printed is_in_range conversion_of find_part started ended key_places key_at key_cmp same_key has_live_row_at live_by_key_at rows_of holds key_fixed changed_all kept kept_row arranged is_duplicate inserted_rows versions_matched row_after_set row_changes insert_check values_check listed_check update_check sets_check delete_check row_statement_check select_check query_check total agg_value selected first_tables table_row column_rows index_rows table_def create_check index_check query_rows effect reply_lines reply_text
alone = refl

pub legal : IsLegal (read_in in_journal) (journal 2)
unfolding chars text_step script_from saves rolls_back_to meaning_of sum_of digits value_cmp raised utf16_units pointed printed is_in_range conversion_of find_part started ended key_places key_at key_cmp same_key has_live_row_at live_by_key_at rows_of holds key_fixed changed_all kept kept_row arranged is_duplicate inserted_rows versions_matched row_after_set row_changes insert_check values_check listed_check update_check sets_check delete_check row_statement_check select_check query_check total agg_value selected first_tables table_row column_rows index_rows table_def create_check index_check query_rows effect reply_lines reply_text all_events events_of
legal =
    ((record { replies = refl; events = λ e. cc }, tt), ((record { replies = refl; events = λ e. cc }, (λ e. omega arith, tt)), ((omega arith, omega arith, omega arith), tt)))

-- no more than what is pending is closed
pub too_many : IsLegal (read_in in_journal) (journal 3) → ⊥
too_many l = omega (arith, l.1.1.0.2)

wide_where_tree : (o : Op) → tree (wide_where o)
    ≡ binary op.And (binary o (t.column (codes "id")) (literal (num 1)))
    (binary op.Gt (binary op.Add (t.column (codes "d")) (t.column (codes "d"))) (literal (num 0)))
wide_where_tree o = rw (
  of_binary op.And (Bin o (Col (codes "id")) (Lit (num 1))) doubled_is_positive,
  of_binary o (Col (codes "id")) (Lit (num 1)),
  of_binary op.Gt (Bin op.Add (Col (codes "d")) (Col (codes "d"))) (Lit (num 0)),
  of_binary op.Add (Col (codes "d")) (Col (codes "d")),
  of_column (codes "id"),
  of_column (codes "d"),
  of_literal (num 1),
  of_literal (num 0),
) refl

fixed_wide : key_fixed wide_def.columns (Some (wide_where op.Eq)) ≡ Some (num 1 ∷ [])
unfolding key_fixed key_places value_cmp raised conversion_of is_in_range
fixed_wide = rw (wide_where_tree op.Eq) refl

not_fixed_wide : key_fixed wide_def.columns (Some (wide_where op.Lt)) ≡ None
unfolding key_fixed key_places value_cmp raised conversion_of is_in_range
not_fixed_wide = rw (wide_where_tree op.Lt) refl

holds_wide : holds (columns_of wide_def Base) (Some (wide_where op.Eq)) (num 1 ∷ num 1 ∷ num 2 ∷ num 0 ∷ []) ≡ Ok true
unfolding holds meaning_of sum_of value_cmp raised
holds_wide = rw (wide_where_tree op.Eq) refl

fails_wide_1 : holds (columns_of wide_def Base) (Some (wide_where op.Lt)) (num 1 ∷ num 1 ∷ num 2 ∷ num 0 ∷ []) ≡ Ok false
unfolding holds meaning_of sum_of value_cmp raised
fails_wide_1 = rw (wide_where_tree op.Lt) refl

fails_wide_2 : holds (columns_of wide_def Base) (Some (wide_where op.Lt)) (num 2 ∷ num nines ∷ num 2 ∷ num 1 ∷ []) ≡ Err NumberOutOfRange
unfolding holds meaning_of sum_of value_cmp raised
fails_wide_2 = rw (wide_where_tree op.Lt) refl

-- WHERE id = 1 AND d + d > 0 looks at row 1 alone, WHERE id < 1 AND d + d > 0 at each, also where id < 1 is false
pub key_hides : query_rows (wide_select op.Eq) (wide_def, Base) (wide 1 (pos 1) 0 ∷ wide 2 (pos nines) 1 ∷ []) ≡ Ok ((num 1 ∷ num 1 ∷ []) ∷ [])
unfolding query_rows rows_of selected live_by_key_at key_places key_at key_cmp same_key value_cmp raised
key_hides = rw (fixed_wide, holds_wide) refl

pub all_are_evaluated : query_rows (wide_select op.Lt) (wide_def, Base) (wide 1 (pos 1) 0 ∷ wide 2 (pos nines) 1 ∷ []) ≡ Err NumberOutOfRange
unfolding query_rows rows_of selected live_by_key_at key_places key_at key_cmp same_key value_cmp raised
all_are_evaluated = rw (not_fixed_wide, fails_wide_1, fails_wide_2) refl

-- a sum that leaves the range on its way
pub sum_on_the_way : answer wide_tables (select (codes "w") (Aggs (Sum (codes "d") ∷ [])) []) ≡ codes "E08" ∷ []
unfolding sum_of chars digits value_cmp raised utf16_units pointed printed is_in_range conversion_of find_part started ended key_places key_at key_cmp same_key has_live_row_at live_by_key_at rows_of holds key_fixed changed_all kept kept_row arranged is_duplicate inserted_rows versions_matched row_after_set row_changes insert_check values_check listed_check update_check sets_check delete_check row_statement_check select_check query_check total agg_value selected first_tables table_row column_rows index_rows table_def create_check index_check query_rows effect reply_lines reply_text
sum_on_the_way = refl

pub key_before_class : row_statement_check (defs_of wide_tables) (Update (codes "w") ((codes "id", Col (codes "d")) ∷ []) None) ≡ Err KeyNotUpdatable
unfolding first_tables row_statement_check find_part update_check sets_check
key_before_class = rw (of_column (codes "d")) refl

-- rows go by b and then by a, and the key is in this order
pub key_order : answer pairs (all_of (codes "p")) ≡ codes "1|3" ∷ codes "2|3" ∷ codes "1|9" ∷ codes "3 rows" ∷ []
unfolding chars digits value_cmp raised utf16_units pointed printed is_in_range conversion_of find_part started ended key_places key_at key_cmp same_key has_live_row_at live_by_key_at rows_of holds key_fixed changed_all kept kept_row arranged is_duplicate inserted_rows versions_matched row_after_set row_changes insert_check values_check listed_check update_check sets_check delete_check row_statement_check select_check query_check total agg_value selected first_tables table_row column_rows index_rows table_def create_check index_check query_rows effect reply_lines reply_text
key_order = refl

pub key_locked : cell_requests (defs_of pairs) (s.Change (Insert (codes "p") (Some (codes "a" ∷ codes "b" ∷ [])) ((num 1 ∷ num 2 ∷ []) ∷ [])))
    ≡ Some (3, whole IX ∷ of_key X (num 2 ∷ num 1 ∷ []) ∷ [])
unfolding first_tables cell_requests row_requests key_inserted arranged conversion_of is_in_range find_part insert_check values_check listed_check row_statement_check key_places
key_locked = refl

-- a savepoint stays, and the counter goes back with the rows
pub back_twice : map reply_lines (script (read_in in_script) true (effect first_tables 1 0 create_t).tables 2 (texts (0 ∷ 3 ∷ 1 ∷ 4 ∷ 2 ∷ 4 ∷ 6 ∷ 2 ∷ 6 ∷ []))).replies
    ≡ (codes "1 rows" ∷ []) ∷ (codes "saved" ∷ []) ∷ (codes "1 rows" ∷ []) ∷ (codes "back" ∷ []) ∷ (codes "1 rows" ∷ []) ∷ (codes "back" ∷ [])
    ∷ (codes "1|1|2|0|1|N'INSERT'" ∷ codes "1 rows" ∷ []) ∷ (codes "1 rows" ∷ [])
    ∷ (codes "1|1|2|0|1|N'INSERT'" ∷ codes "3|3|2|1|1|N'INSERT'" ∷ codes "2 rows" ∷ []) ∷ []
unfolding chars text_step script_from saves rolls_back_to meaning_of sum_of digits value_cmp raised utf16_units pointed printed is_in_range conversion_of find_part started ended key_places key_at key_cmp same_key has_live_row_at live_by_key_at rows_of holds key_fixed changed_all kept kept_row arranged is_duplicate inserted_rows versions_matched row_after_set row_changes insert_check values_check listed_check update_check sets_check delete_check row_statement_check select_check query_check total agg_value selected first_tables table_row column_rows index_rows table_def create_check index_check query_rows effect reply_lines reply_text
back_twice = refl

-- ---- ALTER TABLE and DROP TABLE

pub worked_row : answers first_tables 1
    (create_t ∷ insert (codes "t") ((num 1 ∷ num 10 ∷ []) ∷ []) ∷ add_to_t (codes "w") (NVarChar 5)
    ∷ all_of (codes "t") ∷ drop_of_t (codes "v") ∷ insert (codes "t") ((num 2 ∷ Text (codes "x") ∷ []) ∷ [])
    ∷ select (codes "t") (Columns (codes "MSSQL_DroppedLedgerColumn_v_2" ∷ codes "id" ∷ [])) []
    ∷ s.Drop (codes "t") ∷ all_of (codes "t") ∷ all_of (codes "MSSQL_DroppedLedgerTable_t_3")
    ∷ s.Change (Delete (codes "MSSQL_DroppedLedgerTable_t_3") None) ∷ [])
    ≡ (codes "made" ∷ []) ∷ (codes "1 rows" ∷ []) ∷ (codes "made" ∷ [])
    ∷ (codes "1|10|NULL" ∷ codes "1 rows" ∷ []) ∷ (codes "made" ∷ []) ∷ (codes "1 rows" ∷ [])
    ∷ (codes "10|1" ∷ codes "NULL|2" ∷ codes "2 rows" ∷ [])
    ∷ (codes "made" ∷ []) ∷ (codes "E02" ∷ []) ∷ (codes "1|NULL" ∷ codes "2|N'x'" ∷ codes "2 rows" ∷ [])
    ∷ (codes "E11" ∷ []) ∷ []
unfolding chars digits value_cmp raised utf16_units pointed printed is_in_range conversion_of find_part started ended key_places key_at key_cmp same_key has_live_row_at live_by_key_at rows_of holds key_fixed changed_all kept kept_row arranged is_duplicate inserted_rows versions_matched row_after_set row_changes insert_check values_check listed_check update_check sets_check delete_check row_statement_check select_check query_check total agg_value selected first_tables table_row column_rows index_rows table_def create_check index_check alter_check drop_check dropped_table next_change changed_table_row changed_column_row query_rows effect reply_lines reply_text
worked_row = refl

pub rows_of_changes : answers (with_t []) 4
    (add_to_t (codes "w") (NVarChar 5) ∷ drop_of_t (codes "v") ∷ s.Drop (codes "t")
    ∷ all_of (codes "sys_ledger_tables") ∷ all_of (codes "sys_ledger_columns") ∷ [])
    ≡ (codes "made" ∷ []) ∷ (codes "made" ∷ []) ∷ (codes "made" ∷ [])
    ∷ (codes "3|3|N'MSSQL_DroppedLedgerTable_t_3'|4|N'MSSQL_DroppedLedgerHistory_MSSQL_LedgerHistoryFor_3_3'|N'MSSQL_DroppedLedgerView_t_Ledger_3'"
    ∷ codes "1 rows" ∷ [])
    ∷ (codes "3|2|2|N'MSSQL_DroppedLedgerColumn_v_2'|2|0|0|1|-1" ∷ codes "3|3|1|N'w'|5|5|0|1|0"
    ∷ codes "2 rows" ∷ []) ∷ []
unfolding chars digits value_cmp raised utf16_units pointed printed is_in_range conversion_of find_part started ended key_places key_at key_cmp same_key has_live_row_at live_by_key_at rows_of holds key_fixed changed_all kept kept_row arranged is_duplicate inserted_rows versions_matched row_after_set row_changes insert_check values_check listed_check update_check sets_check delete_check row_statement_check select_check query_check total agg_value selected first_tables table_row column_rows index_rows table_def create_check index_check alter_check drop_check dropped_table next_change changed_table_row changed_column_row query_rows effect reply_lines reply_text
rows_of_changes = refl

pub order_of_refusals : answers (with_t []) 4
    (s.Alter (Add (codes "nope") (column (codes "v") Int true))
    ∷ s.Alter (Add (codes "t_Ledger") (column (codes "v") (NVarChar 0) true))
    ∷ s.Alter (Add (codes "t_Ledger") (column (codes "w") (NVarChar 0) true))
    ∷ s.Alter (Add (codes "t_Ledger") (column (codes "w") Int true))
    ∷ s.Alter (Add (codes "sys_ledger_tables") (column (codes "name") Int true))
    ∷ s.Alter (DropColumn (codes "t_Ledger") (codes "nope")) ∷ drop_of_t (codes "nope")
    ∷ drop_of_t (codes "id") ∷ s.Drop (codes "nope") ∷ s.Drop (codes "t_Ledger") ∷ [])
    ≡ (codes "E02" ∷ []) ∷ (codes "E03" ∷ []) ∷ (codes "E16" ∷ []) ∷ (codes "E11" ∷ []) ∷ (codes "E03" ∷ [])
    ∷ (codes "E11" ∷ []) ∷ (codes "E04" ∷ []) ∷ (codes "E12" ∷ []) ∷ (codes "E02" ∷ []) ∷ (codes "E11" ∷ [])
    ∷ []
unfolding chars digits value_cmp raised utf16_units pointed printed is_in_range conversion_of find_part started ended key_places key_at key_cmp same_key has_live_row_at live_by_key_at rows_of holds key_fixed changed_all kept kept_row arranged is_duplicate inserted_rows versions_matched row_after_set row_changes insert_check values_check listed_check update_check sets_check delete_check row_statement_check select_check query_check total agg_value selected first_tables table_row column_rows index_rows table_def create_check index_check alter_check drop_check dropped_table next_change changed_table_row changed_column_row query_rows effect reply_lines reply_text
order_of_refusals = refl

pub dropped_columns_are_read : answers (with_t (version 1 10 (2, 0) None ∷ [])) 4
    (drop_of_t (codes "v") ∷ drop_of_t (codes "MSSQL_DroppedLedgerColumn_v_2")
    ∷ listed (codes "MSSQL_DroppedLedgerColumn_v_2" ∷ []) ((num 1 ∷ []) ∷ [])
    ∷ index_on (codes "iv") (codes "t") (codes "MSSQL_DroppedLedgerColumn_v_2" ∷ [])
    ∷ add_to_t (codes "MSSQL_DroppedLedgerColumn_v_2") Int ∷ add_to_t (codes "v") Int ∷ drop_of_t (codes "v")
    ∷ select (codes "t") (Columns (codes "MSSQL_DroppedLedgerColumn_v_3" ∷ codes "MSSQL_DroppedLedgerColumn_v_2" ∷ [])) []
    ∷ all_of (codes "t_Ledger") ∷ [])
    ≡ (codes "made" ∷ []) ∷ (codes "E04" ∷ []) ∷ (codes "E04" ∷ []) ∷ (codes "E04" ∷ []) ∷ (codes "E03" ∷ [])
    ∷ (codes "made" ∷ []) ∷ (codes "made" ∷ []) ∷ (codes "NULL|10" ∷ codes "1 rows" ∷ [])
    ∷ (codes "1|2|0|1|N'INSERT'" ∷ codes "1 rows" ∷ []) ∷ []
unfolding chars digits value_cmp raised utf16_units pointed printed is_in_range conversion_of find_part started ended key_places key_at key_cmp same_key has_live_row_at live_by_key_at rows_of holds key_fixed changed_all kept kept_row arranged is_duplicate inserted_rows versions_matched row_after_set row_changes insert_check values_check listed_check update_check sets_check delete_check row_statement_check select_check query_check total agg_value selected first_tables table_row column_rows index_rows table_def create_check index_check alter_check drop_check dropped_table next_change changed_table_row changed_column_row query_rows effect reply_lines reply_text
dropped_columns_are_read = refl
