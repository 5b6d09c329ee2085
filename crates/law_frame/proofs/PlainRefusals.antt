-- A table statement is refused with no code of transaction control, of locks, of digests or of memory.
use Rattle.std.proofs.Common.{ℕ, ◌+◌, map, Bool, true, false, List, [], ◌∷◌, Option, Some, None, Ok, Err}
use Rattle.std.specs.Prelude.{ℤ, ◌-◌, ◌+ℤ◌, ◌-ℤ◌, ◌*ℤ◌, neg_ℤ, max, if◌then◌else◌, ◌&&◌, nat_le, ◌++◌}
use Rattle.std.specs.List.{zip}
use Rattle.sql_value.specs.declared.value.Value.{Value}
use Rattle.sql_value.specs.declared.value.Value.TheVariants as val
use Rattle.sql_value.specs.declared.column.ColumnDef.{ColumnDef}
use Rattle.sql_value.specs.declared.refusal.Refusal.{Refusal}
use Rattle.sql_value.specs.declared.refusal.Refusal.TheVariants.{NoSuchTable, NameConflict, NoSuchColumn, TypeMismatch, NullNotAllowed, DuplicateKey, NumberOutOfRange, ValueTooLong, AppendOnlyTable, ReadOnlyTable, KeyNotUpdatable, LimitExceeded, ValueCountMismatch}
use Rattle.sql_value.specs.declared.refusal.ValueErr.TheVariants.{Mismatch, OutOfRange, TooLong}
use Rattle.sql_value.specs.declared.expr.Expr.{Expr}
use Rattle.sql_value.specs.declared.expr.Op.{Op}
use Rattle.sql_value.specs.declared.expr.Op.TheVariants as op
use Rattle.sql_value.specs.Conversion.{Converted, conversion_of}
use Rattle.sql_value.specs.Number.{has_digits, raised}
use Rattle.sql_value.specs.Tree.{Tree, literal, column, minus, not, is_null, binary, tree}
use Rattle.sql_types.specs.declared.outcome.Outcome.{Outcome}
use Rattle.sql_types.specs.declared.outcome.Outcome.TheVariants as out
use Rattle.sql_types.specs.declared.reply.Reply.{Reply}
use Rattle.sql_types.specs.declared.reply.Reply.TheVariants as r
use Rattle.sql_types.specs.declared.statement.Alter.{Alter}
use Rattle.sql_types.specs.declared.statement.Alter.TheVariants.{Add, DropColumn}
use Rattle.sql_types.specs.declared.statement.Agg.{Agg}
use Rattle.sql_types.specs.declared.statement.Agg.TheVariants.{Count, Sum}
use Rattle.sql_types.specs.declared.statement.CreateIndex.{CreateIndex}
use Rattle.sql_types.specs.declared.statement.CreateTable.{CreateTable}
use Rattle.sql_types.specs.declared.statement.RowStmt.{RowStmt}
use Rattle.sql_types.specs.declared.statement.RowStmt.TheVariants.{Insert, Update, Delete}
use Rattle.sql_types.specs.declared.statement.Select.{Select}
use Rattle.sql_types.specs.declared.statement.Stmt.{Stmt}
use Rattle.sql_types.specs.declared.statement.Stmt.TheVariants as s
use Rattle.sql_types.specs.declared.statement.SelectList.{SelectList}
use Rattle.sql_types.specs.declared.statement.SelectList.TheVariants.{All, Columns, Aggs}
use Rattle.sql_types.specs.declared.table.IndexDef.{IndexDef}
use Rattle.sql_types.specs.declared.table.Part.{Part}
use Rattle.sql_types.specs.declared.table.Part.TheVariants.{Base}
use Rattle.sql_types.specs.declared.table.TableDef.{TableDef}
use Rattle.sql_types.specs.declared.version.Version.{Version}
use Rattle.spec_model.specs.Refusals.{Checked, and_then, or_refused}
use Rattle.spec_model.specs.Catalog.{Defs, NamedPart, Tables, defs_of, versions_of, find_part}
use Rattle.spec_model.specs.Changes.{or_its_refusal, written_names, kept, kept_row, arranged, is_duplicate, one_more, inserted_rows, versions_matched, expr_set, as_value, value_set, row_after_set, Changes, row_changes}
use Rattle.spec_model.specs.Checks.{refused_if, listed_check, values_check, insert_check, sets_check, update_check, delete_check, row_check, row_statement_check}
use Rattle.spec_model.specs.Columns.{place_of, value_of}
use Rattle.spec_model.specs.SystemTables.{tables_id, columns_id}
use Rattle.spec_model.specs.Create.{create_check, index_check_in, index_check}
use Rattle.spec_model.specs.Alter.{add_check_in, live_named, drop_column_check, drop_column_check_in, alter_check, drop_check_in, drop_check, Altered, alteration, table_drop}
use Rattle.spec_model.specs.Effect.{effect, done, row_effect, shown, query_rows, query_effect, table_effect, index_effect, altered_effect}
use Rattle.spec_model.specs.Keys.{key_of}
use Rattle.spec_model.specs.Lists.{checked_map, checked_filter, checked_fold}
use Rattle.spec_model.specs.LiveColumns.{live_columns}
use Rattle.spec_model.specs.Evaluation as me
use Rattle.spec_model.specs.Numbers.{in_38_digits, combined, sum_of, difference_of, product_of, negative_of}
use Rattle.spec_model.specs.Query.{select_check, query_check, value_in, added_up, total, agg_value, apply_select_list, selected}
use Rattle.spec_model.specs.Parts.{columns_of, base_row}
use Rattle.spec_model.specs.Rows.{Row, row_of}
use Rattle.spec_model.specs.Where.{is_true, holds}

-- the codes of checks and of evaluation
abbrev pub IsPlain : Refusal → Type 0
IsPlain NoSuchTable = Unit {0}
IsPlain NameConflict = Unit {0}
IsPlain NoSuchColumn = Unit {0}
IsPlain TypeMismatch = Unit {0}
IsPlain NullNotAllowed = Unit {0}
IsPlain DuplicateKey = Unit {0}
IsPlain NumberOutOfRange = Unit {0}
IsPlain ValueTooLong = Unit {0}
IsPlain AppendOnlyTable = Unit {0}
IsPlain ReadOnlyTable = Unit {0}
IsPlain KeyNotUpdatable = Unit {0}
IsPlain LimitExceeded = Unit {0}
IsPlain ValueCountMismatch = Unit {0}
IsPlain _ = ⊥

-- a value, or such a code
abbrev pub IsPlainly : {A : Type 0} → Checked A → Type 0
IsPlainly (Ok a) = Unit {0}
IsPlainly (Err e) = IsPlain e

-- ---- one after another

goes_on : {A B : Type 0} (m : Checked A) (f : A → Checked B) → IsPlainly m → ((a : A) → IsPlainly (f a)) → IsPlainly (and_then m f)
goes_on (Ok a) f h g = g a
goes_on (Err e) f h g = h

or_plain : {A : Type 0} (e : Refusal) (o : Option A) → IsPlain e → IsPlainly (or_refused e o)
or_plain e (Some a) h = tt
or_plain e None h = h

check : {A : Type 0} (b : Bool) (e : Refusal) (m : Checked A) → IsPlain e → IsPlainly m → IsPlainly (refused_if b e m)
check true e m h k = h
check false e m h k = k

either : {A : Type 0} (b : Bool) (m n : Checked A) → IsPlainly m → IsPlainly n → IsPlainly (if b then m else n)
either true m n h k = h
either false m n h k = k

each : {A B : Type 0} (f : A → Checked B) → ((a : A) → IsPlainly (f a)) → (xs : List A) → IsPlainly (checked_map f xs)
each f h [] = tt
each f h (x ∷ xs) = goes_on (f x) (λ y. and_then (checked_map f xs) (λ ys. Ok (y ∷ ys))) (h x) (λ y. goes_on (checked_map f xs) (λ ys. Ok (y ∷ ys)) (each f h xs) (λ ys. tt))

those : {A : Type 0} (f : A → Checked Bool) → ((a : A) → IsPlainly (f a)) → (xs : List A) → IsPlainly (checked_filter f xs)
those f h [] = tt
those f h (x ∷ xs) =
    goes_on (f x) (λ b. and_then (checked_filter f xs) (λ ys. Ok (if b then x ∷ ys else ys))) (h x)
    (λ b. goes_on (checked_filter f xs) (λ ys. Ok (if b then x ∷ ys else ys)) (those f h xs) (λ ys. tt))

folded : {A B : Type 0} (f : B → A → Checked B) → ((b : B) (a : A) → IsPlainly (f b a)) → (b : B) (xs : List A) → IsPlainly (checked_fold f b xs)
folded f h b [] = tt
folded f h b (x ∷ xs) = goes_on (f b x) (λ c. checked_fold f c xs) (h b x) (λ c. folded f h c xs)

-- ---- numbers

size : (v : ℤ) (n : ℕ) → IsPlainly (in_38_digits v n)
size v n = either (has_digits v 38) (Ok (val.Num n v)) (Err NumberOutOfRange) tt tt

combination : (f : ℤ → ℤ → ℤ) (v w : ℤ) (n : ℕ) → IsPlainly (combined f v w n)
combination f v w n = either (has_digits v 38 && has_digits w 38) (in_38_digits (f v w) n) (Err NumberOutOfRange) (size (f v w) n) tt

sum : (v : ℤ) (n : ℕ) (w : ℤ) (z : ℕ) → IsPlainly (sum_of v n w z)
unfolding sum_of
sum v n w z = combination (λ a b. a +ℤ b) (raised v (z - n)) (raised w (n - z)) (max n z)

difference : (v : ℤ) (n : ℕ) (w : ℤ) (z : ℕ) → IsPlainly (difference_of v n w z)
unfolding difference_of
difference v n w z = combination (λ a b. a -ℤ b) (raised v (z - n)) (raised w (n - z)) (max n z)

product : (v : ℤ) (n : ℕ) (w : ℤ) (z : ℕ) → IsPlainly (product_of v n w z)
unfolding product_of
product v n w z = either (nat_le (n + z) 38) (in_38_digits (v *ℤ w) (n + z)) (Err TypeMismatch) (size (v *ℤ w) (n + z)) tt

negative : (v : ℤ) (n : ℕ) → IsPlainly (negative_of v n)
unfolding negative_of
negative v n = size (neg_ℤ v) n

-- ---- operators

number_op : (o : Op) (v : ℤ) (n : ℕ) (w : ℤ) (z : ℕ) → IsPlainly (me.number_op o v n w z)
number_op op.Add v n w z = sum v n w z
number_op op.Sub v n w z = difference v n w z
number_op op.Mul v n w z = product v n w z
number_op op.Eq v n w z = tt
number_op op.Ne v n w z = tt
number_op op.Lt v n w z = tt
number_op op.Le v n w z = tt
number_op op.Gt v n w z = tt
number_op op.Ge v n w z = tt
number_op op.And v n w z = tt
number_op op.Or v n w z = tt

arithmetic : (o : Op) (x y : Value) → IsPlainly (me.arithmetic o x y)
arithmetic o (val.Num n v) (val.Num z w) = goes_on (me.number_op o v n w z) me.a_value (number_op o v n w z) (λ x. tt)
arithmetic o (val.Num n v) val.Null = tt
arithmetic o (val.Num n v) (val.Text x) = tt
arithmetic o (val.Num n v) (val.Bytes x) = tt
arithmetic o (val.Num n v) (val.Date d) = tt
arithmetic o val.Null (val.Num z w) = tt
arithmetic o val.Null val.Null = tt
arithmetic o val.Null (val.Text x) = tt
arithmetic o val.Null (val.Bytes x) = tt
arithmetic o val.Null (val.Date d) = tt
arithmetic o (val.Text x) y = tt
arithmetic o (val.Bytes x) y = tt
arithmetic o (val.Date d) y = tt

negated : (o : Outcome) → IsPlainly (me.negated o)
negated (out.Value (val.Num n v)) = goes_on (negative_of v n) me.a_value (negative v n) (λ x. tt)
negated (out.Value val.Null) = tt
negated (out.Value (val.Text x)) = tt
negated (out.Value (val.Bytes x)) = tt
negated (out.Value (val.Date d)) = tt
negated (out.Truth t) = tt

compared : (o : Op) (x y : Value) → IsPlainly (me.compared o x y)
compared o val.Null y = tt
compared o (val.Num n v) val.Null = tt
compared o (val.Num n v) (val.Num z w) = tt
compared o (val.Num n v) (val.Text y) = tt
compared o (val.Num n v) (val.Bytes y) = tt
compared o (val.Num n v) (val.Date e) = tt
compared o (val.Text x) val.Null = tt
compared o (val.Text x) (val.Num z w) = tt
compared o (val.Text x) (val.Text y) = tt
compared o (val.Text x) (val.Bytes y) = tt
compared o (val.Text x) (val.Date e) = tt
compared o (val.Bytes x) val.Null = tt
compared o (val.Bytes x) (val.Num z w) = tt
compared o (val.Bytes x) (val.Text y) = tt
compared o (val.Bytes x) (val.Bytes y) = tt
compared o (val.Bytes x) (val.Date e) = tt
compared o (val.Date d) val.Null = tt
compared o (val.Date d) (val.Num z w) = tt
compared o (val.Date d) (val.Text y) = tt
compared o (val.Date d) (val.Bytes y) = tt
compared o (val.Date d) (val.Date e) = tt

with_null : (o : Op) → IsPlainly (me.with_null o)
with_null op.Add = tt
with_null op.Sub = tt
with_null op.Mul = tt
with_null op.Eq = tt
with_null op.Ne = tt
with_null op.Lt = tt
with_null op.Le = tt
with_null op.Gt = tt
with_null op.Ge = tt
with_null op.And = tt
with_null op.Or = tt

inverted : (o : Outcome) → IsPlainly (me.inverted o)
inverted (out.Truth t) = tt
inverted (out.Value x) = tt

null_test : (n : Bool) (o : Outcome) → IsPlainly (me.null_test n o)
null_test n (out.Value x) = tt
null_test n (out.Truth t) = tt

on_values : (o : Op) (x y : Value) → IsPlainly (me.on_values o x y)
on_values op.Add x y = arithmetic op.Add x y
on_values op.Sub x y = arithmetic op.Sub x y
on_values op.Mul x y = arithmetic op.Mul x y
on_values op.Eq x y = compared op.Eq x y
on_values op.Ne x y = compared op.Ne x y
on_values op.Lt x y = compared op.Lt x y
on_values op.Le x y = compared op.Le x y
on_values op.Gt x y = compared op.Gt x y
on_values op.Ge x y = compared op.Ge x y
on_values op.And x y = tt
on_values op.Or x y = tt

on_truths : (o : Op) (x y : Option Bool) → IsPlainly (me.on_truths o x y)
on_truths op.Add x y = tt
on_truths op.Sub x y = tt
on_truths op.Mul x y = tt
on_truths op.Eq x y = tt
on_truths op.Ne x y = tt
on_truths op.Lt x y = tt
on_truths op.Le x y = tt
on_truths op.Gt x y = tt
on_truths op.Ge x y = tt
on_truths op.And x y = tt
on_truths op.Or x y = tt

applied : (o : Op) (a b : Outcome) → IsPlainly (me.applied o a b)
applied o (out.Value x) (out.Value y) = on_values o x y
applied o (out.Truth x) (out.Truth y) = on_truths o x y
applied o (out.Value val.Null) (out.Truth y) = with_null o
applied o (out.Value (val.Num n v)) (out.Truth y) = tt
applied o (out.Value (val.Text x)) (out.Truth y) = tt
applied o (out.Value (val.Bytes x)) (out.Truth y) = tt
applied o (out.Value (val.Date d)) (out.Truth y) = tt
applied o (out.Truth x) (out.Value val.Null) = with_null o
applied o (out.Truth x) (out.Value (val.Num z w)) = tt
applied o (out.Truth x) (out.Value (val.Text y)) = tt
applied o (out.Truth x) (out.Value (val.Bytes y)) = tt
applied o (out.Truth x) (out.Value (val.Date e)) = tt

-- ---- expressions

meaning : (columns : List ColumnDef) (row : List Value) (t : Tree) → IsPlainly (me.meaning columns row t)
meaning columns row (literal v) = tt
meaning columns row (column name) = goes_on (or_refused TypeMismatch (value_of columns row name)) me.a_value (or_plain TypeMismatch (value_of columns row name) tt) (λ x. tt)
meaning columns row (minus a) = goes_on (me.meaning columns row a) me.negated (meaning columns row a) negated
meaning columns row (not a) = goes_on (me.meaning columns row a) me.inverted (meaning columns row a) inverted
meaning columns row (is_null a n) = goes_on (me.meaning columns row a) (me.null_test n) (meaning columns row a) (null_test n)
meaning columns row (binary o a b) = goes_on (me.meaning columns row a) _ (meaning columns row a) (λ x. goes_on (me.meaning columns row b) _ (meaning columns row b) (λ y. applied o _ _))

expression : (columns : List ColumnDef) (row : List Value) (e : Expr) → IsPlainly (me.meaning_of columns row e)
unfolding me.meaning_of
expression columns row e = meaning columns row (tree e)

is_truth : (o : Outcome) → IsPlainly (is_true o)
is_truth (out.Truth (Some b)) = tt
is_truth (out.Truth None) = tt
is_truth (out.Value v) = tt

condition : (columns : List ColumnDef) (cond : Option Expr) (row : Row) → IsPlainly (holds columns cond row)
unfolding holds
condition columns None row = tt
condition columns (Some e) row = goes_on (me.meaning_of columns row e) is_true (expression columns row e) is_truth

-- ---- rows

conversion : (m : Converted) → IsPlainly (or_its_refusal m)
conversion (Ok v) = tt
conversion (Err Mismatch) = tt
conversion (Err OutOfRange) = tt
conversion (Err TooLong) = tt

kept_value : (c : ColumnDef) (v : Value) → IsPlainly (kept c v)
unfolding kept
kept_value c val.Null = either c.nullable (Ok val.Null) (Err NullNotAllowed) tt tt
kept_value c (val.Num n v) = conversion (conversion_of (val.Num n v) c.ty)
kept_value c (val.Text x) = conversion (conversion_of (val.Text x) c.ty)
kept_value c (val.Bytes x) = conversion (conversion_of (val.Bytes x) c.ty)
kept_value c (val.Date d) = conversion (conversion_of (val.Date d) c.ty)

row_kept : (columns : List ColumnDef) (row : Row) → IsPlainly (kept_row columns row)
unfolding kept_row
row_kept columns row = each (λ p. kept p.0 p.1) (λ p. kept_value p.0 p.1) (zip columns row)

one_row : (columns : List ColumnDef) (versions : List Version) (before : List Row) (row : Row) → IsPlainly (one_more columns versions before row)
one_row columns versions before row = either (is_duplicate columns versions before (key_of columns row)) (Err DuplicateKey) (Ok (before ++ row ∷ [])) tt tt

rows_inserted : (columns : List ColumnDef) (versions : List Version) (names : Option (List (List ℕ))) (rows : List Row) → IsPlainly (inserted_rows columns versions names rows)
unfolding inserted_rows
rows_inserted columns versions names rows =
    folded (λ before row. and_then (kept_row columns (arranged columns names row)) (one_more columns versions before))
    (λ before row. goes_on (kept_row columns (arranged columns names row)) (one_more columns versions before) (row_kept columns (arranged columns names row)) (one_row columns versions before)) [] rows

matched : (columns : List ColumnDef) (cond : Option Expr) (versions : List Version) → IsPlainly (versions_matched columns cond versions)
unfolding versions_matched
matched columns cond versions = those _ (λ v. condition _ cond _) _

a_value : (o : Outcome) → IsPlainly (as_value o)
a_value (out.Value v) = tt
a_value (out.Truth t) = tt

set_value : (columns : List ColumnDef) (row : Row) (c : ColumnDef) (v : Value) (o : Option Expr) → IsPlainly (value_set columns row c v o)
set_value columns row c v None = tt
set_value columns row c v (Some e) = goes_on _ _ (expression _ row e) (λ o. goes_on (as_value o) (kept c) (a_value o) (kept_value c))

set_row : (columns : List ColumnDef) (sets : List (List ℕ × Expr)) (v : Version) → IsPlainly (row_after_set columns sets v)
unfolding row_after_set
set_row columns sets v = each (λ (p : ColumnDef × Value). value_set columns (base_row columns v) p.0 p.1 (expr_set sets p.0.name)) (λ p. set_value columns (base_row columns v) p.0 p.1 (expr_set sets p.0.name)) (zip columns (row_of columns v))

changes : (def : TableDef) (versions : List Version) (stmt : RowStmt) → IsPlainly (row_changes def versions stmt)
unfolding row_changes
changes def versions (Insert table names rows) = goes_on (inserted_rows def.columns versions (written_names def names) rows) _ (rows_inserted def.columns versions (written_names def names) rows) (λ kept. tt)
changes def versions (Update table sets cond) =
    goes_on (versions_matched def.columns cond versions) _ (matched def.columns cond versions)
    (λ taken. goes_on (checked_map (row_after_set def.columns sets) taken) _ (each (row_after_set def.columns sets) (set_row def.columns sets) taken) (λ rows. tt))
changes def versions (Delete table cond) = goes_on (versions_matched def.columns cond versions) _ (matched def.columns cond versions) (λ taken. tt)

-- ---- checks

values : (columns : List ColumnDef) (names : Option (List (List ℕ))) (rows : List Row) → IsPlainly (values_check columns names rows)
unfolding values_check listed_check
values columns names rows = search check

insertion : (def : TableDef) (part : Part) (names : Option (List (List ℕ))) (rows : List Row) → IsPlainly (insert_check def part names rows)
unfolding insert_check
insertion def part names rows = search (check, values (live_columns def) names rows)

sets_checked : (live declared columns : List ColumnDef) (sets : List (List ℕ × Expr)) (cond : Option Expr) → IsPlainly (sets_check live declared columns sets cond)
unfolding sets_check
sets_checked live declared columns sets cond = search check

update : (def : TableDef) (part : Part) (sets : List (List ℕ × Expr)) (cond : Option Expr) → IsPlainly (update_check def part sets cond)
unfolding update_check
update def part sets cond = search (check, sets_checked (live_columns def) def.columns (columns_of def Base) sets cond)

deletion : (def : TableDef) (part : Part) (cond : Option Expr) → IsPlainly (delete_check def part cond)
unfolding delete_check
deletion def part cond = search check

row_checked : (stmt : RowStmt) (def : TableDef) (part : Part) → IsPlainly (row_check stmt def part)
row_checked (Insert table names rows) def part = insertion def part names rows
row_checked (Update table sets cond) def part = update def part sets cond
row_checked (Delete table cond) def part = deletion def part cond

row_statement : (defs : Defs) (stmt : RowStmt) → IsPlainly (row_statement_check defs stmt)
unfolding row_statement_check
row_statement defs stmt = goes_on _ _ (or_plain NoSuchTable _ tt) (λ n. goes_on (row_check stmt n.0 n.1) _ (row_checked stmt n.0 n.1) (λ passed. tt))

creation : (defs : Defs) (c : CreateTable) → IsPlainly (create_check defs c)
unfolding create_check
creation defs c = search check

indexing : (defs : Defs) (c : CreateIndex) → IsPlainly (index_check defs c)
unfolding index_check
indexing defs c = goes_on _ (index_check_in c) (or_plain NoSuchTable (find_part defs c.table) tt) (λ n. search check)

adding : (c : ColumnDef) (n : NamedPart) → IsPlainly (add_check_in c n)
adding c n = search check

column_dropped : (def : TableDef) (p : ℕ × ColumnDef) → IsPlainly (drop_column_check def p)
column_dropped def p = search check

live_column : (name : List ℕ) (n : NamedPart) → IsPlainly (and_then (or_refused NoSuchColumn (live_named n.0 name)) (drop_column_check n.0))
live_column name n = goes_on (or_refused NoSuchColumn (live_named n.0 name)) (drop_column_check n.0) (or_plain NoSuchColumn (live_named n.0 name) tt) (column_dropped n.0)

column_drop : (name : List ℕ) (n : NamedPart) → IsPlainly (drop_column_check_in name n)
column_drop name n = search (check, live_column name n)

alter_checked : (defs : Defs) (a : Alter) → IsPlainly (alter_check defs a)
unfolding alter_check
alter_checked defs (Add table c) = goes_on _ (add_check_in c) (or_plain NoSuchTable (find_part defs table) tt) (adding c)
alter_checked defs (DropColumn table name) = goes_on _ (drop_column_check_in name) (or_plain NoSuchTable (find_part defs table) tt) (column_drop name)

drop_checked : (defs : Defs) (name : List ℕ) → IsPlainly (drop_check defs name)
unfolding drop_check
drop_checked defs name = goes_on _ (drop_check_in defs) (or_plain NoSuchTable (find_part defs name) tt) (λ n. search check)

altering : (defs : Defs) (first second : List Version) (a : Alter) → IsPlainly (alteration defs first second a)
altering defs first second a = goes_on (alter_check defs a) _ (alter_checked defs a) (λ x. tt)

dropping : (defs : Defs) (first second : List Version) (name : List ℕ) → IsPlainly (table_drop defs first second name)
dropping defs first second name = goes_on (drop_check defs name) _ (drop_checked defs name) (λ def. tt)

-- ---- SELECT

selection : (columns : List ColumnDef) (q : Select) → IsPlainly (select_check columns q)
unfolding select_check
selection columns q = search check

query : (defs : Defs) (q : Select) → IsPlainly (query_check defs q)
unfolding query_check
query defs q = goes_on _ _ (or_plain NoSuchTable (find_part defs q.table) tt) (λ n. goes_on (select_check (columns_of n.0 n.1) q) _ (selection (columns_of n.0 n.1) q) (λ passed. tt))

added : (a b : Value) → IsPlainly (added_up a b)
added a val.Null = tt
added val.Null (val.Num n v) = size v n
added (val.Num z w) (val.Num n v) = sum w z v n
added (val.Text x) (val.Num n v) = tt
added (val.Bytes x) (val.Num n v) = tt
added (val.Date d) (val.Num n v) = tt
added val.Null (val.Text y) = tt
added (val.Num z w) (val.Text y) = tt
added (val.Text x) (val.Text y) = tt
added (val.Bytes x) (val.Text y) = tt
added (val.Date d) (val.Text y) = tt
added val.Null (val.Bytes y) = tt
added (val.Num z w) (val.Bytes y) = tt
added (val.Text x) (val.Bytes y) = tt
added (val.Bytes x) (val.Bytes y) = tt
added (val.Date d) (val.Bytes y) = tt
added val.Null (val.Date e) = tt
added (val.Num z w) (val.Date e) = tt
added (val.Text x) (val.Date e) = tt
added (val.Bytes x) (val.Date e) = tt
added (val.Date d) (val.Date e) = tt

aggregate : (columns : List ColumnDef) (rows : List Row) (a : Agg) → IsPlainly (agg_value columns rows a)
unfolding agg_value total
aggregate columns rows Count = tt
aggregate columns rows (Sum name) = folded added_up added val.Null (map (value_in (place_of columns name)) rows)

what : (columns : List ColumnDef) (dropped : List ℕ) (n : ℕ) (w : SelectList) (rows : List Row) → IsPlainly (apply_select_list columns dropped n w rows)
what columns dropped n All rows = tt
what columns dropped n (Columns names) rows = tt
what columns dropped n (Aggs aggs) rows = goes_on (checked_map (agg_value columns rows) aggs) _ (each (agg_value columns rows) (aggregate columns rows) aggs) (λ values. tt)

rows_shown : (q : Select) (n : NamedPart) (versions : List Version) → IsPlainly (query_rows q n versions)
unfolding query_rows selected
rows_shown q n versions = goes_on _ _ (those _ (condition _ q.cond) _) (λ taken. what _ _ _ q.what _)

-- ---- replies

-- the replies of table statements
abbrev pub IsPlainReply : Reply → Type 0
IsPlainReply (r.Changed n) = Unit {0}
IsPlainReply (r.Rows rows) = Unit {0}
IsPlainReply r.Made = Unit {0}
IsPlainReply r.NoOutput = Unit {0}
IsPlainReply (r.Refused e) = IsPlain e
IsPlainReply _ = ⊥

module _ (T : Tables) (tx seq : ℕ) where
  changes_reply : (id : ℕ) (m : Checked Changes) → IsPlainly m → IsPlainReply (done T tx seq id m).reply
  changes_reply id (Ok c) h = tt
  changes_reply id (Err e) h = h

  row_reply : (stmt : RowStmt) (m : Checked TableDef) → IsPlainly m → IsPlainReply (row_effect T tx seq stmt m).reply
  row_reply stmt (Ok def) h = changes_reply def.id (row_changes def (versions_of T def.id) stmt) (changes def (versions_of T def.id) stmt)
  row_reply stmt (Err e) h = h

  rows_reply : (m : Checked (List Row)) → IsPlainly m → IsPlainReply (shown T seq m).reply
  rows_reply (Ok rows) h = tt
  rows_reply (Err e) h = h

  query_reply : (q : Select) (m : Checked NamedPart) → IsPlainly m → IsPlainReply (query_effect T seq q m).reply
  query_reply q (Ok n) h = rows_reply (query_rows q n (versions_of T n.0.id)) (rows_shown q n (versions_of T n.0.id))
  query_reply q (Err e) h = h

  table_reply : (m : Checked TableDef) → IsPlainly m → IsPlainReply (table_effect T tx seq m).reply
  table_reply (Ok def) h = tt
  table_reply (Err e) h = h

  index_reply : (m : Checked (TableDef × IndexDef)) → IsPlainly m → IsPlainReply (index_effect T tx seq m).reply
  index_reply (Ok x) h = tt
  index_reply (Err e) h = h

  altered_reply : (m : Checked Altered) → IsPlainly m → IsPlainReply (altered_effect T tx seq m).reply
  altered_reply (Ok a) h = tt
  altered_reply (Err e) h = h

  pub effect_reply : (stmt : Stmt) → IsPlainReply (effect T tx seq stmt).reply
  unfolding effect
  effect_reply (s.Create c) = table_reply (create_check (defs_of T) c) (creation (defs_of T) c)
  effect_reply (s.Index c) = index_reply (index_check (defs_of T) c) (indexing (defs_of T) c)
  effect_reply (s.Alter a) = altered_reply (alteration (defs_of T) (versions_of T tables_id) (versions_of T columns_id) a) (altering (defs_of T) (versions_of T tables_id) (versions_of T columns_id) a)
  effect_reply (s.Drop name) = altered_reply (table_drop (defs_of T) (versions_of T tables_id) (versions_of T columns_id) name) (dropping (defs_of T) (versions_of T tables_id) (versions_of T columns_id) name)
  effect_reply (s.Change stmt) = row_reply stmt (row_statement_check (defs_of T) stmt) (row_statement (defs_of T) stmt)
  effect_reply (s.Select q) = query_reply q (query_check (defs_of T) q) (query (defs_of T) q)
  effect_reply s.Begin = tt
  effect_reply s.Commit = tt
  effect_reply (s.Save name) = tt
  effect_reply (s.Rollback name) = tt
  effect_reply s.Digest = tt
  effect_reply s.Image = tt
