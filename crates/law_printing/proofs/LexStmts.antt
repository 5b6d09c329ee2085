-- The text of each printed statement has its tokens.
use Rattle.std.proofs.Common.{◌≡◌, ◌∙◌, ℕ, Bool, true, false, List, [], ◌∷◌, Option, Some, None, refl, ap, sym, subst, codes}
use Rattle.std.specs.Prelude.{pos, negsuc, option_and_then, if◌then◌else◌}
use Rattle.sql_value.specs.declared.value.Value.{Value}
use Rattle.sql_value.specs.declared.value.Value.TheVariants as value
use Rattle.sql_value.specs.declared.expr.Op.{Op}
use Rattle.sql_value.specs.declared.expr.Op.TheVariants as op
use Rattle.sql_value.specs.declared.expr.Expr.{Expr}
use Rattle.sql_value.specs.declared.sql_type.SqlType.{SqlType}
use Rattle.sql_value.specs.declared.sql_type.SqlType.TheVariants as sql
use Rattle.sql_value.specs.declared.column.ColumnDef.{ColumnDef}
use Rattle.sql_value.specs.declared.column.TableKind.{TableKind}
use Rattle.sql_value.specs.declared.column.TableKind.TheVariants.{AppendOnly, Updatable}
use Rattle.sql_value.specs.Tree.{Tree, literal, column, minus, not, is_null, binary, tree}
use Rattle.sql_value.specs.Literals.{IsLiteral}
use Rattle.sql_types.specs.declared.statement.Stmt.{Stmt}
use Rattle.sql_types.specs.declared.statement.Stmt.TheVariants as stmt
use Rattle.sql_types.specs.declared.statement.CreateTable.{CreateTable}
use Rattle.sql_types.specs.declared.statement.CreateIndex.{CreateIndex}
use Rattle.sql_types.specs.declared.statement.Alter.{Alter}
use Rattle.sql_types.specs.declared.statement.Alter.TheVariants.{Add, DropColumn}
use Rattle.sql_types.specs.declared.statement.RowStmt.{RowStmt}
use Rattle.sql_types.specs.declared.statement.RowStmt.TheVariants.{Insert, Update, Delete}
use Rattle.sql_types.specs.declared.statement.Select.{Select}
use Rattle.sql_types.specs.declared.statement.SelectList.{SelectList}
use Rattle.sql_types.specs.declared.statement.SelectList.TheVariants as shown
use Rattle.sql_types.specs.declared.statement.Agg.{Agg}
use Rattle.sql_types.specs.declared.statement.Agg.TheVariants as aggregate
use Rattle.spec_syntax.specs.declared.tag.Tag.TheVariants as t
use Rattle.spec_syntax.specs.Tags.{tag_of}
use Rattle.spec_syntax.specs.Input.{Sym}
use Rattle.spec_syntax.specs.Text.{grammar_statement_of}
use Rattle.spec_syntax.specs.Stmt.{statement_of_tokens}
use Rattle.spec_syntax.specs.Printed as p
use Rattle.spec_syntax.specs.Printed.{key, word, enclosed, listed, rest_listed}
use Rattle.spec_syntax.specs.PrintedStmt as s
use Rattle.spec_syntax.specs.Parsed.{IsName, IsTree, IsExpr, IsType, IsColumn, IsHistory, IsTable, IsIndex, IsAlter, IsAssignment, IsChange, IsAgg, IsWhat, IsSort, IsOrder, IsSelect, IsParsed, Each, OneOrMore, Maybe}
use Rattle.law_printing.proofs.Cut.{statement_of_cut}
use Rattle.law_printing.proofs.Lexed.{One, Lexed, none, more, joined, spelled_cut}
use Rattle.law_printing.proofs.Tokens as k
use Rattle.law_printing.proofs.Literals.{one_name}
use Rattle.law_printing.proofs.Values.{one_digits, one_literal, one_negative}
use Rattle.law_printing.proofs.ReadTrees.{Written}
use Rattle.law_printing.proofs.ReadParts.{Untreed}
use Rattle.law_printing.proofs.ReadRows.{value_syms, row_syms, change_syms}
use Rattle.law_printing.proofs.ReadStmts.{stmt_syms, syms_read}

then_ : {a : Sym} {ss ts : List Sym} → One a (a ∷ []) → Lexed ss ts → Lexed (a ∷ ss) (a ∷ ts)
then_ one rest = more one rest

lone : {a : Sym} → One a (a ∷ []) → Lexed (a ∷ []) (a ∷ [])
lone one = more one none

lex_enclosed : {ss ts : List Sym} → Lexed ss ts → Lexed (enclosed ss) (enclosed ts)
lex_enclosed inner = then_ k.open_ (joined inner (lone k.close))

module _ {A : Type 0} (tokens syms : A → List Sym) (P : A → Type 0) (lex : (x : A) → P x → Lexed (tokens x) (syms x)) where
  lex_rest : (xs : List A) → Each P xs → Lexed (rest_listed tokens xs) (rest_listed syms xs)
  unfolding rest_listed
  lex_rest [] is = none
  lex_rest (x ∷ xs) is = then_ k.comma (joined (lex x is.0) (lex_rest xs is.1))

  lex_listed : (xs : List A) → OneOrMore P xs → Lexed (listed tokens xs) (listed syms xs)
  unfolding listed
  lex_listed [] is = absurd is
  lex_listed (x ∷ xs) is = joined (lex x is.0) (lex_rest xs is.1)

lex_name : (n : List ℕ) → IsName n → Lexed (s.one_name n) (s.one_name n)
lex_name n is = lone (one_name n is)

lex_names : (ns : List (List ℕ)) → OneOrMore IsName ns → Lexed (s.names ns) (s.names ns)
lex_names ns is = lex_enclosed (lex_listed s.one_name s.one_name IsName lex_name ns is)

-- ---- expressions

op_one : (o : Op) → One (key (p.op_tag o)) (key (p.op_tag o) ∷ [])
op_one op.Add = k.plus
op_one op.Sub = k.minus
op_one op.Mul = k.star
op_one op.Eq = k.equal
op_one op.Ne = k.not_equal
op_one op.Lt = k.less
op_one op.Le = k.less_equal
op_one op.Gt = k.greater
op_one op.Ge = k.greater_equal
op_one op.And = k.and_
op_one op.Or = k.or_

lex_null : (negated : Bool) → Lexed (p.null negated) (p.null negated)
lex_null true = then_ k.is_ (then_ k.not_ (lone k.null_))
lex_null false = then_ k.is_ (lone k.null_)

lex_expr : (a : Tree) → IsTree a → Lexed (p.expr a) (p.expr a)
lex_expr (literal v) is = lone (one_literal v is.0 is.1)
lex_expr (column n) is = lone (one_name n is)
lex_expr (minus a) is = lex_enclosed (then_ k.minus (lex_expr a is))
lex_expr (not a) is = lex_enclosed (then_ k.not_ (lex_expr a is))
lex_expr (is_null a negated) is = lex_enclosed (joined (lex_expr a is) (lex_null negated))
lex_expr (binary o a b) is = lex_enclosed (joined (lex_expr a is.0) (then_ (op_one o) (lex_expr b is.1)))

lex_filter : (cond : Option Expr) → Maybe IsExpr cond → Lexed (s.filter cond) (s.filter cond)
lex_filter None is = none
lex_filter (Some x) is = then_ k.where_ (lex_expr (tree x) is.0)

-- ---- CREATE TABLE, CREATE INDEX, ALTER TABLE and DROP TABLE

lex_type : (ty : SqlType) → IsType ty → Lexed (s.sql_type ty) (s.sql_type ty)
unfolding s.sql_type tag_of
lex_type sql.Bit is = lone (k.plain_word 66 (codes "IT") refl refl refl)
lex_type sql.Int is = lone (k.plain_word 73 (codes "NT") refl refl refl)
lex_type sql.BigInt is = lone (k.plain_word 66 (codes "IGINT") refl refl refl)
lex_type sql.Date is = lone (k.plain_word 68 (codes "ATE") refl refl refl)
lex_type (sql.Decimal m z) is = then_ (k.plain_word 68 (codes "ECIMAL") refl refl refl) (lex_enclosed (then_ (one_digits m is.0) (then_ k.comma (lone (one_digits z is.1)))))
lex_type (sql.NVarChar m) is = then_ (k.plain_word 78 (codes "VARCHAR") refl refl refl) (lex_enclosed (lone (one_digits m is)))
lex_type (sql.VarBinary m) is = then_ (k.plain_word 86 (codes "ARBINARY") refl refl refl) (lex_enclosed (lone (one_digits m is)))

lex_nullable : (c : Bool) → Lexed (s.nullable c) (s.nullable c)
unfolding s.nullable
lex_nullable true = lone k.null_
lex_nullable false = then_ k.not_ (lone k.null_)

lex_column : (d : ColumnDef) → IsColumn d → Lexed (s.column d) (s.column d)
unfolding s.column
lex_column d is = then_ (one_name d.name is.0) (joined (lex_type d.ty is.1) (lex_nullable d.nullable))

lex_on : Lexed s.on s.on
lex_on = then_ k.equal (lone k.on_)

lex_history : (h : Option (List ℕ)) → Maybe IsName h → Lexed (s.history h) (s.history h)
unfolding tag_of
lex_history None is = none
lex_history (Some h) is = lex_enclosed (then_ (k.plain_word 72 (codes "ISTORY_TABLE") refl refl refl) (then_ k.equal (lone (one_name h is))))

lex_view : (v : List ℕ) → IsName v → Lexed (s.view v) (s.view v)
unfolding tag_of
lex_view v is = then_ (k.plain_word 76 (codes "EDGER_VIEW") refl refl refl) (then_ k.equal (lone (one_name v is)))

lex_own : (v : Option (List ℕ)) → Maybe IsName v → Lexed (s.own_view v) (s.own_view v)
lex_own None is = none
lex_own (Some v) is = lex_enclosed (lex_view v is)

lex_more : (v : Option (List ℕ)) → Maybe IsName v → Lexed (s.more_view v) (s.more_view v)
lex_more None is = none
lex_more (Some v) is = then_ k.comma (lex_view v is)

lex_ledger_word : One (word (codes "LEDGER")) (word (codes "LEDGER") ∷ [])
unfolding tag_of
lex_ledger_word = k.plain_word 76 (codes "EDGER") refl refl refl

lex_updatable : (h v : Option (List ℕ)) → Maybe IsName h → Maybe IsName v → Lexed (s.updatable h v) (s.updatable h v)
unfolding tag_of
lex_updatable h v is own =
    joined (joined (joined (then_ (k.plain_word 83 (codes "YSTEM_VERSIONING") refl refl refl) lex_on) (lex_history h is)) (then_ k.comma (then_ lex_ledger_word lex_on))) (lex_own v own)

lex_append_only : (v : Option (List ℕ)) → Maybe IsName v → Lexed (s.append_only v) (s.append_only v)
unfolding tag_of s.choices
lex_append_only v own =
    joined (then_ lex_ledger_word lex_on) (lex_enclosed (joined (then_ (k.plain_word 65 (codes "PPEND_ONLY") refl refl refl) lex_on) (lex_more v own)))

lex_ledger : (kind : TableKind) (h v : Option (List ℕ)) → IsHistory kind h → Maybe IsName v → Lexed (s.ledger kind h v) (s.ledger kind h v)
unfolding s.ledger
lex_ledger Updatable h v is own = lex_updatable h v is own
lex_ledger AppendOnly h v is own = lex_append_only v own

lex_create : (c : CreateTable) → IsTable c → Lexed (s.create_table c) (s.create_table c)
unfolding s.create_table
lex_create c is =
    then_ k.create_ (then_ k.table_ (then_ (one_name c.name is.0) (joined
    (lex_enclosed (joined (lex_listed s.column s.column IsColumn lex_column c.columns is.1) (then_ k.comma (then_ k.primary_ (then_ k.key_ (lex_names c.key is.2))))))
    (then_ k.with_ (lex_enclosed (lex_ledger c.kind c.history c.view is.3 is.4))))))

lex_index : (c : CreateIndex) → IsIndex c → Lexed (s.create_index c) (s.create_index c)
unfolding s.create_index
lex_index c is = then_ k.create_ (then_ k.index_ (then_ (one_name c.name is.0) (then_ k.on_ (then_ (one_name c.table is.1) (lex_names c.columns is.2)))))

lex_alter : (a : Alter) → IsAlter a → Lexed (s.alter_table a) (s.alter_table a)
unfolding s.alter_table
lex_alter (Add table d) is = then_ k.alter_ (then_ k.table_ (then_ (one_name table is.0) (then_ k.add_ (lex_column d is.1))))
lex_alter (DropColumn table n) is = then_ k.alter_ (then_ k.table_ (then_ (one_name table is.0) (then_ k.drop_ (then_ k.column_ (lone (one_name n is.1))))))

lex_drop : (n : List ℕ) → IsName n → Lexed (s.drop_table n) (s.drop_table n)
unfolding s.drop_table
lex_drop n is = then_ k.drop_ (then_ k.table_ (lone (one_name n is)))

-- ---- INSERT, UPDATE and DELETE

lex_value : (v : Value) → IsLiteral v → Lexed (s.literal v) (value_syms v)
lex_value value.Null is = lone (one_literal value.Null is tt)
lex_value (value.Num z (pos n)) is = lone (one_literal (value.Num z (pos n)) is tt)
lex_value (value.Num z (negsuc n)) is = more (one_negative n z is) none
lex_value (value.Text x) is = lone (one_literal (value.Text x) is tt)
lex_value (value.Bytes b) is = lone (one_literal (value.Bytes b) is tt)
lex_value (value.Date d) is = absurd is

lex_row : (vs : List Value) → OneOrMore IsLiteral vs → Lexed (s.row vs) (row_syms vs)
lex_row vs is = lex_enclosed (lex_listed s.literal value_syms IsLiteral lex_value vs is)

lex_columns : (found : Option (List (List ℕ))) → Maybe (OneOrMore IsName) found → Lexed (s.columns found) (s.columns found)
lex_columns None is = none
lex_columns (Some ns) is = lex_names ns is

lex_assignment : (x : List ℕ × Expr) → IsAssignment x → Lexed (s.assignment x) (s.assignment x)
lex_assignment x is = then_ (one_name x.0 is.0) (then_ k.equal (lex_expr (tree x.1) is.1.0))

lex_change : (c : RowStmt) → IsChange c → Lexed (s.change c) (change_syms c)
unfolding s.change
lex_change (Insert table found rows) is =
    then_ k.insert_ (then_ k.into_ (then_ (one_name table is.0) (joined (lex_columns found is.1) (then_ k.values_ (lex_listed s.row row_syms (OneOrMore IsLiteral) lex_row rows is.2)))))
lex_change (Update table sets cond) is =
    then_ k.update_ (then_ (one_name table is.0) (then_ k.set_ (joined (lex_listed s.assignment s.assignment IsAssignment lex_assignment sets is.1) (lex_filter cond is.2))))
lex_change (Delete table cond) is = then_ k.delete_ (then_ k.from_ (then_ (one_name table is.0) (lex_filter cond is.1)))

-- ---- SELECT

lex_agg : (a : Agg) → IsAgg a → Lexed (s.agg a) (s.agg a)
unfolding tag_of
lex_agg aggregate.Count is = then_ (k.plain_word 67 (codes "OUNT") refl refl refl) (lex_enclosed (lone k.star))
lex_agg (aggregate.Sum n) is = then_ (k.plain_word 83 (codes "UM") refl refl refl) (lex_enclosed (lone (one_name n is)))

lex_what : (w : SelectList) → IsWhat w → Lexed (s.what w) (s.what w)
lex_what shown.All is = lone k.star
lex_what (shown.Columns ns) is = lex_listed s.one_name s.one_name IsName lex_name ns is
lex_what (shown.Aggs all) is = lex_listed s.agg s.agg IsAgg lex_agg all is

direction : (down : Bool) → One (key (if down then t.Desc else t.Asc)) (key (if down then t.Desc else t.Asc) ∷ [])
direction true = k.desc_
direction false = k.asc_

lex_sort : (x : List ℕ × Bool) → IsSort x → Lexed (s.sort x) (s.sort x)
lex_sort x is = then_ (one_name x.0 is) (lone (direction x.1))

lex_order : (order : List (List ℕ × Bool)) → Each IsSort order → Lexed (s.order order) (s.order order)
lex_order [] is = none
lex_order (x ∷ xs) is = then_ k.order_ (then_ k.by_ (lex_listed s.sort s.sort IsSort lex_sort (x ∷ xs) is))

each_sort : (w : SelectList) (order : List (List ℕ × Bool)) → IsOrder w order → Each IsSort order
each_sort shown.All order is = is
each_sort (shown.Columns ns) order is = is
each_sort (shown.Aggs all) order is = let P : List (List ℕ × Bool) → Type 0 = Each IsSort in subst P (sym is) tt

lex_select : (x : Select) → IsSelect x → Lexed (s.select x) (s.select x)
unfolding s.select
lex_select x is =
    then_ k.select_ (joined (lex_what x.what is.1) (then_ k.from_ (then_ (one_name x.table is.0) (joined (lex_filter x.cond is.2) (lex_order x.order (each_sort x.what x.order is.3))))))

-- ---- statements

lex_rollback : (to : Option (List ℕ)) → Maybe IsName to → Lexed (s.rollback to) (s.rollback to)
unfolding s.rollback
lex_rollback None is = then_ k.rollback_ (lone k.transaction_)
lex_rollback (Some n) is = then_ k.rollback_ (then_ k.transaction_ (lone (one_name n is)))

lex_digest : One (word (codes "SP_GENERATE_DATABASE_LEDGER_DIGEST")) (word (codes "SP_GENERATE_DATABASE_LEDGER_DIGEST") ∷ [])
unfolding tag_of
lex_digest = k.plain_word 83 (codes "P_GENERATE_DATABASE_LEDGER_DIGEST") refl refl refl

lex_image : One (word (codes "IMAGE")) (word (codes "IMAGE") ∷ [])
unfolding tag_of
lex_image = k.plain_word 73 (codes "MAGE") refl refl refl

lex_stmt : (x : Stmt) → IsParsed x → Lexed (s.tokens x) (stmt_syms x)
unfolding s.tokens
lex_stmt (stmt.Create c) is = lex_create c is
lex_stmt (stmt.Index c) is = lex_index c is
lex_stmt (stmt.Alter a) is = lex_alter a is
lex_stmt (stmt.Drop n) is = lex_drop n is
lex_stmt (stmt.Change c) is = lex_change c is
lex_stmt (stmt.Select c) is = lex_select c is
lex_stmt stmt.Begin is = then_ k.begin_ (lone k.transaction_)
lex_stmt stmt.Commit is = then_ k.commit_ (lone k.transaction_)
lex_stmt (stmt.Save n) is = then_ k.save_ (then_ k.transaction_ (lone (one_name n is)))
lex_stmt (stmt.Rollback to) is = lex_rollback to is
lex_stmt stmt.Digest is = then_ k.execute_ (lone lex_digest)
lex_stmt stmt.Image is = then_ k.save_ (lone lex_image)

-- the text of a printed statement is the statement
pub printed_read : Written → Untreed → (x : Stmt) → IsParsed x → grammar_statement_of (s.printed x) ≡ Some x
unfolding s.printed
printed_read written untreed x is =
    statement_of_cut (s.printed x) ∙ ap (option_and_then statement_of_tokens) (spelled_cut (lex_stmt x is)) ∙ syms_read written untreed x is
