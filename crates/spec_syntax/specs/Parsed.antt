-- What holds of each statement that parsing gives.
use Rattle.std.specs.Prelude.{◌≡◌, ◌≤◌, ◌<◌, ◌^◌, ℕ, ◌+◌, negsuc, Bool, true, List, [], ◌∷◌, length, Option, Some, None, ⊤}
use Rattle.std.specs.List.{list_all}
use Rattle.sql_value.specs.declared.value.Value.{Value}
use Rattle.sql_value.specs.declared.value.Value.TheVariants.{Num}
use Rattle.sql_value.specs.declared.expr.Expr.{Expr}
use Rattle.sql_value.specs.declared.sql_type.SqlType.{SqlType}
use Rattle.sql_value.specs.declared.sql_type.SqlType.TheVariants as sql
use Rattle.sql_value.specs.declared.column.ColumnDef.{ColumnDef}
use Rattle.sql_value.specs.declared.column.TableKind.{TableKind}
use Rattle.sql_value.specs.declared.column.TableKind.TheVariants.{AppendOnly, Updatable}
use Rattle.sql_value.specs.Literals.{IsLiteral}
use Rattle.sql_value.specs.Tree.{Tree, literal, column, minus, not, is_null, binary, tree}
use Rattle.sql_types.specs.declared.statement.Stmt.{Stmt}
use Rattle.sql_types.specs.declared.statement.Stmt.TheVariants as stmt
use Rattle.sql_types.specs.declared.statement.CreateTable.{CreateTable}
use Rattle.sql_types.specs.declared.statement.CreateIndex.{CreateIndex}
use Rattle.sql_types.specs.declared.statement.Alter.{Alter}
use Rattle.sql_types.specs.declared.statement.Alter.TheVariants.{Add, DropColumn}
use Rattle.sql_types.specs.declared.statement.RowStmt.{RowStmt}
use Rattle.sql_types.specs.declared.statement.RowStmt.TheVariants.{Insert, Update, Delete}
use Rattle.sql_types.specs.declared.statement.Select.{Select}
use Rattle.sql_types.specs.declared.statement.SelectList.{SelectList}
use Rattle.sql_types.specs.declared.statement.SelectList.TheVariants as shown
use Rattle.sql_types.specs.declared.statement.Agg.{Agg}
use Rattle.sql_types.specs.declared.statement.Agg.TheVariants as aggregate
use Rattle.sql_lex.specs.IsToken.{is_name_byte}
use Rattle.spec_syntax.specs.Input.{max_parts}

-- one or more bytes that may stand between brackets
abbrev pub IsName : List ℕ → Type 0
IsName n = (0 < length n) × (list_all is_name_byte n ≡ true)

abbrev pub Each : {A : Type 0} → (A → Type 0) → List A → Type 0
Each P [] = ⊤
Each P (x ∷ xs) = P x × Each P xs

-- one or more, of each of which it holds
abbrev pub OneOrMore : {A : Type 0} → (A → Type 0) → List A → Type 0
OneOrMore P [] = ⊥
OneOrMore P (x ∷ xs) = P x × Each P xs

abbrev pub Maybe : {A : Type 0} → (A → Type 0) → Option A → Type 0
Maybe P None = ⊤
Maybe P (Some x) = P x

-- ---- expressions

-- no number below zero
abbrev pub IsUnsigned : Value → Type 0
IsUnsigned (Num s (negsuc n)) = ⊥
IsUnsigned _ = ⊤

abbrev pub IsTree : Tree → Type 0
IsTree (literal v) = IsLiteral v × IsUnsigned v
IsTree (column n) = IsName n
IsTree (minus a) = IsTree a
IsTree (not a) = IsTree a
IsTree (is_null a negated) = IsTree a
IsTree (binary o a b) = IsTree a × IsTree b

-- how many operators and operands there are
abbrev pub count : Tree → ℕ
count (literal v) = 1
count (column n) = 1
count (minus a) = count a + 1
count (not a) = count a + 1
count (is_null a negated) = count a + 1
count (binary o a b) = count a + count b + 1

abbrev pub IsExpr : Expr → Type 0
IsExpr e = IsTree (tree e) × (count (tree e) ≤ max_parts)

-- ---- statements

-- nine digits
abbrev pub IsSize : ℕ → Type 0
IsSize n = n < 10 ^ 9

abbrev pub IsType : SqlType → Type 0
IsType (sql.Decimal p s) = IsSize p × IsSize s
IsType (sql.NVarChar n) = IsSize n
IsType (sql.VarBinary n) = IsSize n
IsType _ = ⊤

abbrev pub IsColumn : ColumnDef → Type 0
IsColumn d = IsName d.name × IsType d.ty × (d.key_position ≡ 0)

-- an append-only table has no history
abbrev pub IsHistory : TableKind → Option (List ℕ) → Type 0
IsHistory Updatable h = Maybe IsName h
IsHistory AppendOnly h = h ≡ None

abbrev pub IsTable : CreateTable → Type 0
IsTable c =
    IsName c.name × OneOrMore IsColumn c.columns × OneOrMore IsName c.key
    × IsHistory c.kind c.history × Maybe IsName c.view

abbrev pub IsIndex : CreateIndex → Type 0
IsIndex c = IsName c.name × IsName c.table × OneOrMore IsName c.columns

-- an added column may be NULL
abbrev pub IsAlter : Alter → Type 0
IsAlter (Add table d) = IsName table × IsColumn d × (d.nullable ≡ true)
IsAlter (DropColumn table n) = IsName table × IsName n

abbrev pub IsAssignment : List ℕ × Expr → Type 0
IsAssignment p = IsName p.0 × IsExpr p.1

abbrev pub IsChange : RowStmt → Type 0
IsChange (Insert table found rows) =
    IsName table × Maybe (OneOrMore IsName) found × OneOrMore (OneOrMore IsLiteral) rows
IsChange (Update table sets cond) = IsName table × OneOrMore IsAssignment sets × Maybe IsExpr cond
IsChange (Delete table cond) = IsName table × Maybe IsExpr cond

abbrev pub IsAgg : Agg → Type 0
IsAgg aggregate.Count = ⊤
IsAgg (aggregate.Sum n) = IsName n

abbrev pub IsWhat : SelectList → Type 0
IsWhat shown.All = ⊤
IsWhat (shown.Columns ns) = OneOrMore IsName ns
IsWhat (shown.Aggs all) = OneOrMore IsAgg all

abbrev pub IsSort : List ℕ × Bool → Type 0
IsSort p = IsName p.0

-- aggregates have no order
abbrev pub IsOrder : SelectList → List (List ℕ × Bool) → Type 0
IsOrder (shown.Aggs all) order = order ≡ []
IsOrder _ order = Each IsSort order

abbrev pub IsSelect : Select → Type 0
IsSelect s = IsName s.table × IsWhat s.what × Maybe IsExpr s.cond × IsOrder s.what s.order

abbrev pub IsParsed : Stmt → Type 0
IsParsed (stmt.Create c) = IsTable c
IsParsed (stmt.Index c) = IsIndex c
IsParsed (stmt.Alter a) = IsAlter a
IsParsed (stmt.Drop n) = IsName n
IsParsed (stmt.Change c) = IsChange c
IsParsed (stmt.Select s) = IsSelect s
IsParsed (stmt.Save n) = IsName n
IsParsed (stmt.Rollback to) = Maybe IsName to
IsParsed _ = ⊤
