-- The statements that read and change rows, production by production.
use Rattle.std.specs.Prelude.{ℕ, neg_ℤ, Bool, true, false, List, [], ◌++◌, codes, Option}
use Rattle.sql_value.specs.declared.value.Value.{Value}
use Rattle.sql_value.specs.declared.value.Value.TheVariants.{Num}
use Rattle.sql_value.specs.declared.expr.Expr.{Expr}
use Rattle.sql_types.specs.declared.statement.RowStmt.{RowStmt}
use Rattle.sql_types.specs.declared.statement.RowStmt.TheVariants.{Insert, Update, Delete}
use Rattle.sql_types.specs.declared.statement.Select.{Select}
use Rattle.sql_types.specs.declared.statement.SelectList.{SelectList}
use Rattle.sql_types.specs.declared.statement.SelectList.TheVariants.{All, Columns, Aggs}
use Rattle.sql_types.specs.declared.statement.Agg.{Agg}
use Rattle.sql_types.specs.declared.statement.Agg.TheVariants.{Count, Sum}
use Rattle.spec_grammar.specs.Tokens.{Lexemes, Word, Sign, IsName, IsNumber, IsConstant, OptionalPart, Optional, Listed, Enclosed}
use Rattle.spec_grammar.specs.Expressions.{IsExpr}

-- name {',' name}
abbrev pub AreNames : Lexemes → List (List ℕ) → Type 0
AreNames = Listed IsName

-- WHERE expr
pub data IsCondition : Lexemes → Expr → Type 0 where
  condition : {a b : Lexemes} {x : Expr} → Word (codes "WHERE") a → IsExpr b x → IsCondition (a ++ b) x

-- the number with the other sign
abbrev pub negated : Value → Value
negated (Num s v) = Num s (neg_ℤ v)
negated v = v

-- value := ('+' | '-') number | literal
pub data IsValue : Lexemes → Value → Type 0 where
  literal : {a : Lexemes} {v : Value} → IsConstant a v → IsValue a v
  positive : {a b : Lexemes} {v : Value} → Sign (codes "+") a → IsNumber b v → IsValue (a ++ b) v
  negative : {a b : Lexemes} {v : Value} → Sign (codes "-") a → IsNumber b v → IsValue (a ++ b) (negated v)

-- row := '(' value {',' value} ')'
abbrev pub IsRow : Lexemes → List Value → Type 0
IsRow = Enclosed (Listed IsValue)

-- insert := INSERT [INTO] name ['(' name {',' name} ')'] VALUES row {',' row}
pub data IsInsert : Lexemes → RowStmt → Type 0 where
  insert : {a b c e f g : Lexemes} {table : List ℕ} {columns : Option (List (List ℕ))}
      {rows : List (List Value)}
      → Word (codes "INSERT") a → OptionalPart (Word (codes "INTO")) b → IsName c table
      → Optional (Enclosed AreNames) e columns → Word (codes "VALUES") f → Listed IsRow g rows
      → IsInsert (a ++ (b ++ (c ++ (e ++ (f ++ g))))) (Insert table columns rows)

-- name '=' expr
pub data IsAssignment : Lexemes → List ℕ × Expr → Type 0 where
  assignment : {a b c : Lexemes} {n : List ℕ} {x : Expr}
      → IsName a n → Sign (codes "=") b → IsExpr c x
      → IsAssignment (a ++ (b ++ c)) (n, x)

-- update := UPDATE name SET name '=' expr {',' name '=' expr} [WHERE expr]
pub data IsUpdate : Lexemes → RowStmt → Type 0 where
  update : {a b c e f : Lexemes} {table : List ℕ} {sets : List (List ℕ × Expr)} {cond : Option Expr}
      → Word (codes "UPDATE") a → IsName b table → Word (codes "SET") c → Listed IsAssignment e sets
      → Optional IsCondition f cond
      → IsUpdate (a ++ (b ++ (c ++ (e ++ f)))) (Update table sets cond)

-- delete := DELETE [FROM] name [WHERE expr]
pub data IsDelete : Lexemes → RowStmt → Type 0 where
  delete : {a b c e : Lexemes} {table : List ℕ} {cond : Option Expr}
      → Word (codes "DELETE") a → OptionalPart (Word (codes "FROM")) b → IsName c table → Optional IsCondition e cond
      → IsDelete (a ++ (b ++ (c ++ e))) (Delete table cond)

-- agg := COUNT '(' '*' ')' | SUM '(' name ')'
pub data IsAggregate : Lexemes → Agg → Type 0 where
  count : {a b c e : Lexemes}
      → Word (codes "COUNT") a → Sign (codes "(") b → Sign (codes "*") c → Sign (codes ")") e
      → IsAggregate (a ++ (b ++ (c ++ e))) Count
  sum : {a b c e : Lexemes} {n : List ℕ}
      → Word (codes "SUM") a → Sign (codes "(") b → IsName c n → Sign (codes ")") e
      → IsAggregate (a ++ (b ++ (c ++ e))) (Sum n)

-- [ASC | DESC], true for DESC
pub data IsDirection : Lexemes → Bool → Type 0 where
  unsaid : IsDirection [] false
  rises : {a : Lexemes} → Word (codes "ASC") a → IsDirection a false
  falls : {a : Lexemes} → Word (codes "DESC") a → IsDirection a true

-- name [ASC | DESC]
pub data IsSorting : Lexemes → List ℕ × Bool → Type 0 where
  sorting : {a b : Lexemes} {n : List ℕ} {down : Bool}
      → IsName a n → IsDirection b down
      → IsSorting (a ++ b) (n, down)

-- [ORDER BY name [ASC | DESC] {',' name [ASC | DESC]}]
pub data IsOrder : Lexemes → List (List ℕ × Bool) → Type 0 where
  unordered : IsOrder [] []
  ordered : {a b c : Lexemes} {by : List (List ℕ × Bool)}
      → Word (codes "ORDER") a → Word (codes "BY") b → Listed IsSorting c by
      → IsOrder (a ++ (b ++ c)) by

-- '*' | name {',' name}
pub data IsShown : Lexemes → SelectList → Type 0 where
  all : {a : Lexemes} → Sign (codes "*") a → IsShown a All
  columns : {a : Lexemes} {ns : List (List ℕ)} → AreNames a ns → IsShown a (Columns ns)

-- select := SELECT ('*' | name {',' name}) FROM name [WHERE expr]
--             [ORDER BY name [ASC | DESC] {',' name [ASC | DESC]}]
--         | SELECT agg {',' agg} FROM name [WHERE expr]
pub data IsSelect : Lexemes → Select → Type 0 where
  rows : {a b c e f g : Lexemes} {what : SelectList} {table : List ℕ} {cond : Option Expr}
      {by : List (List ℕ × Bool)}
      → Word (codes "SELECT") a → IsShown b what → Word (codes "FROM") c → IsName e table
      → Optional IsCondition f cond → IsOrder g by
      → IsSelect (a ++ (b ++ (c ++ (e ++ (f ++ g)))))
      (record { table = table; what = what; cond = cond; order = by })
  aggregates : {a b c e f : Lexemes} {all : List Agg} {table : List ℕ} {cond : Option Expr}
      → Word (codes "SELECT") a → Listed IsAggregate b all → Word (codes "FROM") c → IsName e table
      → Optional IsCondition f cond
      → IsSelect (a ++ (b ++ (c ++ (e ++ f))))
      (record { table = table; what = Aggs all; cond = cond; order = [] })
