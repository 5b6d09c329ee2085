-- The texts taken apart.
use Rattle.std.proofs.Common.{◌≡◌, ◌≤◌, ◌+◌, ℕ, false, List, [], ◌∷◌, Some, None, refl, ap, codes, arith}
use Rattle.std.specs.Prelude.{pos}
use Rattle.sql_lex.specs.declared.token.Kind.{Kind}
use Rattle.sql_lex.specs.declared.token.Kind.TheVariants as kind
use Rattle.sql_lex.specs.declared.token.Token.{Token}
use Rattle.sql_lex.specs.Longest.{longest}
use Rattle.sql_lex.specs.IsToken.{kind_of}
use Rattle.sql_value.specs.declared.value.Value.TheVariants as value
use Rattle.sql_value.specs.declared.expr.Op.{Op}
use Rattle.sql_value.specs.declared.expr.Op.TheVariants as op
use Rattle.sql_value.specs.declared.expr.Expr.{Expr}
use Rattle.sql_value.specs.declared.expr.Expr.TheVariants.{Col, Not, IsNull, Bin}
use Rattle.sql_value.specs.Literal.{literal_of, signed, unsigned, sized}
use Rattle.sql_value.specs.Tree.{tree}
use Rattle.sql_value.proofs.Trees.{of_column, of_not, of_is_null, of_binary}
use Rattle.test_grammar.specs.Samples.{delete_all, any_of, no_rest, delete_where, insert_row, create_ledger, back_to_s, add_w, drop_v, drop_t}
use Rattle.spec_grammar.specs.Tokens.{Lexemes, word, sign, IsName, bare, bracketed, number, null, named, left_out, written as given, absent, present, last, more, enclosed}
use Rattle.spec_grammar.specs.Expressions as e
use Rattle.spec_grammar.specs.Expressions.{Derives, Cmp', Prod', parts}
use Rattle.spec_grammar.specs.Rows as r
use Rattle.spec_grammar.specs.Tables as b
use Rattle.spec_grammar.specs.Statements as s
use Rattle.spec_grammar.specs.Statements.{IsStatement}

-- a token at its place
abbrev at : ℕ → ℕ → Kind → Token
at start end kind_ = record { start = start; end = end; kind = kind_ }

-- DELETE t
pub short : IsStatement (codes "DELETE t") delete_all
unfolding longest kind_of
short = record {
  tokens = at 0 6 kind.Word ∷ at 7 8 kind.Word ∷ [];
  cut = refl;
  is = s.statement (s.delete (r.delete (word (codes "DELETE") refl) left_out (bare (codes "t") refl) absent)) left_out;
}

-- delete from [t];
pub long : IsStatement (codes "delete from [t];") delete_all
unfolding longest kind_of
long = record {
  tokens = at 0 6 kind.Word ∷ at 7 11 kind.Word ∷ at 12 15 kind.Bracketed ∷ at 15 16 kind.Sign ∷ [];
  cut = refl;
  is = s.statement (s.delete (r.delete (word (codes "delete") refl) (given (word (codes "from") refl)) (bracketed (codes "t")) absent)) (given sign);
}

-- ---- expressions

-- a column, by each production
column_prod : {a : Lexemes} {n : List ℕ} → IsName a n → Derives 256 Prod' a (Col n)
column_prod is = e.prod_unary (e.unary_prim (e.prim_name is))

column_cmp : {a : Lexemes} {n : List ℕ} → IsName a n → Derives 256 Cmp' a (Col n)
column_cmp is = e.cmp_sum (e.sum_prod (column_prod is))

size : Expr → ℕ
size x = parts (tree x)

size_column : (n : List ℕ) → size (Col n) ≡ 1
unfolding size
size_column n = ap parts (of_column n)

size_not : (x : Expr) → size (Not x) ≡ size x + 1
unfolding size
size_not x = ap parts (of_not x)

size_null : (x : Expr) → size (IsNull x false) ≡ size x + 1
unfolding size
size_null x = ap parts (of_is_null x false)

size_both : (o : Op) (x y : Expr) → size (Bin o x y) ≡ size x + size y + 1
unfolding size
size_both o x y = ap parts (of_binary o x y)

three_few : parts (tree any_of) ≤ 256
unfolding size
three_few =
    omega (
      arith,
      size_both op.Or (Col (codes "a")) (Bin op.And (Col (codes "b")) (Not (Col (codes "c")))),
      size_both op.And (Col (codes "b")) (Not (Col (codes "c"))),
      size_not (Col (codes "c")),
      size_column (codes "a"),
      size_column (codes "b"),
      size_column (codes "c"),
    )

pub levels : IsStatement (codes "DELETE t WHERE a OR b AND NOT c") (delete_where any_of)
unfolding longest kind_of
levels =
    let a = column_cmp (bare (codes "a") refl) in
    let b = column_cmp (bare (codes "b") refl) in
    let c = column_cmp (bare (codes "c") refl) in
    let both = e.and_and (e.and_not (e.not_cmp b)) (word (codes "AND") refl) (e.not_not (word (codes "NOT") refl) (e.not_cmp c)) in
    let whole = e.expr_or (e.expr_and (e.and_not (e.not_cmp a))) (word (codes "OR") refl) both in
    record {
      tokens = at 0 6 kind.Word ∷ at 7 8 kind.Word ∷ at 9 14 kind.Word ∷ at 15 16 kind.Word ∷ at 17 19 kind.Word ∷ at 20 21 kind.Word ∷ at 22 25 kind.Word ∷ at 26 29 kind.Word ∷ at 30 31 kind.Word ∷ [];
      cut = refl;
      is = s.statement (s.delete (r.delete (word (codes "DELETE") refl) left_out (bare (codes "t") refl) (present (r.condition (word (codes "WHERE") refl) (record { derived = whole; few = three_few }))))) left_out;
    }

rest_few : parts (tree no_rest) ≤ 256
unfolding size
rest_few =
    omega (
      arith,
      size_null (Bin op.Sub (Bin op.Sub (Col (codes "a")) (Col (codes "b"))) (Col (codes "c"))),
      size_both op.Sub (Bin op.Sub (Col (codes "a")) (Col (codes "b"))) (Col (codes "c")),
      size_both op.Sub (Col (codes "a")) (Col (codes "b")),
      size_column (codes "a"),
      size_column (codes "b"),
      size_column (codes "c"),
    )

pub grouping : IsStatement (codes "DELETE t WHERE a - b - c IS NULL") (delete_where no_rest)
unfolding longest kind_of
grouping =
    let first = e.sum_minus (e.sum_prod (column_prod (bare (codes "a") refl))) sign (column_prod (bare (codes "b") refl)) in
    let both = e.sum_minus first sign (column_prod (bare (codes "c") refl)) in
    let whole = e.expr_and (e.and_not (e.not_cmp (e.cmp_null both (word (codes "IS") refl) (word (codes "NULL") refl)))) in
    record {
      tokens = at 0 6 kind.Word ∷ at 7 8 kind.Word ∷ at 9 14 kind.Word ∷ at 15 16 kind.Word ∷ at 17 18 kind.Sign ∷ at 19 20 kind.Word ∷ at 21 22 kind.Sign ∷ at 23 24 kind.Word ∷ at 25 27 kind.Word ∷ at 28 32 kind.Word ∷ [];
      cut = refl;
      is = s.statement (s.delete (r.delete (word (codes "DELETE") refl) left_out (bare (codes "t") refl) (present (r.condition (word (codes "WHERE") refl) (record { derived = whole; few = rest_few }))))) left_out;
    }

-- ---- others

five : literal_of (codes "5") ≡ Some (value.Num 0 (pos 5))
unfolding literal_of signed unsigned sized
five = refl

pub signs : IsStatement (codes "INSERT t VALUES (- 5, NULL)") insert_row
unfolding longest kind_of
signs =
    let values = more (r.negative sign (number (codes "5") five)) sign (last (r.literal (null (word (codes "NULL") refl)))) in
    record {
      tokens = at 0 6 kind.Word ∷ at 7 8 kind.Word ∷ at 9 15 kind.Word ∷ at 16 17 kind.Sign ∷ at 17 18 kind.Sign ∷ at 19 20 kind.Number ∷ at 20 21 kind.Sign ∷ at 22 26 kind.Word ∷ at 26 27 kind.Sign ∷ [];
      cut = refl;
      is = s.statement (s.insert (r.insert (word (codes "INSERT") refl) left_out (bare (codes "t") refl) absent (word (codes "VALUES") refl) (last (enclosed sign values sign)))) left_out;
    }

pub savepoint : IsStatement (codes "ROLLBACK TRAN [s]") back_to_s
unfolding longest kind_of
savepoint = record {
  tokens = at 0 8 kind.Word ∷ at 9 13 kind.Word ∷ at 14 17 kind.Bracketed ∷ [];
  cut = refl;
  is = s.statement (s.rollback_to (word (codes "ROLLBACK") refl) (s.tran (word (codes "TRAN") refl)) (bracketed (codes "s"))) left_out;
}

-- ---- a table

abbrev ledger_text : List ℕ
ledger_text = codes "CREATE TABLE t (a [int] PRIMARY KEY) WITH (LEDGER = ON (APPEND_ONLY = ON))"

pub append_only : IsStatement ledger_text create_ledger
unfolding longest kind_of
append_only =
    let marked = b.marked (b.primary (word (codes "PRIMARY") refl) (word (codes "KEY") refl) left_out) in
    let item = b.column (bare (codes "a") refl) (b.int (named (bracketed (codes "int")) refl)) b.unsaid marked in
    let choice = b.append (b.on (named (bare (codes "APPEND_ONLY") refl) refl) sign (word (codes "ON") refl)) in
    let ledger = b.alone {v = None} (b.on (named (bare (codes "LEDGER") refl) refl) sign (word (codes "ON") refl)) (present (enclosed sign (last choice) sign)) (omega arith) refl in
    let part = b.said_part (word (codes "WITH") refl) (enclosed sign ledger sign) in
    record {
      tokens = at 0 6 kind.Word ∷ at 7 12 kind.Word ∷ at 13 14 kind.Word ∷ at 15 16 kind.Sign ∷ at 16 17 kind.Word ∷ at 18 23 kind.Bracketed ∷ at 24 31 kind.Word ∷ at 32 35 kind.Word ∷ at 35 36 kind.Sign
          ∷ at 37 41 kind.Word ∷ at 42 43 kind.Sign ∷ at 43 49 kind.Word ∷ at 50 51 kind.Sign ∷ at 52 54 kind.Word ∷ at 55 56 kind.Sign ∷ at 56 67 kind.Word ∷ at 68 69 kind.Sign ∷ at 70 72 kind.Word ∷ at 72 73 kind.Sign ∷ at 73 74 kind.Sign ∷ [];
      cut = refl;
      is = s.statement (s.create (b.create_table (word (codes "CREATE") refl) (word (codes "TABLE") refl) (bare (codes "t") refl) (enclosed sign (last item) sign) part refl (omega arith))) left_out;
    }

-- ---- a table that is changed

pub add : IsStatement (codes "ALTER TABLE t ADD w NVARCHAR(5)") add_w
unfolding longest kind_of
add =
    let type_ = b.nvarchar (named (bare (codes "NVARCHAR") refl) refl) (enclosed sign (b.digits (codes "5") (omega arith) refl) sign) in
    record {
      tokens = at 0 5 kind.Word ∷ at 6 11 kind.Word ∷ at 12 13 kind.Word ∷ at 14 17 kind.Word ∷ at 18 19 kind.Word ∷ at 20 28 kind.Word ∷ at 28 29 kind.Sign ∷ at 29 30 kind.Number ∷ at 30 31 kind.Sign ∷ [];
      cut = refl;
      is = s.statement (s.alter (b.add (word (codes "ALTER") refl) (word (codes "TABLE") refl) (bare (codes "t") refl) (word (codes "ADD") refl) (bare (codes "w") refl) type_ left_out)) left_out;
    }

pub drop_column : IsStatement (codes "alter table [t] drop column v;") drop_v
unfolding longest kind_of
drop_column = record {
  tokens = at 0 5 kind.Word ∷ at 6 11 kind.Word ∷ at 12 15 kind.Bracketed ∷ at 16 20 kind.Word ∷ at 21 27 kind.Word ∷ at 28 29 kind.Word ∷ at 29 30 kind.Sign ∷ [];
  cut = refl;
  is = s.statement (s.alter (b.drop_column (word (codes "alter") refl) (word (codes "table") refl) (bracketed (codes "t")) (word (codes "drop") refl) (word (codes "column") refl) (bare (codes "v") refl))) (given sign);
}

pub drop_table : IsStatement (codes "DROP TABLE t") drop_t
unfolding longest kind_of
drop_table = record {
  tokens = at 0 4 kind.Word ∷ at 5 10 kind.Word ∷ at 11 12 kind.Word ∷ [];
  cut = refl;
  is = s.statement (s.drop (b.drop_table (word (codes "DROP") refl) (word (codes "TABLE") refl) (bare (codes "t") refl))) left_out;
}
