-- The workload's texts are statements by the grammar.
use Rattle.std.proofs.Common.{◌≡◌, ◌∙◌, ◌≤◌, ◌<◌, ◌^◌, ◌-◌, ℕ, false, List, [], ◌∷◌, ◌++◌, length, Some, refl, ap, sym, subst, codes, arith, append-nil}
use Rattle.std.specs.Fmt.{decimal}
use Rattle.std.proofs.lemmas.Bool.{lt-ltb}
use Rattle.std.proofs.lemmas.Fmt.{decimal_digit}
use Rattle.std.proofs.lemmas.List.{take_all, drop_all}
use Rattle.sql_lex.specs.declared.token.Kind.TheVariants as kind
use Rattle.sql_value.specs.declared.value.Value.{Value}
use Rattle.sql_value.specs.declared.expr.Expr.TheVariants.{Lit, Col, Bin}
use Rattle.sql_value.specs.declared.expr.Op.{Op}
use Rattle.sql_value.specs.declared.expr.Op.TheVariants as op
use Rattle.sql_value.specs.Literal.{literal_of}
use Rattle.sql_value.specs.Literals.{IsLiteral}
use Rattle.sql_value.specs.Printed.{literal_text, pointed}
use Rattle.sql_value.specs.Tree.{tree}
use Rattle.sql_value.proofs.Trees.{of_literal, of_column, of_binary}
use Rattle.sql_types.specs.declared.statement.Stmt.{Stmt}
use Rattle.spec_model.specs.Rows.{number}
use Rattle.spec_grammar.specs.Tokens as t
use Rattle.spec_grammar.specs.Tokens.{Lexemes, word, sign, is_reserved, bare, named, left_out, written as given, absent, present, last, more, enclosed, IsConstant}
use Rattle.spec_grammar.specs.Expressions as e
use Rattle.spec_grammar.specs.Expressions.{IsExpr, Derives, Prod', parts}
use Rattle.spec_grammar.specs.Rows as r
use Rattle.spec_grammar.specs.Tables as b
use Rattle.spec_grammar.specs.Statements as s
use Rattle.spec_grammar.specs.Statements.{IsStmt, IsStatement}
use Rattle.workload_generator.specs.Workload.{value_of, create_text, insert_text, update_text}
use Rattle.law_workload.specs.Statements.{table_name, one_more, of_row, create_statement, insert_statement, update_statement}
use Rattle.law_workload.proofs.Cut.{Lexeme, cut, tokens_written}
use Rattle.law_workload.proofs.Numbers.{decimal_digits}
use Rattle.law_workload.proofs.Tokens.{created, inserted, updated, create_tokens, insert_tokens, update_tokens}
use Rattle.law_workload.proofs.FourTables.{by_table}

-- a text that is cut so is the statement that its tokens are
by_tokens : (text : List ℕ) (ss : List Lexeme) (x : Stmt) → cut 0 text ≡ Some ss → IsStmt ss x → IsStatement text x
by_tokens text ss x is derived =
    let found = tokens_written text ss is in
    record { tokens = found.0; cut = found.1; is = subst (λ l. IsStmt l x) (sym found.2) derived }

-- no name of a table is reserved
unreserved : (table : ℕ) → 1 ≤ table → table ≤ 4 → is_reserved (table_name table) ≡ false
unreserved =
    by_table (λ table. is_reserved (table_name table) ≡ false)
    (ap (λ ds. is_reserved (codes "t" ++ ds)) (decimal_digit 1 (omega arith)))
    (ap (λ ds. is_reserved (codes "t" ++ ds)) (decimal_digit 2 (omega arith)))
    (ap (λ ds. is_reserved (codes "t" ++ ds)) (decimal_digit 3 (omega arith)))
    (ap (λ ds. is_reserved (codes "t" ++ ds)) (decimal_digit 4 (omega arith)))

-- ---- CREATE TABLE

derived_create : (table : ℕ) → is_reserved (table_name table) ≡ false → IsStmt (created (table_name table)) (create_statement table)
derived_create table free =
    let marked = b.marked (b.primary (word (codes "PRIMARY") refl) (word (codes "KEY") refl) left_out) in
    let id = b.column (bare (codes "id") refl) (b.int (named (bare (codes "INT") refl) refl)) b.unsaid marked in
    let v = b.column (bare (codes "v") refl) (b.bigint (named (bare (codes "BIGINT") refl) refl)) b.unsaid b.unmarked in
    s.statement (s.create (b.create_table (word (codes "CREATE") refl) (word (codes "TABLE") refl) (bare (table_name table) free)
    (enclosed sign (more id sign (last v)) sign) b.unsaid_part refl (omega arith))) left_out

pub create_read : (table : ℕ) → 1 ≤ table → table ≤ 4 → IsStatement (create_text table) (create_statement table)
create_read table some few =
    by_tokens (create_text table) (created (table_name table)) (create_statement table) (create_tokens table some few)
    (derived_create table (unreserved table some few))

-- ---- numbers

-- what is written of a whole number is its digits
text_of_number : (n : ℕ) → n < 10 ^ 38 → literal_text (number n) ≡ decimal n
unfolding literal_text pointed
text_of_number n few =
    let some = (decimal_digits n (omega (arith, few))).1 in
    let all : length (decimal n) - 0 ≡ length (decimal n) = omega arith in
    rw (lt-ltb 0 (length (decimal n)) some, all, drop_all (length (decimal n)) (decimal n) (omega arith), take_all (length (decimal n)) (decimal n) (omega arith)) (append-nil (decimal n))

module _ (written : (v : Value) → IsLiteral v → literal_of (literal_text v) ≡ Some v) where
  constant : (n : ℕ) → n < 10 ^ 38 → IsConstant ((kind.Number, decimal n) ∷ []) (number n)
  constant n few =
      let read = ap literal_of (sym (text_of_number n few)) ∙ written (number n) (few, omega arith) in
      t.number (t.number (decimal n) read)

  -- ---- INSERT

  derived_insert : (table row : ℕ) → is_reserved (table_name table) ≡ false → row < 10 ^ 38
      → IsStmt (inserted (table_name table) (decimal row) (decimal (value_of table row))) (insert_statement table row)
  derived_insert table row free few =
      let values = more (r.literal (constant row few)) sign (last (r.literal (constant (value_of table row) (omega arith)))) in
      s.statement (s.insert (r.insert (word (codes "INSERT") refl) (given (word (codes "INTO") refl)) (bare (table_name table) free) absent
      (word (codes "VALUES") refl) (last (enclosed sign values sign)))) left_out

  pub insert_read : (table row : ℕ) → 1 ≤ table → table ≤ 4 → row < 10 ^ 38 → IsStatement (insert_text table row) (insert_statement table row)
  insert_read table row some few small =
      by_tokens (insert_text table row) (inserted (table_name table) (decimal row) (decimal (value_of table row))) (insert_statement table row)
      (insert_tokens table some few row small) (derived_insert table row (unreserved table some few) small)

  -- ---- UPDATE

  column_prod : {a : Lexemes} {n : List ℕ} → t.IsName a n → Derives 256 Prod' a (Col n)
  column_prod is = e.prod_unary (e.unary_prim (e.prim_name is))

  number_prod : (n : ℕ) → n < 10 ^ 38 → Derives 256 Prod' ((kind.Number, decimal n) ∷ []) (Lit (number n))
  number_prod n few = e.prod_unary (e.unary_prim (e.prim_literal (constant n few)))

  three_parts : (o : Op) (n : List ℕ) (v : Value) → parts (tree (Bin o (Col n) (Lit v))) ≤ 256
  three_parts o n v =
      let both = ap parts (of_binary o (Col n) (Lit v)) in
      let first = ap parts (of_column n) in
      let second = ap parts (of_literal v) in
      omega (arith, both, first, second)

  sum : IsExpr ((kind.Word, codes "v") ∷ (kind.Sign, codes "+") ∷ (kind.Number, codes "1") ∷ []) one_more
  sum =
      let one = subst (λ ds. Derives 256 Prod' ((kind.Number, ds) ∷ []) (Lit (number 1))) (decimal_digit 1 (omega arith)) (number_prod 1 (omega arith)) in
      record {
        derived = e.expr_and (e.and_not (e.not_cmp (e.cmp_sum (e.sum_plus (e.sum_prod (column_prod (bare (codes "v") refl))) sign one))));
        few = three_parts op.Add (codes "v") (number 1);
      }

  equality : (row : ℕ) → row < 10 ^ 38 → IsExpr ((kind.Word, codes "id") ∷ (kind.Sign, codes "=") ∷ (kind.Number, decimal row) ∷ []) (of_row row)
  equality row few = record {
    derived = e.expr_and (e.and_not (e.not_cmp (e.cmp_sums (e.sum_prod (column_prod (bare (codes "id") refl))) (e.equal sign) (e.sum_prod (number_prod row few)))));
    few = three_parts op.Eq (codes "id") (number row);
  }

  derived_update : (table row : ℕ) → is_reserved (table_name table) ≡ false → row < 10 ^ 38 → IsStmt (updated (table_name table) (decimal row)) (update_statement table row)
  derived_update table row free few =
      s.statement (s.update (r.update (word (codes "UPDATE") refl) (bare (table_name table) free) (word (codes "SET") refl)
      (last (r.assignment (bare (codes "v") refl) sign sum)) (present (r.condition (word (codes "WHERE") refl) (equality row few))))) left_out

  pub update_read : (table row : ℕ) → 1 ≤ table → table ≤ 4 → row < 10 ^ 38 → IsStatement (update_text table row) (update_statement table row)
  update_read table row some few small =
      by_tokens (update_text table row) (updated (table_name table) (decimal row)) (update_statement table row)
      (update_tokens table some few row small) (derived_update table row (unreserved table some few) small)
