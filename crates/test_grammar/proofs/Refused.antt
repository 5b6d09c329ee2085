-- Texts that are no statements: none is read of them.
use Rattle.std.proofs.Common.{◌≡◌, ℕ, List, Some, None, refl, codes, ◌∙◌, sym}
use Rattle.sql_lex.specs.Longest.{longest}
use Rattle.sql_lex.specs.IsToken.{kind_of}
use Rattle.sql_types.specs.declared.statement.Stmt.{Stmt}
use Rattle.spec_grammar.specs.Statements.{IsStatement}
use Rattle.spec_syntax.specs.Tags.{same_tag, tag_of}
use Rattle.spec_syntax.specs.Input as i
use Rattle.spec_syntax.specs.Words as w
use Rattle.spec_syntax.specs.Expr as e
use Rattle.spec_syntax.specs.Row as r
use Rattle.spec_syntax.specs.Select as s
use Rattle.spec_syntax.specs.Table as b
use Rattle.spec_syntax.specs.Ledger as l
use Rattle.spec_syntax.specs.Stmt as y
use Rattle.spec_syntax.specs.Text.{sym_of, grammar_statement_of}

-- where none is read, there is none
pub none : (text : List ℕ) → grammar_statement_of text ≡ None → ((s : Stmt) → IsStatement text s → grammar_statement_of text ≡ Some s) → (s : Stmt) → IsStatement text s → ⊥
none text h complete s is = let no : None ≡ Some s = sym h ∙ complete s is in absurd (cc)

pub reserved : grammar_statement_of (codes "DELETE of") ≡ None
unfolding grammar_statement_of sym_of tag_of same_tag longest kind_of i.tag i.text i.next i.sees i.after i.expect y.statement y.body r.delete e.name
reserved = refl

pub behind : grammar_statement_of (codes "COMMIT t") ≡ None
unfolding grammar_statement_of sym_of tag_of same_tag longest kind_of i.tag i.text i.next i.sees i.after i.expect i.tokens_left y.statement y.body y.commit y.tran_may
behind = refl

pub compared : grammar_statement_of (codes "DELETE t WHERE a = b = c") ≡ None
unfolding grammar_statement_of sym_of tag_of same_tag longest kind_of i.tag i.text i.next i.sees i.after i.expect i.tokens_left y.statement y.body r.delete r.filter i.begin i.spend i.repeated e.name e.leaf e.more e.prim e.unary e.product e.sum e.cmp e.not e.and e.or e.expr e.whole
compared = refl

pub mixed : grammar_statement_of (codes "SELECT COUNT(*), v FROM t") ≡ None
unfolding grammar_statement_of sym_of tag_of same_tag longest kind_of i.tag i.text i.next i.sees i.after i.expect i.tokens_left y.statement y.body i.calls i.list i.list_from s.select s.what s.agg w.call_word w.call_name e.name
mixed = refl

pub keyless : grammar_statement_of (codes "CREATE TABLE t (a INT)") ≡ None
unfolding grammar_statement_of sym_of tag_of same_tag longest kind_of i.tag i.text i.next i.sees i.after i.expect i.tokens_left y.statement y.body i.fold i.fold_from e.name w.type_word w.type_name y.create b.create_table b.item_step b.one_item b.column b.sql_type b.nullable b.is_key l.ledger_part
keyless = refl

pub not_null : grammar_statement_of (codes "ALTER TABLE t ADD w INT NOT NULL") ≡ None
unfolding grammar_statement_of sym_of tag_of same_tag longest kind_of i.tag i.text i.next i.sees i.after i.expect i.tokens_left y.statement y.body e.name w.type_word w.type_name b.alter_table b.add b.sql_type
not_null = refl

pub columnless : grammar_statement_of (codes "ALTER TABLE t DROP v") ≡ None
unfolding grammar_statement_of sym_of tag_of same_tag longest kind_of i.tag i.text i.next i.sees i.after i.expect y.statement y.body e.name b.alter_table b.drop_column
columnless = refl
