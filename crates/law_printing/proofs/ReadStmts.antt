-- The tokens of printed statements are read as the statements.
use Rattle.std.proofs.Common.{◌≡◌, ◌==◌, ℕ, List, [], ◌∷◌, ◌++◌, Option, Some, None, refl, ap}
use Rattle.std.specs.Prelude.{option_map, if◌then◌else◌}
use Rattle.sql_types.specs.declared.statement.Stmt.{Stmt}
use Rattle.sql_types.specs.declared.statement.Stmt.TheVariants as stmt
use Rattle.sql_types.specs.declared.statement.CreateTable.{CreateTable}
use Rattle.sql_types.specs.declared.statement.CreateIndex.{CreateIndex}
use Rattle.sql_types.specs.declared.statement.Alter.{Alter}
use Rattle.sql_types.specs.declared.statement.Alter.TheVariants.{Add, DropColumn}
use Rattle.sql_types.specs.declared.statement.Select.{Select}
use Rattle.sql_types.specs.declared.statement.RowStmt.{RowStmt}
use Rattle.sql_types.specs.declared.statement.RowStmt.TheVariants.{Insert, Update, Delete}
use Rattle.spec_syntax.specs.declared.tag.Tag.TheVariants as t
use Rattle.spec_syntax.specs.Tags.{same_tag}
use Rattle.spec_syntax.specs.Input.{Sym, Outcome, tag, text, next, sees, after, eat, and_then, start, tokens_left}
use Rattle.spec_syntax.specs.Words.{call_name, call_word}
use Rattle.spec_syntax.specs.Row as r
use Rattle.spec_syntax.specs.Select as g
use Rattle.spec_syntax.specs.Table as b
use Rattle.spec_syntax.specs.Stmt as y
use Rattle.spec_syntax.specs.Stmt.{statement, statement_of_tokens}
use Rattle.spec_syntax.specs.Printed as p
use Rattle.spec_syntax.specs.Printed.{key}
use Rattle.spec_syntax.specs.PrintedStmt as s
use Rattle.spec_syntax.specs.Parsed.{IsChange, IsSelect, IsTable, IsIndex, IsAlter, IsParsed}
use Rattle.law_printing.proofs.Repeats.{at_}
use Rattle.law_printing.proofs.ReadTrees.{Written, name_read}
use Rattle.law_printing.proofs.Gets.{Gets, then_gets, map_gets}
use Rattle.law_printing.proofs.ReadParts.{Untreed}
use Rattle.law_printing.proofs.ReadRows.{change_syms, behind_columns, update_gets, delete_gets}
use Rattle.law_printing.proofs.ReadSelects.{select_gets, index_gets}
use Rattle.law_printing.proofs.ReadCreates.{table_gets}
use Rattle.law_printing.proofs.ReadAlters.{behind_alter, alter_gets, drop_gets}

-- the tokens of a printed statement, of which the signs of values are some
abbrev pub stmt_syms : Stmt → List Sym
stmt_syms (stmt.Change c) = change_syms c
stmt_syms other = s.tokens other

create_gets : (x : CreateTable) (n : ℕ) → IsTable x → Gets (y.body (at_ (s.create_table x) n)) (stmt.Create x) []
unfolding y.body y.create s.create_table tag next
create_gets x n is =
    map_gets stmt.Create x [] (b.create_table (at_ (p.name x.name ∷ (p.enclosed (s.table_items x) ++ key t.With ∷ p.enclosed (s.ledger x.kind x.history x.view))) n)) (table_gets x n is)

create_index_gets : (x : CreateIndex) (n : ℕ) → IsIndex x → Gets (y.body (at_ (s.create_index x) n)) (stmt.Index x) []
unfolding y.body y.create s.create_index tag next
create_index_gets x n is = map_gets stmt.Index x [] (b.create_index (at_ (p.name x.name ∷ key t.On ∷ p.name x.table ∷ s.names x.columns) n)) (index_gets x n is)

alter_table_gets : (x : Alter) (n : ℕ) → IsAlter x → Gets (y.body (at_ (s.alter_table x) n)) (stmt.Alter x) []
unfolding y.body s.alter_table tag next
alter_table_gets (Add table d) n is = map_gets stmt.Alter (Add table d) [] (b.alter_table (at_ (behind_alter (Add table d)) n)) (alter_gets (Add table d) n is)
alter_table_gets (DropColumn table c) n is = map_gets stmt.Alter (DropColumn table c) [] (b.alter_table (at_ (behind_alter (DropColumn table c)) n)) (alter_gets (DropColumn table c) n is)

drop_table_gets : (c : List ℕ) (n : ℕ) → Gets (y.body (at_ (s.drop_table c) n)) (stmt.Drop c) []
unfolding y.body s.drop_table tag next
drop_table_gets c n = map_gets stmt.Drop c [] (b.drop_table (at_ (key t.Table ∷ p.name c ∷ []) n)) (drop_gets c n)

change_gets : Written → Untreed → (x : RowStmt) (n : ℕ) → IsChange x → Gets (y.body (at_ (change_syms x) n)) (stmt.Change x) []
unfolding y.body s.change tag next
change_gets written untreed (Insert table found rows) n is =
    map_gets stmt.Change (Insert table found rows) [] (r.insert (at_ (key t.Into ∷ p.name table ∷ (s.columns found ++ key t.Values ∷ _)) n)) (behind_columns written table found rows n is.1 is.2)
change_gets written untreed (Update table sets cond) n is =
    map_gets stmt.Change (Update table sets cond) [] (r.update (at_ (p.name table ∷ key t.Set ∷ (p.listed s.assignment sets ++ s.filter cond)) n)) (update_gets written untreed table sets cond n is.1 is.2)
change_gets written untreed (Delete table cond) n is =
    map_gets stmt.Change (Delete table cond) [] (r.delete (at_ (key t.From ∷ p.name table ∷ s.filter cond) n)) (delete_gets written untreed table cond n is.1)

choose_gets : Written → Untreed → (x : Select) (n : ℕ) → IsSelect x → Gets (y.body (at_ (s.select x) n)) (stmt.Select x) []
unfolding y.body s.select tag next
choose_gets written untreed x n is =
    map_gets stmt.Select x [] (g.select (at_ (s.what x.what ++ key t.From ∷ p.name x.table ∷ (s.filter x.cond ++ s.order x.order)) n)) (select_gets written untreed x n is)

begin_gets : (n : ℕ) → Gets (y.body (at_ (s.tokens stmt.Begin) n)) stmt.Begin []
unfolding y.body y.begin y.tran_may s.tokens tag next sees after same_tag
begin_gets n = (refl, refl)

commit_gets : (n : ℕ) → Gets (y.body (at_ (s.tokens stmt.Commit) n)) stmt.Commit []
unfolding y.body y.commit y.tran_may s.tokens tag next sees after same_tag
commit_gets n = (refl, refl)

save_gets : (c : List ℕ) (n : ℕ) → Gets (y.body (at_ (s.tokens (stmt.Save c)) n)) (stmt.Save c) []
unfolding y.body y.save y.tran_may s.tokens tag next sees after same_tag
save_gets c n = rw (name_read c [] n) (refl, refl)

rollback_gets : (to : Option (List ℕ)) (n : ℕ) → Gets (y.body (at_ (s.tokens (stmt.Rollback to)) n)) (stmt.Rollback to) []
unfolding y.body y.rollback y.tran_may s.tokens s.rollback tag next sees after same_tag
rollback_gets None n = (refl, refl)
rollback_gets (Some c) n = rw (name_read c [] n) (refl, refl)

digest_gets : (n : ℕ) → Gets (y.body (at_ (s.tokens stmt.Digest) n)) stmt.Digest []
unfolding y.body y.execute call_word call_name s.tokens tag text next
digest_gets n = (refl, refl)

image_gets : (n : ℕ) → Gets (y.body (at_ (s.tokens stmt.Image) n)) stmt.Image []
unfolding y.body y.save y.tran_may call_word call_name s.tokens tag text next sees after same_tag
image_gets n = (refl, refl)

body_gets : Written → Untreed → (x : Stmt) (n : ℕ) → IsParsed x → Gets (y.body (at_ (stmt_syms x) n)) x []
unfolding s.tokens
body_gets written untreed (stmt.Create c) n is = create_gets c n is
body_gets written untreed (stmt.Index c) n is = create_index_gets c n is
body_gets written untreed (stmt.Alter a) n is = alter_table_gets a n is
body_gets written untreed (stmt.Drop c) n is = drop_table_gets c n
body_gets written untreed (stmt.Change c) n is = change_gets written untreed c n is
body_gets written untreed (stmt.Select c) n is = choose_gets written untreed c n is
body_gets written untreed stmt.Begin n is = begin_gets n
body_gets written untreed stmt.Commit n is = commit_gets n
body_gets written untreed (stmt.Save c) n is = save_gets c n
body_gets written untreed (stmt.Rollback to) n is = rollback_gets to n
body_gets written untreed stmt.Digest n is = digest_gets n
body_gets written untreed stmt.Image n is = image_gets n

nothing_more : (x : Stmt) (n : ℕ) → Gets (and_then (eat t.Semi (at_ [] n)) (λ _ i. if tokens_left i == 0 then Some (x, i) else None)) x []
unfolding sees after tokens_left
nothing_more x n = (refl, refl)

taken : (x : Stmt) (o : Outcome Stmt) → Gets o x [] → option_map (λ q. q.0) o ≡ Some x
taken x None k = absurd k
taken x (Some q) k = ap Some k.0

-- the tokens of a printed statement are the statement
pub syms_read : Written → Untreed → (x : Stmt) → IsParsed x → statement_of_tokens (stmt_syms x) ≡ Some x
unfolding statement
syms_read written untreed x is =
    taken x (statement (start (stmt_syms x))) (then_gets (λ q. _) x x [] [] (y.body (at_ (stmt_syms x) 0)) (body_gets written untreed x 0 is) (λ n. nothing_more x n))
