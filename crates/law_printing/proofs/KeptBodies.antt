-- Each statement that is read keeps to what printing needs.
use Rattle.std.proofs.Common.{◌≡◌, ◌∙◌, ◌==◌, ℕ, Bool, true, false, cond, List, Option, Some, None, sym, subst}
use Rattle.std.specs.Prelude.{option_map, option_and_then}
use Rattle.sql_types.specs.declared.statement.Stmt.{Stmt}
use Rattle.sql_types.specs.declared.statement.Stmt.TheVariants as stmt
use Rattle.spec_syntax.specs.declared.tag.Tag.{Tag}
use Rattle.spec_syntax.specs.declared.tag.Tag.TheVariants as t
use Rattle.spec_syntax.specs.declared.word.CallName.{CallName}
use Rattle.spec_syntax.specs.declared.word.CallName.TheVariants as call
use Rattle.spec_syntax.specs.Input.{Input, Sym, Outcome, and_then, tag, next, sees, after, expect, start, tokens_left}
use Rattle.spec_syntax.specs.Words.{call_word}
use Rattle.spec_syntax.specs.Expr.{name}
use Rattle.spec_syntax.specs.Row as r
use Rattle.spec_syntax.specs.Select.{select}
use Rattle.spec_syntax.specs.Table as b
use Rattle.spec_syntax.specs.Stmt as y
use Rattle.spec_syntax.specs.Stmt.{statement, statement_of_tokens}
use Rattle.spec_syntax.specs.Text.{grammar_statement_of}
use Rattle.spec_syntax.specs.Parsed.{IsName, IsChange, IsSelect, IsTable, IsIndex, IsAlter, IsParsed, Maybe}
use Rattle.law_printing.proofs.Cut.{cut, statement_of_cut}
use Rattle.law_printing.proofs.Kept.{AreSyms, Holds, Always, then_keeps, map_keeps, required_keeps, next_ok, after_ok, expect_keeps, if_keeps, name_keeps, Literal}
use Rattle.law_printing.proofs.KeptTokens.{AllSyms, cut_syms}
use Rattle.law_printing.proofs.KeptStmts.{call_keeps, insert_keeps, update_keeps, delete_keeps, select_keeps, index_keeps}
use Rattle.law_printing.proofs.KeptTables.{table_keeps}
use Rattle.law_printing.proofs.KeptAlters.{alter_keeps, drop_keeps}

index_is : (i : Input) → AreSyms i.rest → Holds IsParsed (and_then (b.create_index i) (λ x j. Some (stmt.Index x, j)))
index_is i ok = map_keeps IsIndex IsParsed stmt.Index (b.create_index i) (index_keeps i ok) (λ x is. is)

create_by_keeps : (g : Tag) (i : Input) → AreSyms i.rest → Holds IsParsed (y.create_by g i)
create_by_keeps t.Table i ok = map_keeps IsTable IsParsed stmt.Create (b.create_table (next i)) (table_keeps (next i) (next_ok i ok)) (λ x is. is)
create_by_keeps t.Nonclustered i ok = then_keeps Always IsParsed (λ x. _) (expect t.Index (next i)) (expect_keeps t.Index (next i) (next_ok i ok)) (λ z done j more. index_is j more)
create_by_keeps t.Index i ok = index_is (next i) (next_ok i ok)
create_by_keeps _ i ok = tt

create_keeps : (i : Input) → AreSyms i.rest → Holds IsParsed (y.create i)
unfolding y.create
create_keeps i ok = create_by_keeps (tag i) i ok

tran_keeps : (i : Input) → AreSyms i.rest → Holds Always (y.tran_may i)
unfolding y.tran_may
tran_keeps i ok =
    let j = after t.Tran i in
    let kept = after_ok t.Tran i ok in
    if_keeps Always (sees t.Tran i) (λ k. Some (true, k)) (λ k. Some (sees t.Transaction k, after t.Transaction k)) j (tt, kept) (tt, after_ok t.Transaction j kept)

begin_keeps : (i : Input) → AreSyms i.rest → Holds IsParsed (y.begin i)
unfolding y.begin
begin_keeps i ok = then_keeps Always IsParsed (λ x. _) (y.tran_may i) (tran_keeps i ok) (λ c is j more. if_keeps IsParsed c (λ k. Some (stmt.Begin, k)) (λ k. None) j (tt, more) tt)

commit_keeps : (i : Input) → AreSyms i.rest → Holds IsParsed (y.commit i)
unfolding y.commit
commit_keeps i ok = then_keeps Always IsParsed (λ x. _) (y.tran_may i) (tran_keeps i ok) (λ c is j more. (tt, more))

image_keeps : (c : CallName) (i : Input) → AreSyms i.rest → Holds IsParsed (y.image_of c i)
image_keeps call.Image i ok = (tt, ok)
image_keeps _ i ok = tt

save_keeps : (i : Input) → AreSyms i.rest → Holds IsParsed (y.save i)
unfolding y.save
save_keeps i ok =
    then_keeps Always IsParsed (λ x. _) (y.tran_may i) (tran_keeps i ok) (λ c is j more.
    if_keeps IsParsed c (λ k. and_then (name k) (λ n m. Some (stmt.Save n, m))) (λ k. and_then (call_word k) y.image_of) j
    (map_keeps IsName IsParsed stmt.Save (name j) (name_keeps j more) (λ n named. named))
    (then_keeps Always IsParsed (λ x. _) (call_word j) (call_keeps j more) (λ w called k rest. image_keeps w k rest)))

point_is : (i : Input) → AreSyms i.rest → Holds IsParsed (and_then (name i) (λ n j. Some (stmt.Rollback (Some n), j)))
point_is i ok = map_keeps IsName IsParsed (λ n. stmt.Rollback (Some n)) (name i) (name_keeps i ok) (λ n named. named)

savepoint_keeps : (g : Tag) (i : Input) → AreSyms i.rest → Holds IsParsed (y.savepoint_by g i)
savepoint_keeps t.Word i ok = point_is i ok
savepoint_keeps t.Bracketed i ok = point_is i ok
savepoint_keeps _ i ok = (tt, ok)

rollback_keeps : (i : Input) → AreSyms i.rest → Holds IsParsed (y.rollback i)
unfolding y.rollback
rollback_keeps i ok =
    then_keeps Always IsParsed (λ x. _) (y.tran_may i) (tran_keeps i ok) (λ c is j more.
    if_keeps IsParsed c (λ k. y.savepoint_by (tag k) k) (λ k. Some (stmt.Rollback None, k)) j (savepoint_keeps (tag j) j more) (tt, more))

digest_is : (c : CallName) → Maybe IsParsed (y.digest_of c)
digest_is call.Digest = tt
digest_is call.Count = tt
digest_is call.Sum = tt
digest_is call.Sys = tt
digest_is call.Image = tt

call_of_keeps : (c : CallName) (i : Input) → AreSyms i.rest → Holds IsParsed (y.call_of c i)
call_of_keeps call.Sys i ok =
    then_keeps Always IsParsed (λ x. _) (and_then (expect t.Dot i) (λ z. call_word)) (then_keeps Always Always (λ x. _) (expect t.Dot i) (expect_keeps t.Dot i ok) (λ z done j more. call_keeps j more))
    (λ w called k rest. required_keeps IsParsed (y.digest_of w) (digest_is w) k rest)
call_of_keeps call.Count i ok = tt
call_of_keeps call.Sum i ok = tt
call_of_keeps call.Digest i ok = (tt, ok)
call_of_keeps call.Image i ok = tt

execute_keeps : (i : Input) → AreSyms i.rest → Holds IsParsed (y.execute i)
unfolding y.execute
execute_keeps i ok = then_keeps Always IsParsed (λ x. _) (call_word i) (call_keeps i ok) (λ c called j more. call_of_keeps c j more)

body_by_keeps : Literal → (g : Tag) (i : Input) → AreSyms i.rest → Holds IsParsed (y.body_by g i)
body_by_keeps read t.Create i ok = create_keeps (next i) (next_ok i ok)
body_by_keeps read t.Alter i ok = map_keeps IsAlter IsParsed stmt.Alter (b.alter_table (next i)) (alter_keeps (next i) (next_ok i ok)) (λ x is. is)
body_by_keeps read t.Drop i ok = map_keeps IsName IsParsed stmt.Drop (b.drop_table (next i)) (drop_keeps (next i) (next_ok i ok)) (λ x is. is)
body_by_keeps read t.Insert i ok = map_keeps IsChange IsParsed stmt.Change (r.insert (next i)) (insert_keeps read (next i) (next_ok i ok)) (λ x is. is)
body_by_keeps read t.Update i ok = map_keeps IsChange IsParsed stmt.Change (r.update (next i)) (update_keeps read (next i) (next_ok i ok)) (λ x is. is)
body_by_keeps read t.Delete i ok = map_keeps IsChange IsParsed stmt.Change (r.delete (next i)) (delete_keeps read (next i) (next_ok i ok)) (λ x is. is)
body_by_keeps read t.Select i ok = map_keeps IsSelect IsParsed stmt.Select (select (next i)) (select_keeps read (next i) (next_ok i ok)) (λ x is. is)
body_by_keeps read t.Begin i ok = begin_keeps (next i) (next_ok i ok)
body_by_keeps read t.Commit i ok = commit_keeps (next i) (next_ok i ok)
body_by_keeps read t.Save i ok = save_keeps (next i) (next_ok i ok)
body_by_keeps read t.Rollback i ok = rollback_keeps (next i) (next_ok i ok)
body_by_keeps read t.Exec i ok = execute_keeps (next i) (next_ok i ok)
body_by_keeps read t.Execute i ok = execute_keeps (next i) (next_ok i ok)
body_by_keeps read _ i ok = tt

body_keeps : Literal → (i : Input) → AreSyms i.rest → Holds IsParsed (y.body i)
unfolding y.body
body_keeps read i ok = body_by_keeps read (tag i) i ok

end_by : (c : Bool) (x : Stmt) (i : Input) → IsParsed x → AreSyms i.rest → Holds IsParsed (cond c (Some (x, i)) None)
end_by true x i is ok = (is, ok)
end_by false x i is ok = tt

statement_keeps : Literal → (i : Input) → AreSyms i.rest → Holds IsParsed (statement i)
unfolding statement
statement_keeps read i ok =
    then_keeps IsParsed IsParsed (λ x. _) (y.body i) (body_keeps read i ok) (λ x is j more. end_by (tokens_left (after t.Semi j) == 0) x (after t.Semi j) is (after_ok t.Semi j more))

given_by : (x : Stmt) (o : Outcome Stmt) → Holds IsParsed o → option_map (λ q. q.0) o ≡ Some x → IsParsed x
given_by x None k e = absurd (cc)
given_by x (Some q) k e = let same : q.0 ≡ x = cc in subst IsParsed same k.0

cut_given : Literal → (x : Stmt) (o : Option (List Sym)) → AllSyms o → option_and_then statement_of_tokens o ≡ Some x → IsParsed x
cut_given read x None k e = absurd (cc)
cut_given read x (Some ts) k e = given_by x (statement (start ts)) (statement_keeps read (start ts) k) e

-- each statement that a text is keeps to it
pub parsed : Literal → (text : List ℕ) (x : Stmt) → grammar_statement_of text ≡ Some x → IsParsed x
parsed read text x e = cut_given read x (cut 0 text) (cut_syms 0 text) (sym (statement_of_cut text) ∙ e)
