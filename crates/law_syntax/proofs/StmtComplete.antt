-- A text that is a statement by the grammar is read as that statement, and is no other.
use Rattle.std.proofs.Common.{◌≡◌, ◌∙◌, ◌==◌, ℕ, Bool, true, false, if◌then◌else◌, List, [], ◌∷◌, ◌++◌, map, Some, None, Result, Ok, Err, IfOk, refl, ap, sym, codes, ◌⊎◌, inl, inr, append_assoc}
use Rattle.std.specs.Prelude.{option_map}
use Rattle.std.proofs.lemmas.List.{append-nil}
use Rattle.sql_types.specs.declared.statement.RowStmt.{RowStmt}
use Rattle.sql_types.specs.declared.statement.Select.{Select}
use Rattle.sql_types.specs.declared.statement.CreateTable.{CreateTable}
use Rattle.sql_types.specs.declared.statement.CreateIndex.{CreateIndex}
use Rattle.sql_types.specs.declared.statement.Alter.{Alter}
use Rattle.sql_types.specs.declared.statement.Stmt.{Stmt}
use Rattle.sql_types.specs.declared.statement.Stmt.TheVariants as stmt
use Rattle.spec_grammar.specs.Tokens.{Lexemes, Word, Sign, IsName, OptionalPart, left_out, written as given}
use Rattle.spec_grammar.specs.Tables as table
use Rattle.spec_grammar.specs.Statements as g
use Rattle.spec_grammar.specs.Statements.{IsTran, IsBody, IsStmt, IsStatement, IsSys, written}
use Rattle.spec_syntax.specs.declared.tag.Tag.{Tag}
use Rattle.spec_syntax.specs.declared.tag.Tag.TheVariants as t
use Rattle.spec_syntax.specs.declared.word.CallName.TheVariants as call
use Rattle.spec_syntax.specs.declared.parse_err.ParseErr.{ParseErr}
use Rattle.spec_syntax.specs.declared.parse_err.ParseErr.TheVariants.{Syntax, Memory}
use Rattle.spec_syntax.specs.Tags.{same_tag}
use Rattle.spec_syntax.specs.Input as input
use Rattle.spec_syntax.specs.Input.{Sym, Input, Parser, and_then, ◌>>=◌, ◌>>◌, ◌<$>◌, pure, refuse, peek, tag, tag_at, next, sees, after, eat, expect, required, tokens_left}
use Rattle.spec_syntax.specs.Words.{call_word}
use Rattle.spec_syntax.specs.Expr.{name}
use Rattle.spec_syntax.specs.Row as r
use Rattle.spec_syntax.specs.Select.{select}
use Rattle.spec_syntax.specs.Table as b
use Rattle.spec_syntax.specs.Stmt as y
use Rattle.spec_syntax.specs.Text.{of_scan, grammar_statement_of}
use Rattle.law_printing.proofs.Repeats.{at_}
use Rattle.law_syntax.proofs.Terminals as w
use Rattle.law_syntax.proofs.Steps.{the_same}
use Rattle.law_syntax.proofs.ExprComplete.{syms, syms_join, One, one, name_token}
use Rattle.law_syntax.proofs.ParsesTo.{ParsesTo, then_parses, flow, give_at, go, pure_parses, expects_parses, next_at, either_one, either_none, sees_one, after_one, unseen, name_parses, one_other}
use Rattle.law_syntax.proofs.RowComplete.{ends, Behind, call_token, call_parses, insert_parses, update_parses, delete_parses, select_parses}
use Rattle.law_syntax.proofs.LedgerComplete.{create_table_read, create_index_read}
use Rattle.law_syntax.proofs.AlterComplete.{add_column_read, column_dropped_read, drop_table_read}
use Rattle.law_syntax.proofs.StmtSound.{text_sound, map_written}

-- a form behind its first word
body_at : (gt : Tag) (v : List ℕ) (rest : List Sym) (n : ℕ) → y.body (at_ ((gt, v) ∷ rest) n) ≡ y.body_by gt (at_ ((gt, v) ∷ rest) n)
unfolding y.body tag
body_at gt v rest n = refl

-- the first word is taken, and the form behind it is read
headed : (gt : Tag) (p : Parser Stmt) → ((i : Input) → y.body_by gt i ≡ p (next i)) → (a e : Lexemes) (x : Stmt) (end : List Sym) (n : ℕ) → One gt a → ParsesTo (p (at_ (syms e ++ end) n)) x end → ParsesTo (y.body (at_ (syms (a ++ e) ++ end) n)) x end
headed gt p same a e x end n k h = (
  h.0,
  ap (λ z. y.body (at_ z n)) (flow a e end ∙ ap (λ z. z ++ (syms e ++ end)) k.is) ∙ body_at gt k.word_ (syms e ++ end) n ∙ same (at_ ((gt, k.word_) ∷ (syms e ++ end)) n)
      ∙ ap p (next_at gt k.word_ (syms e ++ end) n) ∙ h.1,
)

-- ---- CREATE

create_at : (gt : Tag) (v : List ℕ) (rest : List Sym) (n : ℕ) → y.create (at_ ((gt, v) ∷ rest) n) ≡ y.create_by gt (at_ ((gt, v) ∷ rest) n)
unfolding y.create tag
create_at gt v rest n = refl

created : (gt : Tag) (p : Parser Stmt) → ((i : Input) → y.create_by gt i ≡ p (next i)) → (a e : Lexemes) (x : Stmt) (end : List Sym) (n : ℕ) → One gt a → ParsesTo (p (at_ (syms e ++ end) n)) x end → ParsesTo (y.create (at_ (syms (a ++ e) ++ end) n)) x end
created gt p same a e x end n k h = (
  h.0,
  ap (λ z. y.create (at_ z n)) (flow a e end ∙ ap (λ z. z ++ (syms e ++ end)) k.is) ∙ create_at gt k.word_ (syms e ++ end) n ∙ same (at_ ((gt, k.word_) ∷ (syms e ++ end)) n)
      ∙ ap p (next_at gt k.word_ (syms e ++ end) n) ∙ h.1,
)

create_given : {a : Lexemes} {x : CreateTable} → table.IsCreateTable a x → (rest : List Sym) (n : ℕ) → ends (tag_at rest) ≡ true → ParsesTo (y.body (at_ (syms a ++ rest) n)) (stmt.Create x) rest
create_given (table.create_table {a = a} {b = e} {c = c} {e = f} {f = k} {n = v} {items = xs} {key = key} {l = l} create_ table_ named items part keys some) rest n fits =
    headed t.Create y.create (λ i. refl) a (e ++ (c ++ (f ++ k))) (stmt.Create _) rest n (one w.create_ a create_)
    (created t.Table (stmt.Create <$> b.create_table) (λ i. refl) e (c ++ (f ++ k)) (stmt.Create _) rest n (one w.table_ e table_)
    (then_parses (λ z. pure (stmt.Create z)) (create_table_read c f k v xs key l named items part keys some rest n fits) (λ m. pure_parses (stmt.Create _) rest m)))

index_given : {a : Lexemes} {x : CreateIndex} → table.IsCreateIndex a x → (rest : List Sym) (n : ℕ) → ParsesTo (y.body (at_ (syms a ++ rest) n)) (stmt.Index x) rest
index_given (table.create_index {a = a} {c = c} {e = e} {f = f} {g = k} {h = h} {n = v} {table = of} {columns = columns} create_ left_out index_ named on of_ names_) rest n =
    headed t.Create y.create (λ i. refl) a (c ++ (e ++ (f ++ (k ++ h)))) (stmt.Index _) rest n (one w.create_ a create_)
    (created t.Index (stmt.Index <$> b.create_index) (λ i. refl) c (e ++ (f ++ (k ++ h))) (stmt.Index _) rest n (one w.index_ c index_)
    (then_parses (λ z. pure (stmt.Index z)) (create_index_read e f k h v of columns named (one w.on_ f on) of_ names_ rest n) (λ m. pure_parses (stmt.Index _) rest m)))
index_given (table.create_index {a = a} {c = c} {e = e} {f = f} {g = k} {h = h} {n = v} {table = of} {columns = columns} create_ (given {a = d} nonclustered_) index_ named on of_ names_) rest n =
    headed t.Create y.create (λ i. refl) a (d ++ (c ++ (e ++ (f ++ (k ++ h))))) (stmt.Index _) rest n (one w.create_ a create_)
    (created t.Nonclustered (expect t.Index >> stmt.Index <$> b.create_index) (λ i. refl) d (c ++ (e ++ (f ++ (k ++ h)))) (stmt.Index _) rest n (one w.nonclustered_ d nonclustered_)
    (go (expect t.Index) (λ _. stmt.Index <$> b.create_index) c (e ++ (f ++ (k ++ h))) rest rest n (expects_parses (one w.index_ c index_) (syms (e ++ (f ++ (k ++ h))) ++ rest) n)
    (λ m. then_parses (λ z. pure (stmt.Index z)) (create_index_read e f k h v of columns named (one w.on_ f on) of_ names_ rest m) (λ m. pure_parses (stmt.Index _) rest m))))

-- ---- ALTER TABLE and DROP TABLE

alter_given : {a : Lexemes} {x : Alter} → table.IsAlter a x → (rest : List Sym) (n : ℕ) → ends (tag_at rest) ≡ true → ParsesTo (y.body (at_ (syms a ++ rest) n)) (stmt.Alter x) rest
alter_given (table.add {a = a} {b = e} {c = c} {e = d} {f = f} {g = k} {h = h} {table = of} {n = v} {ty = ty} alter_ table_ of_ add_ named is null_) rest n fits =
    headed t.Alter (stmt.Alter <$> b.alter_table) (λ i. refl) a (e ++ (c ++ (d ++ (f ++ (k ++ h))))) (stmt.Alter _) rest n (one w.alter_ a alter_)
    (then_parses (λ z. pure (stmt.Alter z)) (add_column_read e c d f k h of v ty table_ of_ add_ named is null_ rest n fits) (λ m. pure_parses (stmt.Alter _) rest m))
alter_given (table.drop_column {a = a} {b = e} {c = c} {e = d} {f = f} {g = k} {table = of} {n = v} alter_ table_ of_ drop_ column_ named) rest n fits =
    headed t.Alter (stmt.Alter <$> b.alter_table) (λ i. refl) a (e ++ (c ++ (d ++ (f ++ k)))) (stmt.Alter _) rest n (one w.alter_ a alter_)
    (then_parses (λ z. pure (stmt.Alter z)) (column_dropped_read e c d f k of v table_ of_ drop_ column_ named rest n) (λ m. pure_parses (stmt.Alter _) rest m))

drop_given : {a : Lexemes} {v : List ℕ} → table.IsDrop a v → (rest : List Sym) (n : ℕ) → ParsesTo (y.body (at_ (syms a ++ rest) n)) (stmt.Drop v) rest
drop_given (table.drop_table {a = a} {b = e} {c = c} {table = v} drop_ table_ named) rest n =
    headed t.Drop (stmt.Drop <$> b.drop_table) (λ i. refl) a (e ++ c) (stmt.Drop v) rest n (one w.drop_ a drop_)
    (then_parses (λ z. pure (stmt.Drop z)) (drop_table_read e c v table_ named rest n) (λ m. pure_parses (stmt.Drop v) rest m))

-- ---- rows

changed : {word_ : List ℕ} (gt : Tag) (is_ : w.Terminal gt (Word word_)) (p : Parser RowStmt) → ((i : Input) → y.body_by gt i ≡ (stmt.Change <$> p) (next i)) → {a : Lexemes} {x : RowStmt} → Behind word_ p a x ends → (rest : List Sym) (n : ℕ) → ends (tag_at rest) ≡ true
    → ParsesTo (y.body (at_ (syms a ++ rest) n)) (stmt.Change x) rest
changed gt is_ p same {x = x} k rest n fits =
    give_at y.body n (ap (λ z. syms z ++ rest) k.whole)
    (headed gt (stmt.Change <$> p) same k.first k.others (stmt.Change x) rest n (one is_ k.first k.is)
    (then_parses (λ z. pure (stmt.Change z)) (k.gives rest n fits) (λ m. pure_parses (stmt.Change x) rest m)))

selected : {a : Lexemes} {x : Select} → Behind (codes "SELECT") select a x ends → (rest : List Sym) (n : ℕ) → ends (tag_at rest) ≡ true → ParsesTo (y.body (at_ (syms a ++ rest) n)) (stmt.Select x) rest
selected {x = x} k rest n fits =
    give_at y.body n (ap (λ z. syms z ++ rest) k.whole)
    (headed t.Select (stmt.Select <$> select) (λ i. refl) k.first k.others (stmt.Select x) rest n (one w.select_ k.first k.is)
    (then_parses (λ z. pure (stmt.Select z)) (k.gives rest n fits) (λ m. pure_parses (stmt.Select x) rest m)))

-- ---- transactions

tran_no : same_tag t.Transaction t.Tran ≡ false
unfolding same_tag
tran_no = refl

transaction_seen : {a : Lexemes} → One t.Transaction a → (rest : List Sym) (n : ℕ) → ParsesTo (eat t.Transaction (at_ (syms a ++ rest) n)) true rest
transaction_seen k rest n = (n, rw (sees_one k rest n, after_one k rest n) refl)

transaction_none : (rest : List Sym) (n : ℕ) → same_tag (tag_at rest) t.Transaction ≡ false → ParsesTo (eat t.Transaction (at_ rest n)) false rest
unfolding after
transaction_none rest n other = (n, rw (unseen t.Transaction rest n other) refl)

tran_parses : {a : Lexemes} → IsTran a → (rest : List Sym) (n : ℕ) → ParsesTo (y.tran_may (at_ (syms a ++ rest) n)) true rest
unfolding y.tran_may
tran_parses (g.tran {a = a} is) rest n = either_one (pure true) (eat t.Transaction) true rest rest n (one w.tran_ a is) (pure_parses true rest n)
tran_parses (g.transaction {a = a} is) rest n =
    let k = one w.transaction_ a is in
    either_none t.Tran (pure true) (eat t.Transaction) true (syms a ++ rest) rest n (one_other t.Tran tran_no k rest) (transaction_seen k rest n)

tran_none : (rest : List Sym) (n : ℕ) → same_tag (tag_at rest) t.Tran ≡ false → same_tag (tag_at rest) t.Transaction ≡ false → ParsesTo (y.tran_may (at_ rest n)) false rest
unfolding y.tran_may
tran_none rest n other another = either_none t.Tran (pure true) (eat t.Transaction) false rest rest n other (transaction_none rest n another)

ends_no_tran : (h : Tag) → ends h ≡ true → (same_tag h t.Tran ≡ false) × (same_tag h t.Transaction ≡ false)
unfolding same_tag
ends_no_tran t.End e = (refl, refl)
ends_no_tran t.Semi e = (refl, refl)
ends_no_tran _ e = absurd (cc)

begin_read : {a : Lexemes} → IsTran a → (rest : List Sym) (n : ℕ) → ParsesTo (y.begin (at_ (syms a ++ rest) n)) stmt.Begin rest
unfolding y.begin
begin_read is rest n = then_parses (λ c. if c then pure stmt.Begin else refuse) (tran_parses is rest n) (λ m. pure_parses stmt.Begin rest m)

commit_read : {a : Lexemes} → OptionalPart IsTran a → (rest : List Sym) (n : ℕ) → ends (tag_at rest) ≡ true → ParsesTo (y.commit (at_ (syms a ++ rest) n)) stmt.Commit rest
unfolding y.commit
commit_read left_out rest n fits = let k = ends_no_tran (tag_at rest) fits in then_parses (λ _. pure stmt.Commit) (tran_none rest n k.0 k.1) (λ m. pure_parses stmt.Commit rest m)
commit_read (given is) rest n fits = then_parses (λ _. pure stmt.Commit) (tran_parses is rest n) (λ m. pure_parses stmt.Commit rest m)

abbrev save_by : Bool → Parser Stmt
save_by c = if c then stmt.Save <$> name else (call_word >>= y.image_of)

save_read : (a e : Lexemes) (v : List ℕ) → IsTran a → IsName e v → (rest : List Sym) (n : ℕ) → ParsesTo (y.save (at_ (syms (a ++ e) ++ rest) n)) (stmt.Save v) rest
unfolding y.save
save_read a e v is named rest n =
    go y.tran_may save_by a e rest rest n (tran_parses is (syms e ++ rest) n) (λ m. then_parses (λ z. pure (stmt.Save z)) (name_parses named rest m) (λ m. pure_parses (stmt.Save v) rest m))

word_no_tran : (same_tag t.Word t.Tran ≡ false) × (same_tag t.Word t.Transaction ≡ false)
unfolding same_tag
word_no_tran = (refl, refl)

image_read : (a : Lexemes) → Word (codes "IMAGE") a → (rest : List Sym) (n : ℕ) → ParsesTo (y.save (at_ (syms a ++ rest) n)) stmt.Image rest
unfolding y.save
image_read a is rest n =
    let k = call_token call.Image a is in
    then_parses save_by (tran_none (syms a ++ rest) n (one_other t.Tran word_no_tran.0 k rest) (one_other t.Transaction word_no_tran.1 k rest))
    (λ m. then_parses y.image_of (call_parses call.Image is rest m) (λ m. pure_parses stmt.Image rest m))

abbrev rollback_by : Bool → Parser Stmt
rollback_by c = if c then (peek >>= y.savepoint_by) else pure (stmt.Rollback None)

no_savepoint : (h : Tag) → ends h ≡ true → (i : Input) → y.savepoint_by h i ≡ Some (stmt.Rollback None, i)
no_savepoint t.End e i = refl
no_savepoint t.Semi e i = refl
no_savepoint _ e i = absurd (cc)

no_point : (rest : List Sym) (n : ℕ) → ends (tag_at rest) ≡ true → ParsesTo ((peek >>= y.savepoint_by) (at_ rest n)) (stmt.Rollback None) rest
unfolding tag
no_point rest n fits = (n, no_savepoint (tag_at rest) fits (at_ rest n))

rollback_read : {a : Lexemes} → OptionalPart IsTran a → (rest : List Sym) (n : ℕ) → ends (tag_at rest) ≡ true → ParsesTo (y.rollback (at_ (syms a ++ rest) n)) (stmt.Rollback None) rest
unfolding y.rollback
rollback_read left_out rest n fits = let k = ends_no_tran (tag_at rest) fits in then_parses rollback_by (tran_none rest n k.0 k.1) (λ m. pure_parses (stmt.Rollback None) rest m)
rollback_read (given is) rest n fits = then_parses rollback_by (tran_parses is rest n) (λ m. no_point rest m fits)

savepoint_at : (h : Tag) → (h ≡ t.Word) ⊎ (h ≡ t.Bracketed) → (i : Input) → y.savepoint_by h i ≡ and_then (name i) (λ v. pure (stmt.Rollback (Some v)))
savepoint_at h (inl is) i = ap (λ z. y.savepoint_by z i) is
savepoint_at h (inr is) i = ap (λ z. y.savepoint_by z i) is

point_read : {a : Lexemes} {v : List ℕ} → IsName a v → (rest : List Sym) (n : ℕ) → ParsesTo ((peek >>= y.savepoint_by) (at_ (syms a ++ rest) n)) (stmt.Rollback (Some v)) rest
unfolding tag
point_read {a} {v} named rest n =
    let k = name_token named in
    let read = then_parses (λ z. pure (stmt.Rollback (Some z))) (name_parses named rest n) (λ m. pure_parses (stmt.Rollback (Some v)) rest m) in
    (read.0, ap (λ z. y.savepoint_by (tag_at (z ++ rest)) (at_ (syms a ++ rest) n)) k.whole ∙ savepoint_at k.tag_ k.names (at_ (syms a ++ rest) n) ∙ read.1)

rollback_to_read : (a e : Lexemes) (v : List ℕ) → IsTran a → IsName e v → (rest : List Sym) (n : ℕ) → ParsesTo (y.rollback (at_ (syms (a ++ e) ++ rest) n)) (stmt.Rollback (Some v)) rest
unfolding y.rollback
rollback_to_read a e v is named rest n = go y.tran_may rollback_by a e rest rest n (tran_parses is (syms e ++ rest) n) (λ m. point_read named rest m)

-- ---- the digest

digest_read : (a e : Lexemes) → OptionalPart IsSys a → Word (codes "sp_generate_database_ledger_digest") e → (rest : List Sym) (n : ℕ) → ParsesTo (y.execute (at_ (syms (a ++ e) ++ rest) n)) stmt.Digest rest
unfolding y.execute
digest_read _ e left_out is rest n = then_parses y.call_of (call_parses call.Digest is rest n) (λ m. pure_parses stmt.Digest rest m)
digest_read _ e (given (g.sys {a = a} {b = f} sys_ dot)) is rest n =
    give_at (call_word >>= y.call_of) n (ap (λ z. syms z ++ rest) (append_assoc a f e))
    (go call_word y.call_of a (f ++ e) rest rest n (call_parses call.Sys sys_ (syms (f ++ e) ++ rest) n)
    (λ m. then_parses (λ word_. required (y.digest_of word_)) (go (expect t.Dot) (λ _. call_word) f e rest rest m (expects_parses (one w.dot_ f dot) (syms e ++ rest) m) (λ m. call_parses call.Digest is rest m)) (λ m. pure_parses stmt.Digest rest m)))

-- ---- a statement

body_given : {a : Lexemes} {x : Stmt} → IsBody a x → (rest : List Sym) (n : ℕ) → ends (tag_at rest) ≡ true → ParsesTo (y.body (at_ (syms a ++ rest) n)) x rest
body_given (g.create is) rest n fits = create_given is rest n fits
body_given (g.index is) rest n fits = index_given is rest n
body_given (g.alter is) rest n fits = alter_given is rest n fits
body_given (g.drop is) rest n fits = drop_given is rest n
body_given (g.insert is) rest n fits = changed t.Insert w.insert_ r.insert (λ i. refl) (insert_parses is) rest n fits
body_given (g.update is) rest n fits = changed t.Update w.update_ r.update (λ i. refl) (update_parses is) rest n fits
body_given (g.delete is) rest n fits = changed t.Delete w.delete_ r.delete (λ i. refl) (delete_parses is) rest n fits
body_given (g.select {x = x} is) rest n fits = selected (select_parses is) rest n fits
body_given (g.begin {a = a} {b = e} word_ is) rest n fits = headed t.Begin y.begin (λ i. refl) a e stmt.Begin rest n (one w.begin_ a word_) (begin_read is rest n)
body_given (g.commit {a = a} {b = e} word_ is) rest n fits = headed t.Commit y.commit (λ i. refl) a e stmt.Commit rest n (one w.commit_ a word_) (commit_read is rest n fits)
body_given (g.save {a = a} {b = e} {c = c} {n = v} word_ is named) rest n fits = headed t.Save y.save (λ i. refl) a (e ++ c) (stmt.Save v) rest n (one w.save_ a word_) (save_read e c v is named rest n)
body_given (g.rollback {a = a} {b = e} word_ is) rest n fits = headed t.Rollback y.rollback (λ i. refl) a e (stmt.Rollback None) rest n (one w.rollback_ a word_) (rollback_read is rest n fits)
body_given (g.rollback_to {a = a} {b = e} {c = c} {n = v} word_ is named) rest n fits = headed t.Rollback y.rollback (λ i. refl) a (e ++ c) (stmt.Rollback (Some v)) rest n (one w.rollback_ a word_) (rollback_to_read e c v is named rest n)
body_given (g.digest {b = e} {c = c} (g.exec {a = a} word_) is called) rest n fits = headed t.Exec y.execute (λ i. refl) a (e ++ c) stmt.Digest rest n (one w.exec_ a word_) (digest_read e c is called rest n)
body_given (g.digest {b = e} {c = c} (g.execute {a = a} word_) is called) rest n fits = headed t.Execute y.execute (λ i. refl) a (e ++ c) stmt.Digest rest n (one w.execute_ a word_) (digest_read e c is called rest n)
body_given (g.image {a = a} {b = e} word_ is) rest n fits = headed t.Save y.save (λ i. refl) a e stmt.Image rest n (one w.save_ a word_) (image_read e is rest n)

-- nothing is left
abbrev end_of : Stmt → Bool → Parser Stmt
end_of x c i = if tokens_left i == 0 then Some (x, i) else None

end_read : (x : Stmt) (c : Bool) (n : ℕ) → end_of x c (at_ [] n) ≡ Some (x, at_ [] n)
unfolding tokens_left
end_read x c n = refl

semi_tag : {a : Lexemes} → OptionalPart (Sign (codes ";")) a → ends (tag_at (syms a)) ≡ true
semi_tag left_out = refl
semi_tag (given {a = a} is) = let k = one w.semi_ a is in ap (λ z. ends (tag_at z)) k.is

no_semi : (n : ℕ) → eat t.Semi (at_ [] n) ≡ Some (false, at_ [] n)
unfolding sees after
no_semi n = refl

semi_seen : {a : Lexemes} → One t.Semi a → (n : ℕ) → eat t.Semi (at_ (syms a ++ []) n) ≡ Some (true, at_ [] n)
semi_seen k n = rw (sees_one k [] n, after_one k [] n) refl

semi_read : {a : Lexemes} (x : Stmt) → OptionalPart (Sign (codes ";")) a → (n : ℕ) → ParsesTo ((eat t.Semi >>= end_of x) (at_ (syms a) n)) x []
semi_read x left_out n = (n, ap (λ q. and_then q (end_of x)) (no_semi n) ∙ end_read x false n)
semi_read x (given {a = a} is) n = (n, ap (λ z. (eat t.Semi >>= end_of x) (at_ z n)) (sym (append-nil (syms a))) ∙ ap (λ q. and_then q (end_of x)) (semi_seen (one w.semi_ a is) n) ∙ end_read x true n)

pub statement_given : {a : Lexemes} {x : Stmt} → IsStmt a x → (n : ℕ) → ParsesTo (y.statement (at_ (syms a) n)) x []
unfolding y.statement
statement_given (g.statement {a = a} {b = e} {x = x} body semi) n =
    give_at (y.body >>= (λ u. eat t.Semi >>= end_of u)) n (syms_join a e)
    (then_parses (λ u. eat t.Semi >>= end_of u) (body_given body (syms e) n (semi_tag semi)) (λ m. semi_read x semi m))

-- ---- a text

of_tokens : (a : Lexemes) (x : Stmt) → IsStmt a x → y.statement_of_tokens (syms a) ≡ Some x
of_tokens a x is = let k = statement_given is 0 in ap (λ q. option_map (λ p. p.0) q) k.1

-- what a text is by the grammar, the parser reads
pub text_complete : (text_ : List ℕ) (x : Stmt) → IsStatement text_ x → grammar_statement_of text_ ≡ Some x
unfolding grammar_statement_of
text_complete text_ x k = ap (of_scan text_) k.cut ∙ ap y.statement_of_tokens (sym (map_written text_ k.tokens)) ∙ of_tokens (map (written text_) k.tokens) x k.is

-- a text is one statement at most
pub text_unique : (text_ : List ℕ) (x z : Stmt) → IsStatement text_ x → IsStatement text_ z → x ≡ z
text_unique text_ x z a b_ = the_same (sym (text_complete text_ x a) ∙ text_complete text_ z b_)

-- ---- what parsing promises

pub found_is : (text_ : List ℕ) (o : Result Stmt ParseErr) → input.ConvertsUnlessOom (grammar_statement_of text_) o → IfOk o (λ x. IsStatement text_ x)
found_is text_ (Ok x) h = text_sound text_ x h
found_is text_ (Err e) h = tt

pub refused_is : (text_ : List ℕ) (o : Result Stmt ParseErr) → input.ConvertsUnlessOom (grammar_statement_of text_) o → o ≡ Err Syntax → (x : Stmt) → IsStatement text_ x → ⊥
refused_is text_ (Ok z) h is x k = absurd (cc)
refused_is text_ (Err Memory) h is x k = absurd (cc)
refused_is text_ (Err Syntax) h is x k = let no : None ≡ Some x = sym h ∙ text_complete text_ x k in absurd (cc)
