-- A text that the parser reads is the statement by the grammar.
use Rattle.std.proofs.Common.{◌≡◌, ◌∙◌, ◌==◌, ℕ, Bool, true, false, cond, if◌then◌else◌, List, [], ◌∷◌, ◌++◌, map, length, Some, None, Ok, Err, refl, ap, sym, codes, ◌⊎◌, inl, inr, arith, append_assoc}
use Rattle.std.specs.Prelude.{option_map}
use Rattle.std.proofs.lemmas.List.{append-nil}
use Rattle.std.proofs.lemmas.Bool.Decides.{nat_tests}
use Rattle.sql_lex.specs.declared.token.Kind.{Kind}
use Rattle.sql_lex.specs.declared.token.Token.{Token}
use Rattle.sql_lex.specs.Cut.{Scan, tokens_of}
use Rattle.sql_types.specs.declared.statement.RowStmt.{RowStmt}
use Rattle.sql_types.specs.declared.statement.Stmt.{Stmt}
use Rattle.sql_types.specs.declared.statement.Stmt.TheVariants as stmt
use Rattle.spec_grammar.specs.Tokens.{Lexemes, Word, Sign, OptionalPart, left_out, written as given}
use Rattle.spec_grammar.specs.Statements as g
use Rattle.spec_grammar.specs.Statements.{IsTran, IsBody, IsStmt, IsStatement, IsExec, written}
use Rattle.spec_syntax.specs.declared.tag.Tag.{Tag}
use Rattle.spec_syntax.specs.declared.tag.Tag.TheVariants as t
use Rattle.spec_syntax.specs.declared.word.CallName.{CallName}
use Rattle.spec_syntax.specs.declared.word.CallName.TheVariants as call
use Rattle.spec_syntax.specs.Tags.{tag_of}
use Rattle.spec_syntax.specs.Input.{Input, Outcome, Parser, and_then, ◌>>=◌, ◌>>◌, ◌<$>◌, pure, refuse, peek, tag, next, sees, after, eat, expect, required, tokens_left}
use Rattle.spec_syntax.specs.Words.{call_word}
use Rattle.spec_syntax.specs.Expr.{name}
use Rattle.spec_syntax.specs.Row as r
use Rattle.spec_syntax.specs.Select.{select}
use Rattle.spec_syntax.specs.Table as b
use Rattle.spec_syntax.specs.Stmt as y
use Rattle.spec_syntax.specs.Text.{sym_of, of_scan, grammar_statement_of}
use Rattle.law_syntax.proofs.Terminals as w
use Rattle.law_syntax.proofs.Terminals.{from, tagged}
use Rattle.law_syntax.proofs.Steps.{the_same, Follows, Part, moved, Seen, step, joins, built, may, expects, eats, name_follows}
use Rattle.law_syntax.proofs.ExprSound.{Behind, eaten_or}
use Rattle.law_syntax.proofs.RowSound.{After, IsCall, call_follows, insert_follows, update_follows, delete_follows, select_follows}
use Rattle.law_syntax.proofs.TableSound.{required_built}
use Rattle.law_syntax.proofs.LedgerSound.{create_table_follows, create_index_follows}
use Rattle.law_syntax.proofs.AlterSound.{alter_table_follows, drop_table_follows}

-- ---- CREATE

abbrev BehindCreate : Lexemes → Stmt → Type 0
BehindCreate = After (Word (codes "CREATE")) IsBody

create_by_tag : (k : Kind) (v : List ℕ) (a : Lexemes) (n : ℕ) (x : Stmt) (j : Input) (g_ : Tag) → tag_of k v ≡ g_ → y.create_by g_ (from ((k, v) ∷ a) n) ≡ Some (x, j) → Part BehindCreate ((k, v) ∷ a) j x
unfolding next
create_by_tag k v a n x j t.Table is h =
    let s0 = step b.create_table create_table_follows (λ z. pure (stmt.Create z)) a n x j h in
    built BehindCreate ((k, v) ∷ s0.tokens) s0.rest s0.left (ap (λ z. (k, v) ∷ z) s0.cut) (λ c first. g.create (s0.is c ((k, v) ∷ []) first (w.table_.gives k v is))) s0.then_
create_by_tag k v a n x j t.Index is h =
    let s0 = step b.create_index create_index_follows (λ z. pure (stmt.Index z)) a n x j h in
    built BehindCreate ((k, v) ∷ s0.tokens) s0.rest s0.left (ap (λ z. (k, v) ∷ z) s0.cut) (λ c first. g.index (s0.is c [] ((k, v) ∷ []) first left_out (w.index_.gives k v is))) s0.then_
create_by_tag k v a n x j t.Nonclustered is h =
    let s0 = step (expect t.Index) (expects w.index_) (λ _. stmt.Index <$> b.create_index) a n x j h in
    let s1 = step b.create_index create_index_follows (λ z. pure (stmt.Index z)) s0.rest s0.left x j s0.then_ in
    built BehindCreate ((k, v) ∷ (s0.tokens ++ s1.tokens)) s1.rest s1.left (ap (λ z. (k, v) ∷ z) (joins _ _ _ s0.cut s1.cut))
    (λ c first. g.index (s1.is c ((k, v) ∷ []) s0.tokens first (given (w.nonclustered_.gives k v is)) s0.is)) s1.then_
create_by_tag k v a n x j _ is h = absurd (cc)

create_follows : Follows y.create BehindCreate
unfolding y.create tag
create_follows [] n x j h = absurd (cc)
create_follows (s ∷ a) n x j h = create_by_tag s.0 s.1 a n x j (tag_of s.0 s.1) refl h

-- ---- transactions

abbrev MayTran : Lexemes → Bool → Type 0
MayTran a true = IsTran a
MayTran a false = a ≡ []

tran_seen : (a : Lexemes) (c : Bool) → Seen (Word (codes "TRANSACTION")) a c → MayTran a c
tran_seen a true is = g.transaction is
tran_seen a false is = is

tran_by : (a : Lexemes) (n : ℕ) (x : Bool) (j : Input) → Behind t.Tran a n (pure true) x j ⊎ (eat t.Transaction (from a n) ≡ Some (x, j)) → Part MayTran a j x
tran_by a n x j (inl k) =
    let f = k.0 in
    built MayTran ((f.kind_, f.word_) ∷ []) f.rest n f.cut (g.tran (w.tran_.gives f.kind_ f.word_ f.is)) k.1
tran_by a n x j (inr h) =
    let k = eats w.transaction_ a n x j h in
    record { tokens = k.tokens; rest = k.rest; left = k.left; cut = k.cut; met = k.met; is = tran_seen k.tokens x k.is }

tran_follows : Follows y.tran_may MayTran
unfolding y.tran_may after
tran_follows a n x j h = tran_by a n x j (eaten_or t.Tran a n (pure true) (eat t.Transaction) x j (sees t.Tran (from a n)) refl h)

may_tran : (a : Lexemes) (c : Bool) → MayTran a c → OptionalPart IsTran a
may_tran a true is = given is
may_tran a false is = moved (λ z (u : Unit {0}). OptionalPart IsTran z) (sym is) refl left_out

begin_by : (c : Bool) (tokens rest : Lexemes) (left : ℕ) (a : Lexemes) (x : Stmt) (j : Input) → a ≡ tokens ++ rest → MayTran tokens c → (if c then pure stmt.Begin else refuse) (from rest left) ≡ Some (x, j) → Part (After (Word (codes "BEGIN")) IsBody) a j x
begin_by true tokens rest left a x j cut is h = built (After (Word (codes "BEGIN")) IsBody) tokens rest left cut (λ c first. g.begin first is) h
begin_by false tokens rest left a x j cut is h = absurd (cc)

begin_follows : Follows y.begin (After (Word (codes "BEGIN")) IsBody)
unfolding y.begin
begin_follows a n x j h =
    let s0 = step y.tran_may tran_follows (λ c. if c then pure stmt.Begin else refuse) a n x j h in
    begin_by s0.value s0.tokens s0.rest s0.left a x j s0.cut s0.is s0.then_

commit_follows : Follows y.commit (After (Word (codes "COMMIT")) IsBody)
unfolding y.commit
commit_follows a n x j h =
    let s0 = step y.tran_may tran_follows (λ _. pure stmt.Commit) a n x j h in
    built (After (Word (codes "COMMIT")) IsBody) s0.tokens s0.rest s0.left s0.cut (λ c first. g.commit first (may_tran s0.tokens s0.value s0.is)) s0.then_

abbrev BehindSave : Lexemes → Stmt → Type 0
BehindSave = After (Word (codes "SAVE")) IsBody

image_by : (c : CallName) (tokens rest : Lexemes) (left : ℕ) (a : Lexemes) (x : Stmt) (j : Input) → a ≡ tokens ++ rest → IsCall tokens c → y.image_of c (from rest left) ≡ Some (x, j) → Part BehindSave a j x
image_by call.Image tokens rest left a x j cut is h = built BehindSave tokens rest left cut (λ c first. g.image first is) h
image_by _ tokens rest left a x j cut is h = absurd (cc)

save_by : (c : Bool) (tokens rest : Lexemes) (left : ℕ) (a : Lexemes) (x : Stmt) (j : Input) → a ≡ tokens ++ rest → MayTran tokens c → (if c then stmt.Save <$> name else (call_word >>= y.image_of)) (from rest left) ≡ Some (x, j)
    → Part BehindSave a j x
save_by true tokens rest left a x j cut is h =
    let s0 = step name name_follows (λ z. pure (stmt.Save z)) rest left x j h in
    built BehindSave (tokens ++ s0.tokens) s0.rest s0.left (joins tokens s0.tokens s0.rest cut s0.cut) (λ c first. g.save first is s0.is) s0.then_
save_by false tokens rest left a x j cut is h =
    let s0 = step call_word call_follows y.image_of rest left x j h in
    image_by s0.value s0.tokens s0.rest s0.left a x j (cut ∙ ap (λ z. z ++ rest) is ∙ s0.cut) s0.is s0.then_

save_follows : Follows y.save BehindSave
unfolding y.save
save_follows a n x j h =
    let s0 = step y.tran_may tran_follows (λ c. if c then stmt.Save <$> name else (call_word >>= y.image_of)) a n x j h in
    save_by s0.value s0.tokens s0.rest s0.left a x j s0.cut s0.is s0.then_

abbrev BehindRollback : Lexemes → Stmt → Type 0
BehindRollback = After (Word (codes "ROLLBACK")) IsBody

-- a savepoint, where one is named
abbrev MayPoint : Lexemes → Stmt → Type 0
MayPoint a x = (c e : Lexemes) → Word (codes "ROLLBACK") c → IsTran e → IsBody (c ++ (e ++ a)) x

no_point : (a : Lexemes) (n : ℕ) (x : Stmt) (j : Input) → ◌≡◌ {A = Outcome Stmt} (Some (stmt.Rollback None, from a n)) (Some (x, j)) → Part MayPoint a j x
no_point a n x j h = built MayPoint [] a n refl (λ c e first is. moved IsBody (ap (λ z. c ++ z) (sym (append-nil e))) refl (g.rollback first (given is))) h

point_named : (a : Lexemes) (n : ℕ) (x : Stmt) (j : Input) → and_then (name (from a n)) (λ v. pure (stmt.Rollback (Some v))) ≡ Some (x, j) → Part MayPoint a j x
point_named a n x j h =
    let s0 = step name name_follows (λ v. pure (stmt.Rollback (Some v))) a n x j h in
    built MayPoint s0.tokens s0.rest s0.left s0.cut (λ c e first is. g.rollback_to first is s0.is) s0.then_

point_by_tag : (a : Lexemes) (n : ℕ) (x : Stmt) (j : Input) (g_ : Tag) → y.savepoint_by g_ (from a n) ≡ Some (x, j) → Part MayPoint a j x
point_by_tag a n x j t.Word h = point_named a n x j h
point_by_tag a n x j t.Bracketed h = point_named a n x j h
point_by_tag a n x j _ h = no_point a n x j h

rollback_by : (c : Bool) (tokens rest : Lexemes) (left : ℕ) (a : Lexemes) (x : Stmt) (j : Input) → a ≡ tokens ++ rest → MayTran tokens c → (if c then (peek >>= y.savepoint_by) else pure (stmt.Rollback None)) (from rest left) ≡ Some (x, j)
    → Part BehindRollback a j x
rollback_by true tokens rest left a x j cut is h =
    let k = point_by_tag rest left x j (tag (from rest left)) h in
    record { tokens = tokens ++ k.tokens; rest = k.rest; left = k.left; cut = joins tokens k.tokens k.rest cut k.cut; met = k.met; is = λ c first. k.is c tokens first is }
rollback_by false tokens rest left a x j cut is h =
    built BehindRollback tokens rest left cut (λ c first. g.rollback first (moved (λ z (u : Unit {0}). OptionalPart IsTran z) (sym is) refl left_out)) h

rollback_follows : Follows y.rollback BehindRollback
unfolding y.rollback
rollback_follows a n x j h =
    let s0 = step y.tran_may tran_follows (λ c. if c then (peek >>= y.savepoint_by) else pure (stmt.Rollback None)) a n x j h in
    rollback_by s0.value s0.tokens s0.rest s0.left a x j s0.cut s0.is s0.then_

-- ---- the digest

abbrev BehindExec : Lexemes → Stmt → Type 0
BehindExec = After IsExec IsBody

digest_word : (c : CallName) (a : Lexemes) (x : Stmt) → IsCall a c → y.digest_of c ≡ Some x → Word (codes "sp_generate_database_ledger_digest") a × (stmt.Digest ≡ x)
digest_word call.Digest a x is h = (is, the_same h)
digest_word call.Count a x is h = absurd (cc)
digest_word call.Sum a x is h = absurd (cc)
digest_word call.Sys a x is h = absurd (cc)
digest_word call.Image a x is h = absurd (cc)

digest_bare : (c : CallName) (a : Lexemes) (x : Stmt) → IsCall a c → y.digest_of c ≡ Some x → BehindExec a x
digest_bare c a x is h = let k = digest_word c a x is h in λ z first. moved IsBody refl k.1 (g.digest first left_out k.0)

-- '.' and a word that is called
record IsDotted (a : Lexemes) (c : CallName) : Type 0 where
  dot : Lexemes
  called : Lexemes
  whole : a ≡ dot ++ called
  is_dot : Sign (codes ".") dot
  is_called : IsCall called c

dot_follows : Follows (expect t.Dot >> call_word) IsDotted
dot_follows a n x j h =
    let s0 = step (expect t.Dot) (expects w.dot_) (λ _. call_word) a n x j h in
    let k = call_follows s0.rest s0.left x j s0.then_ in
    record { tokens = s0.tokens ++ k.tokens; rest = k.rest; left = k.left; cut = joins _ _ _ s0.cut k.cut; met = k.met; is = record { dot = s0.tokens; called = k.tokens; whole = refl; is_dot = s0.is; is_called = k.is } }

sys_digest : (tokens more : Lexemes) (c : CallName) (x : Stmt) → Word (codes "sys") tokens → IsDotted more c → y.digest_of c ≡ Some x → BehindExec (tokens ++ more) x
sys_digest tokens more c x sys_ k h =
    let d = digest_word c k.called x k.is_called h in
    λ z first. moved IsBody (ap (λ u. z ++ u) (append_assoc tokens k.dot k.called ∙ ap (λ u. tokens ++ u) (sym k.whole))) d.1 (g.digest first (given (g.sys sys_ k.is_dot)) d.0)

call_by : (c : CallName) (tokens rest : Lexemes) (left : ℕ) (a : Lexemes) (x : Stmt) (j : Input) → a ≡ tokens ++ rest → IsCall tokens c → y.call_of c (from rest left) ≡ Some (x, j) → Part BehindExec a j x
call_by call.Sys tokens rest left a x j cut is h =
    let s0 = step (expect t.Dot >> call_word) dot_follows (λ word. required (y.digest_of word)) rest left x j h in
    required_built BehindExec a (tokens ++ s0.tokens) s0.rest s0.left (y.digest_of s0.value) x j (joins tokens s0.tokens s0.rest cut s0.cut)
    (λ z e. sys_digest tokens s0.tokens s0.value z is s0.is e) s0.then_
call_by call.Count tokens rest left a x j cut is h = absurd (cc)
call_by call.Sum tokens rest left a x j cut is h = absurd (cc)
call_by call.Image tokens rest left a x j cut is h = absurd (cc)
call_by call.Digest tokens rest left a x j cut is h =
    required_built BehindExec a tokens rest left (y.digest_of call.Digest) x j cut (λ z e. digest_bare call.Digest tokens z is e) h

execute_follows : Follows y.execute BehindExec
unfolding y.execute
execute_follows a n x j h =
    let s0 = step call_word call_follows y.call_of a n x j h in
    call_by s0.value s0.tokens s0.rest s0.left a x j s0.cut s0.is s0.then_

-- ---- a statement

ahead : {rule : Lexemes → Stmt → Type 0} (k : Kind) (v : List ℕ) (a : Lexemes) (x : Stmt) (j : Input) → ((b_ : Lexemes) → rule b_ x → IsBody ((k, v) ∷ b_) x) → Part rule a j x → Part IsBody ((k, v) ∷ a) j x
ahead k v a x j f m = record { tokens = (k, v) ∷ m.tokens; rest = m.rest; left = m.left; cut = ap (λ z. (k, v) ∷ z) m.cut; met = m.met; is = f m.tokens m.is }

changes : {rule : Lexemes → RowStmt → Type 0} (p : Parser RowStmt) → Follows p rule → (k : Kind) (v : List ℕ) (a : Lexemes) (n : ℕ) (x : Stmt) (j : Input)
    → ((b_ : Lexemes) (z : RowStmt) → rule b_ z → IsBody ((k, v) ∷ b_) (stmt.Change z)) → and_then (p (from a n)) (λ z. pure (stmt.Change z)) ≡ Some (x, j) → Part IsBody ((k, v) ∷ a) j x
changes p follows k v a n x j is h =
    let s0 = step p follows (λ z. pure (stmt.Change z)) a n x j h in
    built IsBody ((k, v) ∷ s0.tokens) s0.rest s0.left (ap (λ z. (k, v) ∷ z) s0.cut) (is s0.tokens s0.value s0.is) s0.then_

body_by_tag : (k : Kind) (v : List ℕ) (a : Lexemes) (n : ℕ) (x : Stmt) (j : Input) (g_ : Tag) → tag_of k v ≡ g_ → y.body_by g_ (from ((k, v) ∷ a) n) ≡ Some (x, j) → Part IsBody ((k, v) ∷ a) j x
unfolding next
body_by_tag k v a n x j t.Create is h = ahead k v a x j (λ b_ m. m ((k, v) ∷ []) (w.create_.gives k v is)) (create_follows a n x j h)
body_by_tag k v a n x j t.Alter is h =
    let s0 = step b.alter_table alter_table_follows (λ z. pure (stmt.Alter z)) a n x j h in
    built IsBody ((k, v) ∷ s0.tokens) s0.rest s0.left (ap (λ z. (k, v) ∷ z) s0.cut) (g.alter (s0.is ((k, v) ∷ []) (w.alter_.gives k v is))) s0.then_
body_by_tag k v a n x j t.Drop is h =
    let s0 = step b.drop_table drop_table_follows (λ z. pure (stmt.Drop z)) a n x j h in
    built IsBody ((k, v) ∷ s0.tokens) s0.rest s0.left (ap (λ z. (k, v) ∷ z) s0.cut) (g.drop (s0.is ((k, v) ∷ []) (w.drop_.gives k v is))) s0.then_
body_by_tag k v a n x j t.Insert is h = changes r.insert insert_follows k v a n x j (λ b_ z m. g.insert (m ((k, v) ∷ []) (w.insert_.gives k v is))) h
body_by_tag k v a n x j t.Update is h = changes r.update update_follows k v a n x j (λ b_ z m. g.update (m ((k, v) ∷ []) (w.update_.gives k v is))) h
body_by_tag k v a n x j t.Delete is h = changes r.delete delete_follows k v a n x j (λ b_ z m. g.delete (m ((k, v) ∷ []) (w.delete_.gives k v is))) h
body_by_tag k v a n x j t.Select is h =
    let s0 = step select select_follows (λ z. pure (stmt.Select z)) a n x j h in
    built IsBody ((k, v) ∷ s0.tokens) s0.rest s0.left (ap (λ z. (k, v) ∷ z) s0.cut) (g.select (s0.is ((k, v) ∷ []) (w.select_.gives k v is))) s0.then_
body_by_tag k v a n x j t.Begin is h = ahead k v a x j (λ b_ m. m ((k, v) ∷ []) (w.begin_.gives k v is)) (begin_follows a n x j h)
body_by_tag k v a n x j t.Commit is h = ahead k v a x j (λ b_ m. m ((k, v) ∷ []) (w.commit_.gives k v is)) (commit_follows a n x j h)
body_by_tag k v a n x j t.Save is h = ahead k v a x j (λ b_ m. m ((k, v) ∷ []) (w.save_.gives k v is)) (save_follows a n x j h)
body_by_tag k v a n x j t.Rollback is h = ahead k v a x j (λ b_ m. m ((k, v) ∷ []) (w.rollback_.gives k v is)) (rollback_follows a n x j h)
body_by_tag k v a n x j t.Exec is h = ahead k v a x j (λ b_ m. m ((k, v) ∷ []) (g.exec (w.exec_.gives k v is))) (execute_follows a n x j h)
body_by_tag k v a n x j t.Execute is h = ahead k v a x j (λ b_ m. m ((k, v) ∷ []) (g.execute (w.execute_.gives k v is))) (execute_follows a n x j h)
body_by_tag k v a n x j _ is h = absurd (cc)

body_follows : Follows y.body IsBody
unfolding y.body tag
body_follows [] n x j h = absurd (cc)
body_follows (s ∷ a) n x j h = body_by_tag s.0 s.1 a n x j (tag_of s.0 s.1) refl h

nil_mapped : (a : Lexemes) → length (map tagged a) ≡ 0 → a ≡ []
nil_mapped [] h = refl
nil_mapped (s ∷ a) h = absurd (omega (arith, h))

end_by : (a : Lexemes) (n : ℕ) (u x : Stmt) (j : Input) (c : Bool) → (tokens_left (from a n) == 0) ≡ c → cond {A = Outcome Stmt} c (Some (u, from a n)) None ≡ Some (x, j) → (a ≡ []) × (u ≡ x)
unfolding tokens_left
end_by a n u x j false is h = absurd (cc)
end_by a n u x j true is h = (nil_mapped a (grind (arith, nat_tests, is)), ap (λ p. p.0) (the_same h))

statement_sound : (a : Lexemes) (n : ℕ) (x : Stmt) (j : Input) → y.statement (from a n) ≡ Some (x, j) → IsStmt a x
unfolding y.statement
statement_sound a n x j h =
    let last : Stmt → Bool → Parser Stmt = λ u c i. if tokens_left i == 0 then Some (u, i) else None in
    let s0 = step y.body body_follows (λ u. eat t.Semi >>= last u) a n x j h in
    let s1 = step (eat t.Semi) (eats w.semi_) (last s0.value) s0.rest s0.left x j s0.then_ in
    let e = end_by s1.rest s1.left s0.value x j (tokens_left (from s1.rest s1.left) == 0) refl s1.then_ in
    let whole : a ≡ s0.tokens ++ s1.tokens = s0.cut ∙ ap (λ z. s0.tokens ++ z) (s1.cut ∙ ap (λ z. s1.tokens ++ z) e.0 ∙ append-nil s1.tokens) in
    moved IsStmt (sym whole) e.1 (g.statement s0.is (may s1.value s1.is))

-- ---- a text

pub map_written : (text_ : List ℕ) (ts : List Token) → map tagged (map (written text_) ts) ≡ map (sym_of text_) ts
unfolding sym_of
map_written text_ [] = refl
map_written text_ (s ∷ ts) = ap (λ z. sym_of text_ s ∷ z) (map_written text_ ts)

given_by : (o : Outcome Stmt) (x : Stmt) → option_map (λ p. p.0) o ≡ Some x → (j : Input) × (o ≡ Some (x, j))
given_by None x h = absurd (cc)
given_by (Some p) x h = (p.1, ap (λ z. Some (z, p.1)) (the_same h))

scanned : (text_ : List ℕ) (x : Stmt) (s : Scan) → tokens_of text_ ≡ s → of_scan text_ s ≡ Some x → IsStatement text_ x
scanned text_ x (Err at) cut h = absurd (cc)
scanned text_ x (Ok ts) cut h =
    let whole : y.statement_of_tokens (map tagged (map (written text_) ts)) ≡ Some x = ap y.statement_of_tokens (map_written text_ ts) ∙ h in
    let k = given_by (y.statement (from (map (written text_) ts) 0)) x whole in
    record { tokens = ts; cut = cut; is = statement_sound (map (written text_) ts) 0 x k.0 k.1 }

-- what the parser reads of a text is the statement that the text is
pub text_sound : (text_ : List ℕ) (x : Stmt) → grammar_statement_of text_ ≡ Some x → IsStatement text_ x
unfolding grammar_statement_of
text_sound text_ x h = scanned text_ x (tokens_of text_) refl h
