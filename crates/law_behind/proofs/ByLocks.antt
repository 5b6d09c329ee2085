-- In a history of one statement after another in which locks decide, E20 comes exactly where a lock is in the way.
use Rattle.std.proofs.Common.{◌≡◌, ◌≢◌, ◌⊎◌, ℕ, zero, suc, ◌+◌, Bool, true, false, List, [], ◌∷◌, ◌++◌, Option, Some, None, refl, sym, ap, ◌∙◌, subst, ⊎_elim, inl, inr, arith, append-nil, add-zero}
use Rattle.std.specs.Prelude.{◌==◌, if◌then◌else◌}
use Rattle.std.proofs.lemmas.Bool.{eq-eqb, ne_eqb, cases_eq}
use Rattle.sql_value.specs.declared.refusal.Refusal.TheVariants.{Locked, SyntaxError, NoTransaction, NothingCommitted, NoMemory}
use Rattle.sql_types.specs.declared.reply.Reply.{Reply}
use Rattle.sql_types.specs.declared.reply.Reply.TheVariants as reply
use Rattle.sql_types.specs.declared.statement.Stmt.{Stmt}
use Rattle.sql_types.specs.declared.statement.Stmt.TheVariants as stmt
use Rattle.sql_types.specs.declared.journal.JournalItem.{JournalItem}
use Rattle.sql_types.specs.declared.journal.JournalItem.TheVariants.{Close}
use Rattle.spec_model.specs.Catalog.{Defs}
use Rattle.spec_model.specs.InTheWay.{first_conflict}
use Rattle.spec_model.specs.Journals.{tx_count}
use Rattle.spec_model.specs.Locks.{cell_requests}
use Rattle.spec_history.specs.Lists.{Text}
use Rattle.spec_history.specs.Meaning.{Meaning}
use Rattle.spec_history.specs.Real.{requests_catalog, requests_cell}
use Rattle.spec_history.specs.Serial.{after_tx}
use Rattle.spec_history.specs.Transcripts.{EndLine, committed_at, ended_after, Entry, statement, end_of_session, ended_id, Kind, unread, begin, commit, roll_back, to_savepoint, create, rows, issue, keep, kind_of}
use Rattle.spec_history.specs.Facts.{Fact, began, said, failed, met, placed, passed, over, digest, image, no_digest, end_facts, maybe_end, other_facts, answer_facts, own_facts, facts_inside, facts_outside, entry_facts, begun_by, open_after}
use Rattle.spec_history.specs.InPlace.{is_open, EndsInside, HasItsForm, ReadOnlyEnd, ControlledBy, InPlace}
use Rattle.spec_history.specs.Transactions.{Transaction, TransactionLog, new, open_by, noted, read_facts, blank}
use Rattle.spec_history.specs.Acts.{SessionAct, takes, assigns_id, says, fails, meets, commits, ends, releases_locks, issues, keeps, lacks, answers, Act, by, closes, shown}
use Rattle.spec_history.specs.Sessions.{SessionTransaction, SessionState, viewed, acted}
use Rattle.spec_history.specs.Worlds.{World, tables, item_of, items_by, put, step, run}
use Rattle.spec_history.specs.Guards.{IsEnabled, Good, images_of}
use Rattle.spec_history.specs.Histories.{OneAtATime, IsIdle, rows_of}
use Rattle.spec_history.specs.StepOrder.{opened_by}
use Rattle.spec_history.specs.ExactRefusals.{HeldStatement, held_by, held_beside, catalog_requests, holder_named, first_some, catalog_holds, in_the_way_there, in_the_way, IsExact, id_around, commits_in, IsExactRow, book_after, AreExact}
use Rattle.spec_history.specs.ByLocks.{IsByLocks, LocksDecide}
use Rattle.spec_history.proofs.TransactionLogs.{book_of, book_act}
use Rattle.spec_history.proofs.Grows.{grows}
use Rattle.law_history.proofs.Rows.{OpensAre, put_here, put_else, opens_then, opens_answer}
use Rattle.spec_history.proofs.Stable.{after_all}
use Rattle.spec_history.proofs.Trace.{count_append}
use Rattle.law_behind.specs.Past.{Past, behind}

-- ---- a list of facts, one after another

-- the number of commits, and the open transaction
abbrev then_count : ℕ → Fact → ℕ
then_count c (placed place) = suc c
then_count c _ = c

abbrev count_after : ℕ → List Fact → ℕ
count_after c [] = c
count_after c (g ∷ gs) = count_after (then_count c g) gs

abbrev open_all : Option Transaction → List Fact → Option Transaction
open_all o [] = o
open_all o (g ∷ gs) = open_all (open_by o g) gs

count_all : (c : ℕ) (gs fs : List Fact) → count_after c (gs ++ fs) ≡ count_after (count_after c gs) fs
count_all c [] fs = refl
count_all c (g ∷ gs) fs = count_all (then_count c g) gs fs

open_more : (o : Option Transaction) (gs fs : List Fact) → open_all o (gs ++ fs) ≡ open_all (open_all o gs) fs
open_more o [] fs = refl
open_more o (g ∷ gs) fs = open_more (open_by o g) gs fs

-- so many commits are shown
counts : (c : ℕ) (gs : List Fact) → c + commits_in gs ≡ count_after c gs
counts c [] = add-zero c
counts c (placed place ∷ gs) = let e = counts (suc c) gs in omega (arith, e)
counts c (began id explicit ∷ gs) = counts c gs
counts c (said line ∷ gs) = counts c gs
counts c (failed text ∷ gs) = counts c gs
counts c (met text holder ∷ gs) = counts c gs
counts c (passed n back ∷ gs) = counts c gs
counts c (over ∷ gs) = counts c gs
counts c (digest block hash ∷ gs) = counts c gs
counts c (image items ∷ gs) = counts c gs
counts c (no_digest ∷ gs) = counts c gs

open_read : (b : TransactionLog) (gs : List Fact) → (read_facts b gs).open_one ≡ open_all b.open_one gs
open_read b [] = refl
open_read b (g ∷ gs) = open_read (noted b g) gs

-- ---- what transaction an entry finds open

-- if one is open, BEGIN opened it and the transcript shows it
abbrev Tie : Option ℕ → Option Transaction → Type 0
Tie None None = Unit {0}
Tie (Some i) None = Unit {0}
Tie None (Some u) = ⊥
Tie (Some i) (Some u) = (u.id ≡ i) × (u.explicit ≡ true)

tie_none : (o : Option ℕ) → Tie o None
tie_none None = tt
tie_none (Some i) = tt

ended_none : (u : Option Transaction) (back : Bool) (end : EndLine) → open_all u (end_facts back end) ≡ None
ended_none u back (committed_at id place) = refl
ended_none u back (ended_after id n) = refl

tie_ended : (o : Option ℕ) (u : Option Transaction) (back : Bool) (end : EndLine) → Tie o (open_all u (end_facts back end))
tie_ended o u back end = subst (Tie o) (sym (ended_none u back end)) (tie_none o)

module _ (q : Meaning) where
  tie_answered : (i : ℕ) (u : Option Transaction) (text : Text) (r : Reply) → Tie (Some i) u → Tie (Some i) (open_all u (answer_facts q text r))
  tie_answered i None text (reply.Refused (Locked holder)) t = tt
  tie_answered i None text (reply.Refused NoMemory) t = tt
  tie_answered i None text r t = tt
  tie_answered i (Some u) text (reply.Refused (Locked holder)) t = t
  tie_answered i (Some u) text (reply.Refused NoMemory) t = t
  tie_answered i (Some u) text r t = t

  tie_maybe : (i : ℕ) (u : Option Transaction) (back : Bool) (text : Text) (r : Reply) (end : Option EndLine) → Tie (Some i) u → Tie (open_after (Some i) (statement text r end)) (open_all u (maybe_end back end))
  tie_maybe i u back text r None t = t
  tie_maybe i u back text r (Some end) t = tie_ended None u back end

  tie_inside : (kind : Kind) (i : ℕ) (u : Option Transaction) (text : Text) (r : Reply) (end : Option EndLine) → Tie (Some i) u → EndsInside kind i r end → Tie (open_after (Some i) (statement text r end)) (open_all u (facts_inside q kind text r end))
  tie_inside commit i u text r end t e = tie_maybe i u false text r end t
  tie_inside roll_back i u text r end t e = tie_maybe i u true text r end t
  tie_inside kind i u text r end t e = subst (λ (z : Option EndLine). Tie (open_after (Some i) (statement text r z)) (open_all u (answer_facts q text r))) (sym e) (tie_answered i u text r t)

  tie_own : (text : Text) (r : Reply) (end : Option EndLine) → Tie (begun_by r) (open_all None (own_facts q text r end))
  tie_own text r None = tie_none (begun_by r)
  tie_own text r (Some end) = subst (Tie (begun_by r)) (sym (open_more (Some (new (ended_id end) false)) (answer_facts q text r) (end_facts false end))) (tie_ended (begun_by r) (open_all (Some (new (ended_id end) false)) (answer_facts q text r)) false end)

  tie_other : (r : Reply) → Tie (begun_by r) (open_all None (other_facts r))
  tie_other (reply.Begun id) = (refl, refl)
  tie_other (reply.Refused NothingCommitted) = tt
  tie_other r = tt

  tie_outside : (kind : Kind) (text : Text) (r : Reply) (end : Option EndLine) → Tie (begun_by r) (open_all None (facts_outside q kind text r end))
  tie_outside create text r end = tie_own text r end
  tie_outside rows text r end = tie_own text r end
  tie_outside kind text r end = tie_other r

  tie_entry : (o : Option ℕ) (u : Option Transaction) (n : ℕ) (e : Entry) → Tie o u → InPlace q o n e → Tie (open_after o e) (open_all u (entry_facts q o e))
  tie_entry None u n (end_of_session end) t p = tie_ended None u true end
  tie_entry (Some i) u n (end_of_session end) t p = tie_ended None u true end
  tie_entry None None n (statement text r end) t p = tie_outside (kind_of (q.reads text)) text r end
  tie_entry None (Some u) n (statement text r end) t p = absurd t
  tie_entry (Some i) u n (statement text r end) t p = tie_inside (kind_of (q.reads text)) i u text r end t p.ends

-- ---- what was decided

module _ (q : Meaning) (J : List JournalItem) (held : List HeldStatement) where
  abbrev way : ℕ → ℕ → Bool → Text → Option ℕ
  way c id explicit text = in_the_way q (q.defs (after_tx q q.first c J)) held id explicit text

  abbrev IsFree : ℕ → Text → Option Transaction → Type 0
  IsFree c text None = ⊥
  IsFree c text (Some u) = way c u.id u.explicit text ≡ None

  abbrev IsMet : ℕ → Text → ℕ → Option Transaction → Type 0
  IsMet c text holder None = ⊥
  IsMet c text holder (Some u) = way c u.id u.explicit text ≡ Some holder

  -- after so many commits, by the transaction that is open
  abbrev DecidedFact : ℕ → Option Transaction → Fact → Type 0
  DecidedFact c o (said line) = IsFree c line.0 o
  DecidedFact c o (met text holder) = IsMet c text holder o
  DecidedFact c o _ = Unit {0}

  abbrev Decided : ℕ → Option Transaction → List Fact → Type 0
  Decided c o [] = Unit {0}
  Decided c o (g ∷ gs) = DecidedFact c o g × Decided (then_count c g) (open_by o g) gs

  decided_more : (c : ℕ) (o : Option Transaction) (gs fs : List Fact) → Decided c o gs → Decided (count_after c gs) (open_all o gs) fs → Decided c o (gs ++ fs)
  decided_more c o [] fs h k = k
  decided_more c o (g ∷ gs) fs h k = (h.0, decided_more (then_count c g) (open_by o g) gs fs h.1 k)

  decided_front : (c : ℕ) (o : Option Transaction) (gs fs : List Fact) → Decided c o (gs ++ fs) → Decided c o gs
  decided_front c o [] fs h = tt
  decided_front c o (g ∷ gs) fs h = (h.0, decided_front (then_count c g) (open_by o g) gs fs h.1)

  -- ---- a reply is exact

  some_is : (h n : ℕ) → Some h ≡ Some n → h ≡ n
  some_is h n e = cc

  exact_met : (o : Option ℕ) (holder : ℕ) → o ≡ Some holder → IsExact o (reply.Refused (Locked holder))
  exact_met o holder e = record {
    only = λ h is. e ∙ (let same : holder ≡ h = cc in ap Some same);
    always = λ h is. inl (ap (λ (n : ℕ). reply.Refused (Locked n)) (some_is holder h (sym e ∙ is)));
  }

  exact_no_memory : (o : Option ℕ) → IsExact o (reply.Refused NoMemory)
  exact_no_memory o = record { only = λ h is. absurd cc; always = λ h is. inr refl }

  exact_none : (o : Option ℕ) (r : Reply) → o ≡ None → ((h : ℕ) → r ≢ reply.Refused (Locked h)) → IsExact o r
  exact_none o r e ne = record { only = λ h is. absurd (ne h is); always = λ h is. absurd (let f : None ≡ Some h = sym e ∙ is in cc) }

  -- the open transaction is this one, if one is open
  abbrev TieTo : Option Transaction → ℕ → Bool → Type 0
  TieTo None id explicit = Unit {0}
  TieTo (Some u) id explicit = (u.id ≡ id) × (u.explicit ≡ explicit)

  free_to : (c : ℕ) (u : Option Transaction) (id : ℕ) (explicit : Bool) (text : Text) → TieTo u id explicit → IsFree c text u → way c id explicit text ≡ None
  free_to c None id explicit text t f = absurd f
  free_to c (Some u) id explicit text t f = subst (λ (z : ℕ × Bool). way c z.0 z.1 text ≡ None) (λ k. (t.0 k, t.1 k)) f

  met_to : (c : ℕ) (u : Option Transaction) (id : ℕ) (explicit : Bool) (text : Text) (holder : ℕ) → TieTo u id explicit → IsMet c text holder u → way c id explicit text ≡ Some holder
  met_to c None id explicit text holder t f = absurd f
  met_to c (Some u) id explicit text holder t f = subst (λ (z : ℕ × Bool). way c z.0 z.1 text ≡ Some holder) (λ k. (t.0 k, t.1 k)) f

  by_answer : (c : ℕ) (u : Option Transaction) (id : ℕ) (explicit : Bool) (text : Text) (r : Reply) → TieTo u id explicit → Decided c u (answer_facts q text r) → IsExact (way c id explicit text) r
  by_answer c u id explicit text (reply.Refused (Locked holder)) t d = exact_met (way c id explicit text) holder (met_to c u id explicit text holder t d.0)
  by_answer c u id explicit text (reply.Refused NoMemory) t d = exact_no_memory (way c id explicit text)
  by_answer c u id explicit text r t d = exact_none (way c id explicit text) r (free_to c u id explicit text t d.0) (λ h e. cc)

  -- ---- statements that want nothing

  abbrev way_of : Defs → ℕ → Bool → Option Stmt → Option ℕ
  way_of D id explicit o = first_some
      (holder_named (first_conflict (catalog_holds q held) id (catalog_requests (requests_catalog explicit o))))
      (in_the_way_there q D id held (requests_cell D o))

  abbrev IsOther : Kind → Type 0
  IsOther create = ⊥
  IsOther rows = ⊥
  IsOther kind = Unit {0}

  none_of : (D : Defs) (id : ℕ) (explicit : Bool) (o : Option Stmt) → IsOther (kind_of o) → way_of D id explicit o ≡ None
  unfolding first_conflict cell_requests
  none_of D id explicit None h = refl
  none_of D id explicit (Some (stmt.Create x)) h = absurd h
  none_of D id explicit (Some (stmt.Index x)) h = absurd h
  none_of D id explicit (Some (stmt.Alter x)) h = absurd h
  none_of D id explicit (Some (stmt.Drop name)) h = absurd h
  none_of D id explicit (Some (stmt.Change x)) h = absurd h
  none_of D id explicit (Some (stmt.Select x)) h = absurd h
  none_of D id true (Some stmt.Begin) h = refl
  none_of D id false (Some stmt.Begin) h = refl
  none_of D id true (Some stmt.Commit) h = refl
  none_of D id false (Some stmt.Commit) h = refl
  none_of D id true (Some (stmt.Save name)) h = refl
  none_of D id false (Some (stmt.Save name)) h = refl
  none_of D id true (Some (stmt.Rollback None)) h = refl
  none_of D id false (Some (stmt.Rollback None)) h = refl
  none_of D id true (Some (stmt.Rollback (Some name))) h = refl
  none_of D id false (Some (stmt.Rollback (Some name))) h = refl
  none_of D id true (Some stmt.Digest) h = refl
  none_of D id false (Some stmt.Digest) h = refl
  none_of D id true (Some stmt.Image) h = refl
  none_of D id false (Some stmt.Image) h = refl

  none_requested : (c id : ℕ) (explicit : Bool) (text : Text) (kind : Kind) → kind_of (q.reads text) ≡ kind → IsOther kind → way c id explicit text ≡ None
  none_requested c id explicit text kind e h = none_of (q.defs (after_tx q q.first c J)) id explicit (q.reads text) (subst IsOther (sym e) h)

  -- ---- an entry

  -- it is one of two other replies
  not_locked : (r a b : Reply) → ((h : ℕ) → a ≢ reply.Refused (Locked h)) → ((h : ℕ) → b ≢ reply.Refused (Locked h)) → (r ≡ a) ⊎ (r ≡ b) → (h : ℕ) → r ≢ reply.Refused (Locked h)
  not_locked r a b na nb two h e = ⊎_elim (λ (f : r ≡ a). na h (sym f ∙ e)) (λ (f : r ≡ b). nb h (sym f ∙ e)) two

  exact_end : (c i : ℕ) (text : Text) (r : Reply) (kind : Kind) → kind_of (q.reads text) ≡ kind → IsOther kind → (r ≡ reply.Refused NoMemory) ⊎ (r ≡ reply.NoOutput) → IsExact (way c i true text) r
  exact_end c i text r kind e other two = exact_none (way c i true text) r (none_requested c i true text kind e other) (not_locked r (reply.Refused NoMemory) reply.NoOutput (λ h f. cc) (λ h f. cc) two)

  exact_inside : (c i : ℕ) (u : Option Transaction) (text : Text) (r : Reply) (end : Option EndLine) (kind : Kind) → kind_of (q.reads text) ≡ kind → TieTo u i true → EndsInside kind i r end → ReadOnlyEnd kind r end → Decided c u (facts_inside q kind text r end)
      → IsExact (way c i true text) r
  exact_inside c i u text r None commit e t may quiet d = exact_end c i text r commit e tt (inl may)
  exact_inside c i u text r (Some end) commit e t may quiet d = exact_end c i text r commit e tt (inr quiet)
  exact_inside c i u text r None roll_back e t may quiet d = exact_end c i text r roll_back e tt (inl may)
  exact_inside c i u text r (Some end) roll_back e t may quiet d = exact_end c i text r roll_back e tt (inr quiet)
  exact_inside c i u text r end kind e t may quiet d = by_answer c u i true text r t d

  exact_own : (c : ℕ) (u : Option Transaction) (text : Text) (r : Reply) (end : Option EndLine) → (end ≡ None → r ≡ reply.Refused NoMemory) → Decided c u (own_facts q text r end) → IsExact (way c (id_around None end) false text) r
  exact_own c u text r None no_memory_here d = subst (IsExact (way c 0 false text)) (sym (no_memory_here refl)) (exact_no_memory (way c 0 false text))
  exact_own c u text r (Some end) no_memory_here d = by_answer c (Some (new (ended_id end) false)) (ended_id end) false text r (refl, refl) (decided_front c (Some (new (ended_id end) false)) (answer_facts q text r) (end_facts false end) d.1)

  exact_other : (c : ℕ) (text : Text) (r : Reply) (end : Option EndLine) (kind : Kind) → kind_of (q.reads text) ≡ kind → IsOther kind → ((h : ℕ) → r ≢ reply.Refused (Locked h)) → IsExact (way c (id_around None end) false text) r
  exact_other c text r end kind e other ne = exact_none (way c (id_around None end) false text) r (none_requested c (id_around None end) false text kind e other) ne

  has_form : (end : Option EndLine) (r : Reply) (kind : Kind) → ((h : ℕ) → HasItsForm kind (reply.Refused (Locked h)) end → ⊥) → HasItsForm kind r end → (h : ℕ) → r ≢ reply.Refused (Locked h)
  has_form end r kind none form h e = none h (subst (λ (x : Reply). HasItsForm kind x end) e form)

  exact_outside : (c n : ℕ) (u : Option Transaction) (text : Text) (r : Reply) (end : Option EndLine) (kind : Kind) → kind_of (q.reads text) ≡ kind → ControlledBy None n kind r → HasItsForm kind r end → Decided c u (facts_outside q kind text r end)
      → IsExact (way c (id_around None end) false text) r
  exact_outside c n u text r None create e k form d = exact_own c u text r None (λ z. form) d
  exact_outside c n u text r (Some end) create e k form d = exact_own c u text r (Some end) (λ z. absurd cc) d
  exact_outside c n u text r None rows e k form d = exact_own c u text r None (λ z. form) d
  exact_outside c n u text r (Some end) rows e k form d = exact_own c u text r (Some end) (λ z. absurd cc) d
  exact_outside c n u text r end unread e k form d = exact_other c text r end unread e tt (not_locked r (reply.Refused SyntaxError) (reply.Refused NoMemory) (λ h f. cc) (λ h f. cc) (k.unread_outside.1 refl))
  exact_outside c n u text r end begin e k form d = exact_other c text r end begin e tt (λ h f. ⊎_elim (λ (b : (id : ℕ) × (r ≡ reply.Begun id)). absurd (let z : reply.Begun b.0 ≡ reply.Refused (Locked h) = sym b.1 ∙ f in cc)) (λ (b : r ≡ reply.Refused NoMemory). absurd (let z : reply.Refused NoMemory ≡ reply.Refused (Locked h) = sym b ∙ f in cc)) k.begins)
  exact_outside c n u text r end commit e k form d = exact_other c text r end commit e tt (not_locked r (reply.Refused NoTransaction) (reply.Refused NoMemory) (λ h f. cc) (λ h f. cc) (k.none_open.1 refl))
  exact_outside c n u text r end roll_back e k form d = exact_other c text r end roll_back e tt (not_locked r (reply.Refused NoTransaction) (reply.Refused NoMemory) (λ h f. cc) (λ h f. cc) (k.none_open.1 refl))
  exact_outside c n u text r end to_savepoint e k form d = exact_other c text r end to_savepoint e tt (not_locked r (reply.Refused NoTransaction) (reply.Refused NoMemory) (λ h f. cc) (λ h f. cc) (k.none_open.1 refl))
  exact_outside c n u text r end issue e k form d = exact_other c text r end issue e tt (has_form end r issue (λ h f. cc) form)
  exact_outside c n u text r end keep e k form d = exact_other c text r end keep e tt (has_form end r keep (λ h f. cc) form)

  tie_to : (i : ℕ) (u : Option Transaction) → Tie (Some i) u → TieTo u i true
  tie_to i None t = tt
  tie_to i (Some u) t = t

  exact_entry : (c n : ℕ) (o : Option ℕ) (u : Option Transaction) (text : Text) (r : Reply) (end : Option EndLine) → Tie o u → InPlace q o n (statement text r end) → Decided c u (entry_facts q o (statement text r end)) → IsExact (way c (id_around o end) (is_open o) text) r
  exact_entry c n None u text r end t p d = exact_outside c n u text r end (kind_of (q.reads text)) refl p.controlled p.else_no_memory d
  exact_entry c n (Some i) u text r end t p d = exact_inside c i u text r end (kind_of (q.reads text)) refl (tie_to i u t) p.ends p.else_no_memory d

-- ---- what others hold

held_same : (s k : ℕ) (f g : ℕ → Option Transaction) → ((t : ℕ) → t ≢ s → f t ≡ g t) → held_beside s k f ≡ held_beside s k g
held_same s zero f g same = refl
held_same s (suc k) f g same = ap (λ (l : List HeldStatement). l ++ (if k == s then [] else held_by (f k))) (held_same s k f g same)
    ∙ ap (λ (l : List HeldStatement). held_beside s k g ++ l) (⊎_elim
    (λ (e : k ≡ s). let is : (k == s) ≡ true = eq-eqb k s e in rw is refl)
    (λ (ne : k ≢ s). ap (λ (l : List HeldStatement). if k == s then [] else l) (ap held_by (same k ne)))
    (cases_eq k s))

-- ---- one act

module _ (q : Meaning) (db : Text) where
  counts_act : (w : World) (s : ℕ) (a : SessionAct) (n : ℕ) → IsEnabled q db w (by s a) → count_after n (shown a) ≡ n + tx_count (items_by (w.at s) a)
  counts_act w s (commits time place) n h = let one : tx_count (item_of (w.at s) (w.at s).transaction time) ≡ 1 = ap (λ (o : Option SessionTransaction). tx_count (item_of (w.at s) o time)) h.stands.has in omega (arith, one)
  counts_act w s a n h = sym (add-zero n)

  pending_act : (x : SessionState) (a : SessionAct) (gs : List Fact) → ((e : Entry) → a ≢ answers e) → x.so_far.pending ≡ gs → (acted x a).so_far.pending ≡ gs ++ shown a
  pending_act x (answers e) gs ne h = absurd (ne e refl)
  pending_act x (takes text) gs ne h = h ∙ sym (append-nil gs)
  pending_act x a gs ne h = ap (λ (l : List Fact). l ++ shown a) h

  entries_act : (x : SessionState) (a : SessionAct) → ((e : Entry) → a ≢ answers e) → (acted x a).so_far.entries ≡ x.so_far.entries
  entries_act x (answers e) ne = absurd (ne e refl)
  entries_act x (takes text) ne = refl
  entries_act x a ne = refl

  module _ (k : ℕ) (J : List JournalItem) where
    decided_act : (w : World) (s : ℕ) (a : SessionAct) (held : List HeldStatement) → held ≡ held_beside s k (λ t. viewed (w.at t).transaction) → after_tx q q.first (tx_count w.items) J ≡ tables q w → IsEnabled q db w (by s a) → IsByLocks q k w s a
        → Decided q J held (tx_count w.items) (viewed (w.at s).transaction) (shown a)
    decided_act w s (says line) held same now h by_locks = (
      subst (λ (o : Option SessionTransaction). IsFree q J held (tx_count w.items) line.0 (viewed o)) (sym h.1.has)
          (subst (λ (z : List HeldStatement × Defs). in_the_way q z.1 z.0 h.0.id h.0.explicit line.0 ≡ None) (λ i. (sym same i, q.defs (sym now i))) (by_locks h.0 h.1.has)),
      tt,
    )
    decided_act w s (meets text holder) held same now h by_locks = (
      subst (λ (o : Option SessionTransaction). IsMet q J held (tx_count w.items) text holder (viewed o)) (sym h.stands.has)
          (subst (λ (z : List HeldStatement × Defs). in_the_way q z.1 z.0 h.mine.id h.mine.explicit text ≡ Some holder) (λ i. (sym same i, q.defs (sym now i))) (by_locks h.mine h.stands.has)),
      tt,
    )
    decided_act w s (assigns_id id explicit) held same now h by_locks = (tt, tt)
    decided_act w s (fails text) held same now h by_locks = (tt, tt)
    decided_act w s (commits time place) held same now h by_locks = (tt, tt)
    decided_act w s (ends n back) held same now h by_locks = (tt, tt)
    decided_act w s releases_locks held same now h by_locks = (tt, tt)
    decided_act w s (issues d mark) held same now h by_locks = (tt, tt)
    decided_act w s (keeps items mark) held same now h by_locks = (tt, tt)
    decided_act w s lacks held same now h by_locks = (tt, tt)
    decided_act w s a held same now h by_locks = tt

    -- ---- the walk

    -- of the row that session p is to write, these facts are to be shown, after c commits; before it, these transactions were open
    record IsWriting (w : World) (c : ℕ) (opens : ℕ → Option ℕ) (logs_by_session : ℕ → TransactionLog) (gs : List Fact) (p : ℕ) : Type 0 where
      count : count_after c gs ≡ tx_count w.items
      mine : open_all (logs_by_session p).open_one gs ≡ viewed (w.at p).transaction
      others : (t : ℕ) → t ≢ p → (logs_by_session t).open_one ≡ viewed (w.at t).transaction
      ties : (t : ℕ) → Tie (opens t) (logs_by_session t).open_one
      decided : Decided q J (held_beside p k (λ t. (logs_by_session t).open_one)) c (logs_by_session p).open_one gs
      pending : (w.at p).so_far.pending ≡ gs
      nobody : (t : ℕ) → t ≢ p → (w.at t).so_far.pending ≡ []
      opens_are : OpensAre w opens

    -- where nothing is to be shown, any session may write the next row
    turned : (w : World) (c : ℕ) (opens : ℕ → Option ℕ) (logs_by_session : ℕ → TransactionLog) (p s : ℕ) → IsWriting w c opens logs_by_session [] p → IsWriting w c opens logs_by_session [] s
    turned w c opens logs_by_session p s st = record {
      count = st.count;
      mine = each s;
      others = λ t ne. each t;
      ties = st.ties;
      decided = tt;
      pending = quiet s;
      nobody = λ t ne. quiet t;
      opens_are = st.opens_are;
    }
      where
        each : (t : ℕ) → (logs_by_session t).open_one ≡ viewed (w.at t).transaction
        each t = ⊎_elim (λ (e : t ≡ p). subst (λ (u : ℕ). (logs_by_session u).open_one ≡ viewed (w.at u).transaction) (sym e) st.mine) (λ (ne : t ≢ p). st.others t ne) (cases_eq t p)

        quiet : (t : ℕ) → (w.at t).so_far.pending ≡ []
        quiet t = ⊎_elim (λ (e : t ≡ p). subst (λ (u : ℕ). (w.at u).so_far.pending ≡ []) (sym e) st.pending) (λ (ne : t ≢ p). st.nobody t ne) (cases_eq t p)

    -- who acts is the one to write it
    acting : (w : World) (c : ℕ) (opens : ℕ → Option ℕ) (logs_by_session : ℕ → TransactionLog) (gs : List Fact) (p s : ℕ) → ((t : ℕ) → t ≢ s → IsIdle (w.at t)) → IsWriting w c opens logs_by_session gs p → IsWriting w c opens logs_by_session gs s
    acting w c opens logs_by_session gs p s alone st = ⊎_elim
        (λ (e : p ≡ s). subst (IsWriting w c opens logs_by_session gs) e st)
        (λ (ne : p ≢ s). let nil : gs ≡ [] = sym st.pending ∙ (alone p ne).shown in
        subst (λ (l : List Fact). IsWriting w c opens logs_by_session l s) (sym nil) (turned w c opens logs_by_session p s (subst (λ (l : List Fact). IsWriting w c opens logs_by_session l p) nil st)))
        (cases_eq p s)

    writing_act : (w : World) (s : ℕ) (a : SessionAct) (c : ℕ) (opens : ℕ → Option ℕ) (logs_by_session : ℕ → TransactionLog) (gs : List Fact) → ((e : Entry) → a ≢ answers e) → IsEnabled q db w (by s a) → IsByLocks q k w s a → after_tx q q.first (tx_count w.items) J ≡ tables q w
        → IsWriting w c opens logs_by_session gs s → IsWriting (step w (by s a)) c opens logs_by_session (gs ++ shown a) s
    writing_act w s a c opens logs_by_session gs ne h by_locks now st = record {
      count = count_all c gs (shown a) ∙ counts_act w s a (count_after c gs) h ∙ ap (λ (n : ℕ). n + tx_count (items_by (w.at s) a)) st.count ∙ sym (count_append w.items (items_by (w.at s) a));
      mine = open_more (logs_by_session s).open_one gs (shown a) ∙ ap (λ (o : Option Transaction). open_all o (shown a)) st.mine ∙ sym (open_read (book_of (w.at s)) (shown a)) ∙ ap (λ (b : TransactionLog). b.open_one) (book_act (w.at s) a)
          ∙ ap (λ (x : SessionState). viewed x.transaction) (sym (put_here q db w s (acted (w.at s) a)));
      others = λ t other. st.others t other ∙ ap (λ (x : SessionState). viewed x.transaction) (sym (put_else q db w s t (acted (w.at s) a) other));
      ties = st.ties;
      decided = decided_more q J held c (logs_by_session s).open_one gs (shown a) st.decided
          (subst (λ (z : ℕ × Option Transaction). Decided q J held z.0 z.1 (shown a)) (λ i. (sym st.count i, sym st.mine i)) (decided_act w s a held (held_same s k (λ t. (logs_by_session t).open_one) (λ t. viewed (w.at t).transaction) st.others) now h by_locks));
      pending = ap (λ (x : SessionState). x.so_far.pending) (put_here q db w s (acted (w.at s) a)) ∙ pending_act (w.at s) a gs ne st.pending;
      nobody = λ t other. ap (λ (x : SessionState). x.so_far.pending) (put_else q db w s t (acted (w.at s) a) other) ∙ st.nobody t other;
      opens_are = opens_then q db w s a opens (entries_act (w.at s) a ne) st.opens_are;
    }
      where
        held : List HeldStatement
        held = held_beside s k (λ t. (logs_by_session t).open_one)

    -- an entry is written
    writing_answer : (w : World) (s : ℕ) (e : Entry) (c n : ℕ) (opens : ℕ → Option ℕ) (logs_by_session : ℕ → TransactionLog) (gs : List Fact) → gs ≡ entry_facts q (opens s) e → InPlace q (opens s) n e → IsWriting w c opens logs_by_session gs s
        → IsWriting (step w (by s (answers e))) (c + commits_in (entry_facts q (opens s) e)) (opened_by opens s e) (book_after q k J opens logs_by_session s e) [] s
    writing_answer w s e c n opens logs_by_session gs its place st = record {
      count = counts c (entry_facts q (opens s) e) ∙ ap (count_after c) (sym its) ∙ st.count ∙ ap tx_count (sym (append-nil w.items));
      mine = own (λ b o. b.open_one ≡ viewed (put w.at s (acted (w.at s) (answers e)) s).transaction) (now ∙ ap (λ (x : SessionState). viewed x.transaction) (sym (put_here q db w s (acted (w.at s) (answers e)))));
      others = λ t other. ap (λ (b : TransactionLog). b.open_one) (else_book t other) ∙ st.others t other ∙ ap (λ (x : SessionState). viewed x.transaction) (sym (put_else q db w s t (acted (w.at s) (answers e)) other));
      ties = λ t. ⊎_elim
          (λ (same : t ≡ s). subst (λ (u : ℕ). Tie (opened_by opens s e u) (book_after q k J opens logs_by_session s e u).open_one) (sym same) (own (λ b o. Tie o b.open_one) tied))
          (λ (other : t ≢ s). let d : (t == s) ≡ false = ne_eqb t s other in rw d (st.ties t))
          (cases_eq t s);
      decided = tt;
      pending = ap (λ (x : SessionState). x.so_far.pending) (put_here q db w s (acted (w.at s) (answers e)));
      nobody = λ t other. ap (λ (x : SessionState). x.so_far.pending) (put_else q db w s t (acted (w.at s) (answers e)) other) ∙ st.nobody t other;
      opens_are = opens_answer q db w s e opens st.opens_are;
    }
      where
        own : (P : TransactionLog → Option ℕ → Type 0) → P (read_facts (logs_by_session s) (entry_facts q (opens s) e)) (open_after (opens s) e) → P (book_after q k J opens logs_by_session s e s) (opened_by opens s e s)
        own P h = let d : (s == s) ≡ true = eq-eqb s s refl in rw d h

        else_book : (t : ℕ) → t ≢ s → book_after q k J opens logs_by_session s e t ≡ logs_by_session t
        else_book t other = let d : (t == s) ≡ false = ne_eqb t s other in rw d refl

        now : (read_facts (logs_by_session s) (entry_facts q (opens s) e)).open_one ≡ viewed (w.at s).transaction
        now = open_read (logs_by_session s) (entry_facts q (opens s) e) ∙ ap (open_all (logs_by_session s).open_one) (sym its) ∙ st.mine

        tied : Tie (open_after (opens s) e) (read_facts (logs_by_session s) (entry_facts q (opens s) e)).open_one
        tied = subst (Tie (open_after (opens s) e)) (sym (open_read (logs_by_session s) (entry_facts q (opens s) e))) (tie_entry q (opens s) (logs_by_session s).open_one n e (st.ties s) place)

    exact_row : (s : ℕ) (e : Entry) (c n : ℕ) (opens : ℕ → Option ℕ) (logs_by_session : ℕ → TransactionLog) → Tie (opens s) (logs_by_session s).open_one → InPlace q (opens s) n e → Decided q J (held_beside s k (λ t. (logs_by_session t).open_one)) c (logs_by_session s).open_one (entry_facts q (opens s) e)
        → IsExactRow q k J c opens logs_by_session s e
    exact_row s (end_of_session end) c n opens logs_by_session tie place d = tt
    exact_row s (statement text r end) c n opens logs_by_session tie place d = exact_entry q J (held_beside s k (λ t. (logs_by_session t).open_one)) c n (opens s) (logs_by_session s).open_one text r end tie place d

    -- the tables after the transactions so far
    tables_are : (w : World) (es : List Act) → (run w es).items ≡ J → after_tx q q.first (tx_count w.items) J ≡ tables q w
    tables_are w es e = let more = grows w es in ap (after_tx q q.first (tx_count w.items)) (sym e ∙ more.1) ∙ after_all q q.first w.items more.0

    rows_exact : (w : World) (es : List Act) (c : ℕ) (opens : ℕ → Option ℕ) (logs_by_session : ℕ → TransactionLog) (gs : List Fact) (p : ℕ) → Good q db w es → OneAtATime w es → LocksDecide q k w es → (run w es).items ≡ J → IsWriting w c opens logs_by_session gs p
        → AreExact q k J c opens logs_by_session (rows_of es)
    rows_exact w [] c opens logs_by_session gs p g alone by_locks is st = tt
    rows_exact w (closes m ∷ es) c opens logs_by_session gs p g alone by_locks is st = rows_exact (step w (closes m)) es c opens logs_by_session gs p g.1 alone by_locks is (record {
      count = st.count ∙ (let more = count_append w.items (Close m ∷ []) in omega (arith, more));
      mine = st.mine;
      others = st.others;
      ties = st.ties;
      decided = st.decided;
      pending = st.pending;
      nobody = st.nobody;
      opens_are = st.opens_are;
    })
    rows_exact w (by s (answers e) ∷ es) c opens logs_by_session gs p g alone by_locks is st =
        let own = acting w c opens logs_by_session gs p s alone.0 st in
        let answered = g.0 in
        let n = images_of 0 (w.at s).so_far.entries in
        let its : gs ≡ entry_facts q (opens s) e = sym own.pending ∙ answered.shows ∙ ap (λ (o : Option ℕ). entry_facts q o e) (sym (own.opens_are s)) in
        let place = subst (λ (o : Option ℕ). InPlace q o n e) (sym (own.opens_are s)) answered.in_place in (
          exact_row s e c n opens logs_by_session (own.ties s) place (subst (Decided q J (held_beside s k (λ t. (logs_by_session t).open_one)) c (logs_by_session s).open_one) its own.decided),
          rows_exact (step w (by s (answers e))) es _ _ _ [] s g.1 alone.1 by_locks.1 is (writing_answer w s e c n opens logs_by_session gs its place own),
        )
    rows_exact w (by s a ∷ es) c opens logs_by_session gs p g alone by_locks is st = rows_exact (step w (by s a)) es c opens logs_by_session (gs ++ shown a) s g.1 alone.1 by_locks.1 is
        (writing_act w s a c opens logs_by_session gs (λ e. λ f. cc) g.0 by_locks.0 (tables_are w (by s a ∷ es) is) (acting w c opens logs_by_session gs p s alone.0 st))

pub exact_refusals : (q : Meaning) (db : Text) (past : Past) (k : ℕ) (es : List Act) → Good q db (behind past) es → OneAtATime (behind past) es → LocksDecide q k (behind past) es
    → AreExact q k (run (behind past) es).items (tx_count past.items) (λ s. None) (λ s. blank) (rows_of es)
exact_refusals q db past k es g alone by_locks = rows_exact q db k (run (behind past) es).items (behind past) es (tx_count past.items) (λ s. None) (λ s. blank) [] 0 g alone by_locks refl (record {
  count = refl;
  mine = refl;
  others = λ t ne. refl;
  ties = λ t. tt;
  decided = tt;
  pending = refl;
  nobody = λ t ne. refl;
  opens_are = λ t. refl;
})
