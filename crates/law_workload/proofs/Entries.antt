-- What an entry adds to the committed transactions, where its statement is a transaction of its own.
use Rattle.std.proofs.Common.{◌≡◌, ℕ, Bool, true, false, List, [], ◌∷◌, ◌++◌, Option, Some, None, refl, sym, ap, ◌∙◌, inl, inr, append_assoc, append-nil}
use Rattle.std.specs.Prelude.{◌⊎◌}
use Rattle.sql_value.specs.declared.refusal.Refusal.TheVariants.{Locked, NoMemory}
use Rattle.sql_types.specs.declared.reply.Reply.{Reply}
use Rattle.sql_types.specs.declared.reply.Reply.TheVariants as reply
use Rattle.spec_history.specs.Lists.{Text}
use Rattle.spec_history.specs.Meaning.{Meaning}
use Rattle.spec_history.specs.Agree.{Placed, committed_at_place, committed_ones}
use Rattle.spec_history.specs.Facts.{Fact, began, said, failed, met, answer_facts, own_facts, facts_inside, facts_outside, entry_facts, end_facts}
use Rattle.spec_history.specs.Transactions.{committed, ended, Transaction, TransactionLog, new, adds_line, adds_answer, ends_so, read_facts}
use Rattle.spec_history.specs.Transcripts.{EndLine, committed_at, ended_after, statement, end_of_session, ended_id, Kind, create, rows, kind_of}

-- a statement of this kind is a transaction of its own where BEGIN opened none
abbrev pub IsOwn : Kind → Type 0
IsOwn create = Unit {0}
IsOwn rows = Unit {0}
IsOwn _ = ⊥

-- of one statement alone, with its reply, or of none
abbrev pub IsFine : Text → Bool → List (Text × Text) → Type 0
IsFine text explicit script = (explicit ≡ false) × ((script ≡ []) ⊎ ((reply : Text) × (script ≡ (text, reply) ∷ [])))

abbrev pub IsOf : Text → Placed → Type 0
IsOf text p = IsFine text p.explicit p.script

-- none, or one of this statement
abbrev pub AtMostOne : Text → List Placed → Type 0
AtMostOne text [] = Unit {0}
AtMostOne text (p ∷ []) = IsOf text p
AtMostOne text (p ∷ r ∷ ps) = ⊥

pub ones_append : (us vs : List Transaction) → committed_ones (us ++ vs) ≡ committed_ones us ++ committed_ones vs
ones_append [] vs = refl
ones_append (u ∷ us) vs = ap (λ (l : List Placed). committed_at_place u u.end ++ l) (ones_append us vs) ∙ sym (append_assoc (committed_at_place u u.end) (committed_ones us) (committed_ones vs))

-- none is open, and these are over
abbrev pub closed_book : List Transaction → TransactionLog
closed_book ts = record { open_one = None; past = ts }

-- behind these transactions none is open, and at most one of this statement was committed besides
pub record OneMore (text : Text) (ts : List Transaction) (c : TransactionLog) : Type 0 where
  pub past : List Transaction
  pub is : c ≡ closed_book past
  pub more : List Placed
  pub of : AtMostOne text more
  pub are : committed_ones past ≡ committed_ones ts ++ more

nothing : (text : Text) (ts : List Transaction) → OneMore text ts (closed_book ts)
nothing text ts = record { past = ts; is = refl; more = []; of = tt; are = sym (append-nil (committed_ones ts)) }

-- the end of the open one
ends_then : (text : Text) (ts : List Transaction) (u : Transaction) (end : EndLine) → IsFine text u.explicit u.script
    → OneMore text ts (read_facts (record { open_one = Some u; past = ts }) (end_facts false end))
ends_then text ts u (committed_at id place) fine =
    let v = ends_so (committed place) u in
    record {
      past = ts ++ v ∷ [];
      is = refl;
      more = record { place = place; id = u.id; explicit = u.explicit; script = u.script } ∷ [];
      of = fine;
      are = ones_append ts (v ∷ []);
    }
ends_then text ts u (ended_after id n) fine =
    let v = ends_so (ended n false) u in
    record { past = ts ++ v ∷ []; is = refl; more = []; of = tt; are = ones_append ts (v ∷ []) }

-- the end of a session in which none is open
pub record Same (ts : List Transaction) (c : TransactionLog) : Type 0 where
  pub past : List Transaction
  pub is : c ≡ closed_book past
  pub are : committed_ones past ≡ committed_ones ts

ends_none : (ts : List Transaction) (end : EndLine) → Same ts (read_facts (closed_book ts) (end_facts true end))
ends_none ts (committed_at id place) = record { past = ts ++ []; is = refl; are = ap committed_ones (append-nil ts) }
ends_none ts (ended_after id n) = record { past = ts ++ []; is = refl; are = ap committed_ones (append-nil ts) }

module _ (q : Meaning) where
  -- an answer shows one of three things
  by_answer : (P : List Fact → Type 0) (text : Text) (r : Reply) → ((holder : ℕ) → P (met text holder ∷ [])) → P (failed text ∷ [])
      → P (said (text, q.writes r) ∷ []) → P (answer_facts q text r)
  by_answer P text (reply.Refused (Locked holder)) a b c = a holder
  by_answer P text (reply.Refused NoMemory) a b c = b
  by_answer P text r a b c = c

  -- with no end line it drew no id
  own_one : (text : Text) (ts : List Transaction) (r : Reply) (end : Option EndLine) → OneMore text ts (read_facts (closed_book ts) (own_facts q text r end))
  own_one text ts r None = nothing text ts
  own_one text ts r (Some end) =
      let id = ended_id end in
      by_answer (λ gs. OneMore text ts (read_facts (closed_book ts) (began id false ∷ gs ++ end_facts false end))) text r
      (λ holder. ends_then text ts (adds_answer text false (new id false)) end (refl, inl refl))
      (ends_then text ts (adds_answer text true (new id false)) end (refl, inl refl))
      (ends_then text ts (adds_line (text, q.writes r) (new id false)) end (refl, inr (q.writes r, refl)))

  -- where none is open, an answer is of none
  answered : (text : Text) (ts : List Transaction) (r : Reply) → OneMore text ts (read_facts (closed_book ts) (answer_facts q text r))
  answered text ts r =
      by_answer (λ gs. OneMore text ts (read_facts (closed_book ts) gs)) text r (λ holder. nothing text ts) (nothing text ts) (nothing text ts)

  inside : (text : Text) (ts : List Transaction) (r : Reply) (end : Option EndLine) (kind : Kind) → IsOwn kind → OneMore text ts (read_facts (closed_book ts) (facts_inside q kind text r end))
  inside text ts r end create own = answered text ts r
  inside text ts r end rows own = answered text ts r
  inside text ts r end kind own = absurd own

  outside : (text : Text) (ts : List Transaction) (r : Reply) (end : Option EndLine) (kind : Kind) → IsOwn kind → OneMore text ts (read_facts (closed_book ts) (facts_outside q kind text r end))
  outside text ts r end create own = own_one text ts r end
  outside text ts r end rows own = own_one text ts r end
  outside text ts r end kind own = absurd own

  pub one_entry : (o : Option ℕ) (text : Text) (ts : List Transaction) (r : Reply) (end : Option EndLine) → IsOwn (kind_of (q.reads text))
      → OneMore text ts (read_facts (closed_book ts) (entry_facts q o (statement text r end)))
  one_entry None text ts r end own = outside text ts r end (kind_of (q.reads text)) own
  one_entry (Some id) text ts r end own = inside text ts r end (kind_of (q.reads text)) own

  pub session_end : (o : Option ℕ) (ts : List Transaction) (end : EndLine) → Same ts (read_facts (closed_book ts) (entry_facts q o (end_of_session end)))
  session_end None ts end = ends_none ts end
  session_end (Some id) ts end = ends_none ts end
