-- The committed transactions of a transcript whose statements are transactions of their own.
use Rattle.std.proofs.Common.{◌≡◌, ◌≤◌, ℕ, List, [], ◌∷◌, ◌++◌, length, Option, None, refl, sym, ap, ◌∙◌, subst, arith, append_assoc, append-nil}
use Rattle.spec_history.specs.Lists.{Text, Each}
use Rattle.spec_history.specs.Meaning.{Meaning}
use Rattle.spec_history.specs.Agree.{Placed, committed_ones}
use Rattle.spec_history.specs.Facts.{facts, facts_of, entry_facts, open_after}
use Rattle.spec_history.specs.Transactions.{Transaction, TransactionLog, listed, read_facts, transactions}
use Rattle.spec_history.specs.Transcripts.{Entry, statement, end_of_session, Transcript, statements, kind_of}
use Rattle.spec_history.proofs.TransactionLogs.{read_append}
use Rattle.law_workload.proofs.Entries.{IsOwn, IsOf, AtMostOne, closed_book, one_entry, session_end}

-- some statements in their order are these transactions, at most one of each
pub data SomeAre : List Text → List Placed → Type 0 where
  none : SomeAre [] []
  skips : {texts : List Text} {ps : List Placed} (text : Text) → SomeAre texts ps → SomeAre (text ∷ texts) ps
  takes : {texts : List Text} {ps : List Placed} (text : Text) (p : Placed) → IsOf text p → SomeAre texts ps → SomeAre (text ∷ texts) (p ∷ ps)

-- each statement is one
abbrev pub AllAre : List Text → List Placed → Type 0
AllAre [] [] = Unit {0}
AllAre (text ∷ texts) (p ∷ ps) = IsOf text p × AllAre texts ps
AllAre _ _ = ⊥

pub at_most : {texts : List Text} {ps : List Placed} → SomeAre texts ps → length ps ≤ length texts
at_most none = omega arith
at_most (skips text h) = omega (arith, at_most h)
at_most (takes text p is h) = omega (arith, at_most h)

-- as many as there are statements
pub all_are : {texts : List Text} {ps : List Placed} → SomeAre texts ps → length texts ≤ length ps → AllAre texts ps
all_are none e = tt
all_are (skips text h) e = absurd (omega (arith, at_most h, e))
all_are (takes text p is h) e = (is, all_are h (omega (arith, e)))

one_then : (text : Text) (texts : List Text) (more ps : List Placed) → AtMostOne text more → SomeAre texts ps → SomeAre (text ∷ texts) (more ++ ps)
one_then text texts [] ps one rest = skips text rest
one_then text texts (p ∷ []) ps one rest = takes text p one rest
one_then text texts (p ∷ r ∷ more) ps one rest = absurd one

module _ (q : Meaning) where
  abbrev pub AreOwn : List Text → Type 0
  AreOwn texts = Each (λ text. IsOwn (kind_of (q.reads text))) texts

  -- behind these transactions, some of these statements were committed besides
  record Read (ts : List Transaction) (texts : List Text) (c : TransactionLog) : Type 0 where
    past : List Transaction
    is : c ≡ closed_book past
    more : List Placed
    of : SomeAre texts more
    are : committed_ones past ≡ committed_ones ts ++ more

  entries : (o : Option ℕ) (ts : List Transaction) (es : List Entry) → AreOwn (statements es) → Read ts (statements es) (read_facts (closed_book ts) (facts q o es))
  entries o ts [] own = record { past = ts; is = refl; more = []; of = none; are = sym (append-nil (committed_ones ts)) }
  entries o ts (statement text r end ∷ es) own =
      let e = statement text r end in
      let one = one_entry q o text ts r end own.0 in
      let rest = entries (open_after o e) one.past es own.1 in
      record {
        past = rest.past;
        is = read_append (closed_book ts) (entry_facts q o e) (facts q (open_after o e) es)
            ∙ ap (λ (b : TransactionLog). read_facts b (facts q (open_after o e) es)) one.is ∙ rest.is;
        more = one.more ++ rest.more;
        of = one_then text (statements es) one.more rest.more one.of rest.of;
        are = rest.are ∙ ap (λ (ps : List Placed). ps ++ rest.more) one.are ∙ append_assoc (committed_ones ts) one.more rest.more;
      }
  entries o ts (end_of_session end ∷ es) own =
      let e = end_of_session end in
      let same = session_end q o ts end in
      let rest = entries (open_after o e) same.past es own in
      record {
        past = rest.past;
        is = read_append (closed_book ts) (entry_facts q o e) (facts q (open_after o e) es)
            ∙ ap (λ (b : TransactionLog). read_facts b (facts q (open_after o e) es)) same.is ∙ rest.is;
        more = rest.more;
        of = rest.of;
        are = rest.are ∙ ap (λ (ps : List Placed). ps ++ rest.more) same.are;
      }

  pub some_committed : (x : Transcript) → AreOwn (statements x.entries) → SomeAre (statements x.entries) (committed_ones (transactions (facts_of q x)))
  some_committed x own =
      let r = entries None [] x.entries own in
      let all : transactions (facts_of q x) ≡ r.past = ap (λ (b : TransactionLog). b.past ++ listed b.open_one) r.is ∙ append-nil r.past in
      subst (SomeAre (statements x.entries)) (sym (ap committed_ones all ∙ r.are)) r.of
