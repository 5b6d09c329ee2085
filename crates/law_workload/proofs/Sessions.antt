-- What agreement says of the transactions of a session of the input.
use Rattle.std.proofs.Common.{◌≡◌, ◌≢◌, ◌≤◌, ℕ, zero, suc, List, [], ◌∷◌, Option, Some, refl, sym, subst}
use Rattle.sql_types.specs.declared.digest.Digest.{Digest}
use Rattle.sql_types.specs.declared.journal.JournalItem.{JournalItem}
use Rattle.spec_history.specs.Lists.{Text, Each, At}
use Rattle.spec_history.specs.Inputs.{InputSession}
use Rattle.spec_history.specs.Meaning.{Meaning}
use Rattle.spec_history.specs.Agree.{StatementsInOrder, AreStatements, Placed, of_session, committed_ones, Agree}
use Rattle.spec_history.specs.Facts.{mark_of, Shows, facts_of}
use Rattle.spec_history.specs.Transactions.{transactions}
use Rattle.spec_history.specs.Transcripts.{Transcript}
use Rattle.spec_history.proofs.Trace.{each_weaker}
use Rattle.law_workload.proofs.Committed.{AreOwn, SomeAre, some_committed}
use Rattle.law_workload.proofs.Places.{committed_at_marks}

-- the transcript of a session of the input
record Found (input : List InputSession) (X : List Transcript) (i : ℕ) (s : InputSession) : Type 0 where
  x : Transcript
  at : At X i x
  is : StatementsInOrder s x

find : (input : List InputSession) (X : List Transcript) (i : ℕ) (s : InputSession) → AreStatements input X → At input i s → Found input X i s
find [] X i s a h = absurd h
find (t ∷ input) [] i s a h = absurd a
find (t ∷ input) (x ∷ X) zero s a h = record { x = x; at = refl; is = subst (λ z. StatementsInOrder z x) h a.0 }
find (t ∷ input) (x ∷ X) (suc i) s a h = let f = find input X i s a.1 h in record { x = f.x; at = f.at; is = f.is }

-- no place of these is below one of those
abbrev pub Before : List Placed → List Placed → Type 0
Before those these = Each (λ p. Each (λ r. p.place ≤ r.place) these) those

module _ (q : Meaning) (database : Text) (input : List InputSession) (setup : Option ℕ) (X : List Transcript) (J : List JournalItem) (G : List Digest)
    (agree : Agree q database input setup X J G) where
  pub of_some : (i : ℕ) (s : InputSession) → At input i s → AreOwn q s.texts → SomeAre s.texts (of_session s.name J)
  of_some i s there own =
      let f = find input X i s agree.statements_are_answered there in
      let ones = committed_ones (transactions (facts_of q f.x)) in
      let some = some_committed q f.x (subst (AreOwn q) (sym f.is.are) own) in
      subst (SomeAre s.texts) (sym (agree.journal_is_theirs.items i s f.x there f.at)) (subst (λ texts. SomeAre texts ones) f.is.are some)

  pub after_setup : (u i : ℕ) (s t : InputSession) → setup ≡ Some u → At input u s → At input i t → i ≢ u → Before (of_session s.name J) (of_session t.name J)
  after_setup u i s t e here there other =
      let y = find input X u s agree.statements_are_answered here in
      let x = find input X i t agree.statements_are_answered there in
      let those = facts_of q y.x in
      let these = facts_of q x.x in
      let none_below = agree.marks_never_fall.after_setup u i y.x x.x e y.at x.at other in
      let first_at = committed_at_marks J (λ m. Shows (mark_of J) (λ n. m ≤ n) these) those none_below in
      let both_at = each_weaker (λ (p : Placed). Shows (mark_of J) (λ n. p.place ≤ n) these) (λ (p : Placed). Each (λ r. p.place ≤ r.place) (committed_ones (transactions these)))
      (λ p h. committed_at_marks J (λ n. p.place ≤ n) these h) (committed_ones (transactions those)) first_at in
      subst (λ ps. Before ps (of_session t.name J)) (sym (agree.journal_is_theirs.items u s y.x here y.at))
      (subst (λ rs. Before (committed_ones (transactions those)) rs) (sym (agree.journal_is_theirs.items i t x.x there x.at)) both_at)
