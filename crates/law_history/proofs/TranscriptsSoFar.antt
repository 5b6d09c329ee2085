-- A session's transcript shows what its acts show, and its entries stand where they may.
use Rattle.std.proofs.Common.{◌≡◌, ℕ, List, [], ◌∷◌, ◌++◌, Option, None, refl, sym, ap, ◌∙◌, subst, append-nil, append_assoc}
use Rattle.spec_history.specs.Lists.{Text, Each}
use Rattle.spec_history.specs.Meaning.{Meaning}
use Rattle.spec_history.specs.Transcripts.{Entry, statement, end_of_session, statements}
use Rattle.spec_history.specs.Facts.{Fact, entry_facts, open_after, open_at_end, facts}
use Rattle.spec_history.specs.InPlace.{Throughout, images_after, EndIsLast, InPlace}
use Rattle.spec_history.specs.Transactions.{listed}
use Rattle.spec_history.specs.Acts.{SessionAct, takes, answers, Act, by, of, shown, all_shown}
use Rattle.spec_history.specs.Sessions.{SessionState, TranscriptSoFar, acted}
use Rattle.spec_history.specs.Worlds.{World, run}
use Rattle.spec_history.specs.Guards.{IsEnabled, Good, IsStatement, Answered, Answers, images_of}
use Rattle.spec_history.proofs.Follow.{follow, facts_append}

statements_append : (es fs : List Entry) → statements (es ++ fs) ≡ statements es ++ statements fs
statements_append [] fs = refl
statements_append (statement text r end ∷ es) fs = ap (λ (l : List Text). text ∷ l) (statements_append es fs)
statements_append (end_of_session end ∷ es) fs = statements_append es fs

last_end : (es : List Entry) (e : Entry) → Each IsStatement es → EndIsLast (es ++ e ∷ [])
last_end [] (statement text r end) h = tt
last_end [] (end_of_session end) h = refl
last_end (statement text r end ∷ es) e h = last_end es e h.1
last_end (end_of_session end ∷ es) e h = absurd h.0

throughout_append : (P : Option ℕ → ℕ → Entry → Type 0) (o : Option ℕ) (n : ℕ) (es : List Entry) (e : Entry) → Throughout P o n es → P (open_at_end o es) (images_of n es) e → Throughout P o n (es ++ e ∷ [])
throughout_append P o n [] e h k = (k, tt)
throughout_append P o n (x ∷ es) e h k = (h.0, throughout_append P (open_after o x) (images_after n x) es e h.1 k)

-- the statements taken up are those answered and the one under way
abbrev pub InOrder : TranscriptSoFar → Type 0
InOrder k = statements k.entries ++ listed k.under ≡ k.taken

-- what the acts have shown is what the entries show and what is to be shown yet
pub record Told (q : Meaning) (x : SessionState) (gs : List Fact) : Type 0 where
  pub shows : facts q None x.so_far.entries ++ x.so_far.pending ≡ gs
  pub in_order : InOrder x.so_far
  pub end_is_last : EndIsLast x.so_far.entries
  pub in_place : Throughout (InPlace q) None 0 x.so_far.entries

answer_order : (k : TranscriptSoFar) (e : Entry) → Answered k.under e → InOrder k → statements (k.entries ++ e ∷ []) ++ [] ≡ k.taken
answer_order k (statement text r end) u h = append-nil (statements (k.entries ++ statement text r end ∷ [])) ∙ statements_append k.entries (statement text r end ∷ []) ∙ ap (λ (o : Option Text). statements k.entries ++ listed o) (sym u) ∙ h
answer_order k (end_of_session end) u h = append-nil (statements (k.entries ++ end_of_session end ∷ [])) ∙ statements_append k.entries (end_of_session end ∷ []) ∙ ap (λ (o : Option Text). statements k.entries ++ listed o) (sym u) ∙ h

module _ (q : Meaning) (db : Text) where
  told_answer : (x : SessionState) (e : Entry) (gs : List Fact) → Answers q x e → Told q x gs → Told q (acted x (answers e)) (gs ++ [])
  told_answer x e gs k t = record {
    shows = append-nil (facts q None (x.so_far.entries ++ e ∷ [])) ∙ facts_append q None x.so_far.entries (e ∷ [])
        ∙ ap (λ (l : List Fact). facts q None x.so_far.entries ++ l) (append-nil (entry_facts q (open_at_end None x.so_far.entries) e) ∙ sym k.shows) ∙ t.shows ∙ sym (append-nil gs);
    in_order = answer_order x.so_far e k.answered t.in_order;
    end_is_last = last_end x.so_far.entries e k.none_ended;
    in_place = throughout_append (InPlace q) None 0 x.so_far.entries e t.in_place k.in_place;
  }

  told_take : (x : SessionState) (text : Text) (gs : List Fact) → x.so_far.under ≡ None → Told q x gs → Told q (acted x (takes text)) (gs ++ [])
  told_take x text gs u t = record {
    shows = t.shows ∙ sym (append-nil gs);
    in_order = ap (λ (l : List Text). l ++ text ∷ []) (sym (append-nil (statements x.so_far.entries)) ∙ ap (λ (o : Option Text). statements x.so_far.entries ++ listed o) (sym u) ∙ t.in_order);
    end_is_last = t.end_is_last;
    in_place = t.in_place;
  }

  told_more : (x y : SessionState) (hs gs : List Fact) → y.so_far.entries ≡ x.so_far.entries → y.so_far.under ≡ x.so_far.under → y.so_far.taken ≡ x.so_far.taken → y.so_far.pending ≡ x.so_far.pending ++ hs → Told q x gs → Told q y (gs ++ hs)
  told_more x y hs gs a b c d t = record {
    shows = ap (λ (l : List Entry). facts q None l ++ y.so_far.pending) a ∙ ap (λ (l : List Fact). facts q None x.so_far.entries ++ l) d ∙ sym (append_assoc (facts q None x.so_far.entries) x.so_far.pending hs) ∙ ap (λ (l : List Fact). l ++ hs) t.shows;
    in_order = ap (λ (l : List Entry). statements l ++ listed y.so_far.under) a ∙ ap (λ (o : Option Text). statements x.so_far.entries ++ listed o) b ∙ t.in_order ∙ sym c;
    end_is_last = subst EndIsLast (sym a) t.end_is_last;
    in_place = subst (Throughout (InPlace q) None 0) (sym a) t.in_place;
  }

  told_act : (w : World) (s : ℕ) (a : SessionAct) (gs : List Fact) → IsEnabled q db w (by s a) → Told q (w.at s) gs → Told q (acted (w.at s) a) (gs ++ shown a)
  told_act w s (answers e) gs k t = told_answer (w.at s) e gs k t
  told_act w s (takes text) gs k t = told_take (w.at s) text gs k.1 t
  told_act w s a gs k t = told_more (w.at s) (acted (w.at s) a) (shown a) gs refl refl refl refl t

  pub told : (s : ℕ) (w : World) (es : List Act) (gs : List Fact) → Good q db w es → Told q (w.at s) gs → Told q ((run w es).at s) (gs ++ all_shown (of s es))
  told = follow q db (Told q) told_act
