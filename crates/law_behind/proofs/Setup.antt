-- A session that was over before any other did anything.
use Rattle.std.proofs.Common.{◌≡◌, ◌≢◌, ℕ, ◌<◌, ◌≤◌, List, [], ◌∷◌, ◌++◌, refl, sym, ap, ◌∙◌, subst, arith, append-nil, append_assoc}
use Rattle.sql_types.specs.declared.journal.JournalItem.{JournalItem}
use Rattle.spec_model.specs.Journals.{tx_count}
use Rattle.spec_history.specs.Lists.{Text, Each, In}
use Rattle.spec_history.specs.Journals.{blocks}
use Rattle.spec_history.specs.Meaning.{Meaning}
use Rattle.spec_history.specs.Facts.{Fact, digest, no_digest, mark_of, Shows}
use Rattle.spec_history.specs.Marks.{NoneBelow, ClosedIn, ImagesOfOthersHave, NoneCounted}
use Rattle.spec_history.specs.Agree.{ShowsHash}
use Rattle.spec_history.specs.Acts.{SessionAct, meets, lacks, Act, by, of, all_shown, marked}
use Rattle.spec_history.specs.Sessions.{gone}
use Rattle.spec_history.specs.Worlds.{World, run}
use Rattle.spec_history.specs.Guards.{Good, Meets}
use Rattle.spec_history.proofs.Trace.{marks_from, marks_to, count_run}
use Rattle.spec_history.proofs.Cuts.{good_append, run_append, of_append, Cut, cut}
use Rattle.spec_history.proofs.Signs.{marks_same, shows_facts}
use Rattle.spec_history.proofs.Rising.{images_from}
use Rattle.spec_history.proofs.Issued.{hashes}
use Rattle.spec_history.proofs.Finding.{find, is_lacks, split}
use Rattle.spec_history.proofs.Setup.{nil_left, not_nil, shows_weaker, silent}
use Rattle.spec_history.proofs.TransactionLogs.{within_of}
use Rattle.law_behind.specs.Past.{Past, behind}

others_have : (q : Meaning) (J K : List JournalItem) (us gs : List Fact) → Each (ShowsHash q K) us → ((b : ℕ) → b < blocks K → Each (ClosedIn J b) gs) → ImagesOfOthersHave J us gs
others_have q J K [] gs h f = tt
others_have q J K (digest b hash ∷ us) gs h f = (f b h.0.0, others_have q J K us gs h.1 f)
others_have q J K (g ∷ us) gs h f = others_have q J K us gs h.1 f

-- ---- setup: the session u, over after h

module _ (q : Meaning) (db : Text) (past : Past) (u : ℕ) (h es : List Act) (g : Good q db (behind past) (h ++ es)) (others : (s : ℕ) → s ≢ u → of s h ≡ []) (ended : ((run (behind past) h).at u).phase ≡ gone) where
  abbrev v : World
  v = run (behind past) h

  abbrev J : List JournalItem
  J = (run (behind past) (h ++ es)).items

  parts : Good q db (behind past) h × Good q db (run (behind past) h) es
  parts = good_append q db (behind past) h es g

  part : (s : ℕ) → s ≢ u → of s (h ++ es) ≡ of s es
  part s ne = of_append s h es ∙ ap (λ (l : List SessionAct). l ++ of s es) (others s ne)

  its_part : of u (h ++ es) ≡ of u h
  its_part = of_append u h es ∙ (rw ((silent q db u (run (behind past) h) es ended parts.1).0, append-nil) refl)

  its_marks : Shows (mark_of J) (λ m. m ≤ tx_count v.items) (all_shown (of u (h ++ es)))
  its_marks = shows_facts (mark_of J) marked (λ m. m ≤ tx_count v.items) (of u (h ++ es)) (marks_same q db u (behind past) (h ++ es) g) (subst (Shows marked (λ m. m ≤ tx_count v.items)) (sym its_part) (marks_to q db u (behind past) h parts.0))

  other_marks : (s : ℕ) → s ≢ u → Shows (mark_of J) (λ m. tx_count v.items ≤ m) (all_shown (of s (h ++ es)))
  other_marks s ne = shows_facts (mark_of J) marked (λ m. tx_count v.items ≤ m) (of s (h ++ es)) (marks_same q db s (behind past) (h ++ es) g) (subst (Shows marked (λ m. tx_count v.items ≤ m)) (sym (part s ne)) (marks_from q db (tx_count v.items) s v es parts.1 (omega arith)))

  -- no mark of another session is below one of its marks
  pub setup_marks : (s : ℕ) → s ≢ u → NoneBelow J (all_shown (of u (h ++ es))) (all_shown (of s (h ++ es)))
  setup_marks s ne = shows_weaker (mark_of J) (λ m. m ≤ tx_count v.items) (λ m. Shows (mark_of J) (λ n. m ≤ n) (all_shown (of s (h ++ es))))
      (λ m l. shows_weaker (mark_of J) (λ n. tx_count v.items ≤ n) (λ n. m ≤ n) (λ n k. omega arith) (all_shown (of s (h ++ es))) (other_marks s ne)) (all_shown (of u (h ++ es))) its_marks

  -- its digests' blocks are closed in the others' images
  pub setup_images : (s : ℕ) → s ≢ u → ImagesOfOthersHave J (all_shown (of u (h ++ es))) (all_shown (of s (h ++ es)))
  setup_images s ne = others_have q J v.items (all_shown (of u (h ++ es))) (all_shown (of s (h ++ es)))
      (subst (λ (l : List SessionAct). Each (ShowsHash q v.items) (all_shown l)) (sym its_part) (hashes q db u (behind past) h parts.0))
      (λ b l. subst (λ (w : World). Each (ClosedIn w.items b) (all_shown (of s (h ++ es)))) (sym (run_append (behind past) h es)) (subst (λ (l : List SessionAct). Each (ClosedIn (run v es).items b) (all_shown l)) (sym (part s ne)) (images_from q db b s v es parts.1 l)))

  -- where another is told that there is no digest, its marks are 0
  pub setup_lacks : (s : ℕ) → s ≢ u → In no_digest (all_shown (of s (h ++ es))) → NoneCounted J (all_shown (of u (h ++ es)))
  setup_lacks s ne i = let sp = split no_digest (all_shown (of s es)) (subst (λ (l : List SessionAct). In no_digest (all_shown l)) (part s ne) i) in
      let f = find (of s es) sp.before sp.after no_digest sp.is in
      let c = cut s es f.front f.back lacks (f.is ∙ ap (λ (a : SessionAct). f.front ++ a ∷ f.back) (is_lacks f.act f.shows)) in
      let two = good_append q db v c.earlier (by s lacks ∷ c.later) (subst (Good q db v) c.is parts.1) in
      let none : tx_count (run v c.earlier).items ≡ 0 = two.1.0.1 in let less = count_run q db v c.earlier in
      shows_weaker (mark_of J) (λ m. m ≤ tx_count v.items) (λ m. m ≡ 0) (λ m l. omega arith) (all_shown (of u (h ++ es))) its_marks

  -- ---- refusals

  -- none of its statements is refused
  pub not_refused : (s : ℕ) (text : Text) (holder : ℕ) (xs ys : List SessionAct) → of s (h ++ es) ≡ xs ++ meets text holder ∷ ys → s ≢ u
  not_refused s text holder xs ys e same = let c = cut u h xs ys (meets text holder) (sym its_part ∙ ap (λ (t : ℕ). of t (h ++ es)) (sym same) ∙ e) in
      let two = good_append q db (behind past) c.earlier (by u (meets text holder) ∷ c.later) (subst (Good q db (behind past)) c.is parts.0) in
      let m : Meets q (run (behind past) c.earlier) u text holder = two.1.0 in
      let all : of m.other c.earlier ++ of m.other (by u (meets text holder) ∷ c.later) ≡ [] = sym (of_append m.other c.earlier (by u (meets text holder) ∷ c.later)) ∙ ap (of m.other) (sym c.is) ∙ others m.other m.differs in
      not_nil m.theirs.id m.theirs.explicit (all_shown (of m.other c.earlier)) (ap all_shown (nil_left (of m.other c.earlier) (of m.other (by u (meets text holder) ∷ c.later)) all)) (within_of q db (behind past) c.earlier m.other m.theirs two.0 refl m.has)

  -- a refusal comes when it is over
  pub record CutAfter (s : ℕ) (xs ys : List SessionAct) (a : SessionAct) : Type 0 where
    pub at : Cut s (h ++ es) xs ys a
    pub over : ((run (behind past) at.earlier).at u).phase ≡ gone

  pub cut_after : (s : ℕ) (xs ys : List SessionAct) (a : SessionAct) → s ≢ u → of s (h ++ es) ≡ xs ++ a ∷ ys → CutAfter s xs ys a
  cut_after s xs ys a ne e = let c = cut s es xs ys a (sym (part s ne) ∙ e) in
      let two = good_append q db v c.earlier (by s a ∷ c.later) (subst (Good q db v) c.is parts.1) in record {
        at = record {
          earlier = h ++ c.earlier;
          later = c.later;
          is = ap (λ (l : List Act). h ++ l) c.is ∙ sym (append_assoc h c.earlier (by s a ∷ c.later));
          before = of_append s h c.earlier ∙ ap (λ (l : List SessionAct). l ++ of s c.earlier) (others s ne) ∙ c.before;
          after = c.after;
        };
        over = subst (λ (w : World). (w.at u).phase ≡ gone) (sym (run_append (behind past) h c.earlier)) (silent q db u v c.earlier ended two.0).1;
      }
