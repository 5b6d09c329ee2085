-- What counts in the journal counts the past too.
use Rattle.std.proofs.Common.{◌≡◌, ℕ, ◌+◌, ◌≤◌, List, [], ◌∷◌, ◌++◌, length, ap, ◌∙◌, subst, arith}
use Rattle.std.specs.Prelude.{◌==◌}
use Rattle.sql_types.specs.declared.journal.JournalItem.{JournalItem}
use Rattle.sql_types.specs.declared.journal.JournalItem.TheVariants.{Close}
use Rattle.spec_model.specs.Journals.{tx_count}
use Rattle.spec_history.specs.Lists.{Text, Each, In}
use Rattle.spec_history.specs.Meaning.{Meaning}
use Rattle.spec_history.specs.Facts.{no_digest, mark_of, Shows}
use Rattle.spec_history.specs.Acts.{SessionAct, starts, takes, looks, keeps, lacks, answers, stops, Act, by, closes, of, shown, all_shown, marked}
use Rattle.spec_history.specs.Worlds.{World, items_by, step, run}
use Rattle.spec_history.specs.Guards.{IsEnabled, Good}
use Rattle.spec_history.proofs.Cuts.{cut, good_append}
use Rattle.spec_history.proofs.Finding.{find, is_lacks, split}
use Rattle.spec_history.proofs.Rising.{shown_more}
use Rattle.spec_history.proofs.Signs.{marks_same, shows_facts}
use Rattle.spec_history.proofs.Trace.{count_run, marks_from}
use Rattle.law_behind.specs.AgreeBehind.{HasItems}
use Rattle.law_behind.specs.Past.{Past, behind}

length_append : (J K : List JournalItem) → length (J ++ K) ≡ length J + length K
length_append [] K = omega arith
length_append (i ∷ J) K = let e = length_append J K in omega arith

module _ (q : Meaning) (db : Text) where
  longer : (n : ℕ) (w : World) (e : Act) → n ≤ length w.items → n ≤ length (step w e).items
  longer n w (by s a) l = omega (arith, l, length_append w.items (items_by (w.at s) a))
  longer n w (closes k) l = omega (arith, l, length_append w.items (Close k ∷ []))

  image_has : (n : ℕ) (w : World) (s : ℕ) (a : SessionAct) → IsEnabled q db w (by s a) → n ≤ length w.items → Each (HasItems n) (shown a)
  image_has n w s (keeps items mark) k l = ((let is = k.1 in omega (arith, is, l)), tt)
  image_has n w s (starts name) k l = tt
  image_has n w s (takes text) k l = tt
  image_has n w s (looks text table) k l = tt
  image_has n w s (answers entry) k l = tt
  image_has n w s stops k l = tt
  image_has n w s a k l = (tt, tt)

  images_have : (n s : ℕ) (w : World) (es : List Act) → Good q db w es → n ≤ length w.items → Each (HasItems n) (all_shown (of s es))
  images_have n s w [] g l = tt
  images_have n s w (by t a ∷ es) g l = shown_more (HasItems n) (t == s) a (of s es) (image_has n w t a g.0 l) (images_have n s (step w (by t a)) es g.1 (longer n w (by t a) l))
  images_have n s w (closes k ∷ es) g l = images_have n s (step w (closes k)) es g.1 (longer n w (closes k) l)

  module _ (past : Past) (es : List Act) (g : Good q db (behind past) es) where
    pub marks_above : (s : ℕ) → Shows (mark_of (run (behind past) es).items) (λ m. tx_count past.items ≤ m) (all_shown (of s es))
    marks_above s = shows_facts (mark_of (run (behind past) es).items) marked (λ m. tx_count past.items ≤ m) (of s es) (marks_same q db s (behind past) es g) (marks_from q db (tx_count past.items) s (behind past) es g (omega arith))

    pub images_above : (s : ℕ) → Each (HasItems (length past.items)) (all_shown (of s es))
    images_above s = images_have (length past.items) s (behind past) es g (omega arith)

    pub none_behind : (s : ℕ) → In no_digest (all_shown (of s es)) → tx_count past.items ≡ 0
    none_behind s i =
        let sp = split no_digest (all_shown (of s es)) i in
        let f = find (of s es) sp.before sp.after no_digest sp.is in
        let c = cut s es f.front f.back lacks (f.is ∙ ap (λ (a : SessionAct). f.front ++ a ∷ f.back) (is_lacks f.act f.shows)) in
        let two = good_append q db (behind past) c.earlier (by s lacks ∷ c.later) (subst (Good q db (behind past)) c.is g) in
        let none : tx_count (run (behind past) c.earlier).items ≡ 0 = two.1.0.1 in
        let less = count_run q db (behind past) c.earlier in
        omega (arith, none, less)
