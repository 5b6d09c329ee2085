-- NothingCommitted comes only where no mark before it is above 0.
use Rattle.std.proofs.Common.{◌≡◌, ℕ, ◌≤◌, List, ◌∷◌, ◌++◌, ap, ◌∙◌, subst, arith}
use Rattle.spec_model.specs.Journals.{tx_count}
use Rattle.spec_history.specs.Lists.{Text, Each}
use Rattle.spec_history.specs.Meaning.{Meaning}
use Rattle.spec_history.specs.Facts.{Fact, no_digest, mark_of, Shows}
use Rattle.spec_history.specs.Marks.{NoneCounted}
use Rattle.spec_history.specs.Acts.{SessionAct, lacks, Act, by, of, shown, all_shown, marked}
use Rattle.spec_history.specs.Worlds.{first, run}
use Rattle.spec_history.specs.Guards.{Good}
use Rattle.spec_history.proofs.Trace.{marks_to}
use Rattle.spec_history.proofs.Cuts.{good_append, cut}
use Rattle.spec_history.proofs.Signs.{marks_same, shows_facts}
use Rattle.spec_history.proofs.Finding.{find, is_lacks}
use Rattle.spec_history.proofs.Setup.{shows_weaker}
use Rattle.spec_history.proofs.Refused.{each_left}

module _ (q : Meaning) (db : Text) (es : List Act) (g : Good q db first es) where
  pub none_before : (i : ℕ) (before after : List Fact) → all_shown (of i es) ≡ before ++ no_digest ∷ after → NoneCounted (run first es).items before
  none_before i before after e = let f = find (of i es) before after no_digest e in
      let is : of i es ≡ f.front ++ lacks ∷ f.back = f.is ∙ ap (λ (a : SessionAct). f.front ++ a ∷ f.back) (is_lacks f.act f.shows) in
      let c = cut i es f.front f.back lacks is in
      let two = good_append q db first c.earlier (by i lacks ∷ c.later) (subst (Good q db first) c.is g) in
      let none : tx_count (run first c.earlier).items ≡ 0 = two.1.0.1 in
      let m = subst (Shows marked (λ m. m ≤ tx_count (run first c.earlier).items)) c.before (marks_to q db i first c.earlier two.0) in
      let k = each_left (λ a. Each (λ f. mark_of (run first es).items f ≡ marked a) (shown a)) f.front (lacks ∷ f.back) (subst (Each (λ a. Each (λ f. mark_of (run first es).items f ≡ marked a) (shown a))) is (marks_same q db i first es g)) in
      subst (NoneCounted (run first es).items) f.before (shows_weaker (mark_of (run first es).items) (λ m. m ≤ tx_count (run first c.earlier).items) (λ m. m ≡ 0) (λ m l. omega arith) (all_shown f.front) (shows_facts (mark_of (run first es).items) marked (λ m. m ≤ tx_count (run first c.earlier).items) f.front k m))
