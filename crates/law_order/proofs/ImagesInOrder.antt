-- An image has the blocks of all digests before it, whoever was issued them.
use Rattle.std.proofs.Common.{◌≡◌, ℕ, ◌<◌, List, [], ◌∷◌, ◌++◌, sym, ap, ◌∙◌, arith}
use Rattle.std.specs.Prelude.{take}
use Rattle.std.proofs.lemmas.List.{take_at}
use Rattle.spec_history.specs.Acts.{SessionAct, starts, takes, looks, issues, keeps, answers, stops, Act, by, closes, shown}
use Rattle.spec_history.specs.Digests.{Digest}
use Rattle.spec_history.specs.Guards.{IsEnabled, Good}
use Rattle.spec_history.specs.Journals.{blocks}
use Rattle.spec_history.specs.Lists.{Text, Each}
use Rattle.spec_history.specs.Marks.{ClosedIn, ImagesHave}
use Rattle.spec_history.specs.Meaning.{Meaning}
use Rattle.spec_history.specs.Worlds.{World, step, run}
use Rattle.spec_history.proofs.Grows.{grows, blocks_step}
use Rattle.law_history.proofs.Order.{facts_in}
use Rattle.spec_history.proofs.Trace.{each_append}

module _ (q : Meaning) (db : Text) where
  image_has : (w : World) (s b : ℕ) (a : SessionAct) (es : List Act) → IsEnabled q db w (by s a) → b < blocks w.items → Each (ClosedIn (run w (by s a ∷ es)).items b) (shown a)
  image_has w s b (keeps m mark) es k h = let g = grows w (by s (keeps m mark) ∷ es) in
      let whole : take m (run w (by s (keeps m mark) ∷ es)).items ≡ w.items = ap (take m) g.1 ∙ take_at w.items g.0 m (sym k.1) in ((rw whole h), tt)
  image_has w s b (starts name) es k h = tt
  image_has w s b (takes text) es k h = tt
  image_has w s b (looks text table) es k h = tt
  image_has w s b (answers entry) es k h = tt
  image_has w s b stops es k h = tt
  image_has w s b a es k h = (tt, tt)

  images_behind : (b : ℕ) (w : World) (es : List Act) → Good q db w es → b < blocks w.items → Each (ClosedIn (run w es).items b) (facts_in es)
  images_behind b w [] g h = tt
  images_behind b w (by t a ∷ es) g h = each_append (ClosedIn (run w (by t a ∷ es)).items b) (shown a) (facts_in es) (image_has w t b a es g.0 h) (images_behind b (step w (by t a)) es g.1 (omega (arith, blocks_step w (by t a))))
  images_behind b w (closes k ∷ es) g h = images_behind b (step w (closes k)) es g.1 (omega (arith, blocks_step w (closes k)))

  issued_block : (w : World) (t mark : ℕ) (d : Digest) → IsEnabled q db w (by t (issues d mark)) → d.block < blocks (step w (by t (issues d mark))).items
  issued_block w t mark d k = omega (arith, k.last, blocks_step w (by t (issues d mark)))

  pub have_blocks : (w : World) (es : List Act) → Good q db w es → ImagesHave (run w es).items (facts_in es)
  have_blocks w [] g = tt
  have_blocks w (closes k ∷ es) g = have_blocks (step w (closes k)) es g.1
  have_blocks w (by t a ∷ es) g = by_act w t a es g (have_blocks (step w (by t a)) es g.1)
    where
      by_act : (w : World) (t : ℕ) (a : SessionAct) (es : List Act) → Good q db w (by t a ∷ es) → ImagesHave (run w (by t a ∷ es)).items (facts_in es) → ImagesHave (run w (by t a ∷ es)).items (shown a ++ facts_in es)
      by_act w t (issues d mark) es g h = (images_behind d.block (step w (by t (issues d mark))) es g.1 (issued_block w t mark d g.0), h)
      by_act w t a es g h = h
