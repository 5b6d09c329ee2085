-- A session that is over is at rest, and so has no transaction.
use Rattle.std.proofs.Common.{◌≡◌, ℕ, Bool, true, false, List, [], ◌∷◌, None, refl, sym, ◌∙◌, append-nil}
use Rattle.std.proofs.lemmas.Bool.{eq-eqb}
use Rattle.std.specs.Prelude.{◌==◌, if◌then◌else◌}
use Rattle.spec_history.specs.Lists.{Text}
use Rattle.spec_history.specs.Meaning.{Meaning}
use Rattle.spec_history.specs.Acts.{SessionAct, starts, takes, assigns_id, looks, says, fails, meets, commits, ends, releases_locks, issues, keeps, lacks, answers, stops, Act, by, closes, of}
use Rattle.spec_history.specs.Sessions.{gone, phase_by, acted}
use Rattle.spec_history.specs.Guards.{AtRest, IsEnabled, Good}
use Rattle.spec_history.specs.Worlds.{World, first, step, run}
use Rattle.spec_history.proofs.Setup.{silent}

abbrev GoneRest : World → Type 0
GoneRest w = (n : ℕ) → (w.at n).phase ≡ gone → AtRest (w.at n)

module _ (q : Meaning) (db : Text) where
  -- one that is over does nothing
  acts_not : (w : World) (s : ℕ) (a : SessionAct) → IsEnabled q db w (by s a) → (w.at s).phase ≡ gone → ⊥
  acts_not w s a k e = let r : of s (by s a ∷ []) ≡ [] = (silent q db s w (by s a ∷ []) e (k, tt)).0 in
      let z : (a ∷ []) ≡ [] = sym (rw (eq-eqb s s refl) refl) ∙ r in cc

  by_act : (w : World) (s : ℕ) (a : SessionAct) → IsEnabled q db w (by s a) → phase_by (w.at s).phase a ≡ gone → AtRest (acted (w.at s) a)
  by_act w s (starts name) k e = cc
  by_act w s stops k e = record { idle = k.1.idle; shown = append-nil _ ∙ k.1.shown; none_open = k.1.none_open; free = k.1.free }
  by_act w s (takes text) k e = absurd (acts_not w s (takes text) k e)
  by_act w s (assigns_id id explicit) k e = absurd (acts_not w s (assigns_id id explicit) k e)
  by_act w s (looks text table) k e = absurd (acts_not w s (looks text table) k e)
  by_act w s (says line) k e = absurd (acts_not w s (says line) k e)
  by_act w s (fails text) k e = absurd (acts_not w s (fails text) k e)
  by_act w s (meets text holder) k e = absurd (acts_not w s (meets text holder) k e)
  by_act w s (commits time place) k e = absurd (acts_not w s (commits time place) k e)
  by_act w s (ends n back) k e = absurd (acts_not w s (ends n back) k e)
  by_act w s releases_locks k e = absurd (acts_not w s releases_locks k e)
  by_act w s (issues d mark) k e = absurd (acts_not w s (issues d mark) k e)
  by_act w s (keeps items mark) k e = absurd (acts_not w s (keeps items mark) k e)
  by_act w s lacks k e = absurd (acts_not w s lacks k e)
  by_act w s (answers entry) k e = absurd (acts_not w s (answers entry) k e)

  rest_after : (w : World) (h : List Act) → GoneRest w → Good q db w h → GoneRest (run w h)
  rest_after w [] f g = f
  rest_after w (by s a ∷ es) f g = rest_after (step w (by s a)) es then_rest g.1
    where
      then_rest : GoneRest (step w (by s a))
      then_rest n = at (n == s)
        where
          at : (b : Bool) → (if b then acted (w.at s) a else w.at n).phase ≡ gone → AtRest (if b then acted (w.at s) a else w.at n)
          at true e = by_act w s a g.0 e
          at false e = f n e
  rest_after w (closes k ∷ es) f g = rest_after (step w (closes k)) es f g.1

  pub gone_rests : (h : List Act) → Good q db first h → (n : ℕ) → ((run first h).at n).phase ≡ gone → AtRest ((run first h).at n)
  gone_rests h g = rest_after first h (λ n e. cc) g

  pub gone_free : (h : List Act) → Good q db first h → (n : ℕ) → ((run first h).at n).phase ≡ gone → ((run first h).at n).transaction ≡ None
  gone_free h g n e = (gone_rests h g n e).free
