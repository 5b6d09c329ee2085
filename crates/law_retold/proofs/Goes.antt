-- Histories that go on part by part.
use Rattle.std.proofs.Common.{◌≡◌, ◌≢◌, ℕ, Bool, List, [], ◌∷◌, ◌++◌, map, refl, sym, ap, ◌∙◌, subst}
use Rattle.std.proofs.lemmas.Bool.{ne_eqb}
use Rattle.std.specs.Prelude.{if◌then◌else◌}
use Rattle.spec_history.specs.Lists.{Text, Each}
use Rattle.spec_history.specs.Meaning.{Meaning}
use Rattle.spec_history.specs.Acts.{SessionAct, Act, by, of}
use Rattle.spec_history.specs.Worlds.{World, step, run}
use Rattle.spec_history.specs.Guards.{Good}
use Rattle.spec_history.proofs.Cuts.{of_append, run_append}
use Rattle.spec_history.proofs.Trace.{each_append}
use Rattle.law_retold.specs.Retold.{KeepsNone}

good_join : (q : Meaning) (db : Text) (w : World) (es fs : List Act) → Good q db w es → Good q db (run w es) fs → Good q db w (es ++ fs)
good_join q db w [] fs g h = h
good_join q db w (e ∷ es) fs g h = (g.0, good_join q db (step w e) es fs g.1 h)

-- such a part may happen, keeps no image, and leads to a world of which this holds
pub record Goes (q : Meaning) (db : Text) (w : World) (es : List Act) (Q : World → Type 0) : Type 0 where
  pub good : Good q db w es
  pub leads : Q (run w es)
  pub keep : (t : ℕ) → Each KeepsNone (of t es)

pub goes_on : (q : Meaning) (db : Text) (w : World) (es fs : List Act) (Q R : World → Type 0) → Goes q db w es Q → ((v : World) → Q v → Goes q db v fs R) → Goes q db w (es ++ fs) R
goes_on q db w es fs Q R g f = let h = f (run w es) g.leads in record {
  good = good_join q db w es fs g.good h.good;
  leads = subst R (sym (run_append w es fs)) h.leads;
  keep = λ t. subst (Each KeepsNone) (sym (of_append t es fs)) (each_append KeepsNone (of t es) (of t fs) (g.keep t) (h.keep t));
}

-- what others do isn't a session's
pub not_of : (s t : ℕ) (xs : List SessionAct) → t ≢ s → of t (map (by s) xs) ≡ []
not_of s t [] ne = refl
not_of s t (a ∷ xs) ne = ap (λ (b : Bool). if b then a ∷ of t (map (by s) xs) else of t (map (by s) xs)) (ne_eqb s t (λ e. ne (sym e))) ∙ not_of s t xs ne
