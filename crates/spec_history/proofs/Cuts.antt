-- A history in two parts, and the moment at which a session did something.
use Rattle.std.proofs.Common.{◌≡◌, ℕ, Bool, true, false, List, [], ◌∷◌, ◌++◌, refl, ap, ◌∙◌}
use Rattle.std.proofs.lemmas.Bool.{eqb-true}
use Rattle.std.specs.Prelude.{if◌then◌else◌, ◌==◌}
use Rattle.spec_history.specs.Lists.{Text}
use Rattle.spec_history.specs.Meaning.{Meaning}
use Rattle.spec_history.specs.Acts.{SessionAct, Act, by, closes, of}
use Rattle.spec_history.specs.Worlds.{World, step, run}
use Rattle.spec_history.specs.Guards.{Good}

module _ (q : Meaning) (db : Text) where
  pub good_append : (w : World) (es fs : List Act) → Good q db w (es ++ fs) → Good q db w es × Good q db (run w es) fs
  good_append w [] fs g = (tt, g)
  good_append w (e ∷ es) fs g = let h = good_append (step w e) es fs g.1 in ((g.0, h.0), h.1)

pub run_append : (w : World) (es fs : List Act) → run w (es ++ fs) ≡ run (run w es) fs
run_append w [] fs = refl
run_append w (e ∷ es) fs = run_append (step w e) es fs

if_append : (b : Bool) (a : SessionAct) (xs ys zs : List SessionAct) → zs ≡ xs ++ ys → (if b then a ∷ zs else zs) ≡ (if b then a ∷ xs else xs) ++ ys
if_append true a xs ys zs e = ap (λ (l : List SessionAct). a ∷ l) e
if_append false a xs ys zs e = e

pub of_append : (s : ℕ) (es fs : List Act) → of s (es ++ fs) ≡ of s es ++ of s fs
of_append s [] fs = refl
of_append s (by t a ∷ es) fs = if_append (t == s) a (of s es) (of s fs) (of s (es ++ fs)) (of_append s es fs)
of_append s (closes k ∷ es) fs = of_append s es fs

pub record Cut (s : ℕ) (es : List Act) (xs ys : List SessionAct) (a : SessionAct) : Type 0 where
  pub earlier : List Act
  pub later : List Act
  pub is : es ≡ earlier ++ by s a ∷ later
  pub before : of s earlier ≡ xs
  pub after : of s later ≡ ys

further : (s : ℕ) (e : Act) (es : List Act) (us xs ys : List SessionAct) (a : SessionAct) → ((fs : List Act) → of s (e ∷ fs) ≡ us ++ of s fs) → Cut s es xs ys a → Cut s (e ∷ es) (us ++ xs) ys a
further s e es us xs ys a f c = record { earlier = e ∷ c.earlier; later = c.later; is = ap (λ (l : List Act). e ∷ l) c.is; before = f c.earlier ∙ ap (λ (l : List SessionAct). us ++ l) c.before; after = c.after }

no_middle : (xs ys : List SessionAct) (a : SessionAct) → [] ≡ xs ++ a ∷ ys → ⊥
no_middle [] ys a e = cc
no_middle (x ∷ xs) ys a e = cc

cut_by : (s t : ℕ) (b : Bool) (c : SessionAct) (es : List Act) (xs ys : List SessionAct) (a : SessionAct) → (t == s) ≡ b → ((us vs : List SessionAct) → of s es ≡ us ++ a ∷ vs → Cut s es us vs a) → (if b then c ∷ of s es else of s es) ≡ xs ++ a ∷ ys → Cut s (by t c ∷ es) xs ys a
cut_by s t false c es xs ys a d ih e = further s (by t c) es [] xs ys a (λ fs. rw d refl) (ih xs ys e)
cut_by s t true c es [] ys a d ih e = record { earlier = []; later = es; is = let same : t ≡ s = eqb-true t s d in let also : c ≡ a = cc in λ k. by (same k) (also k) ∷ es; before = refl; after = cc }
cut_by s t true c es (x ∷ xs) ys a d ih e = let same : c ≡ x = cc in let rest : of s es ≡ xs ++ a ∷ ys = cc in
    further s (by t c) es (x ∷ []) xs ys a (λ fs. rw d (ap (λ (y : SessionAct). y ∷ of s fs) same)) (ih xs ys rest)

-- a cut of one session's part is a cut of the history
pub cut : (s : ℕ) (es : List Act) (xs ys : List SessionAct) (a : SessionAct) → of s es ≡ xs ++ a ∷ ys → Cut s es xs ys a
cut s [] xs ys a e = absurd (no_middle xs ys a e)
cut s (by t c ∷ es) xs ys a e = cut_by s t (t == s) c es xs ys a refl (λ us vs h. cut s es us vs a h) e
cut s (closes k ∷ es) xs ys a e = further s (closes k) es [] xs ys a (λ fs. refl) (cut s es xs ys a e)
