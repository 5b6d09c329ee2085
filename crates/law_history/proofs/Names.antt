-- A session that began keeps its name, so its transactions in the journal are those with its name.
use Rattle.std.proofs.Common.{◌≡◌, ◌≢◌, ℕ, ◌<◌, Bool, true, false, List, [], ◌∷◌, refl, sym, ap, ◌∙◌, subst}
use Rattle.std.specs.Prelude.{◌==◌}
use Rattle.std.specs.Str.{bytes_eq}
use Rattle.std.proofs.lemmas.Bool.{eqb-true, eq-eqb}
use Rattle.std.proofs.lemmas.Slice.Eq.{bytes_eq-Decides}
use Rattle.spec_history.specs.Lists.{Text}
use Rattle.spec_history.specs.Meaning.{Meaning}
use Rattle.spec_history.specs.Acts.{SessionAct, starts, stops, Act, by, closes}
use Rattle.spec_history.specs.Sessions.{SessionState, unborn, runs, acted}
use Rattle.spec_history.specs.Worlds.{World, put, step, run}
use Rattle.spec_history.specs.Guards.{IsEnabled, Good}
use Rattle.spec_history.specs.Histories.{SessionsBelow}
use Rattle.law_history.proofs.Placed.{Picks, PicksAll}

-- it began and has this name
abbrev pub Named : Text → SessionState → Type 0
Named n x = (x.phase ≢ unborn) × (x.name ≡ n)

module _ (q : Meaning) (db : Text) where
  named_act : (n : Text) (w : World) (s : ℕ) (a : SessionAct) → IsEnabled q db w (by s a) → Named n (w.at s) → Named n (acted (w.at s) a)
  named_act n w s (starts name) k h = absurd (h.0 (ap (λ (x : SessionState). x.phase) k))
  named_act n w s stops k h = ((λ e. cc), h.1)
  named_act n w s a k h = h

  named_cases : (n : Text) (w : World) (t s : ℕ) (a : SessionAct) (b : Bool) → (s == t) ≡ b → IsEnabled q db w (by t a) → Named n (w.at s) → Named n (put w.at t (acted (w.at t) a) s)
  named_cases n w t s a true e k h = rw e (named_act n w t a k (subst (λ (u : ℕ). Named n (w.at u)) (eqb-true s t e) h))
  named_cases n w t s a false e k h = rw e h

  pub keeps_name : (n : Text) (s : ℕ) (w : World) (es : List Act) → Good q db w es → Named n (w.at s) → Named n ((run w es).at s)
  keeps_name n s w [] g h = h
  keeps_name n s w (by t a ∷ es) g h = keeps_name n s (step w (by t a)) es g.1 (named_cases n w t s a (s == t) refl g.0 h)
  keeps_name n s w (closes k ∷ es) g h = keeps_name n s (step w (closes k)) es g.1 h

  -- sessions below k have different names at the end
  abbrev pub Apart : (ℕ → SessionState) → ℕ → ℕ → Type 0
  Apart at k s = (t : ℕ) → t < k → t ≢ s → (at t).name ≢ (at s).name

  pick_name : (x y : Text) (t s : ℕ) (b : Bool) → (t == s) ≡ b → (t ≡ s → x ≡ y) → (t ≢ s → x ≢ y) → bytes_eq x y ≡ b
  pick_name x y t s true e same apart = (bytes_eq-Decides x y).1 (same (eqb-true t s e))
  pick_name x y t s false e same apart = not_both (bytes_eq x y) refl
    where
      not_both : (c : Bool) → bytes_eq x y ≡ c → bytes_eq x y ≡ false
      not_both false f = f
      not_both true f = absurd (apart (λ d. let is : (t == s) ≡ true = eq-eqb t s d in cc) ((bytes_eq-Decides x y).0 f))

  -- at each commit only the committing session's name is picked
  module _ (end : World) (k s : ℕ) (apart : Apart end.at k s) where
    abbrev Pick : ℕ → Text → Bool
    Pick id name = bytes_eq name (end.at s).name

    abbrev AllBelow : World → Type 0
    AllBelow w = (t : ℕ) → (w.at t).phase ≡ runs → t < k

    picks : (w : World) (es : List Act) → Good q db w es → run w es ≡ end → AllBelow w → Picks q db Pick s w
    picks w es g e below t d r has = let n = keeps_name (w.at t).name t w es g ((λ u. cc), refl) in
        let is : (end.at t).name ≡ (w.at t).name = subst (λ (v : World). (v.at t).name ≡ (w.at t).name) e n.1 in
        pick_name (w.at t).name (end.at s).name t s (t == s) refl (λ same. sym is ∙ ap (λ (u : ℕ). (end.at u).name) same) (λ ne same. apart t (below t r) ne (is ∙ same))

    below_step : (w : World) (t u : ℕ) (a : SessionAct) (b : Bool) → (u == t) ≡ b → t < k → AllBelow w → (put w.at t (acted (w.at t) a) u).phase ≡ runs → u < k
    below_step w t u a true e l below r = subst (λ (v : ℕ). v < k) (sym (eqb-true u t e)) l
    below_step w t u a false e l below r = below u (let same : (put w.at t (acted (w.at t) a) u) ≡ w.at u = rw e refl in sym (ap (λ (x : SessionState). x.phase) same) ∙ r)

    pub picks_all : (w : World) (es : List Act) → Good q db w es → run w es ≡ end → SessionsBelow k es → AllBelow w → PicksAll q db Pick s w es
    picks_all w [] g e b below = tt
    picks_all w (by t a ∷ es) g e b below = (picks w (by t a ∷ es) g e below, picks_all (step w (by t a)) es g.1 e b.1 (λ u r. below_step w t u a (u == t) refl b.0 below r))
    picks_all w (closes n ∷ es) g e b below = (picks w (closes n ∷ es) g e below, picks_all (step w (closes n)) es g.1 e b below)
