-- What is said of a session and of what its acts have shown so far.
use Rattle.std.proofs.Common.{◌≡◌, ◌≢◌, ℕ, Bool, true, false, List, [], ◌∷◌, ◌++◌, Option, refl, sym, ap, ◌∙◌, subst, ⊎_elim, append-nil, append_assoc}
use Rattle.std.proofs.lemmas.Bool.{eqb-true, eq-eqb, ne_eqb, cases_eq}
use Rattle.std.specs.Prelude.{if◌then◌else◌, ◌==◌}
use Rattle.spec_history.specs.Lists.{Text}
use Rattle.spec_history.specs.Meaning.{Meaning}
use Rattle.spec_history.specs.Transcripts.{Entry}
use Rattle.spec_history.specs.Facts.{Fact, entry_facts, open_after, open_at_end, facts}
use Rattle.spec_history.specs.Acts.{SessionAct, Act, by, closes, of, shown, all_shown}
use Rattle.spec_history.specs.Sessions.{SessionState, acted}
use Rattle.spec_history.specs.Worlds.{World, put, step, run}
use Rattle.spec_history.specs.Guards.{IsEnabled, Good}

pub eqb_sym : (s t : ℕ) → (s == t) ≡ (t == s)
eqb_sym s t = ⊎_elim (λ (e : s ≡ t). eq-eqb s t e ∙ sym (eq-eqb t s (sym e))) (λ (n : s ≢ t). ne_eqb s t n ∙ sym (ne_eqb t s (λ e. n (sym e)))) (cases_eq s t)

pub shown_append : (xs ys : List SessionAct) → all_shown (xs ++ ys) ≡ all_shown xs ++ all_shown ys
shown_append [] ys = refl
shown_append (a ∷ xs) ys = ap (λ (l : List Fact). shown a ++ l) (shown_append xs ys) ∙ sym (append_assoc (shown a) (all_shown xs) (all_shown ys))

module _ (q : Meaning) (db : Text) (R : SessionState → List Fact → Type 0) (each : (w : World) (s : ℕ) (a : SessionAct) (gs : List Fact) → IsEnabled q db w (by s a) → R (w.at s) gs → R (acted (w.at s) a) (gs ++ shown a)) where
  followed : (s t : ℕ) (b : Bool) (w : World) (a : SessionAct) (xs : List SessionAct) (gs : List Fact) (y : SessionState) → (t == s) ≡ b → (s == t) ≡ b → IsEnabled q db w (by t a)
      → ((hs : List Fact) → R (put w.at t (acted (w.at t) a) s) hs → R y (hs ++ all_shown xs)) → R (w.at s) gs → R y (gs ++ all_shown (if b then a ∷ xs else xs))
  followed s t true w a xs gs y d d' k ih r = let same : s ≡ t = eqb-true s t d' in
      subst (λ (l : List Fact). R y l) (append_assoc gs (shown a) (all_shown xs)) (ih (gs ++ shown a) (rw d' (each w t a gs k (subst (λ (u : ℕ). R (w.at u) gs) same r))))
  followed s t false w a xs gs y d d' k ih r = ih gs (rw d' r)

  -- what each act keeps, with what it shows, holds of each session at each time
  pub follow : (s : ℕ) (w : World) (es : List Act) (gs : List Fact) → Good q db w es → R (w.at s) gs → R ((run w es).at s) (gs ++ all_shown (of s es))
  follow s w [] gs g r = subst (λ (l : List Fact). R (w.at s) l) (sym (append-nil gs)) r
  follow s w (by t a ∷ es) gs g r = followed s t (t == s) w a (of s es) gs ((run w (by t a ∷ es)).at s) refl (eqb_sym s t) g.0 (λ hs h. follow s (step w (by t a)) es hs g.1 h) r
  follow s w (closes k ∷ es) gs g r = follow s (step w (closes k)) es gs g.1 r

-- ---- entries

pub open_append : (o : Option ℕ) (es fs : List Entry) → open_at_end o (es ++ fs) ≡ open_at_end (open_at_end o es) fs
open_append o [] fs = refl
open_append o (e ∷ es) fs = open_append (open_after o e) es fs

pub facts_append : (q : Meaning) (o : Option ℕ) (es fs : List Entry) → facts q o (es ++ fs) ≡ facts q o es ++ facts q (open_at_end o es) fs
facts_append q o [] fs = refl
facts_append q o (e ∷ es) fs = ap (λ (l : List Fact). entry_facts q o e ++ l) (facts_append q (open_after o e) es fs) ∙ sym (append_assoc (entry_facts q o e) (facts q (open_after o e) es) (facts q (open_at_end (open_after o e) es) fs))
