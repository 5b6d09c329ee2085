-- Ids are assigned from the past's next one on, each to one session.
use Rattle.std.proofs.Common.{◌≡◌, ◌≢◌, ℕ, ◌+◌, ◌<◌, ◌≤◌, Bool, true, false, List, [], ◌∷◌, ◌++◌, refl, sym, ◌∙◌, subst, ⊎_elim, inl, inr, arith}
use Rattle.std.specs.Prelude.{if◌then◌else◌, ◌==◌}
use Rattle.std.proofs.lemmas.Bool.{eq-eqb, ne_eqb, cases_eq}
use Rattle.spec_history.specs.Lists.{Text, Some_of, In}
use Rattle.spec_history.specs.Meaning.{Meaning}
use Rattle.spec_history.specs.Facts.{Fact, id_of, Shows}
use Rattle.spec_history.specs.Acts.{SessionAct, assigns_id, Act, by, closes, of, shown, all_shown}
use Rattle.spec_history.specs.Worlds.{World, step, run}
use Rattle.spec_history.specs.Guards.{Good}
use Rattle.law_history.proofs.Owners.{own_of, AllOwned}
use Rattle.spec_history.proofs.Signs.{ids_facts}
use Rattle.spec_history.proofs.Trace.{ids_from, ids_to}

some_append : (P : Fact → Type 0) (gs hs : List Fact) → Some_of P hs → Some_of P (gs ++ hs)
some_append P [] hs h = h
some_append P (g ∷ gs) hs h = inr (some_append P gs hs h)

some_more : (P : Fact → Type 0) (b : Bool) (a : SessionAct) (xs : List SessionAct) → Some_of P (all_shown xs) → Some_of P (all_shown (if b then a ∷ xs else xs))
some_more P true a xs h = some_append P (shown a) (all_shown xs) h
some_more P false a xs h = h

own_here : (s n i : ℕ) (o : Bool) (es : List Act) → n ≡ i → own_of (by s (assigns_id n o) ∷ es) i ≡ s
own_here s n i o es e = rw (eq-eqb n i e) refl

own_else : (s n i : ℕ) (o : Bool) (es : List Act) → n ≢ i → own_of (by s (assigns_id n o) ∷ es) i ≡ own_of es i
own_else s n i o es ne = rw (ne_eqb n i ne) refl

here : (s n i : ℕ) (o : Bool) (es : List Act) → n ≡ i → Some_of (λ g. In i (id_of g)) (all_shown (of s (by s (assigns_id n o) ∷ es)))
here s n i o es e = rw (eq-eqb s s refl) (inl (inl e))

le_but_ne : (a n i : ℕ) → n ≡ a → n ≢ i → a ≤ i → a + 1 ≤ i
le_but_ne a n i e ne l = omega arith

module _ (q : Meaning) (db : Text) where
  owned_later : (own : ℕ → ℕ) (w : World) (es : List Act) → Good q db w es → ((id : ℕ) → w.next ≤ id → own id ≡ own_of es id) → AllOwned own es
  owned_later own w [] g h = tt
  owned_later own w (by s (assigns_id n explicit) ∷ es) g h = ((h n (omega (arith, g.0.2)) ∙ (rw (eq-eqb n n refl) refl)), owned_later own (step w (by s (assigns_id n explicit))) es g.1 (λ id le. h id (omega arith) ∙ (let ne : n ≢ id = λ e. absurd (omega (arith, g.0.2)) in rw (ne_eqb n id ne) refl)))
  owned_later own w (by s a ∷ es) g h = (tt, owned_later own (step w (by s a)) es g.1 (λ id le. h id (omega arith)))
  owned_later own w (closes k ∷ es) g h = owned_later own (step w (closes k)) es g.1 h

  pub all_owned : (w : World) (es : List Act) → Good q db w es → AllOwned (own_of es) es
  all_owned w es g = owned_later (own_of es) w es g (λ id le. refl)

  -- each id that was drawn is shown by its owner
  pub assigned_by : (w : World) (es : List Act) (i : ℕ) → Good q db w es → w.next ≤ i → i < (run w es).next → Some_of (λ g. In i (id_of g)) (all_shown (of (own_of es i) es))
  assigned_by w [] i g l h = absurd (omega arith)
  assigned_by w (by s (assigns_id n explicit) ∷ es) i g l h = ⊎_elim
      (λ (e : n ≡ i). subst (λ (u : ℕ). Some_of (λ g. In i (id_of g)) (all_shown (of u (by s (assigns_id n explicit) ∷ es)))) (sym (own_here s n i explicit es e)) (here s n i explicit es e))
      (λ (ne : n ≢ i). subst (λ (u : ℕ). Some_of (λ g. In i (id_of g)) (all_shown (of u (by s (assigns_id n explicit) ∷ es)))) (sym (own_else s n i explicit es ne)) (some_more (λ g. In i (id_of g)) (s == own_of es i) (assigns_id n explicit) (of (own_of es i) es) (assigned_by (step w (by s (assigns_id n explicit))) es i g.1 (let e = g.0.2 in le_but_ne w.next n i e ne l) h)))
      (cases_eq n i)
  assigned_by w (by s a ∷ es) i g l h = some_more (λ g. In i (id_of g)) (s == own_of es i) a (of (own_of es i) es) (assigned_by (step w (by s a)) es i g.1 (omega arith) h)
  assigned_by w (closes k ∷ es) i g l h = assigned_by (step w (closes k)) es i g.1 l h

  pub ids_low : (w : World) (es : List Act) (s : ℕ) → Good q db w es → Shows id_of (λ i. w.next ≤ i) (all_shown (of s es))
  ids_low w es s g = ids_facts (λ i. w.next ≤ i) (of s es) (ids_from q db w.next s w es g (omega arith))

  pub ids_high : (w : World) (es : List Act) (s : ℕ) → Good q db w es → Shows id_of (λ i. i < (run w es).next) (all_shown (of s es))
  ids_high w es s g = ids_facts (λ i. i < (run w es).next) (of s es) (ids_to q db s w es g)
