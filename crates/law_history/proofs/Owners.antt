-- Whose each id is: ids are drawn one after another, so each has one session.
use Rattle.std.proofs.Common.{◌≡◌, ◌≢◌, ℕ, ◌+◌, ◌<◌, ◌≤◌, Bool, true, false, List, [], ◌∷◌, ◌++◌, refl, sym, ◌∙◌, subst, ⊎_elim, inl, inr, arith}
use Rattle.std.specs.Prelude.{if◌then◌else◌, ◌==◌}
use Rattle.std.proofs.lemmas.Bool.{eqb-true, eq-eqb, ne_eqb, cases_eq}
use Rattle.spec_history.specs.Lists.{Text, Each, Some_of, In}
use Rattle.spec_history.specs.Meaning.{Meaning}
use Rattle.spec_history.specs.Facts.{Fact, id_of, Shows}
use Rattle.spec_history.specs.Acts.{SessionAct, starts, takes, assigns_id, looks, answers, stops, Act, by, closes, of, shown, all_shown}
use Rattle.spec_history.specs.Worlds.{World, first, step, run}
use Rattle.spec_history.specs.Guards.{Good}
use Rattle.spec_history.proofs.Trace.{each_append, ids_from, ids_to}
use Rattle.spec_history.proofs.Signs.{ids_facts}

-- the session that draws this id
abbrev pub own_of : List Act → ℕ → ℕ
own_of [] id = 0
own_of (by s (assigns_id n explicit) ∷ es) id = if n == id then s else own_of es id
own_of (e ∷ es) id = own_of es id

abbrev pub OwnedBy : (ℕ → ℕ) → ℕ → SessionAct → Type 0
OwnedBy own s (assigns_id id explicit) = own id ≡ s
OwnedBy own s _ = Unit {0}

abbrev pub AllOwned : (ℕ → ℕ) → List Act → Type 0
AllOwned own [] = Unit {0}
AllOwned own (by s a ∷ es) = OwnedBy own s a × AllOwned own es
AllOwned own (closes k ∷ es) = AllOwned own es

module _ (q : Meaning) (db : Text) where
  owned_later : (own : ℕ → ℕ) (w : World) (es : List Act) → Good q db w es → ((id : ℕ) → w.next ≤ id → own id ≡ own_of es id) → AllOwned own es
  owned_later own w [] g h = tt
  owned_later own w (by s (assigns_id n explicit) ∷ es) g h = ((h n (omega (arith, g.0.2)) ∙ (rw (eq-eqb n n refl) refl)), owned_later own (step w (by s (assigns_id n explicit))) es g.1 (λ id le. h id (omega arith) ∙ (let ne : n ≢ id = λ e. absurd (omega (arith, g.0.2)) in rw (ne_eqb n id ne) refl)))
  owned_later own w (by s a ∷ es) g h = (tt, owned_later own (step w (by s a)) es g.1 (λ id le. h id (omega arith)))
  owned_later own w (closes k ∷ es) g h = owned_later own (step w (closes k)) es g.1 h

  pub all_owned : (es : List Act) → Good q db first es → AllOwned (own_of es) es
  all_owned es g = owned_later (own_of es) first es g (λ id le. refl)

-- ---- what a session's part shows

facts_owned : (own : ℕ → ℕ) (s : ℕ) (a : SessionAct) → OwnedBy own s a → Each (λ g. Each (λ id. own id ≡ s) (id_of g)) (shown a)
facts_owned own s (assigns_id id explicit) h = ((h, tt), tt)
facts_owned own s (starts name) h = tt
facts_owned own s (takes text) h = tt
facts_owned own s (looks text table) h = tt
facts_owned own s (answers entry) h = tt
facts_owned own s stops h = tt
facts_owned own s a h = (tt, tt)

owned_one : (own : ℕ → ℕ) (s t : ℕ) (a : SessionAct) (xs : List SessionAct) (b : Bool) → (t == s) ≡ b → OwnedBy own t a → Shows id_of (λ id. own id ≡ s) (all_shown xs) → Shows id_of (λ id. own id ≡ s) (all_shown (if b then a ∷ xs else xs))
owned_one own s t a xs true e k h = each_append (λ g. Each (λ id. own id ≡ s) (id_of g)) (shown a) (all_shown xs) (facts_owned own s a (subst (λ (u : ℕ). OwnedBy own u a) (eqb-true t s e) k)) h
owned_one own s t a xs false e k h = h

pub owned_facts : (own : ℕ → ℕ) (s : ℕ) (es : List Act) → AllOwned own es → Shows id_of (λ id. own id ≡ s) (all_shown (of s es))
owned_facts own s [] h = tt
owned_facts own s (by t a ∷ es) h = owned_one own s t a (of s es) (t == s) refl h.0 (owned_facts own s es h.1)
owned_facts own s (closes k ∷ es) h = owned_facts own s es h

-- ---- each id that was drawn is shown by its owner

some_append : (P : Fact → Type 0) (gs hs : List Fact) → Some_of P hs → Some_of P (gs ++ hs)
some_append P [] hs h = h
some_append P (g ∷ gs) hs h = inr (some_append P gs hs h)

some_more : (P : Fact → Type 0) (b : Bool) (a : SessionAct) (xs : List SessionAct) → Some_of P (all_shown xs) → Some_of P (all_shown (if b then a ∷ xs else xs))
some_more P true a xs h = some_append P (shown a) (all_shown xs) h
some_more P false a xs h = h

own_here : (s n i : ℕ) (o : Bool) (es : List Act) → n ≡ i → own_of (by s (assigns_id n o) ∷ es) i ≡ s
own_here s n i o es e = rw (eq-eqb n i e) refl

own_else : (s n i : ℕ) (o : Bool) (es : List Act) → n ≢ i → own_of (by s (assigns_id n o) ∷ es) i ≡ own_of es i
own_else s n i o es ne = rw (ne_eqb n i ne) refl

here : (s n i : ℕ) (o : Bool) (es : List Act) → n ≡ i → Some_of (λ g. In i (id_of g)) (all_shown (of s (by s (assigns_id n o) ∷ es)))
here s n i o es e = rw (eq-eqb s s refl) (inl (inl e))

le_but_ne : (a n i : ℕ) → n ≡ a → n ≢ i → a ≤ i → a + 1 ≤ i
le_but_ne a n i e ne l = omega arith

module _ (q : Meaning) (db : Text) where
  all_ids_assigned : (w : World) (es : List Act) (i : ℕ) → Good q db w es → w.next ≤ i → i < (run w es).next → Some_of (λ g. In i (id_of g)) (all_shown (of (own_of es i) es))
  all_ids_assigned w [] i g l h = absurd (omega arith)
  all_ids_assigned w (by s (assigns_id n explicit) ∷ es) i g l h = ⊎_elim
      (λ (e : n ≡ i). subst (λ (u : ℕ). Some_of (λ g. In i (id_of g)) (all_shown (of u (by s (assigns_id n explicit) ∷ es)))) (sym (own_here s n i explicit es e)) (here s n i explicit es e))
      (λ (ne : n ≢ i). subst (λ (u : ℕ). Some_of (λ g. In i (id_of g)) (all_shown (of u (by s (assigns_id n explicit) ∷ es)))) (sym (own_else s n i explicit es ne)) (some_more (λ g. In i (id_of g)) (s == own_of es i) (assigns_id n explicit) (of (own_of es i) es) (all_ids_assigned (step w (by s (assigns_id n explicit))) es i g.1 (let e = g.0.2 in le_but_ne w.next n i e ne l) h)))
      (cases_eq n i)
  all_ids_assigned w (by s a ∷ es) i g l h = some_more (λ g. In i (id_of g)) (s == own_of es i) a (of (own_of es i) es) (all_ids_assigned (step w (by s a)) es i g.1 (omega arith) h)
  all_ids_assigned w (closes k ∷ es) i g l h = all_ids_assigned (step w (closes k)) es i g.1 l h

  pub assigned_by : (es : List Act) (i : ℕ) → Good q db first es → 1 ≤ i → i < (run first es).next → Some_of (λ g. In i (id_of g)) (all_shown (of (own_of es i) es))
  assigned_by es i g l h = all_ids_assigned first es i g l h

  -- who shows ids is one of the sessions
  pub within_ids : (es : List Act) (s : ℕ) → Good q db first es → Shows id_of (λ i. (1 ≤ i) × (i < (run first es).next)) (all_shown (of s es))
  within_ids es s g = pairs (all_shown (of s es)) (ids_facts (λ i. 1 ≤ i) (of s es) (ids_from q db 1 s first es g (omega arith))) (ids_facts (λ i. i < (run first es).next) (of s es) (ids_to q db s first es g))
    where
      pair : (xs : List ℕ) → Each (λ i. 1 ≤ i) xs → Each (λ i. i < (run first es).next) xs → Each (λ i. (1 ≤ i) × (i < (run first es).next)) xs
      pair [] h k = tt
      pair (x ∷ xs) h k = ((h.0, k.0), pair xs h.1 k.1)

      pairs : (gs : List Fact) → Shows id_of (λ i. 1 ≤ i) gs → Shows id_of (λ i. i < (run first es).next) gs → Shows id_of (λ i. (1 ≤ i) × (i < (run first es).next)) gs
      pairs [] h k = tt
      pairs (x ∷ xs) h k = (pair (id_of x) h.0 k.0, pairs xs h.1 k.1)
