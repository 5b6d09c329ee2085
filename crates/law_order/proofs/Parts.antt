-- What a history shows, in its order, and the part of one session.
use Rattle.std.proofs.Common.{◌≡◌, ◌≢◌, ℕ, ◌<◌, Bool, true, false, List, [], ◌∷◌, ◌++◌, refl, sym, ap, ◌∙◌, append_assoc}
use Rattle.std.specs.Prelude.{◌==◌, if◌then◌else◌}
use Rattle.std.specs.Str.{bytes_eq}
use Rattle.std.proofs.lemmas.Bool.{eqb-true, eq-eqb}
use Rattle.std.proofs.lemmas.Slice.Eq.{bytes_eq-Decides}
use Rattle.spec_history.specs.Acts.{SessionAct, Act, by, closes, of, shown, all_shown}
use Rattle.spec_history.specs.Facts.{Fact}
use Rattle.spec_history.specs.Histories.{SessionsBelow}
use Rattle.spec_history.specs.Lists.{Text, Each}
use Rattle.law_history.proofs.Order.{facts_in}
use Rattle.spec_history.proofs.Trace.{each_append}
use Rattle.law_order.specs.OneOrder.{SessionFact, facts_in_order, facts_of_session, named}

-- ---- facts of one name

facts_named : (name : Text) (gs : List Fact) (fs : List SessionFact) → facts_in_order (named name gs ++ fs) ≡ gs ++ facts_in_order fs
facts_named name [] fs = refl
facts_named name (g ∷ gs) fs = ap (λ (l : List Fact). g ∷ l) (facts_named name gs fs)

named_append : (name : Text) (gs hs : List Fact) → named name (gs ++ hs) ≡ named name gs ++ named name hs
named_append name [] hs = refl
named_append name (g ∷ gs) hs = ap (λ (l : List SessionFact). (name, g) ∷ l) (named_append name gs hs)

all_named : (P : Text → Type 0) (name : Text) (gs : List Fact) → P name → Each (λ f. P f.0) (named name gs)
all_named P name [] p = tt
all_named P name (g ∷ gs) p = (p, all_named P name gs p)

part_here : (name other : Text) (b : Bool) → bytes_eq other name ≡ b → (gs : List Fact) (fs : List SessionFact)
    → facts_of_session name (named other gs ++ fs) ≡ (if b then gs ++ facts_of_session name fs else facts_of_session name fs)
part_here name other true e [] fs = refl
part_here name other true e (g ∷ gs) fs = rw e (ap (λ (l : List Fact). g ∷ l) (part_here name other true e gs fs))
part_here name other false e [] fs = refl
part_here name other false e (g ∷ gs) fs = rw e (part_here name other false e gs fs)

not_true : (b : Bool) → (b ≡ true → ⊥) → b ≡ false
not_true true h = absurd (h refl)
not_true false h = refl

other_bytes : (a b : Text) → a ≢ b → bytes_eq a b ≡ false
other_bytes a b ne = not_true (bytes_eq a b) (λ e. ne ((bytes_eq-Decides a b).0 e))

not_same : (s t : ℕ) → (t == s) ≡ false → t ≢ s
not_same s t e same = let is : (t == s) ≡ true = eq-eqb t s same in cc

none_left : (b : Bool) (a : SessionAct) (xs : List SessionAct) → (if b then a ∷ xs else xs) ≡ [] → xs ≡ []
none_left true a xs e = cc
none_left false a xs e = e

-- ---- the order

module _ (names : ℕ → Text) where
  -- what each act shows, with the name of its session
  abbrev pub order_of : List Act → List SessionFact
  order_of [] = []
  order_of (by s a ∷ es) = named (names s) (shown a) ++ order_of es
  order_of (closes k ∷ es) = order_of es

  pub all_facts : (es : List Act) → facts_in_order (order_of es) ≡ facts_in es
  all_facts [] = refl
  all_facts (by s a ∷ es) = facts_named (names s) (shown a) (order_of es) ∙ ap (λ (l : List Fact). shown a ++ l) (all_facts es)
  all_facts (closes k ∷ es) = all_facts es

  pub order_append : (es fs : List Act) → order_of (es ++ fs) ≡ order_of es ++ order_of fs
  order_append [] fs = refl
  order_append (by s a ∷ es) fs = ap (λ (l : List SessionFact). named (names s) (shown a) ++ l) (order_append es fs) ∙ sym (append_assoc (named (names s) (shown a)) (order_of es) (order_of fs))
  order_append (closes k ∷ es) fs = order_append es fs

  -- ---- sessions of different names

  pub part_of : (n s : ℕ) (es : List Act) → SessionsBelow n es → ((t : ℕ) → t < n → t ≢ s → names t ≢ names s) → facts_of_session (names s) (order_of es) ≡ all_shown (of s es)
  part_of n s [] below apart = refl
  part_of n s (by t a ∷ es) below apart = by_flag (t == s) refl (part_of n s es below.1 apart)
    where
      by_flag : (b : Bool) → (t == s) ≡ b → facts_of_session (names s) (order_of es) ≡ all_shown (of s es)
          → facts_of_session (names s) (named (names t) (shown a) ++ order_of es) ≡ all_shown (if b then a ∷ of s es else of s es)
      by_flag true e h = part_here (names s) (names t) true ((bytes_eq-Decides (names t) (names s)).1 (ap names (eqb-true t s e))) (shown a) (order_of es) ∙ ap (λ (l : List Fact). shown a ++ l) h
      by_flag false e h = part_here (names s) (names t) false (other_bytes (names t) (names s) (apart t below.0 (not_same s t e))) (shown a) (order_of es) ∙ h
  part_of n s (closes k ∷ es) below apart = part_of n s es below apart

  pub each_name : (P : Text → Type 0) (n : ℕ) (es : List Act) → SessionsBelow n es → ((t : ℕ) → t < n → P (names t)) → Each (λ f. P f.0) (order_of es)
  each_name P n [] below h = tt
  each_name P n (by s a ∷ es) below h = each_append (λ f. P f.0) (named (names s) (shown a)) (order_of es) (all_named P (names s) (shown a) (h s below.0)) (each_name P n es below.1 h)
  each_name P n (closes k ∷ es) below h = each_name P n es below h

  -- ---- one session alone

  acts_there : (s : ℕ) (a : SessionAct) (es : List Act) → of s (by s a ∷ es) ≡ [] → ⊥
  acts_there s a es e = let same : (s == s) ≡ true = eq-eqb s s refl in
      let f : (a ∷ of s es) ≡ [] = sym (ap (λ (b : Bool). if b then a ∷ of s es else of s es) same) ∙ e in cc

  pub alone : (u : ℕ) (es : List Act) → ((s : ℕ) → s ≢ u → of s es ≡ []) → order_of es ≡ named (names u) (all_shown (of u es))
  alone u [] others = refl
  alone u (by t a ∷ es) others = by_flag (t == u) refl (alone u es (λ s ne. none_left (t == s) a (of s es) (others s ne)))
    where
      by_flag : (b : Bool) → (t == u) ≡ b → order_of es ≡ named (names u) (all_shown (of u es))
          → named (names t) (shown a) ++ order_of es ≡ named (names u) (all_shown (if b then a ∷ of u es else of u es))
      by_flag true e h = ap (λ (k : ℕ). named (names k) (shown a) ++ order_of es) (eqb-true t u e) ∙ ap (λ (l : List SessionFact). named (names u) (shown a) ++ l) h
          ∙ sym (named_append (names u) (shown a) (all_shown (of u es)))
      by_flag false e h = absurd (acts_there t a es (others t (not_same u t e)))
  alone u (closes k ∷ es) others = alone u es others
