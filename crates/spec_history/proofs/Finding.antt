-- The act that shows a fact.
use Rattle.std.proofs.Common.{◌≡◌, ℕ, ◌≤◌, List, [], ◌∷◌, ◌++◌, length, refl, ap, ◌∙◌, subst, ⊎_elim, arith}
use Rattle.spec_history.specs.Lists.{Text, In}
use Rattle.spec_history.specs.Facts.{Fact, met, no_digest}
use Rattle.spec_history.specs.Acts.{SessionAct, meets, lacks, shown, all_shown}
use Rattle.spec_history.proofs.Signs.{one_shown}

pub record Found (xs : List SessionAct) (us vs : List Fact) (g : Fact) : Type 0 where
  pub front : List SessionAct
  pub act : SessionAct
  pub back : List SessionAct
  pub is : xs ≡ front ++ act ∷ back
  pub shows : shown act ≡ g ∷ []
  pub before : all_shown front ≡ us
  pub after : all_shown back ≡ vs

found_later : (a : SessionAct) (xs : List SessionAct) (us vs : List Fact) (g : Fact) → Found xs us vs g → Found (a ∷ xs) (shown a ++ us) vs g
found_later a xs us vs g f = record { front = a ∷ f.front; act = f.act; back = f.back; is = ap (λ (l : List SessionAct). a ∷ l) f.is; shows = f.shows; before = ap (λ (l : List Fact). shown a ++ l) f.before; after = f.after }

nowhere : (us vs : List Fact) (g : Fact) → [] ≡ us ++ g ∷ vs → ⊥
nowhere [] vs g e = cc
nowhere (u ∷ us) vs g e = cc

found_by : (a : SessionAct) (xs : List SessionAct) (gs us vs : List Fact) (g : Fact) → shown a ≡ gs → length gs ≤ 1 → ((us : List Fact) → all_shown xs ≡ us ++ g ∷ vs → Found xs us vs g) → gs ++ all_shown xs ≡ us ++ g ∷ vs → Found (a ∷ xs) us vs g
found_by a xs [] us vs g is l ih e = subst (λ (hs : List Fact). Found (a ∷ xs) (hs ++ us) vs g) is (found_later a xs us vs g (ih us e))
found_by a xs (f ∷ []) [] vs g is l ih e = record { front = []; act = a; back = xs; is = refl; shows = is ∙ (let same : f ≡ g = cc in ap (λ (x : Fact). x ∷ []) same); before = refl; after = cc }
found_by a xs (f ∷ []) (u ∷ us) vs g is l ih e = let same : f ≡ u = cc in let rest : all_shown xs ≡ us ++ g ∷ vs = cc in
    subst (λ (hs : List Fact). Found (a ∷ xs) (hs ++ us) vs g) (is ∙ ap (λ (x : Fact). x ∷ []) same) (found_later a xs us vs g (ih us rest))
found_by a xs (f ∷ h ∷ gs) us vs g is l ih e = absurd (omega arith)

pub find : (xs : List SessionAct) (us vs : List Fact) (g : Fact) → all_shown xs ≡ us ++ g ∷ vs → Found xs us vs g
find [] us vs g e = absurd (nowhere us vs g e)
find (a ∷ xs) us vs g e = found_by a xs (shown a) us vs g refl (one_shown a) (λ us e. find xs us vs g e) e

-- ---- which act it is

pub is_meets : (a : SessionAct) (text : Text) (holder : ℕ) → shown a ≡ met text holder ∷ [] → a ≡ meets text holder
is_meets (meets t h) text holder e = let a : t ≡ text = cc in let b : h ≡ holder = cc in λ k. meets (a k) (b k)
is_meets a text holder e = cc

pub is_lacks : (a : SessionAct) → shown a ≡ no_digest ∷ [] → a ≡ lacks
is_lacks lacks e = refl
is_lacks a e = cc

-- ---- an element stands somewhere

pub record Split (g : Fact) (gs : List Fact) : Type 0 where
  pub before : List Fact
  pub after : List Fact
  pub is : gs ≡ before ++ g ∷ after

pub split : (g : Fact) (gs : List Fact) → In g gs → Split g gs
split g [] i = absurd i
split g (f ∷ gs) i = ⊎_elim
    (λ (e : f ≡ g). record { before = []; after = gs; is = λ k. e k ∷ gs })
    (λ (j : In g gs). let r = split g gs j in record { before = f ∷ r.before; after = r.after; is = ap (λ (l : List Fact). f ∷ l) r.is })
    i
