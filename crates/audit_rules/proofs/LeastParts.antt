-- The least of some elements doesn't depend on their order, and is found part by part.
use Rattle.std.proofs.Common.{◌≡◌, refl, sym, ap, ap₂, ◌∙◌, Bool, true, false, cond, List, [], ◌∷◌, map, filter, Option, Some, None}
use Rattle.std.proofs.lemmas.Bool.{true≢false}
use Rattle.std.specs.Prelude.{◌||◌}
use Rattle.std.specs.Cmp.{IsTotalOrder, tied_itself}
use Rattle.std.specs.declared.cmp.Ordering.{Ordering}
use Rattle.std.specs.declared.cmp.Ordering.TheVariants.{Less, Equal, Greater}
use Rattle.std.specs.Ordering.{is_gt, ordering_reverse}
use Rattle.law_catalog_rows.specs.Least.{lesser, least_from}
use Rattle.spec_model.specs.Lists.{sorted}
use Rattle.audit_columns.proofs.Folds.{sorted_is}

-- elements that the order can't tell apart are one
module _ {E : Type 0} (cmp : E → E → Ordering) (total : IsTotalOrder cmp) (same : (x y : E) → cmp x y ≡ Equal → x ≡ y) where
  abbrev put : Option E → E → Option E
  put = lesser cmp

  greater : (r : Ordering) → is_gt r ≡ true → r ≡ Greater
  greater Less e = cc
  greater Equal e = cc
  greater Greater e = refl

  back : (x y : E) (r : Ordering) → cmp x y ≡ r → cmp y x ≡ ordering_reverse r
  back x y r e = total.antisymm y x ∙ ap ordering_reverse e

  chain : (x y z : E) → cmp x y ≡ Greater → cmp y z ≡ Greater → is_gt (cmp x z) ≡ true
  chain x y z e f = ap is_gt (back z x Less (total.trans z y x (back y z Greater f) (back x y Greater e)))

  two : (x y : E) → put (Some x) y ≡ put (Some y) x
  two x y = here (cmp x y) refl
    where
      here : (r : Ordering) → cmp x y ≡ r → put (Some x) y ≡ put (Some y) x
      here Less e = rw (e, back x y Less e) refl
      here Equal e = ap₂ (λ a b. put (Some a) b) (same x y e) (sym (same x y e))
      here Greater e = rw (e, back x y Greater e) refl

  pub swap : (best : Option E) (x y : E) → put (put best x) y ≡ put (put best y) x
  swap None x y = two x y
  swap (Some m) x y = here (is_gt (cmp m x)) refl (is_gt (cmp m y)) refl
    where
      here : (a : Bool) → is_gt (cmp m x) ≡ a → (b : Bool) → is_gt (cmp m y) ≡ b
          → put (cond a (Some x) (Some m)) y ≡ put (cond b (Some y) (Some m)) x
      here true e true f = two x y
      here true e false f = ap (λ t. cond t (Some y) (Some x)) (not_over x y e f) ∙ sym (ap (λ t. cond t (Some x) (Some m)) e)
        where
          not_over : (x y : E) → is_gt (cmp m x) ≡ true → is_gt (cmp m y) ≡ false → is_gt (cmp x y) ≡ false
          not_over x y e f = from (is_gt (cmp x y)) refl
            where
              from : (t : Bool) → is_gt (cmp x y) ≡ t → is_gt (cmp x y) ≡ false
              from true g = absurd (true≢false (sym (chain m x y (greater _ e) (greater _ g)) ∙ f))
              from false g = g
      here false e true f = ap (λ t. cond t (Some y) (Some m)) f ∙ sym (ap (λ t. cond t (Some x) (Some y)) (not_over y x f e))
        where
          not_over : (x y : E) → is_gt (cmp m x) ≡ true → is_gt (cmp m y) ≡ false → is_gt (cmp x y) ≡ false
          not_over x y e f = from (is_gt (cmp x y)) refl
            where
              from : (t : Bool) → is_gt (cmp x y) ≡ t → is_gt (cmp x y) ≡ false
              from true g = absurd (true≢false (sym (chain m x y (greater _ e) (greater _ g)) ∙ f))
              from false g = g
      here false e false f = ap (λ t. cond t (Some y) (Some m)) f ∙ sym (ap (λ t. cond t (Some x) (Some m)) e)

  twice : (best : Option E) (x : E) → put (put best x) x ≡ put best x
  twice None x = ap (λ r. cond (is_gt r) (Some x) (Some x)) (tied_itself total x)
  twice (Some m) x = here (is_gt (cmp m x)) refl
    where
      here : (a : Bool) → is_gt (cmp m x) ≡ a → put (cond a (Some x) (Some m)) x ≡ cond a (Some x) (Some m)
      here true e = ap (λ r. cond (is_gt r) (Some x) (Some x)) (tied_itself total x)
      here false e = ap (λ t. cond t (Some x) (Some m)) e

  pub to_end : (best : Option E) (x : E) (xs : List E) → least_from cmp (put best x) xs ≡ put (least_from cmp best xs) x
  to_end best x [] = refl
  to_end best x (y ∷ ys) = ap (λ b. least_from cmp b ys) (swap best x y) ∙ to_end (put best y) x ys

  again : (best : Option E) (x : E) (xs : List E) → put (least_from cmp (put best x) xs) x ≡ least_from cmp (put best x) xs
  again best x xs = sym (to_end (put best x) x xs) ∙ ap (λ b. least_from cmp b xs) (twice best x)

  module _ {A : Type 0} (f : A → E) where
    abbrev found : (A → Bool) → Option E → List A → Option E
    found p best xs = least_from cmp best (map f (filter p xs))

    -- of those that pass one of two tests
    pub in_parts : (p q : A → Bool) (best : Option E) (xs : List A) → found (λ x. p x || q x) best xs ≡ found q (found p best xs) xs
    in_parts p q best [] = refl
    in_parts p q best (x ∷ xs) = here (p x) (q x) (λ b. in_parts p q b xs)
      where
        here : (a b : Bool) → ((o : Option E) → found (λ y. p y || q y) o xs ≡ found q (found p o xs) xs)
            → least_from cmp best (map f (cond (a || b) (x ∷ filter (λ y. p y || q y) xs) (filter (λ y. p y || q y) xs)))
            ≡ least_from cmp (least_from cmp best (map f (cond a (x ∷ filter p xs) (filter p xs)))) (map f (cond b (x ∷ filter q xs) (filter q xs)))
        here true true more = more (put best (f x)) ∙ ap (λ b. found q b xs) (sym (again best (f x) (map f (filter p xs))))
        here true false more = more (put best (f x))
        here false true more = more (put best (f x)) ∙ ap (λ b. found q b xs) (to_end best (f x) (map f (filter p xs)))
        here false false more = more best

    abbrev step : (A → Bool) → A → (Option E → Option E) → Option E → Option E
    step p x k best = k (cond (p x) (put best (f x)) best)

    next : (p : A → Bool) (x : A) (xs : List A) (best : Option E) → found p best (x ∷ xs) ≡ step p x (λ b. found p b xs) best
    next p x xs best = here (p x)
      where
        here : (b : Bool) → least_from cmp best (map f (cond b (x ∷ filter p xs) (filter p xs))) ≡ found p (cond b (put best (f x)) best) xs
        here true = refl
        here false = refl

    exchange : (p : A → Bool) (x y : A) (best : Option E)
        → cond (p x) (put (cond (p y) (put best (f y)) best) (f x)) (cond (p y) (put best (f y)) best) ≡ cond (p y) (put (cond (p x) (put best (f x)) best) (f y)) (cond (p x) (put best (f x)) best)
    exchange p x y best = here (p x) (p y)
      where
        here : (a b : Bool) → cond a (put (cond b (put best (f y)) best) (f x)) (cond b (put best (f y)) best) ≡ cond b (put (cond a (put best (f x)) best) (f y)) (cond a (put best (f x)) best)
        here true true = swap best (f y) (f x)
        here true false = refl
        here false true = refl
        here false false = refl

    -- of those of a sorted list
    pub when_sorted : (order : A → A → Ordering) (p : A → Bool) (best : Option E) (xs : List A) → found p best (sorted order xs) ≡ found p best xs
    when_sorted order p best xs = ap (λ (k : Option E → Option E). k best)
        (sorted_is order (step p) (λ l b. found p b l) (λ y ys. λ i b. next p y ys b i) (λ y z k gt. λ i b. k (exchange p y z b i)) xs)
