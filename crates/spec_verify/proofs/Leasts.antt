-- The least of some elements is one of them, and none is less; and leasts of groups merge.
use Rattle.std.proofs.Common.{◌≡◌, ◌⊎◌, inl, inr, ℕ, zero, suc, refl, sym, ap, subst, ◌∙◌, Bool, true, false, List, [], ◌∷◌, ◌++◌, Option, Some, None}
use Rattle.std.specs.Prelude.{MatchOption, slice_get, if◌then◌else◌}
use Rattle.std.specs.List.{AllByRecursion, filter}
use Rattle.std.specs.Cmp.{IsTotalOrder, upto, tied_itself}
use Rattle.std.specs.declared.cmp.Ordering.{Ordering}
use Rattle.std.specs.declared.cmp.Ordering.TheVariants.{Less, Equal, Greater}
use Rattle.std.specs.Ordering.{is_gt, ordering_reverse}
use Rattle.law_catalog_rows.specs.Least.{lesser, least_from, least, lesser_of}
use Rattle.spec_verify.specs.Told.{TellsLeast}

abbrev pub IsOneOf : {A : Type 0} → List A → A → Type 0
IsOneOf xs x = (k : ℕ) × (slice_get xs k ≡ Some x)

-- a place for each element, and none where nothing is found
pub record Placed {A B : Type 0} (Says : A → B → Type 0) (place : Option A → Option B) : Type 0 where
  pub none : place None ≡ None
  pub at : A → B
  pub some : (x : A) → place (Some x) ≡ Some (at x)
  pub says : (x : A) → Says x (at x)

module _ {A : Type 0} (cmp : A → A → Ordering) (o : IsTotalOrder cmp) where
  -- ---- order

  turned_gt : (r : Ordering) → is_gt r ≡ true → is_gt (ordering_reverse r) ≡ false
  turned_gt Less e = cc
  turned_gt Equal e = cc
  turned_gt Greater e = refl

  not_back : (a b : A) → is_gt (cmp a b) ≡ true → is_gt (cmp b a) ≡ false
  not_back a b e = ap is_gt (o.antisymm b a) ∙ turned_gt (cmp a b) e

  itself : (a : A) → is_gt (cmp a a) ≡ false
  itself a = ap is_gt (tied_itself o a)

  greater : (r : Ordering) → is_gt r ≡ true → r ≡ Greater
  greater Less e = cc
  greater Equal e = cc
  greater Greater e = refl

  chain : (a b c : A) → is_gt (cmp a b) ≡ true → is_gt (cmp b c) ≡ true → is_gt (cmp a c) ≡ true
  chain a b c e f =
      let p : cmp b a ≡ Less = o.antisymm b a ∙ ap ordering_reverse (greater (cmp a b) e) in
      let q : cmp c b ≡ Less = o.antisymm c b ∙ ap ordering_reverse (greater (cmp b c) f) in
      ap is_gt (o.antisymm a c ∙ ap ordering_reverse (o.trans c b a q p))

  -- ---- the least

  abbrev NoneLess : A → List A → Type 0
  NoneLess m xs = AllByRecursion (λ y. is_gt (cmp m y) ≡ false) xs

  record LeastFrom (best : A) (xs : List A) : Type 0 where
    m : A
    is : least_from cmp (Some best) xs ≡ Some m
    among : (m ≡ best) ⊎ IsOneOf xs m
    best_not_less : is_gt (cmp m best) ≡ false
    none_less : NoneLess m xs

  further : (x : A) (xs : List A) (m : A) → (m ≡ x) ⊎ IsOneOf xs m → IsOneOf (x ∷ xs) m
  further x xs m (inl e) = (zero, ap Some (sym e))
  further x xs m (inr a) = (suc a.0, a.1)

  kept_or : (best x : A) (xs : List A) (m : A) → (m ≡ best) ⊎ IsOneOf xs m → (m ≡ best) ⊎ IsOneOf (x ∷ xs) m
  kept_or best x xs m (inl e) = inl e
  kept_or best x xs m (inr a) = inr (suc a.0, a.1)

  from_best : (best : A) (xs : List A) → LeastFrom best xs
  from_best best [] = record { m = best; is = refl; among = inl refl; best_not_less = itself best; none_less = tt }
  from_best best (x ∷ xs) = here (is_gt (cmp best x)) refl (from_best x xs) (from_best best xs)
    where
      here : (b : Bool) → is_gt (cmp best x) ≡ b → LeastFrom x xs → LeastFrom best xs → LeastFrom best (x ∷ xs)
      here true e f g =
          record {
            m = f.m;
            is = rw e f.is;
            among = inr (further x xs f.m f.among);
            best_not_less = upto o f.m x best f.best_not_less (not_back best x e);
            none_less = (f.best_not_less, f.none_less);
          }
      here false e f g =
          record {
            m = g.m;
            is = rw e g.is;
            among = kept_or best x xs g.m g.among;
            best_not_less = g.best_not_less;
            none_less = (upto o g.m best x g.best_not_less e, g.none_less);
          }

  abbrev pub IsLeast : List A → A → Type 0
  IsLeast xs m = IsOneOf xs m × NoneLess m xs

  pub least_is : (xs : List A) → MatchOption (least cmp xs) (xs ≡ []) (IsLeast xs)
  least_is [] = refl
  least_is (x ∷ xs) =
      let f = from_best x xs in
      subst (λ r. MatchOption r ((x ∷ xs) ≡ []) (IsLeast (x ∷ xs))) (sym f.is) (further x xs f.m f.among, (f.best_not_less, f.none_less))

  -- ---- groups

  assoc : (a b c : Option A) → lesser_of cmp (lesser_of cmp a b) c ≡ lesser_of cmp a (lesser_of cmp b c)
  assoc a b None = refl
  assoc a None (Some c) = refl
  assoc None (Some b) (Some c) = here (is_gt (cmp b c)) refl
    where
      here : (g : Bool) → is_gt (cmp b c) ≡ g → lesser_of cmp (Some b) (Some c) ≡ lesser_of cmp None (lesser_of cmp (Some b) (Some c))
      here true e = rw e refl
      here false e = rw e refl
  assoc (Some a) (Some b) (Some c) = here (is_gt (cmp a b)) refl (is_gt (cmp b c)) refl
    where
      here : (g : Bool) → is_gt (cmp a b) ≡ g → (k : Bool) → is_gt (cmp b c) ≡ k
          → lesser_of cmp (lesser_of cmp (Some a) (Some b)) (Some c) ≡ lesser_of cmp (Some a) (lesser_of cmp (Some b) (Some c))
      here true e true f = rw (e, f, chain a b c e f) refl
      here true e false f = rw (e, f, e) refl
      here false e true f = rw (e, f) refl
      here false e false f = rw (e, f, e, upto o a b c e f) refl

  from_split : (best : Option A) (ys : List A) → least_from cmp best ys ≡ lesser_of cmp best (least cmp ys)
  from_split best [] = refl
  from_split best (y ∷ ys) =
      from_split (lesser cmp best y) ys ∙ assoc best (Some y) (least cmp ys) ∙ ap (lesser_of cmp best) (sym (from_split (Some y) ys))

  from_append : (best : Option A) (xs ys : List A) → least_from cmp best (xs ++ ys) ≡ least_from cmp (least_from cmp best xs) ys
  from_append best [] ys = refl
  from_append best (x ∷ xs) ys = from_append (lesser cmp best x) xs ys

  pub least_split : (xs ys : List A) → least cmp (xs ++ ys) ≡ lesser_of cmp (least cmp xs) (least cmp ys)
  least_split xs ys = from_append None xs ys ∙ from_split (least cmp xs) ys

  -- ---- the least of which a sentence fails

  module _ (P : A → Type 0) (bad : A → Bool) (right : (x : A) → bad x ≡ false → P x) (wrong : (x : A) → bad x ≡ true → P x → ⊥) where
    all_right : (xs : List A) → filter bad xs ≡ [] → AllByRecursion P xs
    all_right [] e = tt
    all_right (x ∷ xs) e = here (bad x) refl e (all_right xs)
      where
        here : (b : Bool) → bad x ≡ b → (if b then x ∷ filter bad xs else filter bad xs) ≡ [] → (filter bad xs ≡ [] → AllByRecursion P xs) → AllByRecursion P (x ∷ xs)
        here true is f on = cc
        here false is f on = (right x is, on f)

    was_there : (xs : List A) (m : A) → IsOneOf (filter bad xs) m → IsOneOf xs m × (bad m ≡ true)
    was_there [] m a = absurd_none a.0 a.1
      where
        absurd_none : (k : ℕ) → slice_get (filter bad []) k ≡ Some m → IsOneOf [] m × (bad m ≡ true)
        absurd_none k e = cc
    was_there (x ∷ xs) m a = here (bad x) refl a.0 a.1 (was_there xs m)
      where
        on : IsOneOf xs m × (bad m ≡ true) → IsOneOf (x ∷ xs) m × (bad m ≡ true)
        on r = ((suc r.0.0, r.0.1), r.1)

        here : (b : Bool) → bad x ≡ b → (k : ℕ) → slice_get (if b then x ∷ filter bad xs else filter bad xs) k ≡ Some m
            → (IsOneOf (filter bad xs) m → IsOneOf xs m × (bad m ≡ true)) → IsOneOf (x ∷ xs) m × (bad m ≡ true)
        here true is zero e more = let s : x ≡ m = cc in ((zero, ap (λ (y : A). Some y) s), ap bad (sym s) ∙ is)
        here true is (suc k) e more = on (more (k, e))
        here false is k e more = on (more (k, e))

    others : (m : A) (xs : List A) → NoneLess m (filter bad xs) → AllByRecursion (λ y. cmp m y ≡ Greater → P y) xs
    others m [] h = tt
    others m (x ∷ xs) h = here (bad x) refl h (others m xs)
      where
        not_greater : cmp m x ≡ Greater → is_gt (cmp m x) ≡ false → P x
        not_greater g e = cc

        here : (b : Bool) → bad x ≡ b → NoneLess m (if b then x ∷ filter bad xs else filter bad xs)
            → (NoneLess m (filter bad xs) → AllByRecursion (λ y. cmp m y ≡ Greater → P y) xs) → AllByRecursion (λ y. cmp m y ≡ Greater → P y) (x ∷ xs)
        here true is n more = (λ g. not_greater g n.0, more n.1)
        here false is n more = (λ g. right x is, more n)

    pub least_told : {B : Type 0} (Says : A → B → Type 0) (place : Option A → Option B) (xs : List A)
        → Placed Says place → TellsLeast cmp P Says xs (place (least cmp (filter bad xs)))
    least_told {B} Says place xs placed = here (least cmp (filter bad xs)) (least_is (filter bad xs))
      where
        found : (m : A) → IsLeast (filter bad xs) m → TellsLeast cmp P Says xs (Some (placed.at m))
        found m l =
            let w = was_there xs m l.0 in
            (m, record { place = w.0.0; there = w.0.1; fails = wrong m w.1; less = others m xs l.1 }, placed.says m)

        here : (r : Option A) → MatchOption r (filter bad xs ≡ []) (IsLeast (filter bad xs)) → TellsLeast cmp P Says xs (place r)
        here None e = subst (λ p. TellsLeast cmp P Says xs p) (sym placed.none) (all_right xs e)
        here (Some m) l = subst (λ p. TellsLeast cmp P Says xs p) (sym (placed.some m)) (found m l)
