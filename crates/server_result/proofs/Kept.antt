-- The images of all sessions, each once, by rising number of items.
use Rattle.std.proofs.Common.{◌≡◌, ◌<◌, ◌≤◌, ◌==◌, ℕ, suc, Bool, true, false, List, [], ◌∷◌, refl, sym, ap, ap₂, ◌∙◌, subst, arith, inl, inr, ⊎_elim}
use Rattle.std.specs.Prelude.{◌⊎◌, if◌then◌else◌, nat_lt, slice_get}
use Rattle.std.specs.List.{fold, insert}
use Rattle.std.proofs.lemmas.Bool.Decides.{nat_tests}
use Rattle.spec_history.specs.Lists.{Text, Each, Some_of, In}
use Rattle.spec_history.proofs.Trace.{each_weaker}
use Rattle.server_result.specs.Images.{SavedImage, ItemsRise, AreKept, has_items, place_for, with_image, with_images, with_each}

-- ---- one image, from the front

front_case : (b : Bool) (l : SavedImage) (ls new : List SavedImage) → (if b then l ∷ ls else l ∷ new) ≡ l ∷ (if b then ls else new)
front_case true l ls new = refl
front_case false l ls new = refl

front_rest : (l : SavedImage) (ls : List SavedImage) (k : SavedImage) → nat_lt l.0 k.0 ≡ true → with_image (l ∷ ls) k ≡ l ∷ with_image ls k
front_rest l ls k less =
    let place = place_for k.0 ls in
    let next : place_for k.0 (l ∷ ls) ≡ suc place = rw less (omega arith) in
    ap (λ (n : ℕ). if has_items k.0 (slice_get (l ∷ ls) n) then l ∷ ls else insert (l ∷ ls) n k) next ∙ front_case (has_items k.0 (slice_get ls place)) l ls (insert ls place k)

same_there : (l : SavedImage) (ls : List SavedImage) (k : SavedImage) → nat_lt l.0 k.0 ≡ false → (l.0 == k.0) ≡ true → with_image (l ∷ ls) k ≡ l ∷ ls
same_there l ls k less same = rw (less, same) refl

goes_first : (l : SavedImage) (ls : List SavedImage) (k : SavedImage) → nat_lt l.0 k.0 ≡ false → (l.0 == k.0) ≡ false → with_image (l ∷ ls) k ≡ k ∷ l ∷ ls
goes_first l ls k less other = rw (less, other) refl

-- by cases on the first image
module _ (P : List SavedImage → Type 0) (l : SavedImage) (ls : List SavedImage) (k : SavedImage) where
  by_first : (l.0 < k.0 → P (l ∷ with_image ls k)) → (l.0 ≡ k.0 → P (l ∷ ls)) → (k.0 < l.0 → P (k ∷ l ∷ ls)) → P (with_image (l ∷ ls) k)
  by_first behind same before = go (nat_lt l.0 k.0) (l.0 == k.0) refl refl
    where
      go : (a b : Bool) → nat_lt l.0 k.0 ≡ a → (l.0 == k.0) ≡ b → P (with_image (l ∷ ls) k)
      go true b x y = subst P (sym (front_rest l ls k x)) (behind (grind (arith, nat_tests, x)))
      go false true x y = subst P (sym (same_there l ls k x y)) (same (grind (arith, nat_tests, y)))
      go false false x y = subst P (sym (goes_first l ls k x y)) (before (grind (arith, nat_tests, x, y)))

-- ---- such images stay such

module _ (Q : SavedImage → Type 0) where
  with_one : (images : List SavedImage) (k : SavedImage) → Each Q images → Q k → Each Q (with_image images k)
  with_one [] k e q = (q, tt)
  with_one (l ∷ ls) k e q = by_first (Each Q) l ls k (λ less. (e.0, with_one ls k e.1 q)) (λ same. e) (λ less. (q, e))

  with_some : (images more : List SavedImage) → Each Q images → Each Q more → Each Q (with_images images more)
  with_some images [] e m = e
  with_some images (k ∷ more) e m = with_some (with_image images k) more (with_one images k e m.0) m.1

  with_all : (images : List SavedImage) (kept : List (List SavedImage)) → Each Q images → Each (λ ks. Each Q ks) kept → Each Q (fold with_images images kept)
  with_all images [] e m = e
  with_all images (ks ∷ kept) e m = with_all (with_images images ks) kept (with_some images ks e m.0) m.1

-- ---- they rise

behind_all : (l : SavedImage) (k : SavedImage) (ls : List SavedImage) → l.0 ≤ k.0 → Each (λ later. k.0 < later.0) ls → Each (λ later. l.0 < later.0) ls
behind_all l k [] less e = tt
behind_all l k (x ∷ ls) less e = (omega (arith, less, e.0), behind_all l k ls less e.1)

rise_one : (images : List SavedImage) (k : SavedImage) → ItemsRise images → ItemsRise (with_image images k)
rise_one [] k e = (tt, tt)
rise_one (l ∷ ls) k e = by_first ItemsRise l ls k
    (λ less. (with_one (λ later. l.0 < later.0) ls k e.0 less, rise_one ls k e.1))
    (λ same. e)
    (λ less. ((less, behind_all k l ls (omega (arith, less)) e.0), e))

rise_some : (images more : List SavedImage) → ItemsRise images → ItemsRise (with_images images more)
rise_some images [] e = e
rise_some images (k ∷ more) e = rise_some (with_image images k) more (rise_one images k e)

rise_all : (images : List SavedImage) (kept : List (List SavedImage)) → ItemsRise images → ItemsRise (fold with_images images kept)
rise_all images [] e = e
rise_all images (ks ∷ kept) e = rise_all (with_images images ks) kept (rise_some images ks e)

-- ---- none is lost

stays_one : (x : SavedImage) (images : List SavedImage) (k : SavedImage) → In x images → In x (with_image images k)
stays_one x [] k i = absurd i
stays_one x (l ∷ ls) k i = by_first (In x) l ls k
    (λ less. ⊎_elim (λ e. inl e) (λ j. inr (stays_one x ls k j)) i)
    (λ same. i)
    (λ less. inr i)

stays_some : (x : SavedImage) (images more : List SavedImage) → In x images → In x (with_images images more)
stays_some x images [] i = i
stays_some x images (k ∷ more) i = stays_some x (with_image images k) more (stays_one x images k i)

stays_all : (x : SavedImage) (images : List SavedImage) (kept : List (List SavedImage)) → In x images → In x (fold with_images images kept)
stays_all x images [] i = i
stays_all x images (ks ∷ kept) i = stays_all x (with_images images ks) kept (stays_some x images ks i)

-- their bytes are those of the image of so many items
module _ (bytes : ℕ → Text) where
  abbrev Has : SavedImage → Type 0
  Has k = k.1 ≡ bytes k.0

  one_image : (k l : SavedImage) → Has k → Has l → l.0 ≡ k.0 → l ≡ k
  one_image k l a b same = ap₂ (λ (n : ℕ) (t : Text). (n, t)) same (b ∙ ap bytes same ∙ sym a)

  comes_in : (images : List SavedImage) (k : SavedImage) → Each Has images → Has k → In k (with_image images k)
  comes_in [] k e h = inl refl
  comes_in (l ∷ ls) k e h = by_first (In k) l ls k
      (λ less. inr (comes_in ls k e.1 h))
      (λ same. inl (one_image k l h e.0 same))
      (λ less. inl refl)

  come_in : (images more : List SavedImage) → Each Has images → Each Has more → Each (λ k. In k (with_images images more)) more
  come_in images [] e m = tt
  come_in images (k ∷ more) e m =
      (stays_some k (with_image images k) more (comes_in images k e m.0), come_in (with_image images k) more (with_one Has images k e m.0) m.1)

  all_come_in : (images : List SavedImage) (kept : List (List SavedImage)) → Each Has images → Each (λ ks. Each Has ks) kept → Each (λ ks. Each (λ k. In k (fold with_images images kept)) ks) kept
  all_come_in images [] e m = tt
  all_come_in images (ks ∷ kept) e m = (
    each_weaker (λ k. In k (with_images images ks)) (λ k. In k (fold with_images images (ks ∷ kept))) (λ k i. stays_all k (with_images images ks) kept i) ks (come_in images ks e m.0),
    all_come_in (with_images images ks) kept (with_some Has images ks e m.0) m.1,
  )

  -- ---- and none comes from elsewhere

  self : (ks : List SavedImage) → Each (λ k. In k ks) ks
  self [] = tt
  self (k ∷ ks) = (inl refl, each_weaker (λ x. In x ks) (λ x. In x (k ∷ ks)) (λ x i. inr i) ks (self ks))

  abbrev IsOfOne : List (List SavedImage) → SavedImage → Type 0
  IsOfOne kept k = Some_of (λ ks. In k ks) kept

  each_of_one : (kept : List (List SavedImage)) → Each (λ ks. Each (IsOfOne kept) ks) kept
  each_of_one [] = tt
  each_of_one (ks ∷ kept) = (
    each_weaker (λ k. In k ks) (IsOfOne (ks ∷ kept)) (λ k i. inl i) ks (self ks),
    each_weaker (λ l. Each (IsOfOne kept) l) (λ l. Each (IsOfOne (ks ∷ kept)) l) (λ l. each_weaker (IsOfOne kept) (IsOfOne (ks ∷ kept)) (λ k i. inr i) l) kept (each_of_one kept),
  )

  pub are_kept : (kept : List (List SavedImage)) → Each (λ ks. Each Has ks) kept → AreKept kept (with_each kept)
  are_kept kept have = record {
    rise = rise_all [] kept tt;
    all = all_come_in [] kept tt have;
    no_others = with_all (IsOfOne kept) [] kept tt (each_of_one kept);
  }

-- what is so of each image that was kept is so of these
pub each_of_all : (Q : SavedImage → Type 0) (kept : List (List SavedImage)) → Each (λ ks. Each Q ks) kept → Each Q (with_each kept)
each_of_all Q kept e = with_all Q [] kept tt e
