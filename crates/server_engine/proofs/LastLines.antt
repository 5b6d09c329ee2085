-- Sessions whose last lines become entries, one after another.
use Rattle.std.proofs.Common.{◌≡◌, ◌<◌, ◌≤◌, ℕ, zero, suc, List, [], ◌∷◌, ◌++◌, map, length, get_or, take, refl, sym, ap, ap₂, subst, ◌∙◌, arith}
use Rattle.std.specs.Prelude.{slice_set}
use Rattle.std.proofs.Math.Seq.{take-append_seam}
use Rattle.server_engine.specs.Written.{texts_shown}
use Rattle.server_engine.specs.declared.session.Session.{Session}

-- the entries are all that was shown, and the images are the same
pub record IsWhole {H : Type 0} (y z : Session H) : Type 0 where
  pub entries : z.entries ≡ texts_shown y
  pub images : z.images ≡ y.images

-- the first so many are whole, the others as they were
abbrev pub AreWhole : {H : Type 0} → ℕ → List (Session H) → List (Session H) → Type 0
AreWhole i [] [] = Unit {0}
AreWhole zero (y ∷ ys) (z ∷ zs) = (z ≡ y) × AreWhole zero ys zs
AreWhole (suc i) (y ∷ ys) (z ∷ zs) = IsWhole y z × AreWhole i ys zs
AreWhole i _ _ = ⊥

module _ {H : Type 0} where
  pub none_whole : (ys : List (Session H)) → AreWhole 0 ys ys
  none_whole [] = tt
  none_whole (y ∷ ys) = (refl, none_whole ys)

  pub one_whole : (i : ℕ) (ys zs : List (Session H)) (x z : Session H) → i < length zs → x ≡ get_or zs i x → IsWhole x z → AreWhole i ys zs → AreWhole (suc i) ys (slice_set zs i z)
  one_whole i [] [] x z inside is w h = absurd (omega (arith, inside))
  one_whole i [] (u ∷ zs) x z inside is w h = absurd (no_more i h)
    where
      no_more : (k : ℕ) → AreWhole k [] (u ∷ zs) → ⊥
      no_more zero h = h
      no_more (suc k) h = h
  one_whole i (y ∷ ys) [] x z inside is w h = absurd (omega (arith, inside))
  one_whole zero (y ∷ ys) (u ∷ zs) x z inside is w h = (subst (λ (s : Session H). IsWhole s z) (is ∙ h.0) w, h.1)
  one_whole (suc i) (y ∷ ys) (u ∷ zs) x z inside is w h = (h.0, one_whole i ys zs x z (omega (arith, inside)) is w h.1)

  pub as_many : (i : ℕ) (ys zs : List (Session H)) → AreWhole i ys zs → length zs ≡ length ys
  as_many zero [] [] h = refl
  as_many (suc i) [] [] h = refl
  as_many zero [] (z ∷ zs) h = absurd h
  as_many (suc i) [] (z ∷ zs) h = absurd h
  as_many zero (y ∷ ys) [] h = absurd h
  as_many (suc i) (y ∷ ys) [] h = absurd h
  as_many zero (y ∷ ys) (z ∷ zs) h = ap suc (as_many zero ys zs h.1)
  as_many (suc i) (y ∷ ys) (z ∷ zs) h = ap suc (as_many i ys zs h.1)

  abbrev pub AllWhole : List (Session H) → List (Session H) → Type 0
  AllWhole ys zs = (map (λ z. z.entries) zs ≡ map texts_shown ys) × (map (λ z. z.images) zs ≡ map (λ y. y.images) ys)

  pub all_whole : (i : ℕ) (ys zs : List (Session H)) → length zs ≤ i → AreWhole i ys zs → AllWhole ys zs
  all_whole zero [] [] most h = (refl, refl)
  all_whole (suc i) [] [] most h = (refl, refl)
  all_whole zero [] (z ∷ zs) most h = absurd h
  all_whole (suc i) [] (z ∷ zs) most h = absurd h
  all_whole zero (y ∷ ys) [] most h = absurd h
  all_whole (suc i) (y ∷ ys) [] most h = absurd h
  all_whole zero (y ∷ ys) (z ∷ zs) most h = absurd (omega (arith, most))
  all_whole (suc i) (y ∷ ys) (z ∷ zs) most h = let rest = all_whole i ys zs (omega (arith, most)) h.1 in
      (ap₂ (λ t ts. t ∷ ts) h.0.entries rest.0, ap₂ (λ k ks. k ∷ ks) h.0.images rest.1)

  -- what a loop leaves of a `Vec`
  pub put_back : (P : List (Session H) → Type 0) (n : ℕ) (xs ys : List (Session H)) → n ≡ length xs → P xs → P (take n (xs ++ ys))
  put_back P n xs ys is h = subst P (sym (ap (λ k. take k (xs ++ ys)) is ∙ take-append_seam xs ys)) h
