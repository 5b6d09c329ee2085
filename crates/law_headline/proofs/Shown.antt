-- The images that are saved are those that the transcripts show.
use Rattle.std.proofs.Common.{◌≡◌, ℕ, List, [], ◌∷◌, map, refl, sym, ap, subst, inl, inr, ⊎_elim}
use Rattle.std.specs.Prelude.{flat_map}
use Rattle.spec_history.specs.Facts.{facts_of}
use Rattle.spec_history.specs.Lists.{Each, In, Some_of}
use Rattle.spec_history.specs.Meaning.{Meaning}
use Rattle.spec_history.specs.Transcripts.{Transcript}
use Rattle.spec_protocol.specs.AtTheEnd.{image_items}
use Rattle.spec_protocol.specs.Seats.{KeptImage}
use Rattle.law_kept_images.proofs.Accepts.{each_in}
use Rattle.server_result.specs.Images.{AreKept}
use Rattle.law_headline.specs.Shown.{AreShown}

in_map : {A B : Type 0} (f : A → B) (x : A) (xs : List A) → In x xs → In (f x) (map f xs)
in_map f x [] i = absurd i
in_map f x (y ∷ ys) i = ⊎_elim (λ (e : y ≡ x). inl (ap f e)) (λ j. inr (in_map f x ys j)) i

-- what is mapped to a value
record Mapped {A B : Type 0} (f : A → B) (value : B) (xs : List A) : Type 0 where
  pub one : A
  pub there : In one xs
  pub is : f one ≡ value

mapped : {A B : Type 0} (f : A → B) (value : B) (xs : List A) → In value (map f xs) → Mapped f value xs
mapped f value [] i = absurd i
mapped f value (y ∷ ys) i = ⊎_elim
    (λ (e : f y ≡ value). record { one = y; there = inl refl; is = e })
    (λ j. let m = mapped f value ys j in record { one = m.one; there = inr m.there; is = m.is }) i

to_map : {A B : Type 0} (P : B → Type 0) (f : A → B) (xs : List A) → Some_of (λ x. P (f x)) xs → Some_of P (map f xs)
to_map P f [] s = s
to_map P f (x ∷ xs) s = ⊎_elim (λ (p : P (f x)). inl p) (λ t. inr (to_map P f xs t)) s

from_map : {A B : Type 0} (P : B → Type 0) (f : A → B) (xs : List A) → Some_of P (map f xs) → Some_of (λ x. P (f x)) xs
from_map P f [] s = s
from_map P f (x ∷ xs) s = ⊎_elim (λ (p : P (f x)). inl p) (λ t. inr (from_map P f xs t)) s

weaker : {A : Type 0} (P Q : A → Type 0) → ((x : A) → P x → Q x) → (xs : List A) → Some_of P xs → Some_of Q xs
weaker P Q to [] s = s
weaker P Q to (x ∷ xs) s = ⊎_elim (λ (p : P x). inl (to x p)) (λ t. inr (weaker P Q to xs t)) s

abbrev number : KeptImage → ℕ
number k = k.0

abbrev numbers : List KeptImage → List ℕ
numbers ks = map (λ k. k.0) ks

-- a number of an image that some session kept is that of one of the images
kept_there : (images : List KeptImage) (items : ℕ) (kept : List (List KeptImage)) → Each (λ ks. Each (λ k. In k images) ks) kept
    → Some_of (λ ks. In items (numbers ks)) kept → In items (numbers images)
kept_there images items [] all s = absurd s
kept_there images items (ks ∷ kept) all s = ⊎_elim
    (λ (i : In items (numbers ks)). let m = mapped number items ks i in
    subst (λ n. In n (numbers images)) m.is (in_map number m.one images (each_in (λ k. In k images) ks m.one all.0 m.there)))
    (λ t. kept_there images items kept all.1 t) s

module _ (q : Meaning) (X : List Transcript) (kept : List (List KeptImage)) (images : List KeptImage)
    (same : map numbers kept ≡ map (λ x. flat_map image_items (facts_of q x)) X) (are : AreKept kept images) where
  abbrev shown_by : Transcript → List ℕ
  shown_by x = flat_map image_items (facts_of q x)

  pub all_are_shown : AreShown q X images
  all_are_shown = record {
    all = λ items s. kept_there images items kept are.all
        (from_map (In items) numbers kept (subst (λ (ns : List (List ℕ)). Some_of (In items) ns) (sym same) (to_map (In items) shown_by X s)));
    no_others = λ items i. let m = mapped number items images i in
        from_map (In items) shown_by X (subst (λ (ns : List (List ℕ)). Some_of (In items) ns) same
        (to_map (In items) numbers kept
        (weaker (λ ks. In m.one ks) (λ ks. In items (numbers ks))
        (λ ks there. subst (λ n. In n (numbers ks)) m.is (in_map number m.one ks there)) kept
        (each_in (λ k. Some_of (λ ks. In k ks) kept) images m.one are.no_others m.there))));
  }
