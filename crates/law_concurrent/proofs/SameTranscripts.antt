-- Lists with the same transcripts, each of a name of its own.
use Rattle.std.proofs.Common.{◌≡◌, ◌≢◌, ◌≤◌, ◌⊎◌, ℕ, zero, suc, List, [], ◌∷◌, ◌++◌, length, map, flat_map, refl, sym, ap, ap₂, subst, ◌∙◌, inl, inr, ⊎_elim, arith}
use Rattle.spec_history.specs.Agree.{AreStatements}
use Rattle.spec_history.specs.Inputs.{InputSession}
use Rattle.spec_history.specs.Lists.{Text, Each, Some_of, At, In}
use Rattle.spec_history.specs.Transcripts.{Transcript}
use Rattle.spec_protocol.specs.AtTheEnd.{SessionsDiffer}
use Rattle.spec_protocol.specs.Reordered.{NamesApart}
use Rattle.spec_protocol.specs.Seats.{Written}
use Rattle.law_kept_images.specs.Wrote.{transcripts_in}
use Rattle.law_kept_images.proofs.SameNames.{its_name, not_in}
use Rattle.law_concurrent.specs.Together.{names_in, session_in}

-- ---- places

pub in_at : (X : List Transcript) (i : ℕ) (x : Transcript) → At X i x → In x X
in_at [] i x a = absurd a
in_at (y ∷ X) zero x a = inl a
in_at (y ∷ X) (suc i) x a = inr (in_at X i x a)

pub at_of : (X : List Transcript) (x : Transcript) → In x X → (i : ℕ) × At X i x
at_of [] x k = absurd k
at_of (y ∷ X) x (inl e) = (0, e)
at_of (y ∷ X) x (inr k) = let r = at_of X x k in (suc r.0, r.1)

pub transcript_at : (written : List Written) (k : ℕ) (w : Written) → At written k w → At (transcripts_in written) k w.transcript
transcript_at [] k w a = absurd a
transcript_at (u ∷ us) zero w a = ap (λ (z : Written). z.transcript) a
transcript_at (u ∷ us) (suc k) w a = transcript_at us k w a

pub in_transcripts : (ws : List Written) (x : Transcript) → Some_of (λ w. w.transcript ≡ x) ws → In x (transcripts_in ws)
in_transcripts [] x h = absurd h
in_transcripts (w ∷ ws) x (inl e) = inl e
in_transcripts (w ∷ ws) x (inr k) = inr (in_transcripts ws x k)

pub all_in : (X : List Transcript) (ws : List Written) → Each (λ w. In w.transcript X) ws → (x : Transcript) → In x (transcripts_in ws) → In x X
all_in X [] h x k = absurd k
all_in X (w ∷ ws) h x (inl e) = subst (λ (z : Transcript). In z X) e h.0
all_in X (w ∷ ws) h x (inr k) = all_in X ws h.1 x k

-- ---- as many

record Without (x : Text) (ys : List Text) : Type 0 where
  others : List Text
  one_less : length ys ≡ suc (length others)
  still : (n : Text) → In n ys → (x ≡ n) ⊎ In n others

without : (x : Text) (ys : List Text) → In x ys → Without x ys
without x [] i = absurd i
without x (y ∷ ys) (inl e) = record {
  others = ys;
  one_less = refl;
  still = λ n k. ⊎_elim (λ (f : y ≡ n). inl (sym e ∙ f)) (λ (f : In n ys). inr f) k;
}
without x (y ∷ ys) (inr i) = let w = without x ys i in record {
  others = y ∷ w.others;
  one_less = ap suc w.one_less;
  still = λ n k. ⊎_elim (λ (f : y ≡ n). inr (inl f)) (λ (f : In n ys). ⊎_elim (λ (g : x ≡ n). inl g) (λ (g : In n w.others). inr (inr g)) (w.still n f)) k;
}

pub no_longer : (xs ys : List Text) → NamesApart xs → ((n : Text) → In n xs → In n ys) → length xs ≤ length ys
no_longer [] ys apart within = omega arith
no_longer (x ∷ xs) ys apart within = let w = without x ys (within x (inl refl)) in
    let l = no_longer xs w.others apart.1 (λ n i. ⊎_elim (λ (e : x ≡ n). absurd (not_in x xs apart.0 (subst (λ (m : Text). In m xs) (sym e) i))) (λ (k : In n w.others). k) (w.still n (within n (inr i)))) in
    let e = w.one_less in omega (arith, l, e)

-- ---- names

pub named_in : (A B : List Transcript) → ((x : Transcript) → In x A → In x B) → (n : Text) → In n (names_in A) → In n (names_in B)
named_in [] B f n i = absurd i
named_in (x ∷ A) B f n (inl e) = subst (λ (m : Text). In m (names_in B)) e (its_name B x (f x (inl refl)))
named_in (x ∷ A) B f n (inr i) = named_in A B (λ y k. f y (inr k)) n i

others_differ : (x : Transcript) (X : List Transcript) → ((k : ℕ) (y : Transcript) → At X k y → x.session ≢ y.session) → Each (λ o. x.session ≢ o) (names_in X)
others_differ x [] f = tt
others_differ x (y ∷ X) f = (f 0 y refl, others_differ x X (λ k z a. f (suc k) z a))

pub apart_by_place : (X : List Transcript) → SessionsDiffer X → NamesApart (names_in X)
apart_by_place [] d = tt
apart_by_place (x ∷ X) d = (
  others_differ x X (λ k y a. d 0 (suc k) x y refl a (λ (e : 0 ≡ suc k). omega (arith, e))),
  apart_by_place X (λ i j y z a b ne. d (suc i) (suc j) y z a b (λ (e : suc i ≡ suc j). ne (omega (arith, e)))),
)

some_named : (X : List Transcript) (x : Transcript) → In x X → Some_of (λ y. y.session ≡ x.session) X
some_named [] x i = absurd i
some_named (y ∷ X) x (inl e) = inl (ap (λ (z : Transcript). z.session) e)
some_named (y ∷ X) x (inr i) = inr (some_named X x i)

pub each_named : (A X : List Transcript) → ((x : Transcript) → In x A → In x X) → Each (λ name. Some_of (λ x. x.session ≡ name) X) (names_in A)
each_named [] X f = tt
each_named (x ∷ A) X f = (some_named X x (f x (inl refl)), each_named A X (λ y k. f y (inr k)))

pub each_within : (A B : List Transcript) → ((x : Transcript) → In x A → In x B) → Each (λ x. In x B) A
each_within [] B f = tt
each_within (x ∷ A) B f = (f x (inl refl), each_within A B (λ y k. f y (inr k)))

-- ---- what the input has of the sessions is in the transcripts

abbrev session_of : Text → List Text → InputSession
session_of name texts = record { name = name; texts = texts }

pub inputs_are : (input : List InputSession) (X : List Transcript) → AreStatements input X → input ≡ map session_in X
inputs_are [] [] h = refl
inputs_are [] (x ∷ X) h = absurd h
inputs_are (s ∷ input) [] h = absurd h
inputs_are (s ∷ input) (x ∷ X) h = ap₂ (λ (z : InputSession) (zs : List InputSession). z ∷ zs) (ap₂ session_of (sym h.0.named) (sym h.0.are)) (inputs_are input X h.1)

-- ---- lists put together

pub in_either : {A : Type 0} (x : A) (xs ys : List A) → In x (xs ++ ys) → In x xs ⊎ In x ys
in_either x [] ys i = inr i
in_either x (z ∷ xs) ys (inl e) = inl (inl e)
in_either x (z ∷ xs) ys (inr k) = ⊎_elim (λ (l : In x xs). inl (inr l)) (λ (r : In x ys). inr r) (in_either x xs ys k)

pub in_some : (time : ℕ) (ws : List Written) → In time (flat_map (λ w. w.moments) ws) → Some_of (λ w. In time w.moments) ws
in_some time [] i = absurd i
in_some time (w ∷ ws) i = ⊎_elim (λ (l : In time w.moments). inl l) (λ r. inr (in_some time ws r)) (in_either time w.moments (flat_map (λ u. u.moments) ws) i)

pub each_both : {A : Type 0} (P : A → Type 0) (xs ys : List A) → Each P xs → Each P ys → Each P (xs ++ ys)
each_both P [] ys h k = k
each_both P (x ∷ xs) ys h k = (h.0, each_both P xs ys h.1 k)

pub each_map : {A B : Type 0} (f : A → B) (P : B → Type 0) (xs : List A) → Each (λ x. P (f x)) xs → Each P (map f xs)
each_map f P [] h = tt
each_map f P (x ∷ xs) h = (h.0, each_map f P xs h.1)

pub each_flat : {A B : Type 0} (f : A → List B) (P : B → Type 0) (xs : List A) → Each (λ x. Each P (f x)) xs → Each P (flat_map f xs)
each_flat f P [] h = tt
each_flat f P (x ∷ xs) h = each_both P (f x) (flat_map f xs) h.0 (each_flat f P xs h.1)

pub each_of : {A : Type 0} (P Q : A → Type 0) → ((x : A) → P x → Q x) → (xs : List A) → Each P xs → Each Q xs
each_of P Q f [] h = tt
each_of P Q f (x ∷ xs) h = (f x h.0, each_of P Q f xs h.1)
