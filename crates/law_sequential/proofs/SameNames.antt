-- Lists whose elements have different names: who has the same names is the same list.
use Rattle.std.proofs.Common.{◌≡◌, ◌≢◌, false, true≢false, ℕ, zero, suc, List, [], ◌∷◌, map, refl, sym, ap, ap₂, subst, ◌∙◌, inl, inr, ⊎_elim}
use Rattle.std.specs.List.{IsDistinct, AllByRecursion}
use Rattle.std.specs.Str.{bytes_eq}
use Rattle.std.proofs.lemmas.Slice.Eq.{bytes_eq-Decides}
use Rattle.spec_history.specs.Lists.{Text, Each, At, In}
use Rattle.spec_history.specs.Transcripts.{Transcript}
use Rattle.spec_protocol.specs.Reordered.{NamesApart}

-- each of these names once
abbrev pub Apart : List Text → Type 0
Apart [] = Unit {0}
Apart (name ∷ names) = Each (λ other. name ≢ other) names × Apart names

abbrev pub names_in : List Transcript → List Text
names_in X = map (λ x. x.session) X

pub its_name : (X : List Transcript) (x : Transcript) → In x X → In x.session (names_in X)
its_name [] x i = absurd i
its_name (y ∷ X) x i = ⊎_elim (λ (e : y ≡ x). inl (ap (λ (z : Transcript). z.session) e)) (λ k. inr (its_name X x k)) i

pub not_in : (name : Text) (names : List Text) → Each (λ other. name ≢ other) names → In name names → ⊥
not_in name [] h i = i
not_in name (other ∷ names) h i = ⊎_elim (λ (e : other ≡ name). h.0 (sym e)) (λ k. not_in name names h.1 k) i

same_head : (a b : Text) (xs ys : List Text) → (a ∷ xs) ≡ b ∷ ys → (a ≡ b) × (xs ≡ ys)
same_head a b xs ys e = (cc, cc)

each_in_rest : (b : Transcript) (A B : List Transcript) → Each (λ n. b.session ≢ n) (names_in A) → Each (λ x. In x (b ∷ B)) A → Each (λ x. In x B) A
each_in_rest b [] B ne h = tt
each_in_rest b (a ∷ A) B ne h = (⊎_elim (λ (e : b ≡ a). absurd (ne.0 (ap (λ (z : Transcript). z.session) e))) (λ (k : In a B). k) h.0, each_in_rest b A B ne.1 h.1)

pub same_list : (A B : List Transcript) (names : List Text) → names_in A ≡ names → names_in B ≡ names → Apart names → Each (λ x. In x B) A → A ≡ B
same_list [] [] names a b apart h = refl
same_list [] (y ∷ B) names a b apart h = let e : [] ≡ y.session ∷ names_in B = a ∙ sym b in cc
same_list (x ∷ A) B [] a b apart h = cc
same_list (x ∷ A) [] (n ∷ names) a b apart h = cc
same_list (x ∷ A) (y ∷ B) (n ∷ names) a b apart h =
    let p = same_head x.session n (names_in A) names a in let q = same_head y.session n (names_in B) names b in
    let here : x ≡ y = ⊎_elim (λ (e : y ≡ x). sym e) (λ (k : In x B). absurd (not_in n names apart.0 (subst (λ (ns : List Text). In n ns) q.1 (subst (λ (m : Text). In m (names_in B)) p.0 (its_name B x k))))) h.0 in
    let rest : Each (λ z. In z B) A = each_in_rest y A B (subst (λ (m : Text). Each (λ o. m ≢ o) (names_in A)) (sym q.0) (subst (λ (ns : List Text). Each (λ o. n ≢ o) ns) (sym p.1) apart.0)) h.1 in
    ap₂ (λ (z : Transcript) (zs : List Transcript). z ∷ zs) here (same_list A B names p.1 q.1 apart.1 rest)

-- ---- by place

at_in : (names : List Text) (i : ℕ) (n : Text) → At names i n → In n names
at_in [] i n a = absurd a
at_in (m ∷ names) zero n a = inl a
at_in (m ∷ names) (suc i) n a = inr (at_in names i n a)

pub differ_at : (names : List Text) → Apart names → (i j : ℕ) (m n : Text) → At names i m → At names j n → i ≢ j → m ≢ n
differ_at [] apart i j m n a b ne = absurd a
differ_at (k ∷ names) apart zero zero m n a b ne = absurd (ne refl)
differ_at (k ∷ names) apart zero (suc j) m n a b ne = λ e. not_in k names apart.0 (subst (λ (z : Text). In z names) (sym e ∙ sym a) (at_in names j n b))
differ_at (k ∷ names) apart (suc i) zero m n a b ne = λ e. not_in k names apart.0 (subst (λ (z : Text). In z names) (e ∙ sym b) (at_in names i m a))
differ_at (k ∷ names) apart (suc i) (suc j) m n a b ne = differ_at names apart.1 i j m n a b (λ e. ne (ap suc e))

name_at : (X : List Transcript) (i : ℕ) (x : Transcript) → At X i x → At (names_in X) i x.session
name_at [] i x a = absurd a
name_at (y ∷ X) zero x a = ap (λ (z : Transcript). z.session) a
name_at (y ∷ X) (suc i) x a = name_at X i x a

pub differ : (X : List Transcript) (names : List Text) → names_in X ≡ names → Apart names → (i j : ℕ) (x y : Transcript) → At X i x → At X j y → i ≢ j → x.session ≢ y.session
differ X names e apart i j x y a b ne = differ_at names apart i j x.session y.session (subst (λ (ns : List Text). At ns i x.session) e (name_at X i x a)) (subst (λ (ns : List Text). At ns j y.session) e (name_at X j y b)) ne

-- ---- names that differ as bytes

apart_from : (name : Text) (names : List Text) → AllByRecursion (λ other. bytes_eq name other ≡ false) names → Each (λ other. name ≢ other) names
apart_from name [] all = tt
apart_from name (n ∷ names) all = ((λ same. true≢false (sym ((bytes_eq-Decides name n).1 same) ∙ all.0)), apart_from name names all.1)

pub names_apart : (names : List Text) → IsDistinct bytes_eq names → NamesApart names
unfolding IsDistinct
names_apart [] distinct = tt
names_apart (n ∷ names) distinct = (apart_from n names distinct.0, names_apart names distinct.1)
