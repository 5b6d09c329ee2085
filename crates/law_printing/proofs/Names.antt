-- Names in brackets.
use Rattle.std.proofs.Common.{◌≡◌, ◌≢◌, ℕ, ◌++◌, List, [], ◌∷◌, Option, Some, None, refl, ap, ◌∙◌, sym, MatchOption, Bor, inl, inr, arith}
use Rattle.std.specs.Prelude.{option_map}
use Rattle.std.specs.Option.{option_copied}
use Rattle.std.proofs.lemmas.Bool.{cases_eq}
use Rattle.std.proofs.lemmas.Bool.Decides.{nat_tests}
use Rattle.spec_syntax.specs.Expr.{after_open, before_close}

pub opened : (bs : List ℕ) (r : Option (Bor (List ℕ))) → MatchOption r ((rest : List ℕ) → bs ≢ 91 ∷ rest) (λ x. bs ≡ 91 ∷ x.now) → option_copied r ≡ after_open bs
opened [] None h = refl
opened [] (Some x) h = absurd (grind (arith, h))
opened (d ∷ ds) None h = elim (cases_eq d 91) [
  | inl same ↦ absurd (h ds (ap (λ y. y ∷ ds) same))
  | inr apart ↦ grind (arith, nat_tests)
]
opened (d ∷ ds) (Some x) h = grind (arith, nat_tests, h)

-- what stands before its last byte is found
pub closed : (x : List ℕ) → before_close (x ++ 93 ∷ []) ≡ Some x
closed [] = refl
closed (c ∷ []) = refl
closed (c ∷ d ∷ cs) = ap (λ (o : Option (List ℕ)). option_map (λ y. c ∷ y) o) (closed (d ∷ cs))

with_first : (c : ℕ) (ds x : List ℕ) (o : Option (List ℕ)) → before_close ds ≡ o → ((y : List ℕ) → before_close ds ≡ Some y → ds ≡ y ++ 93 ∷ []) → option_map (λ y. c ∷ y) o ≡ Some x → c ∷ ds ≡ x ++ 93 ∷ []
with_first c ds x None e again h = cc
with_first c ds x (Some y) e again h = let same : c ∷ y ≡ x = cc in ap (λ z. c ∷ z) (again y e) ∙ ap (λ z. z ++ 93 ∷ []) same

-- and nothing else is
pub ends : (bs x : List ℕ) → before_close bs ≡ Some x → bs ≡ x ++ 93 ∷ []
ends [] x e = cc
ends (c ∷ []) x e = elim (cases_eq c 93) [
  | inl same ↦ let none : [] ≡ x = grind (arith, nat_tests) in ap (λ y. y ∷ []) same ∙ ap (λ y. y ++ 93 ∷ []) none
  | inr apart ↦ absurd (grind (arith, nat_tests))
]
ends (c ∷ d ∷ cs) x e = with_first c (d ∷ cs) x (before_close (d ∷ cs)) refl (λ y h. ends (d ∷ cs) y h) e

not_closed : (bs : List ℕ) (o : Option (List ℕ)) → before_close bs ≡ o → ((front : List ℕ) → bs ≢ front ++ 93 ∷ []) → None ≡ o
not_closed bs None e never = refl
not_closed bs (Some x) e never = absurd (never x (ends bs x e))

pub shut : (bs : List ℕ) (r : Option (Bor (List ℕ))) → MatchOption r ((front : List ℕ) → bs ≢ front ++ 93 ∷ []) (λ x. bs ≡ x.now ++ 93 ∷ []) → option_copied r ≡ before_close bs
shut bs None h = not_closed bs (before_close bs) refl h
shut bs (Some x) h = sym (ap before_close h ∙ closed x.now)
