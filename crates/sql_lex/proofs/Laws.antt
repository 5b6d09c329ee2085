-- What the longest token is, by its definition.
use Rattle.std.proofs.Common.{◌≡◌, ℕ, zero, suc, ◌<◌, ◌≤◌, Bool, true, false, List, [], length, take, nat_le, Option, Some, None, refl, subst, arith}
use Rattle.std.proofs.lemmas.Bool.Decides.{nat_tests}
use Rattle.sql_lex.specs.declared.token.Kind.{Kind}
use Rattle.sql_lex.specs.IsToken.{kind_of}
use Rattle.sql_lex.specs.Longest.{longest, longest_within, or_else, with_length}

-- of the beginnings of at most so many bytes
abbrev Says : ℕ → List ℕ → Option (Kind × ℕ) → Type 0
Says n z None = (m : ℕ) → m ≤ n → kind_of (take m z) ≡ None
Says n z (Some t) = (1 ≤ t.1) × (t.1 ≤ n) × (kind_of (take t.1 z) ≡ Some t.0) × ((m : ℕ) → t.1 < m → m ≤ n → kind_of (take m z) ≡ None)

nothing : kind_of [] ≡ None
unfolding kind_of
nothing = refl

none_of : (z : List ℕ) (m : ℕ) → m ≤ 0 → kind_of (take m z) ≡ None
none_of z zero le = nothing
none_of z (suc m) le = absurd (omega arith)

one_more : (n m : ℕ) (z : List ℕ) (c : Bool) → nat_le m n ≡ c → m ≤ suc n → kind_of (take (suc n) z) ≡ None → (m ≤ n → kind_of (take m z) ≡ None) → kind_of (take m z) ≡ None
one_more n m z true e le last rest = rest (grind (arith, nat_tests))
one_more n m z false e le last rest =
    let high : suc n ≤ m = grind (arith, nat_tests) in
    let same : suc n ≡ m = omega arith in
    subst (λ x. kind_of (take x z) ≡ None) same last

says_or : (n : ℕ) (z : List ℕ) (r : Option Kind) (q : Option (Kind × ℕ)) → kind_of (take (suc n) z) ≡ r → Says n z q → Says (suc n) z (or_else (with_length (suc n) r) q)
says_or n z (Some k) q e says = (omega arith, omega arith, e, λ m lt le. absurd (omega arith))
says_or n z None None e says = λ m le. one_more n m z (nat_le m n) refl le e (λ few. says m few)
says_or n z None (Some t) e says = (says.0, omega (arith, says.1), says.2, λ m lt le. one_more n m z (nat_le m n) refl le e (λ few. says.3 m lt few))

says_within : (n : ℕ) (z : List ℕ) → Says n z (longest_within n z)
says_within zero z = none_of z
says_within (suc n) z = says_or n z (kind_of (take (suc n) z)) (longest_within n z) refl (says_within n z)

pub says : (z : List ℕ) (r : Option (Kind × ℕ)) → longest z ≡ r → Says (length z) z r
unfolding longest
says z r e = subst (Says (length z) z) e (says_within (length z) z)
