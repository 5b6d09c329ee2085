-- Printed names, numbers and literals are the longest at their places.
use Rattle.std.proofs.Common.{◌≡◌, ℕ, suc, ◌+◌, ◌<◌, true, List, [], ◌∷◌, ◌++◌, length, get_or, nat_lt, Some, refl, ap, ◌∙◌, sym, arith, append_assoc, length-append}
use Rattle.std.specs.List.{list_all}
use Rattle.std.proofs.lemmas.Bool.Decides.{nat_tests}
use Rattle.sql_lex.specs.declared.token.Kind.TheVariants as kind
use Rattle.sql_lex.specs.IsToken.{is_name_byte}
use Rattle.sql_lex.specs.Longest.{longest}
use Rattle.sql_lex.specs.Front.{front}
use Rattle.sql_lex.proofs.Found.{front_is}
use Rattle.spec_syntax.specs.Tags.{tag_of}
use Rattle.spec_syntax.specs.Printed.{name}
use Rattle.law_printing.proofs.Cut.{cut_token}
use Rattle.law_printing.proofs.Lexed.{One}
use Rattle.law_printing.proofs.Tokens.{run_len}

-- ---- names

abbrev pub IsName : List ℕ → Type 0
IsName n = (0 < length n) × (list_all is_name_byte n ≡ true)

at_end_of : (n : List ℕ) (b : ℕ) (rest : List ℕ) → get_or (n ++ b ∷ rest) (length n) 0 ≡ b
at_end_of [] b rest = refl
at_end_of (x ∷ n) b rest = at_end_of n b rest

name_front : (n rest : List ℕ) → IsName n → front (91 ∷ (n ++ 93 ∷ rest)) ≡ Some (kind.Bracketed, length n + 2)
unfolding front
name_front n rest is =
    let run = run_len is_name_byte n (93 ∷ rest) is.1 refl in
    let more : nat_lt 1 (1 + length n) ≡ true = grind (arith, nat_tests, is.0) in
    let one : 1 + length n ≡ suc (length n) = omega arith in
    let shut : get_or (91 ∷ (n ++ 93 ∷ rest)) (1 + length n) 0 ≡ 93 = ap (λ m. get_or (91 ∷ (n ++ 93 ∷ rest)) m 0) one ∙ at_end_of n 93 rest in
    let two : 1 + length n + 1 ≡ length n + 2 = omega arith in
    rw (run, more, shut) (ap (λ m. Some (kind.Bracketed, m)) two)

pub one_name : (n : List ℕ) → IsName n → One (name n) (name n ∷ [])
unfolding tag_of
one_name n is = record {
  lexes = λ rest after. (let flat : (n ++ 93 ∷ []) ++ rest ≡ n ++ 93 ∷ rest = append_assoc n (93 ∷ []) rest in
      let len : length n + 2 ≡ length (91 ∷ (n ++ 93 ∷ [])) = omega (arith, length-append n (93 ∷ [])) in
      cut_token kind.Bracketed 91 (n ++ 93 ∷ []) rest refl refl
      (ap (λ z. longest (91 ∷ z)) flat ∙ sym (front_is (91 ∷ (n ++ 93 ∷ rest))) ∙ name_front n rest is ∙ ap (λ m. Some (kind.Bracketed, m)) len));
  touching = λ h. cc;
}
