-- Texts in quotes, byte by byte.
use Rattle.std.proofs.Common.{◌≡◌, ◌∙◌, ◌<◌, ℕ, suc, true, false, List, [], ◌∷◌, ◌++◌, length, get_or, ap, sym, refl, arith, rules, Option, Some, None, append_assoc, append-nil, inl, inr, length-append}
use Rattle.std.specs.Prelude.{◌≢◌, ◌==◌, MatchOption, if◌then◌else◌}
use Rattle.std.specs.Option.{option_copied}
use Rattle.std.proofs.lemmas.Bool.{cases_eq}
use Rattle.std.proofs.lemmas.Bool.Decides.{nat_tests}
use denote.Ref.{Bor}
use Rattle.sql_value.specs.Literal.{unquoted_from, after_quote, after_n}

-- what a text goes on with behind its first byte, if that is c
abbrev pub behind : ℕ → List ℕ → Option (List ℕ)
behind c [] = None
behind c (d ∷ ds) = if d == c then Some ds else None

pub stripped : (c : ℕ) (bs : List ℕ) (r : Option (Bor (List ℕ))) → MatchOption r ((rest : List ℕ) → bs ≢ c ∷ rest) (λ x. bs ≡ c ∷ x.now) → option_copied r ≡ behind c bs
stripped c [] None h = refl
stripped c [] (Some x) h = absurd (grind (arith, h))
stripped c (d ∷ ds) None h = elim (cases_eq d c) [
  | inl same ↦ absurd (h ds (ap (λ y. y ∷ ds) same))
  | inr apart ↦ grind (arith, nat_tests)
]
stripped c (d ∷ ds) (Some x) h = grind (arith, nat_tests, h)

-- behind an N or n, one after the other
pub either : (bs : List ℕ) → behind 78 bs ≡ None → behind 110 bs ≡ after_n bs
either [] h = refl
either (d ∷ ds) h = grind (arith, nat_tests)

-- no byte is a quote
abbrev pub NoQuote : List ℕ → Type 0
NoQuote bs = (i : ℕ) → i < length bs → get_or bs i 0 ≢ 39

pub no_quote_tail : (c : ℕ) (cs : List ℕ) → NoQuote (c ∷ cs) → NoQuote cs
no_quote_tail c cs h i small = h (suc i) (omega arith)

pub no_quote_head : (c : ℕ) (cs : List ℕ) → NoQuote (c ∷ cs) → (c == 39) ≡ false
no_quote_head c cs h = let apart = h 0 (omega arith) in grind (arith, nat_tests)

pub up_to_quote : (piece after before : List ℕ) → NoQuote piece → unquoted_from false before (piece ++ 39 ∷ after) ≡ unquoted_from true (before ++ piece) after
up_to_quote [] after before h = ap (λ x. unquoted_from true x after) (sym (append-nil before))
up_to_quote (c ∷ cs) after before h =
    rw (no_quote_head c cs h) (up_to_quote cs after (before ++ c ∷ []) (no_quote_tail c cs h) ∙ ap (λ x. unquoted_from true x after) (append_assoc before (c ∷ []) cs))

pub no_end : (bs before : List ℕ) → NoQuote bs → unquoted_from false before bs ≡ None
no_end [] before h = refl
no_end (c ∷ cs) before h = rw (no_quote_head c cs h) (no_end cs (before ++ c ∷ []) (no_quote_tail c cs h))

pub ends_here : (bs piece after : List ℕ) → bs ≡ piece ++ 39 ∷ after → NoQuote piece → after ≡ [] → (before : List ℕ) → unquoted_from false before bs ≡ Some (before ++ piece)
ends_here bs piece after is free none before = rw (is, up_to_quote piece after before free, none) refl

bad_after : (after before : List ℕ) → (after ≡ [] → ⊥) → after_quote after ≡ None → unquoted_from true before after ≡ None
bad_after [] before some h = absurd (some refl)
bad_after (d ∷ ds) before some h = grind (arith, nat_tests)

pub ends_badly : (bs piece after : List ℕ) → bs ≡ piece ++ 39 ∷ after → NoQuote piece → (after ≡ [] → ⊥) → after_quote after ≡ None → (before : List ℕ) → unquoted_from false before bs ≡ None
ends_badly bs piece after is free some none before = rw (is, up_to_quote piece after before free) (bad_after after (before ++ piece) some none)

more_after : (after more before : List ℕ) → after_quote after ≡ Some more → (unquoted_from true before after ≡ unquoted_from false (before ++ 39 ∷ []) more) × (length more < length after)
more_after [] more before h = absurd (search rules)
more_after (d ∷ ds) more before h = grind (arith, nat_tests)

pub goes_on : (bs piece after more : List ℕ) → bs ≡ piece ++ 39 ∷ after → NoQuote piece → after_quote after ≡ Some more
    → ((before : List ℕ) → unquoted_from false before bs ≡ unquoted_from false (before ++ piece ++ 39 ∷ []) more) × (length more < length bs)
goes_on bs piece after more is free h = (
  λ before. rw (is, up_to_quote piece after before free) (more_after after more (before ++ piece) h).0,
  rw is (omega (arith, length-append piece (39 ∷ after), (more_after after more [] h).1)),
)

pub empty_from : {X : Type 0} (xs : List X) → (length xs == 0) ≡ true → xs ≡ []
empty_from [] h = refl
empty_from (x ∷ xs) h = grind (arith, nat_tests)

pub not_empty : {X : Type 0} (xs : List X) → (length xs == 0) ≡ false → xs ≡ [] → ⊥
not_empty [] h e = absurd (search rules)
not_empty (x ∷ xs) h e = grind (arith, nat_tests)
