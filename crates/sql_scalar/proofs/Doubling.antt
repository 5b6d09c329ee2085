-- Texts with each quote twice.
use Rattle.std.proofs.Common.{◌≡◌, ◌∙◌, ◌<◌, ℕ, List, [], ◌∷◌, ◌++◌, length, ap, refl, arith, Option, Some, None, length-append}
use Rattle.std.specs.Prelude.{MatchOption}
use denote.Ref.{Bor}
use Rattle.sql_value.specs.Printed.{doubled}
use Rattle.sql_scalar.proofs.Reading.{NoQuote, no_quote_head, no_quote_tail}

doubled_same : (bs : List ℕ) → NoQuote bs → doubled bs ≡ bs
doubled_same [] h = refl
doubled_same (c ∷ cs) h = rw (no_quote_head c cs h) (ap (λ x. c ∷ x) (doubled_same cs (no_quote_tail c cs h)))

doubled_at : (piece after : List ℕ) → NoQuote piece → doubled (piece ++ 39 ∷ after) ≡ piece ++ 39 ∷ 39 ∷ doubled after
doubled_at [] after h = refl
doubled_at (c ∷ cs) after h = rw (no_quote_head c cs h) (ap (λ x. c ∷ x) (doubled_at cs after (no_quote_tail c cs h)))

pub doubled_parts : (bs : List ℕ) (r : Option (Bor (List ℕ) × Bor (List ℕ)))
    → MatchOption r (NoQuote bs) (λ x. (bs ≡ x.0.now ++ (39 ∷ x.1.now)) × NoQuote x.0.now)
    → MatchOption r (doubled bs ≡ bs) (λ p. (doubled bs ≡ p.0.now ++ 39 ∷ 39 ∷ doubled p.1.now) × (length p.1.now < length bs))
doubled_parts bs None h = doubled_same bs h
doubled_parts bs (Some p) h = (
  ap doubled h.0 ∙ doubled_at p.0.now p.1.now h.1,
  omega (arith, ap length h.0, length-append p.0.now (39 ∷ p.1.now)),
)
