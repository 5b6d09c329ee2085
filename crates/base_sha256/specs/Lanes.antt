-- Four messages in the four lanes of a vector, lane i being message i.
use Rattle.std.specs.Prelude.{ℕ, List, [], ◌∷◌, slice_index, slice_index_or}

-- the vector with f i in lane i
abbrev pub lanes : (ℕ → ℕ) → List ℕ
lanes f = f 0 ∷ f 1 ∷ f 2 ∷ f 3 ∷ []

-- the eight vectors whose lane i are the eight words of s i
abbrev pub eight_words : (ℕ → List ℕ) → List (List ℕ)
eight_words s =
    lanes (λ i. slice_index (s i) 0) ∷ lanes (λ i. slice_index (s i) 1) ∷ lanes (λ i. slice_index (s i) 2)
    ∷ lanes (λ i. slice_index (s i) 3) ∷ lanes (λ i. slice_index (s i) 4) ∷ lanes (λ i. slice_index (s i) 5)
    ∷ lanes (λ i. slice_index (s i) 6) ∷ lanes (λ i. slice_index (s i) 7) ∷ []

-- the bytes in lane i
abbrev pub block : List (List ℕ) → ℕ → List ℕ
block blocks i = slice_index_or blocks i []
