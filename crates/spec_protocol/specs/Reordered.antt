-- The same sessions, numbered in another order.
use Rattle.std.specs.Prelude.{ℕ, zero, suc, ◌≡◌, ◌≢◌, ◌<◌, List, [], ◌∷◌, length, map, Option, Some, None}
use Rattle.spec_history.specs.Inputs.{InputSession}
use Rattle.spec_history.specs.Lists.{Text, Each, Some_of, At}
use Rattle.spec_history.specs.Transcripts.{Transcript}

-- the elements at places n and n + 1 change places
abbrev pub swapped : {A : Type 0} → ℕ → List A → List A
swapped n [] = []
swapped zero (x ∷ []) = x ∷ []
swapped zero (x ∷ y ∷ xs) = y ∷ x ∷ xs
swapped (suc n) (x ∷ xs) = x ∷ swapped n xs

-- and these are the places then
abbrev pub turned : ℕ → ℕ → ℕ
turned zero zero = suc zero
turned zero (suc zero) = zero
turned zero (suc (suc i)) = suc (suc i)
turned (suc n) zero = zero
turned (suc n) (suc i) = suc (turned n i)

-- The first sessions with their transcripts, in the order of the second. The function says where each comes
-- to stand.
pub data Reordered (input : List InputSession) (X : List Transcript) : List InputSession → List Transcript
    → (ℕ → ℕ) → Type 0 where
  as_is : Reordered input X input X (λ i. i)
  swaps : (n : ℕ) {then_input : List InputSession} {then_X : List Transcript} {to : ℕ → ℕ}
      → Reordered input X then_input then_X to → suc n < length then_X
      → Reordered input X (swapped n then_input) (swapped n then_X) (λ i. turned n (to i))

-- where `setup` comes to stand
abbrev pub moved : (ℕ → ℕ) → Option ℕ → Option ℕ
moved to None = None
moved to (Some u) = Some (to u)

-- no two of these names are one
abbrev pub NamesApart : List Text → Type 0
NamesApart [] = Unit {0}
NamesApart (name ∷ names) = Each (λ other. name ≢ other) names × NamesApart names

-- these are the names of the sessions, in some order
pub record IsSessionOrder (names : List Text) (X : List Transcript) : Type 0 where
  pub apart : NamesApart names
  pub as_many : length names ≡ length X
  pub each : Each (λ name. Some_of (λ x. x.session ≡ name) X) names

-- they stand in the order of these names, and each where the function says
pub record InOrderOf (names : List Text) (input : List InputSession) (X : List Transcript) : Type 0 where
  pub then_input : List InputSession
  pub then_X : List Transcript
  pub to : ℕ → ℕ
  pub reordered : Reordered input X then_input then_X to
  pub named : map (λ x. x.session) then_X ≡ names
  pub places : (u : ℕ) (x : Transcript) → At X u x → At then_X (to u) x
