-- What the calls of an object of the outside have answered.
use Rattle.std.specs.Prelude.{◌≡◌, List, [], ◌∷◌, ◌++◌, All}

-- behind all that it may have answered before, it has answered just these
abbrev pub Adds : {A : Type 0} → (List A → Type 0) → (List A → Type 0) → List A → Type 0
Adds {A} before now answers = (earlier : List A) → before earlier → now (earlier ++ answers)

-- what it has answered since is such
pub record Since {A : Type 0} (before now are : List A → Type 0) : Type 0 where
  pub answers : List A
  pub adds : Adds before now answers
  pub such : are answers

-- the last of these answers; each before it goes on, so nothing was called behind the first that doesn't
abbrev pub EndsAt : {A : Type 0} → (A → Type 0) → A → List A → Type 0
EndsAt {A} goes_on last answers = (front : List A) × (answers ≡ front ++ last ∷ []) × All goes_on front
