-- Walking over a list from the front.
use Rattle.std.proofs.Common.{ℕ, List}
use Rattle.std.specs.List.{AllByRecursion}

module _ (P : List ℕ → Type 0) (all : List (List ℕ)) where
  -- all have it exactly where those that are left have it
  pub record Walk (rest : List (List ℕ)) : Type 0 where
    pub whole : AllByRecursion P rest → AllByRecursion P all
    pub part : AllByRecursion P all → AllByRecursion P rest
