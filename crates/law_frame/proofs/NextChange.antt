-- The change of ALTER TABLE and DROP TABLE is above the changes of all rows about the table.
use Rattle.std.proofs.Common.{◌≡◌, ◌≤◌, ◌<◌, ℕ, refl, Bool, true, false, List, [], ◌∷◌, ◌++◌, map, arith}
use Rattle.std.specs.Prelude.{◌==◌, if◌then◌else◌}
use Rattle.std.specs.List.{AllByRecursion, filter}
use Rattle.sql_types.specs.declared.version.Version.{Version}
use Rattle.spec_model.specs.Lists.{greatest}
use Rattle.spec_model.specs.Alter.{count_at, changes_at, next_change}
use Rattle.law_frame.proofs.Alls.{all_weaker}

-- what is below a number is below the greater of it and another
first_below : (ns ms : List ℕ) → greatest ns ≤ greatest (ns ++ ms)
first_below [] ms = omega arith
first_below (n ∷ ns) ms = omega (arith, first_below ns ms)

second_below : (ns ms : List ℕ) → greatest ms ≤ greatest (ns ++ ms)
second_below [] ms = omega arith
second_below (n ∷ ns) ms = omega (arith, second_below ns ms)

-- the changes of the rows about this table are at most the greatest of them
module _ (place id : ℕ) where
  abbrev IsAtMost : ℕ → Version → Type 0
  IsAtMost m v = (count_at 0 v == id) ≡ true → count_at place v ≤ m

  at_head : (b : Bool) (v : Version) (vs : List Version) → (count_at 0 v == id) ≡ b → (count_at 0 v == id) ≡ true → count_at place v ≤ greatest (map (count_at place) (if b then v ∷ filter (λ w. count_at 0 w == id) vs else filter (λ w. count_at 0 w == id) vs))
  at_head true v vs e h = omega arith
  at_head false v vs e h = cc

  behind : (b : Bool) (v : Version) (vs : List Version) → greatest (changes_at place id vs) ≤ greatest (map (count_at place) (if b then v ∷ filter (λ w. count_at 0 w == id) vs else filter (λ w. count_at 0 w == id) vs))
  behind true v vs = omega arith
  behind false v vs = omega arith

  at_most : (vs : List Version) → AllByRecursion (IsAtMost (greatest (changes_at place id vs))) vs
  at_most [] = tt
  at_most (v ∷ vs) = (
    at_head (count_at 0 v == id) v vs refl,
    all_weaker (IsAtMost (greatest (changes_at place id vs))) (IsAtMost (greatest (changes_at place id (v ∷ vs)))) (λ w h e. omega (arith, h e, behind (count_at 0 v == id) v vs)) vs (at_most vs),
  )

module _ (id : ℕ) (first second : List Version) where
  pub above_first : AllByRecursion (λ v. (count_at 0 v == id) ≡ true → count_at 1 v < next_change id first second) first
  unfolding next_change
  above_first =
      all_weaker (IsAtMost 1 id (greatest (changes_at 1 id first))) (λ v. (count_at 0 v == id) ≡ true → count_at 1 v < next_change id first second)
      (λ v h e. omega (arith, h e, first_below (changes_at 1 id first) (changes_at 2 id second))) first (at_most 1 id first)

  pub above_second : AllByRecursion (λ v. (count_at 0 v == id) ≡ true → count_at 2 v < next_change id first second) second
  unfolding next_change
  above_second =
      all_weaker (IsAtMost 2 id (greatest (changes_at 2 id second))) (λ v. (count_at 0 v == id) ≡ true → count_at 2 v < next_change id first second)
      (λ v h e. omega (arith, h e, second_below (changes_at 1 id first) (changes_at 2 id second))) second (at_most 2 id second)
