-- Elements that stand in runs of one key, each run by start.
use Rattle.std.specs.Prelude.{◌≡◌, ◌&&◌, Bool, false, List, [], ◌∷◌, ◌++◌, if◌then◌else◌, Option, Some, None}
use Rattle.std.specs.List.{AllByRecursion, filter}
use Rattle.std.specs.declared.cmp.Ordering.{Ordering}
use Rattle.std.specs.Ordering.{is_eq, is_lt, ordering_then}

module _ {A : Type 0} (by_key by_start : A → A → Ordering) where
  -- by key, and then by start
  abbrev pub run_cmp : A → A → Ordering
  run_cmp x y = ordering_then (by_key x y) (by_start x y)

  -- w has v's key, and starts before v
  abbrev pub precedes : A → A → Bool
  precedes w v = is_eq (by_key w v) && is_lt (by_start w v)

  abbrev pub earlier : A → List A → List A
  earlier v xs = filter (λ w. precedes w v) xs

  abbrev pub later_of : A → Option A → Option A
  later_of v None = Some v
  later_of v (Some w) = if is_lt (by_start w v) then Some v else Some w

  -- the latest of some elements
  abbrev pub latest : List A → Option A
  latest [] = None
  latest (v ∷ vs) = later_of v (latest vs)

-- u and v stand side by side in a list that rises
pub record Neighbours {A : Type 0} (cmp : A → A → Ordering) (all : List A) (u v : A) : Type 0 where
  pub front : List A
  pub rest : List A
  pub whole : all ≡ front ++ u ∷ v ∷ rest
  pub first : AllByRecursion (λ y. is_lt (cmp u y) ≡ false) front
  pub order : is_lt (cmp v u) ≡ false
  pub behind : AllByRecursion (λ y. is_lt (cmp y u) ≡ false) rest
  pub last : AllByRecursion (λ y. is_lt (cmp y v) ≡ false) rest
