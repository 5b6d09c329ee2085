-- The places of holds in the order of their items.
use Rattle.std.specs.Prelude.{◌≡◌, ◌==◌, ◌<◌, ◌≤◌, ◌⊎◌, ℕ, Bool, true, false, List, [], ◌∷◌, map, get_or, length, take, slice_get, Option, Some, None}
use Rattle.std.specs.List.{All, AllPairs, filter, filter_map, list_any}
use Rattle.std.specs.Ordering.{is_gt, is_lt}
use Rattle.sql_types.specs.declared.lock.Item.{Item}
use Rattle.sql_types.specs.declared.lock.Item.TheVariants.{Whole}
use Rattle.spec_model.specs.Locks.{same_item}
use Rattle.sql_types.specs.declared.lock.Hold.{Hold}
use Rattle.spec_model.specs.Holds.{holds_any}
use Rattle.store_locks.specs.Items.{item_cmp}

abbrev pub item_of : Hold → Item
item_of h = h.request.item

-- the item of the hold at a place
unfoldable pub item_at : List Hold → ℕ → Item
item_at holds place = get_or (map item_of holds) place Whole

-- the place is one of these
abbrev pub Has : List ℕ → ℕ → Type 0
Has [] place = ⊥
Has (x ∷ xs) place = (x ≡ place) ⊎ Has xs place

-- the item at the first place isn't behind the one at the second
abbrev pub InOrder : List Hold → ℕ → ℕ → Type 0
InOrder holds a b = is_gt (item_cmp (item_at holds a) (item_at holds b)) ≡ false

-- the places of all holds and no others, by rising items
pub record Indexed (holds : List Hold) (places : List ℕ) : Type 0 where
  pub within : All (λ place. place < length holds) places
  pub complete : (place : ℕ) → place < length holds → Has places place
  pub in_order : AllPairs (InOrder holds) places

-- the holds at these places
unfoldable pub picked : List Hold → List ℕ → List Hold
picked holds places = filter_map (slice_get holds) places

-- the item at a place stands before this one
abbrev pub item_is_before : List Hold → Item → ℕ → Bool
item_is_before holds item place = is_lt (item_cmp (item_at holds place) item)

-- these places have all holds on the item, and maybe others
abbrev pub Covers : List Hold → Item → List ℕ → Type 0
Covers holds item places =
    (place : ℕ) → place < length holds → same_item item (item_at holds place) ≡ true → Has places place

-- what a lock list keeps beside the holds: their places by item, room to note where holds move, and who holds
-- something
pub record Bookkeeping (holds : List Hold) (places moved who : List ℕ) : Type 0 where
  pub indexed : Indexed holds places
  pub room : length holds ≤ length moved
  pub holders : (tx : ℕ) → list_any (λ holder. holder == tx) who ≡ holds_any holds tx

-- ---- what stays

abbrev pub passes : (Hold → Bool) → Option Hold → Bool
passes test None = false
passes test (Some h) = test h

-- the hold at a place stays
abbrev pub stays : (Hold → Bool) → List Hold → ℕ → Bool
stays test holds place = passes test (slice_get holds place)

-- how many of the holds before a place stay
abbrev pub staying : (Hold → Bool) → List Hold → ℕ → ℕ
staying test holds place = length (filter test (take place holds))
