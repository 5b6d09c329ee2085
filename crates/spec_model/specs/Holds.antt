-- What a transaction holds, and what it holds when it has taken what it wants.
use Rattle.std.specs.Prelude.{ℕ, ◌==◌, ◌&&◌, not, Bool, if◌then◌else◌, List, [], ◌∷◌, ◌++◌}
use Rattle.std.specs.List.{list_any, filter}
use Rattle.sql_types.specs.declared.lock.Mode.{Mode}
use Rattle.sql_types.specs.declared.lock.Mode.TheVariants.{IS, IX, S, X}
use Rattle.sql_types.specs.declared.lock.LockRequest.{LockRequest}
use Rattle.sql_types.specs.declared.lock.Hold.{Hold}
use Rattle.spec_model.specs.Locks.{same_item}

-- the modes in their order: IS, IX, S, X
abbrev pub rank : Mode → ℕ
rank IS = 0
rank IX = 1
rank S = 2
rank X = 3

abbrev pub same_mode : Mode → Mode → Bool
same_mode a b = rank a == rank b

-- the hold is this transaction's
abbrev pub is_of : ℕ → Hold → Bool
is_of tx h = h.tx == tx

-- the hold is this transaction's, on this item and in this mode
abbrev pub answers : ℕ → LockRequest → Hold → Bool
answers tx request h = is_of tx h && (same_item request.item h.request.item && same_mode request.mode h.request.mode)

-- the transaction holds something
unfoldable pub holds_any : List Hold → ℕ → Bool
holds_any holds tx = list_any (is_of tx) holds

-- the transaction holds what it wants
unfoldable pub holds_request : List Hold → ℕ → LockRequest → Bool
holds_request holds tx request = list_any (answers tx request) holds

abbrev pub hold : ℕ → LockRequest → Hold
hold tx request = record { tx = tx; request = request }

-- a want that isn't held yet comes behind the holds
abbrev pub with_request : List Hold → ℕ → LockRequest → List Hold
with_request holds tx request = if holds_request holds tx request then holds else holds ++ hold tx request ∷ []

-- each want that isn't held yet, in their order. What stands twice is taken once.
unfoldable pub holds_after : List Hold → ℕ → List LockRequest → List Hold
holds_after holds tx [] = holds
holds_after holds tx (request ∷ requests) = holds_after (with_request holds tx request) tx requests

-- the hold is another transaction's
abbrev pub is_foreign : ℕ → Hold → Bool
is_foreign tx h = not (is_of tx h)

-- what the others hold
unfoldable pub released : List Hold → ℕ → List Hold
released holds tx = filter (is_foreign tx) holds
