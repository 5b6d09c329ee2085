-- What stands against the wants of a transaction.
use Rattle.std.specs.Prelude.{ℕ, ◌==◌, ◌&&◌, ◌||◌, nat_lt, Bool, if◌then◌else◌, List, [], ◌∷◌, map, Option, Some, None}
use Rattle.std.specs.List.{filter, fold}
use Rattle.sql_types.specs.declared.lock.Mode.{Mode}
use Rattle.sql_types.specs.declared.lock.Item.{Item}
use Rattle.sql_types.specs.declared.lock.LockRequest.{LockRequest}
use Rattle.sql_types.specs.declared.lock.Hold.{Hold}
use Rattle.spec_model.specs.Locks.{requests_conflict}
use Rattle.spec_model.specs.Holds.{is_foreign, rank}

-- the hold is another transaction's and can't stand beside the want
abbrev pub bars : ℕ → LockRequest → Hold → Bool
bars tx request h = is_foreign tx h && requests_conflict request h.request

-- a transaction that holds something, and a mode in which it does
abbrev pub Holder : Type 0
Holder = ℕ × Mode

abbrev pub holder_of : Hold → Holder
holder_of h = (h.tx, h.request.mode)

-- the transaction is lesser, or of one transaction the mode
abbrev pub precedes : Holder → Holder → Bool
precedes a b = nat_lt a.0 b.0 || (a.0 == b.0 && nat_lt (rank a.1) (rank b.1))

abbrev pub lesser : Holder → Option Holder → Holder
lesser a None = a
lesser a (Some b) = if precedes b a then b else a

abbrev pub least_with : Option Holder → Holder → Option Holder
least_with best a = Some (lesser a best)

-- the least transaction, and the least of its modes
abbrev pub least : List Holder → Option Holder
least holders = fold least_with None holders

-- the least holder that bars the want
unfoldable pub barrier : List Hold → ℕ → LockRequest → Option Holder
barrier holds tx request = least (map holder_of (filter (bars tx request) holds))

-- a holder, and the item in question
abbrev pub Conflict : Type 0
Conflict = Holder × Item

abbrev pub conflict_or : Option Holder → Item → Option Conflict → Option Conflict
conflict_or (Some holder) item rest = Some (holder, item)
conflict_or None item rest = rest

-- the first want that is barred decides
unfoldable pub first_conflict : List Hold → ℕ → List LockRequest → Option Conflict
first_conflict holds tx [] = None
first_conflict holds tx (request ∷ requests) =
    conflict_or (barrier holds tx request) request.item (first_conflict holds tx requests)
