-- The places of entries by the ids of their transactions.
use Rattle.std.specs.Prelude.{ℕ, ◌+◌, ◌==◌, if◌then◌else◌, List, [], ◌∷◌, Option, Some, None}
use Rattle.std.specs.Ordering.{nat_cmp}
use Rattle.std.specs.declared.cmp.Ordering.{Ordering}
use Rattle.sql_types.specs.declared.entry.TxEntry.{TxEntry}
use Rattle.spec_model.specs.Lists.{sorted}
use Rattle.spec_model.specs.Rows.{EventId}
use Rattle.spec_verify.specs.Order.{position_of}

-- an id and a place
abbrev pub PlacedId : Type 0
PlacedId = ℕ × ℕ

abbrev pub id_cmp : PlacedId → PlacedId → Ordering
id_cmp a b = nat_cmp a.0 b.0

-- the ids of entries with their places, counted from n
abbrev pub placed_from : ℕ → List TxEntry → List PlacedId
placed_from n [] = []
placed_from n (e ∷ es) = (e.id, n) ∷ placed_from (n + 1) es

-- by the ids
abbrev pub placed_by_id : List TxEntry → List PlacedId
placed_by_id entries = sorted id_cmp (placed_from 0 entries)

-- the place, where it is of this id
abbrev pub place_at : Option PlacedId → ℕ → ℕ → ℕ
place_at None id none = none
place_at (Some p) id none = if p.0 == id then p.1 else none

-- the first place of this id, if it has one
abbrev pub place_in : List PlacedId → ℕ → ℕ → ℕ
place_in [] id none = none
place_in (p ∷ ps) id none = if p.0 == id then p.1 else place_in ps id none

-- the place of an event's entry, and the event's number
abbrev pub Rank : Type 0
Rank = ℕ × ℕ

abbrev pub rank_of : List TxEntry → EventId → Rank
rank_of entries event = (position_of entries event.0, event.1)
