-- Places of events in the ledger: the position of the entry of the transaction, then the number in it.
use Rattle.std.specs.Prelude.{ℕ, zero, suc, ◌==◌, ◌&&◌, ◌||◌, nat_lt, Bool, if◌then◌else◌, List, [], ◌∷◌, map}
use Rattle.sql_types.specs.declared.entry.TxEntry.{TxEntry}
use Rattle.sql_types.specs.declared.version.Version.{Version}
use Rattle.spec_model.specs.Rows.{EventId, Row, values_of}

-- how many entries stand before the one with this id
abbrev pub position_of : List TxEntry → ℕ → ℕ
position_of [] id = zero
position_of (e ∷ es) id = if e.id == id then zero else suc (position_of es id)

-- the position of an entry, and a number
abbrev pub EventPlace : Type 0
EventPlace = ℕ × ℕ

abbrev pub place_of : List TxEntry → EventId → EventPlace
place_of entries event = (position_of entries event.0, event.1)

-- the first place is before the second
abbrev pub stands_before : EventPlace → EventPlace → Bool
stands_before a b = nat_lt a.0 b.0 || (a.0 == b.0 && nat_lt a.1 b.1)

-- a row of a system table, with the place of its start
pub record PlacedRow : Type 0 where
  pub place : EventPlace
  pub row : Row

abbrev pub placed : List TxEntry → Version → PlacedRow
placed entries v = record { place = place_of entries v.start; row = values_of v }

-- the tables in which the entry at this position has a root
abbrev pub rooted_at : List TxEntry → ℕ → List ℕ
rooted_at [] position = []
rooted_at (e ∷ es) zero = map (λ (r : ℕ × List ℕ). r.0) e.roots
rooted_at (e ∷ es) (suc position) = rooted_at es position
