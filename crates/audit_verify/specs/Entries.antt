-- Entries, found by their ids.
use Rattle.std.specs.Prelude.{ℕ, zero, suc, ◌+◌, ◌≡◌, ◌==◌, if◌then◌else◌, List, [], ◌∷◌, Option, Some, None}
use Rattle.std.specs.List.{filter}
use Rattle.std.specs.List.Sorted.{IsNonDecreasingBy}
use Rattle.sql_types.specs.declared.entry.TxEntry.{TxEntry}
use Rattle.audit_verify.specs.declared.entries.Entries.{Entries}

-- an id, and the place of an entry that has it
abbrev pub Placed : Type 0
Placed = ℕ × ℕ

-- the ids, each with the place of its entry, counted from k
abbrev pub ids_from : ℕ → List TxEntry → List Placed
ids_from k [] = []
ids_from k (e ∷ es) = (e.id, k) ∷ ids_from (k + 1) es

abbrev pub behind_one : Option ℕ → Option ℕ
behind_one None = None
behind_one (Some k) = Some (suc k)

-- the place of the first entry with this id
abbrev pub first_with : List TxEntry → ℕ → Option ℕ
first_with [] id = None
first_with (e ∷ es) id = if e.id == id then Some zero else behind_one (first_with es id)

-- the place that stands first, if its id is this one
abbrev pub place_at_head : ℕ → List Placed → Option ℕ
place_at_head id [] = None
place_at_head id (p ∷ ps) = if p.0 == id then Some p.1 else None

-- the ids are sorted, and those that are equal stand as their entries do
pub record AreFound (entries : Entries) : Type 0 where
  pub rise : IsNonDecreasingBy (λ (p : Placed). p.0) entries.by_id.items
  pub same : (id : ℕ)
      → filter (λ p. p.0 == id) entries.by_id.items ≡ filter (λ p. p.0 == id) (ids_from 0 entries.all.now)
