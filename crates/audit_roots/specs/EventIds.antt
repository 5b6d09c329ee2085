-- The ids of starts and ends: the transaction of each, and its number there.
use Rattle.std.specs.Prelude.{ℕ, ◌≡◌, ◌==◌, List, [], ◌∷◌, map, flat_map, Option, Some, None}
use Rattle.std.specs.List.{filter}
use Rattle.std.specs.List.Sorted.{IsNonDecreasingBy}
use Rattle.sql_types.specs.declared.version.Table.{Table}
use Rattle.sql_types.specs.declared.version.Version.{Version}
use Rattle.spec_model.specs.Catalog.{Tables}
use Rattle.spec_model.specs.Lists.{sorted}
use Rattle.spec_model.specs.Rows.{EventId, event_cmp}
use Rattle.audit_roots.specs.declared.shown.ImageTable.{ImageTable}
use Rattle.audit_roots.specs.ImageTable.{table_of}

abbrev pub tx_in : EventId → ℕ
tx_in e = e.0

abbrev pub number_in : EventId → ℕ
number_in e = e.1

abbrev pub end_ids : Option EventId → List EventId
end_ids None = []
end_ids (Some end) = end ∷ []

abbrev pub version_ids : Version → List EventId
version_ids v = v.start ∷ end_ids v.end

abbrev pub ids_in : Table → List EventId
ids_in t = flat_map version_ids t.versions

abbrev pub ids_shown : ImageTable → List EventId
ids_shown s = ids_in (table_of s)

-- of the versions of these tables, sorted
pub record AreIds (tables : Tables) (ids : List EventId) : Type 0 where
  pub ids_are : ids ≡ sorted event_cmp (flat_map ids_in tables)
  pub rise : IsNonDecreasingBy tx_in ids

-- the numbers of a transaction's events
abbrev pub numbers_of : ℕ → List EventId → List ℕ
numbers_of tx ids = map number_in (filter (λ e. tx_in e == tx) ids)
