-- Rows of the system tables as the code holds them.
use Rattle.std.specs.Prelude.{ℕ, List, map}
use Rattle.std.specs.Borrow.{Bor}
use Rattle.std.specs.Ordering.{int_cmp, nat_cmp, on, ordering_then}
use Rattle.std.specs.declared.cmp.Ordering.{Ordering}
use Rattle.spec_model.specs.Rows.{event_cmp, values_of}
use Rattle.law_catalog_rows.specs.Latest.{number_at}
use Rattle.spec_rules.specs.Places.{PlacedRow}
use Rattle.audit_rules.specs.declared.rows.PlacedVersion.{PlacedVersion}

abbrev pub row_of : PlacedVersion → PlacedRow
row_of r = record { place = r.place; row = values_of r.version.now }

abbrev pub seen : List PlacedVersion → List PlacedRow
seen rows = map row_of rows

-- the texts that are borrowed
abbrev pub texts : List (Bor (List ℕ)) → List (List ℕ)
texts borrowed = map (λ (b : Bor (List ℕ)). b.now) borrowed

-- ---- orders

abbrev pub position_in : PlacedVersion → ℕ
position_in r = r.place.0

-- by the position of the entry
abbrev pub position_cmp : PlacedVersion → PlacedVersion → Ordering
position_cmp = on position_in nat_cmp

-- by the table that the row is about, and then by place
abbrev pub table_cmp : PlacedVersion → PlacedVersion → Ordering
table_cmp a b =
    ordering_then (int_cmp (number_at 0 (row_of a).row) (number_at 0 (row_of b).row)) (event_cmp a.place b.place)
