-- The columns to which the values of an INSERT go, in a table of which some were dropped.
use Rattle.std.proofs.Common.{◌≡◌, refl, rules, ℕ, List, [], ◌∷◌, Option, Some, None}
use Rattle.sql_types.specs.declared.table.TableDef.{TableDef}
use Rattle.spec_model.specs.Changes.{names_for, written_names}
use Rattle.spec_model.specs.Columns.{names_of}
use Rattle.spec_model.specs.LiveColumns.{live_columns}

unlisted : (def : TableDef) (dropped : List ℕ) → (dropped ≡ [] → ⊥) → names_for dropped def None ≡ Some (names_of (live_columns def))
unlisted def [] some = absurd (some refl)
unlisted def (n ∷ ns) some = refl

pub live_where_unlisted : (def : TableDef) (listed : Option (List (List ℕ))) → (def.dropped ≡ [] → ⊥) → listed ≡ None
    → written_names def listed ≡ Some (names_of (live_columns def))
live_where_unlisted def None some none = unlisted def def.dropped some
live_where_unlisted def (Some names) some none = absurd (search rules)
