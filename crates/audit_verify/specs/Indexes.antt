-- Indexes, table by table.
use Rattle.std.specs.Prelude.{ℕ, ◌<◌, List, [], ◌∷◌, map, length, Option, None}
use Rattle.sql_types.specs.declared.version.Version.{Version}
use Rattle.spec_model.specs.Lists.{or_else}
use Rattle.format_image.specs.Rows.{Stored, stored_at}
use Rattle.spec_verify.specs.declared.place.Place.{Place}
use Rattle.spec_verify.specs.Indexes.{table_fault}
use Rattle.audit_roots.specs.declared.shown.ImageTable.{ImageTable}
use Rattle.audit_roots.specs.ImageTable.{def_of, rows_of}

-- the first of these tables with a fault, and its first
abbrev pub first_among : List ImageTable → Option Place
first_among [] = None
first_among (s ∷ ss) = or_else (table_fault (def_of s) (rows_of s)) (first_among ss)

-- the numbers of its indexes fit into a byte
abbrev pub HasFewIndexes : ImageTable → Type 0
HasFewIndexes s = length (def_of s).indexes < 256

-- the values of a version in the columns with these ordinals
abbrev pub row_at : List ℕ → Version → Stored
row_at ordinals v = map (stored_at v.values) ordinals
