-- What INSERT of a row does to the versions of its table.
use Rattle.std.proofs.Common.{◌≡◌, ◌<◌, ◌^◌, ℕ, true, false, List, [], ◌∷◌, None, Ok, refl, codes}
use Rattle.std.proofs.lemmas.Bool.{lt-ltb}
use Rattle.sql_value.specs.declared.column.ColumnDef.{ColumnDef}
use Rattle.sql_value.specs.declared.sql_type.SqlType.TheVariants.{Int, BigInt}
use Rattle.sql_value.specs.Conversion.{conversion_of}
use Rattle.sql_value.specs.Stored.{is_in_range}
use Rattle.sql_types.specs.declared.table.TableDef.{TableDef}
use Rattle.sql_types.specs.declared.version.Version.{Version}
use Rattle.spec_model.specs.Changes.{Starts, kept, kept_row, arranged, is_duplicate, inserted_rows, row_changes}
use Rattle.spec_model.specs.Keys.{key_of, key_places, has_live_row, key_at}
use Rattle.spec_model.specs.Rows.{number, stored_row}
use Rattle.law_workload.specs.Statements.{row_with, new_row}

-- the columns as the table has them
abbrev pub columns : List ColumnDef
columns =
    record { name = codes "id"; ty = Int; nullable = false; key_position = 1 }
    ∷ record { name = codes "v"; ty = BigInt; nullable = true; key_position = 0 } ∷ []

pub as_int : (n : ℕ) → n < 2 ^ 31 → conversion_of (number n) Int ≡ Ok (number n)
unfolding conversion_of is_in_range
as_int n few = rw (lt-ltb n (2 ^ 31) few) refl

pub as_bigint : (n : ℕ) → n < 2 ^ 63 → conversion_of (number n) BigInt ≡ Ok (number n)
unfolding conversion_of is_in_range
as_bigint n few = rw (lt-ltb n (2 ^ 63) few) refl

row_kept : (row value : ℕ) → row < 2 ^ 31 → value < 2 ^ 63 → kept_row columns (row_with row value) ≡ Ok (row_with row value)
unfolding kept_row kept
row_kept row value few also = rw (as_int row few, as_bigint value also) refl

pub key_is : (row value : ℕ) → key_of columns (row_with row value) ≡ number row ∷ []
unfolding key_at key_places
key_is row value = refl

not_there : (V : List Version) (row value : ℕ) → has_live_row columns (number row ∷ []) V ≡ false → is_duplicate columns V [] (key_of columns (row_with row value)) ≡ false
unfolding is_duplicate
not_there V row value free = rw (key_is row value, free) refl

one_inserted : (V : List Version) (row value : ℕ) → row < 2 ^ 31 → value < 2 ^ 63 → has_live_row columns (number row ∷ []) V ≡ false
    → inserted_rows columns V None (row_with row value ∷ []) ≡ Ok (row_with row value ∷ [])
unfolding inserted_rows arranged
one_inserted V row value few also free = rw (row_kept row value few also, not_there V row value free) refl

-- one start
pub insert_changes : (def : TableDef) (table : ℕ) (V : List Version) (row value : ℕ) → def.columns ≡ columns → def.dropped ≡ [] → row < 2 ^ 31 → value < 2 ^ 63 → has_live_row columns (number row ∷ []) V ≡ false
    → row_changes def V (new_row table row value) ≡ Ok (Starts (stored_row columns (row_with row value)) ∷ [], 1)
unfolding row_changes
insert_changes def table V row value are none few also free = rw (are, none, one_inserted V row value few also free) refl
