-- The order of an index: the versions that stand, by the columns of the index, then by key, and then by
-- start. The key order is that of an index without columns.
use Rattle.std.specs.Prelude.{ℕ, ◌-◌, Bool, false, List, map, Option, Some, None}
use Rattle.std.specs.List.{find, prefix_len}
use Rattle.std.specs.declared.cmp.Ordering.{Ordering}
use Rattle.std.specs.Ordering.{is_eq, is_le, is_lt, ordering_then}
use Rattle.sql_types.specs.declared.version.Version.{Version}
use Rattle.spec_model.specs.Lists.{sorted}
use Rattle.spec_model.specs.Rows.{Row, EventId, same_event, start_cmp, values_of, live}
use Rattle.spec_model.specs.Keys.{Key, key_cmp, value_at}

-- the values of the columns with these ordinals
abbrev pub column_values : List ℕ → Version → Row
column_values ordinals v = map (λ n. value_at (values_of v) (n - 1)) ordinals

-- the values at the places of the key's columns
abbrev pub key_values : List ℕ → Version → Key
key_values key v = map (value_at (values_of v)) key

abbrev pub row_cmp : List ℕ → List ℕ → Version → Version → Ordering
row_cmp ordinals key v w =
    ordering_then (key_cmp (column_values ordinals v) (column_values ordinals w))
    (key_cmp (key_values key v) (key_values key w))

abbrev pub order_cmp : List ℕ → List ℕ → Version → Version → Ordering
order_cmp ordinals key v w = ordering_then (row_cmp ordinals key v w) (start_cmp v w)

-- the versions that stand, in order
abbrev pub in_order : List ℕ → List ℕ → List Version → List Version
in_order ordinals key versions = sorted (order_cmp ordinals key) (live versions)

abbrev pub starts_of : List Version → List EventId
starts_of versions = map (λ v. v.start) versions

-- ---- a version by its start

abbrev pub started_by : EventId → Version → Bool
started_by start v = same_event v.start start

abbrev pub version_at : EventId → List Version → Option Version
version_at start versions = find (started_by start) versions

-- the version of this start, where there is a start
abbrev pub version_of : Option EventId → List Version → Option Version
version_of (Some start) versions = version_at start versions
version_of None versions = None

abbrev pub passes : (Version → Bool) → Option Version → Bool
passes test (Some v) = test v
passes test None = false

-- ---- places in an order

abbrev pub comes_before : List ℕ → List ℕ → Version → Version → Bool
comes_before ordinals key v w = is_lt (order_cmp ordinals key w v)

-- how many come before the version
abbrev pub place_of : List ℕ → List ℕ → Version → List Version → ℕ
place_of ordinals key v versions = prefix_len (comes_before ordinals key v) (in_order ordinals key versions)

-- ---- the versions of a key

-- the version's key comes before this one
abbrev pub is_below : List ℕ → Key → Version → Bool
is_below places key v = is_lt (key_cmp (key_values places v) key)

-- it doesn't come behind this one
abbrev pub is_up_to : List ℕ → Key → Version → Bool
is_up_to places key v = is_le (key_cmp (key_values places v) key)

abbrev pub is_of_key : List ℕ → Key → Version → Bool
is_of_key places key v = is_eq (key_cmp (key_values places v) key)

-- the version's row in the index with these ordinals comes before that of another
abbrev pub has_row_below : List ℕ → List ℕ → Version → Version → Bool
has_row_below ordinals key v w = is_lt (row_cmp ordinals key w v)
