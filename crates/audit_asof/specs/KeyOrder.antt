-- The order of a table's live rows by key. It has the places of the rows among the table's versions.
use Rattle.std.specs.Prelude.{ℕ, ◌≡◌, Bool, false, List, map, Option, Some, None, is_none, slice_get}
use Rattle.std.specs.List.{filter}
use Rattle.std.specs.declared.cmp.Ordering.{Ordering}
use Rattle.std.specs.Ordering.{is_eq, is_le, is_lt}
use Rattle.sql_types.specs.declared.version.Version.{Version}
use Rattle.spec_model.specs.Lists.{numbered, sorted}
use Rattle.spec_model.specs.Keys.{Key, key_cmp, version_key_at}

-- a version with its place, counted from 0
abbrev pub Placed : Type 0
Placed = ℕ × Version

abbrev pub place_in : Placed → ℕ
place_in p = p.0

-- the live rows, each with its place
abbrev pub live_placed : List Version → List Placed
live_placed versions = filter (λ p. is_none p.1.end) (numbered 0 versions)

-- by the key, whose columns stand at these places
abbrev pub placed_cmp : List ℕ → Placed → Placed → Ordering
placed_cmp key p q = key_cmp (version_key_at key p.1) (version_key_at key q.1)

-- the places of the live rows, by rising key; those of one key stand as the versions do
unfoldable pub key_order : List ℕ → List Version → List ℕ
key_order key versions = map place_in (sorted (placed_cmp key) (live_placed versions))

-- these are the places of these rows
abbrev pub ArePlacesOf : List Version → List ℕ → List Version → Type 0
ArePlacesOf versions places rows = map (slice_get versions) places ≡ map Some rows

-- ---- where a key stands

-- the version's key comes before this one
abbrev pub is_below : List ℕ → Key → Version → Bool
is_below key wanted v = is_lt (key_cmp (version_key_at key v) wanted)

-- it doesn't come behind this one
abbrev pub is_up_to : List ℕ → Key → Version → Bool
is_up_to key wanted v = is_le (key_cmp (version_key_at key v) wanted)

-- so says the version at a place; where there is none, no
abbrev pub passes : (Version → Bool) → Option Version → Bool
passes test (Some v) = test v
passes test None = false
