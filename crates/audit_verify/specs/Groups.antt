-- Groups of the tables of an image, which may be gone through apart: what each finds.
use Rattle.std.specs.Prelude.{ℕ, ◌≡◌, List, flat_map, take, drop, Option, Some, None}
use Rattle.sql_types.specs.declared.image.Image.{Image}
use Rattle.sql_types.specs.declared.version.Table.{Table}
use Rattle.spec_model.specs.Catalog.{Tables}
use Rattle.format_image.specs.Tables.{defs_in}
use Rattle.spec_verify.specs.declared.place.Place.{Place}
use Rattle.spec_verify.specs.Entries.{TableEvent, least_event}
use Rattle.spec_verify.specs.Indexes.{first_table}
use Rattle.spec_verify.specs.Rules.{rows_of_image}
use Rattle.spec_verify.specs.Versions.{rows_of_columns}
use Rattle.audit_verify.specs.declared.groups.GroupFaults.{GroupFaults}
use Rattle.audit_verify.specs.Versions.{faulty_versions}
pub use Rattle.audit_roots.specs.Groups.{group_of, left_over, wrong_root}
pub use Rattle.spec_verify.specs.Entries.{event_at, lesser_version}

-- the starts of the versions that this table of the image may not have, or that break a rule of changes
abbrev pub faulty : Image → Table → List TableEvent
faulty i = faulty_versions i.entries (rows_of_columns i.tables) (rows_of_image i)

-- the least of those of these tables
abbrev pub version_in : Image → Tables → Option Place
version_in i tables = least_event (flat_map (faulty i) tables)

-- the first index of those tables whose rows aren't those of the base
abbrev pub index_in : ℕ → ℕ → Image → Option Place
index_in from count i = first_table (take count (drop from (defs_in i))) (take count (drop from i.tables))

-- what is found second counts where nothing is found first
abbrev pub if_none : Option Place → Option Place → Option Place
if_none None second = second
if_none (Some first) second = None

-- what a group finds in so many tables of an image, from the one at this place on
pub record AreFaults (h : List ℕ → List ℕ) (from count : ℕ) (i : Image) (f : GroupFaults) : Type 0 where
  pub root : f.root ≡ wrong_root h (group_of from count i) i.entries
  pub version : f.version ≡ version_in i (group_of from count i)
  pub index : f.index ≡ if_none f.version (index_in from count i)
