-- Collisions of strings of bytes of which each is hashed in one of two things that are compared.
use Rattle.std.specs.Prelude.{ℕ, ◌≡◌, Bool, List, map, Some}
use Rattle.std.specs.List.{slice_get}
use Rattle.format_entry.specs.Entry.{entry_bytes}
use Rattle.format_entry.specs.Record.{record_bytes}
use Rattle.format_image.specs.Tables.{tables_in}
use Rattle.sql_types.specs.declared.entry.BlockRecord.{BlockRecord}
use Rattle.sql_types.specs.declared.image.Image.{Image}
use Rattle.spec_verify.specs.Blocks.{entries_in}
use Rattle.spec_verify.specs.Collision.{Collides}
use Rattle.audit_extract.specs.declared.found.Collision.{Collision}
use Rattle.audit_extract.specs.Hashed.{hashed, under}
use Rattle.audit_extract.specs.Leaves.{leaves_in}

-- two different strings of bytes have one hash; the first is one of these and the second one of those
pub record HasCollisionBetween (h : List ℕ → List ℕ) (S T : List ℕ → Type 0) : Type 0 where
  pub first : List ℕ
  pub second : List ℕ
  pub first_is : S first
  pub second_is : T second
  pub collide : Collides h first second

-- the two that were found are such
abbrev pub CollideBetween : (List ℕ → List ℕ) → (List ℕ → Type 0) → (List ℕ → Type 0) → Collision → Type 0
CollideBetween h S T c = Collides h c.first c.second × (S c.first × T c.second)

-- the string is hashed at a node of the tree of some leaves
pub record IsAtNode (h : List ℕ → List ℕ) (leaves : List (List ℕ)) (x : List ℕ) : Type 0 where
  pub path : List Bool
  pub is : x ≡ hashed h (under path leaves)

-- it is one of some records
pub record IsRecordAmong (records : List BlockRecord) (x : List ℕ) : Type 0 where
  pub place : ℕ
  pub it : BlockRecord
  pub there : slice_get records place ≡ Some it
  pub is : x ≡ record_bytes it

-- it is hashed where an image is verified: as the record of a block, or at a node of the tree of a block's entries or
-- of the tree of a transaction's events in a table
pub data IsHashedIn (h : List ℕ → List ℕ) (i : Image) (x : List ℕ) : Type 0 where
  as_record : IsRecordAmong i.blocks x → IsHashedIn h i x
  of_entries : (block : ℕ) (r : BlockRecord) → slice_get i.blocks block ≡ Some r
      → IsAtNode h (map entry_bytes (entries_in i block r)) x → IsHashedIn h i x
  of_events : (tx table : ℕ) → IsAtNode h (leaves_in (tables_in i) tx table) x → IsHashedIn h i x
