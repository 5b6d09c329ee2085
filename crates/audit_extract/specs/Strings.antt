-- Which two byte strings a search for a difference finds: what was hashed at one place of two images.
use Rattle.std.specs.Prelude.{⊤, ℕ, ◌≡◌, ◌⊎◌, Bool, List, map, slice_get, Some}
use Rattle.format_entry.specs.Entry.{entry_bytes}
use Rattle.format_entry.specs.Record.{record_bytes}
use Rattle.format_image.specs.Tables.{tables_in}
use Rattle.sql_types.specs.declared.entry.BlockRecord.{BlockRecord}
use Rattle.sql_types.specs.declared.image.Image.{Image}
use Rattle.spec_verify.specs.Blocks.{entries_in}
use Rattle.spec_verify.specs.Collision.{Collides}
use Rattle.audit_extract.specs.Hashed.{hashed, under}
use Rattle.audit_extract.specs.Leaves.{leaves_in}
use Rattle.audit_extract.specs.declared.found.Collision.{Collision}
use Rattle.audit_extract.specs.declared.found.ImageComparison.{ImageComparison}
use Rattle.audit_extract.specs.declared.found.ImageComparison.TheVariants as found

-- what is said of the two, where there are two
abbrev pub OfCollision : (Collision → Type 0) → ImageComparison → Type 0
OfCollision P found.Same = ⊤
OfCollision P (found.Collision c) = P c

-- the bytes that are hashed at one node of two trees: of a leaf with a zero byte before it, or of two halves with a
-- one before them
pub record AreAtNode (h : List ℕ → List ℕ) (a b : List (List ℕ)) (c : Collision) : Type 0 where
  pub path : List Bool
  pub first : c.first ≡ hashed h (under path a)
  pub second : c.second ≡ hashed h (under path b)

-- the records of one block
pub record AreRecords (i j : Image) (c : Collision) : Type 0 where
  pub block : ℕ
  pub x : BlockRecord
  pub y : BlockRecord
  pub at_x : slice_get i.blocks block ≡ Some x
  pub at_y : slice_get j.blocks block ≡ Some y
  pub first : c.first ≡ record_bytes x
  pub second : c.second ≡ record_bytes y

-- of the trees of one block's entries
pub record AreOfEntries (h : List ℕ → List ℕ) (i j : Image) (c : Collision) : Type 0 where
  pub block : ℕ
  pub record_of : BlockRecord
  pub there : slice_get i.blocks block ≡ Some record_of
  pub nodes : AreAtNode h (map entry_bytes (entries_in i block record_of)) (map entry_bytes (entries_in j block record_of)) c

-- of the trees of one transaction's events in one table
pub record AreOfEvents (h : List ℕ → List ℕ) (i j : Image) (c : Collision) : Type 0 where
  pub tx : ℕ
  pub table : ℕ
  pub nodes : AreAtNode h (leaves_in (tables_in i) tx table) (leaves_in (tables_in j) tx table) c

-- the first string was hashed in the one image, and the second at the same place of the other
abbrev pub AreHashed : (List ℕ → List ℕ) → Image → Image → Collision → Type 0
AreHashed h i j c = AreRecords i j c ⊎ (AreOfEntries h i j c ⊎ AreOfEvents h i j c)

-- two different strings of bytes, hashed at one place of the two images, have one hash
abbrev pub HasCollisionIn : (List ℕ → List ℕ) → Image → Image → Type 0
HasCollisionIn h i j = (c : Collision) × Collides h c.first c.second × AreHashed h i j c
