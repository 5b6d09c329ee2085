-- What a receipt that is accepted shows of an image.
use Rattle.std.specs.Prelude.{ℕ, ◌≡◌, ◌⊎◌, List, Some, Contains}
use Rattle.std.specs.List.{slice_get}
use Rattle.sql_types.specs.declared.digest.HeldDigest.{HeldDigest}
use Rattle.sql_types.specs.declared.image.Image.{Image}
use Rattle.format_image.specs.ImageBytes.{IsImage, IsSpellingOf}
use Rattle.spec_verify.specs.declared.place.Verdict.TheVariants.{Yes}
use Rattle.spec_verify.specs.Bytes.{verdict_of}
use Rattle.spec_verify.specs.Sentences.{DigestHolds}
use Rattle.audit_extract.specs.Collisions.{HasCollisionBetween, IsHashedIn, IsRecordAmong}
use Rattle.format_receipt.specs.declared.receipt.Receipt.{Receipt}
use Rattle.audit_receipt.specs.Hashed.{IsHashedOf}
use Rattle.audit_receipt.specs.Made.{part_at}
use Rattle.audit_row_receipt.specs.Hashed.{IsHashedOfRow, IsHashedOfTable}
use Rattle.law_row_receipt.specs.Shown.{HasAll, HasOne}
use Rattle.audit_any_receipt.specs.declared.any.AnyReceipt.{AnyReceipt}
use Rattle.audit_any_receipt.specs.declared.any.AnyReceipt.TheVariants as kinds
use Rattle.audit_any_receipt.specs.Among.{IsAcceptedBy}

-- the image has the receipt's entry at its place in its block
abbrev pub HasItsEntry : Image → Receipt → Type 0
HasItsEntry i r = slice_get (part_at i.blocks i.entries r.entry.block) r.entry.ordinal ≡ Some r.entry

-- the image has the entry at its place, and besides the leaves are those of all events of the transaction in the
-- table, or the leaf is that of one of these; of a chain each digest that is held holds with the image. Or two different
-- strings of bytes have one hash, of which the first is hashed where the receipt is checked and the second where the
-- image is verified.
abbrev pub ShowsIn : (h : List ℕ → List ℕ) (r : AnyReceipt) (d : HeldDigest) (held : List HeldDigest)
    → IsAcceptedBy h r d held → Image → Type 0
ShowsIn h (kinds.Entry r) d held x i =
    HasItsEntry i r ⊎ HasCollisionBetween h (IsHashedOf h r) (IsHashedIn h i)
ShowsIn h (kinds.Table r) d held x i =
    (HasItsEntry i r.receipt × HasAll i r.receipt.entry.id x.table r.leaves)
    ⊎ HasCollisionBetween h (IsHashedOfTable h r) (IsHashedIn h i)
ShowsIn h (kinds.Event r) d held x i =
    (HasItsEntry i r.receipt × HasOne i r.receipt.entry.id x.table r.leaf)
    ⊎ HasCollisionBetween h (IsHashedOfRow h r) (IsHashedIn h i)
ShowsIn h (kinds.Chain c) d held x i =
    (older : HeldDigest) → Contains held older
    → DigestHolds h i older ⊎ HasCollisionBetween h (IsRecordAmong c.records) (IsHashedIn h i)

-- it shows this of each image that `verify` accepts with digests of which this is one
abbrev pub EachImageShows : (h : List ℕ → List ℕ) (r : AnyReceipt) (d : HeldDigest) (held : List HeldDigest)
    → IsAcceptedBy h r d held → Type 0
EachImageShows h r d held x =
    (bytes : List ℕ) (i : Image) (digests : List HeldDigest) → IsImage i → IsSpellingOf bytes i
    → Contains digests d → verdict_of h digests bytes ≡ Yes → ShowsIn h r d held x i
