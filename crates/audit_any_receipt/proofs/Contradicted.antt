-- No image contradicts a receipt that is accepted.
use Rattle.std.proofs.Common.{◌≡◌, ◌⊎◌, ℕ, List, length, inl}
use Rattle.sql_types.specs.declared.digest.HeldDigest.{HeldDigest}
use Rattle.sql_types.specs.declared.image.Image.{Image}
use Rattle.format_image.specs.ImageBytes.{IsImage}
use Rattle.audit_extract.specs.Collisions.{HasCollisionBetween, IsHashedIn}
use Rattle.audit_extract.proofs.Collisions.{or_wider}
use Rattle.audit_extract.proofs.Unbroken.{so_far}
use Rattle.format_receipt.specs.declared.receipt.Receipt.{Receipt}
use Rattle.format_receipt.specs.Receipts.{IsReceipt}
use Rattle.audit_receipt.specs.Accepted.{Accepted}
use Rattle.audit_receipt.specs.Hashed.{IsHashedOf}
use Rattle.audit_chain.proofs.Continuing.{each_holds}
use Rattle.audit_row_receipt.specs.Hashed.{IsHashedOfRow, IsHashedOfTable}
use Rattle.law_row_receipt.proofs.Agreeing.{agrees_with_image}
use Rattle.law_row_receipt.proofs.Rows.{all_shown, one_shown}
use Rattle.audit_any_receipt.specs.declared.any.AnyReceipt.{AnyReceipt}
use Rattle.audit_any_receipt.specs.declared.any.AnyReceipt.TheVariants as kinds
use Rattle.audit_any_receipt.specs.Among.{IsAcceptedBy}
use Rattle.audit_any_receipt.specs.Kinds.{IsAny}
use Rattle.audit_any_receipt.specs.Shows.{HasItsEntry, ShowsIn, EachImageShows}
use Rattle.audit_any_receipt.proofs.Held.{Fits, one_fits}

module _ (h : List ℕ → List ℕ) (sized : (bytes : List ℕ) → length (h bytes) ≡ 32) (i : Image) (is : IsImage i) (d : HeldDigest) (held : List HeldDigest) (fits : Fits h i d) where
  -- what is shown of its events is so beside the entry
  with_entry : {Shown : Type 0} (r : Receipt) (Hashed : List ℕ → Type 0) → ((x : List ℕ) → IsHashedOf h r x → Hashed x) → IsReceipt r → Accepted h r d
      → Shown ⊎ HasCollisionBetween h Hashed (IsHashedIn h i) → (HasItsEntry i r × Shown) ⊎ HasCollisionBetween h Hashed (IsHashedIn h i)
  with_entry r Hashed wider form x shown =
      so_far (λ entry. so_far (λ it. inl (entry, it)) shown)
      (or_wider h (IsHashedOf h r) (IsHashedIn h i) Hashed (IsHashedIn h i) wider (λ y in_image. in_image) (agrees_with_image h sized i is fits.chain fits.blocks r d form x fits.digest))

  shows_in : (r : AnyReceipt) → IsAny r → (x : IsAcceptedBy h r d held) → ShowsIn h r d held x i
  shows_in (kinds.Entry r) form x = agrees_with_image h sized i is fits.chain fits.blocks r d form x fits.digest
  shows_in (kinds.Table r) form x =
      with_entry r.receipt (IsHashedOfTable h r) (λ y of. inl of) form.receipt x.receipt (all_shown h sized i is fits.chain fits.blocks fits.roots r d form x fits.digest)
  shows_in (kinds.Event r) form x =
      with_entry r.receipt (IsHashedOfRow h r) (λ y of. inl of) form.receipt x.receipt (one_shown h sized i is fits.chain fits.blocks fits.roots r d form x fits.digest)
  shows_in (kinds.Chain c) form x = λ older among. each_holds h i is fits.chain fits.blocks c d older held form x fits.digest among

pub each_shows : (h : List ℕ → List ℕ) (r : AnyReceipt) (d : HeldDigest) (held : List HeldDigest) → ((bytes : List ℕ) → length (h bytes) ≡ 32) → IsAny r → (x : IsAcceptedBy h r d held)
    → EachImageShows h r d held x
each_shows h r d held sized form x = λ bytes i digests is spelling among accepts. shows_in h sized i is d held (one_fits h i digests d bytes is spelling accepts among) r form x
