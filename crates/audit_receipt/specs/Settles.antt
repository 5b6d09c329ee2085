-- What two accepted receipts of one place come to.
use Rattle.std.specs.Prelude.{ℕ, ◌≢◌, ◌≡◌, List}
use Rattle.audit_extract.specs.Collisions.{CollideBetween}
use Rattle.format_receipt.specs.declared.receipt.Receipt.{Receipt}
use Rattle.audit_receipt.specs.Hashed.{IsHashedOf}
use Rattle.audit_receipt.specs.declared.settled.Settled.{Settled}
use Rattle.audit_receipt.specs.declared.settled.Settled.TheVariants as settled

-- `Same` exactly where they have one entry, and else two different byte strings with one hash, of which the first is
-- hashed where the first receipt is checked and the second where the second is
abbrev pub Settles : (List ℕ → List ℕ) → Receipt → Receipt → Settled → Type 0
Settles h a b settled.Same = a.entry ≡ b.entry
Settles h a b (settled.Collision c) = (a.entry ≢ b.entry) × CollideBetween h (IsHashedOf h a) (IsHashedOf h b) c
