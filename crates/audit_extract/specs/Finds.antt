-- What a search for a difference finds.
use Rattle.std.specs.Prelude.{ℕ, List}
use Rattle.spec_verify.specs.Collision.{Collides}
use Rattle.audit_extract.specs.declared.found.ImageComparison.{ImageComparison}
use Rattle.audit_extract.specs.declared.found.ImageComparison.TheVariants as found

-- `Same` exactly where two things agree, and else two different byte strings with one hash
abbrev pub Finds : (List ℕ → List ℕ) → Type 0 → ImageComparison → Type 0
Finds h Agree found.Same = Agree
Finds h Agree (found.Collision c) = (Agree → ⊥) × Collides h c.first c.second
