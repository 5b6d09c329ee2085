use Rattle.std.proofs.Common.{ℕ, ◌≡◌, drop}
use Rattle.sql_types.specs.declared.digest.HeldDigest.{HeldDigest}
use Rattle.spec_verify.specs.declared.place.Place.TheVariants as at
use Rattle.spec_verify.specs.Blocks.{digest_holds}
use Rattle.spec_verify.specs.First.{unless, first, first_from}
use Rattle.audit_verify.proofs.blocks.digest_fault.Given as goal

abbrev pub invariant-loop-k : goal.invariant-loop-k
invariant-loop-k g l =
    let found = λ (k : ℕ) (d : HeldDigest). unless (digest_holds (g.H.Hash32.digest l.fn.hasher) l.image d) (at.Digest k) in
    first_from found l.k (drop l.k l.digests) ≡ first found l.digests
