use Rattle.std.proofs.Common.{◌≡◌, length}
use Rattle.spec_verify.specs.Covered.{entries_upto}
use Rattle.audit_extract.proofs.Nodes.{BehindBlocks}
use Rattle.audit_extract.proofs.Parted.{BlocksLeft}
use Rattle.audit_extract.proofs.blocks.in_blocks.Given as goal

abbrev pub invariant-each : goal.invariant-each
invariant-each g l =
    BlocksLeft (g.H.Hash32.digest l.fn.h) (entries_upto l.honest l.digest.block ≡ entries_upto l.suspect l.digest.block) l.rest l.a l.b
    × BehindBlocks l.honest l.suspect l.digest.block l.rest l.a l.b

abbrev pub decreases-each : goal.decreases-each
decreases-each g l = length l.rest
