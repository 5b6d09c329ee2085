use Rattle.std.proofs.Common.{◌≡◌}
use Rattle.base_sha256.specs.Lanes.{eight_words}
use Rattle.base_sha256.proofs.Together.{hashes_after}
use Rattle.base_sha256.proofs.hashing.digest_together.Given as goal

abbrev pub invariant-turns : goal.invariant-turns
invariant-turns l = l.state ≡ eight_words (hashes_after l.messages l.index)
