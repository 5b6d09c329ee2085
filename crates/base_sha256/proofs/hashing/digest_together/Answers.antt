use Rattle.std.proofs.Common.{◌≡◌, ◌∙◌, arith}
use Rattle.sha2.specs.Sha256.{hash_after}
use Rattle.base_sha256.proofs.Together.{digests_after, hashes_after, hashes_more}
use Rattle.base_sha256.proofs.hashing.digest_together.Goals as goal

pub turns-init : goal.turns-init
unfolding hash_after
turns-init c = c.initial-state.ensures

pub turns-preserved : goal.turns-preserved
turns-preserved c =
    let messages = c.args.messages.now in
    hashes_more messages c.turns.index _ _ c.told-messages c.blocks_of.ensures (c.compress.ensures (hashes_after messages c.turns.index) c.turns.invariant)

pub returns : goal.returns
returns c =
    let messages = c.args.messages.now in
    let done : c.turns.index ≡ c.args.count = omega arith in
    let state = rw done at c.turns.invariant in
    c.bytes_of_state.ensures (hashes_after messages c.args.count) state ∙ digests_after messages c.args.count c.told-messages c.requires
