use Rattle.std.proofs.Common.{◌≡◌, [], ◌++◌, ◌+◌, ◌*◌, length, refl, sym, arith, length-append}
use Rattle.base_sha256.proofs.Filling.{filled_empty}
use Rattle.base_sha256.proofs.block.block_of.Goals as goal

pub returns : goal.returns
returns c =
    let head = c.args.message.now.head.now in
    let rest = c.args.message.now.rest.now in
    let start = c.args.index * 64 in
    let len : length head + length rest ≡ length (head ++ rest) = sym (length-append head rest) in
    let none = c.put-filled.ensures.filled start [] (omega arith) (filled_empty _ start refl refl) in
    let all = c.put-filled-2.ensures.filled start head c.saturating_sub-from.ensures none in
    c.pad.ensures (head ++ rest) c.args.index len refl c.requires.within all
