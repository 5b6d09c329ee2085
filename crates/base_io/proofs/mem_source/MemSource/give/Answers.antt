use Rattle.std.proofs.Common.{arith}
use Rattle.std.proofs.lemmas.Grind.{common_steps}
use Rattle.base_io.proofs.Moved.{moves}
use Rattle.base_io.proofs.mem_source.MemSource.give.Goals as goal

pub returns-clause-bytes : goal.returns-clause-bytes
returns-clause-bytes c =
    moves c.args.self.now.bytes.items c.args.buf.now c.copy_from_slice.new.self c.args.self.now.at c.min-n.result
    (grind (arith, common_steps))
    (grind (arith, common_steps))
    (omega arith)
