use Rattle.std.proofs.Common.{arith, rules, ◌∙◌, get_or, vec_len}
use Rattle.sql_scalar.proofs.Hexes.{hex_more, hex_done, kept, two}
use Rattle.sql_scalar.proofs.printing.put_hex.Goals as goal

pub loop-byte-preserved : goal.loop-byte-preserved
loop-byte-preserved c = (
  hex_more c.loop-byte.out.items c.put.new.out.items c.args.bytes.now c.loop-byte.byte-index (search rules) (search rules) ∙ c.loop-byte.invariant.0,
  kept (vec_len c.args.out.now) c.args.out.now.items c.loop-byte.out.items (two (get_or c.args.bytes.now c.loop-byte.byte-index 0)) c.put.new.out.items (search rules) c.loop-byte.invariant.1 (search rules),
)

pub returns-clause-ok : goal.returns-clause-ok
returns-clause-ok c = hex_done c.loop-byte.out.items c.args.bytes.now c.loop-byte.byte-index (search (arith, rules)) ∙ c.loop-byte.invariant.0
