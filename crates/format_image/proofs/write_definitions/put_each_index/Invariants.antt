use Rattle.std.proofs.Common.{◌≡◌, ◌++◌, take, flat_map}
use Rattle.format_image.specs.DefBytes.{index_bytes}
use Rattle.format_image.proofs.write_definitions.put_each_index.Given as goal

abbrev pub invariant-loop-index : goal.invariant-loop-index
invariant-loop-index l = l.out.items ≡ l.initial.out.items ++ flat_map index_bytes (take l.index-index l.indexes)
