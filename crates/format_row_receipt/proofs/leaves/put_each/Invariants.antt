use Rattle.std.proofs.Common.{◌≡◌, ◌++◌, take, flat_map}
use Rattle.base_fields.specs.Fields.{long_field}
use Rattle.format_row_receipt.proofs.leaves.put_each.Given as goal

abbrev pub invariant-loop-leaf : goal.invariant-loop-leaf
invariant-loop-leaf l = l.out.items ≡ l.initial.out.items ++ flat_map long_field (take l.leaf-index l.leaves)
