use Rattle.std.proofs.Common.{◌≡◌, ◌++◌, take, flat_map}
use Rattle.base_fields.specs.Fields.{u16_field}
use Rattle.format_image.proofs.write_definitions.put_ordinals.Given as goal

abbrev pub invariant-loop-ordinal : goal.invariant-loop-ordinal
invariant-loop-ordinal l = l.out.items ≡ l.initial.out.items ++ flat_map u16_field (take l.ordinal-index l.ordinals)
