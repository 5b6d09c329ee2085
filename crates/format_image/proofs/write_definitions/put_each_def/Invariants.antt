use Rattle.std.proofs.Common.{◌≡◌, ◌++◌, take, flat_map}
use Rattle.format_image.specs.DefBytes.{def_bytes}
use Rattle.format_image.proofs.write_definitions.put_each_def.Given as goal

abbrev pub invariant-loop-def : goal.invariant-loop-def
invariant-loop-def l = l.out.items ≡ l.initial.out.items ++ flat_map (def_bytes l.version) (take l.def-index l.defs)
