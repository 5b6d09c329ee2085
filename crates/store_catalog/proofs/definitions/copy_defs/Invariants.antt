use Rattle.std.proofs.Common.{◌≡◌, take}
use Rattle.store_catalog.proofs.definitions.copy_defs.Given as goal

abbrev pub invariant-loop-def : goal.invariant-loop-def
invariant-loop-def l = l.copies.items ≡ take l.def-index l.defs
