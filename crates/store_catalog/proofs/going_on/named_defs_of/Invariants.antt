use Rattle.std.proofs.Common.{◌≡◌, ◌++◌}
use Rattle.store_catalog.specs.GoingOn.{HaveNewNames}
use Rattle.store_catalog.proofs.going_on.named_defs_of.Given as goal

abbrev pub invariant-loop-def : goal.invariant-loop-def
invariant-loop-def l = record {
  all : l.named ++ l.def-iterator.rest.items ≡ l.fn.defs.items;
  names : HaveNewNames l.named l.def-iterator.rest.items;
}
