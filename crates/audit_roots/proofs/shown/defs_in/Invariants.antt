use Rattle.std.proofs.Common.{◌≡◌, ◌++◌, map, take}
use Rattle.spec_model.specs.Catalog.{defs_of}
use Rattle.audit_roots.proofs.shown.defs_in.Given as goal

abbrev pub invariant-loop-table : goal.invariant-loop-table
invariant-loop-table l = map (λ d. d.now) l.defs.items ≡ defs_of (take l.table-index l.system)

abbrev pub invariant-loop-def : goal.invariant-loop-def
invariant-loop-def l = map (λ d. d.now) l.defs.items ≡ defs_of l.system ++ take l.def-index l.image.defs
