use Rattle.std.proofs.Common.{◌≡◌, drop, map}
use Rattle.sql_types.specs.declared.table.IndexDef.{IndexDef}
use Rattle.spec_model.specs.Lists.{repeats}
use Rattle.audit_definitions.proofs.names.index_names_repeat.Given as goal

abbrev pub invariant-loop-at : goal.invariant-loop-at
invariant-loop-at l = repeats (map (λ (i : IndexDef). i.name) (drop l.at l.indexes)) ≡ repeats (map (λ (i : IndexDef). i.name) l.indexes)
