use Rattle.std.proofs.Common.{◌≡◌, drop, map}
use Rattle.sql_types.specs.declared.table.IndexDef.{IndexDef}
use Rattle.spec_model.specs.Lists.{has_name}
use Rattle.audit_definitions.proofs.names.has_index.Given as goal

abbrev pub invariant-loop-index : goal.invariant-loop-index
invariant-loop-index l =
    has_name (map (λ (i : IndexDef). i.name) (drop l.index-index l.indexes)) l.name ≡ has_name (map (λ (i : IndexDef). i.name) l.indexes) l.name
