use Rattle.std.proofs.Common.{◌≡◌, drop}
use Rattle.spec_model.specs.Create.{names_of}
use Rattle.spec_model.specs.Lists.{has_name}
use Rattle.audit_definitions.proofs.names.has_column.Given as goal

abbrev pub invariant-loop-column : goal.invariant-loop-column
invariant-loop-column l = has_name (names_of (drop l.column-index l.columns)) l.name ≡ has_name (names_of l.columns) l.name
