use Rattle.std.proofs.Common.{◌≡◌, ◌++◌, drop}
use Rattle.law_catalog_rows.specs.IsEncodableDef.{positions_of}
use Rattle.audit_definitions.proofs.rules.positions_of.Given as goal

abbrev pub invariant-loop-column : goal.invariant-loop-column
invariant-loop-column l = l.positions.items ++ positions_of (drop l.column-index l.columns) ≡ positions_of l.columns
