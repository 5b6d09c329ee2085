use Rattle.std.proofs.Common.{◌≡◌, ◌++◌, drop}
use Rattle.audit_definitions.specs.DefinitionRows.{rows_in, rows_seen}
use Rattle.audit_definitions.proofs.latest_rows.all_of.Given as goal

abbrev pub invariant-loop-version : goal.invariant-loop-version
invariant-loop-version l = rows_seen l.found.items ++ rows_in (drop l.version-index l.versions) ≡ rows_in l.versions
