use Rattle.std.proofs.Common.{◌≡◌, ◌++◌, drop}
use Rattle.std.specs.Prelude.{pos}
use Rattle.law_catalog_rows.specs.Encoded.{about}
use Rattle.audit_definitions.specs.DefinitionRows.{rows_in, rows_seen}
use Rattle.audit_definitions.proofs.items.system_rows_of.Given as goal

abbrev pub invariant-loop-version : goal.invariant-loop-version
invariant-loop-version l =
    rows_seen l.rows.items ++ about (pos l.id) (rows_in (drop l.version-index l.versions)) ≡ about (pos l.id) (rows_in l.versions)
