use Rattle.std.proofs.Common.{◌≡◌, drop}
use Rattle.std.specs.Prelude.{◌&&◌}
use Rattle.std.specs.List.{list_any}
use Rattle.spec_model.specs.Rows.{Row}
use Rattle.law_catalog_rows.specs.IsEncodableDef as spec
use Rattle.audit_definitions.specs.DefinitionRows.{rows_seen}
use Rattle.audit_definitions.proofs.names.has_older_name.Given as goal

abbrev pub invariant-loop-row : goal.invariant-loop-row
invariant-loop-row l =
    let older = λ (row : Row). spec.is_before l.def.id row && spec.share_name (spec.names_in row) l.def in
    list_any older (rows_seen (drop l.row-index l.rows)) ≡ list_any older (rows_seen l.rows)
