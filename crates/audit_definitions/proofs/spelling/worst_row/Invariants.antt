use Rattle.std.proofs.Common.{◌≡◌, drop, filter, filter_map}
use Rattle.std.specs.List.{AllByRecursion}
use Rattle.std.specs.Ordering.{int_cmp}
use Rattle.law_catalog_rows.specs.Differs.{table_of}
use Rattle.law_catalog_rows.specs.Least.{least_from}
use Rattle.audit_definitions.specs.DefinitionRows.{HasSmallId, is_missing, rows_in}
use Rattle.audit_definitions.proofs.spelling.worst_row.Given as goal

abbrev pub invariant-loop-version : goal.invariant-loop-version
invariant-loop-version l = record {
  small : AllByRecursion HasSmallId (drop l.version-index l.versions);
  worst : least_from int_cmp l.worst (filter (is_missing l.spelled) (filter_map table_of (rows_in (drop l.version-index l.versions))))
      ≡ least_from int_cmp l.fn.worst (filter (is_missing l.spelled) (filter_map table_of (rows_in l.versions)));
}
