use Rattle.std.proofs.Common.{◌≡◌, drop, List}
use Rattle.std.specs.List.{All}
use Rattle.sql_types.specs.declared.entry.TxEntry.{TxEntry}
use Rattle.law_catalog_rows.specs.Least.{least_from}
use Rattle.spec_rules.specs.Rows.{CatalogRows}
use Rattle.spec_verify.specs.Entries.{table_event_cmp}
use Rattle.audit_rules.specs.Times.{AreTableTimes}
use Rattle.audit_verify.specs.Order.{IsRanked, KnowsBefore, wrong_among}
use Rattle.audit_verify.proofs.order.least_wrong.Given as goal

abbrev pub invariant-loop-k : goal.invariant-loop-k
invariant-loop-k l = record {
  known : KnowsBefore l.table.columns l.ranked l.k l.earlier;
  worst : (entries : List TxEntry) (rows : CatalogRows) → AreTableTimes rows l.times → All (IsRanked entries) l.ranked
      → least_from table_event_cmp l.worst (wrong_among entries rows l.table.id l.table.columns l.ranked (drop l.k l.ranked))
      ≡ least_from table_event_cmp l.fn.worst (wrong_among entries rows l.table.id l.table.columns l.ranked l.ranked);
}
