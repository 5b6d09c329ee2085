use Rattle.std.proofs.Common.{◌≡◌, ◌++◌, map, take}
use Rattle.std.specs.List.{AllByRecursion}
use Rattle.spec_verify.specs.Versions.{with_columns}
use Rattle.audit_verify.specs.Order.{IsNumbered, IsRanked, version_of}
use Rattle.audit_verify.proofs.order.add_ranked.Given as goal

abbrev pub invariant-loop-version : goal.invariant-loop-version
invariant-loop-version l = record {
  versions : map version_of l.ranked.items ≡ map version_of l.initial.ranked.items ++ with_columns l.table.columns (take l.version-index l.versions);
  ranks : AllByRecursion (IsRanked l.positions) l.initial.ranked.items → AllByRecursion (IsRanked l.positions) l.ranked.items;
  numbers : AllByRecursion (IsNumbered l.table.columns) l.initial.ranked.items → AllByRecursion (IsNumbered l.table.columns) l.ranked.items;
}
