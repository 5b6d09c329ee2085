use Rattle.std.proofs.Common.{◌≡◌, drop, map}
use Rattle.std.specs.Prelude.{pos}
use Rattle.std.specs.List.{list_all}
use Rattle.spec_model.specs.Lists.{numbered}
use Rattle.spec_model.specs.Rows.{value_or_null}
use Rattle.spec_rules.specs.Rows.{CatalogRows}
use Rattle.audit_rules.specs.Times.{AreTableTimes, is_handed_on_if_dropped}
use Rattle.audit_rules.proofs.table_times.TableTimes.hands_on.Given as goal

abbrev pub invariant-loop-place : goal.invariant-loop-place
invariant-loop-place l = (rows : CatalogRows) → AreTableTimes rows l.self
    → list_all (is_handed_on_if_dropped rows (pos l.self.table) l.start l.last) (numbered l.place (map value_or_null (drop l.place l.version.values)))
    ≡ list_all (is_handed_on_if_dropped rows (pos l.self.table) l.start l.last) (numbered 0 (map value_or_null l.version.values))
