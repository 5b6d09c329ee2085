use Rattle.std.proofs.Common.{◌≡◌, ◌+◌, ℕ, drop, map}
use Rattle.std.specs.Prelude.{◌&&◌, not, pos}
use Rattle.std.specs.List.{list_any}
use Rattle.sql_value.specs.declared.value.Value.{Value}
use Rattle.spec_model.specs.Lists.{numbered}
use Rattle.spec_model.specs.Rows.{value_or_null}
use Rattle.spec_rules.specs.DroppedColumns.{is_dropped_at, is_outside_key_at}
use Rattle.spec_rules.specs.Rows.{CatalogRows}
use Rattle.audit_rules.specs.Times.{AreTableTimes}
use Rattle.audit_rules.proofs.table_times.TableTimes.has_another_column.Given as goal

abbrev pub invariant-loop-place : goal.invariant-loop-place
invariant-loop-place l = (rows : CatalogRows) → AreTableTimes rows l.self
    → list_any (λ (p : ℕ × Value). is_outside_key_at rows (pos l.self.table) l.start (pos (p.0 + 1)) && not (is_dropped_at rows (pos l.self.table) l.start (pos (p.0 + 1)))) (numbered l.place (map value_or_null (drop l.place l.version.values)))
    ≡ list_any (λ (p : ℕ × Value). is_outside_key_at rows (pos l.self.table) l.start (pos (p.0 + 1)) && not (is_dropped_at rows (pos l.self.table) l.start (pos (p.0 + 1)))) (numbered 0 (map value_or_null l.version.values))
