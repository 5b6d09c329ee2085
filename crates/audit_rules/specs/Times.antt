-- When a table was created and dropped and its columns dropped, and a version of it.
use Rattle.std.specs.Prelude.{ℕ, ℤ, pos, ◌≡◌, ◌+◌, ◌&&◌, ◌||◌, not, Bool, false, List, Option, Some, None, option_map}
use Rattle.std.specs.Borrow.{Bor}
use Rattle.std.specs.List.{list_all, list_any}
use Rattle.sql_value.specs.declared.value.Value.{Value}
use Rattle.sql_types.specs.declared.entry.TxEntry.{TxEntry}
use Rattle.sql_types.specs.declared.version.Version.{Version}
use Rattle.spec_model.specs.Keys.{value_at}
use Rattle.spec_model.specs.Lists.{numbered}
use Rattle.spec_model.specs.Rows.{values_of}
use Rattle.spec_rules.specs.DroppedColumns.{has_another_column, is_dropped_at, is_just_before}
use Rattle.spec_rules.specs.Places.{EventPlace, place_of}
use Rattle.spec_rules.specs.Rows.{CatalogRows, is_null, same_value, tables_about}
use Rattle.audit_rules.specs.declared.table_times.TableTimes.{TableTimes}
use Rattle.audit_rules.specs.declared.table_times.VersionInTime.{VersionInTime}
use Rattle.audit_rules.specs.declared.times.What.TheVariants as what
use Rattle.audit_rules.specs.FirstRanks.{is_past}
pub use Rattle.audit_rules.specs.HappenedLists.{AreTimes, says_so}

pub record AreTableTimes (rows : CatalogRows) (t : TableTimes) : Type 0 where
  pub times : AreTimes rows t.times.now
  pub created : (before : EventPlace)
      → is_past t.created before ≡ list_any (says_so what.Created (pos 0) before) (tables_about rows (pos t.table))
  pub gone : (before : EventPlace)
      → is_past t.gone before ≡ list_any (says_so what.Gone (pos 0) before) (tables_about rows (pos t.table))

-- the version was read with its places
pub record IsInTime (entries : List TxEntry) (v : VersionInTime) : Type 0 where
  pub start : v.start ≡ place_of entries v.version.now.start
  pub end : v.end ≡ option_map (place_of entries) v.version.now.end

-- the version before it, if there is one
abbrev pub last_of : VersionInTime → Option Version
last_of v = option_map (λ (w : Bor Version). w.now) v.last

-- the table was dropped before the version ended
abbrev pub is_past_end : Option EventPlace → Option EventPlace → Bool
is_past_end dropped None = false
is_past_end dropped (Some end) = is_past dropped end

-- NULL stands in the column at this place, counted from 0, if it was dropped
abbrev pub is_null_if_dropped : CatalogRows → ℤ → EventPlace → ℕ × Value → Bool
is_null_if_dropped rows t place p = not (is_dropped_at rows t place (pos (p.0 + 1))) || is_null p.1

-- this version has the value in the column at this place, if it was dropped
abbrev pub is_handed_on_if_dropped : CatalogRows → ℤ → EventPlace → Version → ℕ × Value → Bool
is_handed_on_if_dropped rows t place w p =
    not (is_dropped_at rows t place (pos (p.0 + 1))) || same_value (value_at (values_of w) p.0) p.1

-- this version ended just before the other started, which has its values in dropped columns, and a statement could give
-- a value to another column
abbrev pub comes_from : CatalogRows → ℤ → EventPlace → Version → Version → Bool
comes_from rows t place w v =
    is_just_before w.end v.start && list_all (is_handed_on_if_dropped rows t place w) (numbered 0 (values_of v))
    && has_another_column rows t place v

abbrev pub comes_from_last : CatalogRows → ℤ → EventPlace → Option Version → Version → Bool
comes_from_last rows t place None v = false
comes_from_last rows t place (Some w) v = comes_from rows t place w v
