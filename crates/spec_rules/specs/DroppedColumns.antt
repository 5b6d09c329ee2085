-- A version that starts with a value in a dropped column has its values in all dropped columns from the version just
-- before, which the same UPDATE ended: a statement gives values to other columns alone.
use Rattle.std.specs.Prelude.{ℕ, ℤ, pos, suc, ◌+◌, ◌==◌, ◌&&◌, ◌||◌, not, Bool, false, List, Option, Some, None}
use Rattle.std.specs.List.{filter, list_all, list_any}
use Rattle.sql_value.specs.declared.value.Value.{Value}
use Rattle.sql_types.specs.declared.entry.TxEntry.{TxEntry}
use Rattle.sql_types.specs.declared.version.Version.{Version}
use Rattle.spec_model.specs.Keys.{value_at}
use Rattle.spec_model.specs.Lists.{numbered}
use Rattle.spec_model.specs.Rows.{EventId, values_of}
use Rattle.spec_rules.specs.Places.{EventPlace, place_of}
use Rattle.spec_rules.specs.Rows.{CatalogRows, says, says_dropped, items_about, earlier_than, is_null, same_value}

-- the event is the one before the other in its transaction
abbrev pub is_just_before : Option EventId → EventId → Bool
is_just_before None event = false
is_just_before (Some end) event = end.0 == event.0 && suc end.1 == event.1

module _ (rows : CatalogRows) (t : ℤ) where
  -- the column with this ordinal was dropped before the place
  abbrev pub is_dropped_at : EventPlace → ℤ → Bool
  is_dropped_at place ordinal =
      list_any (λ r. says 1 ordinal r && says_dropped r) (earlier_than place (items_about rows t))

  -- the values in columns that were dropped before the place, each with its place in the row, from 0
  abbrev pub values_of_dropped : EventPlace → Version → List (ℕ × Value)
  values_of_dropped place v =
      filter (λ (p : ℕ × Value). is_dropped_at place (pos (p.0 + 1))) (numbered 0 (values_of v))

  -- a row before the place says that the column with this ordinal isn't in the key
  abbrev pub is_outside_key_at : EventPlace → ℤ → Bool
  is_outside_key_at place ordinal =
      list_any (λ r. says 1 ordinal r && says 8 (pos 0) r) (earlier_than place (items_about rows t))

  -- of the columns, of which the version has a value each, there is one to which a statement may give a value: it
  -- isn't in the key, and wasn't dropped
  abbrev pub has_another_column : EventPlace → Version → Bool
  has_another_column place v =
      list_any (λ (p : ℕ × Value). is_outside_key_at place (pos (p.0 + 1)) && not (is_dropped_at place (pos (p.0 + 1))))
      (numbered 0 (values_of v))

-- the version ends just before this event, and has these values
abbrev pub hands_on : List (ℕ × Value) → EventId → Option Version → Bool
hands_on values event None = false
hands_on values event (Some w) =
    is_just_before w.end event
    && list_all (λ (p : ℕ × Value). same_value (value_at (values_of w) p.0) p.1) values

module _ (entries : List TxEntry) (rows : CatalogRows) (t : ℤ) where
  -- of a version, and of the version of its key just before it, if there is one
  unfoldable pub dropped_columns_are_carried : Option Version → Version → Bool
  dropped_columns_are_carried last v =
      let place = place_of entries v.start in
      let values = values_of_dropped rows t place v in
      list_all (λ (p : ℕ × Value). is_null p.1) values
      || (hands_on values v.start last && has_another_column rows t place v)
