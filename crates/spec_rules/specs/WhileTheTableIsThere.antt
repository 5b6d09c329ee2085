-- A version of a table starts after the table was created, and before it was dropped. If it ended, it did so before
-- the table was dropped.
use Rattle.std.specs.Prelude.{ℤ, pos, ◌&&◌, ◌||◌, not, Bool, false, List, Option, Some, None}
use Rattle.std.specs.List.{list_all, list_any}
use Rattle.sql_types.specs.declared.entry.TxEntry.{TxEntry}
use Rattle.sql_types.specs.declared.version.Version.{Version}
use Rattle.spec_model.specs.Rows.{EventId}
use Rattle.spec_rules.specs.Places.{PlacedRow, place_of, stands_before}
use Rattle.spec_rules.specs.Rows.{CatalogRows, says, has_no_change, tables_about}

-- the kinds of a table that was dropped are 3 and 4
abbrev pub says_gone : PlacedRow → Bool
says_gone r = says 3 (pos 3) r || says 3 (pos 4) r

module _ (entries : List TxEntry) where
  abbrev pub is_before_event : EventId → PlacedRow → Bool
  is_before_event event r = stands_before r.place (place_of entries event)

  abbrev pub is_before_end : Option EventId → PlacedRow → Bool
  is_before_end None r = false
  is_before_end (Some end) r = is_before_event end r

  module _ (rows : CatalogRows) (t : ℤ) where
    unfoldable pub is_while_the_table_is_there : Version → Bool
    is_while_the_table_is_there v =
        list_any (λ r. has_no_change 0 r && is_before_event v.start r) (tables_about rows t)
        && list_all (λ r. not (says_gone r && (is_before_event v.start r || is_before_end v.end r)))
        (tables_about rows t)
