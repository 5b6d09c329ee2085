-- Rows of the system tables that stand by the positions of their entries.
use Rattle.std.specs.Prelude.{ℕ, ℤ, ◌==◌, ◌&&◌, Bool, List}
use Rattle.std.specs.List.{filter, list_all}
use Rattle.std.specs.List.Sorted.{IsNonDecreasingBy}
use Rattle.sql_types.specs.declared.entry.TxEntry.{TxEntry}
use Rattle.spec_rules.specs.OneStatement.{are_of_one_statement, is_system_table}
use Rattle.spec_rules.specs.Places.{PlacedRow, rooted_at}
use Rattle.spec_rules.specs.Rows.{is_about_table}
use Rattle.audit_rules.specs.declared.rows.PlacedVersion.{PlacedVersion}
use Rattle.audit_rules.specs.declared.statements.ByPosition.{ByPosition}
use Rattle.audit_rules.specs.Seen.{position_in, seen}

pub record AreByPosition (b : ByPosition) : Type 0 where
  pub tables : IsNonDecreasingBy position_in b.tables.now
  pub items : IsNonDecreasingBy position_in b.items.now

-- those of the entry at this position
abbrev pub rows_at : ℕ → List PlacedVersion → List PlacedRow
rows_at position rows = seen (filter (λ r. position_in r == position) rows)

-- the rows of the entry at this position are those of one statement about the table
abbrev pub is_one : List TxEntry → List PlacedVersion → List PlacedVersion → ℤ → ℕ → Bool
is_one entries tables items t position =
    list_all is_system_table (rooted_at entries position)
    && list_all (is_about_table t) (rows_at position tables) && list_all (is_about_table t) (rows_at position items)
    && are_of_one_statement (rows_at position tables) (rows_at position items)
