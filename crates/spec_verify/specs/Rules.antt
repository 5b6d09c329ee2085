-- The rules of changes, of an image: the least table whose rows break one, and the least version that breaks one.
use Rattle.std.specs.Prelude.{ℤ, pos, ◌&&◌, not, nat_lt, Bool, List, ◌++◌, map, flat_map, Option}
use Rattle.std.specs.List.{filter, filter_map}
use Rattle.std.specs.Ordering.{int_cmp}
use Rattle.sql_types.specs.declared.image.Image.{Image}
use Rattle.sql_types.specs.declared.version.Table.{Table}
use Rattle.sql_types.specs.declared.version.Version.{Version}
use Rattle.spec_model.specs.SystemTables.{columns_id}
use Rattle.format_image.specs.Tables.{tables_in}
use Rattle.law_catalog_rows.specs.Differs.{table_of}
use Rattle.law_catalog_rows.specs.Least.{least}
use Rattle.spec_rules.specs.Rows.{CatalogRows, catalog_rows}
use Rattle.spec_rules.specs.Rules.{keeps_the_rules, version_keeps_the_rules}
use Rattle.spec_verify.specs.declared.place.Place.{Place}
use Rattle.spec_verify.specs.Definitions.{base_in, base_rows, definition_fault, lesser_table, table_place}
use Rattle.spec_verify.specs.Entries.{TableEvent, least_event, lesser_version}
use Rattle.spec_verify.specs.Order.{latest, before}
use Rattle.spec_verify.specs.Versions.{version_fault, with_columns}

module _ (i : Image) where
  -- the base rows of the system's tables, with their places
  abbrev pub rows_of_image : CatalogRows
  rows_of_image = catalog_rows i.entries (base_in i.tables 0) (base_in i.tables 1)

  -- ---- tables

  -- the tables that rows are about
  abbrev pub ids_of_rows : List ℤ
  ids_of_rows = filter_map table_of (base_rows i.tables 0) ++ filter_map table_of (base_rows i.tables 1)

  abbrev pub breaks_a_rule : ℤ → Bool
  breaks_a_rule t = not (keeps_the_rules i.entries rows_of_image t)

  -- the least table whose rows break a rule
  unfoldable pub table_rule_fault : Option Place
  table_rule_fault = table_place (least int_cmp (filter breaks_a_rule ids_of_rows))

  -- a table is defined otherwise than its rows spell it, or its rows break a rule
  unfoldable pub catalog_fault : Option Place
  catalog_fault = lesser_table (definition_fault i) table_rule_fault

  -- ---- versions of users' tables

  -- the version of its key just before it
  abbrev pub last_before : Table → Version → Option Version
  last_before t v = latest i.entries (before i.entries t.def.columns (with_columns t.def.columns t.versions) v)

  abbrev pub version_breaks_a_rule : Table → Version → Bool
  version_breaks_a_rule t v =
      nat_lt columns_id t.def.id
      && not (version_keeps_the_rules i.entries rows_of_image (pos t.def.id) (last_before t v) v)

  -- the starts of those that break a rule
  abbrev pub rule_breakers : Table → List TableEvent
  rule_breakers t = map (λ (v : Version). (t.def.id, v.start)) (filter (version_breaks_a_rule t) t.versions)

  -- the start of the least of them, in all tables
  unfoldable pub version_rule_fault : Option Place
  version_rule_fault = least_event (flat_map rule_breakers (tables_in i))

  -- a version doesn't fit its table or doesn't follow the one before it, or it breaks a rule
  unfoldable pub row_fault : Option Place
  row_fault = lesser_version (version_fault i) version_rule_fault
