-- The database behind its first transactions, by an image that was made later.
use Rattle.std.specs.Prelude.{ℕ, Bool, if◌then◌else◌, List, [], ◌∷◌, ◌++◌, map, take, length, Option, Some, None}
use Rattle.std.specs.List.{filter}
use Rattle.sql_types.specs.declared.entry.TxEntry.{TxEntry}
use Rattle.sql_types.specs.declared.image.Image.{Image}
use Rattle.sql_types.specs.declared.image.TableRows.{TableRows}
use Rattle.sql_types.specs.declared.table.TableDef.{TableDef}
use Rattle.sql_types.specs.declared.version.Table.{Table}
use Rattle.sql_types.specs.declared.version.Version.{Version}
use Rattle.spec_model.specs.Catalog.{Defs, Tables}
use Rattle.spec_model.specs.Lists.{is_among, sorted}
use Rattle.spec_model.specs.Rows.{EventId, Row, start_cmp, values_of}
use Rattle.spec_model.specs.SystemTables.{tables_def, columns_def}
use Rattle.law_catalog_rows.specs.Differs.{is_encoded}
use Rattle.spec_asof.specs.DefTold.{def_told}

-- ---- versions, where `has` says which transactions count

-- an end, where a transaction that counts made it
abbrev pub end_at : (ℕ → Bool) → Option EventId → Option EventId
end_at has None = None
end_at has (Some event) = if has event.0 then Some event else None

abbrev pub with_end_at : (ℕ → Bool) → Version → Version
with_end_at has v = record { values = v.values; start = v.start; end = end_at has v.end }

-- the versions that a transaction that counts started, each with its end only where one that counts ended it
abbrev pub left_of : (ℕ → Bool) → List Version → List Version
left_of has versions = map (with_end_at has) (filter (λ v. has v.start.0) versions)

-- those of a table, whose image has base and history apart, by rising start
unfoldable pub versions_at : (ℕ → Bool) → TableRows → List Version
versions_at has rows = sorted start_cmp (left_of has (rows.base ++ rows.history))

-- ---- tables

-- a version with as many values as there are columns
abbrev pub cut_to : ℕ → Version → Version
cut_to columns v = record { values = take columns v.values; start = v.start; end = v.end }

abbrev pub table_at : (ℕ → Bool) → TableDef → TableRows → Table
table_at has def rows =
    record { def = def; versions = map (cut_to (length def.columns)) (versions_at has rows) }

-- of the tables of users, which an image defines so, those whose definition the rows so far of the two tables of the
-- system spell, as far as they tell it; rows that break a rule so far spell none
abbrev pub users_at : (ℕ → Bool) → List Row → List Row → Defs → List TableRows → Tables
users_at has first second (def ∷ defs) (rows ∷ more) =
    if is_encoded first second [] (def_told first second def)
    then table_at has (def_told first second def) rows ∷ users_at has first second defs more
    else users_at has first second defs more
users_at has first second _ _ = []

-- the values of the rows of a table of the system
abbrev pub rows_at : (ℕ → Bool) → TableRows → List Row
rows_at has rows = map values_of (versions_at has rows)

abbrev pub system_at : (ℕ → Bool) → TableDef → TableRows → Table
system_at has def rows = record { def = def; versions = versions_at has rows }

-- the two tables of the system, and those of users
abbrev pub tables_at : (ℕ → Bool) → Defs → List TableRows → Tables
tables_at has defs (first ∷ second ∷ users) =
    system_at has tables_def first ∷ system_at has columns_def second
    ∷ users_at has (rows_at has first) (rows_at has second) defs users
tables_at has defs _ = []

-- the transactions of the first n entries in ledger order
abbrev pub first_ids : List TxEntry → ℕ → List ℕ
first_ids entries n = map (λ e. e.id) (take n entries)

-- the database behind its first n transactions in ledger order, by the image
unfoldable pub database_at : Image → ℕ → Tables
database_at i n = tables_at (is_among (first_ids i.entries n)) i.defs i.tables
