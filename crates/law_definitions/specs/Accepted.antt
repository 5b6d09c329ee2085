-- What holds of the tables of an accepted image, whatever made it.
use Rattle.std.specs.Prelude.{ℕ, pos, negsuc, ◌≡◌, ◌<◌, ◌⊎◌, true, false, List, None, IfSome}
use Rattle.std.specs.List.{AllByRecursion, Any}
use Rattle.sql_value.specs.declared.column.ColumnDef.{ColumnDef}
use Rattle.sql_value.specs.TypeCodes.{type_code, first_parameter, second_parameter}
use Rattle.sql_types.specs.declared.image.Image.{Image}
use Rattle.sql_types.specs.declared.table.TableDef.{TableDef}
use Rattle.spec_model.specs.Lists.{is_among, numbered}
use Rattle.spec_model.specs.Rows.{Row}
use Rattle.spec_model.specs.SystemTables.{columns_id}
use Rattle.law_catalog_rows.specs.Latest.{number_at}
use Rattle.spec_rules.specs.Places.{EventPlace, PlacedRow, place_of, stands_before}
use Rattle.spec_rules.specs.Rows.{columns_about, in_force, tables_about}
use Rattle.spec_verify.specs.Rules.{rows_of_image}
use Rattle.spec_verify.specs.Sentences.{TableVersion, versions_of_image}

-- the rows of the table of tables about the version's table
abbrev pub rows_about : Image → TableVersion → List PlacedRow
rows_about i x = tables_about (rows_of_image i) (pos x.0.def.id)

-- it holds of each version of a user's table, with each row about its table
abbrev pub OfEachVersion : Image → (TableVersion → PlacedRow → Type 0) → Type 0
OfEachVersion i P =
    AllByRecursion (λ x. columns_id < x.0.def.id → AllByRecursion (P x) (rows_about i x)) (versions_of_image i)

-- the row says that its table is append-only: its kind is 1, or 3 once the table was dropped
abbrev pub SaysAppendOnly : PlacedRow → Type 0
SaysAppendOnly r = (number_at 3 r.row ≡ pos 1) ⊎ (number_at 3 r.row ≡ pos 3)

-- a table of which some row says that it is append-only has no version that ended
abbrev pub NothingEnded : Image → Type 0
NothingEnded i = OfEachVersion i (λ x r. SaysAppendOnly r → x.1.end ≡ None)

-- the row says that its table was dropped: its kind is 3 or 4
abbrev pub SaysGone : PlacedRow → Type 0
SaysGone r = (number_at 3 r.row ≡ pos 3) ⊎ (number_at 3 r.row ≡ pos 4)

-- no version of a table starts or ends after a row that says so
abbrev pub NothingAfterDrop : Image → Type 0
NothingAfterDrop i =
    OfEachVersion i (λ x r. SaysGone r
    → (stands_before r.place (place_of i.entries x.1.start) ≡ false)
    × IfSome x.1.end (λ end. stands_before r.place (place_of i.entries end) ≡ false))

-- ---- columns

-- the row says that the column was dropped; the definition has it as dropped and in no key
pub record SaysDropped (def : TableDef) (row : Row) (column : ℕ × ColumnDef) : Type 0 where
  pub position : number_at 8 row ≡ negsuc 0
  pub dropped : is_among def.dropped column.0 ≡ true
  pub no_key : column.1.key_position ≡ 0

-- The row is about this column of the definition. It says the column's type, which is a code and two parameters, and
-- its position in the key, or that it was dropped.
pub record SaysColumn (def : TableDef) (row : Row) (column : ℕ × ColumnDef) : Type 0 where
  pub ordinal : number_at 1 row ≡ pos column.0
  pub code : number_at 4 row ≡ pos (type_code column.1.ty)
  pub first : number_at 5 row ≡ pos (first_parameter column.1.ty)
  pub second : number_at 6 row ≡ pos (second_parameter column.1.ty)
  pub key : (number_at 8 row ≡ pos column.1.key_position) ⊎ SaysDropped def row column

-- each of these rows is about a column of the definition and says what the definition has
abbrev pub SayColumns : TableDef → List PlacedRow → Type 0
SayColumns def rows = AllByRecursion (λ r. Any (SaysColumn def r.row) (numbered 1 def.columns)) rows

-- of each table all rows about columns do, whatever their change
abbrev pub KeysAndTypesStay : Image → Type 0
KeysAndTypesStay i = AllByRecursion (λ def. SayColumns def (columns_about (rows_of_image i) (pos def.id))) i.defs

-- of each table the rows about columns do that are in force at this place: of each column the last that started before
abbrev pub KeysAndTypesAt : Image → EventPlace → Type 0
KeysAndTypesAt i place =
    AllByRecursion (λ def. SayColumns def (in_force 1 place (columns_about (rows_of_image i) (pos def.id)))) i.defs
