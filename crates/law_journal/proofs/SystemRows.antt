-- The system rows of a table and of an index fit.
use Rattle.std.proofs.Common.{◌≡◌, ◌≤◌, ◌<◌, ℕ, ◌+◌, ◌*◌, ◌^◌, refl, Bool, true, false, List, [], length, arith}
use Rattle.std.proofs.lemmas.Bool.{lt-ltb, le-leb}
use Rattle.std.proofs.lemmas.Bool.Decides.{nat_tests}
use Rattle.std.specs.Prelude.{pos, negsuc, if◌then◌else◌}
use Rattle.sql_value.specs.declared.value.Value.TheVariants.{Num, Text}
use Rattle.sql_value.specs.declared.sql_type.SqlType.{SqlType}
use Rattle.sql_value.specs.declared.sql_type.SqlType.TheVariants as t
use Rattle.sql_value.specs.declared.column.ColumnDef.{ColumnDef}
use Rattle.sql_value.specs.declared.column.TableKind.{TableKind}
use Rattle.sql_value.specs.declared.column.TableKind.TheVariants.{AppendOnly, Updatable}
use Rattle.sql_value.specs.Stored.{is_in_range, is_stored}
use Rattle.sql_value.specs.Text.{utf16_units}
use Rattle.sql_types.specs.declared.table.TableDef.{TableDef}
use Rattle.sql_value.specs.TypeCodes.{type_code, first_parameter, second_parameter}
use Rattle.spec_model.specs.LiveColumns.{is_dropped}
use Rattle.spec_model.specs.Rows.{number, stored_value, stored_row}
use Rattle.spec_model.specs.SystemTables.{a_column, name_type, tables_columns, columns_columns, kind_code, history_value, bit, table_row, column_row, index_row, kind_in_row, changed_table_row, changed_column_row}
use Rattle.law_journal.specs.Fits.{FitsColumn, Fits}
use Rattle.law_journal.proofs.Units.{few_units}

abbrev IsInt : ℕ → Type 0
IsInt n = n < 2147483648

int_stored : (n : ℕ) → IsInt n → is_stored (number n) t.Int ≡ true
unfolding is_stored is_in_range
int_stored n h = rw (lt-ltb n (2 ^ 31) h) refl

bit_stored : (n : ℕ) → n < 2 → is_stored (number n) t.Bit ≡ true
unfolding is_stored is_in_range
bit_stored n h = rw (lt-ltb n 2 h) refl

name_stored : (x : List ℕ) → length x ≤ 128 → is_stored (Text x) name_type ≡ true
unfolding is_stored is_in_range
name_stored x h = rw (le-leb (utf16_units x) 128 (omega (arith, few_units x, h))) refl

int_fits : (name : List ℕ) (nullable : Bool) (key n : ℕ) → IsInt n → FitsColumn (a_column name t.Int nullable key) (stored_value (a_column name t.Int nullable key) (number n))
int_fits name nullable key n h = (refl, (λ e. cc), int_stored n h)

bit_fits : (name : List ℕ) (nullable : Bool) (key n : ℕ) → n < 2 → FitsColumn (a_column name t.Bit nullable key) (stored_value (a_column name t.Bit nullable key) (number n))
bit_fits name nullable key n h = (refl, (λ e. cc), bit_stored n h)

text_fits : (name : List ℕ) (nullable : Bool) (key : ℕ) (x : List ℕ) → length x ≤ 128 → FitsColumn (a_column name name_type nullable key) (stored_value (a_column name name_type nullable key) (Text x))
text_fits name nullable key x h = (refl, (λ e. cc), name_stored x h)

history_fits : (name : List ℕ) (kind : TableKind) (x : List ℕ) → length x ≤ 128 → FitsColumn (a_column name name_type true 0) (stored_value (a_column name name_type true 0) (history_value kind x))
history_fits name AppendOnly x h = refl
history_fits name Updatable x h = text_fits name true 0 x h

kind_small : (kind : TableKind) → IsInt (kind_code kind)
kind_small AppendOnly = omega arith
kind_small Updatable = omega arith

pub table_row_fits : (def : TableDef) → IsInt def.id → length def.name ≤ 128 → length def.history ≤ 128 → length def.view ≤ 128 → Fits tables_columns (stored_row tables_columns (table_row def))
unfolding table_row
table_row_fits def id name history view = (
  int_fits [] false 1 def.id id,
  (
    int_fits [] false 2 0 (omega arith),
    (
      text_fits [] false 0 def.name name,
      (
        int_fits [] false 0 (kind_code def.kind) (kind_small def.kind),
        (history_fits [] def.kind def.history history, (text_fits [] false 0 def.view view, tt)),
      ),
    ),
  ),
)

code_small : (ty : SqlType) → IsInt (type_code ty)
code_small t.Bit = omega arith
code_small t.Int = omega arith
code_small t.BigInt = omega arith
code_small (t.Decimal p s) = omega arith
code_small (t.NVarChar n) = omega arith
code_small (t.VarBinary n) = omega arith
code_small t.Date = omega arith

first_small : (ty : SqlType) → is_in_range ty ≡ true → IsInt (first_parameter ty)
unfolding is_in_range
first_small t.Bit h = omega arith
first_small t.Int h = omega arith
first_small t.BigInt h = omega arith
first_small (t.Decimal p s) h = grind (arith, nat_tests)
first_small (t.NVarChar n) h = grind (arith, nat_tests)
first_small (t.VarBinary n) h = grind (arith, nat_tests)
first_small t.Date h = omega arith

second_small : (ty : SqlType) → is_in_range ty ≡ true → IsInt (second_parameter ty)
unfolding is_in_range
second_small t.Bit h = omega arith
second_small t.Int h = omega arith
second_small t.BigInt h = omega arith
second_small (t.Decimal p s) h = grind (arith, nat_tests)
second_small (t.NVarChar n) h = omega arith
second_small (t.VarBinary n) h = omega arith
second_small t.Date h = omega arith

bit_small : (b : Bool) → bit b < 2
bit_small true = omega arith
bit_small false = omega arith

-- a column whose row fits
pub record IsSmall (c : ColumnDef) : Type 0 where
  pub name : length c.name ≤ 128
  pub ty : is_in_range c.ty ≡ true
  pub key : c.key_position < 2147483648

pub column_row_fits : (id n : ℕ) (c : ColumnDef) → IsInt id → IsInt n → IsSmall c → Fits columns_columns (stored_row columns_columns (column_row id (n, c)))
column_row_fits id n c small item h = (
  int_fits [] false 1 id small,
  (
    int_fits [] false 2 n item,
    (
      int_fits [] false 3 0 (omega arith),
      (
        text_fits [] false 0 c.name h.name,
        (
          int_fits [] false 0 (type_code c.ty) (code_small c.ty),
          (
            int_fits [] false 0 (first_parameter c.ty) (first_small c.ty h.ty),
            (
              int_fits [] false 0 (second_parameter c.ty) (second_small c.ty h.ty),
              (bit_fits [] false 0 (bit c.nullable) (bit_small c.nullable), (int_fits [] false 0 c.key_position h.key, tt)),
            ),
          ),
        ),
      ),
    ),
  ),
)

pub index_row_fits : (id g : ℕ) (name : List ℕ) (n ordinal : ℕ) → IsInt id → IsInt (1000 * g + n) → length name ≤ 128 → IsInt ordinal → Fits columns_columns (stored_row columns_columns (index_row id g name (n, ordinal)))
index_row_fits id g name n ordinal small item h o = (
  int_fits [] false 1 id small,
  (
    int_fits [] false 2 (1000 * g + n) item,
    (
      int_fits [] false 3 0 (omega arith),
      (
        text_fits [] false 0 name h,
        (
          int_fits [] false 0 0 (omega arith),
          (
            int_fits [] false 0 0 (omega arith),
            (
              int_fits [] false 0 0 (omega arith),
              (bit_fits [] false 0 0 (omega arith), (int_fits [] false 0 ordinal o, tt)),
            ),
          ),
        ),
      ),
    ),
  ),
)

-- ---- rows of what was changed

changed_kind_small : (gone : Bool) (kind : TableKind) → IsInt (if gone then kind_code kind + 2 else kind_code kind)
changed_kind_small true AppendOnly = omega arith
changed_kind_small true Updatable = omega arith
changed_kind_small false kind = kind_small kind

pub changed_table_row_fits : (change : ℕ) (def : TableDef) → IsInt def.id → IsInt change → length def.name ≤ 128 → length def.history ≤ 128 → length def.view ≤ 128
    → Fits tables_columns (stored_row tables_columns (changed_table_row change def))
unfolding changed_table_row
changed_table_row_fits change def id few name history view = (
  int_fits [] false 1 def.id id,
  (
    int_fits [] false 2 change few,
    (
      text_fits [] false 0 def.name name,
      (
        int_fits [] false 0 (kind_in_row def) (changed_kind_small def.gone def.kind),
        (history_fits [] def.kind def.history history, (text_fits [] false 0 def.view view, tt)),
      ),
    ),
  ),
)

-- the place in the key, or -1
place_fits : (name : List ℕ) (b : Bool) (k : ℕ) → IsInt k
    → FitsColumn (a_column name t.Int false 0) (stored_value (a_column name t.Int false 0) (Num 0 (if b then negsuc 0 else pos k)))
unfolding is_stored is_in_range
place_fits name true k h = (refl, (λ e. cc), refl)
place_fits name false k h = int_fits name false 0 k h

pub changed_column_row_fits : (change : ℕ) (def : TableDef) (n : ℕ) (c : ColumnDef) → IsInt def.id → IsInt n → IsInt change → IsSmall c
    → Fits columns_columns (stored_row columns_columns (changed_column_row change def (n, c)))
unfolding changed_column_row
changed_column_row_fits change def n c small item few h = (
  int_fits [] false 1 def.id small,
  (
    int_fits [] false 2 n item,
    (
      int_fits [] false 3 change few,
      (
        text_fits [] false 0 c.name h.name,
        (
          int_fits [] false 0 (type_code c.ty) (code_small c.ty),
          (
            int_fits [] false 0 (first_parameter c.ty) (first_small c.ty h.ty),
            (
              int_fits [] false 0 (second_parameter c.ty) (second_small c.ty h.ty),
              (bit_fits [] false 0 (bit c.nullable) (bit_small c.nullable), (place_fits [] (is_dropped def n) c.key_position h.key, tt)),
            ),
          ),
        ),
      ),
    ),
  ),
)
