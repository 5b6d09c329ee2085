-- Keys of whole numbers, and the keys of system rows.
use Rattle.std.proofs.Common.{◌≡◌, ◌<◌, ℕ, ◌+◌, ◌*◌, ◌^◌, refl, sym, ◌∙◌, true, List, [], ◌∷◌, arith, lit<, inl, inr}
use Rattle.std.specs.Prelude.{pos}
use Rattle.std.proofs.Math.IntN.{pos-*ℤ-pos}
use Rattle.std.proofs.Math.Nat.{mul-lt-mul_of_pos_right, pow-le-pow_right}
use Rattle.std.proofs.lemmas.Bool.{cases_lt}
use Rattle.std.proofs.lemmas.Map.Lookups.{exact_signed}
use Rattle.std.specs.declared.cmp.Ordering.{Ordering}
use Rattle.std.specs.declared.cmp.Ordering.TheVariants.{Less, Equal, Greater}
use Rattle.std.specs.Ordering.{ordering_then, is_eq, int_cmp}
use Rattle.std.proofs.lemmas.Int.{ints}
use Rattle.sql_value.specs.Number.{raised}
use Rattle.sql_value.specs.Order.{value_cmp}
use Rattle.sql_types.specs.declared.table.TableDef.{TableDef}
use Rattle.sql_value.specs.declared.column.ColumnDef.{ColumnDef}
use Rattle.spec_model.specs.Rows.{number, stored_row}
use Rattle.spec_model.specs.Keys.{Key, key_places, key_cmp, same_key, key_at, value_at, version_key}
use Rattle.spec_model.specs.Rows.{values_of}
use Rattle.sql_types.specs.declared.version.Version.{Version}
use Rattle.spec_model.specs.SystemTables.{tables_columns, columns_columns, table_row, column_row, index_row, changed_table_row, changed_column_row}
use Rattle.law_journal.specs.Fine.{key_in}

ten_pos : (k : ℕ) → 0 < 10 ^ k
ten_pos k = let more = pow-le-pow_right {n = 10} (lit< tt) {i = 0} {j = k} (omega arith) in omega (arith, more)

cancelled : (a b k : ℕ) → a * 10 ^ k ≡ b * 10 ^ k → a ≡ b
cancelled a b k e = elim (cases_lt a b) [
  | inl lt ↦ (let l = mul-lt-mul_of_pos_right {m = a} {n = b} {k = 10 ^ k} lt (ten_pos k) in absurd (omega (arith, l, e)))
  | inr le ↦ elim (cases_lt b a) [
    | inl lt ↦ (let l = mul-lt-mul_of_pos_right {m = b} {n = a} {k = 10 ^ k} lt (ten_pos k) in absurd (omega (arith, l, e)))
    | inr also ↦ omega (arith, le, also)
  ]
]

raised_same : (a b k : ℕ) → raised (pos a) k ≡ raised (pos b) k → a ≡ b
unfolding raised
raised_same a b k e =
    let f : pos (a * 10 ^ k) ≡ pos (b * 10 ^ k) = sym (pos-*ℤ-pos a (10 ^ k)) ∙ e ∙ pos-*ℤ-pos b (10 ^ k) in
    cancelled a b k (omega (arith, ints, f))

then_right : (r : Ordering) → ordering_then r Equal ≡ r
then_right Less = refl
then_right Equal = refl
then_right Greater = refl

equal_numbers : (a b : ℕ) → value_cmp (number a) (number b) ≡ Equal → a ≡ b
unfolding value_cmp
equal_numbers a b e = raised_same a b 255 (exact_signed (raised (pos a) 255) (raised (pos b) 255) (sym (then_right (int_cmp (raised (pos a) 255) (raised (pos b) 255))) ∙ e))

both_equal : (a b : Ordering) → is_eq (ordering_then a b) ≡ true → (a ≡ Equal) × (is_eq b ≡ true)
both_equal Less b h = cc
both_equal Equal b h = (refl, h)
both_equal Greater b h = cc

-- equal keys that begin with numbers begin with one number
pub same_first : (a b : ℕ) (x y : Key) → same_key (number a ∷ x) (number b ∷ y) ≡ true → (a ≡ b) × (same_key x y ≡ true)
unfolding same_key key_cmp
same_first a b x y h = let p = both_equal (value_cmp (number a) (number b)) (key_cmp x y) h in (equal_numbers a b p.0, p.1)

-- ---- system rows

pub table_key : (def : TableDef) → key_in tables_columns (stored_row tables_columns (table_row def)) ≡ number def.id ∷ number 0 ∷ []
unfolding key_at key_places table_row
table_key def = refl

pub column_key : (id : ℕ) (c : ℕ × ColumnDef) → key_in columns_columns (stored_row columns_columns (column_row id c)) ≡ number id ∷ number c.0 ∷ number 0 ∷ []
unfolding key_at key_places
column_key id c = refl

pub index_key : (id g : ℕ) (name : List ℕ) (part : ℕ × ℕ) → key_in columns_columns (stored_row columns_columns (index_row id g name part)) ≡ number id ∷ number (1000 * g + part.0) ∷ number 0 ∷ []
unfolding key_at key_places
index_key id g name part = refl

pub changed_table_key : (change : ℕ) (def : TableDef) → key_in tables_columns (stored_row tables_columns (changed_table_row change def)) ≡ number def.id ∷ number change ∷ []
unfolding key_at key_places changed_table_row
changed_table_key change def = refl

pub changed_column_key : (change : ℕ) (def : TableDef) (c : ℕ × ColumnDef) → key_in columns_columns (stored_row columns_columns (changed_column_row change def c)) ≡ number def.id ∷ number c.0 ∷ number change ∷ []
unfolding key_at key_places changed_column_row
changed_column_key change def c = refl

-- ---- the keys of versions of the system tables

pub table_version_key : (v : Version) → version_key tables_columns v ≡ value_at (values_of v) 0 ∷ value_at (values_of v) 1 ∷ []
unfolding key_at key_places
table_version_key v = refl

pub column_version_key : (v : Version) → version_key columns_columns v ≡ value_at (values_of v) 0 ∷ value_at (values_of v) 1 ∷ value_at (values_of v) 2 ∷ []
unfolding key_at key_places
column_version_key v = refl
