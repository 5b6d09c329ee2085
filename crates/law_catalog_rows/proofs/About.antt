-- The rows of a definition are about its table.
use Rattle.std.proofs.Common.{◌≡◌, ◌≢◌, ℕ, ℤ, pos, ◌+◌, refl, ap, ◌∙◌, Bool, true, false, List, [], ◌∷◌, ◌++◌, map, arith}
use Rattle.std.proofs.lemmas.Bool.Decides.{Decides-int_eq}
use Rattle.std.specs.Bool.{Decides}
use Rattle.std.specs.List.{AllByRecursion}
use Rattle.std.specs.Ordering.{int_eq}
use Rattle.sql_value.specs.declared.value.Value.{Value}
use Rattle.sql_value.specs.declared.column.ColumnDef.{ColumnDef}
use Rattle.sql_types.specs.declared.table.TableDef.{TableDef}
use Rattle.spec_model.specs.Lists.{numbered}
use Rattle.spec_model.specs.Rows.{Row, number}
use Rattle.spec_model.specs.SystemTables.{table_row, column_row, index_row}
use Rattle.law_frame.proofs.Alls.{all_weaker}
use Rattle.law_catalog_rows.specs.Encoded.{is_about, about}
use Rattle.law_catalog_rows.proofs.Orders.{filter_all, filter_none}

-- ---- the rows of a definition are about its table

abbrev pub StartsWith : ℕ → Row → Type 0
StartsWith id row = (values : List Value) × (row ≡ number id ∷ values)

pub columns_start : (id n : ℕ) (cs : List ColumnDef) → AllByRecursion (StartsWith id) (map (column_row id) (numbered n cs))
columns_start id n [] = tt
columns_start id n (c ∷ cs) = ((_, refl), columns_start id (n + 1) cs)

pub parts_start : (id g n : ℕ) (name : List ℕ) (os : List ℕ) → AllByRecursion (StartsWith id) (map (index_row id g name) (numbered n os))
parts_start id g n name [] = tt
parts_start id g n name (o ∷ os) = ((_, refl), parts_start id g (n + 1) name os)

pub table_starts : (def : TableDef) → StartsWith def.id (table_row def)
unfolding table_row
table_starts def = (_, refl)

-- ---- numbers

is_own : (n : ℕ) → int_eq (pos n) (pos n) ≡ true
is_own n = here (int_eq (pos n) (pos n)) (Decides-int_eq (pos n) (pos n))
  where
    here : (b : Bool) → Decides b (pos n ≡ pos n) → b ≡ true
    here true d = refl
    here false d = grind arith

is_other : (n : ℕ) (id : ℤ) → pos n ≢ id → int_eq (pos n) id ≡ false
is_other n id ne = here (int_eq (pos n) id) (Decides-int_eq (pos n) id)
  where
    here : (b : Bool) → Decides b (pos n ≡ id) → b ≡ false
    here true d = absurd (ne (grind arith))
    here false d = refl

pub own_row : (n : ℕ) (row : Row) → StartsWith n row → is_about (pos n) row ≡ true
own_row n row s = ap (is_about (pos n)) s.1 ∙ is_own n

pub other_row : (n : ℕ) (id : ℤ) → pos n ≢ id → (row : Row) → StartsWith n row → is_about id row ≡ false
other_row n id ne row s = ap (is_about id) s.1 ∙ is_other n id ne

-- ---- rows about one table in front of others

pub more_about : (n : ℕ) (rows others : List Row) → AllByRecursion (StartsWith n) rows → about (pos n) (rows ++ others) ≡ rows ++ about (pos n) others
more_about n rows others h = filter_all (is_about (pos n)) rows others (all_weaker (StartsWith n) (λ r. is_about (pos n) r ≡ true) (own_row n) rows h)

pub none_more_about : (n : ℕ) (id : ℤ) → pos n ≢ id → (rows others : List Row) → AllByRecursion (StartsWith n) rows → about id (rows ++ others) ≡ about id others
none_more_about n id ne rows others h = filter_none (is_about id) rows others (all_weaker (StartsWith n) (λ r. is_about id r ≡ false) (other_row n id ne) rows h)
