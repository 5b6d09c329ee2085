-- The system rows of a table and of an index have new keys, and are about what there is then.
use Rattle.std.proofs.Common.{◌≡◌, ◌≤◌, ◌<◌, ℕ, ◌+◌, refl, sym, ap, subst, ◌∙◌, Bool, true, false, List, [], ◌∷◌, map, length, arith}
use Rattle.std.specs.List.{AllByRecursion}
use Rattle.sql_value.specs.declared.column.ColumnDef.{ColumnDef}
use Rattle.sql_types.specs.declared.table.TableDef.{TableDef}
use Rattle.sql_types.specs.declared.version.Version.{Version}
use Rattle.spec_model.specs.Lists.{numbered}
use Rattle.spec_model.specs.Rows.{Row, number, stored_row, start_cmp, started}
use Rattle.spec_model.specs.Keys.{Key, same_key, version_key}
use Rattle.spec_model.specs.Changes.{Starts, changed, changed_all}
use Rattle.spec_model.specs.Catalog.{Defs}
use Rattle.spec_model.specs.SystemTables.{tables_columns, columns_columns, table_row}
use Rattle.law_frame.proofs.Alls.{all_inserted}
use Rattle.law_journal.specs.Fits.{Fits}
use Rattle.law_journal.specs.Fine.{key_in}
use Rattle.law_journal.specs.Described.{items_below, IsTableKey, IsColumnKey}
use Rattle.law_journal.proofs.DefLists.{no_changes}
use Rattle.law_journal.proofs.NumberKeys.{same_first, table_key}
use Rattle.law_journal.proofs.Order.{NoneLive, new_version}
use Rattle.law_journal.proofs.Here.{Differ, AllNew}

-- what holds of the keys that stand, and of the new ones, holds of all
pub keys_after : (columns : List ColumnDef) (K : Key → Type 0) (tx seq : ℕ) (rows : List Row) (V : List Version) → AllByRecursion (λ r. K (key_in columns (stored_row columns r))) rows → AllByRecursion (λ v. K (version_key columns v)) V
    → AllByRecursion (λ v. K (version_key columns v)) (changed_all tx seq (map (λ row. Starts (stored_row columns row)) rows) V)
unfolding changed_all started
keys_after columns K tx seq [] V h k = k
keys_after columns K tx seq (r ∷ rs) V h k =
    keys_after columns K tx (seq + 1) rs (changed (tx, seq) (Starts (stored_row columns r)) V) h.1
    (all_inserted (λ v. K (version_key columns v)) start_cmp (new_version (tx, seq) (stored_row columns r)) V h.0 k)

-- ---- the row of a table

none_of_table : (defs : Defs) (id : ℕ) (V : List Version) → length defs < id → AllByRecursion (λ v. IsTableKey defs (version_key tables_columns v)) V → NoneLive tables_columns (number id ∷ number 0 ∷ []) V
none_of_table defs id [] lt h = tt
none_of_table defs id (v ∷ vs) lt h =
    ((λ same. absurd (let k = h.0 in let e = same_first k.0 id (number k.1 ∷ []) (number 0 ∷ []) (subst (λ (key : Key). same_key key (number id ∷ number 0 ∷ []) ≡ true) k.4 same) in omega (arith, e.0, k.2, lt))), none_of_table defs id vs lt h.1)

pub table_row_new : (defs : Defs) (def : TableDef) (V : List Version) → length defs < def.id → Fits tables_columns (stored_row tables_columns (table_row def)) → AllByRecursion (λ v. IsTableKey defs (version_key tables_columns v)) V → AllNew tables_columns (table_row def ∷ []) V
table_row_new defs def V lt fits h = (fits, subst (λ (k : Key). NoneLive tables_columns k V) (sym (table_key def)) (none_of_table defs def.id V lt h), tt, tt)

-- ---- rows of columns, and of parts of an index

abbrev pub column_key_at : ℕ → ℕ → Key
column_key_at id item = number id ∷ number item ∷ number 0 ∷ []

items_apart : (id m n : ℕ) → m < n → (b : Bool) → same_key (column_key_at id m) (column_key_at id n) ≡ b → b ≡ false
items_apart id m n lt true e = absurd (let p = same_first id id (number m ∷ number 0 ∷ []) (number n ∷ number 0 ∷ []) e in let q = same_first m n (number 0 ∷ []) (number 0 ∷ []) p.1 in omega (arith, q.0, lt))
items_apart id m n lt false e = refl

module _ (defs : Defs) (id : ℕ) where
  none_of_item : (item : ℕ) (V : List Version) → items_below defs id ≤ item → AllByRecursion (λ v. IsColumnKey defs (version_key columns_columns v)) V → NoneLive columns_columns (column_key_at id item) V
  none_of_item item [] le h = tt
  none_of_item item (v ∷ vs) le h = (
    (λ same. absurd (
        let k = h.0 in
        let e = same_first k.0 id (number k.1 ∷ number k.2 ∷ []) (number item ∷ number 0 ∷ []) (subst (λ (key : Key). same_key key (column_key_at id item) ≡ true) k.5 same) in
        let f = same_first k.1 item (number k.2 ∷ []) (number 0 ∷ []) e.1 in
        let below : k.1 < items_below defs id = subst (λ (i : ℕ). k.1 < items_below defs i) e.0 k.3 in
        omega (arith, f.0, below, le))),
    none_of_item item vs le h.1,
  )

  module _ {A : Type 0} (row : ℕ × A → Row) (base : ℕ) (key_is : (p : ℕ × A) → key_in columns_columns (stored_row columns_columns (row p)) ≡ column_key_at id (base + p.0)) where
    later_differ : (m n : ℕ) (x : A) (xs : List A) → m < n → AllByRecursion (Differ columns_columns (row (m, x))) (map row (numbered n xs))
    later_differ m n x [] lt = tt
    later_differ m n x (y ∷ ys) lt = (
      ap (λ (k : Key). same_key k (key_in columns_columns (stored_row columns_columns (row (n, y))))) (key_is (m, x)) ∙ ap (same_key (column_key_at id (base + m))) (key_is (n, y)) ∙ items_apart id (base + m) (base + n) (omega (arith, lt)) (same_key (column_key_at id (base + m)) (column_key_at id (base + n))) refl,
      later_differ m (n + 1) x ys (omega (arith, lt)),
    )

    pub rows_new : (n : ℕ) (xs : List A) (V : List Version) → items_below defs id ≤ base + n → AllByRecursion (λ r. Fits columns_columns (stored_row columns_columns r)) (map row (numbered n xs)) → AllByRecursion (λ v. IsColumnKey defs (version_key columns_columns v)) V
        → AllNew columns_columns (map row (numbered n xs)) V
    rows_new n [] V le f h = tt
    rows_new n (x ∷ xs) V le f h =
        (f.0, subst (λ (k : Key). NoneLive columns_columns k V) (sym (key_is (n, x))) (none_of_item (base + n) V le h), later_differ n (n + 1) x xs (omega arith), rows_new (n + 1) xs V (omega (arith, le)) f.1 h)

    pub rows_known : (after : Defs) (n : ℕ) (xs : List A) → base + n + length xs ≤ items_below after id → AllByRecursion (λ r. IsColumnKey after (key_in columns_columns (stored_row columns_columns r))) (map row (numbered n xs))
    rows_known after n [] le = tt
    rows_known after n (x ∷ xs) le = ((id, base + n, 0, omega (arith, le), no_changes id after, key_is (n, x)), rows_known after (n + 1) xs (omega (arith, le)))
