-- Rows of the system's tables that compare as equal are one; so what has as many rows as a definition, and each of them, has its rows.
use Rattle.std.proofs.Common.{◌≡◌, ◌<◌, ◌≤◌, ◌+◌, ◌*◌, ◌∙◌, ℕ, suc, pos, refl, sym, ap, subst, arith, Bool, true, false, List, [], ◌∷◌, ◌++◌, length, map, Some, None}
use Rattle.std.proofs.lemmas.List.Sorted.{IsPermutation-refl, IsPermutation-trans, IsPermutation-cons, IsPermutation-middle, list_any-IsPermutation, length_permutation}
use Rattle.std.specs.Prelude.{◌||◌}
use Rattle.std.specs.List.{AllByRecursion, list_any, list_all}
use Rattle.std.specs.List.Sorted.{IsPermutation}
use Rattle.std.specs.Cmp.Lexicographic.{slice_cmp}
use Rattle.std.specs.Ordering.{ordering_then}
use Rattle.std.specs.declared.cmp.Ordering.{Ordering}
use Rattle.std.specs.declared.cmp.Ordering.TheVariants.{Less, Equal, Greater}
use Rattle.sql_value.specs.declared.column.ColumnDef.{ColumnDef}
use Rattle.sql_value.specs.declared.column.TableKind.{TableKind}
use Rattle.sql_value.specs.declared.column.TableKind.TheVariants.{AppendOnly, Updatable}
use Rattle.sql_value.specs.declared.value.Value.TheVariants.{Num}
use Rattle.sql_value.specs.Order.{value_cmp, HasScale}
use Rattle.sql_value.specs.Stored.{is_stored}
use Rattle.sql_scalar.proofs.OrderLaws.{equal}
use Rattle.sql_types.specs.declared.table.IndexDef.{IndexDef}
use Rattle.sql_types.specs.declared.table.TableDef.{TableDef}
use Rattle.spec_model.specs.Keys.{key_cmp, same_key}
use Rattle.spec_model.specs.Lists.{numbered}
use Rattle.spec_model.specs.Rows.{Row, value_or_null}
use Rattle.spec_model.specs.SystemTables.{name_type, tables_columns, columns_columns, history_value, index_row, index_rows}
use Rattle.law_catalog_rows.proofs.Alls.{all_append, all_filter, all_map}
use Rattle.law_catalog_rows.specs.Encoded.{rows_of_indexes, latest_table_row, latest_column_row, latest_item_rows}
use Rattle.law_catalog_rows.specs.Latest.{is_latest, latest, without_change, latest_said}
use Rattle.format_image.specs.Rows.{Stored}
use Rattle.spec_verify.specs.Versions.{same_type, is_of, has_columns}
use Rattle.spec_verify.proofs.SameRows.{front, rest, scale_of, AtScale, at_scale, stored_scale, eq_equal, one_value}

-- ---- rows whose numbers have the scales of their columns

abbrev pub Scaled : List ColumnDef → Row → Type 0
Scaled [] [] = Unit {0}
Scaled (c ∷ cs) (v ∷ vs) = (AtScale c.ty v × HasScale v) × Scaled cs vs
Scaled _ _ = ⊥

pub then_equal : (r s : Ordering) → ordering_then r s ≡ Equal → (r ≡ Equal) × (s ≡ Equal)
then_equal Less s e = cc
then_equal Equal s e = (refl, e)
then_equal Greater s e = cc

one_row : (cs : List ColumnDef) (a b : Row) → Scaled cs a → Scaled cs b → slice_cmp value_cmp a b ≡ Equal → a ≡ b
one_row [] [] [] p q e = refl
one_row [] [] (y ∷ b) p q e = absurd q
one_row [] (x ∷ a) b p q e = absurd p
one_row (c ∷ cs) [] b p q e = absurd p
one_row (c ∷ cs) (x ∷ a) [] p q e = absurd q
one_row (c ∷ cs) (x ∷ a) (y ∷ b) p q e =
    let t = then_equal (value_cmp x y) (slice_cmp value_cmp a b) e in
    ap (λ v. v ∷ a) (one_value c.ty x y p.0.0 q.0.0 ((equal x y p.0.1 q.0.1).0 t.0)) ∙ ap (λ vs. y ∷ vs) (one_row cs a b p.1 q.1 t.1)

one_key : (cs : List ColumnDef) (a b : Row) → Scaled cs a → Scaled cs b → same_key a b ≡ true → a ≡ b
unfolding same_key key_cmp
one_key cs a b p q e = one_row cs a b p q (eq_equal (slice_cmp value_cmp a b) e)

pub stored_scaled : (cs : List ColumnDef) (values : Stored) → has_columns cs values ≡ true → Scaled cs (map value_or_null values)
stored_scaled [] [] e = tt
stored_scaled [] (v ∷ vs) e = cc
stored_scaled (c ∷ cs) [] e = cc
stored_scaled (c ∷ cs) (None ∷ vs) e = ((tt, tt), stored_scaled cs vs e)
stored_scaled (c ∷ cs) (Some t ∷ vs) e =
    let stored : is_stored t.value c.ty ≡ true = rest (same_type t.ty c.ty) (is_stored t.value c.ty) (front (is_of c (Some t)) (has_columns cs vs) e) in
    ((at_scale c.ty t.value stored, stored_scale c.ty t.value stored), stored_scaled cs vs (rest (is_of c (Some t)) (has_columns cs vs) e))

-- ---- those of a definition have them

history_scaled : (kind : TableKind) (name : List ℕ) → AtScale name_type (history_value kind name) × HasScale (history_value kind name)
history_scaled AppendOnly name = (tt, tt)
history_scaled Updatable name = (tt, tt)

pub table_scaled : (def : TableDef) → Scaled tables_columns (latest_table_row def)
unfolding latest_table_row scale_of
table_scaled def = ((refl, omega arith), ((refl, omega arith), ((tt, tt), ((refl, omega arith), (history_scaled def.kind def.history, ((tt, tt), tt))))))

column_scaled : (def : TableDef) (c : ℕ × ColumnDef) → Scaled columns_columns (latest_column_row def c)
unfolding scale_of
column_scaled def c = ((refl, omega arith), ((refl, omega arith), ((refl, omega arith), ((tt, tt), ((refl, omega arith), ((refl, omega arith), ((refl, omega arith), ((refl, omega arith), ((refl, omega arith), tt)))))))))

part_scaled : (id g : ℕ) (name : List ℕ) (part : ℕ × ℕ) → Scaled columns_columns (index_row id g name part)
unfolding scale_of
part_scaled id g name part = ((refl, omega arith), ((refl, omega arith), ((refl, omega arith), ((tt, tt), ((refl, omega arith), ((refl, omega arith), ((refl, omega arith), ((refl, omega arith), ((refl, omega arith), tt)))))))))

each_scaled : {A : Type 0} (row : A → Row) → ((x : A) → Scaled columns_columns (row x)) → (xs : List A) → AllByRecursion (Scaled columns_columns) (map row xs)
each_scaled row one [] = tt
each_scaled row one (x ∷ xs) = (one x, each_scaled row one xs)

indexes_scaled : (id g : ℕ) (is : List IndexDef) → AllByRecursion (Scaled columns_columns) (rows_of_indexes id g is)
unfolding index_rows
indexes_scaled id g [] = tt
indexes_scaled id g (i ∷ is) = all_append (Scaled columns_columns) (index_rows id g i) (rows_of_indexes id (g + 1) is) (each_scaled (index_row id g i.name) (part_scaled id g i.name) (numbered 1 i.ordinals)) (indexes_scaled id (g + 1) is)

pub items_scaled : (def : TableDef) → AllByRecursion (Scaled columns_columns) (latest_item_rows def)
unfolding latest_item_rows
items_scaled def = all_append (Scaled columns_columns) (map (latest_column_row def) (numbered 1 def.columns)) (rows_of_indexes def.id 1 def.indexes) (each_scaled (latest_column_row def) (column_scaled def) (numbered 1 def.columns)) (indexes_scaled def.id 1 def.indexes)

-- ---- and whatever their change is, rows that are stored

table_said : (row : Row) → Scaled tables_columns row → Scaled tables_columns (without_change 0 row)
unfolding scale_of
table_said [] h = absurd h
table_said (a ∷ []) h = absurd h.1
table_said (a ∷ b ∷ more) h = (h.0, ((refl, omega arith), h.1.1))

item_said : (row : Row) → Scaled columns_columns row → Scaled columns_columns (without_change 1 row)
unfolding scale_of
item_said [] h = absurd h
item_said (a ∷ []) h = absurd h.1
item_said (a ∷ b ∷ []) h = absurd h.1.1
item_said (a ∷ b ∷ c ∷ more) h = (h.0, (h.1.0, ((refl, omega arith), h.1.1.1)))

pub tables_said : (rows : List Row) → AllByRecursion (Scaled tables_columns) rows → AllByRecursion (Scaled tables_columns) (latest_said 0 rows)
tables_said rows h = all_map (Scaled tables_columns) (Scaled tables_columns) (without_change 0) table_said (latest 0 rows) (all_filter (Scaled tables_columns) (is_latest 0 rows) rows h)

pub items_said : (rows : List Row) → AllByRecursion (Scaled columns_columns) rows → AllByRecursion (Scaled columns_columns) (latest_said 1 rows)
items_said rows h = all_map (Scaled columns_columns) (Scaled columns_columns) (without_change 1) item_said (latest 1 rows) (all_filter (Scaled columns_columns) (is_latest 1 rows) rows h)

-- ---- their items rise

abbrev item_of : Row → ℕ
item_of (a ∷ Num s (pos n) ∷ vs) = n
item_of _ = 0

abbrev RiseFrom : ℕ → List Row → Type 0
RiseFrom n [] = Unit {0}
RiseFrom n (r ∷ rs) = (n ≤ item_of r) × RiseFrom (suc (item_of r)) rs

from_less : (n m : ℕ) (rs : List Row) → m ≤ n → RiseFrom n rs → RiseFrom m rs
from_less n m [] le h = tt
from_less n m (r ∷ rs) le h = let more : n ≤ item_of r = h.0 in (omega (arith, le, more), h.1)

columns_rise : (def : TableDef) (k : ℕ) (cs : List ColumnDef) (rs : List Row) → RiseFrom (k + length cs) rs → RiseFrom k (map (latest_column_row def) (numbered k cs) ++ rs)
columns_rise def k [] rs h = from_less (k + 0) k rs (omega arith) h
columns_rise def k (c ∷ cs) rs h =
    (omega arith, from_less (k + 1) (suc k) (map (latest_column_row def) (numbered (k + 1) cs) ++ rs) (omega arith) (columns_rise def (k + 1) cs rs (from_less (k + length (c ∷ cs)) ((k + 1) + length cs) rs (omega arith) h)))

parts_rise : (id g : ℕ) (name : List ℕ) (k : ℕ) (os : List ℕ) (rs : List Row) → RiseFrom (1000 * g + (k + length os)) rs → RiseFrom (1000 * g + k) (map (index_row id g name) (numbered k os) ++ rs)
parts_rise id g name k [] rs h = from_less (1000 * g + (k + 0)) (1000 * g + k) rs (omega arith) h
parts_rise id g name k (o ∷ os) rs h = (
  omega arith,
  from_less (1000 * g + (k + 1)) (suc (1000 * g + k)) (map (index_row id g name) (numbered (k + 1) os) ++ rs) (omega arith)
      (parts_rise id g name (k + 1) os rs (from_less (1000 * g + (k + length (o ∷ os))) (1000 * g + ((k + 1) + length os)) rs (omega arith) h)),
)

indexes_rise : (id g : ℕ) (is : List IndexDef) → AllByRecursion (λ (i : IndexDef). length i.ordinals ≤ 4) is → RiseFrom (1000 * g + 1) (rows_of_indexes id g is)
unfolding index_rows
indexes_rise id g [] few = tt
indexes_rise id g (i ∷ is) few =
    let least : length i.ordinals ≤ 4 = few.0 in
    parts_rise id g i.name 1 i.ordinals (rows_of_indexes id (g + 1) is)
    (from_less (1000 * (g + 1) + 1) (1000 * g + (1 + length i.ordinals)) (rows_of_indexes id (g + 1) is) (omega (arith, least)) (indexes_rise id (g + 1) is few.1))

items_rise : (def : TableDef) → length def.columns ≤ 64 → AllByRecursion (λ (i : IndexDef). length i.ordinals ≤ 4) def.indexes → RiseFrom 1 (latest_item_rows def)
unfolding latest_item_rows
items_rise def few parts =
    columns_rise def 1 def.columns (rows_of_indexes def.id 1 def.indexes)
    (from_less (1000 * 1 + 1) (1 + length def.columns) (rows_of_indexes def.id 1 def.indexes) (omega (arith, few)) (indexes_rise def.id 1 def.indexes parts))

-- ---- so they differ

abbrev pub Differ : List Row → Type 0
Differ [] = Unit {0}
Differ (w ∷ ws) = AllByRecursion (λ v. same_key v w ≡ false) ws × Differ ws

apart : (cs : List ColumnDef) (w : Row) (n : ℕ) (vs : List Row) → Scaled cs w → AllByRecursion (Scaled cs) vs → item_of w < n → RiseFrom n vs → AllByRecursion (λ v. same_key v w ≡ false) vs
apart cs w n [] own all lt h = tt
apart cs w n (v ∷ vs) own all lt h =
    let more : n ≤ item_of v = h.0 in
    (here more (same_key v w) refl, apart cs w (suc (item_of v)) vs own all.1 (omega (arith, lt, more)) h.1)
  where
    here : n ≤ item_of v → (b : Bool) → same_key v w ≡ b → same_key v w ≡ false
    here more true e = let same : item_of v ≡ item_of w = ap item_of (one_key cs v w all.0 own e) in absurd (omega (arith, same, lt, more))
    here more false e = e

all_apart : (cs : List ColumnDef) (n : ℕ) (vs : List Row) → AllByRecursion (Scaled cs) vs → RiseFrom n vs → Differ vs
all_apart cs n [] all h = tt
all_apart cs n (v ∷ vs) all h = (apart cs v (suc (item_of v)) vs all.0 all.1 (omega arith) h.1, all_apart cs (suc (item_of v)) vs all.1 h.1)

pub items_differ : (def : TableDef) → length def.columns ≤ 64 → AllByRecursion (λ (i : IndexDef). length i.ordinals ≤ 4) def.indexes → Differ (latest_item_rows def)
items_differ def few parts = all_apart columns_columns 1 (latest_item_rows def) (items_scaled def) (items_rise def few parts)

-- ---- as many rows, and each of those that are wanted

record Taken (cs : List ColumnDef) (w : Row) (rows : List Row) : Type 0 where
  left : List Row
  scaled : AllByRecursion (Scaled cs) left
  is : IsPermutation rows (w ∷ left)

taken : (cs : List ColumnDef) (w : Row) (rows : List Row) → Scaled cs w → AllByRecursion (Scaled cs) rows → list_any (same_key w) rows ≡ true → Taken cs w rows
taken cs w [] own all e = cc
taken cs w (r ∷ rs) own all e = here (same_key w r) refl e (taken cs w rs own all.1)
  where
    turned : Taken cs w rs → Taken cs w (r ∷ rs)
    turned t =
        record {
          left = r ∷ t.left;
          scaled = (all.0, t.scaled);
          is = IsPermutation-trans (r ∷ rs) (r ∷ w ∷ t.left) (w ∷ r ∷ t.left) (IsPermutation-cons r rs (w ∷ t.left) t.is) (IsPermutation-middle (r ∷ []) w t.left);
        }

    here : (b : Bool) → same_key w r ≡ b → (b || list_any (same_key w) rs) ≡ true → (list_any (same_key w) rs ≡ true → Taken cs w rs) → Taken cs w (r ∷ rs)
    here true same f more =
        record {
          left = rs;
          scaled = all.1;
          is = subst (λ x. IsPermutation (r ∷ rs) (x ∷ rs)) (sym (one_key cs w r own all.0 same)) (IsPermutation-refl (r ∷ rs));
        }
    here false same f more = turned (more f)

still : (w : Row) (rows left : List Row) → IsPermutation rows (w ∷ left) → (ws : List Row) → AllByRecursion (λ v. same_key v w ≡ false) ws → list_all (λ v. list_any (same_key v) rows) ws ≡ true → list_all (λ v. list_any (same_key v) left) ws ≡ true
still w rows left is [] d e = refl
still w rows left is (v ∷ vs) d e =
    let there : list_any (same_key v) rows ≡ true = front (list_any (same_key v) rows) (list_all (λ x. list_any (same_key x) rows) vs) e in
    let parts : list_any (same_key v) rows ≡ (same_key v w || list_any (same_key v) left) = list_any-IsPermutation (same_key v) rows (w ∷ left) is in
    let own : list_any (same_key v) rows ≡ list_any (same_key v) left = parts ∙ ap (λ b. b || list_any (same_key v) left) d.0 in
    rw (sym own ∙ there) (still w rows left is vs d.1 (rest (list_any (same_key v) rows) (list_all (λ x. list_any (same_key x) rows) vs) e))

pub those_rows : (cs : List ColumnDef) (wanted rows : List Row) → AllByRecursion (Scaled cs) wanted → AllByRecursion (Scaled cs) rows → Differ wanted
    → length rows ≡ length wanted → list_all (λ w. list_any (same_key w) rows) wanted ≡ true → IsPermutation rows wanted
those_rows cs [] [] own all d long e = IsPermutation-refl []
those_rows cs [] (r ∷ rs) own all d long e = absurd (omega (arith, long))
those_rows cs (w ∷ ws) rows own all d long e =
    let t = taken cs w rows own.0 all (front (list_any (same_key w) rows) (list_all (λ v. list_any (same_key v) rows) ws) e) in
    let count : length (w ∷ t.left) ≡ length rows = length_permutation rows (w ∷ t.left) t.is in
    IsPermutation-trans rows (w ∷ t.left) (w ∷ ws) t.is
    (IsPermutation-cons w t.left ws
    (those_rows cs ws t.left own.1 t.scaled d.1 (omega (arith, count, long)) (still w rows t.left t.is ws d.0 (rest (list_any (same_key w) rows) (list_all (λ v. list_any (same_key v) rows) ws) e))))
