-- What the rows so far tell of a definition that came later is the definition that they say.
use Rattle.std.proofs.Common.{◌≡◌, ◌≤◌, ◌+◌, ◌*◌, ℕ, ℤ, pos, inl, refl, sym, ap, ◌∙◌, Bool, true, false, List, [], ◌∷◌, ◌++◌, length, Option, Some, None, arith}
use Rattle.std.proofs.lemmas.Bool.{eq-eqb}
use Rattle.std.proofs.lemmas.List.Sorted.{length_permutation, list_any-IsPermutation}
use Rattle.std.specs.Prelude.{◌==◌, ◌&&◌, ◌||◌, not, if◌then◌else◌}
use Rattle.std.specs.List.{AllByRecursion, filter, list_all, list_any}
use Rattle.std.specs.List.Sorted.{IsPermutation}
use Rattle.std.specs.Ordering.{int_cmp, is_gt}
use Rattle.sql_value.specs.declared.column.ColumnDef.{ColumnDef}
use Rattle.sql_value.specs.declared.column.TableKind.{TableKind}
use Rattle.sql_value.specs.declared.column.TableKind.TheVariants.{AppendOnly, Updatable}
use Rattle.sql_types.specs.declared.table.IndexDef.{IndexDef}
use Rattle.sql_types.specs.declared.table.TableDef.{TableDef}
use Rattle.spec_model.specs.Keys.{same_key, value_at}
use Rattle.spec_model.specs.Lists.{rise_within, sorted}
use Rattle.spec_model.specs.Rows.{Row}
use Rattle.spec_model.specs.SystemTables.{history_value, kind_code}
use Rattle.law_frame.proofs.SameKeys.{and_true, same_itself}
use Rattle.law_catalog_rows.specs.Changes.{counts_up, is_first, is_of_index, later_changes, changes_are_right, items_follow}
use Rattle.law_catalog_rows.specs.Differs.{are_rows, is_encoded}
use Rattle.law_catalog_rows.specs.Encoded.{about, latest_item_rows, latest_table_row, EncodeDef}
use Rattle.law_catalog_rows.specs.Formed.{HistoryOf, Formed}
use Rattle.law_catalog_rows.specs.IsEncodableDef.{has_new_names, is_encodable_def}
use Rattle.law_catalog_rows.specs.Latest.{latest, latest_said, number_at}
use Rattle.law_catalog_rows.specs.Written.{IsWritten, Written}
use Rattle.law_catalog_rows.proofs.AnyOrder.{three_true}
use Rattle.law_catalog_rows.proofs.OneRowMore.{said_at}
use Rattle.spec_asof.specs.DefTold.{columns_told, def_told, dropped_told, indexes_told, items_told, kind_numbered, last_row, table_told, text_at, text_in}
use Rattle.law_asof.proofs.Grown.{Grows}
use Rattle.law_asof.proofs.LastRow.{LastSays, last_says}
use Rattle.law_asof.proofs.ToldColumns.{columns_are, dropped_are, kept_value}
use Rattle.law_asof.proofs.ToldIndexes.{IsItemRow, indexes_are}

-- ---- the row of the table

is_gone : (b : Bool) (kind : TableKind) → is_gt (int_cmp (pos (if b then kind_code kind + 2 else kind_code kind)) (pos 2)) ≡ b
is_gone true AppendOnly = refl
is_gone true Updatable = refl
is_gone false AppendOnly = refl
is_gone false Updatable = refl

pub kind_in : (b : Bool) (kind : TableKind) → kind_numbered (pos (if b then kind_code kind + 2 else kind_code kind)) ≡ kind
kind_in true AppendOnly = refl
kind_in true Updatable = refl
kind_in false AppendOnly = refl
kind_in false Updatable = refl

history_in : (kind : TableKind) (name : List ℕ) → HistoryOf kind name → text_in (history_value kind name) ≡ name
history_in AppendOnly name h = sym h
history_in Updatable name h = refl

-- a definition, field by field
abbrev def_of : ℕ → List ℕ → TableKind → Bool → List ℕ → List ℕ → List ColumnDef → List ℕ → List IndexDef → TableDef
def_of id name kind gone history view columns dropped indexes =
    record {
      id = id;
      name = name;
      kind = kind;
      gone = gone;
      history = history;
      view = view;
      columns = columns;
      dropped = dropped;
      indexes = indexes;
    }

pub same_fields : (a b : TableDef) → a.id ≡ b.id → a.name ≡ b.name → a.kind ≡ b.kind → a.gone ≡ b.gone → a.history ≡ b.history → a.view ≡ b.view → a.columns ≡ b.columns → a.dropped ≡ b.dropped → a.indexes ≡ b.indexes → a ≡ b
same_fields a b id name kind gone history view columns dropped indexes =
    λ i. def_of (id i) (name i) (kind i) (gone i) (history i) (view i) (columns i) (dropped i) (indexes i)

module _ (def later : TableDef) (first second : List Row) (e : EncodeDef first second def) (formed : Formed def) (written : Written def) (grows : Grows def later)
    (few : length later.columns ≤ 64) (rise : rise_within 0 (length later.columns) later.dropped ≡ true)
    (rows : AllByRecursion (IsItemRow (1000 * (length def.indexes + 1))) (about (pos def.id) second)) where
  abbrev tables : List Row
  tables = about (pos def.id) first

  abbrev items : List Row
  items = about (pos def.id) second

  row_says : LastSays 0 tables (latest_table_row def ∷ []) e.table (pos def.id) (latest_table_row def)
  unfolding latest_table_row
  row_says = last_says 0 tables (latest_table_row def ∷ []) e.table (pos def.id) (latest_table_row def) (inl refl) refl ((λ is. refl), tt)

  said_value : (place : ℕ) → (place ≡ 1 → ⊥) → value_at row_says.row place ≡ value_at (latest_table_row def) place
  said_value place other = sym (kept_value 0 row_says.row place other) ∙ ap (λ (w : Row). value_at w place) row_says.says

  name_is : text_at 2 row_says.row ≡ def.name
  unfolding latest_table_row
  name_is = ap text_in (said_value 2 (λ k. omega (arith, k)))

  number_is : number_at 3 row_says.row ≡ number_at 3 (latest_table_row def)
  number_is = sym (said_at 0 row_says.row 3 (λ k. omega (arith, k))) ∙ ap (number_at 3) row_says.says

  kind_is : kind_numbered (number_at 3 row_says.row) ≡ def.kind
  unfolding latest_table_row
  kind_is = ap kind_numbered number_is ∙ kind_in def.gone def.kind

  gone_is : is_gt (int_cmp (number_at 3 row_says.row) (pos 2)) ≡ def.gone
  unfolding latest_table_row
  gone_is = ap (λ (n : ℤ). is_gt (int_cmp n (pos 2))) number_is ∙ is_gone def.gone def.kind

  history_is : text_at 4 row_says.row ≡ def.history
  unfolding latest_table_row
  history_is = ap text_in (said_value 4 (λ k. omega (arith, k))) ∙ history_in def.kind def.history formed.history

  view_is : text_at 5 row_says.row ≡ def.view
  unfolding latest_table_row
  view_is = ap text_in (said_value 5 (λ k. omega (arith, k)))

  -- ---- all of it

  own_rise : rise_within 0 (length def.columns) def.dropped ≡ true
  own_rise = (and_true (rise_within 0 (length def.columns) def.dropped) _ formed.dropped).0

  parts_first : list_all (λ row. not (is_of_index row) || is_first 1 row) items ≡ true
  parts_first =
      (three_true (length (filter (is_first 0) tables) == 1) (list_all (λ row. not (is_of_index row) || is_first 1 row) items) (counts_up 1 (sorted int_cmp (later_changes 0 tables ++ later_changes 1 items))) e.changes).second

  columns_told_are : columns_told items later.columns ≡ def.columns
  columns_told_are = columns_are def items e.items (omega (arith, formed.count)) later.columns grows.columns few

  dropped_told_are : dropped_told items later.dropped ≡ def.dropped
  dropped_told_are = dropped_are def items e.items (omega (arith, formed.count)) own_rise (length later.columns) later.dropped rise few grows.dropped

  some_parts : (is : List IndexDef) → AllByRecursion (λ i. IsWritten i.name × (1 ≤ length i.ordinals)) is → AllByRecursion (λ i. 1 ≤ length i.ordinals) is
  some_parts [] h = tt
  some_parts (i ∷ is) h = (h.0.1, some_parts is h.1)

  indexes_told_are : indexes_told items later.id later.indexes ≡ def.indexes
  indexes_told_are =
      ap (λ (id : ℕ). indexes_told items id later.indexes) grows.id
      ∙ indexes_are def items e.items parts_first rows later.indexes grows.more grows.indexes (some_parts def.indexes written.indexes)

  pub told_is : def_told first second later ≡ def
  unfolding def_told
  told_is =
      ap (λ (id : ℕ). table_told (last_row 0 (pos id) (about (pos id) first)) (items_told (about (pos id) second) later)) grows.id
      ∙ ap (λ (o : Option Row). table_told o (items_told items later)) row_says.is
      ∙ same_fields (table_told (Some row_says.row) (items_told items later)) def grows.id name_is kind_is gone_is history_is view_is columns_told_are dropped_told_are indexes_told_are

told_of : (o : Option Row) (def : TableDef) → (table_told o def).id ≡ def.id
told_of None def = refl
told_of (Some row) def = refl

-- it is the definition of the same table
pub told_id : (first second : List Row) (def : TableDef) → (def_told first second def).id ≡ def.id
unfolding def_told
told_id first second def = told_of (last_row 0 (pos def.id) (about (pos def.id) first)) (items_told (about (pos def.id) second) def)

-- ---- it is spelled

or_second : (a b : Bool) → b ≡ true → (a || b) ≡ true
or_second true b e = refl
or_second false b e = e

all_or : (p q : Row → Bool) (rows : List Row) → list_all q rows ≡ true → list_all (λ r. p r || q r) rows ≡ true
all_or p q [] e = refl
all_or p q (r ∷ rows) e = let h = and_true (q r) (list_all q rows) e in rw (or_second (p r) (q r) h.0) (all_or p q rows h.1)

own_rows : (rows : List Row) → list_all (λ w. list_any (same_key w) rows) rows ≡ true
own_rows [] = refl
own_rows (r ∷ rows) = rw (same_itself r) (all_or (λ w. same_key w r) (λ w. list_any (same_key w) rows) rows (own_rows rows))

all_alike : (p q : Row → Bool) (rows : List Row) → ((r : Row) → p r ≡ q r) → list_all p rows ≡ list_all q rows
all_alike p q [] h = refl
all_alike p q (r ∷ rows) h = rw (h r, all_alike p q rows h) refl

are_those : (rows wanted : List Row) → IsPermutation rows wanted → are_rows rows wanted ≡ true
are_those rows wanted h =
    rw (eq-eqb (length rows) (length wanted) (sym (length_permutation rows wanted h)))
    (all_alike (λ w. list_any (same_key w) rows) (λ w. list_any (same_key w) wanted) wanted (λ w. list_any-IsPermutation (same_key w) rows wanted h) ∙ own_rows wanted)

pub it_is_encoded : (first second : List Row) (def : TableDef) → EncodeDef first second def → is_encodable_def def ≡ true → has_new_names (latest 0 first) def ≡ true → is_encoded first second [] def ≡ true
it_is_encoded first second def e may new =
    all_six (are_those (latest_said 0 (about (pos def.id) first)) (latest_table_row def ∷ []) e.table) (are_those (latest_said 1 (about (pos def.id) second)) (latest_item_rows def) e.items) e.changes e.follow may new
  where
    all_six : {a b c d f g : Bool} → a ≡ true → b ≡ true → c ≡ true → d ≡ true → f ≡ true → g ≡ true → ((a && b && c && d) && f && g) ≡ true
    all_six p q r s t u = rw (p, q, r, s, t, u) refl

-- a table about which there are no rows is spelled by none
pub none_encoded : (first second : List Row) (def : TableDef) → about (pos def.id) first ≡ [] → is_encoded first second [] def ≡ false
none_encoded first second def none = no_row (about (pos def.id) first) none
  where
    no_row : (rows : List Row) → rows ≡ []
        → ((are_rows (latest_said 0 rows) (latest_table_row def ∷ []) && are_rows (latest_said 1 (about (pos def.id) second)) (latest_item_rows def)
        && changes_are_right rows (about (pos def.id) second) && items_follow (about (pos def.id) second)) && is_encodable_def def && has_new_names (latest 0 first) def) ≡ false
    no_row [] e = refl
    no_row (r ∷ rows) e = cc
