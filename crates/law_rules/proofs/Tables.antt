-- Of each table of a legal journal a row says that it was created, and of a dropped one another says so.
use Rattle.std.proofs.Common.{◌≡◌, ◌≢◌, ◌≤◌, ◌⊎◌, ℕ, ◌+◌, inl, inr, refl, sym, ap, subst, ◌∙◌, Bool, true, false, List, [], ◌∷◌, ◌++◌, length, Ok, arith}
use Rattle.std.proofs.lemmas.Cmp.{tied_itself}
use Rattle.std.proofs.lemmas.Int.{ints}
use Rattle.std.proofs.lemmas.List.Sorted.{IsPermutation-trans, IsPermutation-append_right, length_permutation}
use Rattle.std.specs.Prelude.{pos, ◌+ℤ◌, ◌<ℤ◌, ◌≤ℤ◌, ◌==◌, ◌&&◌, ◌||◌, nat_le, codes}
use Rattle.std.specs.List.{list_all}
use Rattle.std.specs.List.Sorted.{IsPermutation}
use Rattle.std.specs.Ordering.{int_eq, is_eq}
use Rattle.sql_value.specs.Order.{value_total}
use Rattle.sql_value.specs.declared.column.ColumnDef.{ColumnDef}
use Rattle.sql_value.specs.declared.column.TableKind.{TableKind}
use Rattle.sql_value.specs.declared.column.TableKind.TheVariants.{AppendOnly, Updatable}
use Rattle.sql_value.specs.declared.value.Value.{Value}
use Rattle.sql_value.specs.declared.value.Value.TheVariants.{Null, Text}
use Rattle.sql_types.specs.declared.journal.JournalItem.{JournalItem}
use Rattle.sql_types.specs.declared.statement.CreateTable.{CreateTable}
use Rattle.sql_types.specs.declared.table.IndexDef.{IndexDef}
use Rattle.sql_types.specs.declared.table.TableDef.{TableDef}
use Rattle.spec_model.specs.Alter.{with_added, with_dropped, dropped_history_name, dropped_table, dropped_table_name, dropped_view_name}
use Rattle.spec_model.specs.Create.{create_check, next_id, table_def, with_index}
use Rattle.spec_model.specs.Journals.{serial, IsLegal}
use Rattle.spec_model.specs.ProperNames.{is_proper_name, has_its_history}
use Rattle.spec_model.specs.Rows.{Row}
use Rattle.spec_model.specs.Script.{Reading}
use Rattle.spec_model.specs.SystemTables.{kind_code, history_value, table_row, changed_table_row}
use Rattle.law_frame.proofs.Alls.{all_filter}
use Rattle.law_journal.specs.Serial.{place_in}
use Rattle.law_journal.proofs.Created.{created}
use Rattle.law_journal.proofs.DefLists.{redef}
use Rattle.law_catalog_rows.specs.Encoded.{IsAmong}
use Rattle.law_catalog_rows.specs.IsEncodableDef.{is_encodable_def}
use Rattle.law_catalog_rows.specs.Latest.{is_past}
use Rattle.law_catalog_rows.specs.Written.{ReadsWritten}
use Rattle.law_catalog_rows.proofs.About.{StartsWith, table_starts}
use Rattle.law_catalog_rows.proofs.AnyOrder.{all_in_order}
use Rattle.law_catalog_rows.proofs.Defs.{HasId, has_id, of_among, but_last, new_or_other}
use Rattle.law_catalog_rows.proofs.Forms.{new_def}
use Rattle.law_catalog_rows.proofs.OneRowMore.{not_itself, not_past, past_where}
use Rattle.spec_rules.specs.Places.{EventPlace, PlacedRow, stands_before}
use Rattle.spec_rules.specs.Rows.{dropped_text, firsts, seconds, is_about_table, is_null, is_proper_text, same_value, tables_about}
use Rattle.spec_rules.specs.Tables.{is_new_table, drops, tables_are_right}
use Rattle.law_rules.specs.Steps.{Catalog, Entered, Stands, all_defs, catalog_of, nothing}
use Rattle.law_rules.proofs.Frame.{legal_catalog, legal_encodable}
use Rattle.law_rules.proofs.Kept.{Around, StepsKeep}
use Rattle.law_rules.proofs.Orders.{of_any_order, own_rows, other_rows, none_about, turned, firsts_alike, seconds_alike, pairs_alike}

-- ---- what is told of a table

abbrev pub row_of_table : EventPlace → Row → PlacedRow
row_of_table p row = record { place = p; row = row }

-- one row, that it was created
abbrev pub OneRow : Catalog → TableDef → Type 0
OneRow x def = (p : EventPlace) × IsPermutation (tables_about x.rows (pos def.id)) (row_of_table p (table_row def) ∷ [])

-- two rows, that it was created and that it was dropped
pub record TwoRows (x : Catalog) (def : TableDef) : Type 0 where
  pub old : TableDef
  pub is : def ≡ dropped_table old
  pub encodable : is_encodable_def old ≡ true
  pub change : ℕ
  pub above : 1 ≤ change
  pub first : EventPlace
  pub second : EventPlace
  pub earlier : stands_before first second ≡ true
  pub rows : IsPermutation (tables_about x.rows (pos def.id)) (row_of_table first (table_row old) ∷ row_of_table second (changed_table_row change def) ∷ [])

abbrev pub TableTold : Catalog → TableDef → Type 0
TableTold x def = ((def.gone ≡ false) × OneRow x def) ⊎ TwoRows x def

abbrev pub TablesTold : Catalog → Type 0
TablesTold x = (def : TableDef) → IsAmong def x.defs → TableTold x def

-- ---- each statement

was_dropped : (old : TableDef) → (dropped_table old).gone ≡ true
unfolding dropped_table
was_dropped old = refl

pub its_one_row : (x : Catalog) (def : TableDef) → def.gone ≡ false → TableTold x def → OneRow x def
its_one_row x def there (inl p) = p.1
its_one_row x def there (inr two) = absurd (let g : def.gone ≡ true = ap (λ (d : TableDef). d.gone) two.is ∙ was_dropped two.old in let f : true ≡ false = sym g ∙ there in cc)

-- the same rows in another order
told_alike : (x y : Catalog) (def : TableDef) → IsPermutation (tables_about y.rows (pos def.id)) (tables_about x.rows (pos def.id)) → TableTold x def → TableTold y def
told_alike x y def h (inl p) = inl (p.0, (p.1.0, IsPermutation-trans _ _ _ h p.1.1))
told_alike x y def h (inr two) = inr (record { old = two.old; is = two.is; encodable = two.encodable; change = two.change; above = two.above; first = two.first; second = two.second; earlier = two.earlier; rows = IsPermutation-trans _ _ _ h two.rows })

pub other_id : (m n : ℕ) → (m ≡ n → ⊥) → pos m ≢ pos n
other_id m n ne e = ne (let same : m ≡ n = cc in same)

-- a definition that is spelled by the same row took the place of another
redefined_told : (p : EventPlace) (x y : Catalog) (rows : List Row) (old new : TableDef) → Entered p [] rows x y → y.defs ≡ redef new x.defs → Stands x old
    → new.id ≡ old.id → new.gone ≡ old.gone → table_row new ≡ table_row old → TablesTold x → TablesTold y
redefined_told p x y rows old new entered defs st same gone row told def among =
    elim (new_or_other new x.defs def (subst (IsAmong def) defs among)) [
      | inl is ↦ subst (TableTold y) is (let one : OneRow x old = its_one_row x old st.there (told old st.among) in
          inl (
            gone ∙ st.there,
            (
              one.0,
              subst (λ (id : ℕ). IsPermutation (tables_about y.rows (pos id)) (row_of_table one.0 (table_row new) ∷ [])) (sym same)
                  (subst (λ (r : Row). IsPermutation (tables_about y.rows (pos old.id)) (row_of_table one.0 r ∷ [])) (sym row)
                  (IsPermutation-trans _ _ _ (alike old.id) one.1)),
            ),
          ))
      | inr q ↦ told_alike x y def (alike def.id) (told def q.0)
    ]
  where
    alike : (id : ℕ) → IsPermutation (tables_about y.rows (pos id)) (tables_about x.rows (pos id))
    alike id = own_rows p.0 p.1 id [] tt y.rows.tables x.rows.tables entered.tables

not_gone : (id : ℕ) (c : CreateTable) → (table_def id c).gone ≡ false
unfolding table_def
not_gone id c = refl

created_told : (p : EventPlace) (x y : Catalog) → Around p x y → (c : CreateTable) (def : TableDef) → create_check (all_defs x) c ≡ Ok def
    → (items : List Row) → Entered p (table_row def ∷ []) items x y → y.defs ≡ x.defs ++ def ∷ [] → TablesTold x → TablesTold y
created_told p x y around c def passed items entered defs told d among =
    elim (but_last x.defs def d (subst (IsAmong d) defs among)) [
      | inl old ↦ (let i : HasId 3 x.defs d = has_id 3 x.defs around.before.ids d old in
          told_alike x y d (other_rows p.0 p.1 def.id (table_row def ∷ []) (table_starts def, tt) y.rows.tables x.rows.tables entered.tables (pos d.id) (other_id def.id d.id (λ e. omega (arith, e, new, i.below)))) (told d old))
      | inr is ↦ subst (TableTold y) is (inl (
        stands,
        (
          p,
          subst (λ (rows : List PlacedRow). IsPermutation (tables_about y.rows (pos def.id)) (row_of_table p (table_row def) ∷ rows)) none
              (own_rows p.0 p.1 def.id (table_row def ∷ []) (table_starts def, tt) y.rows.tables x.rows.tables entered.tables),
        ),
      ))
    ]
  where
    new : def.id ≡ 3 + length x.defs
    new = let i = (created (all_defs x) c def passed).id in omega (arith, i)

    none : tables_about x.rows (pos def.id) ≡ []
    none =
        none_about (pos def.id) x.rows.tables
        (around.before.encoded.others (pos def.id) (λ e there same. (let i : HasId 3 x.defs e = has_id 3 x.defs around.before.ids e there in other_id e.id def.id (λ k. omega (arith, k, new, i.below)) same))).0

    stands : def.gone ≡ false
    stands = ap (λ (e : TableDef). e.gone) (new_def (all_defs x) c def passed).is ∙ not_gone (next_id (all_defs x)) c

pub changed_starts : (change : ℕ) (def : TableDef) → StartsWith def.id (changed_table_row change def)
unfolding changed_table_row
changed_starts change def = (_, refl)

pub dropped_id : (old : TableDef) → (dropped_table old).id ≡ old.id
unfolding dropped_table
dropped_id old = refl

gone_told : (p : EventPlace) (x y : Catalog) → Around p x y → (old : TableDef) → Stands x old → (change : ℕ) → 1 ≤ change
    → Entered p (changed_table_row change (dropped_table old) ∷ []) [] x y → y.defs ≡ redef (dropped_table old) x.defs → TablesTold x → TablesTold y
gone_told p x y around old st change above entered defs told def among =
    elim (new_or_other new x.defs def (subst (IsAmong def) defs among)) [
      | inl is ↦ subst (TableTold y) is (inr (record {
        old = old;
        is = refl;
        encodable = of_among (λ d. is_encodable_def d ≡ true) x.defs around.before.encodable old st.among;
        change = change;
        above = above;
        first = one.0;
        second = p;
        earlier = earlier;
        rows = IsPermutation-trans _ _ _ own (IsPermutation-trans _ _ _ (IsPermutation-append_right (s ∷ []) _ _ rows) (turned f s));
      }))
      | inr q ↦ told_alike x y def (other_rows p.0 p.1 new.id (changed_table_row change new ∷ []) (changed_starts change new, tt) y.rows.tables x.rows.tables entered.tables (pos def.id) (other_id new.id def.id (λ e. q.1 (sym e)))) (told def q.0)
    ]
  where
    new : TableDef
    new = dropped_table old

    one : OneRow x old
    one = its_one_row x old st.there (told old st.among)

    f : PlacedRow
    f = row_of_table one.0 (table_row old)

    s : PlacedRow
    s = row_of_table p (changed_table_row change new)

    rows : IsPermutation (tables_about x.rows (pos new.id)) (f ∷ [])
    rows = subst (λ (id : ℕ). IsPermutation (tables_about x.rows (pos id)) (f ∷ [])) (sym (dropped_id old)) one.1

    own : IsPermutation (tables_about y.rows (pos new.id)) (s ∷ tables_about x.rows (pos new.id))
    own = own_rows p.0 p.1 new.id (changed_table_row change new ∷ []) (changed_starts change new, tt) y.rows.tables x.rows.tables entered.tables

    earlier : stands_before one.0 p ≡ true
    earlier =
        (of_any_order (λ (r : PlacedRow). stands_before r.place p ≡ true) (tables_about x.rows (pos old.id)) (f ∷ []) one.1
        (all_filter (λ (r : PlacedRow). stands_before r.place p ≡ true) (is_about_table (pos old.id)) x.rows.tables around.earlier.tables)).0

same_row : (i : TableDef × IndexDef) → table_row (with_index i.0 i.1) ≡ table_row i.0
unfolding table_row
same_row i = refl

row_with_added : (old : TableDef) (c : ColumnDef) → table_row (with_added old c) ≡ table_row old
unfolding table_row
row_with_added old c = refl

row_with_dropped : (old : TableDef) (c : ℕ × ColumnDef) → table_row (with_dropped old c) ≡ table_row old
unfolding table_row
row_with_dropped old c = refl

pub tables_told_kept : StepsKeep TablesTold
tables_told_kept = record {
  table_created = λ p x y around c def passed entered defs told. created_told p x y around c def passed _ entered defs told;
  index_created = λ p x y around c i passed st entered defs told. redefined_told p x y _ i.0 (with_index i.0 i.1) entered defs st refl refl (same_row i) told;
  column_added = λ p x y around table c w a st change next entered told.
      redefined_told p x y _ a.found.0 (with_added a.found.0 c) entered.rows entered.defs st refl refl (row_with_added a.found.0 c) told;
  column_dropped = λ p x y around table name w d st change next entered told.
      redefined_told p x y _ d.found.0 (with_dropped d.found.0 d.column) entered.rows entered.defs st refl refl (row_with_dropped d.found.0 d.column) told;
  table_dropped = λ p x y around name def d st change next entered defs told. gone_told p x y around d.found.0 st change next.above entered defs told;
}

pub first_tables_told : TablesTold nothing
first_tables_told def among = absurd among

-- ---- so the rows are right

itself_same : (v : Value) → same_value v v ≡ true
itself_same v = ap is_eq (tied_itself value_total v)

front : (a b : Bool) → (a && b) ≡ true → a ≡ true
front true b e = refl
front false b e = cc

behind : (a b : Bool) → (a && b) ≡ true → b ≡ true
behind true b e = e
behind false b e = cc

pub record Named (def : TableDef) : Type 0 where
  pub name : is_proper_name def.name ≡ true
  pub history : has_its_history def.kind def.history ≡ true
  pub view : is_proper_name def.view ≡ true

pub named : (def : TableDef) → is_encodable_def def ≡ true → Named def
named def e =
    let four = front _ _ (front _ _ (front _ _ (front _ _ (front _ _ (front _ _ (front _ _ (front _ _ (front _ _ (front _ _ e))))))))) in
    let three = front _ _ four in
    record { view = behind _ _ four; history = behind _ _ three; name = behind _ _ (front _ _ three) }

right_by_kind : (kind : TableKind) (name history view : List ℕ) → is_proper_name name ≡ true → has_its_history kind history ≡ true → is_proper_name view ≡ true
    → ((int_eq (pos (kind_code kind)) (pos 1) || int_eq (pos (kind_code kind)) (pos 2)) && is_proper_text (Text name)
    && (is_null (history_value kind history) || is_proper_text (history_value kind history)) && is_proper_text (Text view)) ≡ true
right_by_kind AppendOnly name history view n h v = rw (n, v) refl
right_by_kind Updatable name history view n h v = rw (n, h, v) refl

new_table_right : (p : EventPlace) (def : TableDef) → Named def → is_new_table (row_of_table p (table_row def)) ≡ true
unfolding table_row
new_table_right p def n = right_by_kind def.kind def.name def.history def.view n.name n.history n.view

dropped_by_kind : (kind : TableKind) (id : ℕ) (name history view : List ℕ) → has_its_history kind history ≡ true
    → (int_eq (pos (kind_code kind + 2)) (pos (kind_code kind) +ℤ pos 2)
    && same_value (Text (dropped_table_name name id)) (dropped_text (codes "Table") (Text name) id)
    && same_value (history_value kind (dropped_history_name history id)) (dropped_text (codes "History") (history_value kind history) id)
    && same_value (Text (dropped_view_name view id)) (dropped_text (codes "View") (Text view) id)) ≡ true
dropped_by_kind AppendOnly id name history view h = rw (itself_same (Text (dropped_table_name name id)), itself_same Null, itself_same (Text (dropped_view_name view id))) refl
dropped_by_kind Updatable id name [] view h = cc
dropped_by_kind Updatable id name (b ∷ bs) view h =
    rw (itself_same (Text (dropped_table_name name id)), itself_same (Text (dropped_history_name (b ∷ bs) id)), itself_same (Text (dropped_view_name view id))) refl

drops_right : (change : ℕ) (old : TableDef) → Named old → drops (table_row old) (changed_table_row change (dropped_table old)) ≡ true
unfolding table_row changed_table_row dropped_table
drops_right change old n = dropped_by_kind old.kind old.id old.name old.history old.view n.history

drop_is_past : (change : ℕ) (old : TableDef) → 1 ≤ change → is_past 0 (changed_table_row change (dropped_table old)) (table_row old) ≡ true
unfolding table_row changed_table_row dropped_table
drop_is_past change old above = let lt : pos 0 <ℤ pos change = omega (arith, ints, above) in past_where 0 (changed_table_row change (dropped_table old)) (table_row old) refl lt

isnt_past_drop : (change : ℕ) (old : TableDef) → is_past 0 (table_row old) (changed_table_row change (dropped_table old)) ≡ false
unfolding table_row changed_table_row dropped_table
isnt_past_drop change old = let le : pos 0 ≤ℤ pos change = omega (arith, ints) in not_past 0 (table_row old) (changed_table_row change (dropped_table old)) le

pub firsts_one : (k : ℕ) (f : PlacedRow) → firsts k (f ∷ []) ≡ f ∷ []
firsts_one k f = rw (not_itself k f.row) refl

pub seconds_one : (k : ℕ) (f : PlacedRow) → seconds k (f ∷ []) ≡ []
seconds_one k f = rw (not_itself k f.row) refl

module _ (k : ℕ) (f s : PlacedRow) (past : is_past k s.row f.row ≡ true) (not_back : is_past k f.row s.row ≡ false) where
  pub firsts_two : firsts k (f ∷ s ∷ []) ≡ f ∷ []
  firsts_two = rw (not_itself k f.row, not_back, past) refl

  pub seconds_two : seconds k (f ∷ s ∷ []) ≡ s ∷ []
  seconds_two = rw (not_itself k f.row, not_back, past) refl

tables_alike : (xs ys : List PlacedRow) → IsPermutation xs ys → tables_are_right xs ≡ tables_are_right ys
unfolding tables_are_right
tables_alike xs ys h =
    let a : IsPermutation (firsts 0 xs) (firsts 0 ys) = firsts_alike 0 xs ys h in
    let b : IsPermutation (seconds 0 xs) (seconds 0 ys) = seconds_alike 0 xs ys h in
    let count : length (firsts 0 xs) ≡ length (firsts 0 ys) = sym (length_permutation (firsts 0 xs) (firsts 0 ys) a) in
    let few : length (seconds 0 xs) ≡ length (seconds 0 ys) = sym (length_permutation (seconds 0 xs) (seconds 0 ys) b) in
    let new : list_all is_new_table (firsts 0 xs) ≡ list_all is_new_table (firsts 0 ys) = all_in_order is_new_table (firsts 0 xs) (firsts 0 ys) a in
    let dropped : list_all (λ s. list_all (λ f. drops f.row s.row) (firsts 0 xs)) (seconds 0 xs) ≡ list_all (λ s. list_all (λ f. drops f.row s.row) (firsts 0 ys)) (seconds 0 ys) =
    pairs_alike (λ (s f : PlacedRow). drops f.row s.row) (seconds 0 xs) (seconds 0 ys) (firsts 0 xs) (firsts 0 ys) b a in
    ap (λ (n : ℕ). n == 1 && nat_le (length (seconds 0 xs)) 1 && list_all is_new_table (firsts 0 xs) && list_all (λ s. list_all (λ f. drops f.row s.row) (firsts 0 xs)) (seconds 0 xs)) count
    ∙ ap (λ (n : ℕ). length (firsts 0 ys) == 1 && nat_le n 1 && list_all is_new_table (firsts 0 xs) && list_all (λ s. list_all (λ f. drops f.row s.row) (firsts 0 xs)) (seconds 0 xs)) few
    ∙ ap (λ (c : Bool). length (firsts 0 ys) == 1 && nat_le (length (seconds 0 ys)) 1 && c && list_all (λ s. list_all (λ f. drops f.row s.row) (firsts 0 xs)) (seconds 0 xs)) new
    ∙ ap (λ (c : Bool). length (firsts 0 ys) == 1 && nat_le (length (seconds 0 ys)) 1 && list_all is_new_table (firsts 0 ys) && c) dropped

one_right : (f : PlacedRow) → is_new_table f ≡ true → tables_are_right (f ∷ []) ≡ true
unfolding tables_are_right
one_right f new = rw (firsts_one 0 f, seconds_one 0 f, new) refl

two_right : (f s : PlacedRow) → is_past 0 s.row f.row ≡ true → is_past 0 f.row s.row ≡ false → is_new_table f ≡ true → drops f.row s.row ≡ true → tables_are_right (f ∷ s ∷ []) ≡ true
unfolding tables_are_right
two_right f s past back new dropped = rw (firsts_two 0 f s past back, seconds_two 0 f s past back, new, dropped) refl

pub told_right : (x : Catalog) (def : TableDef) → is_encodable_def def ≡ true → TableTold x def → tables_are_right (tables_about x.rows (pos def.id)) ≡ true
told_right x def encodable (inl p) =
    tables_alike (tables_about x.rows (pos def.id)) (row_of_table p.1.0 (table_row def) ∷ []) p.1.1
    ∙ one_right (row_of_table p.1.0 (table_row def)) (new_table_right p.1.0 def (named def encodable))
told_right x def encodable (inr two) =
    let old : TableDef = two.old in
    let f : PlacedRow = row_of_table two.first (table_row old) in
    let s : PlacedRow = row_of_table two.second (changed_table_row two.change (dropped_table old)) in
    let n : Named old = named old two.encodable in
    tables_alike (tables_about x.rows (pos def.id)) (f ∷ s ∷ [])
    (subst (λ (d : TableDef). IsPermutation (tables_about x.rows (pos def.id)) (f ∷ row_of_table two.second (changed_table_row two.change d) ∷ [])) two.is two.rows)
    ∙ two_right f s (drop_is_past two.change old two.above) (isnt_past_drop two.change old) (new_table_right two.first old n) (drops_right two.change old n)

pub legal_right : (reads : Reading) → ReadsWritten reads → (items : List JournalItem) → IsLegal reads items
    → (def : TableDef) → IsAmong def (catalog_of (place_in items) (serial reads items)).defs → tables_are_right (tables_about (catalog_of (place_in items) (serial reads items)).rows (pos def.id)) ≡ true
legal_right reads written items legal def among =
    told_right (catalog_of (place_in items) (serial reads items)) def (legal_encodable reads written items legal def among)
    (legal_catalog TablesTold tables_told_kept first_tables_told reads written items legal def among)
