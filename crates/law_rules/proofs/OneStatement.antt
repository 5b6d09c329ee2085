-- Rows that one statement enters in a transaction of its own are those of one statement, and all earlier ones stay so.
use Rattle.std.proofs.Common.{◌≡◌, ◌≤◌, ◌<◌, ◌⊎◌, ℕ, ℤ, zero, suc, pos, ◌+◌, inl, inr, refl, sym, ap, ap₂, subst, ◌∙◌, arith, Bool, true, false, List, [], ◌∷◌, ◌++◌, map, length, append-nil}
use Rattle.std.proofs.lemmas.Bool.{eq-eqb, lt-ltb, ne_eqb}
use Rattle.std.proofs.lemmas.Bool.Decides.{Decides-int_eq}
use Rattle.std.proofs.lemmas.List.Sorted.{list_any-IsPermutation, length_permutation}
use Rattle.std.proofs.lemmas.Nat.{mod-mul-add}
use Rattle.std.specs.Prelude.{◌+ℤ◌, ◌*◌, ◌%◌, ◌==◌, ◌&&◌, ◌||◌, not, nat_lt}
use Rattle.std.specs.List.{AllByRecursion, list_all, list_any}
use Rattle.std.specs.List.Sorted.{IsPermutation}
use Rattle.std.specs.Ordering.{int_eq, int_cmp, is_lt}
use Rattle.sql_value.specs.declared.column.ColumnDef.{ColumnDef}
use Rattle.sql_types.specs.declared.entry.TxEntry.{TxEntry}
use Rattle.sql_types.specs.declared.table.IndexDef.{IndexDef}
use Rattle.sql_types.specs.declared.table.TableDef.{TableDef}
use Rattle.spec_model.specs.Lists.{numbered}
use Rattle.spec_model.specs.Rows.{Row, number}
use Rattle.spec_model.specs.SystemTables.{table_row, column_row, column_rows, index_row, index_rows, changed_table_row, changed_column_row, column_row_with, position_in_row}
use Rattle.law_frame.proofs.Alls.{all_weaker, all_append}
use Rattle.law_frame.proofs.SameKeys.{and_true}
use Rattle.law_catalog_rows.specs.Encoded.{is_about}
use Rattle.law_catalog_rows.proofs.About.{StartsWith}
use Rattle.law_catalog_rows.proofs.AnyOrder.{all_in_order as same_in_order}
use Rattle.law_catalog_rows.proofs.Orders.{filtered, filter_all, filter_none}
use Rattle.spec_rules.specs.Places.{PlacedRow, rooted_at}
use Rattle.spec_rules.specs.Rows.{CatalogRows, has_no_change, is_about_table, item_of, tables_about, items_about}
use Rattle.spec_rules.specs.OneStatement.{number_of, is_column_created, starts_an_index, continues_index, creates_index, alters_table, drops_table, are_of_one_statement, is_system_table, started_at, is_one_statement, one_statement}
use Rattle.law_rules.specs.Steps.{placed_from}
use Rattle.law_rules.proofs.ColumnNames.{is_less}
use Rattle.law_rules.proofs.InOrder.{all_in_order, all_of, both, or_second}
use Rattle.law_rules.proofs.Orders.{of_any_order, placed_about}

-- ---- in any order

same_one : (x y : PlacedRow) → IsPermutation (x ∷ []) (y ∷ []) → x ≡ y
same_one x y h = (of_any_order (λ (z : PlacedRow). x ≡ z) (x ∷ []) (y ∷ []) h (refl, tt)).0

tables_alike : (xs ys us : List PlacedRow) → IsPermutation xs ys → are_of_one_statement xs us ≡ are_of_one_statement ys us
tables_alike [] [] us h = refl
tables_alike [] (y ∷ ys) us h = absurd (let n = length_permutation [] (y ∷ ys) h in omega (arith, n))
tables_alike (x ∷ []) [] us h = absurd (let n = length_permutation (x ∷ []) [] h in omega (arith, n))
tables_alike (x ∷ []) (y ∷ []) us h = ap (λ (z : PlacedRow). are_of_one_statement (z ∷ []) us) (same_one x y h)
tables_alike (x ∷ []) (y ∷ z ∷ ys) us h = absurd (let n = length_permutation (x ∷ []) (y ∷ z ∷ ys) h in omega (arith, n))
tables_alike (x ∷ w ∷ xs) [] us h = absurd (let n = length_permutation (x ∷ w ∷ xs) [] h in omega (arith, n))
tables_alike (x ∷ w ∷ xs) (y ∷ []) us h = absurd (let n = length_permutation (x ∷ w ∷ xs) (y ∷ []) h in omega (arith, n))
tables_alike (x ∷ w ∷ xs) (y ∷ z ∷ ys) us h = refl

alters_alike : (us vs : List PlacedRow) → IsPermutation us vs → alters_table [] us ≡ alters_table [] vs
alters_alike [] [] h = refl
alters_alike [] (y ∷ ys) h = absurd (let n = length_permutation [] (y ∷ ys) h in omega (arith, n))
alters_alike (x ∷ []) [] h = absurd (let n = length_permutation (x ∷ []) [] h in omega (arith, n))
alters_alike (x ∷ []) (y ∷ []) h = ap (λ (z : PlacedRow). alters_table [] (z ∷ [])) (same_one x y h)
alters_alike (x ∷ []) (y ∷ z ∷ ys) h = absurd (let n = length_permutation (x ∷ []) (y ∷ z ∷ ys) h in omega (arith, n))
alters_alike (x ∷ w ∷ xs) [] h = absurd (let n = length_permutation (x ∷ w ∷ xs) [] h in omega (arith, n))
alters_alike (x ∷ w ∷ xs) (y ∷ []) h = absurd (let n = length_permutation (x ∷ w ∷ xs) (y ∷ []) h in omega (arith, n))
alters_alike (x ∷ w ∷ xs) (y ∷ z ∷ ys) h = refl

drops_alike : (r : PlacedRow) (us vs : List PlacedRow) → IsPermutation us vs → drops_table (r ∷ []) us ≡ drops_table (r ∷ []) vs
drops_alike r [] [] h = refl
drops_alike r [] (y ∷ ys) h = absurd (let n = length_permutation [] (y ∷ ys) h in omega (arith, n))
drops_alike r (x ∷ xs) [] h = absurd (let n = length_permutation (x ∷ xs) [] h in omega (arith, n))
drops_alike r (x ∷ xs) (y ∷ ys) h = refl

any_same : {A : Type 0} (p q : A → Bool) (xs : List A) → ((x : A) → p x ≡ q x) → list_any p xs ≡ list_any q xs
any_same p q [] h = refl
any_same p q (x ∷ xs) h = ap₂ (λ (a b : Bool). a || b) (h x) (any_same p q xs h)

abbrev begins_index : List PlacedRow → PlacedRow → Bool
begins_index us f = starts_an_index (item_of f) && list_all (continues_index (item_of f)) us

index_alike : (us vs : List PlacedRow) → IsPermutation us vs → creates_index [] us ≡ creates_index [] vs
index_alike us vs h =
    list_any-IsPermutation (begins_index us) us vs h
    ∙ any_same (begins_index us) (begins_index vs) vs (λ f. ap (λ (b : Bool). starts_an_index (item_of f) && b) (same_in_order (continues_index (item_of f)) us vs h))

items_alike : (xs us vs : List PlacedRow) → IsPermutation us vs → are_of_one_statement xs us ≡ are_of_one_statement xs vs
items_alike [] us vs h = ap₂ (λ (a b : Bool). a || b || false) (index_alike us vs h) (alters_alike us vs h)
items_alike (x ∷ []) us vs h = ap₂ (λ (a b : Bool). has_no_change 0 x && number_of x == 0 && a || false || false || b) (same_in_order is_column_created us vs h) (drops_alike x us vs h)
items_alike (x ∷ w ∷ xs) us vs h = refl

statement_alike : (xs ys us vs : List PlacedRow) → IsPermutation xs ys → IsPermutation us vs → are_of_one_statement xs us ≡ are_of_one_statement ys vs
statement_alike xs ys us vs h k = tables_alike xs ys us h ∙ items_alike ys us vs k

-- ---- one statement's rows

-- rows about one table, entered by a transaction from its number 0 on
pub record Batch (p : ℕ) (x y : CatalogRows) : Type 0 where
  pub id : ℕ
  pub first : List Row
  pub second : List Row
  pub starts : AllByRecursion (StartsWith id) first
  pub more : AllByRecursion (StartsWith id) second
  pub tables : IsPermutation y.tables (placed_from p 0 first ++ x.tables)
  pub items : IsPermutation y.items (placed_from p (length first) second ++ x.items)

pub record NoRows (tables items : List Row) : Type 0 where
  pub first : tables ≡ []
  pub second : items ≡ []

abbrev pub AreOfOne : ℕ → List Row → List Row → Type 0
AreOfOne p first second = are_of_one_statement (placed_from p 0 first) (placed_from p (length first) second) ≡ true

first_true : (a b : Bool) → a ≡ true → (a || b) ≡ true
first_true a b e = rw e refl

same_int : (a b : ℤ) → a ≡ b → int_eq a b ≡ true
same_int a b e = (Decides-int_eq a b).1 e

some_change : (change : ℕ) → 1 ≤ change → not (int_eq (pos change) (pos 0)) ≡ true
some_change zero le = absurd (omega (arith, le))
some_change (suc n) le = here (int_eq (pos (suc n)) (pos 0)) refl
  where
    here : (b : Bool) → int_eq (pos (suc n)) (pos 0) ≡ b → not b ≡ true
    here true e = let same : pos (suc n) ≡ pos 0 = (Decides-int_eq (pos (suc n)) (pos 0)).0 e in cc
    here false e = refl

module _ (p : ℕ) where
  -- CREATE TABLE
  columns_created : (id n : ℕ) (cs : List ColumnDef) → n + length cs ≤ 1000 → list_all is_column_created (placed_from p n (map (column_row id) (numbered n cs))) ≡ true
  columns_created id n [] le = refl
  columns_created id n (c ∷ cs) le =
      let low : is_lt (int_cmp (pos n) (pos 1000)) ≡ true = is_less n (omega (arith, le)) in
      rw (low, same_int (pos n) (pos n) refl, columns_created id (n + 1) cs (omega (arith, le))) refl

  pub table_is_one : (def : TableDef) → length def.columns ≤ 64 → AreOfOne p (table_row def ∷ []) (column_rows def)
  unfolding table_row column_rows
  table_is_one def few = rw (columns_created def.id 1 def.columns (omega (arith, few))) refl

  -- CREATE INDEX
  continued : (id g m n : ℕ) (name : List ℕ) (os : List ℕ) → m ≡ n + 1 → list_all (continues_index (pos (1000 * g + 1))) (placed_from p n (map (index_row id g name) (numbered m os))) ≡ true
  continued id g m n name [] e = refl
  continued id g m n name (o ∷ os) e =
      rw (same_int (pos (1000 * g + m)) (pos (1000 * g + 1) +ℤ pos n) (ap (λ (k : ℕ). pos k) (omega (arith, e))), continued id g (m + 1) (n + 1) name os (omega (arith, e))) refl

  first_item : (g : ℕ) → 1 ≤ g → starts_an_index (pos (1000 * g + 1)) ≡ true
  first_item g le =
      let lt : 1000 < 1000 * g + 1 = omega (arith, le) in
      let turned : 1000 * g + 1 ≡ g * 1000 + 1 = omega arith in
      let rest : (1000 * g + 1) % 1000 ≡ 1 = ap (λ (k : ℕ). k % 1000) turned ∙ mod-mul-add g 1000 1 (omega arith) in
      both (nat_lt 1000 (1000 * g + 1)) ((1000 * g + 1) % 1000 == 1) (lt-ltb 1000 (1000 * g + 1) lt) (eq-eqb ((1000 * g + 1) % 1000) 1 rest)

  index_begins : (id g : ℕ) (name : List ℕ) (o : ℕ) (os : List ℕ) → 1 ≤ g → creates_index [] (placed_from p 0 (map (index_row id g name) (numbered 1 (o ∷ os)))) ≡ true
  index_begins id g name o os le = rw (first_item g le, continued id g 1 0 name (o ∷ os) refl) refl

  pub index_is_one : (id g : ℕ) (i : IndexDef) → 1 ≤ g → NoRows [] (index_rows id g i) ⊎ AreOfOne p [] (index_rows id g i)
  unfolding index_rows
  index_is_one id g i le = here i.ordinals
    where
      here : (os : List ℕ) → let rows : List Row = map (index_row id g i.name) (numbered 1 os) in NoRows [] rows ⊎ AreOfOne p [] rows
      here [] = inl (record { first = refl; second = refl })
      here (o ∷ os) = inr (
          let new : List PlacedRow = placed_from p 0 (map (index_row id g i.name) (numbered 1 (o ∷ os))) in
          first_true (creates_index [] new || alters_table [] new) false (first_true (creates_index [] new) (alters_table [] new) (index_begins id g i.name o os le)))

  -- ALTER TABLE and DROP TABLE
  pub change_is_one : (change : ℕ) (def : TableDef) (c : ℕ × ColumnDef) → 1 ≤ change → AreOfOne p [] (changed_column_row change def c ∷ [])
  unfolding changed_column_row
  change_is_one change def c le =
      let row : Row = column_row_with change (position_in_row def c) def.id c in
      first_true (creates_index [] (placed_from p 0 (row ∷ [])) || not (int_eq (pos change) (pos 0))) false
      (or_second (creates_index [] (placed_from p 0 (row ∷ []))) (not (int_eq (pos change) (pos 0))) (some_change change le))

  pub drop_is_one : (change : ℕ) (def : TableDef) → 1 ≤ change → AreOfOne p (changed_table_row change def ∷ []) []
  unfolding changed_table_row
  drop_is_one change def le = or_second (int_eq (pos change) (pos 0) && true && true || false || false) (not (int_eq (pos change) (pos 0))) (some_change change le)

-- ---- what is told of each row

abbrev pub Told : List TxEntry → CatalogRows → PlacedRow → Type 0
Told entries rows r = (t : ℤ) → is_about_table t r ≡ true → is_one_statement entries rows t r.place.0 ≡ true

pub record EachTold (entries : List TxEntry) (rows : CatalogRows) : Type 0 where
  pub tables : AllByRecursion (Told entries rows) rows.tables
  pub items : AllByRecursion (Told entries rows) rows.items

all_in_both : {A : Type 0} (f : A → Bool) (xs ys : List A) → list_all f xs ≡ true → list_all f ys ≡ true → list_all f (xs ++ ys) ≡ true
all_in_both f [] ys e k = k
all_in_both f (x ∷ xs) ys e k = let q = and_true (f x) (list_all f xs) e in both (f x) (list_all f (xs ++ ys)) q.0 (all_in_both f xs ys q.1 k)

pub told_keeps_the_rule : (entries : List TxEntry) (rows : CatalogRows) → EachTold entries rows → (t : ℤ) → one_statement entries rows t ≡ true
unfolding one_statement
told_keeps_the_rule entries rows h t =
    all_in_both test (tables_about rows t) (items_about rows t)
    (all_of test (is_about_table t) rows.tables (all_weaker (Told entries rows) Such (λ r k. k t) rows.tables h.tables))
    (all_of test (is_about_table t) rows.items (all_weaker (Told entries rows) Such (λ r k. k t) rows.items h.items))
  where
    test : PlacedRow → Bool
    test r = is_one_statement entries rows t r.place.0

    Such : PlacedRow → Type 0
    Such r = is_about_table t r ≡ true → is_one_statement entries rows t r.place.0 ≡ true

-- ---- one transaction more

pub record AllBelow (p : ℕ) (rows : CatalogRows) : Type 0 where
  pub tables : AllByRecursion (λ (r : PlacedRow). r.place.0 < p) rows.tables
  pub items : AllByRecursion (λ (r : PlacedRow). r.place.0 < p) rows.items

placed_at : (p n : ℕ) (rows : List Row) → AllByRecursion (λ (r : PlacedRow). r.place.0 ≡ p) (placed_from p n rows)
placed_at p n [] = tt
placed_at p n (r ∷ rs) = (refl, placed_at p (n + 1) rs)

four : (a b c d e f g h : Bool) → a ≡ e → b ≡ f → c ≡ g → d ≡ h → (a && b && c && d) ≡ (e && f && g && h)
four a b c d e f g h i j k l = rw (i, j, k, l) refl

about_one : (id : ℕ) (t : ℤ) (row : Row) → StartsWith id row → is_about t row ≡ true → pos id ≡ t
about_one id t row s e = (Decides-int_eq (pos id) t).0 (sym (ap (is_about t) s.1) ∙ e)

module _ (p n : ℕ) (new : List Row) (after before : List PlacedRow) (h : IsPermutation after (placed_from p n new ++ before)) (below : AllByRecursion (λ (r : PlacedRow). r.place.0 < p) before) where
  others_there : (q : ℕ) → q < p → IsPermutation (started_at q after) (started_at q before)
  others_there q lt =
      subst (IsPermutation (started_at q after))
      (filter_none (λ (r : PlacedRow). r.place.0 == q) (placed_from p n new) before
      (all_weaker (λ (r : PlacedRow). r.place.0 ≡ p) (λ (r : PlacedRow). (r.place.0 == q) ≡ false) (λ r e. ne_eqb r.place.0 q (λ same. absurd (omega (arith, e, same, lt)))) (placed_from p n new) (placed_at p n new)))
      (filtered (λ (r : PlacedRow). r.place.0 == q) after (placed_from p n new ++ before) h)

  none_before : (rows : List PlacedRow) → AllByRecursion (λ (r : PlacedRow). r.place.0 < p) rows → started_at p rows ≡ []
  none_before [] all = refl
  none_before (r ∷ rs) all = rw (ne_eqb r.place.0 p (λ same. (let lt = all.0 in absurd (omega (arith, same, lt)))), none_before rs all.1) refl

  own_there : IsPermutation (started_at p after) (placed_from p n new)
  own_there =
      subst (IsPermutation (started_at p after))
      (filter_all (λ (r : PlacedRow). r.place.0 == p) (placed_from p n new) before
      (all_weaker (λ (r : PlacedRow). r.place.0 ≡ p) (λ (r : PlacedRow). (r.place.0 == p) ≡ true) (λ r e. eq-eqb r.place.0 p e) (placed_from p n new) (placed_at p n new))
      ∙ ap (λ (rows : List PlacedRow). placed_from p n new ++ rows) (none_before before below) ∙ append-nil (placed_from p n new))
      (filtered (λ (r : PlacedRow). r.place.0 == p) after (placed_from p n new ++ before) h)

all_true : {A : Type 0} (f : A → Bool) (xs : List A) → AllByRecursion (λ x. f x ≡ true) xs → list_all f xs ≡ true
all_true f [] h = refl
all_true f (x ∷ xs) h = both (f x) (list_all f xs) h.0 (all_true f xs h.1)

module _ (old new : List TxEntry) (x y : CatalogRows) (p : ℕ) (same : (q : ℕ) → q < p → rooted_at new q ≡ rooted_at old q) (below : AllBelow p x) (b : Batch p x y)
    (one : NoRows b.first b.second ⊎ (AreOfOne p b.first b.second × (list_all is_system_table (rooted_at new p) ≡ true))) (told : EachTold old x) where
  moved : (t : ℤ) (q : ℕ) → q < p → is_one_statement new y t q ≡ is_one_statement old x t q
  moved t q lt =
      let first : IsPermutation (started_at q y.tables) (started_at q x.tables) = others_there p 0 b.first y.tables x.tables b.tables below.tables q lt in
      let second : IsPermutation (started_at q y.items) (started_at q x.items) = others_there p (length b.first) b.second y.items x.items b.items below.items q lt in
      four _ _ _ _ _ _ _ _
      (ap (list_all is_system_table) (same q lt))
      (same_in_order (is_about_table t) (started_at q y.tables) (started_at q x.tables) first)
      (same_in_order (is_about_table t) (started_at q y.items) (started_at q x.items) second)
      (statement_alike (started_at q y.tables) (started_at q x.tables) (started_at q y.items) (started_at q x.items) first second)

  still : (rows : List PlacedRow) → AllByRecursion (λ (r : PlacedRow). r.place.0 < p) rows → AllByRecursion (Told old x) rows → AllByRecursion (Told new y) rows
  still [] low h = tt
  still (r ∷ rs) low h = ((λ t about. moved t r.place.0 low.0 ∙ h.0 t about), still rs low.1 h.1)

  own : AreOfOne p b.first b.second → list_all is_system_table (rooted_at new p) ≡ true → is_one_statement new y (pos b.id) p ≡ true
  own are roots =
      let about : PlacedRow → Bool = is_about_table (pos b.id) in
      let first : IsPermutation (started_at p y.tables) (placed_from p 0 b.first) = own_there p 0 b.first y.tables x.tables b.tables below.tables in
      let second : IsPermutation (started_at p y.items) (placed_from p (length b.first) b.second) = own_there p (length b.first) b.second y.items x.items b.items below.items in
      four _ _ _ _ true true true true roots
      (same_in_order about (started_at p y.tables) (placed_from p 0 b.first) first ∙ all_true about (placed_from p 0 b.first) (placed_about p 0 b.id b.first b.starts))
      (same_in_order about (started_at p y.items) (placed_from p (length b.first) b.second) second ∙ all_true about (placed_from p (length b.first) b.second) (placed_about p (length b.first) b.id b.second b.more))
      (statement_alike (started_at p y.tables) (placed_from p 0 b.first) (started_at p y.items) (placed_from p (length b.first) b.second) first second ∙ are)

  these : is_one_statement new y (pos b.id) p ≡ true → (n : ℕ) (rows : List Row) → AllByRecursion (StartsWith b.id) rows → AllByRecursion (Told new y) (placed_from p n rows)
  these is n [] h = tt
  these is n (r ∷ rs) h = ((λ t about. subst (λ (u : ℤ). is_one_statement new y u p ≡ true) (about_one b.id t r h.0 about) is), these is (n + 1) rs h.1)

  none : (n : ℕ) (rows : List Row) → rows ≡ [] → AllByRecursion (Told new y) (placed_from p n rows)
  none n rows e = subst (λ (rs : List Row). AllByRecursion (Told new y) (placed_from p n rs)) (sym e) tt

  entered : (n : ℕ) (rows : List Row) → AllByRecursion (StartsWith b.id) rows → (NoRows b.first b.second → rows ≡ []) → AllByRecursion (Told new y) (placed_from p n rows)
  entered n rows starts empty = elim one [ inl e ↦ none n rows (empty e) | inr q ↦ these (own q.0 q.1) n rows starts ]

  pub told_after : EachTold new y
  told_after = record {
    tables = all_in_order (Told new y) y.tables (placed_from p 0 b.first ++ x.tables) b.tables
        (all_append (Told new y) (placed_from p 0 b.first) x.tables (entered 0 b.first b.starts (λ e. e.first)) (still x.tables below.tables told.tables));
    items = all_in_order (Told new y) y.items (placed_from p (length b.first) b.second ++ x.items) b.items
        (all_append (Told new y) (placed_from p (length b.first) b.second) x.items (entered (length b.first) b.second b.more (λ e. e.second)) (still x.items below.items told.items));
  }
