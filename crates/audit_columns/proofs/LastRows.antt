-- The last row about a column before a start, found among sorted rows, is that of the definition.
use Rattle.std.proofs.Common.{◌≡◌, ◌≤◌, ◌<◌, ◌+◌, ◌-◌, ℕ, ℤ, pos, zero, suc, arith, zero-le, suc-le-suc, refl, sym, ap, ap₂, subst, ◌∙◌, Bool, true, false, cond, true≢false, List, [], ◌∷◌, ◌++◌, filter, drop, take, length, get_or, is_lt, nat_lt, IsSorted, Option, Some, None}
use Rattle.std.proofs.lemmas.Bool.Decides.{Decides-int_eq}
use Rattle.std.proofs.lemmas.Map.Lookups.{exact_signed}
use Rattle.std.proofs.lemmas.List.Sorted.{ranks_by, sorted_far}
use Rattle.std.proofs.lemmas.List.{take-append-drop, append-nil}
use Rattle.std.proofs.lemmas.List.Elements.{filter-append}
use Rattle.std.specs.Cmp.{IsTotalOrder, int_cmp_total, on_total, then_total, tied_itself}
use Rattle.std.specs.List.{AllByRecursion, cons_option}
use Rattle.std.specs.List.Sorted.{IsPartitionedBy, IsPartitionPoint}
use Rattle.std.specs.Ordering.{int_cmp, int_eq, nat_cmp, ordering_reverse, ordering_then}
use Rattle.std.specs.Prelude.{◌&&◌, ◌||◌, ◌==◌, option_map}
use Rattle.std.specs.declared.cmp.Ordering.{Ordering}
use Rattle.std.specs.declared.cmp.Ordering.TheVariants.{Less, Equal, Greater}
use Rattle.sql_value.specs.declared.value.Value.{Value}
use Rattle.sql_value.specs.declared.value.Value.TheVariants.{Null, Num, Text, Bytes, Date}
use Rattle.sql_types.specs.declared.entry.TxEntry.{TxEntry}
use Rattle.sql_types.specs.declared.version.Version.{Version}
use Rattle.spec_model.specs.Keys.{value_at}
use Rattle.spec_model.specs.Lists.{sorted}
use Rattle.spec_model.specs.Rows.{EventId, event_cmp, values_of}
use Rattle.spec_model.specs.SystemTables.{columns_columns}
use Rattle.sql_parts.proofs.Orders.{event_total}
use Rattle.sql_parts.proofs.Sorting.{is_sorted}
use Rattle.spec_verify.specs.Order.{is_before, later_started, last_started}
use Rattle.spec_verify.specs.Versions.{column_as_of, has_columns, is_about_column, is_number, says_not_null}
use Rattle.audit_columns.specs.declared.column_rows.ColumnRow.{ColumnRow}
use Rattle.audit_columns.specs.ColumnRows.{sorted_rows, column_row, last_before, last_of, not_null_by, number_in, or_last, read_row, read_rows, row_cmp, same_column}
use Rattle.audit_columns.specs.Positions.{rank_of}
use Rattle.audit_columns.specs.Runs as runs
use Rattle.audit_columns.proofs.Runs as law
use Rattle.audit_columns.proofs.Searches.{all_left, all_of, all_taken, none_of}
use Rattle.audit_columns.proofs.Sortings.{filter_sorted}

-- ---- orders

pub rows_total : IsTotalOrder row_cmp
rows_total =
    then_total (on_total (λ (r : ColumnRow). r.table) int_cmp_total)
    (then_total (on_total (λ (r : ColumnRow). r.item) int_cmp_total) (on_total (λ (r : ColumnRow). r.start) event_total))

pub rows_rise : (entries : List TxEntry) (second : List Version) → IsSorted row_cmp (sorted_rows entries second)
rows_rise entries second = is_sorted row_cmp rows_total (read_rows entries columns_columns second)

same_number : (a b : ℤ) → int_eq a b ≡ true → a ≡ b
same_number a b e = (Decides-int_eq a b).0 e

equal_here : (a b : ℤ) → int_cmp a b ≡ Equal → int_eq a b ≡ true
equal_here a b e = (Decides-int_eq a b).1 (exact_signed a b e)

and_parts : (a b : Bool) → (a && b) ≡ true → (a ≡ true) × (b ≡ true)
and_parts true b e = (refl, e)
and_parts false b e = cc

and_both : {a b : Bool} → a ≡ true → b ≡ true → (a && b) ≡ true
and_both p q = rw (p, q) refl

-- ---- lists that rise

-- none is less than one before it
Rises : List ColumnRow → Type 0
Rises [] = Unit {0}
Rises (r ∷ rs) = AllByRecursion (λ s. is_lt (row_cmp s r) ≡ false) rs × Rises rs

all_places : (P : ColumnRow → Type 0) (rs : List ColumnRow) → ((k : ℕ) (d : ColumnRow) → k < length rs → P (get_or rs k d)) → AllByRecursion P rs
all_places P [] h = tt
all_places P (r ∷ rs) h = (h zero r (suc-le-suc zero-le), all_places P rs (λ k d lt. h (suc k) d (suc-le-suc lt)))

rises_far : (rs : List ColumnRow) → ((i j : ℕ) (d : ColumnRow) → i ≤ j → j < length rs → is_lt (row_cmp (get_or rs j d) (get_or rs i d)) ≡ false) → Rises rs
unfolding Rises
rises_far [] far = tt
rises_far (r ∷ rs) far = (all_places (λ s. is_lt (row_cmp s r) ≡ false) rs (λ k d lt. far zero (suc k) d zero-le (suc-le-suc lt)), rises_far rs (λ i j d le lt. far (suc i) (suc j) d (suc-le-suc le) (suc-le-suc lt)))

rises : (rs : List ColumnRow) → IsSorted row_cmp rs → Rises rs
rises rs up = rises_far rs (sorted_far (λ a b. is_lt (row_cmp a b)) (ranks_by rows_total (λ x. x)) rs up)

-- ---- the latest of some rows

-- all keys are one: the runs are of all rows
any_key : ColumnRow → ColumnRow → Ordering
any_key a b = Equal

any_total : IsTotalOrder any_key
unfolding any_key
any_total = record { antisymm = λ a b. refl; trans = λ a b c e f. cc; congr = λ a b c e. refl }

abbrev later : ColumnRow → Option ColumnRow → Option ColumnRow
later = runs.later_of any_key row_cmp

abbrev latest : List ColumnRow → Option ColumnRow
latest = runs.latest any_key row_cmp

abbrev before : ColumnRow → ColumnRow → Bool
before target r = is_lt (row_cmp r target)

module _ (r : ColumnRow) where
  -- it is not less than r, if it is there
  NotLess : Option ColumnRow → Type 0
  NotLess None = Unit {0}
  NotLess (Some l) = is_lt (row_cmp l r) ≡ false

  next_last : (s : ColumnRow) (o : Option ColumnRow) → is_lt (row_cmp s r) ≡ false → NotLess o → NotLess (or_last s o)
  unfolding NotLess
  next_last s None e h = e
  next_last s (Some l) e h = h

  last_in : (ss : List ColumnRow) → AllByRecursion (λ s. is_lt (row_cmp s r) ≡ false) ss → NotLess (last_of ss)
  unfolding NotLess
  last_in [] all = tt
  last_in (s ∷ ss) all = next_last s (last_of ss) all.0 (last_in ss all.1)

  later_than : (o : Option ColumnRow) → NotLess o → later r o ≡ or_last r o
  unfolding NotLess
  later_than None h = refl
  later_than (Some l) h = ap (λ b. cond b (Some r) (Some l)) h

  last_later : (rs : List ColumnRow) → AllByRecursion (λ s. is_lt (row_cmp s r) ≡ false) rs → later r (last_of rs) ≡ or_last r (last_of rs)
  last_later rs all = later_than (last_of rs) (last_in rs all)

last_is_latest : (rs : List ColumnRow) → Rises rs → last_of rs ≡ latest rs
unfolding Rises
last_is_latest [] up = refl
last_is_latest (r ∷ rs) up = sym (last_later r rs up.0) ∙ ap (later r) (last_is_latest rs up.1)

found_last : (target : ColumnRow) (rows : List ColumnRow) → last_before (sorted row_cmp rows) target ≡ latest (filter (before target) rows)
unfolding any_key
found_last target rows =
    let less : ColumnRow → Bool = before target in
    let of_sorted = filter_sorted row_cmp rows_total less rows in
    last_is_latest (filter less (sorted row_cmp rows)) (subst Rises (sym of_sorted) (rises (sorted row_cmp (filter less rows)) (is_sorted row_cmp rows_total (filter less rows))))
    ∙ law.latest_sorted any_key row_cmp any_total rows_total target rows

-- ---- of the rows about one column

module _ (target : ColumnRow) where
  abbrev own : ColumnRow → Bool
  own r = same_column r target

  -- about the column, and before the start
  abbrev own_before : ColumnRow → Bool
  own_before r = own r && is_lt (event_cmp r.start target.start)

  as_own : (r : ColumnRow) → own r ≡ true → (r.table ≡ target.table) × (r.item ≡ target.item)
  as_own r e = let p = and_parts (int_eq r.table target.table) (int_eq r.item target.item) e in (same_number r.table target.table p.0, same_number r.item target.item p.1)

  own_cmp : (r : ColumnRow) → own r ≡ true → row_cmp r target ≡ event_cmp r.start target.start
  own_cmp r e =
      let p = as_own r e in
      ap₂ (λ a b. ordering_then a (ordering_then b (event_cmp r.start target.start)))
      (ap (λ t. int_cmp t target.table) p.0 ∙ tied_itself int_cmp_total target.table) (ap (λ t. int_cmp t target.item) p.1 ∙ tied_itself int_cmp_total target.item)

  own_is : (r : ColumnRow) → own_before r ≡ (own r && before target r)
  own_is r = here (own r) refl
    where
      here : (b : Bool) → own r ≡ b → (b && is_lt (event_cmp r.start target.start)) ≡ (b && before target r)
      here true e = sym (ap is_lt (own_cmp r e))
      here false e = refl

  -- what stands between a row about the column and the target is about the column
  between : (a b : ColumnRow) → own a ≡ true → is_lt (row_cmp b a) ≡ false → before target b ≡ true → own b ≡ true
  between a b is not_less less =
      let p = as_own a is in
      by (int_cmp b.table target.table) (int_cmp b.item target.item) refl refl
      (ap₂ (λ t i. is_lt (ordering_then (int_cmp b.table t) (ordering_then (int_cmp b.item i) (event_cmp b.start a.start)))) (sym p.0) (sym p.1) ∙ not_less) less
    where
      by : (t i : Ordering) → int_cmp b.table target.table ≡ t → int_cmp b.item target.item ≡ i
          → is_lt (ordering_then (int_cmp b.table target.table) (ordering_then (int_cmp b.item target.item) (event_cmp b.start a.start))) ≡ false
          → is_lt (ordering_then (int_cmp b.table target.table) (ordering_then (int_cmp b.item target.item) (event_cmp b.start target.start))) ≡ true
          → own b ≡ true
      by Less i e f n l = absurd (true≢false (ap (λ o. is_lt (ordering_then o (ordering_then (int_cmp b.item target.item) (event_cmp b.start a.start)))) (sym e) ∙ n))
      by Greater i e f n l = absurd (true≢false (sym l ∙ ap (λ o. is_lt (ordering_then o (ordering_then (int_cmp b.item target.item) (event_cmp b.start target.start)))) e))
      by Equal Less e f n l = absurd (true≢false (ap₂ (λ o q. is_lt (ordering_then o (ordering_then q (event_cmp b.start a.start)))) (sym e) (sym f) ∙ n))
      by Equal Greater e f n l = absurd (true≢false (sym l ∙ ap₂ (λ o q. is_lt (ordering_then o (ordering_then q (event_cmp b.start target.start)))) e f))
      by Equal Equal e f n l = and_both (equal_here b.table target.table e) (equal_here b.item target.item f)

  -- the latest before the target, and the latest of those about its column
  Agree : Option ColumnRow → Option ColumnRow → Type 0
  Agree None q = q ≡ None
  Agree (Some l) q = (before target l ≡ true) × (q ≡ cond (own l) (Some l) None)

  step : (y : ColumnRow) (o q : Option ColumnRow) (less own_y : Bool) → before target y ≡ less → own y ≡ own_y → Agree o q → Agree (cond less (later y o) o) (cond (own_y && less) (later y q) q)
  unfolding Agree
  step y o q false true e f h = h
  step y o q false false e f h = h
  step y None q true true e f h = (e, ap (later y) h ∙ ap (λ b. cond b (Some y) None) (sym f))
  step y None q true false e f h = (e, h ∙ ap (λ b. cond b (Some y) None) (sym f))
  step y (Some l) q true own_y e f h = here (is_lt (row_cmp l y)) (own l) refl refl own_y f
    where
      not_both : is_lt (row_cmp l y) ≡ true → is_lt (row_cmp y l) ≡ false
      not_both is = sym (flip (row_cmp l y) is ∙ ap is_lt (sym (rows_total.antisymm y l)))
        where
          flip : (r : Ordering) → is_lt r ≡ true → false ≡ is_lt (ordering_reverse r)
          flip Less is = refl
          flip Equal is = cc
          flip Greater is = cc

      here : (less_l own_l : Bool) → is_lt (row_cmp l y) ≡ less_l → own l ≡ own_l → (own_y : Bool) → own y ≡ own_y
          → Agree (cond less_l (Some y) (Some l)) (cond (own_y && true) (later y q) q)
      here true true is mine true f = (e, ap (later y) (h.1 ∙ ap (λ b. cond b (Some l) None) mine) ∙ ap (λ b. cond b (Some y) (Some l)) is ∙ ap (λ b. cond b (Some y) None) (sym f))
      here true true is mine false f = absurd (true≢false (sym (between l y mine (not_both is) e) ∙ f))
      here true false is mine true f = (e, ap (later y) (h.1 ∙ ap (λ b. cond b (Some l) None) mine) ∙ ap (λ b. cond b (Some y) None) (sym f))
      here true false is mine false f = (e, h.1 ∙ ap (λ b. cond b (Some l) None) mine ∙ ap (λ b. cond b (Some y) None) (sym f))
      here false true is mine true f = (h.0, ap (later y) (h.1 ∙ ap (λ b. cond b (Some l) None) mine) ∙ ap (λ b. cond b (Some y) (Some l)) is ∙ ap (λ b. cond b (Some l) None) (sym mine))
      here false true is mine false f = h
      here false false is mine true f = absurd (true≢false (sym (between y l f is h.0) ∙ mine))
      here false false is mine false f = h

  agree : (rows : List ColumnRow) → Agree (latest (filter (before target) rows)) (latest (filter own_before rows))
  unfolding Agree
  agree [] = refl
  agree (y ∷ ys) =
      subst (λ (q : Option ColumnRow). Agree (latest (filter (before target) (y ∷ ys))) q) (sym (ap (λ b. latest (cond b (y ∷ filter own_before ys) (filter own_before ys))) (own_is y) ∙ pulled (own y && before target y) (filter own_before ys)))
      (subst (λ (o : Option ColumnRow). Agree o (cond (own y && before target y) (later y (latest (filter own_before ys))) (latest (filter own_before ys)))) (sym (pulled (before target y) (filter (before target) ys)))
      (step y (latest (filter (before target) ys)) (latest (filter own_before ys)) (before target y) (own y) refl refl (agree ys)))
    where
      pulled : (b : Bool) (rs : List ColumnRow) → latest (cond b (y ∷ rs) rs) ≡ cond b (later y (latest rs)) (latest rs)
      pulled true rs = refl
      pulled false rs = refl

  by_own : (o q : Option ColumnRow) → Agree o q → not_null_by target o ≡ option_map (λ (r : ColumnRow). r.not_null) q
  unfolding Agree
  by_own None q h = sym (ap (option_map (λ (r : ColumnRow). r.not_null)) h)
  by_own (Some l) q h = here (own l) ∙ sym (ap (option_map (λ (r : ColumnRow). r.not_null)) h.1)
    where
      here : (b : Bool) → cond b (Some l.not_null) None ≡ option_map (λ (r : ColumnRow). r.not_null) (cond b (Some l) None)
      here true = refl
      here false = refl

  found_own : (rows : List ColumnRow) → not_null_by target (last_before (sorted row_cmp rows) target) ≡ option_map (λ (r : ColumnRow). r.not_null) (latest (filter own_before rows))
  found_own rows = ap (not_null_by target) (found_last target rows) ∙ by_own (latest (filter (before target) rows)) (latest (filter own_before rows)) (agree rows)

-- ---- the rows of the definition

-- by places and numbers
before_is : (p q m n : ℕ) → (nat_lt p q || (p == q && nat_lt m n)) ≡ is_lt (ordering_then (nat_cmp p q) (nat_cmp m n))
before_is p q m n = by (nat_lt p q) (p == q) (nat_lt m n) (m == n)
  where
    by : (a e b f : Bool) → (a || (e && b)) ≡ is_lt (ordering_then (cond a Less (cond e Equal Greater)) (cond b Less (cond f Equal Greater)))
    by true e b f = refl
    by false true true f = refl
    by false true false true = refl
    by false true false false = refl
    by false false b f = refl

and_false : (b : Bool) → (b && false) ≡ false
and_false true = refl
and_false false = refl

module _ (entries : List TxEntry) (t n : ℕ) (at : EventId) (nn : Bool) where
  abbrev target : ColumnRow
  target = record { table = pos t; item = pos n; start = rank_of entries at; not_null = nn }

  -- a row about the column
  abbrev as_row : Version → ColumnRow
  as_row r = record { table = pos t; item = pos n; start = rank_of entries r.start; not_null = says_not_null r }

  abbrev ReadsAs : Option ColumnRow → Bool → Version → Type 0
  ReadsAs None about r = about ≡ false
  ReadsAs (Some c) about r = (own target c ≡ about) × (own target c ≡ true → c ≡ as_row r)

  reads_as : (b : Bool) (x y : Value) (r : Version)
      → ReadsAs (cond b (column_row (number_in x) (number_in y) (rank_of entries r.start) (says_not_null r)) None) (b && (is_number (pos t) x && is_number (pos n) y)) r
  reads_as false x y r = refl
  reads_as true Null y r = refl
  reads_as true (Text x) y r = refl
  reads_as true (Bytes x) y r = refl
  reads_as true (Date x) y r = refl
  reads_as true (Num s v) Null r = and_false (int_eq v (pos t))
  reads_as true (Num s v) (Text y) r = and_false (int_eq v (pos t))
  reads_as true (Num s v) (Bytes y) r = and_false (int_eq v (pos t))
  reads_as true (Num s v) (Date y) r = and_false (int_eq v (pos t))
  reads_as true (Num s v) (Num z w) r = (
    refl,
    (λ e.
        let p = and_parts (int_eq v (pos t)) (int_eq w (pos n)) e in
        ap₂ (λ a b. record { table = a; item = b; start = rank_of entries r.start; not_null = says_not_null r }) (same_number v (pos t) p.0) (same_number w (pos n) p.1)),
  )

  started_is : (a b : EventId) → is_before entries a b ≡ is_lt (event_cmp (rank_of entries a) (rank_of entries b))
  started_is a b = before_is (rank_of entries a).0 (rank_of entries b).0 a.1 b.1

  rows_cmp : (w r : Version) → row_cmp (as_row w) (as_row r) ≡ event_cmp (rank_of entries w.start) (rank_of entries r.start)
  rows_cmp w r =
      ap₂ (λ a b. ordering_then a (ordering_then b (event_cmp (rank_of entries w.start) (rank_of entries r.start)))) (tied_itself int_cmp_total (pos t)) (tied_itself int_cmp_total (pos n))

  later_is : (r : Version) (o : Option Version) → later (as_row r) (option_map as_row o) ≡ option_map as_row (later_started entries r o)
  later_is r None = refl
  later_is r (Some w) = ap (λ b. cond b (Some (as_row r)) (Some (as_row w))) (ap is_lt (rows_cmp w r) ∙ sym (started_is w.start r.start)) ∙ chosen (is_before entries w.start r.start)
    where
      chosen : (b : Bool) → cond b (Some (as_row r)) (Some (as_row w)) ≡ option_map as_row (cond b (Some r) (Some w))
      chosen true = refl
      chosen false = refl

  next : (r : Version) (k : Option ColumnRow) (about : Bool) (rs : List ColumnRow) (o : Option Version) → ReadsAs k about r → latest (filter (own_before target) rs) ≡ option_map as_row o
      → latest (filter (own_before target) (cons_option k rs)) ≡ option_map as_row (cond (about && is_before entries r.start at) (later_started entries r o) o)
  next r None about rs o h e = e ∙ ap (λ b. option_map as_row (cond (b && is_before entries r.start at) (later_started entries r o) o)) (sym h)
  next r (Some c) false rs o h e = ap (λ b. latest (cond (b && is_lt (event_cmp c.start (rank_of entries at))) (c ∷ filter (own_before target) rs) (filter (own_before target) rs))) h.0 ∙ e
  next r (Some c) true rs o h e =
      ap (λ b. latest (cond (b && is_lt (event_cmp c.start (rank_of entries at))) (c ∷ filter (own_before target) rs) (filter (own_before target) rs))) h.0
      ∙ ap (λ (x : ColumnRow). latest (cond (is_lt (event_cmp x.start (rank_of entries at))) (x ∷ filter (own_before target) rs) (filter (own_before target) rs))) (h.1 h.0)
      ∙ ap (λ b. latest (cond b (as_row r ∷ filter (own_before target) rs) (filter (own_before target) rs))) (sym (started_is r.start at))
      ∙ here (is_before entries r.start at)
    where
      here : (b : Bool) → latest (cond b (as_row r ∷ filter (own_before target) rs) (filter (own_before target) rs)) ≡ option_map as_row (cond b (later_started entries r o) o)
      here true = ap (later (as_row r)) e ∙ later_is r o
      here false = e

  reads : (r : Version) → ReadsAs (read_row entries columns_columns r) (is_about_column t n r) r
  reads r = reads_as (has_columns columns_columns r.values) (value_at (values_of r) 0) (value_at (values_of r) 1) r

  all_rows : (second : List Version)
      → latest (filter (own_before target) (read_rows entries columns_columns second)) ≡ option_map as_row (column_as_of entries second t n at)
  all_rows [] = refl
  all_rows (r ∷ rs) =
      next r (read_row entries columns_columns r) (is_about_column t n r) (read_rows entries columns_columns rs) (column_as_of entries rs t n at) (reads r) (all_rows rs)
      ∙ ap (option_map as_row) (pulled (is_about_column t n r && is_before entries r.start at))
    where
      pulled : (b : Bool) → cond b (later_started entries r (column_as_of entries rs t n at)) (column_as_of entries rs t n at)
          ≡ last_started entries (cond b (r ∷ filter (λ (v : Version). is_about_column t n v && is_before entries v.start at) rs) (filter (λ (v : Version). is_about_column t n v && is_before entries v.start at) rs))
      pulled true = refl
      pulled false = refl

  pub as_of : (second : List Version) → not_null_by target (last_before (sorted_rows entries second) target) ≡ option_map says_not_null (column_as_of entries second t n at)
  as_of second =
      found_own target (read_rows entries columns_columns second)
      ∙ ap (option_map (λ (r : ColumnRow). r.not_null)) (all_rows second) ∙ twice (column_as_of entries second t n at)
    where
      twice : (o : Option Version) → option_map (λ (r : ColumnRow). r.not_null) (option_map as_row o) ≡ option_map says_not_null o
      twice None = refl
      twice (Some r) = refl

-- ---- halving

pub parted : (target : ColumnRow) (rows : List ColumnRow) → IsSorted row_cmp rows → IsPartitionedBy (λ (r : ColumnRow). is_lt (row_cmp r target)) rows
parted target rows up i j d le within e =
    let no_less = sorted_far (λ a b. is_lt (row_cmp a b)) (ranks_by rows_total (λ x. x)) rows up i j d le within in
    below (get_or rows i d) (get_or rows j d) no_less e
  where
    below : (a b : ColumnRow) → is_lt (row_cmp b a) ≡ false → is_lt (row_cmp b target) ≡ true → is_lt (row_cmp a target) ≡ true
    below a b no_less e = here (is_lt (row_cmp a target)) refl
      where
        here : (t : Bool) → is_lt (row_cmp a target) ≡ t → is_lt (row_cmp a target) ≡ true
        here true is = is
        here false is = absurd (true≢false (sym e ∙ (ranks_by rows_total (λ x. x)).chain b a target no_less is))

last_taken : (rows : List ColumnRow) (k : ℕ) (d : ColumnRow) → k < length rows → last_of (take (suc k) rows) ≡ Some (get_or rows k d)
last_taken [] k d lt = absurd (omega (arith, lt))
last_taken (r ∷ rs) zero d lt = refl
last_taken (r ∷ rs) (suc k) d lt = ap (or_last r) (last_taken rs k d (omega (arith, lt)))

-- the row before the point where those before the target end
module _ (target : ColumnRow) (rows : List ColumnRow) (k : ℕ) (within : k ≤ length rows)
    (point : IsPartitionPoint (λ (r : ColumnRow). is_lt (row_cmp r target) ≡ true) (λ (r : ColumnRow). is_lt (row_cmp r target) ≡ false) rows k) where
  front_is : filter (before target) rows ≡ take k rows
  front_is =
      ap (filter (before target)) (sym (take-append-drop k rows))
      ∙ filter-append (before target) (take k rows) (drop k rows)
      ∙ ap₂ (λ (xs ys : List ColumnRow). xs ++ ys) (all_of (before target) (take k rows) (all_taken (λ r. before target r ≡ true) rows k within point.0)) (none_of (before target) (drop k rows) (all_left (λ r. before target r ≡ false) rows k point.1))
      ∙ append-nil (take k rows)

  pub none_before : k ≡ 0 → None ≡ last_before rows target
  none_before e = sym (ap last_of (front_is ∙ ap (λ (n : ℕ). take n rows) e))

  pub last_at : (d : ColumnRow) → 0 < k → Some (get_or rows (k - 1) d) ≡ last_before rows target
  last_at d some =
      let back : suc (k - 1) ≡ k = omega (arith, some) in
      sym (ap last_of (front_is ∙ ap (λ (n : ℕ). take n rows) (sym back)) ∙ last_taken rows (k - 1) d (omega (arith, some, within)))
