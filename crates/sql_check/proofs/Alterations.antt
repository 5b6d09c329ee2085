-- ALTER TABLE and DROP TABLE are checked by the new names of what is dropped.
use Rattle.std.proofs.Common.{◌≡◌, ◌∙◌, ℕ, suc, refl, sym, ap, arith, Bool, true, false, cond, List, [], ◌∷◌, length, insert, Option, Some, None, Ok, Err, option_map, option_and_then, position, slice_get, subst, add-one, ◌+◌}
use Rattle.std.proofs.lemmas.Grind.{common_steps}
use Rattle.std.specs.Prelude.{◌==◌, ◌||◌, not, nat_le, if◌then◌else◌}
use Rattle.std.specs.List.{list_any}
use Rattle.std.specs.Ordering.{nat_cmp, is_gt}
use Rattle.sql_value.specs.declared.column.ColumnDef.{ColumnDef}
use Rattle.sql_value.specs.declared.refusal.Refusal.{Refusal}
use Rattle.sql_value.specs.declared.refusal.Refusal.TheVariants.{NoSuchTable, NameConflict, NoSuchColumn, ReadOnlyTable, KeyNotUpdatable, LimitExceeded}
use Rattle.sql_types.specs.declared.statement.Alter.{Alter}
use Rattle.sql_types.specs.declared.statement.Alter.TheVariants.{Add, DropColumn}
use Rattle.sql_types.specs.declared.table.TableDef.{TableDef}
use Rattle.sql_types.specs.declared.table.Part.{Part}
use Rattle.spec_model.specs.Alter.{WithColumn, added_to, alter_check, column_to_add, drop_column_check_in, drop_column_check, drop_check_in, dropped_column_name, dropped_from, dropped_history_name, dropped_table, dropped_table_name, dropped_view_name, live_at, live_named, new_name_of, with_added}
use Rattle.spec_model.specs.Catalog.{Defs, find_part}
use Rattle.spec_model.specs.Checks.{refused_if, is_standing}
use Rattle.spec_model.specs.Columns.{names_of}
use Rattle.spec_model.specs.Create.{all_names, is_long, table_names}
use Rattle.spec_model.specs.LiveColumns.{is_dropped}
use Rattle.spec_model.specs.Lists.{has_name, inserted, repeats}
use Rattle.spec_model.specs.Refusals.{Checked, and_then, or_refused}
use Rattle.sql_check.specs.Altering.{altered_in, altered_name, drop_check, dropped_live, gone, names_check, renamed, with_one_dropped}
use Rattle.sql_check.proofs.NewTables.{repeat, used, long}
use Rattle.sql_parts.proofs.Positions.{first, is_first}

-- ALTER TABLE goes by what its table's name stands for
pub altered_is : (defs : Defs) (a : Alter) → alter_check defs a ≡ and_then (or_refused NoSuchTable (find_part defs (altered_name a))) (altered_in a)
unfolding alter_check
altered_is defs (Add table column) = refl
altered_is defs (DropColumn table column) = refl

-- ---- ADD

pub as_added : (def now : TableDef) (c added : ColumnDef) (ordinal : ℕ) → now ≡ with_added def c → ordinal ≡ suc (length def.columns) → added ≡ column_to_add c
    → (now, (ordinal, added)) ≡ added_to def c
as_added def now c added ordinal is next same = λ i. (is i, (next i, same i))

-- ---- DROP COLUMN

abbrev in_standing : TableDef → Bool → Option (ℕ × ColumnDef) → Checked WithColumn
in_standing def stands column =
    refused_if (list_any (has_name (names_of def.columns)) (if stands then new_name_of column else [])) NameConflict
    (refused_if (list_any is_long (if stands then new_name_of column else [])) LimitExceeded
    (refused_if (not stands) ReadOnlyTable
    (and_then (or_refused NoSuchColumn column) (drop_column_check def))))

three : {A : Type 0} (a b k : Bool) (d : A)
    → refused_if (a || false) NameConflict (refused_if (b || false) LimitExceeded (refused_if k KeyNotUpdatable (Ok d)))
    ≡ and_then (refused_if a NameConflict (refused_if b LimitExceeded (refused_if k KeyNotUpdatable (Ok (tt {0}))))) (λ u. Ok d)
three true b k d = refl
three false true k d = refl
three false false true d = refl
three false false false d = refl

-- by a place's ordinal
module _ (def : TableDef) (place : ℕ) where
  abbrev dropped_at : Bool → Option (ℕ × ColumnDef)
  dropped_at b = if b then None else option_and_then (λ c. Some (place, c)) (slice_get def.columns place)

  by_next : (b : Bool) → is_dropped def (place + 1) ≡ b → live_at def place ≡ dropped_at b
  by_next b h = ap dropped_at (subst (λ (n : ℕ). is_dropped def n ≡ b) (add-one place) h)

  pub dropped_there : is_dropped def (place + 1) ≡ true → live_at def place ≡ None
  dropped_there h = by_next true h

  pub live_there : is_dropped def (place + 1) ≡ false → live_at def place ≡ option_and_then (λ c. Some (place, c)) (slice_get def.columns place)
  live_there h = by_next false h

module _ (def : TableDef) (part : Part) (name : List ℕ) where
  pub not_standing : is_standing def part ≡ false → drop_column_check_in name (def, part) ≡ Err ReadOnlyTable
  not_standing s = λ i. in_standing def (s i) (live_named def name)

  pub no_column : is_standing def part ≡ true → live_named def name ≡ None → drop_column_check_in name (def, part) ≡ Err NoSuchColumn
  no_column s none = λ i. in_standing def (s i) (none i)

  pub live_dropped : (place : ℕ) (c : ColumnDef) → is_standing def part ≡ true → live_named def name ≡ Some (place, c)
      → drop_column_check_in name (def, part) ≡ dropped_live def (place, c)
  live_dropped place c s some =
      (λ i. in_standing def (s i) (some i))
      ∙ three (has_name (names_of def.columns) (dropped_column_name c.name (suc place))) (is_long (dropped_column_name c.name (suc place)))
      (not (c.key_position == 0)) (dropped_from def (place, c))

module _ (def : TableDef) (place ordinal : ℕ) (c : ColumnDef) (new : List ℕ) (next : ordinal ≡ suc place) (named : new ≡ dropped_column_name c.name ordinal) where
  by_ordinal : dropped_live def (place, c)
      ≡ and_then (drop_check def c (dropped_column_name c.name ordinal))
      (λ u. Ok (with_one_dropped def place ordinal (renamed c (dropped_column_name c.name ordinal)), (ordinal, renamed c (dropped_column_name c.name ordinal))))
  by_ordinal =
      λ i. and_then (drop_check def c (dropped_column_name c.name (sym next i)))
      (λ u. Ok (with_one_dropped def place (sym next i) (renamed c (dropped_column_name c.name (sym next i))), (sym next i, renamed c (dropped_column_name c.name (sym next i)))))

  by_new_name : dropped_live def (place, c)
      ≡ and_then (drop_check def c new) (λ u. Ok (with_one_dropped def place ordinal (renamed c new), (ordinal, renamed c new)))
  by_new_name =
      by_ordinal
      ∙ (λ i. and_then (drop_check def c (sym named i)) (λ u. Ok (with_one_dropped def place ordinal (renamed c (sym named i)), (ordinal, renamed c (sym named i)))))

  drop_refused : (e : Refusal) → drop_check def c new ≡ Err e → dropped_live def (place, c) ≡ Err e
  drop_refused e is = by_new_name ∙ ap (λ r. and_then r (λ u. Ok (with_one_dropped def place ordinal (renamed c new), (ordinal, renamed c new)))) is

  drop_passed : (u : Unit {0}) → drop_check def c new ≡ Ok u
      → dropped_live def (place, c) ≡ Ok (with_one_dropped def place ordinal (renamed c new), (ordinal, renamed c new))
  drop_passed u is = by_new_name ∙ ap (λ r. and_then r (λ x. Ok (with_one_dropped def place ordinal (renamed c new), (ordinal, renamed c new)))) is

module _ (def : TableDef) (place : ℕ) (c : ColumnDef) (new : List ℕ) (named : new ≡ dropped_column_name c.name (place + 1)) where
  pub column_refused : (e : Refusal) → drop_check def c new ≡ Err e → dropped_live def (place, c) ≡ Err e
  column_refused e is = drop_refused def place (place + 1) c new (add-one place) named e is

  pub column_dropped : (u : Unit {0}) (now : TableDef) (there given : ColumnDef) (copy : List ℕ) → drop_check def c new ≡ Ok u
      → copy ≡ new → there ≡ renamed c copy → now ≡ with_one_dropped def place (place + 1) there → given ≡ renamed c new
      → dropped_live def (place, c) ≡ Ok (now, (place + 1, given))
  column_dropped u now there given copy is same there_is now_is given_is =
      let renamed_there : there ≡ renamed c new = there_is ∙ ap (λ (n : List ℕ). renamed c n) same in
      let all : now ≡ with_one_dropped def place (place + 1) (renamed c new) = now_is ∙ ap (λ (d : ColumnDef). with_one_dropped def place (place + 1) d) renamed_there in
      drop_passed def place (place + 1) c new (add-one place) named u is ∙ (λ i. Ok (sym all i, (place + 1, sym given_is i)))

-- ---- one ordinal more among those that were dropped

greater : (x y : ℕ) → is_gt (nat_cmp x y) ≡ not (nat_le x y)
greater x y = grind (arith, common_steps)

abbrev or_end : Option ℕ → ℕ → ℕ
or_end (Some place) n = place
or_end None n = n

put_one : (x y : ℕ) (ys zs : List ℕ) (b g : Bool) (r : Option ℕ) → g ≡ not b → insert ys (or_end r (length ys)) x ≡ zs
    → insert (y ∷ ys) (or_end (cond b (Some 0) (option_map suc r)) (suc (length ys))) x ≡ cond g (y ∷ zs) (x ∷ y ∷ ys)
put_one x y ys zs true g r is more = rw is refl
put_one x y ys zs false g (Some place) is more = rw is (ap (λ l. y ∷ l) more)
put_one x y ys zs false g None is more = rw is (ap (λ l. y ∷ l) more)

put : (x : ℕ) (ys : List ℕ) → insert ys (or_end (first (λ m. nat_le x m) ys) (length ys)) x ≡ inserted nat_cmp x ys
put x [] = refl
put x (y ∷ ys) =
    put_one x y ys (inserted nat_cmp x ys) (nat_le x y) (is_gt (nat_cmp x y)) (first (λ m. nat_le x m) ys) (greater x y) (put x ys)

pub put_before : (x place : ℕ) (ys : List ℕ) → position (λ m. nat_le x m) ys ≡ Some place → insert ys place x ≡ inserted nat_cmp x ys
put_before x place ys at = ap (λ r. insert ys (or_end r (length ys)) x) (sym at ∙ is_first (λ m. nat_le x m) ys) ∙ put x ys

pub put_last : (x : ℕ) (ys : List ℕ) → position (λ m. nat_le x m) ys ≡ None → insert ys (length ys) x ≡ inserted nat_cmp x ys
put_last x ys at = ap (λ r. insert ys (or_end r (length ys)) x) (sym at ∙ is_first (λ m. nat_le x m) ys) ∙ put x ys

-- ---- DROP TABLE

abbrev table_in_standing : Defs → TableDef → Bool → Checked TableDef
table_in_standing defs def stands =
    refused_if
    (repeats (if stands then table_names (dropped_table def) else [])
    || list_any (has_name (all_names defs)) (if stands then table_names (dropped_table def) else [])) NameConflict
    (refused_if (list_any is_long (if stands then table_names (dropped_table def) else [])) LimitExceeded
    (refused_if (not stands) ReadOnlyTable
    (Ok (dropped_table def))))

two : {A : Type 0} (a b : Bool) (d : A)
    → refused_if a NameConflict (refused_if b LimitExceeded (Ok d)) ≡ and_then (refused_if a NameConflict (refused_if b LimitExceeded (Ok (tt {0})))) (λ u. Ok d)
two true b d = refl
two false true d = refl
two false false d = refl

pub table_not_standing : (defs : Defs) (def : TableDef) (part : Part) → is_standing def part ≡ false → drop_check_in defs (def, part) ≡ Err ReadOnlyTable
table_not_standing defs def part s = λ i. table_in_standing defs def (s i)

module _ (defs : Defs) (def : TableDef) (part : Part) (name history view : List ℕ) (stands : is_standing def part ≡ true)
    (is_name : name ≡ dropped_table_name def.name def.id) (is_history : history ≡ dropped_history_name def.history def.id) (is_view : view ≡ dropped_view_name def.view def.id) where
  pub by_names : drop_check_in defs (def, part) ≡ and_then (names_check defs name history view) (λ u. Ok (gone def name history view))
  unfolding dropped_table
  by_names =
      let n : List ℕ = dropped_table_name def.name def.id in
      let h : List ℕ = dropped_history_name def.history def.id in
      let v : List ℕ = dropped_view_name def.view def.id in
      (λ i. table_in_standing defs def (stands i))
      ∙ (λ i. refused_if (repeat n h v i || used defs n h v i) NameConflict (refused_if (long n h v i) LimitExceeded (Ok (gone def n h v))))
      ∙ two _ _ (gone def n h v)
      ∙ (λ i. and_then (names_check defs (sym is_name i) (sym is_history i) (sym is_view i)) (λ u. Ok (gone def (sym is_name i) (sym is_history i) (sym is_view i))))
