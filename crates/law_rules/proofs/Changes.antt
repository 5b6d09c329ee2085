-- In a legal journal the changes of a table and of its columns rise with their places, and a drop of the table has the
-- greatest.
use Rattle.std.proofs.Common.{◌≡◌, ◌⊎◌, ℕ, ℤ, pos, ◌+◌, inl, inr, refl, sym, ap, subst, ◌∙◌, arith, Bool, true, false, List, [], ◌∷◌, map}
use Rattle.std.proofs.lemmas.Int.{ints}
use Rattle.std.specs.Cmp.{int_ranks}
use Rattle.std.specs.declared.cmp.Ordering.{Ordering}
use Rattle.std.specs.declared.cmp.Ordering.TheVariants.{Less, Equal, Greater}
use Rattle.std.specs.Ordering.{MatchOrdering, int_cmp, is_gt, is_lt}
use Rattle.std.specs.Prelude.{◌||◌, ◌<ℤ◌, ◌≤ℤ◌, not}
use Rattle.std.specs.List.{AllByRecursion, list_all, list_any}
use Rattle.std.specs.List.Sorted.{IsPermutation}
use Rattle.sql_value.specs.declared.column.ColumnDef.{ColumnDef}
use Rattle.sql_types.specs.declared.table.TableDef.{TableDef}
use Rattle.spec_model.specs.Alter.{WithColumn, dropped_table}
use Rattle.spec_model.specs.Lists.{numbered}
use Rattle.spec_model.specs.SystemTables.{table_row, column_row, column_rows, changed_table_row, changed_column_row}
use Rattle.law_frame.proofs.Alls.{all_weaker, all_both, all_append, all_map}
use Rattle.law_catalog_rows.specs.Encoded.{IsAmong}
use Rattle.law_catalog_rows.specs.Latest.{change_of, is_past}
use Rattle.law_catalog_rows.proofs.AnyOrder.{all_three}
use Rattle.law_catalog_rows.proofs.CountingUp.{isnt_greater}
use Rattle.law_catalog_rows.proofs.Defs.{of_among}
use Rattle.law_catalog_rows.proofs.OneRowMore.{not_past}
use Rattle.spec_rules.specs.Places.{EventPlace, PlacedRow, stands_before}
use Rattle.spec_rules.specs.Rows.{columns_about, firsts, is_first_of, seconds, tables_about}
use Rattle.spec_rules.specs.OrderOfChanges.{PlacedChange, change_at, changes_are_in_order, changes_in, is_greatest, rises, rises_by_ordinal}
use Rattle.law_rules.specs.Steps.{Catalog, placed_from}
use Rattle.law_rules.proofs.ColumnNames.{all_tests}
use Rattle.law_rules.proofs.InOrder.{all_in_order, all_of}
use Rattle.law_rules.proofs.TableByTable.{AreBelow, EachKeeps, IsNewTable, OfEach, OfOne, column_changed, table_changed}

-- ---- what is told of the changes of a table

-- of each change of the table and of its columns
abbrev pub EachChange : (PlacedChange → Type 0) → List PlacedRow → List PlacedRow → Type 0
EachChange P tables columns = AllByRecursion (λ r. P (change_at 0 r)) tables × AllByRecursion (λ r. P (change_at 1 r)) columns

abbrev pub RisesTo : PlacedChange → PlacedChange → Type 0
RisesTo a b = a.0 <ℤ b.0 → stands_before a.1 b.1 ≡ true

abbrev pub AllRise : List PlacedRow → List PlacedRow → Type 0
AllRise tables columns = EachChange (λ a. EachChange (RisesTo a) tables columns) tables columns

-- the row was made with its table, or has the greatest change
abbrev pub IsFirstOrGreatest : List PlacedRow → List PlacedRow → PlacedRow → Type 0
IsFirstOrGreatest tables columns s =
    (change_of 0 s.row ≡ pos 0)
    ⊎ ((pos 0 ≤ℤ change_of 0 s.row) × EachChange (λ c. c.0 ≤ℤ change_of 0 s.row) tables columns)

abbrev pub AreAtTheEnds : List PlacedRow → List PlacedRow → TableDef → Type 0
AreAtTheEnds tables columns def =
    ((def.gone ≡ false) × AllByRecursion (λ (s : PlacedRow). change_of 0 s.row ≡ pos 0) tables)
    ⊎ ((def.gone ≡ true) × AllByRecursion (IsFirstOrGreatest tables columns) tables)

pub record ChangesTold (tables columns : List PlacedRow) (def : TableDef) : Type 0 where
  pub rise : AllRise tables columns
  pub ends : AreAtTheEnds tables columns def

-- ---- of each change

module _ (T C : List PlacedRow) where
  each_weaker : (P Q : PlacedChange → Type 0) → ((c : PlacedChange) → P c → Q c) → EachChange P T C → EachChange Q T C
  each_weaker P Q f h = (
    all_weaker (λ r. P (change_at 0 r)) (λ r. Q (change_at 0 r)) (λ r k. f (change_at 0 r) k) T h.0,
    all_weaker (λ r. P (change_at 1 r)) (λ r. Q (change_at 1 r)) (λ r k. f (change_at 1 r) k) C h.1,
  )

  each_both : (P Q : PlacedChange → Type 0) → EachChange P T C → EachChange Q T C → EachChange (λ c. P c × Q c) T C
  each_both P Q h k = (
    all_both (λ r. P (change_at 0 r)) (λ r. Q (change_at 0 r)) T h.0 k.0,
    all_both (λ r. P (change_at 1 r)) (λ r. Q (change_at 1 r)) C h.1 k.1,
  )

  each_all : (P : PlacedChange → Type 0) → EachChange P T C → AllByRecursion P (changes_in T C)
  each_all P h =
      all_append P (map (change_at 0) T) (map (change_at 1) C)
      (all_map (λ r. P (change_at 0 r)) P (change_at 0) (λ r k. k) T h.0)
      (all_map (λ r. P (change_at 1 r)) P (change_at 1) (λ r k. k) C h.1)

  module _ (U D : List PlacedRow) (t : IsPermutation U T) (c : IsPermutation D C) where
    each_in_order : (P : PlacedChange → Type 0) → EachChange P T C → EachChange P U D
    each_in_order P h = (all_in_order (λ r. P (change_at 0 r)) U T t h.0, all_in_order (λ r. P (change_at 1 r)) D C c h.1)

    told_in_order : (d : TableDef) → ChangesTold T C d → ChangesTold U D d
    told_in_order d q = record {
      rise = each_in_order (λ a. EachChange (RisesTo a) U D)
          (each_weaker (λ a. EachChange (RisesTo a) T C) (λ a. EachChange (RisesTo a) U D) (λ a h. each_in_order (RisesTo a) h) q.rise);
      ends = elim q.ends [
        | inl p ↦ inl (p.0, all_in_order (λ (s : PlacedRow). change_of 0 s.row ≡ pos 0) U T t p.1)
        | inr p ↦ inr (
          p.0,
          all_in_order (IsFirstOrGreatest U D) U T t
              (all_weaker (IsFirstOrGreatest T C) (IsFirstOrGreatest U D) (λ s k. elim k [ inl e ↦ inl e | inr g ↦ inr (g.0, each_in_order (λ b. b.0 ≤ℤ change_of 0 s.row) g.1) ]) T p.1),
        )
      ];
    }

  -- ---- a change more, which is the greatest and the last

  abbrev Latest : PlacedChange → Type 0
  Latest n = EachChange (λ b. (b.0 <ℤ n.0) × (stands_before b.1 n.1 ≡ true)) T C

  latest_rises : (n : PlacedChange) → Latest n → EachChange (RisesTo n) T C
  latest_rises n latest = each_weaker (λ b. (b.0 <ℤ n.0) × (stands_before b.1 n.1 ≡ true)) (RisesTo n) (λ b k lt. absurd (let less = k.0 in omega (arith, ints, less, lt))) latest

  not_itself : (n : PlacedChange) → RisesTo n n
  not_itself n lt = absurd (omega (arith, ints, lt))

  old_rise : (n : PlacedChange) → Latest n → AllRise T C → EachChange (λ a. RisesTo a n × EachChange (RisesTo a) T C) T C
  old_rise n latest rise =
      each_both (λ a. RisesTo a n) (λ a. EachChange (RisesTo a) T C)
      (each_weaker (λ b. (b.0 <ℤ n.0) × (stands_before b.1 n.1 ≡ true)) (λ a. RisesTo a n) (λ b k lt. k.1) latest) rise

  rise_with_column : (r : PlacedRow) → Latest (change_at 1 r) → AllRise T C → AllRise T (r ∷ C)
  rise_with_column r latest rise =
      let n : PlacedChange = change_at 1 r in
      let own : EachChange (RisesTo n) T C = latest_rises n latest in
      let old = each_weaker (λ a. RisesTo a n × EachChange (RisesTo a) T C) (λ a. EachChange (RisesTo a) T (r ∷ C)) (λ a k. (k.1.0, (k.0, k.1.1))) (old_rise n latest rise) in
      (old.0, ((own.0, (not_itself n, own.1)), old.1))

  rise_with_table : (r : PlacedRow) → Latest (change_at 0 r) → AllRise T C → AllRise (r ∷ T) C
  rise_with_table r latest rise =
      let n : PlacedChange = change_at 0 r in
      let own : EachChange (RisesTo n) T C = latest_rises n latest in
      let old = each_weaker (λ a. RisesTo a n × EachChange (RisesTo a) T C) (λ a. EachChange (RisesTo a) (r ∷ T) C) (λ a k. ((k.0, k.1.0), k.1.1)) (old_rise n latest rise) in
      ((((not_itself n, own.0), own.1), old.0), old.1)

  none_rise : EachChange (λ a. a.0 ≡ pos 0) T C → AllRise T C
  none_rise zero =
      each_weaker (λ a. a.0 ≡ pos 0) (λ a. EachChange (RisesTo a) T C)
      (λ a e. each_weaker (λ b. b.0 ≡ pos 0) (RisesTo a) (λ b f lt. absurd (omega (arith, ints, e, f, lt))) zero) zero

-- ---- each statement

table_change : (p : EventPlace) (d : TableDef) → change_of 0 (table_row d) ≡ pos 0
unfolding table_row
table_change p d = refl

columns_zero : (m j id n : ℕ) (cs : List ColumnDef) → AllByRecursion (λ (r : PlacedRow). change_of 1 r.row ≡ pos 0) (placed_from m j (map (column_row id) (numbered n cs)))
columns_zero m j id n [] = tt
columns_zero m j id n (c ∷ cs) = (refl, columns_zero m (j + 1) id (n + 1) cs)

new_columns_zero : (m j : ℕ) (d : TableDef) → AllByRecursion (λ (r : PlacedRow). change_of 1 r.row ≡ pos 0) (placed_from m j (column_rows d))
unfolding column_rows
new_columns_zero m j d = columns_zero m j d.id 1 d.columns

created_told : (p : EventPlace) (d : TableDef) → IsNewTable d → ChangesTold (record { place = p; row = table_row d } ∷ []) (placed_from p.0 (p.1 + 1) (column_rows d)) d
created_told p d new =
    let first : AllByRecursion (λ (r : PlacedRow). change_of 0 r.row ≡ pos 0) (record { place = p; row = table_row d } ∷ []) = (table_change p d, tt) in
    record {
      rise = none_rise (record { place = p; row = table_row d } ∷ []) (placed_from p.0 (p.1 + 1) (column_rows d)) (first, new_columns_zero p.0 (p.1 + 1) d);
      ends = inl (new.there, first);
    }

column_by : (place : EventPlace) (change : ℕ) (w : WithColumn) → change_of 1 (column_changed place change w).row ≡ pos change
unfolding changed_column_row
column_by place change w = refl

table_by : (place : EventPlace) (change : ℕ) (d : TableDef) → change_of 0 (table_changed place change d).row ≡ pos change
unfolding changed_table_row
table_by place change d = refl

was_dropped : (d : TableDef) → (dropped_table d).gone ≡ true
unfolding dropped_table
was_dropped d = refl

never_gone : (b : Bool) → b ≡ false → b ≡ true → ⊥
never_gone true e f = cc
never_gone false e f = cc

module _ (place : EventPlace) (change : ℕ) (T C : List PlacedRow) (below : AreBelow place change T C) (d : TableDef) (there : d.gone ≡ false) (q : ChangesTold T C d) where
  latest : (n : ℤ) → n ≡ pos change → Latest T C (n, place)
  latest n is = subst (λ (z : ℤ). Latest T C (z, place)) (sym is) (below.tables, below.columns)

  first_alone : AllByRecursion (λ (s : PlacedRow). change_of 0 s.row ≡ pos 0) T
  first_alone = elim q.ends [ inl p ↦ p.1 | inr p ↦ absurd (never_gone d.gone there p.0) ]

  column_told : (w : WithColumn) → w.0.gone ≡ false → ChangesTold T (column_changed place change w ∷ C) w.0
  column_told w stands =
      let r : PlacedRow = column_changed place change w in
      record { rise = rise_with_column T C r (latest (change_of 1 r.row) (column_by place change w)) q.rise; ends = inl (stands, first_alone) }

  gone_told : ChangesTold (table_changed place change (dropped_table d) ∷ T) C (dropped_table d)
  gone_told =
      let s : PlacedRow = table_changed place change (dropped_table d) in
      let by : change_of 0 s.row ≡ pos change = table_by place change (dropped_table d) in
      let lesser : EachChange (λ c. c.0 ≤ℤ change_of 0 s.row) T C =
      each_weaker T C (λ b. (b.0 <ℤ change_of 0 s.row) × (stands_before b.1 place ≡ true)) (λ c. c.0 ≤ℤ change_of 0 s.row) (λ c k. (let lt = k.0 in omega (arith, ints, lt))) (latest (change_of 0 s.row) by) in
      record {
        rise = rise_with_table T C s (latest (change_of 0 s.row) by) q.rise;
        ends = inr (
          was_dropped d,
          (
            inr (subst (λ (z : ℤ). pos 0 ≤ℤ z) (sym by) (omega (arith, ints)), ((omega (arith, ints), lesser.0), lesser.1)),
            all_weaker (λ (b : PlacedRow). change_of 0 b.row ≡ pos 0) (IsFirstOrGreatest (s ∷ T) C) (λ b e. inl e) T first_alone,
          ),
        );
      }

pub changes_told_kept : EachKeeps ChangesTold
changes_told_kept = record {
  in_order = λ T U C D d t c q. told_in_order T C U D t c d q;
  created = λ p d new. created_told p d new;
  indexed = λ T C d i q. record { rise = q.rise; ends = q.ends };
  added = λ place change T C below d c there before after q. column_told place change T C below d there q _ there;
  dropped = λ place change T C below d name c live there q. column_told place change T C below d there q _ there;
  gone = λ place change T C below d there q. gone_told place change T C below d there q;
}

-- ---- the rule

rises_so : (a b : PlacedChange) → RisesTo a b → rises a b ≡ true
rises_so a b h = here (int_cmp a.0 b.0) (int_ranks a.0 b.0)
  where
    here : (o : Ordering) → MatchOrdering o (a.0 <ℤ b.0) (a.0 ≡ b.0) (b.0 <ℤ a.0) → (not (is_lt o) || stands_before a.1 b.1) ≡ true
    here Less m = h m
    here Equal m = refl
    here Greater m = refl

module _ (T C : List PlacedRow) (d : TableDef) (q : ChangesTold T C d) where
  abbrev changes : List PlacedChange
  changes = changes_in T C

  all_rise : list_all (λ a. list_all (rises a) changes) changes ≡ true
  all_rise =
      all_tests (λ a. list_all (rises a) changes) changes
      (each_all T C (λ a. list_all (rises a) changes ≡ true)
      (each_weaker T C (λ a. EachChange (RisesTo a) T C) (λ a. list_all (rises a) changes ≡ true)
      (λ a h. all_tests (rises a) changes (each_all T C (λ b. rises a b ≡ true) (each_weaker T C (RisesTo a) (λ b. rises a b ≡ true) (λ b k. rises_so a b k) h))) q.rise))

  all_at_ends : AllByRecursion (IsFirstOrGreatest T C) T
  all_at_ends = elim q.ends [
    | inl p ↦ all_weaker (λ (s : PlacedRow). change_of 0 s.row ≡ pos 0) (IsFirstOrGreatest T C) (λ s e. inl e) T p.1
    | inr p ↦ p.1
  ]

  none_negative : AllByRecursion (λ (b : PlacedRow). pos 0 ≤ℤ change_of 0 b.row) T
  none_negative =
      all_weaker (IsFirstOrGreatest T C) (λ (b : PlacedRow). pos 0 ≤ℤ change_of 0 b.row)
      (λ b k. elim k [ inl e ↦ subst (λ (z : ℤ). pos 0 ≤ℤ z) (sym e) (omega (arith, ints)) | inr g ↦ g.0 ]) T all_at_ends

  is_one_of_firsts : (s : PlacedRow) → change_of 0 s.row ≡ pos 0 → is_first_of 0 T s ≡ true
  is_one_of_firsts s e = ap not (none_past T none_negative)
    where
      none_past : (bs : List PlacedRow) → AllByRecursion (λ (b : PlacedRow). pos 0 ≤ℤ change_of 0 b.row) bs → list_any (λ (b : PlacedRow). is_past 0 s.row b.row) bs ≡ false
      none_past [] h = refl
      none_past (b ∷ bs) h =
          ap (λ (c : Bool). c || list_any (λ (a : PlacedRow). is_past 0 s.row a.row) bs) (not_past 0 s.row b.row (subst (λ (z : ℤ). z ≤ℤ change_of 0 b.row) (sym e) h.0))
          ∙ none_past bs h.1

  greatest_if_second : (s : PlacedRow) → IsFirstOrGreatest T C s → not (is_first_of 0 T s) ≡ true → is_greatest changes s ≡ true
  greatest_if_second s (inl e) second = absurd (let no : not true ≡ true = sym (ap not (is_one_of_firsts s e)) ∙ second in cc)
  greatest_if_second s (inr g) second =
      all_tests (λ (c : PlacedChange). not (is_gt (int_cmp c.0 (change_of 0 s.row)))) changes
      (each_all T C (λ c. not (is_gt (int_cmp c.0 (change_of 0 s.row))) ≡ true)
      (each_weaker T C (λ c. c.0 ≤ℤ change_of 0 s.row) (λ c. not (is_gt (int_cmp c.0 (change_of 0 s.row))) ≡ true) (λ c le. ap not (isnt_greater c.0 (change_of 0 s.row) le)) g.1))

  seconds_greatest : list_all (is_greatest changes) (seconds 0 T) ≡ true
  seconds_greatest =
      all_of (is_greatest changes) (λ s. not (is_first_of 0 T s)) T
      (all_weaker (IsFirstOrGreatest T C) (λ s. not (is_first_of 0 T s) ≡ true → is_greatest changes s ≡ true) (λ s k second. greatest_if_second s k second) T all_at_ends)

  in_order_if_ordinals_rise : list_all (λ a. list_all (rises_by_ordinal a) (firsts 1 C)) (firsts 1 C) ≡ true → changes_are_in_order T C ≡ true
  unfolding changes_are_in_order
  in_order_if_ordinals_rise ordinals =
      all_three (list_all (λ a. list_all (rises a) changes) changes) (list_all (λ a. list_all (rises_by_ordinal a) (firsts 1 C)) (firsts 1 C)) (list_all (is_greatest changes) (seconds 0 T))
      all_rise ordinals seconds_greatest

pub changes_keep_order : (x : Catalog) → OfEach ChangesTold changes_told_kept x → (d : TableDef) → IsAmong d x.defs
    → (let columns = columns_about x.rows (pos d.id) in list_all (λ a. list_all (rises_by_ordinal a) (firsts 1 columns)) (firsts 1 columns) ≡ true)
    → changes_are_in_order (tables_about x.rows (pos d.id)) (columns_about x.rows (pos d.id)) ≡ true
changes_keep_order x h d among ordinals =
    in_order_if_ordinals_rise (tables_about x.rows (pos d.id)) (columns_about x.rows (pos d.id)) d (of_among (OfOne ChangesTold changes_told_kept x) x.defs h d among) ordinals
