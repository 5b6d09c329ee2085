-- What the rows of a table's indexes keep beside those of the table and of its columns, and what one more row leaves of it.
use Rattle.std.proofs.Common.{◌≡◌, ◌≤◌, ◌<◌, ◌⊎◌, ℕ, ℤ, zero, suc, pos, ◌+◌, ◌*◌, inl, inr, refl, sym, ap, subst, ◌∙◌, arith, true, false, List, [], ◌∷◌, ◌++◌, map, length}
use Rattle.std.proofs.lemmas.Int.{ints}
use Rattle.std.proofs.lemmas.List.Sorted.{IsPermutation-refl, IsPermutation-sym, IsPermutation-middle}
use Rattle.std.specs.Prelude.{◌<ℤ◌}
use Rattle.std.specs.List.{AllByRecursion}
use Rattle.std.specs.List.Sorted.{IsPermutation}
use Rattle.sql_value.specs.declared.column.ColumnDef.{ColumnDef}
use Rattle.spec_model.specs.Lists.{numbered, is_among}
use Rattle.spec_model.specs.SystemTables.{column_row, index_row}
use Rattle.spec_history.specs.Lists.{Some_of}
use Rattle.law_frame.proofs.Alls.{all_weaker, all_both}
use Rattle.law_catalog_rows.specs.Changes.{position_in}
use Rattle.law_catalog_rows.specs.Latest.{change_of, is_past}
use Rattle.law_catalog_rows.proofs.OneRowMore.{not_itself, not_past}
use Rattle.spec_rules.specs.Places.{PlacedRow, stands_before}
use Rattle.spec_rules.specs.Rows.{item_of}
use Rattle.law_rules.specs.Steps.{placed_from}
use Rattle.law_rules.proofs.ColumnNames.{before_next, itself_next}
use Rattle.law_rules.proofs.InOrder.{Before, all_in_order, some_in_order, never_true}
use Rattle.law_rules.proofs.Said.{IsOf}

-- one of the rows is about the same thing and has a lesser change
abbrev pub IsSecond : ℕ → List PlacedRow → PlacedRow → Type 0
IsSecond k rows r = Some_of (λ (b : PlacedRow). is_past k r.row b.row ≡ true) rows

-- the row is about the column of this row of an index
abbrev pub OfItsColumn : PlacedRow → PlacedRow → Type 0
OfItsColumn w c = item_of c ≡ position_in w.row

-- ---- what is told

-- the row of an index stands where it should, among the rows about its table, its columns and its indexes
pub record InTime (T C I : List PlacedRow) (w : PlacedRow) : Type 0 where
  pub tables : AllByRecursion (λ s. IsSecond 0 T s → Before w s) T
  pub indexes : AllByRecursion (λ b. item_of b <ℤ item_of w → Before b w) I
  pub firsts : AllByRecursion (λ c. OfItsColumn w c → (IsSecond 1 C c → ⊥) → Before c w) C
  pub seconds : AllByRecursion (λ c. OfItsColumn w c → IsSecond 1 C c → Before w c) C

-- its item is below the bound, and it is of one of so many columns
pub record IsPart (bound count : ℕ) (w : PlacedRow) : Type 0 where
  pub item : ℕ
  pub is : item_of w ≡ pos item
  pub below : item < bound
  pub ordinal : ℕ
  pub says : position_in w.row ≡ pos ordinal
  pub from : 1 ≤ ordinal
  pub within : ordinal ≤ count

-- the row is about one of so many columns, which was dropped if the row is a second one
pub record IsOfColumn (count : ℕ) (dropped : List ℕ) (C : List PlacedRow) (c : PlacedRow) : Type 0 where
  pub ordinal : ℕ
  pub of : IsOf 1 ordinal c
  pub within : ordinal ≤ count
  pub gone : IsSecond 1 C c → is_among dropped ordinal ≡ true

abbrev pub EachColumn : ℕ → List PlacedRow → Type 0
EachColumn count C = (i : ℕ) → 1 ≤ i → i ≤ count → Some_of (IsOf 1 i) C

pub record Told (bound count : ℕ) (dropped : List ℕ) (T C I : List PlacedRow) : Type 0 where
  pub columns : AllByRecursion (IsOfColumn count dropped C) C
  pub each : EachColumn count C
  pub parts : AllByRecursion (IsPart bound count) I
  pub times : AllByRecursion (InTime T C I) I

pub one_number : (m n : ℕ) → pos m ≡ pos n → m ≡ n
one_number m n e = cc

-- ---- in any order

second_in : (k : ℕ) (V W : List PlacedRow) → IsPermutation W V → (r : PlacedRow) → IsSecond k V r → IsSecond k W r
second_in k V W same r h = some_in_order (λ (b : PlacedRow). is_past k r.row b.row ≡ true) W V same h

pub second_back : (k : ℕ) (V W : List PlacedRow) → IsPermutation W V → (r : PlacedRow) → IsSecond k W r → IsSecond k V r
second_back k V W same r h = second_in k W V (IsPermutation-sym W V same) r h

module _ (T C I T' C' I' : List PlacedRow) (t : IsPermutation T' T) (c : IsPermutation C' C) (i : IsPermutation I' I) where
  in_time_so : (w : PlacedRow) → InTime T C I w → InTime T' C' I' w
  in_time_so w h = record {
    tables = all_in_order (λ s. IsSecond 0 T' s → Before w s) T' T t (all_weaker (λ s. IsSecond 0 T s → Before w s) (λ s. IsSecond 0 T' s → Before w s) (λ s q second. q (second_back 0 T T' t s second)) T h.tables);
    indexes = all_in_order (λ b. item_of b <ℤ item_of w → Before b w) I' I i h.indexes;
    firsts = all_in_order (λ b. OfItsColumn w b → (IsSecond 1 C' b → ⊥) → Before b w) C' C c
        (all_weaker (λ b. OfItsColumn w b → (IsSecond 1 C b → ⊥) → Before b w) (λ b. OfItsColumn w b → (IsSecond 1 C' b → ⊥) → Before b w) (λ b q of first. q of (λ second. first (second_in 1 C C' c b second))) C h.firsts);
    seconds = all_in_order (λ b. OfItsColumn w b → IsSecond 1 C' b → Before w b) C' C c
        (all_weaker (λ b. OfItsColumn w b → IsSecond 1 C b → Before w b) (λ b. OfItsColumn w b → IsSecond 1 C' b → Before w b) (λ b q of second. q of (second_back 1 C C' c b second)) C h.seconds);
  }

  column_so : (count : ℕ) (dropped : List ℕ) (b : PlacedRow) → IsOfColumn count dropped C b → IsOfColumn count dropped C' b
  column_so count dropped b h = record { ordinal = h.ordinal; of = h.of; within = h.within; gone = λ second. h.gone (second_back 1 C C' c b second) }

  pub told_in_order : (bound count : ℕ) (dropped : List ℕ) → Told bound count dropped T C I → Told bound count dropped T' C' I'
  told_in_order bound count dropped h = record {
    columns = all_in_order (IsOfColumn count dropped C') C' C c (all_weaker (IsOfColumn count dropped C) (IsOfColumn count dropped C') (column_so count dropped) C h.columns);
    each = λ j from le. some_in_order (IsOf 1 j) C' C c (h.each j from le);
    parts = all_in_order (IsPart bound count) I' I i h.parts;
    times = all_in_order (InTime T' C' I') I' I i (all_weaker (InTime T C I) (InTime T' C' I') in_time_so I h.times);
  }

-- ---- DROP TABLE: a row more about the table

module _ (T C I : List PlacedRow) (new : PlacedRow) (later : AllByRecursion (λ w. Before w new) I) (next : AllByRecursion (λ (s : PlacedRow). is_past 0 s.row new.row ≡ false) T) where
  with_table : (w : PlacedRow) → Before w new → InTime T C I w → InTime (new ∷ T) C I w
  with_table w early h = record {
    tables = (
      (λ second. early),
      all_weaker (λ (s : PlacedRow). (is_past 0 s.row new.row ≡ false) × (IsSecond 0 T s → Before w s)) (λ s. IsSecond 0 (new ∷ T) s → Before w s)
          (λ s q second. elim second [ inl e ↦ absurd (never_true (is_past 0 s.row new.row) e q.0) | inr more ↦ q.1 more ]) T
          (all_both (λ (s : PlacedRow). is_past 0 s.row new.row ≡ false) (λ s. IsSecond 0 T s → Before w s) T next h.tables),
    );
    indexes = h.indexes;
    firsts = h.firsts;
    seconds = h.seconds;
  }

  pub told_with_table : (bound count : ℕ) (dropped : List ℕ) → Told bound count dropped T C I → Told bound count dropped (new ∷ T) C I
  told_with_table bound count dropped h = record {
    columns = h.columns;
    each = h.each;
    parts = h.parts;
    times = all_weaker (λ w. Before w new × InTime T C I w) (InTime (new ∷ T) C I) (λ w q. with_table w q.0 q.1) I (all_both (λ w. Before w new) (InTime T C I) I later h.times);
  }

-- ---- ALTER TABLE: a row more about a column, whose change is above all others

-- the row of the column, in a definition that has so many columns and these dropped ones, after the other
pub record NewColumn (count : ℕ) (dropped : List ℕ) (C : List PlacedRow) (new : PlacedRow) (now : ℕ) (gone : List ℕ) : Type 0 where
  pub ordinal : ℕ
  pub of : IsOf 1 ordinal new
  pub within : ordinal ≤ now
  pub more : count ≤ now
  pub reach : (j : ℕ) → j ≤ now → (j ≡ ordinal) ⊎ (j ≤ count)
  pub still : (j : ℕ) → is_among dropped j ≡ true → is_among gone j ≡ true
  pub ends : IsSecond 1 C new → is_among gone ordinal ≡ true
  -- it is no first row about a column that was there
  pub second : 1 ≤ ordinal → ordinal ≤ count → IsSecond 1 C new

module _ (T C I : List PlacedRow) (new : PlacedRow) (later : AllByRecursion (λ w. Before w new) I) (next : AllByRecursion (λ (c : PlacedRow). is_past 1 c.row new.row ≡ false) C)
    (bound count : ℕ) (dropped : List ℕ) (now : ℕ) (gone : List ℕ) (step : NewColumn count dropped C new now gone) where
  old_second : (c : PlacedRow) → is_past 1 c.row new.row ≡ false → IsSecond 1 (new ∷ C) c → IsSecond 1 C c
  old_second c isnt second = elim second [ inl e ↦ absurd (never_true (is_past 1 c.row new.row) e isnt) | inr more ↦ more ]

  new_second : IsSecond 1 (new ∷ C) new → IsSecond 1 C new
  new_second second = elim second [ inl e ↦ absurd (never_true (is_past 1 new.row new.row) e (not_itself 1 new.row)) | inr more ↦ more ]

  no_first : (w : PlacedRow) → IsPart bound count w → OfItsColumn w new → IsSecond 1 (new ∷ C) new
  no_first w part of = let same : step.ordinal ≡ part.ordinal = one_number step.ordinal part.ordinal (sym step.of ∙ of ∙ part.says) in
      inr (step.second (omega (arith, same, part.from)) (omega (arith, same, part.within)))

  with_column : (w : PlacedRow) → Before w new → IsPart bound count w → InTime T C I w → InTime T (new ∷ C) I w
  with_column w early part h = record {
    tables = h.tables;
    indexes = h.indexes;
    firsts = (
      (λ of first. absurd (first (no_first w part of))),
      all_weaker (λ c. OfItsColumn w c → (IsSecond 1 C c → ⊥) → Before c w) (λ c. OfItsColumn w c → (IsSecond 1 (new ∷ C) c → ⊥) → Before c w) (λ c q of first. q of (λ second. first (inr second))) C h.firsts,
    );
    seconds = (
      (λ of second. early),
      all_weaker (λ (c : PlacedRow). (is_past 1 c.row new.row ≡ false) × (OfItsColumn w c → IsSecond 1 C c → Before w c)) (λ c. OfItsColumn w c → IsSecond 1 (new ∷ C) c → Before w c)
          (λ c q of second. q.1 of (old_second c q.0 second)) C
          (all_both (λ (c : PlacedRow). is_past 1 c.row new.row ≡ false) (λ c. OfItsColumn w c → IsSecond 1 C c → Before w c) C next h.seconds),
    );
  }

  still_column : (c : PlacedRow) → is_past 1 c.row new.row ≡ false → IsOfColumn count dropped C c → IsOfColumn now gone (new ∷ C) c
  still_column c isnt h = record { ordinal = h.ordinal; of = h.of; within = omega (arith, h.within, step.more); gone = λ second. step.still h.ordinal (h.gone (old_second c isnt second)) }

  still_part : (w : PlacedRow) → IsPart bound count w → IsPart bound now w
  still_part w h = record { item = h.item; is = h.is; below = h.below; ordinal = h.ordinal; says = h.says; from = h.from; within = omega (arith, h.within, step.more) }

  each_now : EachColumn count C → EachColumn now (new ∷ C)
  each_now each j from le = elim (step.reach j le) [
    | inl same ↦ inl (step.of ∙ ap (λ (n : ℕ). pos n) (sym same))
    | inr old ↦ inr (each j from old)
  ]

  pub told_with_column : Told bound count dropped T C I → Told bound now gone T (new ∷ C) I
  told_with_column h = record {
    columns = (
      record { ordinal = step.ordinal; of = step.of; within = step.within; gone = λ second. step.ends (new_second second) },
      all_weaker (λ (c : PlacedRow). (is_past 1 c.row new.row ≡ false) × IsOfColumn count dropped C c) (IsOfColumn now gone (new ∷ C)) (λ c q. still_column c q.0 q.1) C
          (all_both (λ (c : PlacedRow). is_past 1 c.row new.row ≡ false) (IsOfColumn count dropped C) C next h.columns),
    );
    each = each_now h.each;
    parts = all_weaker (IsPart bound count) (IsPart bound now) still_part I h.parts;
    times = all_weaker (λ w. Before w new × (IsPart bound count w × InTime T C I w)) (InTime T (new ∷ C) I) (λ w q. with_column w q.0 q.1.0 q.1.1) I
        (all_both (λ w. Before w new) (λ w. IsPart bound count w × InTime T C I w) I later (all_both (IsPart bound count) (InTime T C I) I h.parts h.times));
  }

-- ---- CREATE INDEX: rows more of an index

pub wider : (bound more count : ℕ) (dropped : List ℕ) (T C I : List PlacedRow) → bound ≤ more → Told bound count dropped T C I → Told more count dropped T C I
wider bound more count dropped T C I le h = record {
  columns = h.columns;
  each = h.each;
  parts = all_weaker (IsPart bound count) (IsPart more count) (λ w p. record { item = p.item; is = p.is; below = omega (arith, p.below, le); ordinal = p.ordinal; says = p.says; from = p.from; within = p.within }) I h.parts;
  times = h.times;
}

module _ (T C : List PlacedRow) (alone : AllByRecursion (λ s. IsSecond 0 T s → ⊥) T) (count : ℕ) (dropped : List ℕ) where
  module _ (I : List PlacedRow) (new : PlacedRow) (columns : AllByRecursion (λ c. Before c new) C) (later : AllByRecursion (λ w. Before w new) I)
      (bound item ordinal : ℕ) (le : bound ≤ item) (is : item_of new ≡ pos item) (says : position_in new.row ≡ pos ordinal) (from : 1 ≤ ordinal) (within : ordinal ≤ count)
      (live : is_among dropped ordinal ≡ false) where
    in_front : (w : PlacedRow) → IsPart bound count w → InTime T C I w → InTime T C (new ∷ I) w
    in_front w part h = record {
      tables = h.tables;
      indexes = ((λ less. absurd (omega (arith, ints, less, is, part.is, part.below, le))), h.indexes);
      firsts = h.firsts;
      seconds = h.seconds;
    }

    none_gone : (c : PlacedRow) → IsOfColumn count dropped C c → OfItsColumn new c → IsSecond 1 C c → ⊥
    none_gone c h of second =
        let same : h.ordinal ≡ ordinal = one_number h.ordinal ordinal (sym h.of ∙ of ∙ says) in
        never_true (is_among dropped ordinal) (subst (λ (n : ℕ). is_among dropped n ≡ true) same (h.gone second)) live

    new_in_time : AllByRecursion (IsOfColumn count dropped C) C → InTime T C (new ∷ I) new
    new_in_time h = record {
      tables = all_weaker (λ s. IsSecond 0 T s → ⊥) (λ s. IsSecond 0 T s → Before new s) (λ s isnt second. absurd (isnt second)) T alone;
      indexes = ((λ less. absurd (omega (arith, ints, less))), all_weaker (λ w. Before w new) (λ b. item_of b <ℤ item_of new → Before b new) (λ b e less. e) I later);
      firsts = all_weaker (λ c. Before c new) (λ c. OfItsColumn new c → (IsSecond 1 C c → ⊥) → Before c new) (λ c e of first. e) C columns;
      seconds = all_weaker (IsOfColumn count dropped C) (λ c. OfItsColumn new c → IsSecond 1 C c → Before new c) (λ c k of second. absurd (none_gone c k of second)) C h;
    }

    told_with_part : Told bound count dropped T C I → Told (item + 1) count dropped T C (new ∷ I)
    told_with_part h =
        let w : Told (item + 1) count dropped T C I = wider bound (item + 1) count dropped T C I (omega (arith, le)) h in
        record {
          columns = h.columns;
          each = h.each;
          parts = (record { item = item; is = is; below = omega arith; ordinal = ordinal; says = says; from = from; within = within }, w.parts);
          times = (
            new_in_time h.columns,
            all_weaker (λ v. IsPart bound count v × InTime T C I v) (InTime T C (new ∷ I)) (λ v q. in_front v q.0 q.1) I (all_both (IsPart bound count) (InTime T C I) I h.parts h.times),
          );
        }

  abbrev pub IsLiveOrdinal : ℕ → Type 0
  IsLiveOrdinal o = (1 ≤ o) × ((o ≤ count) × (is_among dropped o ≡ false))

  module _ (id g m : ℕ) (name : List ℕ) where
    abbrev part_rows : ℕ → ℕ → List ℕ → List PlacedRow
    part_rows n j os = placed_from m j (map (index_row id g name) (numbered n os))

    pub told_with_parts : (n j : ℕ) (os : List ℕ) (I : List PlacedRow) → AllByRecursion (λ (c : PlacedRow). stands_before c.place (m, j) ≡ true) C → AllByRecursion (λ (w : PlacedRow). stands_before w.place (m, j) ≡ true) I
        → AllByRecursion IsLiveOrdinal os → (bound : ℕ) → bound ≤ 1000 * g + n → Told bound count dropped T C I → Told (1000 * g + n + length os) count dropped T C (part_rows n j os ++ I)
    told_with_parts n j [] I columns later good bound le h = wider bound (1000 * g + n + 0) count dropped T C I (omega (arith, le)) h
    told_with_parts n j (o ∷ os) I columns later good bound le h =
        let new : PlacedRow = record { place = (m, j); row = index_row id g name (n, o) } in
        let one : Told (1000 * g + n + 1) count dropped T C (new ∷ I) = told_with_part I new columns later bound (1000 * g + n) o le refl refl good.0.0 good.0.1.0 good.0.1.1 h in
        let more : Told (1000 * g + (n + 1) + length os) count dropped T C (part_rows (n + 1) (j + 1) os ++ new ∷ I) =
        told_with_parts (n + 1) (j + 1) os (new ∷ I)
        (all_weaker (λ (c : PlacedRow). stands_before c.place (m, j) ≡ true) (λ (c : PlacedRow). stands_before c.place (m, j + 1) ≡ true) (λ c e. before_next c m j e) C columns)
        (itself_next m j, all_weaker (λ (w : PlacedRow). stands_before w.place (m, j) ≡ true) (λ (w : PlacedRow). stands_before w.place (m, j + 1) ≡ true) (λ w e. before_next w m j e) I later)
        good.1 (1000 * g + n + 1) (omega arith) one in
        wider (1000 * g + (n + 1) + length os) (1000 * g + n + suc (length os)) count dropped T C (new ∷ part_rows (n + 1) (j + 1) os ++ I) (omega arith)
        (told_in_order T C (part_rows (n + 1) (j + 1) os ++ new ∷ I) T C (new ∷ part_rows (n + 1) (j + 1) os ++ I) (IsPermutation-refl T) (IsPermutation-refl C)
        (IsPermutation-sym (part_rows (n + 1) (j + 1) os ++ new ∷ I) (new ∷ part_rows (n + 1) (j + 1) os ++ I) (IsPermutation-middle (part_rows (n + 1) (j + 1) os) new I))
        (1000 * g + (n + 1) + length os) count dropped more)

-- ---- CREATE TABLE: the rows of its columns

-- where no row has a change, none is a second one
none_second : (rows : List PlacedRow) → AllByRecursion (λ (c : PlacedRow). change_of 1 c.row ≡ pos 0) rows → (c : PlacedRow) → change_of 1 c.row ≡ pos 0 → IsSecond 1 rows c → ⊥
none_second [] h c e second = second
none_second (b ∷ bs) h c e second = elim second [
  | inl k ↦ never_true (is_past 1 c.row b.row) k (let f = h.0 in not_past 1 c.row b.row (omega (arith, ints, e, f)))
  | inr more ↦ none_second bs h.1 c e more
]

module _ (id m : ℕ) where
  abbrev column_rows_from : ℕ → ℕ → List ColumnDef → List PlacedRow
  column_rows_from n j cs = placed_from m j (map (column_row id) (numbered n cs))

  no_changes : (n j : ℕ) (cs : List ColumnDef) → AllByRecursion (λ (c : PlacedRow). change_of 1 c.row ≡ pos 0) (column_rows_from n j cs)
  no_changes n j [] = tt
  no_changes n j (c ∷ cs) = (refl, no_changes (n + 1) (j + 1) cs)

  ordinals_told : (n j count : ℕ) (cs : List ColumnDef) → n + length cs ≤ count + 1 → AllByRecursion (λ c. (i : ℕ) × (IsOf 1 i c × (i ≤ count))) (column_rows_from n j cs)
  ordinals_told n j count [] le = tt
  ordinals_told n j count (c ∷ cs) le = ((n, (refl, omega (arith, le))), ordinals_told (n + 1) (j + 1) count cs (omega (arith, le)))

  each_there : (n j : ℕ) (cs : List ColumnDef) (i : ℕ) → n ≤ i → i < n + length cs → Some_of (IsOf 1 i) (column_rows_from n j cs)
  each_there n j [] i le lt = absurd (omega (arith, le, lt))
  each_there n j (c ∷ cs) i le lt = elim (first n i le) [
    | inl same ↦ inl (ap (λ (k : ℕ). pos k) same)
    | inr more ↦ inr (each_there (n + 1) (j + 1) cs i more (omega (arith, lt)))
  ]
    where
      first : (n i : ℕ) → n ≤ i → (n ≡ i) ⊎ (n + 1 ≤ i)
      first zero zero le = inl refl
      first zero (suc i) le = inr (omega arith)
      first (suc n) zero le = absurd (omega (arith, le))
      first (suc n) (suc i) le = elim (first n i (omega (arith, le))) [ inl e ↦ inl (ap suc e) | inr lt ↦ inr (omega (arith, lt)) ]

  pub told_of_new : (bound j : ℕ) (cs : List ColumnDef) (dropped : List ℕ) (T : List PlacedRow) → Told bound (length cs) dropped T (column_rows_from 1 j cs) []
  told_of_new bound j cs dropped T =
      let C : List PlacedRow = column_rows_from 1 j cs in
      let zeros : AllByRecursion (λ (c : PlacedRow). change_of 1 c.row ≡ pos 0) C = no_changes 1 j cs in
      record {
        columns = all_weaker (λ (c : PlacedRow). (change_of 1 c.row ≡ pos 0) × ((i : ℕ) × (IsOf 1 i c × (i ≤ length cs)))) (IsOfColumn (length cs) dropped C)
            (λ c q. record { ordinal = q.1.0; of = q.1.1.0; within = q.1.1.1; gone = λ second. absurd (none_second C zeros c q.0 second) }) C
            (all_both (λ (c : PlacedRow). change_of 1 c.row ≡ pos 0) (λ c. (i : ℕ) × (IsOf 1 i c × (i ≤ length cs))) C zeros (ordinals_told 1 j (length cs) cs (omega arith)));
        each = λ i from le. each_there 1 j cs i from (omega (arith, le));
        parts = tt;
        times = tt;
      }
