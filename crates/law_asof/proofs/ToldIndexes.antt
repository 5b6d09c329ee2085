-- Of the indexes of a definition that came later the rows so far tell those of the definition that they say, whole.
use Rattle.std.proofs.Common.{◌≡◌, ◌≤◌, ◌<◌, ◌+◌, ◌*◌, ℕ, ℤ, suc, pos, inl, inr, refl, sym, ap, subst, ◌∙◌, Bool, true, false, List, [], ◌∷◌, ◌++◌, map, length, arith}
use Rattle.std.proofs.lemmas.Bool.{ne_eqb}
use Rattle.std.proofs.lemmas.Int.{ints}
use Rattle.std.specs.Prelude.{◌==◌, ◌||◌, not, if◌then◌else◌}
use Rattle.std.specs.List.{AllByRecursion, filter, list_all, list_any}
use Rattle.std.specs.List.Sorted.{IsPermutation}
use Rattle.std.specs.Ordering.{int_cmp, is_gt}
use Rattle.sql_types.specs.declared.table.IndexDef.{IndexDef}
use Rattle.sql_types.specs.declared.table.TableDef.{TableDef}
use Rattle.spec_model.specs.Keys.{same_key}
use Rattle.spec_model.specs.Lists.{numbered}
use Rattle.spec_model.specs.Rows.{Row, number}
use Rattle.spec_model.specs.SystemTables.{index_row, index_rows}
use Rattle.law_frame.proofs.Alls.{all_weaker}
use Rattle.law_frame.proofs.SameKeys.{and_true, same_itself}
use Rattle.law_journal.proofs.NumberKeys.{same_first}
use Rattle.law_catalog_rows.specs.Changes.{is_first, is_of_index}
use Rattle.law_catalog_rows.specs.Encoded.{latest_item_rows, rows_of_indexes}
use Rattle.law_catalog_rows.specs.Latest.{change_of, number_at, without_change, latest_said}
use Rattle.law_catalog_rows.proofs.CountingUp.{is_greater, one_number, never}
use Rattle.law_catalog_rows.proofs.LatestOf.{IsIn, one_of_all}
use Rattle.law_catalog_rows.proofs.OneRowMore.{said_number}
use Rattle.spec_asof.specs.DefTold.{has_row, index_told, indexes_told}
use Rattle.law_asof.proofs.Grown.{filter_own}
use Rattle.law_asof.proofs.LastRow.{Saying, behind, in_front, said_by}

-- ---- lists

unnumbered : {A : Type 0} (n : ℕ) (xs : List A) → map (λ p. p.1) (numbered n xs) ≡ xs
unnumbered n [] = refl
unnumbered n (x ∷ xs) = ap (λ ys. x ∷ ys) (unnumbered (n + 1) xs)

none_kept : {A : Type 0} (test : A → Bool) (xs : List A) → AllByRecursion (λ x. test x ≡ false) xs → filter test xs ≡ []
none_kept test [] h = refl
none_kept test (x ∷ xs) h = rw h.0 (none_kept test xs h.1)

any_in : (test : Row → Bool) (rows : List Row) (r : Row) → IsIn r rows → test r ≡ true → list_any test rows ≡ true
any_in test [] r i e = absurd i
any_in test (x ∷ rows) r (inl same) e = rw (ap test same ∙ e) refl
any_in test (x ∷ rows) r (inr i) e = or_second (test x) (list_any test rows) (any_in test rows r i e)
  where
    or_second : (a b : Bool) → b ≡ true → (a || b) ≡ true
    or_second true b f = refl
    or_second false b f = f

any_not : (test : Row → Bool) (rows : List Row) → AllByRecursion (λ r. test r ≡ false) rows → list_any test rows ≡ false
any_not test [] h = refl
any_not test (r ∷ rows) h = rw h.0 (any_not test rows h.1)

all_at : (test : Row → Bool) (rows : List Row) (r : Row) → list_all test rows ≡ true → IsIn r rows → test r ≡ true
all_at test [] r e i = absurd i
all_at test (x ∷ rows) r e (inl same) = ap test (sym same) ∙ (and_true (test x) (list_all test rows) e).0
all_at test (x ∷ rows) r e (inr i) = all_at test rows r (and_true (test x) (list_all test rows) e).1 i

-- ---- rows of the table of columns

-- the row begins with whole numbers, the second of which is below this one
pub record IsItemRow (below : ℕ) (row : Row) : Type 0 where
  pub id : ℕ
  pub item : ℕ
  pub change : ℕ
  pub rest : Row
  pub low : item < below
  pub is : row ≡ number id ∷ number item ∷ number change ∷ rest

-- ---- indexes

module _ (def : TableDef) (rows : List Row) (p : IsPermutation (latest_said 1 rows) (latest_item_rows def))
    (first : list_all (λ row. not (is_of_index row) || is_first 1 row) rows ≡ true)
    (items : AllByRecursion (IsItemRow (1000 * (length def.indexes + 1))) rows) where
  abbrev part_row : ℕ → List ℕ → ℕ × ℕ → Row
  part_row g name part = index_row def.id g name part

  -- the row of a part, whose change is 0, stands itself among the rows
  same_row : (r w : Row) (item : ℕ) (is : IsItemRow (1000 * (length def.indexes + 1)) r) → without_change 1 r ≡ w → change_of 1 r ≡ pos 0 → r ≡ w
  same_row r w item is e none =
      let zero_change : is.change ≡ 0 = number_is is.change (ap (change_of 1) (sym is.is) ∙ none) in
      is.is
      ∙ ap (λ (c : ℕ). number is.id ∷ number is.item ∷ number c ∷ is.rest) zero_change
      ∙ ap (without_change 1) (sym is.is) ∙ e
    where
      number_is : (c : ℕ) → pos c ≡ pos 0 → c ≡ 0
      number_is c k = omega (arith, ints, k)

  of_index : (r : Row) (item : ℕ) → number_at 1 r ≡ pos item → 1000 < item → is_of_index r ≡ true
  of_index r item e lt = ap (λ (n : ℤ). is_gt (int_cmp n (pos 1000))) e ∙ is_greater (pos item) (pos 1000) (omega (arith, ints, lt))

  passed : (a b : Bool) → (not a || b) ≡ true → a ≡ true → b ≡ true
  passed true b e t = e
  passed false b e t = cc

  stands : (w : Row) (item : ℕ) → IsIn w (latest_item_rows def) → number_at 1 w ≡ pos item → 1000 < item → has_row rows w ≡ true
  stands w item i e lt =
      let s : Saying 1 rows (latest_item_rows def) p w = said_by 1 rows (latest_item_rows def) p w i in
      let own : number_at 1 s.row ≡ pos item = sym (said_number 1 s.row) ∙ ap (number_at 1) s.is ∙ e in
      let none : is_first 1 s.row ≡ true = passed (is_of_index s.row) (is_first 1 s.row) (all_at (λ row. not (is_of_index row) || is_first 1 row) rows s.row first s.among) (of_index s.row item own lt) in
      let same : s.row ≡ w = same_row s.row w item (one_of_all (IsItemRow (1000 * (length def.indexes + 1))) rows s.row items s.among) s.is (one_number (change_of 1 s.row) (pos 0) none) in
      any_in (same_key w) rows w (subst (λ (r : Row). IsIn r rows) same s.among) (same_itself w)

  parts_stand : (g : ℕ) (name : List ℕ) (n : ℕ) (os : List ℕ) → 1 ≤ g → 1 ≤ n → ((w : Row) → IsIn w (map (part_row g name) (numbered n os)) → IsIn w (latest_item_rows def))
      → AllByRecursion (λ part. has_row rows (part_row g name part) ≡ true) (numbered n os)
  parts_stand g name n [] le one there = tt
  parts_stand g name n (o ∷ os) le one there = (
    stands (part_row g name (n, o)) (1000 * g + n) (there (part_row g name (n, o)) (inl refl)) refl (omega (arith, le, one)),
    parts_stand g name (n + 1) os le (omega (arith, one)) (λ w i. there w (inr i)),
  )

  -- parts of later indexes have no rows
  no_part : (g : ℕ) (name : List ℕ) (part : ℕ × ℕ) → length def.indexes < g → has_row rows (part_row g name part) ≡ false
  no_part g name part lt = any_not (same_key (part_row g name part)) rows (all_weaker (IsItemRow (1000 * (length def.indexes + 1))) (λ r. same_key (part_row g name part) r ≡ false) differs rows items)
    where
      differs : (r : Row) → IsItemRow (1000 * (length def.indexes + 1)) r → same_key (part_row g name part) r ≡ false
      differs r is = never (same_key (part_row g name part) r)
          (λ same. (let a = same_first def.id is.id _ (number is.item ∷ number is.change ∷ is.rest) (subst (λ (x : Row). same_key (part_row g name part) x ≡ true) is.is same) in
          let b = same_first (1000 * g + part.0) is.item _ (number is.change ∷ is.rest) a.1 in
          omega (arith, b.0, is.low, lt)))

  no_parts : (g : ℕ) (name : List ℕ) (n : ℕ) (os : List ℕ) → length def.indexes < g → AllByRecursion (λ part. has_row rows (part_row g name part) ≡ false) (numbered n os)
  no_parts g name n [] lt = tt
  no_parts g name n (o ∷ os) lt = (no_part g name (n, o) lt, no_parts g name (n + 1) os lt)

  some : (i : IndexDef) → 1 ≤ length i.ordinals → not (length i.ordinals == 0) ≡ true
  some i le = ap not (ne_eqb (length i.ordinals) 0 (λ e. omega (arith, e, le)))

  abbrev with_ordinals : IndexDef → List ℕ → IndexDef
  with_ordinals i os = record { name = i.name; ordinals = os }

  whole : (g : ℕ) (i : IndexDef) → AllByRecursion (λ part. has_row rows (part_row g i.name part) ≡ true) (numbered 1 i.ordinals) → index_told rows def.id (g, i) ≡ i
  whole g i h = ap (λ (ps : List (ℕ × ℕ)). with_ordinals i (map (λ q. q.1) ps)) (filter_own (λ part. has_row rows (part_row g i.name part)) (numbered 1 i.ordinals) h) ∙ ap (with_ordinals i) (unnumbered 1 i.ordinals)

  empty : (g : ℕ) (i : IndexDef) → length def.indexes < g → index_told rows def.id (g, i) ≡ with_ordinals i []
  empty g i lt = ap (λ (ps : List (ℕ × ℕ)). with_ordinals i (map (λ q. q.1) ps)) (none_kept (λ part. has_row rows (part_row g i.name part)) (numbered 1 i.ordinals) (no_parts g i.name 1 i.ordinals lt))

  abbrev some_ordinals : IndexDef → Bool
  some_ordinals i = not (length i.ordinals == 0)

  abbrev keep : IndexDef → List IndexDef → List IndexDef
  keep i others = if some_ordinals i then i ∷ others else others

  indexes_from : (g : ℕ) (is more : List IndexDef) → 1 ≤ g → suc (length def.indexes) ≤ g + length is → ((w : Row) → IsIn w (rows_of_indexes def.id g is) → IsIn w (latest_item_rows def))
      → AllByRecursion (λ i. 1 ≤ length i.ordinals) is → filter some_ordinals (map (index_told rows def.id) (numbered g (is ++ more))) ≡ is
  unfolding index_rows
  indexes_from g [] [] one len there parts = refl
  indexes_from g [] (i ∷ more) one len there parts =
      ap (λ (j : IndexDef). keep j (filter some_ordinals (map (index_told rows def.id) (numbered (g + 1) more)))) (empty g i (omega (arith, len)))
      ∙ indexes_from (g + 1) [] more (omega arith) (omega (arith, len)) (λ w h. absurd h) tt
  indexes_from g (i ∷ is) more one len there parts =
      let here : suc (length def.indexes) ≤ g + suc (length is) = len in
      let rest : List IndexDef = filter some_ordinals (map (index_told rows def.id) (numbered (g + 1) (is ++ more))) in
      let same : index_told rows def.id (g, i) ≡ i = whole g i (parts_stand g i.name 1 i.ordinals one (omega arith) (λ w h. there w (in_front w (index_rows def.id g i) (rows_of_indexes def.id (g + 1) is) h))) in
      ap (λ (j : IndexDef). keep j rest) same
      ∙ ap (λ (b : Bool). if b then i ∷ rest else rest) (some i parts.0)
      ∙ ap (λ (js : List IndexDef). i ∷ js)
      (indexes_from (g + 1) is more (omega arith) (omega (arith, here)) (λ w h. there w (behind w (index_rows def.id g i) (rows_of_indexes def.id (g + 1) is) h)) parts.1)

  pub indexes_are : (later more : List IndexDef) → later ≡ def.indexes ++ more → AllByRecursion (λ i. 1 ≤ length i.ordinals) def.indexes → indexes_told rows def.id later ≡ def.indexes
  unfolding latest_item_rows
  indexes_are later more e parts =
      ap (indexes_told rows def.id) e
      ∙ indexes_from 1 def.indexes more (omega arith) (omega arith) (λ w i. behind w (map _ (numbered 1 def.columns)) (rows_of_indexes def.id 1 def.indexes) i) parts
