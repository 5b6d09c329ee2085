-- Of the columns of a definition that came later the rows so far tell those of the definition that they say.
use Rattle.std.proofs.Common.{◌≡◌, ◌≤◌, ◌<◌, ◌+◌, ℕ, ℤ, zero, suc, pos, negsuc, inl, inr, refl, sym, ap, ap₂, ◌∙◌, Bool, true, false, List, [], ◌∷◌, map, length, Option, Some, None, arith}
use Rattle.std.proofs.lemmas.Bool.{cases_lt, leb-true, ltb-true, ne_eqb}
use Rattle.std.proofs.lemmas.Int.{ints}
use Rattle.std.proofs.lemmas.List.{get_or-set_other}
use Rattle.std.specs.Prelude.{◌&&◌, nat_le, nat_lt, not, option_map, if◌then◌else◌, slice_get}
use Rattle.std.specs.List.{AllByRecursion, cons_option, filter, filter_map}
use Rattle.std.specs.List.Sorted.{IsPermutation}
use Rattle.std.specs.Ordering.{int_eq}
use Rattle.sql_value.specs.declared.value.Value.TheVariants.{Null}
use Rattle.sql_value.specs.declared.column.ColumnDef.{ColumnDef}
use Rattle.sql_types.specs.declared.table.TableDef.{TableDef}
use Rattle.spec_model.specs.Keys.{value_at}
use Rattle.spec_model.specs.Lists.{is_among, numbered, rise_within}
use Rattle.spec_model.specs.Rows.{Row, number}
use Rattle.spec_model.specs.SystemTables.{bit}
use Rattle.law_frame.specs.Alters.{ColumnsStay}
use Rattle.law_frame.proofs.Alls.{all_append, all_weaker}
use Rattle.law_frame.proofs.SameKeys.{and_true}
use Rattle.law_catalog_rows.specs.Encoded.{latest_column_row, latest_item_rows, rows_of_indexes}
use Rattle.law_catalog_rows.specs.Latest.{number_at, without_change, latest_said}
use Rattle.law_catalog_rows.proofs.CountingUp.{is_number, other_number}
use Rattle.law_catalog_rows.proofs.ItemRows.{IsOther, new_item}
use Rattle.law_catalog_rows.proofs.LatestOf.{IsIn}
use Rattle.law_catalog_rows.proofs.OneRowMore.{said_at}
use Rattle.spec_asof.specs.DefTold.{column_said, column_told, columns_told, dropped_told, last_row, says_dropped, text_in}
use Rattle.law_asof.proofs.LastRow.{LastSays, in_front, last_says, no_last}

before : (k : ℕ) → 1 ≤ k → (m : ℕ) × (suc m ≡ k)
before zero le = absurd (omega (arith, le))
before (suc m) le = (m, refl)

-- ---- the rows of a definition's columns

other_item : (m n : ℕ) → (m ≡ n → ⊥) → pos m ≡ pos n → ⊥
other_item m n ne e = ne (omega (arith, ints, e))

-- a value of a row, apart from its change
pub kept_value : (k : ℕ) (row : Row) (place : ℕ) → (place ≡ k + 1 → ⊥) → value_at (without_change k row) place ≡ value_at row place
kept_value k row place other = get_or-set_other row (k + 1) place (number 0) Null other

module _ (def : TableDef) where
  abbrev rows_from : ℕ → List ColumnDef → List Row
  rows_from n cs = map (latest_column_row def) (numbered n cs)

  -- the row is the only one about its item
  abbrev IsOnly : ℕ → Row → Row → Type 0
  IsOnly item w row = number_at 1 row ≡ pos item → row ≡ w

  none_behind : (item n : ℕ) (cs : List ColumnDef) → item < n → AllByRecursion (IsOther item) (rows_from n cs)
  none_behind item n [] lt = tt
  none_behind item n (c ∷ cs) lt = (other_item n item (λ e. omega (arith, e, lt)), none_behind item (n + 1) cs (omega (arith, lt)))

  only_column : (item : ℕ) (c : ColumnDef) (n i : ℕ) (cs : List ColumnDef) → slice_get cs i ≡ Some c → n + i ≡ item → AllByRecursion (IsOnly item (latest_column_row def (item, c))) (rows_from n cs)
  only_column item c n i [] e at = cc
  only_column item c n zero (b ∷ cs) e at =
      let same : b ≡ c = cc in
      let k : n ≡ item = omega (arith, at) in (
        (λ is. ap₂ (λ (m : ℕ) (d : ColumnDef). latest_column_row def (m, d)) k same),
        all_weaker (IsOther item) (IsOnly item (latest_column_row def (item, c))) (λ row none is. absurd (none is)) (rows_from (n + 1) cs) (none_behind item (n + 1) cs (omega (arith, k))),
      )
  only_column item c n (suc i) (b ∷ cs) e at = (
    (λ is. absurd (other_item n item (λ k. omega (arith, k, at)) is)),
    only_column item c (n + 1) i cs e (omega (arith, at)),
  )

  has_column : (item : ℕ) (c : ColumnDef) (n i : ℕ) (cs : List ColumnDef) → slice_get cs i ≡ Some c → n + i ≡ item → IsIn (latest_column_row def (item, c)) (rows_from n cs)
  has_column item c n i [] e at = cc
  has_column item c n zero (b ∷ cs) e at =
      let same : b ≡ c = cc in
      let k : n ≡ item = omega (arith, at) in
      inl (ap₂ (λ (m : ℕ) (d : ColumnDef). latest_column_row def (m, d)) k same)
  has_column item c n (suc i) (b ∷ cs) e at = inr (has_column item c (n + 1) i cs e (omega (arith, at)))

  -- the definition with no columns
  abbrev bare : TableDef
  bare = record def { columns = [] }

  parts_other : (item : ℕ) → 0 < item → item < 1000 → AllByRecursion (IsOther item) (rows_of_indexes def.id 1 def.indexes)
  unfolding latest_item_rows
  parts_other item up low = new_item bare item up low

  -- ---- what the last rows say

  module _ (rows : List Row) (p : IsPermutation (latest_said 1 rows) (latest_item_rows def)) (few : length def.columns < 1000) where
    abbrev SaysColumn : ℕ → ColumnDef → Type 0
    SaysColumn item c = LastSays 1 rows (latest_item_rows def) p (pos item) (latest_column_row def (item, c))

    in_place : (cs : List ColumnDef) (i : ℕ) (c : ColumnDef) → slice_get cs i ≡ Some c → i < length cs
    in_place [] i c e = cc
    in_place (b ∷ cs) zero c e = omega arith
    in_place (b ∷ cs) (suc i) c e = let more : i < length cs = in_place cs i c e in omega (arith, more)

    pub says_column : (item i : ℕ) (c : ColumnDef) → slice_get def.columns i ≡ Some c → suc i ≡ item → SaysColumn item c
    unfolding latest_item_rows
    says_column item i c e at =
        let at_one : 1 + i ≡ item = omega (arith, at) in
        let w : Row = latest_column_row def (item, c) in
        let low : i < length def.columns = in_place def.columns i c e in
        last_says 1 rows (latest_item_rows def) p (pos item) w
        (in_front w (rows_from 1 def.columns) (rows_of_indexes def.id 1 def.indexes) (has_column item c 1 i def.columns e at_one)) refl
        (all_append (IsOnly item w) (rows_from 1 def.columns) (rows_of_indexes def.id 1 def.indexes) (only_column item c 1 i def.columns e at_one)
        (all_weaker (IsOther item) (IsOnly item w) (λ row none is. absurd (none is)) (rows_of_indexes def.id 1 def.indexes) (parts_other item (omega (arith, at)) (omega (arith, at, low, few)))))

    pub no_column : (item : ℕ) → length def.columns < item → item < 1000 → last_row 1 (pos item) rows ≡ None
    no_column item up low = no_last 1 rows (latest_item_rows def) p (pos item) (new_item def item up low)

    -- ---- columns

    as_bit : (b : Bool) → not (int_eq (pos (bit b)) (pos 0)) ≡ b
    as_bit true = refl
    as_bit false = refl

    same_column : (a b : ColumnDef) → a.name ≡ b.name → a.ty ≡ b.ty → a.nullable ≡ b.nullable → a.key_position ≡ b.key_position → a ≡ b
    same_column a b e f g h = λ i. record { name = e i; ty = f i; nullable = g i; key_position = h i }

    column_is : (item : ℕ) (c d : ColumnDef) → d.ty ≡ c.ty → d.key_position ≡ c.key_position → (l : SaysColumn item c) → column_said d l.row ≡ c
    column_is item c d ty key l =
        same_column (column_said d l.row) c
        (ap text_in (sym (kept_value 1 l.row 3 (λ e. omega (arith, e))) ∙ ap (λ (w : Row). value_at w 3) l.says))
        ty
        (ap (λ (n : ℤ). not (int_eq n (pos 0))) (sym (said_at 1 l.row 7 (λ e. omega (arith, e))) ∙ ap (number_at 7) l.says) ∙ as_bit c.nullable)
        key

    -- in front of others, where there is a row
    abbrev tell : ColumnDef → Option Row → List ColumnDef → List ColumnDef
    tell d o others = cons_option (option_map (column_said d) o) others

    -- from the column with this ordinal on
    columns_from : (n : ℕ) (cs ds : List ColumnDef) → ((i m : ℕ) → suc m ≡ n + i → slice_get def.columns m ≡ slice_get cs i) → suc (length def.columns) ≤ n + length cs → 1 ≤ n
        → n + length ds ≤ 1000 → ColumnsStay cs ds → filter_map (column_told rows) (numbered n ds) ≡ cs
    columns_from n [] [] at len one low stay = refl
    columns_from n [] (d ∷ ds) at len one low stay =
        let here : n + suc (length ds) ≤ 1000 = low in
        ap (λ (o : Option Row). tell d o (filter_map (column_told rows) (numbered (n + 1) ds))) (no_column n (omega (arith, len)) (omega (arith, here)))
        ∙ columns_from (n + 1) [] ds at_next (omega (arith, len)) (omega arith) (omega (arith, here)) stay.2
      where
        at_next : (i m : ℕ) → suc m ≡ n + 1 + i → slice_get def.columns m ≡ slice_get [] i
        at_next i m e = at (suc i) m (omega (arith, e))
    columns_from n (c ∷ cs) [] at len one low stay = absurd stay
    columns_from n (c ∷ cs) (d ∷ ds) at len one low stay =
        let h : (m : ℕ) × (suc m ≡ n) = before n one in
        let here : n + suc (length ds) ≤ 1000 = low in
        let there : suc (length def.columns) ≤ n + suc (length cs) = len in
        let l : SaysColumn n c = says_column n h.0 c (at 0 h.0 (omega (arith, h.1))) h.1 in
        ap (λ (o : Option Row). tell d o (filter_map (column_told rows) (numbered (n + 1) ds))) l.is
        ∙ ap₂ (λ (x : ColumnDef) (xs : List ColumnDef). x ∷ xs) (column_is n c d stay.0 stay.1 l)
        (columns_from (n + 1) cs ds (λ i m e. at (suc i) m (omega (arith, e))) (omega (arith, there)) (omega arith) (omega (arith, here)) stay.3)

    pub columns_are : (later : List ColumnDef) → ColumnsStay def.columns later → length later ≤ 64 → columns_told rows later ≡ def.columns
    columns_are later stay many = columns_from 1 def.columns later (λ i m e. ap (slice_get def.columns) (omega (arith, e))) (omega arith) (omega arith) (omega (arith, many)) stay

    -- ---- dropped columns

    is_minus : (b : Bool) (n : ℕ) → int_eq (if b then negsuc 0 else pos n) (negsuc 0) ≡ b
    is_minus true n = is_number (negsuc 0) (negsuc 0) refl
    is_minus false n = other_number (pos n) (negsuc 0) (λ e. omega (arith, ints, e))

    says_so : (item i : ℕ) (c : ColumnDef) → slice_get def.columns i ≡ Some c → suc i ≡ item → says_dropped (last_row 1 (pos item) rows) ≡ is_among def.dropped item
    says_so item i c e at =
        let l : SaysColumn item c = says_column item i c e at in
        ap says_dropped l.is
        ∙ ap (λ (n : ℤ). int_eq n (negsuc 0)) (sym (said_at 1 l.row 8 (λ k. omega (arith, k))) ∙ ap (number_at 8) l.says)
        ∙ is_minus (is_among def.dropped item) c.key_position

    -- numbers that rise within a limit are none above it
    rises_to : (last limit n : ℕ) (ns : List ℕ) → rise_within last limit (n ∷ ns) ≡ true → (last < n) × (n ≤ limit) × (rise_within n limit ns ≡ true)
    rises_to last limit n ns e =
        let p = and_true (nat_lt last n && nat_le n limit) (rise_within n limit ns) e in
        let q = and_true (nat_lt last n) (nat_le n limit) p.0 in
        (ltb-true last n q.0, leb-true n limit q.1, p.1)

    none_above : (last limit item : ℕ) (ns : List ℕ) → rise_within last limit ns ≡ true → limit < item → is_among ns item ≡ false
    none_above last limit item [] e lt = refl
    none_above last limit item (n ∷ ns) e lt =
        let r = rises_to last limit n ns e in
        rw (ne_eqb n item (λ k. omega (arith, k, r.1, lt))) (none_above n limit item ns r.2 lt)

    column_at : (cs : List ColumnDef) (i : ℕ) → i < length cs → (c : ColumnDef) × (slice_get cs i ≡ Some c)
    column_at [] i lt = absurd (omega (arith, lt))
    column_at (c ∷ cs) zero lt = (c, refl)
    column_at (c ∷ cs) (suc i) lt = let k : suc i < suc (length cs) = lt in column_at cs i (omega (arith, k))

    module _ (rise : rise_within 0 (length def.columns) def.dropped ≡ true) where
      says_all : (item : ℕ) → 0 < item → item ≤ 64 → says_dropped (last_row 1 (pos item) rows) ≡ is_among def.dropped item
      says_all zero up low = absurd (omega (arith, up))
      says_all (suc i) up low = elim (cases_lt i (length def.columns)) [
        | inl lt ↦ (let c = column_at def.columns i lt in says_so (suc i) i c.0 c.1 refl)
        | inr le ↦ ap says_dropped (no_column (suc i) (omega (arith, le)) (omega (arith, low))) ∙ sym (none_above 0 (length def.columns) (suc i) def.dropped rise (omega (arith, le)))
      ]

      same_filter : (last limit : ℕ) (ns : List ℕ) → rise_within last limit ns ≡ true → limit ≤ 64
          → filter (λ ordinal. says_dropped (last_row 1 (pos ordinal) rows)) ns ≡ filter (is_among def.dropped) ns
      same_filter last limit [] e le = refl
      same_filter last limit (n ∷ ns) e le =
          let r = rises_to last limit n ns e in
          ap₂ (λ (b : Bool) (l : List ℕ). if b then n ∷ l else l) (says_all n (omega (arith, r.0)) (omega (arith, r.1, le))) (same_filter n limit ns r.2 le)

      pub dropped_are : (limit : ℕ) (later : List ℕ) → rise_within 0 limit later ≡ true → limit ≤ 64 → filter (is_among def.dropped) later ≡ def.dropped → dropped_told rows later ≡ def.dropped
      dropped_are limit later e le stay = same_filter 0 limit later e le ∙ stay
