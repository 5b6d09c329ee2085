-- Whatever row about a column stands in an accepted image, it says the key and the type that the definition has.
use Rattle.std.proofs.Common.{◌≡◌, ◌≤◌, ◌+◌, ◌⊎◌, inl, inr, ℕ, ℤ, pos, negsuc, refl, sym, ap, subst, ◌∙◌, Bool, true, false, List, [], ◌∷◌, map, arith}
use Rattle.std.proofs.lemmas.Bool.{eqb-true}
use Rattle.std.proofs.lemmas.Int.{ints}
use Rattle.std.specs.Cmp.{int_ranks}
use Rattle.std.specs.Prelude.{◌==◌, ◌*◌, ◌&&◌, ◌||◌, ◌<ℤ◌, not, if◌then◌else◌}
use Rattle.std.specs.List.{AllByRecursion, Any, list_all}
use Rattle.std.specs.Ordering.{MatchOrdering, int_cmp, int_eq, is_lt}
use Rattle.std.specs.declared.cmp.Ordering.{Ordering}
use Rattle.std.specs.declared.cmp.Ordering.TheVariants.{Less, Equal, Greater}
use Rattle.sql_value.specs.declared.column.ColumnDef.{ColumnDef}
use Rattle.sql_value.specs.TypeCodes.{type_code, first_parameter, second_parameter}
use Rattle.sql_types.specs.declared.digest.HeldDigest.{HeldDigest}
use Rattle.sql_types.specs.declared.image.Image.{Image}
use Rattle.sql_types.specs.declared.table.IndexDef.{IndexDef}
use Rattle.sql_types.specs.declared.table.TableDef.{TableDef}
use Rattle.spec_model.specs.Catalog.{Defs}
use Rattle.spec_model.specs.Lists.{is_among, numbered}
use Rattle.spec_model.specs.Rows.{Row}
use Rattle.spec_model.specs.SystemTables.{index_row, index_rows}
use Rattle.law_frame.proofs.Alls.{all_append, all_both, all_filter, all_pass, all_weaker}
use Rattle.law_catalog_rows.specs.Changes.{comes_before, position_before, position_in, same_type}
use Rattle.law_catalog_rows.specs.Encoded.{EncodeDef, IsAmong, RowsEncode, about, latest_column_row, latest_item_rows, position_in_row, rows_of_indexes}
use Rattle.law_catalog_rows.specs.IsEncodableDef.{dropped_are_right, is_encodable_def}
use Rattle.law_catalog_rows.specs.Latest.{is_past, number_at, same_number, without_change}
use Rattle.law_catalog_rows.proofs.CountingUp.{one_number}
use Rattle.law_catalog_rows.proofs.OneRowMore.{Counting, In, about_one, before_it, counting, holds_of_all, it_counts, it_follows, it_says, said_at}
use Rattle.format_image.specs.DefBytes.{ids_rise}
use Rattle.spec_rules.specs.Places.{EventPlace, PlacedRow}
use Rattle.spec_rules.specs.Rows.{columns_about, earlier_than, is_column_row, is_last_of, items_about}
use Rattle.spec_verify.specs.Definitions.{base_in, base_rows}
use Rattle.spec_verify.specs.Rules.{rows_of_image}
use Rattle.spec_verify.specs.Verdict.{AllHold}
use Rattle.spec_verify.proofs.EncodedSo.{spelled_exactly}
use Rattle.law_definitions.specs.Accepted.{KeysAndTypesAt, KeysAndTypesStay, SayColumns, SaysColumn, SaysDropped}
use Rattle.law_definitions.proofs.Bases.{base_is, rows_with_places}
use Rattle.law_definitions.proofs.Lists.{any_after, any_here, any_weaker, behind, each_passes, front}

-- ---- what the last row about a column says

-- the row says that its item is a column
abbrev IsOfColumn : Row → Type 0
IsOfColumn row = is_lt (int_cmp (number_at 1 row) (pos 1000)) ≡ true

-- a dropped column is in no key
abbrev IsFree : TableDef → ℕ × ColumnDef → Type 0
IsFree def c = is_among def.dropped c.0 ≡ true → c.1.key_position ≡ 0

-- the row says this column as it is now
record SaysLast (def : TableDef) (row : Row) (c : ℕ × ColumnDef) : Type 0 where
  pub ordinal : number_at 1 row ≡ pos c.0
  pub code : number_at 4 row ≡ pos (type_code c.1.ty)
  pub first : number_at 5 row ≡ pos (first_parameter c.1.ty)
  pub second : number_at 6 row ≡ pos (second_parameter c.1.ty)
  pub position : number_at 8 row ≡ position_in_row def c
  pub free : IsFree def c

no_column : (n : ℕ) → 1000 ≤ n → is_lt (int_cmp (pos n) (pos 1000)) ≡ true → ⊥
no_column n le = here (int_cmp (pos n) (pos 1000)) (int_ranks (pos n) (pos 1000))
  where
    here : (o : Ordering) → MatchOrdering o (pos n <ℤ pos 1000) (pos n ≡ pos 1000) (pos 1000 <ℤ pos n) → is_lt o ≡ true → ⊥
    here Less m e = omega (arith, ints, m, le)
    here Equal m e = cc
    here Greater m e = cc

parts_no_columns : (id g n : ℕ) (name : List ℕ) (os : List ℕ) → 1 ≤ g → AllByRecursion (λ row. IsOfColumn row → ⊥) (map (index_row id g name) (numbered n os))
parts_no_columns id g n name [] le = tt
parts_no_columns id g n name (o ∷ os) le = (no_column (1000 * g + n) (omega (arith, le)), parts_no_columns id g (n + 1) name os le)

no_columns : (id g : ℕ) (is : List IndexDef) → 1 ≤ g → AllByRecursion (λ row. IsOfColumn row → ⊥) (rows_of_indexes id g is)
unfolding index_rows
no_columns id g [] le = tt
no_columns id g (i ∷ is) le =
    all_append (λ row. IsOfColumn row → ⊥) (index_rows id g i) (rows_of_indexes id (g + 1) is) (parts_no_columns id g 1 i.name i.ordinals le)
    (no_columns id (g + 1) is (omega (arith, le)))

or_other : (a b : Bool) → (not a || b) ≡ true → a ≡ true → b ≡ true
or_other true b e f = e
or_other false b e f = cc

module _ (def : TableDef) where
  abbrev columns : List (ℕ × ColumnDef)
  columns = numbered 1 def.columns

  each_free : dropped_are_right def ≡ true → AllByRecursion (IsFree def) columns
  each_free e =
      let test : ℕ × ColumnDef → Bool = λ c. not (is_among def.dropped c.0) || c.1.key_position == 0 in
      all_weaker (λ c. test c ≡ true) (IsFree def) (λ c passes gone. eqb-true c.1.key_position 0 (or_other (is_among def.dropped c.0) (c.1.key_position == 0) passes gone)) columns
      (each_passes test columns (behind _ (list_all test columns) e))

  each_said : (cs : List (ℕ × ColumnDef)) → AllByRecursion (IsFree def) cs → AllByRecursion (λ row. Any (SaysLast def row) cs) (map (latest_column_row def) cs)
  each_said [] h = tt
  each_said (c ∷ cs) h = (
    any_here (SaysLast def (latest_column_row def c)) c cs (record { ordinal = refl; code = refl; first = refl; second = refl; position = refl; free = h.0 }),
    all_weaker (λ row. Any (SaysLast def row) cs) (λ row. Any (SaysLast def row) (c ∷ cs)) (λ row a. any_after (SaysLast def row) c cs a) (map (latest_column_row def) cs) (each_said cs h.1),
  )

  all_said : dropped_are_right def ≡ true → AllByRecursion (λ row. IsOfColumn row → Any (SaysLast def row) columns) (latest_item_rows def)
  unfolding latest_item_rows
  all_said e =
      all_append (λ row. IsOfColumn row → Any (SaysLast def row) columns) (map (latest_column_row def) columns) (rows_of_indexes def.id 1 def.indexes)
      (all_weaker (λ row. Any (SaysLast def row) columns) _ (λ row a of. a) (map (latest_column_row def) columns) (each_said columns (each_free e)))
      (all_weaker (λ row. IsOfColumn row → ⊥) _ (λ row never of. absurd (never of)) (rows_of_indexes def.id 1 def.indexes) (no_columns def.id 1 def.indexes (omega arith)))

  -- ---- what the rows before it say

  position_says : (row : Row) (c : ℕ × ColumnDef) → IsFree def c → number_at 8 row ≡ position_in_row def c → (number_at 8 row ≡ pos c.1.key_position) ⊎ SaysDropped def row c
  position_says row c free e = here (is_among def.dropped c.0) refl e
    where
      here : (b : Bool) → is_among def.dropped c.0 ≡ b → number_at 8 row ≡ (if b then negsuc 0 else pos c.1.key_position) → (number_at 8 row ≡ pos c.1.key_position) ⊎ SaysDropped def row c
      here true gone f = inr (record { position = f; dropped = gone; no_key = free gone })
      here false gone f = inl f

  last_says : (row : Row) (c : ℕ × ColumnDef) → SaysLast def row c → SaysColumn def row c
  last_says row c s = record { ordinal = s.ordinal; code = s.code; first = s.first; second = s.second; key = position_says row c s.free s.position }

  position_then : (c : ℕ × ColumnDef) → IsFree def c → (now : ℤ) → now ≡ position_in_row def c → (if int_eq now (negsuc 0) then pos 0 else now) ≡ pos c.1.key_position
  position_then c free now e = here (is_among def.dropped c.0) refl e
    where
      here : (b : Bool) → is_among def.dropped c.0 ≡ b → now ≡ (if b then negsuc 0 else pos c.1.key_position) → (if int_eq now (negsuc 0) then pos 0 else now) ≡ pos c.1.key_position
      here true gone f = rw f (ap (λ (n : ℕ). pos n) (sym (free gone)))
      here false gone f = rw f refl

  earlier_says : (last row : Row) → number_at 1 last ≡ number_at 1 row → comes_before last row ≡ true → (c : ℕ × ColumnDef) → SaysLast def last c → SaysColumn def row c
  earlier_says last row same before c s =
      let types : same_type row last ≡ true = front _ _ before in
      let two : (same_number 4 row last && same_number 5 row last) ≡ true = front _ _ types in
      record {
        ordinal = sym same ∙ s.ordinal;
        code = one_number (number_at 4 row) (number_at 4 last) (front _ _ two) ∙ s.code;
        first = one_number (number_at 5 row) (number_at 5 last) (behind _ _ two) ∙ s.first;
        second = one_number (number_at 6 row) (number_at 6 last) (behind _ _ types) ∙ s.second;
        key = inl (one_number (position_in row) (position_before last) (behind _ _ before) ∙ position_then c s.free (number_at 8 last) s.position);
      }

  -- with its change
  whole : (row : Row) (c : ℕ × ColumnDef) → SaysLast def (without_change 1 row) c → SaysLast def row c
  whole row c s = record {
    ordinal = sym (said_at 1 row 1 (λ e. omega (arith, e))) ∙ s.ordinal;
    code = sym (said_at 1 row 4 (λ e. omega (arith, e))) ∙ s.code;
    first = sym (said_at 1 row 5 (λ e. omega (arith, e))) ∙ s.first;
    second = sym (said_at 1 row 6 (λ e. omega (arith, e))) ∙ s.second;
    position = sym (said_at 1 row 8 (λ e. omega (arith, e))) ∙ s.position;
    free = s.free;
  }

  module _ (first second : List Row) (encoded : EncodeDef first second def) (right : dropped_are_right def ≡ true) where
    abbrev items : List Row
    items = about (pos def.id) second

    row_says : (row : Row) → In row items → IsOfColumn row → Any (SaysColumn def row) columns
    row_says row among of =
        let last : Counting 1 items row = counting 1 items row in
        let same : number_at 1 last.row ≡ number_at 1 row = about_one 1 items row last in
        let one : number_at 1 (without_change 1 last.row) ≡ number_at 1 row = said_at 1 last.row 1 (λ e. omega (arith, e)) ∙ same in
        let said : Any (SaysLast def (without_change 1 last.row)) columns =
        it_says 1 (λ w. IsOfColumn w → Any (SaysLast def w) columns) items (latest_item_rows def) encoded.items (all_said right) row among last
        (subst (λ (n : ℤ). is_lt (int_cmp n (pos 1000)) ≡ true) (sym one) of) in
        let says : Any (SaysLast def last.row) columns = any_weaker (SaysLast def (without_change 1 last.row)) (SaysLast def last.row) (whole last.row) columns said in
        here last same says last.among
      where
        here : (last : Counting 1 items row) → number_at 1 last.row ≡ number_at 1 row → Any (SaysLast def last.row) columns → (last.row ≡ row) ⊎ (In last.row items × (is_past 1 last.row row ≡ true)) → Any (SaysColumn def row) columns
        here last same says (inl it) = any_weaker (SaysLast def row) (SaysColumn def row) (last_says row) columns (subst (λ (w : Row). Any (SaysLast def w) columns) it says)
        here last same says (inr past) =
            let follows_it = it_follows items encoded.follow last.row (it_counts 1 items row among last) in
            let before : comes_before last.row row ≡ true = before_it items last.row row follows_it among past.1 in
            any_weaker (SaysLast def last.row) (SaysColumn def row) (earlier_says last.row row same before) columns says

    pub rows_say : AllByRecursion (λ row. IsOfColumn row → Any (SaysColumn def row) columns) items
    rows_say = holds_of_all (λ row. IsOfColumn row → Any (SaysColumn def row) columns) items row_says

-- ---- in an image

all_of : (P : TableDef → Type 0) (ds : Defs) → ((def : TableDef) → IsAmong def ds → P def) → AllByRecursion P ds
all_of P [] h = tt
all_of P (d ∷ ds) h = (h d (inl refl), all_of P ds (λ def among. h def (inr among)))

its_dropped : (def : TableDef) → is_encodable_def def ≡ true → dropped_are_right def ≡ true
its_dropped def e =
    behind _ _ (front _ _ (front _ _ (front _ _ (front _ _ (front _ _ (front _ _ (front _ _ (front _ _ e))))))))

rules_of : (ds : Defs) → AllByRecursion (λ def. is_encodable_def def ≡ true) ds → (def : TableDef) → IsAmong def ds → is_encodable_def def ≡ true
rules_of [] h def among = absurd among
rules_of (d ∷ ds) h def (inl same) = subst (λ (x : TableDef). is_encodable_def x ≡ true) same h.0
rules_of (d ∷ ds) h def (inr among) = rules_of ds h.1 def among

module _ (h : List ℕ → List ℕ) (i : Image) (digests : List HeldDigest) (rise : ids_rise 2 i.defs ≡ true) (hold : AllHold h i digests) where
  spelled : RowsEncode (base_rows i.tables 0) (base_rows i.tables 1) i.defs
  spelled = (spelled_exactly i rise hold.versions).0 hold.definitions

  def_stays : (def : TableDef) → IsAmong def i.defs → SayColumns def (columns_about (rows_of_image i) (pos def.id))
  def_stays def among =
      let Says : Row → Type 0 = λ row. Any (SaysColumn def row) (numbered 1 def.columns) in
      let right : dropped_are_right def ≡ true = its_dropped def (rules_of i.defs spelled.rules def among) in
      let rows = rows_say def (base_rows i.tables 0) (base_rows i.tables 1) (spelled.one def among) right in
      let items : AllByRecursion (λ (r : PlacedRow). IsOfColumn r.row → Says r.row) (items_about (rows_of_image i) (pos def.id)) =
      rows_with_places (λ row. IsOfColumn row → Says row) i.entries (pos def.id) (base_in i.tables 1)
      (subst (λ (all : List Row). AllByRecursion (λ row. IsOfColumn row → Says row) (about (pos def.id) all)) (base_is i.tables 1) rows) in
      let those : List PlacedRow = columns_about (rows_of_image i) (pos def.id) in
      all_weaker (λ (r : PlacedRow). (is_column_row r ≡ true) × (IsOfColumn r.row → Says r.row)) (λ (r : PlacedRow). Says r.row) (λ r p. p.1 p.0) those
      (all_both (λ (r : PlacedRow). is_column_row r ≡ true) (λ (r : PlacedRow). IsOfColumn r.row → Says r.row) those
      (all_pass is_column_row (items_about (rows_of_image i) (pos def.id)))
      (all_filter (λ (r : PlacedRow). IsOfColumn r.row → Says r.row) is_column_row (items_about (rows_of_image i) (pos def.id)) items))

  pub keys_and_types_stay : KeysAndTypesStay i
  keys_and_types_stay = all_of (λ def. SayColumns def (columns_about (rows_of_image i) (pos def.id))) i.defs def_stays

  pub keys_and_types_at : (place : EventPlace) → KeysAndTypesAt i place
  keys_and_types_at place =
      all_weaker _ _ (λ def say. (let P : PlacedRow → Type 0 = λ r. Any (SaysColumn def r.row) (numbered 1 def.columns) in
      let rows : List PlacedRow = columns_about (rows_of_image i) (pos def.id) in
      all_filter P (is_last_of 1 (earlier_than place rows)) (earlier_than place rows) (all_filter P _ rows say))) i.defs keys_and_types_stay
