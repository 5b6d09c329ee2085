-- The rows of a table that a legal journal leads to have a spelling.
use Rattle.std.proofs.Common.{◌≡◌, ◌≢◌, ◌<◌, ◌≤◌, ◌+◌, ◌^◌, ◌∙◌, ◌⊎◌, inl, inr, ℕ, zero, suc, refl, sym, ap, subst, Bool, true, false, List, [], ◌∷◌, ◌++◌, length, map, arith, Option, Some, None}
use Rattle.std.proofs.lemmas.Bool.Decides.{Decides-ltb}
use Rattle.std.proofs.lemmas.List.{length-append}
use Rattle.std.specs.Prelude.{◌&&◌, ◌==◌, not, nat_lt, if◌then◌else◌, get_or, IfSome, is_some, is_none}
use Rattle.std.specs.List.{AllByRecursion, filter}
use Rattle.std.specs.Ordering.{nat_cmp, is_gt}
use Rattle.std.specs.declared.cmp.Ordering.{Ordering}
use Rattle.std.specs.declared.cmp.Ordering.TheVariants.{Less, Equal, Greater}
use Rattle.sql_value.specs.declared.column.ColumnDef.{ColumnDef}
use Rattle.sql_value.specs.declared.value.Value.{Value}
use Rattle.sql_value.specs.declared.value.Value.TheVariants.{Null, Num, Text, Bytes, Date}
use Rattle.sql_value.specs.Stored.{is_stored}
use Rattle.format_event.specs.Leaf.{is_told}
use Rattle.format_event.specs.TypedBytes.{IsUtf8Text}
use Rattle.sql_types.specs.JournalRules.{ItemRules}
use Rattle.sql_types.specs.declared.journal.JournalItem.{JournalItem}
use Rattle.sql_types.specs.declared.journal.JournalItem.TheVariants.{Tx, Close}
use Rattle.sql_types.specs.declared.table.IndexDef.{IndexDef}
use Rattle.sql_types.specs.declared.table.TableDef.{TableDef}
use Rattle.sql_types.specs.declared.version.Table.{Table}
use Rattle.sql_types.specs.declared.version.TypedValue.{TypedValue}
use Rattle.sql_types.specs.declared.version.Version.{Version}
use Rattle.spec_model.specs.Keys.{key_places, position_cmp}
use Rattle.spec_model.specs.Lists.{inserted, sorted, numbered}
use Rattle.spec_model.specs.Rows.{EventId, event_cmp, start_cmp, live, filled_stored}
use Rattle.spec_model.specs.Runs.{Rising}
use Rattle.law_frame.proofs.Alls.{all_filter, all_pass, all_both, all_weaker, all_map, all_sorted}
use Rattle.law_journal.specs.Fits.{FitsColumn, Fits, FitsSoFar}
use Rattle.law_journal.specs.Kept.{IsEarlier}
use Rattle.law_journal.specs.Serial.{place_in, HasTx, IsOf}
use Rattle.law_journal.proofs.SoFar.{as_many, filled_fit}
use Rattle.format_image.specs.RowBytes.{IsValue, AreValues, IsPair, IsBaseRow, IsEnd, IsHistoryRow, comes_after, rise_after, starts_rise, AreBaseRows, AreHistoryRows, AreIndexRows, AreIndexes, IsTable}
use Rattle.format_image.specs.Rows.{Stored, stored_at, index_ordinals, index_row, stored_cmp, index_rows, ended_ones, filled_version, table_rows}
use Rattle.law_image.specs.Room.{VersionFitsFormat, TableFitsFormat}
use Rattle.law_image.proofs.Defs.{last}
use Rattle.law_image.proofs.Entries.{few_filtered, length_mapped}

-- ---- values

told : (v : Value) → v ≢ Null → is_told v ≡ true
told Null n = absurd (n refl)
told (Num s v) n = refl
told (Text t) n = refl
told (Bytes b) n = refl
told (Date d) n = refl

value_is : (c : ColumnDef) (v : Option TypedValue) → FitsColumn c v → IsUtf8Text v → IsValue v
value_is c None f u = tt
value_is c (Some t) f u = record { told = told t.value f.1; stored = subst (λ ty. is_stored t.value ty ≡ true) (sym f.0) f.2; text = u }

values_are : (cs : List ColumnDef) (row : Stored) → Fits cs row → AllByRecursion IsUtf8Text row → AllByRecursion IsValue row
values_are [] [] f u = tt
values_are [] (v ∷ vs) f u = absurd f
values_are (c ∷ cs) [] f u = absurd f
values_are (c ∷ cs) (v ∷ vs) f u = (value_is c v f.0 u.0, values_are cs vs f.1 u.1)

-- ---- order

less_after : (a b : EventId) → event_cmp a b ≡ Less → comes_after a b ≡ true
less_after a b e = here (nat_lt a.0 b.0) (a.0 == b.0) refl refl e
  where
    second : (lt same : Bool) → nat_lt a.1 b.1 ≡ lt → (a.1 == b.1) ≡ same → nat_cmp a.1 b.1 ≡ Less → lt ≡ true
    second true same p q f = refl
    second false true p q f = (let g : nat_cmp a.1 b.1 ≡ Equal = rw (p, q) refl in cc)
    second false false p q f = (let g : nat_cmp a.1 b.1 ≡ Greater = rw (p, q) refl in cc)

    here : (lt same : Bool) → nat_lt a.0 b.0 ≡ lt → (a.0 == b.0) ≡ same → event_cmp a b ≡ Less → comes_after a b ≡ true
    here true same p q f = rw p refl
    here false true p q f =
        let g : nat_cmp a.1 b.1 ≡ Less = (let k : event_cmp a b ≡ nat_cmp a.1 b.1 = rw (p, q) refl in sym k ∙ f) in
        let s : nat_lt a.1 b.1 ≡ true = second (nat_lt a.1 b.1) (a.1 == b.1) refl refl g in
        rw (p, q, s) refl
    here false false p q f = (let g : event_cmp a b ≡ Greater = rw (p, q) refl in cc)

rises : (vs : List Version) → Rising vs → starts_rise vs ≡ true
rises [] r = refl
rises (v ∷ vs) r = behind v vs r.0 r.1
  where
    behind : (last : Version) (ws : List Version) → AllByRecursion (λ w. start_cmp last w ≡ Less) ws → Rising ws → rise_after last.start ws ≡ true
    behind last [] a q = refl
    behind last (w ∷ ws) a q = rw (less_after last.start w.start a.0) (behind w ws q.0 q.1)

-- filled versions have their starts
before_filled : (columns : List ColumnDef) (v : Version) (ws : List Version) → AllByRecursion (λ w. start_cmp v w ≡ Less) ws → AllByRecursion (λ w. start_cmp v w ≡ Less) (map (filled_version columns) ws)
before_filled columns v [] h = tt
before_filled columns v (w ∷ ws) h = (h.0, before_filled columns v ws h.1)

rising_filled : (columns : List ColumnDef) (vs : List Version) → Rising vs → Rising (map (filled_version columns) vs)
rising_filled columns [] r = tt
rising_filled columns (v ∷ vs) r = (before_filled columns v vs r.0, rising_filled columns vs r.1)

rising_filtered : (test : Version → Bool) (vs : List Version) → Rising vs → Rising (filter test vs)
rising_filtered test [] r = tt
rising_filtered test (v ∷ vs) r = here (test v) (rising_filtered test vs r.1)
  where
    here : (b : Bool) → Rising (filter test vs) → Rising (if b then v ∷ filter test vs else filter test vs)
    here true more = (all_filter (λ w. start_cmp v w ≡ Less) test vs r.0, more)
    here false more = more

-- ---- versions

-- what is known of each version of a table
pub record Known (columns : List ColumnDef) (v : Version) : Type 0 where
  pub fits : Fits columns v.values
  pub start : IsPair v.start
  pub end : IfSome v.end IsPair
  pub texts : AllByRecursion IsUtf8Text v.values

module _ (columns : List ColumnDef) (few : length columns ≤ 64) where
  are_values : (v : Version) → Known columns v → AreValues v.values
  are_values v k =
      let many : length v.values ≡ length columns = as_many columns v.values k.fits in
      (omega (arith, many, few), values_are columns v.values k.fits k.texts)

  no_end : (v : Version) (end : Option EventId) → v.end ≡ end → is_none v.end ≡ true → v.end ≡ None
  no_end v None e t = e
  no_end v (Some x) e t = (let f : is_none v.end ≡ false = ap is_none e in cc)

  base_row : (v : Version) → is_none v.end ≡ true → Known columns v → IsBaseRow v
  base_row v e k = record { start = k.start; end = no_end v v.end refl e; values = are_values v k }

  an_end : (end : Option EventId) → is_some end ≡ true → IfSome end IsPair → IsEnd end
  an_end None e p = cc
  an_end (Some x) e p = p

  history_row : (v : Version) → is_some v.end ≡ true → Known columns v → IsHistoryRow v
  history_row v e k = record { start = k.start; end = an_end v.end e k.end; values = are_values v k }

  module _ (vs : List Version) (count : length vs < 2 ^ 64) (rising : Rising vs) (known : AllByRecursion (Known columns) vs) where
    base : AreBaseRows (live vs)
    base =
        let test : Version → Bool = λ v. is_none v.end in
        let less : length (filter test vs) ≤ length vs = few_filtered test vs in (
          (
            omega (arith, less, count),
            all_weaker (λ v. (test v ≡ true) × Known columns v) IsBaseRow (λ v k. base_row v k.0 k.1) (filter test vs)
                (all_both (λ v. test v ≡ true) (Known columns) (filter test vs) (all_pass test vs) (all_filter (Known columns) test vs known)),
          ),
          rises (filter test vs) (rising_filtered test vs rising),
        )

    history : AreHistoryRows (ended_ones vs)
    history =
        let test : Version → Bool = λ v. is_some v.end in
        let less : length (filter test vs) ≤ length vs = few_filtered test vs in (
          (
            omega (arith, less, count),
            all_weaker (λ v. (test v ≡ true) × Known columns v) IsHistoryRow (λ v k. history_row v k.0 k.1) (filter test vs)
                (all_both (λ v. test v ≡ true) (Known columns) (filter test vs) (all_pass test vs) (all_filter (Known columns) test vs known)),
          ),
          rises (filter test vs) (rising_filtered test vs rising),
        )

  -- ---- indexes

  length_inserted : {A : Type 0} (cmp : A → A → Ordering) (x : A) (ys : List A) → length (inserted cmp x ys) ≡ suc (length ys)
  length_inserted cmp x [] = refl
  length_inserted cmp x (y ∷ ys) = here (is_gt (cmp x y)) (length_inserted cmp x ys)
    where
      here : (b : Bool) → length (inserted cmp x ys) ≡ suc (length ys) → length (if b then y ∷ inserted cmp x ys else x ∷ y ∷ ys) ≡ suc (length (y ∷ ys))
      here true e = ap suc e
      here false e = refl

  length_sorted : {A : Type 0} (cmp : A → A → Ordering) (xs : List A) → length (sorted cmp xs) ≡ length xs
  length_sorted cmp [] = refl
  length_sorted cmp (x ∷ xs) = length_inserted cmp x (sorted cmp xs) ∙ ap suc (length_sorted cmp xs)

  length_numbered : {A : Type 0} (n : ℕ) (xs : List A) → length (numbered n xs) ≡ length xs
  length_numbered n [] = refl
  length_numbered n (x ∷ xs) = ap suc (length_numbered (n + 1) xs)

  few_places : length (key_places columns) ≤ 64
  unfolding key_places
  few_places =
      let test : ℕ × ColumnDef → Bool = λ p. not (p.1.key_position == 0) in
      let kept : List (ℕ × ColumnDef) = filter test (numbered 0 columns) in
      let a : length (map (λ (p : ℕ × ColumnDef). p.0) (sorted position_cmp kept)) ≡ length (sorted position_cmp kept) = length_mapped (λ (p : ℕ × ColumnDef). p.0) (sorted position_cmp kept) in
      let b : length (sorted position_cmp kept) ≡ length kept = length_sorted position_cmp kept in
      let c : length kept ≤ length (numbered 0 columns) = few_filtered test (numbered 0 columns) in
      let d : length (numbered 0 columns) ≡ length columns = length_numbered 0 columns in
      omega (arith, a, b, c, d, few)

  value_at : (row : Stored) (n : ℕ) → AllByRecursion IsValue row → IsValue (get_or row n None)
  value_at [] n h = tt
  value_at (v ∷ vs) zero h = h.0
  value_at (v ∷ vs) (suc n) h = value_at vs n h.1

  at_ordinal : (row : Stored) (n : ℕ) → AllByRecursion IsValue row → IsValue (stored_at row n)
  at_ordinal row zero h = tt
  at_ordinal row (suc n) h = value_at row n h

  each_ordinal : (row : Stored) (ns : List ℕ) → AllByRecursion IsValue row → AllByRecursion IsValue (map (stored_at row) ns)
  each_ordinal row [] h = tt
  each_ordinal row (n ∷ ns) h = (at_ordinal row n h, each_ordinal row ns h)

  few_ordinals : (def : TableDef) (index : IndexDef) → def.columns ≡ columns → length index.ordinals < 256 → length (index_ordinals def index) < 2 ^ 16
  unfolding index_ordinals
  few_ordinals def index same less =
      let places : length (key_places def.columns) ≤ 64 = subst (λ cs. length (key_places cs) ≤ 64) (sym same) few_places in
      let mapped : length (map suc (key_places def.columns)) ≡ length (key_places def.columns) = length_mapped suc (key_places def.columns) in
      let both : length (index.ordinals ++ map suc (key_places def.columns)) ≡ length index.ordinals + length (map suc (key_places def.columns)) = length-append index.ordinals (map suc (key_places def.columns)) in
      omega (arith, places, mapped, both, less)

  row_is : (def : TableDef) (index : IndexDef) → def.columns ≡ columns → length index.ordinals < 256 → (v : Version) → Known columns v → AreValues (index_row def index v)
  row_is def index same less v k =
      let made : length (map (stored_at v.values) (index_ordinals def index)) ≡ length (index_ordinals def index) = length_mapped (stored_at v.values) (index_ordinals def index) in
      let short : length (index_ordinals def index) < 2 ^ 16 = few_ordinals def index same less in
      (omega (arith, made, short), each_ordinal v.values (index_ordinals def index) (values_are columns v.values k.fits k.texts))

  rows_are : (def : TableDef) (index : IndexDef) (vs : List Version) → def.columns ≡ columns → length index.ordinals < 256 → length vs < 2 ^ 64 → AllByRecursion (Known columns) vs
      → AreIndexRows (index_rows def vs index)
  unfolding index_rows
  rows_are def index vs same less count known =
      let a : length (sorted stored_cmp (map (index_row def index) vs)) ≡ length (map (index_row def index) vs) = length_sorted stored_cmp (map (index_row def index) vs) in
      let b : length (map (index_row def index) vs) ≡ length vs = length_mapped (index_row def index) vs in (
        omega (arith, a, b, count),
        all_sorted AreValues stored_cmp (map (index_row def index) vs)
            (all_map (Known columns) AreValues (index_row def index) (row_is def index same less) vs known),
      )

  each_index : (def : TableDef) (vs : List Version) (is : List IndexDef) → def.columns ≡ columns → AllByRecursion (λ (i : IndexDef). length i.ordinals < 256) is → length vs < 2 ^ 64 → AllByRecursion (Known columns) vs
      → AreIndexes is (map (index_rows def vs) is)
  each_index def vs [] same less count known = tt
  each_index def vs (i ∷ is) same less count known = (rows_are def i vs same less.0 count known, each_index def vs is same less.1 count known)

-- ---- tables

-- what is known of each table
pub record KnownTable (items : List JournalItem) (t : Table) : Type 0 where
  pub rules : AllByRecursion ItemRules items
  pub ids : AllByRecursion (IsOf items) t.versions
  pub few : length t.def.columns ≤ 64
  pub rising : Rising t.versions
  pub fit : AllByRecursion (λ v. FitsSoFar t.def.columns v.values) t.versions
  pub room : TableFitsFormat t

-- the id of a transaction of the journal
is_small : (items : List JournalItem) (id : ℕ) → AllByRecursion ItemRules items → HasTx items id → id < 2 ^ 64
is_small [] id r h = absurd h
is_small (Tx other session time explicit lines ∷ is) id r h = here h (is_small is id r.1)
  where
    own : id ≡ other → id < 2 ^ 64
    own e =
        let two : (nat_lt 0 other && nat_lt other (2 ^ 63)) ≡ true = r.0.id in
        let less : other < 2 ^ 63 = (Decides-ltb other (2 ^ 63)).0 (last (nat_lt 0 other) (nat_lt other (2 ^ 63)) two) in
        omega (arith, e, less)

    here : (other ≡ id) ⊎ HasTx is id → (HasTx is id → id < 2 ^ 64) → id < 2 ^ 64
    here (inl e) more = own (sym e)
    here (inr k) more = more k
is_small (Close k ∷ is) id r h = is_small is id r.1 h

module _ (items : List JournalItem) (rules : AllByRecursion ItemRules items) where
  end_is : (place : ℕ → ℕ) (start : EventId) (end : Option EventId) → IfSome end (λ e. HasTx items e.0 × IsEarlier place start e) → IfSome end (λ e. e.1 < 2 ^ 64) → IfSome end IsPair
  end_is place start None of room = tt
  end_is place start (Some e) of room = (is_small items e.0 rules of.0, room)

  texts_filled : (cs : List ColumnDef) (values : Stored) → AllByRecursion IsUtf8Text values → AllByRecursion IsUtf8Text (filled_stored cs values)
  texts_filled [] values h = h
  texts_filled (c ∷ cs) [] h = (tt, texts_filled cs [] tt)
  texts_filled (c ∷ cs) (v ∷ vs) h = (h.0, texts_filled cs vs h.1)

  known_of : (columns : List ColumnDef) (vs : List Version) → AllByRecursion (IsOf items) vs → AllByRecursion (λ v. FitsSoFar columns v.values) vs → AllByRecursion VersionFitsFormat vs
      → AllByRecursion (Known columns) (map (filled_version columns) vs)
  known_of columns [] of f r = tt
  known_of columns (v ∷ vs) of f r = (
    record {
      fits = filled_fit columns v.values f.0;
      start = (is_small items v.start.0 rules of.0.start, r.0.start);
      end = end_is (place_in items) v.start v.end of.0.end r.0.end;
      texts = texts_filled columns v.values r.0.texts;
    },
    known_of columns vs of.1 f.1 r.1,
  )

pub table_is : (items : List JournalItem) (t : Table) → KnownTable items t → AllByRecursion (λ (i : IndexDef). length i.ordinals < 256) t.def.indexes → IsTable t.def (table_rows t)
unfolding table_rows
table_is items t k less =
    let columns = t.def.columns in
    let vs = map (filled_version columns) t.versions in
    let known : AllByRecursion (Known columns) vs = known_of items k.rules columns t.versions k.ids k.fit k.room.each in
    let rising : Rising vs = rising_filled columns t.versions k.rising in
    let as_before : length vs ≡ length t.versions = length_mapped (filled_version columns) t.versions in
    let room = k.room.count in
    let test : Version → Bool = λ v. is_none v.end in
    let kept : length (filter test vs) ≤ length vs = few_filtered test vs in
    let all : length vs < 2 ^ 64 = omega (arith, as_before, room) in
    record {
      base = base columns k.few vs all rising known;
      history = history columns k.few vs all rising known;
      indexes = each_index columns k.few t.def (live vs) t.def.indexes refl less (omega (arith, kept, all)) (all_filter (Known columns) test vs known);
    }
