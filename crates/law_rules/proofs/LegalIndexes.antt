-- In a legal journal indexes are made in time.
use Rattle.std.proofs.Common.{◌≡◌, ℕ, ℤ, pos, refl, Bool, true, false, List, [], ◌∷◌, inl, inr}
use Rattle.std.specs.Cmp.{int_ranks}
use Rattle.std.specs.Prelude.{◌||◌, ◌<ℤ◌, not}
use Rattle.std.specs.List.{AllByRecursion, list_all, list_any}
use Rattle.std.specs.Ordering.{MatchOrdering, int_cmp, is_lt}
use Rattle.std.specs.declared.cmp.Ordering.{Ordering}
use Rattle.std.specs.declared.cmp.Ordering.TheVariants.{Less, Equal, Greater}
use Rattle.sql_types.specs.declared.journal.JournalItem.{JournalItem}
use Rattle.sql_types.specs.declared.table.TableDef.{TableDef}
use Rattle.spec_model.specs.Journals.{serial, IsLegal}
use Rattle.spec_model.specs.Script.{Reading}
use Rattle.spec_history.specs.Lists.{Some_of}
use Rattle.law_frame.proofs.Alls.{all_weaker}
use Rattle.law_journal.specs.Serial.{place_in}
use Rattle.law_catalog_rows.specs.Changes.{position_in}
use Rattle.law_catalog_rows.specs.Encoded.{IsAmong}
use Rattle.law_catalog_rows.specs.Latest.{is_past}
use Rattle.law_catalog_rows.specs.Written.{ReadsWritten}
use Rattle.law_catalog_rows.proofs.CountingUp.{one_number}
use Rattle.spec_rules.specs.Places.{PlacedRow, stands_before}
use Rattle.spec_rules.specs.Rows.{tables_about, columns_about, indexes_about, is_first_of, seconds, firsts, item_of}
use Rattle.spec_rules.specs.Indexes.{is_column_of, is_made_in_time, indexes_are_in_time}
use Rattle.law_rules.specs.Steps.{Catalog, catalog_of}
use Rattle.law_rules.proofs.ColumnNames.{all_tests}
use Rattle.law_rules.proofs.Frame.{legal_catalog}
use Rattle.law_rules.proofs.IndexRows.{IsSecond, OfItsColumn, InTime}
use Rattle.law_rules.proofs.IndexesKept.{AllInTime, indexes_kept, nothing_in_time}
use Rattle.law_rules.proofs.InOrder.{Before, all_of, never_true, not_true, or_second}

-- ---- first and second rows

some_passes : {A : Type 0} (test : A → Bool) (xs : List A) → list_any test xs ≡ true → Some_of (λ x. test x ≡ true) xs
some_passes test [] e = cc
some_passes test (x ∷ xs) e = here (test x) refl e (some_passes test xs)
  where
    here : (b : Bool) → test x ≡ b → (b || list_any test xs) ≡ true → (list_any test xs ≡ true → Some_of (λ y. test y ≡ true) xs) → Some_of (λ y. test y ≡ true) (x ∷ xs)
    here true is f g = inl is
    here false is f g = inr (g f)

passes_some : {A : Type 0} (test : A → Bool) (xs : List A) → Some_of (λ x. test x ≡ true) xs → list_any test xs ≡ true
passes_some test [] h = absurd h
passes_some test (x ∷ xs) h = elim h [ inl e ↦ rw e refl | inr more ↦ or_second (test x) (list_any test xs) (passes_some test xs more) ]

twice_not : (b : Bool) → not (not b) ≡ true → b ≡ true
twice_not true e = refl
twice_not false e = cc

module _ (k : ℕ) (rows : List PlacedRow) (r : PlacedRow) where
  second_is : not (is_first_of k rows r) ≡ true → IsSecond k rows r
  second_is e = some_passes (λ (b : PlacedRow). is_past k r.row b.row) rows (twice_not (list_any (λ (b : PlacedRow). is_past k r.row b.row) rows) e)

  first_is : is_first_of k rows r ≡ true → IsSecond k rows r → ⊥
  first_is e second =
      never_true (list_any (λ (b : PlacedRow). is_past k r.row b.row) rows) (passes_some (λ (b : PlacedRow). is_past k r.row b.row) rows second) (not_true (list_any (λ (b : PlacedRow). is_past k r.row b.row) rows) e)

-- ---- the rule

is_lower : (a b : ℤ) → is_lt (int_cmp a b) ≡ true → a <ℤ b
is_lower a b h = here (int_cmp a b) (int_ranks a b) h
  where
    here : (o : Ordering) → MatchOrdering o (a <ℤ b) (a ≡ b) (b <ℤ a) → is_lt o ≡ true → a <ℤ b
    here Less m e = m
    here Equal m e = cc
    here Greater m e = cc

where_true : (a b : Bool) → (a ≡ true → b ≡ true) → (not a || b) ≡ true
where_true true b h = h refl
where_true false b h = refl

module _ (T C I : List PlacedRow) (w : PlacedRow) (h : InTime T C I w) where
  before_drop : list_all (λ (s : PlacedRow). stands_before w.place s.place) (seconds 0 T) ≡ true
  before_drop =
      all_of (λ (s : PlacedRow). stands_before w.place s.place) (λ r. not (is_first_of 0 T r)) T
      (all_weaker (λ s. IsSecond 0 T s → Before w s) (λ (s : PlacedRow). not (is_first_of 0 T s) ≡ true → stands_before w.place s.place ≡ true) (λ s q e. q (second_is 0 T s e)) T h.tables)

  after_lower : list_all (λ (b : PlacedRow). not (is_lt (int_cmp (item_of b) (item_of w))) || stands_before b.place w.place) I ≡ true
  after_lower =
      all_tests (λ (b : PlacedRow). not (is_lt (int_cmp (item_of b) (item_of w))) || stands_before b.place w.place) I
      (all_weaker (λ b. item_of b <ℤ item_of w → Before b w) (λ (b : PlacedRow). (not (is_lt (int_cmp (item_of b) (item_of w))) || stands_before b.place w.place) ≡ true)
      (λ b q. where_true (is_lt (int_cmp (item_of b) (item_of w))) (stands_before b.place w.place) (λ e. q (is_lower (item_of b) (item_of w) e))) I h.indexes)

  after_column : list_all (λ (c : PlacedRow). not (is_column_of w c) || stands_before c.place w.place) (firsts 1 C) ≡ true
  after_column =
      all_of (λ (c : PlacedRow). not (is_column_of w c) || stands_before c.place w.place) (is_first_of 1 C) C
      (all_weaker (λ c. OfItsColumn w c → (IsSecond 1 C c → ⊥) → Before c w) (λ (c : PlacedRow). is_first_of 1 C c ≡ true → (not (is_column_of w c) || stands_before c.place w.place) ≡ true)
      (λ c q e. where_true (is_column_of w c) (stands_before c.place w.place) (λ of. q (one_number (item_of c) (position_in w.row) of) (first_is 1 C c e))) C h.firsts)

  before_column_drop : list_all (λ (c : PlacedRow). not (is_column_of w c) || stands_before w.place c.place) (seconds 1 C) ≡ true
  before_column_drop =
      all_of (λ (c : PlacedRow). not (is_column_of w c) || stands_before w.place c.place) (λ r. not (is_first_of 1 C r)) C
      (all_weaker (λ c. OfItsColumn w c → IsSecond 1 C c → Before w c) (λ (c : PlacedRow). not (is_first_of 1 C c) ≡ true → (not (is_column_of w c) || stands_before w.place c.place) ≡ true)
      (λ c q e. where_true (is_column_of w c) (stands_before w.place c.place) (λ of. q (one_number (item_of c) (position_in w.row) of) (second_is 1 C c e))) C h.seconds)

  made_in_time : is_made_in_time T C I w ≡ true
  made_in_time = rw (before_drop, after_lower, after_column, before_column_drop) refl

in_time : (T C I : List PlacedRow) → AllByRecursion (InTime T C I) I → indexes_are_in_time T C I ≡ true
unfolding indexes_are_in_time
in_time T C I h = all_tests (is_made_in_time T C I) I (all_weaker (InTime T C I) (λ w. is_made_in_time T C I w ≡ true) (λ w q. made_in_time T C I w q) I h)

-- ---- legal journals

module _ (reads : Reading) (items : List JournalItem) (written : ReadsWritten reads) (legal : IsLegal reads items) where
  abbrev x : Catalog
  x = catalog_of (place_in items) (serial reads items)

  all_in_time : AllInTime x
  all_in_time = legal_catalog AllInTime indexes_kept nothing_in_time reads written items legal

  pub indexes_in_time : (def : TableDef) → IsAmong def x.defs → indexes_are_in_time (tables_about x.rows (pos def.id)) (columns_about x.rows (pos def.id)) (indexes_about x.rows (pos def.id)) ≡ true
  indexes_in_time def among = in_time (tables_about x.rows (pos def.id)) (columns_about x.rows (pos def.id)) (indexes_about x.rows (pos def.id)) (all_in_time.1 def among).times
