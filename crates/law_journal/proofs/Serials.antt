-- The tables to which a legal journal leads.
use Rattle.std.proofs.Common.{◌≡◌, ◌<◌, ℕ, zero, suc, ◌+◌, ◌⊎◌, inl, inr, refl, sym, ap, subst, ◌∙◌, Bool, true, false, List, [], ◌∷◌, ◌++◌, map, take, Option, Some, None, arith, append_assoc, append-nil}
use Rattle.std.proofs.lemmas.Bool.{eqb-true, eq-eqb, ne_eqb}
use Rattle.std.proofs.lemmas.List.Sums.{sum_by-cons}
use Rattle.std.specs.Prelude.{◌==◌, if◌then◌else◌, IfSome}
use Rattle.std.specs.List.{AllByRecursion}
use Rattle.sql_types.specs.declared.journal.JournalItem.{JournalItem}
use Rattle.sql_types.specs.declared.journal.JournalItem.TheVariants.{Tx, Close}
use Rattle.sql_types.specs.declared.version.Table.{Table}
use Rattle.sql_types.specs.declared.version.Version.{Version}
use Rattle.spec_model.specs.Rows.{EventId, same_event}
use Rattle.spec_model.specs.Catalog.{Tables}
use Rattle.spec_model.specs.SystemTables.{first_tables}
use Rattle.spec_model.specs.Runs.{IsBefore, EndsBefore, MadeBefore, SoundTable, Sound}
use Rattle.spec_model.specs.Script.{Reading, script}
use Rattle.spec_model.specs.Journals.{cut, tx_count, IsOther, after_item, serial_from, serial, IsNext, IsLegalFrom, IsLegal}
use Rattle.law_frame.proofs.Alls.{all_weaker}
use Rattle.law_frame.proofs.OtherTransactions.{others_sound}
use Rattle.law_frame.proofs.SoundStatements.{first_sound}
use Rattle.law_journal.specs.Fits.{FitsSoFar}
use Rattle.law_journal.specs.Kept.{is_it, ends_with, count_in, count, count_all, IsNumbered, IsEarlier, AllApart, IsPast, KeptTable, Kept}
use Rattle.law_journal.specs.AppendOnly.{AllKeepRows}
use Rattle.law_journal.specs.Described.{Described}
use Rattle.law_journal.proofs.AppendOnly.{script_keeps_rows}
use Rattle.law_journal.specs.Serial.{place_in, HasTx, IsOf, TableOf, TablesOf}
use Rattle.law_journal.proofs.Counts.{same_parts}
use Rattle.law_journal.proofs.Keeping.{first_kept, first_described, none_below}
use Rattle.law_journal.proofs.Scripts.{script_both}
use Rattle.law_journal.proofs.Tables.{table_count}

-- ---- a transaction that hasn't begun has no events

module _ (id n : ℕ) where
  not_it : (e : EventId) (b : Bool) → same_event e (id, n) ≡ b → IsBefore id 0 e → is_it (id, n) e ≡ 0
  not_it e true s h = absurd (omega (arith, h (same_parts e (id, n) s).0))
  not_it e false s h = rw s refl

  no_end : (o : Option EventId) → EndsBefore id 0 o → ends_with (id, n) o ≡ 0
  no_end None h = refl
  no_end (Some e) h = not_it e (same_event e (id, n)) refl h

  none_in : (vs : List Version) → AllByRecursion (MadeBefore id 0) vs → count (id, n) vs ≡ 0
  none_in [] h = refl
  none_in (v ∷ vs) h =
      let l = sum_by-cons (count_in (id, n)) v vs in
      let s = not_it v.start (same_event v.start (id, n)) refl h.0.start in
      let e = no_end v.end h.0.end in
      let r = none_in vs h.1 in
      omega (arith, l, s, e, r)

  none_in_all : (T : Tables) → AllByRecursion (SoundTable id 0) T → count_all (id, n) T ≡ 0
  none_in_all [] h = refl
  none_in_all (t ∷ ts) h =
      let l = sum_by-cons (table_count (id, n)) t ts in
      let s = none_in t.versions h.0.before in
      let r = none_in_all ts h.1 in
      omega (arith, l, s, r)

pub no_number : (id : ℕ) (T : Tables) → Sound id 0 T → IsNumbered id 0 T
no_number id T h n = none_in_all id n T h.each ∙ none_below n

-- ---- places

pub own_place : (id : ℕ) (before : List JournalItem) (item : JournalItem) (rest : List JournalItem) → AllByRecursion (IsOther id) before → place_in (item ∷ rest) id ≡ 0 → place_in (before ++ item ∷ rest) id ≡ tx_count before
own_place id [] item rest h e = e
own_place id (Tx other session time explicit lines ∷ is) item rest h e = rw (ne_eqb other id h.0) (ap suc (own_place id is item rest h.1 e))
own_place id (Close k ∷ is) item rest h e = own_place id is item rest h.1 e

pub one_tx : (before : List JournalItem) (item : JournalItem) → tx_count (before ++ item ∷ []) ≡ tx_count before + tx_count (item ∷ [])
one_tx [] item = omega arith
one_tx (Tx other session time explicit lines ∷ is) item = omega (arith, one_tx is item)
one_tx (Close k ∷ is) item = one_tx is item

has_if : (id other : ℕ) (is : List JournalItem) (b : Bool) → (other == id) ≡ b → (if b then 0 else suc (place_in is id)) < suc (tx_count is) → (place_in is id < tx_count is → HasTx is id) → (other ≡ id) ⊎ HasTx is id
has_if id other is true e lt f = inl (eqb-true other id e)
has_if id other is false e lt f = inr (f (omega (arith, lt)))

has_tx : (items : List JournalItem) (id : ℕ) → place_in items id < tx_count items → HasTx items id
has_tx [] id lt = absurd (omega (arith, lt))
has_tx (Tx other session time explicit lines ∷ is) id lt = has_if id other is (other == id) refl lt (has_tx is id)
has_tx (Close k ∷ is) id lt = has_tx is id lt

-- ---- between transactions

module _ (place : ℕ → ℕ) where
  -- all that stands in the version is of the first m transactions
  pub record Settled (m : ℕ) (v : Version) : Type 0 where
    pub start : place v.start.0 < m
    pub end : IfSome v.end (λ e. IsEarlier place v.start e × (place e.0 < m))

  pub record SettledTable (m : ℕ) (t : Table) : Type 0 where
    pub settled : AllByRecursion (Settled m) t.versions
    pub apart : AllApart place t.def.columns t.versions
    pub fit : AllByRecursion (λ v. FitsSoFar t.def.columns v.values) t.versions

  before_next : (m id seq : ℕ) (a : EventId) → place id ≡ m → IsEarlier place a (id, seq) → place a.0 < suc m
  before_next m id seq a is b = elim b [ inl lt ↦ omega (arith, is, lt) | inr p ↦ omega (arith, is, p.0) ]

  settled_end : (m id seq : ℕ) (start : EventId) (o : Option EventId) → place id ≡ m → IfSome o (λ e. IsEarlier place start e × IsEarlier place e (id, seq)) → IfSome o (λ e. IsEarlier place start e × (place e.0 < suc m))
  settled_end m id seq start None is h = tt
  settled_end m id seq start (Some e) is h = (h.0, before_next m id seq e is h.1)

  settles : (m id seq : ℕ) (t : Table) → place id ≡ m → KeptTable place (id, seq) t → SettledTable (suc m) t
  settles m id seq t is k = record {
    settled = all_weaker (IsPast place (id, seq)) (Settled (suc m)) (λ v p. record { start = before_next m id seq v.start is p.start; end = settled_end m id seq v.start v.end is p.end }) t.versions k.past;
    apart = k.apart;
    fit = k.fit;
  }

  past_end : (m id : ℕ) (start : EventId) (o : Option EventId) → place id ≡ m → IfSome o (λ e. IsEarlier place start e × (place e.0 < m)) → IfSome o (λ e. IsEarlier place start e × IsEarlier place e (id, 0))
  past_end m id start None is h = tt
  past_end m id start (Some e) is h = (h.0, inl (omega (arith, is, h.1)))

  begins : (m id : ℕ) (t : Table) → place id ≡ m → SettledTable m t → KeptTable place (id, 0) t
  begins m id t is s = record {
    past = all_weaker (Settled m) (IsPast place (id, 0)) (λ v p. record { start = inl (omega (arith, is, p.start)); end = past_end m id v.start v.end is p.end }) t.versions s.settled;
    apart = s.apart;
    fit = s.fit;
  }

  module _ (reads : Reading) where
    pub record Between (before : List JournalItem) (T : Tables) : Type 0 where
      pub sound : (id : ℕ) → AllByRecursion (IsOther id) before → Sound id 0 T
      pub numbered : (id : ℕ) → (k : ℕ) × IsNumbered id k T
      pub each : AllByRecursion (SettledTable (tx_count before)) T
      pub described : Described T
      pub keeps_rows : AllKeepRows T

    first_part : (P : JournalItem → Type 0) (xs ys : List JournalItem) → AllByRecursion P (xs ++ ys) → AllByRecursion P xs
    first_part P [] ys h = tt
    first_part P (x ∷ xs) ys h = (h.0, first_part P xs ys h.1)

    last_one : (P : JournalItem → Type 0) (xs : List JournalItem) (y : JournalItem) → AllByRecursion P (xs ++ y ∷ []) → P y
    last_one P [] y h = h.0
    last_one P (x ∷ xs) y h = last_one P xs y h.1

    after_one : (before : List JournalItem) (T : Tables) (item : JournalItem) → ((id : ℕ) → place_in (item ∷ []) id ≡ 0 → tx_count (item ∷ []) ≡ 1 → AllByRecursion (IsOther id) before → place id ≡ tx_count before)
        → IsNext reads before T item → Between before T → Between (before ++ item ∷ []) (after_item reads T item)
    after_one before T (Tx id session time explicit lines) at next b =
        let m : ℕ = tx_count before in
        let texts : List (List ℕ) = map (λ l. l.0) lines in
        let is : place id ≡ m = at id (rw (eq-eqb id id refl) refl) refl next.1 in
        let k : Kept place id 0 T = record { sound = b.sound id next.1; own = no_number id T (b.sound id next.1); others = b.numbered; each = all_weaker (SettledTable m) (KeptTable place (id, 0)) (λ t s. begins m id t is s) T b.each } in
        let after = (script_both place id reads explicit T texts (k, b.described)).0 in
        let count : tx_count (before ++ Tx id session time explicit lines ∷ []) ≡ suc m = omega (arith, one_tx before (Tx id session time explicit lines)) in
        record {
          sound = λ other h. others_sound id other 0 (last_one (IsOther other) before (Tx id session time explicit lines) h) reads explicit T texts (b.sound id next.1) (b.sound other (first_part (IsOther other) before (Tx id session time explicit lines ∷ []) h));
          numbered = after.0.others;
          each = subst (λ (n : ℕ). AllByRecursion (SettledTable n) (after_item reads T (Tx id session time explicit lines))) (sym count)
              (all_weaker (KeptTable place (id, (script reads explicit T id texts).state.seq)) (SettledTable (suc m)) (λ t s. settles m id (script reads explicit T id texts).state.seq t is s) (script reads explicit T id texts).state.tables after.0.each);
          described = after.1;
          keeps_rows = script_keeps_rows id reads explicit T texts (b.sound id next.1) b.keeps_rows;
        }
    after_one before T (Close n) at next b =
        let count : tx_count (before ++ Close n ∷ []) ≡ tx_count before = omega (arith, one_tx before (Close n)) in
        record {
          sound = λ id h. b.sound id (first_part (IsOther id) before (Close n ∷ []) h);
          numbered = b.numbered;
          each = subst (λ (m : ℕ). AllByRecursion (SettledTable m) T) (sym count) b.each;
          described = b.described;
          keeps_rows = b.keeps_rows;
        }

pub place_of_item : (id : ℕ) (item : JournalItem) (rest : List JournalItem) → place_in (item ∷ []) id ≡ 0 → tx_count (item ∷ []) ≡ 1 → place_in (item ∷ rest) id ≡ 0
place_of_item id (Tx other session time explicit lines) rest e one = here (other == id) e
  where
    here : (b : Bool) → (let n : ℕ = if b then 0 else suc 0 in n ≡ 0) → (let n : ℕ = if b then 0 else suc (place_in rest id) in n ≡ 0)
    here true h = refl
    here false h = absurd (omega (arith, h))
place_of_item id (Close k) rest e one = absurd (omega (arith, one))

module _ (reads : Reading) (all : List JournalItem) where
  after_all : (before : List JournalItem) (T : Tables) (items : List JournalItem) → all ≡ before ++ items → IsLegalFrom reads before T items → Between (place_in all) reads before T → Between (place_in all) reads all (serial_from reads T items)
  unfolding serial_from
  after_all before T [] e legal b = subst (λ (xs : List JournalItem). Between (place_in all) reads xs T) (sym (e ∙ append-nil before)) b
  after_all before T (i ∷ is) e legal b =
      after_all (before ++ i ∷ []) (after_item reads T i) is (e ∙ sym (append_assoc before (i ∷ []) is)) legal.1
      (after_one (place_in all) reads before T i
      (λ id here one others. ap (λ (xs : List JournalItem). place_in xs id) e ∙ own_place id before i is others (place_of_item id i is here one)) legal.0 b)

  first_settled : AllByRecursion (SettledTable (place_in all) 0) first_tables
  unfolding first_tables
  first_settled = (record { settled = tt; apart = tt; fit = tt }, (record { settled = tt; apart = tt; fit = tt }, tt))

  first_keeps : AllKeepRows first_tables
  unfolding first_tables
  first_keeps = ((λ k. tt), ((λ k. tt), tt))

  first_between : Between (place_in all) reads [] first_tables
  first_between = record {
    sound = λ id h. first_sound id 0;
    numbered = (first_kept (place_in all) 0).others;
    each = first_settled;
    described = first_described;
    keeps_rows = first_keeps;
  }

  end_of : (start : EventId) (o : Option EventId) → IfSome o (λ e. IsEarlier (place_in all) start e × (place_in all e.0 < tx_count all)) → IfSome o (λ e. HasTx all e.0 × IsEarlier (place_in all) start e)
  end_of start None h = tt
  end_of start (Some e) h = (has_tx all e.0 h.1, h.0)

  table_of : (t : Table) → SettledTable (place_in all) (tx_count all) t → TableOf all t
  table_of t s = record {
    ids = all_weaker (Settled (place_in all) (tx_count all)) (IsOf all) (λ v p. record { start = has_tx all v.start.0 p.start; end = end_of v.start v.end p.end }) t.versions s.settled;
    apart = s.apart;
    fit = s.fit;
  }

  pub legal_tables : IsLegal reads all → TablesOf all (serial reads all)
  legal_tables legal =
      let b : Between (place_in all) reads all (serial reads all) = after_all [] first_tables all refl legal first_between in
      record { numbered = b.numbered; each = all_weaker (SettledTable (place_in all) (tx_count all)) (TableOf all) table_of (serial reads all) b.each }

  pub legal_described : IsLegal reads all → Described (serial reads all)
  legal_described legal = (after_all [] first_tables all refl legal first_between).described

  pub legal_keeps_rows : IsLegal reads all → AllKeepRows (serial reads all)
  legal_keeps_rows legal = (after_all [] first_tables all refl legal first_between).keeps_rows

-- ---- cuts

module _ (reads : Reading) where
  cut_from : (m : ℕ) (before : List JournalItem) (T : Tables) (items : List JournalItem) → IsLegalFrom reads before T items → IsLegalFrom reads before T (take m items)
  cut_from zero before T items h = tt
  cut_from (suc m) before T [] h = tt
  cut_from (suc m) before T (i ∷ is) h = (h.0, cut_from m (before ++ i ∷ []) (after_item reads T i) is h.1)

  pub cut_legal : (items : List JournalItem) (m : ℕ) → IsLegal reads items → IsLegal reads (cut items m)
  cut_legal items m h = cut_from m [] first_tables items h
