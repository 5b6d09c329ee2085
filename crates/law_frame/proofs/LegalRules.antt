-- A legal journal keeps the rules on ids and closings.
use Rattle.std.proofs.Common.{◌≡◌, ◌≢◌, ℕ, ◌+◌, ◌-◌, ◌≤◌, Bool, true, false, List, [], ◌∷◌, ◌++◌, refl, sym, arith}
use Rattle.std.specs.List.{AllByRecursion}
use Rattle.std.proofs.lemmas.Bool.{ne_eqb, le-leb}
use Rattle.sql_types.specs.declared.journal.Journal.{Journal}
use Rattle.sql_types.specs.declared.journal.JournalItem.{JournalItem}
use Rattle.sql_types.specs.declared.journal.JournalItem.TheVariants.{Tx, Close}
use Rattle.sql_types.specs.JournalRules.{JournalRules, is_among, ids_differ, closes_follow}
use Rattle.spec_model.specs.Catalog.{Tables}
use Rattle.spec_model.specs.SystemTables.{first_tables}
use Rattle.spec_model.specs.Script.{Reading}
use Rattle.spec_model.specs.Journals.{tx_count, closed, IsOther, after_item, IsLegalFrom, IsLegal}
use Rattle.spec_model.specs.LegalJournals.{IsLegalJournal}
use Rattle.law_frame.proofs.LegalSound.{first_part, last_one}

pub count_append : (is js : List JournalItem) → tx_count (is ++ js) ≡ tx_count is + tx_count js
count_append [] js = omega arith
count_append (Tx id session time explicit script ∷ is) js = omega (arith, count_append is js)
count_append (Close k ∷ is) js = count_append is js

pub closed_append : (is js : List JournalItem) → closed (is ++ js) ≡ closed is + closed js
closed_append [] js = omega arith
closed_append (Tx id session time explicit script ∷ is) js = closed_append is js
closed_append (Close k ∷ is) js = omega (arith, closed_append is js)

-- an id that is none of the transactions before is none of these
abbrev AreIds : List ℕ → List JournalItem → Type 0
AreIds ids before = (id : ℕ) → AllByRecursion (IsOther id) before → is_among id ids ≡ false

with_id : (ids : List ℕ) (before : List JournalItem) (own : ℕ) (session : List ℕ) (time : ℕ) (explicit : Bool) (lines : List (List ℕ × List ℕ))
    → AreIds ids before → AreIds (own ∷ ids) (before ++ Tx own session time explicit lines ∷ [])
with_id ids before own session time explicit lines h id others =
    let item = Tx own session time explicit lines in
    let differs : own ≢ id = last_one (IsOther id) before item others in
    rw (ne_eqb id own (λ e. differs (sym e))) (h id (first_part (IsOther id) before (item ∷ []) others))

module _ (reads : Reading) where
  ids_from : (before : List JournalItem) (ids : List ℕ) (T : Tables) (items : List JournalItem) → IsLegalFrom reads before T items
      → AreIds ids before → ids_differ ids items ≡ true
  ids_from before ids T [] legal h = refl
  ids_from before ids T (Tx own session time explicit lines ∷ is) legal h =
      let item = Tx own session time explicit lines in
      rw (h own legal.0.1)
      (ids_from (before ++ item ∷ []) (own ∷ ids) (after_item reads T item) is legal.1 (with_id ids before own session time explicit lines h))
  ids_from before ids T (Close k ∷ is) legal h =
      ids_from (before ++ Close k ∷ []) ids T is legal.1 (λ id others. h id (first_part (IsOther id) before (Close k ∷ []) others))

  closes_from : (before : List JournalItem) (pending : ℕ) (T : Tables) (items : List JournalItem) → IsLegalFrom reads before T items
      → closed before + pending ≡ tx_count before → closes_follow pending items ≡ true
  closes_from before pending T [] legal h = refl
  closes_from before pending T (Tx own session time explicit lines ∷ is) legal h =
      let item = Tx own session time explicit lines in
      closes_from (before ++ item ∷ []) (pending + 1) (after_item reads T item) is legal.1
      (omega (arith, h, count_append before (item ∷ []), closed_append before (item ∷ [])))
  closes_from before pending T (Close k ∷ is) legal h =
      let within = legal.0.2 in
      let few : k ≤ pending = omega (arith, within, h) in
      rw (le-leb k pending few)
      (closes_from (before ++ Close k ∷ []) (pending - k) T is legal.1
      (omega (arith, h, few, count_append before (Close k ∷ []), closed_append before (Close k ∷ []))))

  pub legal_ids : (items : List JournalItem) → IsLegal reads items → ids_differ [] items ≡ true
  legal_ids items legal = ids_from [] [] first_tables items legal (λ id others. refl)

  pub legal_closes : (items : List JournalItem) → IsLegal reads items → closes_follow 0 items ≡ true
  legal_closes items legal = closes_from [] 0 first_tables items legal refl

  pub legal_rules : (j : Journal) → IsLegalJournal reads j → JournalRules j
  legal_rules j h = record {
    version = h.version;
    database = h.database;
    items = h.items;
    ids = legal_ids j.items h.legal;
    closes = legal_closes j.items h.legal;
  }
