-- What the first items of a journal made stays under all that follow.
use Rattle.std.proofs.Common.{◌≡◌, ℕ, zero, suc, ◌⊎◌, inl, inr, refl, ap, sym, subst, ◌∙◌, Bool, true, false, List, [], ◌∷◌, ◌++◌, map, take, drop, Option, Some, None, append-nil, append_assoc}
use Rattle.std.specs.Prelude.{◌==◌, ◌||◌, if◌then◌else◌, IfSome}
use Rattle.std.specs.List.{AllByRecursion, filter}
use Rattle.std.proofs.lemmas.Bool.{eq-eqb, ne_eqb}
use Rattle.std.proofs.lemmas.List.{take-append-drop}
use Rattle.sql_types.specs.declared.journal.JournalItem.{JournalItem}
use Rattle.sql_types.specs.declared.journal.JournalItem.TheVariants.{Tx, Close}
use Rattle.sql_types.specs.declared.version.Table.{Table}
use Rattle.sql_types.specs.declared.version.Version.{Version}
use Rattle.spec_model.specs.Catalog.{Tables, versions_of}
use Rattle.spec_model.specs.Journals.{cut, upto, IsOther, after_item, serial_from, serial, IsNext, IsLegalFrom, IsLegal}
use Rattle.spec_model.specs.Rows.{EventId}
use Rattle.spec_model.specs.Script.{Reading}
use Rattle.spec_model.specs.SystemTables.{first_tables}
use Rattle.spec_model.specs.Lists.{is_among}
use Rattle.law_journal.specs.Kept.{IsEarlier}
use Rattle.law_journal.specs.Serial.{place_in, HasTx, IsOf, TableOf}
use Rattle.law_journal.proofs.Serials.{cut_legal, legal_tables, legal_described}
use Rattle.spec_ledger.proofs.Adding.{serial_more}
use Rattle.law_accepts.proofs.Along.{more_legal}
use Rattle.law_accepts.proofs.Begins.{begins}
use Rattle.spec_asof.specs.DatabaseAt.{end_at, with_end_at, left_of}
use Rattle.spec_history.specs.Journals.{ids_of}
use Rattle.law_asof.proofs.Stays.{script_leaves, with_this_end}

-- ---- ids

-- the journal has a transaction of this id
abbrev among : List JournalItem → ℕ → Bool
among items = is_among (ids_of items)

not_here : (id : ℕ) (A mid : List JournalItem) → AllByRecursion (IsOther id) (A ++ mid) → among A id ≡ false
not_here id [] mid h = refl
not_here id (Tx other session time explicit lines ∷ is) mid h = rw (ne_eqb other id h.0) (not_here id is mid h.1)
not_here id (Close k ∷ is) mid h = not_here id is mid h.1

here_or_later : (b c : Bool) → (b ≡ true) ⊎ (c ≡ true) → (b || c) ≡ true
here_or_later true c h = refl
here_or_later false c (inl e) = cc
here_or_later false c (inr e) = e

is_here : (A : List JournalItem) (id : ℕ) → HasTx A id → among A id ≡ true
is_here [] id h = absurd h
is_here (Tx other session time explicit lines ∷ is) id (inl e) = here_or_later (other == id) (among is id) (inl (eq-eqb other id e))
is_here (Tx other session time explicit lines ∷ is) id (inr h) = here_or_later (other == id) (among is id) (inr (is_here is id h))
is_here (Close k ∷ is) id h = is_here is id h

-- ---- all that the first items made is of their transactions

module _ (A : List JournalItem) where
  abbrev has : ℕ → Bool
  has = among A

  end_within : (o : Option EventId) → IfSome o (λ e. HasTx A e.0) → end_at has o ≡ o
  end_within None h = refl
  end_within (Some e) h = rw (is_here A e.0 h) refl

  end_of : (v : Version) (o : Option EventId) → v.end ≡ o → IsOf A v → IfSome o (λ e. HasTx A e.0)
  end_of v None e is = tt
  end_of v (Some x) e is = (subst (λ (o : Option EventId). IfSome o (λ (y : EventId). HasTx A y.0 × IsEarlier (place_in A) v.start y)) e is.end).0

  one_within : (v : Version) (vs : List Version) → IsOf A v → left_of has vs ≡ vs → left_of has (v ∷ vs) ≡ v ∷ vs
  one_within v vs is e =
      ap (λ (b : Bool). map (with_end_at has) (if b then v ∷ filter (λ w. has w.start.0) vs else filter (λ w. has w.start.0) vs)) (is_here A v.start.0 is.start)
      ∙ ap (λ (o : Option EventId). with_this_end v o ∷ left_of has vs) (end_within v.end (end_of v v.end refl is))
      ∙ ap (λ (l : List Version). v ∷ l) e

  all_within : (vs : List Version) → AllByRecursion (IsOf A) vs → left_of has vs ≡ vs
  all_within [] all = refl
  all_within (v ∷ vs) all = one_within v vs all.0 (all_within vs all.1)

  within_if : (b : Bool) (t : Table) (vs : List Version) → left_of has t.versions ≡ t.versions → left_of has vs ≡ vs → left_of has (if b then t.versions else vs) ≡ (if b then t.versions else vs)
  within_if true t vs e f = e
  within_if false t vs e f = f

  tables_within : (T : Tables) (id : ℕ) → AllByRecursion (TableOf A) T → left_of has (versions_of T id) ≡ versions_of T id
  tables_within [] id all = refl
  tables_within (t ∷ ts) id all = within_if (t.def.id == id) t (versions_of ts id) (all_within t.versions all.0.ids) (tables_within ts id all.1)

-- ---- the items that follow

module _ (reads : Reading) where
  pub parted : (before : List JournalItem) (T : Tables) (A B : List JournalItem) → IsLegalFrom reads before T (A ++ B) → IsLegalFrom reads before T A × IsLegalFrom reads (before ++ A) (serial_from reads T A) B
  unfolding serial_from
  parted before T [] B legal = (tt, subst (λ (l : List JournalItem). IsLegalFrom reads l T B) (sym (append-nil before)) legal)
  parted before T (i ∷ A) B legal =
      let r = parted (before ++ i ∷ []) (after_item reads T i) A B legal.1 in (
        (legal.0, r.0),
        subst (λ (l : List JournalItem). IsLegalFrom reads l (serial_from reads (after_item reads T i) A) B) (append_assoc before (i ∷ []) A) r.1,
      )

  pub append_serial : (T : Tables) (A B : List JournalItem) → serial_from reads T (A ++ B) ≡ serial_from reads (serial_from reads T A) B
  unfolding serial_from
  append_serial T [] B = refl
  append_serial T (i ∷ A) B = append_serial (after_item reads T i) A B

  module _ (A : List JournalItem) (id : ℕ) where
    abbrev At : Tables → List Version
    At T = left_of (among A) (versions_of T id)

    item_leaves : (mid : List JournalItem) (i : JournalItem) → IsLegal reads (A ++ mid) → IsNext reads (A ++ mid) (serial reads (A ++ mid)) i
        → At (after_item reads (serial reads (A ++ mid)) i) ≡ At (serial reads (A ++ mid))
    item_leaves mid (Close k) legal next = refl
    item_leaves mid (Tx other session time explicit lines) legal next =
        script_leaves (among A) other (not_here other A mid next.1) (place_in (A ++ mid)) id (At (serial reads (A ++ mid))) reads explicit (serial reads (A ++ mid)) (map (λ l. l.0) lines)
        (begins reads (A ++ mid) other legal next.1) (legal_described reads (A ++ mid) legal) refl

    items_leave : (mid items : List JournalItem) → IsLegal reads (A ++ mid) → IsLegalFrom reads (A ++ mid) (serial reads (A ++ mid)) items
        → At (serial_from reads (serial reads (A ++ mid)) items) ≡ At (serial reads (A ++ mid))
    unfolding serial_from
    items_leave mid [] legal from = refl
    items_leave mid (i ∷ is) legal from =
        let more : List JournalItem = mid ++ i ∷ [] in
        let there : (A ++ mid) ++ i ∷ [] ≡ A ++ more = append_assoc A mid (i ∷ []) in
        let after : after_item reads (serial reads (A ++ mid)) i ≡ serial reads (A ++ more) = sym (serial_more reads first_tables (A ++ mid) i) ∙ ap (serial reads) there in
        let next_legal : IsLegal reads (A ++ more) = subst (IsLegal reads) there (more_legal reads [] first_tables (A ++ mid) i legal from.0) in
        let next_from : IsLegalFrom reads (A ++ more) (serial reads (A ++ more)) is =
        subst (λ (T : Tables). IsLegalFrom reads (A ++ more) T is) after (subst (λ (l : List JournalItem). IsLegalFrom reads l (after_item reads (serial reads (A ++ mid)) i) is) there from.1) in
        ap (λ (T : Tables). At (serial_from reads T is)) after
        ∙ items_leave more is next_legal next_from
        ∙ ap At (sym after)
        ∙ item_leaves mid i legal from.0

  pub front_stays : (A B : List JournalItem) (id : ℕ) → IsLegal reads (A ++ B) → left_of (among A) (versions_of (serial reads (A ++ B)) id) ≡ versions_of (serial reads A) id
  front_stays A B id legal =
      let p = parted [] first_tables A B legal in
      let none : A ++ [] ≡ A = append-nil A in
      let legal_a : IsLegal reads (A ++ []) = subst (IsLegal reads) (sym none) p.0 in
      let from : IsLegalFrom reads (A ++ []) (serial reads (A ++ [])) B = subst (λ (l : List JournalItem). IsLegalFrom reads l (serial reads l) B) (sym none) p.1 in
      ap (λ (T : Tables). left_of (among A) (versions_of T id)) (append_serial first_tables A B ∙ ap (λ (l : List JournalItem). serial_from reads (serial reads l) B) (sym none))
      ∙ items_leave A id [] B legal_a from
      ∙ ap (λ (l : List JournalItem). left_of (among A) (versions_of (serial reads l) id)) none
      ∙ tables_within A (serial reads A) id (legal_tables reads A p.0).each

  pub cut_stays : (items : List JournalItem) (m id : ℕ) → IsLegal reads items → left_of (among (cut items m)) (versions_of (serial reads items) id) ≡ versions_of (serial reads (cut items m)) id
  cut_stays items m id legal =
      let whole : take m items ++ drop m items ≡ items = take-append-drop m items in
      ap (λ (l : List JournalItem). left_of (among (cut items m)) (versions_of (serial reads l) id)) (sym whole)
      ∙ front_stays (take m items) (drop m items) id (subst (IsLegal reads) (sym whole) legal)

  pub upto_is_cut : (items : List JournalItem) (n : ℕ) → (m : ℕ) × (upto items n ≡ cut items m)
  upto_is_cut items zero = (0, refl)
  upto_is_cut [] (suc n) = (0, refl)
  upto_is_cut (Tx id session time explicit lines ∷ is) (suc n) = let r = upto_is_cut is n in (suc r.0, ap (λ (l : List JournalItem). Tx id session time explicit lines ∷ l) r.1)
  upto_is_cut (Close k ∷ is) (suc n) = let r = upto_is_cut is (suc n) in (suc r.0, ap (λ (l : List JournalItem). Close k ∷ l) r.1)

  pub upto_stays : (items : List JournalItem) (n id : ℕ) → IsLegal reads items → left_of (among (upto items n)) (versions_of (serial reads items) id) ≡ versions_of (serial reads (upto items n)) id
  upto_stays items n id legal =
      let r = upto_is_cut items n in
      subst (λ (l : List JournalItem). left_of (among l) (versions_of (serial reads items) id) ≡ versions_of (serial reads l) id) (sym r.1) (cut_stays items r.0 id legal)

  pub upto_legal : (items : List JournalItem) (n : ℕ) → IsLegal reads items → IsLegal reads (upto items n)
  upto_legal items n legal = let r = upto_is_cut items n in subst (IsLegal reads) (sym r.1) (cut_legal reads items r.0 legal)
