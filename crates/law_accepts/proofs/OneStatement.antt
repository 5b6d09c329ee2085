-- In a legal journal the rows of the system's tables that start in one transaction are those of one statement.
use Rattle.std.proofs.Common.{◌≡◌, ◌≢◌, ◌<◌, ◌⊎◌, ℕ, ℤ, zero, suc, ◌+◌, inl, inr, refl, ap, ap₂, sym, subst, ◌∙◌, arith, Bool, true, false, List, [], ◌∷◌, ◌++◌, length, map, flat_map, take, drop, Option, Some, None, append_assoc, append-nil}
use Rattle.std.proofs.lemmas.Bool.{eq-eqb, eqb-true, ne_eqb}
use Rattle.std.proofs.lemmas.List.{map-append, take-append-drop}
use Rattle.std.specs.Prelude.{◌==◌, not, if◌then◌else◌, IfSome}
use Rattle.std.proofs.lemmas.List.Sorted.{IsPermutation-refl}
use Rattle.std.specs.List.{AllByRecursion, filter, list_all}
use Rattle.std.specs.Ordering.{nat_cmp}
use Rattle.sql_types.specs.declared.entry.TxEntry.{TxEntry}
use Rattle.sql_types.specs.declared.event.Event.{Event}
use Rattle.sql_types.specs.declared.journal.JournalItem.{JournalItem}
use Rattle.sql_types.specs.declared.journal.JournalItem.TheVariants.{Tx, Close}
use Rattle.sql_types.specs.declared.version.Table.{Table}
use Rattle.sql_types.specs.declared.version.Version.{Version}
use Rattle.sql_types.specs.JournalRules.{ItemRules, Line, is_alone}
use Rattle.spec_model.specs.Catalog.{Tables}
use Rattle.spec_model.specs.Events.{end_events, version_events, events_of}
use Rattle.spec_model.specs.Journals.{tx_count, after_item, IsOther, serial, serial_from, IsNext, IsLegal}
use Rattle.spec_model.specs.Lists.{sorted}
use Rattle.spec_model.specs.Rows.{EventId}
use Rattle.spec_model.specs.Script.{Reading}
use Rattle.spec_model.specs.SystemTables.{first_tables}
use Rattle.spec_history.specs.Journals.{ids_of}
use Rattle.law_frame.proofs.Alls.{all_weaker, all_map}
use Rattle.law_journal.specs.Serial.{place_in, HasTx, IsOf, TableOf}
use Rattle.law_journal.proofs.Serials.{legal_tables, own_place}
use Rattle.law_catalog_rows.specs.Written.{ReadsWritten}
use Rattle.spec_ledger.specs.Entries.{has_events, placed, root_in, roots_of}
use Rattle.spec_ledger.specs.Ledger.{Ledger, recorded, ledger_from, ledger_of, entries_of}
use Rattle.spec_ledger.proofs.Adding.{serial_more, one_more}
use Rattle.spec_rules.specs.OneStatement.{is_system_table, one_statement}
use Rattle.spec_rules.specs.Places.{PlacedRow, rooted_at}
use Rattle.spec_rules.specs.Rows.{CatalogRows}
use Rattle.law_rules.specs.Alone.{HasOneStatement}
use Rattle.law_rules.specs.Steps.{catalog_of, row_at, rows_at}
use Rattle.law_rules.proofs.Entered.{Enters, IsFree, SystemOrFree, script_enters}
use Rattle.law_rules.proofs.Frame.{legal_known}
use Rattle.law_rules.proofs.OneStatement.{AllBelow, AreOfOne, Batch, EachTold, NoRows, told_after, told_keeps_the_rule}
use Rattle.law_accepts.proofs.Along.{along, more_legal}
use Rattle.law_accepts.proofs.Begins.{begins, comes_next, has_place}
use Rattle.law_accepts.proofs.Events.{of_all}
use Rattle.law_accepts.proofs.Ids.{all_flat, entry_ids, none_left, same_ids}

-- ---- places, with one more item

place_stays : (J : List JournalItem) (i : JournalItem) (m : ℕ) → HasTx J m → place_in (J ++ i ∷ []) m ≡ place_in J m
place_stays [] i m has = absurd has
place_stays (Tx other session time explicit lines ∷ is) i m has = elim has [
  | inl e ↦ rw (eq-eqb other m e) refl
  | inr more ↦ ap (λ (n : ℕ). if other == m then 0 else suc n) (place_stays is i m more)
]
place_stays (Close k ∷ is) i m has = place_stays is i m has

before_or_now : (J : List JournalItem) (i : JournalItem) (m : ℕ) → HasTx (J ++ i ∷ []) m → HasTx J m ⊎ HasTx (i ∷ []) m
before_or_now [] i m has = inr has
before_or_now (Tx other session time explicit lines ∷ is) i m has = elim has [
  | inl e ↦ inl (inl e)
  | inr more ↦ elim (before_or_now is i m more) [ inl p ↦ inl (inr p) | inr q ↦ inr q ]
]
before_or_now (Close k ∷ is) i m has = before_or_now is i m has

module _ (reads : Reading) where
  same_now : (J : List JournalItem) (T : Tables) (i : JournalItem) → IsNext reads J T i → (m : ℕ) → HasTx (J ++ i ∷ []) m → place_in (J ++ i ∷ []) m ≡ place_in J m
  same_now J T (Tx id session time explicit lines) next m has =
      let i : JournalItem = Tx id session time explicit lines in
      elim (before_or_now J i m has) [
        | inl p ↦ place_stays J i m p
        | inr q ↦ elim q [
          | inl e ↦ subst (λ (n : ℕ). place_in (J ++ i ∷ []) n ≡ place_in J n) e
              (own_place id J i [] next.1 (rw (eq-eqb id id refl) refl) ∙ sym (comes_next J id next.1))
          | inr none ↦ absurd none
        ]
      ]
  same_now J T (Close k) next m has = elim (before_or_now J (Close k) m has) [ inl p ↦ place_stays J (Close k) m p | inr none ↦ absurd none ]

-- ---- rows

module _ (f g : ℕ → ℕ) where
  abbrev Alike : Version → Type 0
  Alike v = f v.start.0 ≡ g v.start.0

  rows_moved : (vs : List Version) → AllByRecursion Alike vs → rows_at f vs ≡ rows_at g vs
  rows_moved [] all = refl
  rows_moved (v ∷ vs) all = ap₂ (λ (n : ℕ) (rs : List PlacedRow). record { place = (n, v.start.1); row = (row_at g v).row } ∷ rs) all.0 (rows_moved vs all.1)

  catalog_moved : (T : Tables) → AllByRecursion (λ (t : Table). AllByRecursion Alike t.versions) T → (catalog_of f T).rows ≡ (catalog_of g T).rows
  catalog_moved [] all = refl
  catalog_moved (a ∷ []) all = refl
  catalog_moved (a ∷ b ∷ ts) all = ap₂ (λ (xs ys : List PlacedRow). record { tables = xs; items = ys }) (rows_moved a.versions all.0) (rows_moved b.versions all.1.0)

module _ (J : List JournalItem) where
  rows_below : (vs : List Version) → AllByRecursion (IsOf J) vs → AllByRecursion (λ (r : PlacedRow). r.place.0 < tx_count J) (rows_at (place_in J) vs)
  rows_below vs all = all_map (IsOf J) (λ (r : PlacedRow). r.place.0 < tx_count J) (row_at (place_in J)) (λ v is. has_place J v.start.0 is.start) vs all

  all_below : (T : Tables) → AllByRecursion (TableOf J) T → AllBelow (tx_count J) (catalog_of (place_in J) T).rows
  all_below [] all = record { tables = tt; items = tt }
  all_below (a ∷ []) all = record { tables = tt; items = tt }
  all_below (a ∷ b ∷ ts) all = record { tables = rows_below a.versions all.0.ids; items = rows_below b.versions all.1.0.ids }

-- ---- what is of another transaction

other_tx : (id m : ℕ) (J : List JournalItem) → AllByRecursion (IsOther id) J → HasTx J m → m ≢ id
other_tx id m [] others has = absurd has
other_tx id m (Tx other session time explicit lines ∷ is) others has = elim has [ inl e ↦ (λ same. others.0 (e ∙ same)) | inr more ↦ other_tx id m is others.1 more ]
other_tx id m (Close k ∷ is) others has = other_tx id m is others.1 has

module _ (id : ℕ) (J : List JournalItem) (others : AllByRecursion (IsOther id) J) where
  not_it : (m : ℕ) → HasTx J m → (m == id) ≡ false
  not_it m has = ne_eqb m id (other_tx id m J others has)

  free_end : (o : Option EventId) (P : EventId → Type 0) → IfSome o (λ e. HasTx J e.0 × P e) → IfSome o (λ e. (e.0 == id) ≡ false)
  free_end None P is = tt
  free_end (Some e) P is = not_it e.0 is.0

  all_free : (T : Tables) → AllByRecursion (TableOf J) T → AllByRecursion (SystemOrFree id) T
  all_free T all =
      all_weaker (TableOf J) (SystemOrFree id) (λ t is. inr (all_weaker (IsOf J) (IsFree id) (λ v o. record { start = not_it v.start.0 o.start; end = free_end v.end _ o.end }) t.versions is.ids)) T all

-- ---- the tables in which a transaction has roots

module _ (h : List ℕ → List ℕ) (tx : ℕ) where
  end_free : (table : ℕ) (v : Version) (o : Option EventId) → IfSome o (λ e. (e.0 == tx) ≡ false) → AllByRecursion (λ (e : Event). (e.tx == tx) ≡ false) (end_events table v o)
  end_free table v None free = tt
  end_free table v (Some e) free = (free, tt)

  no_events : (t : Table) → AllByRecursion (IsFree tx) t.versions → has_events tx t ≡ false
  unfolding events_of
  no_events t free =
      let none : of_all tx t.def.id t.versions ≡ [] =
      none_left (λ (e : Event). e.tx == tx) (flat_map (version_events t.def.id) t.versions)
      (all_flat (IsFree tx) (λ (e : Event). (e.tx == tx) ≡ false) (version_events t.def.id) (λ v f. (f.start, end_free t.def.id v v.end f.end)) t.versions free) in
      ap (λ (es : List Event). not (length (sorted (λ (a b : Event). nat_cmp a.seq b.seq) es) == 0)) none

  abbrev root_ids : List (ℕ × List ℕ) → List ℕ
  root_ids roots = map (λ (r : ℕ × List ℕ). r.0) roots

  system_roots : (U : Tables) → AllByRecursion (SystemOrFree tx) U → list_all is_system_table (root_ids (roots_of h tx U)) ≡ true
  unfolding roots_of
  system_roots [] all = refl
  system_roots (t ∷ ts) all = here (has_events tx t) refl (system_roots ts all.1)
    where
      more : List Table
      more = filter (has_events tx) ts

      here : (b : Bool) → has_events tx t ≡ b → list_all is_system_table (root_ids (map (root_in h tx) more)) ≡ true
          → list_all is_system_table (root_ids (map (root_in h tx) (if b then t ∷ more else more))) ≡ true
      here true e k = elim all.0 [
        | inl system ↦ rw (system, k) refl
        | inr free ↦ absurd (let no : true ≡ false = sym e ∙ no_events t free in cc)
      ]
      here false e k = k

-- ---- entries

abbrev its_roots : TxEntry → List ℕ
its_roots e = map (λ (r : ℕ × List ℕ). r.0) e.roots

abbrev all_roots : List TxEntry → List (List ℕ)
all_roots es = map its_roots es

abbrev at : List (List ℕ) → ℕ → List ℕ
at [] n = []
at (x ∷ xs) zero = x
at (x ∷ xs) (suc n) = at xs n

rooted_is : (es : List TxEntry) (q : ℕ) → rooted_at es q ≡ at (all_roots es) q
rooted_is [] q = refl
rooted_is (e ∷ es) zero = refl
rooted_is (e ∷ es) (suc q) = rooted_is es q

at_front : (xs ys : List (List ℕ)) (q : ℕ) → q < length xs → at (xs ++ ys) q ≡ at xs q
at_front [] ys q lt = absurd (omega (arith, lt))
at_front (x ∷ xs) ys zero lt = refl
at_front (x ∷ xs) ys (suc q) lt = at_front xs ys q (omega (arith, lt))

at_next : (xs : List (List ℕ)) (y : List ℕ) → at (xs ++ y ∷ []) (length xs) ≡ y
at_next [] y = refl
at_next (x ∷ xs) y = at_next xs y

placed_roots : (b n : ℕ) (es : List TxEntry) → all_roots (placed b n es) ≡ all_roots es
placed_roots b n [] = refl
placed_roots b n (e ∷ es) = ap (λ (rs : List (List ℕ)). its_roots e ∷ rs) (placed_roots b (n + 1) es)

roots_append : (xs ys : List TxEntry) → all_roots (xs ++ ys) ≡ all_roots xs ++ all_roots ys
roots_append xs ys = map-append its_roots xs ys

as_many : (es : List TxEntry) → length (all_roots es) ≡ length (entry_ids es)
as_many [] = refl
as_many (e ∷ es) = ap suc (as_many es)

ids_counted : (J : List JournalItem) → length (ids_of J) ≡ tx_count J
ids_counted [] = refl
ids_counted (Tx id session time explicit lines ∷ is) = ap suc (ids_counted is)
ids_counted (Close k ∷ is) = ids_counted is

alone_so : (explicit : Bool) (lines : List Line) → is_alone explicit lines ≡ true → explicit ≡ false → length (map (λ (l : Line). l.0) lines) ≡ 1
alone_so true lines e k = cc
alone_so false lines e k = counted lines ∙ eqb-true (length lines) 1 e
  where
    counted : (ls : List Line) → length (map (λ (l : Line). l.0) ls) ≡ length ls
    counted [] = refl
    counted (l ∷ ls) = ap suc (counted ls)

first_items : (P : JournalItem → Type 0) (xs ys : List JournalItem) → AllByRecursion P (xs ++ ys) → AllByRecursion P xs
first_items P [] ys h = tt
first_items P (x ∷ xs) ys h = (h.0, first_items P xs ys h.1)

last_item : (P : JournalItem → Type 0) (xs : List JournalItem) (y : JournalItem) → AllByRecursion P (xs ++ y ∷ []) → P y
last_item P [] y h = h.0
last_item P (x ∷ xs) y h = last_item P xs y h.1

-- the items of a journal that keeps its rules are such
by_its_rules : (i : JournalItem) → ItemRules i → HasOneStatement i
by_its_rules (Tx id session time explicit lines) rules = rules.alone
by_its_rules (Close k) rules = tt

pub have_one_statement : (items : List JournalItem) → AllByRecursion ItemRules items → AllByRecursion HasOneStatement items
have_one_statement items rules = all_weaker ItemRules HasOneStatement by_its_rules items rules

module _ (h : List ℕ → List ℕ) where
  new_roots : Tables → JournalItem → List (List ℕ)
  new_roots T (Tx id session time explicit lines) = map (λ (r : ℕ × List ℕ). r.0) (roots_of h id T) ∷ []
  new_roots T (Close k) = []

  abbrev ledger_roots : Ledger → List (List ℕ)
  ledger_roots l = all_roots (l.closed ++ l.pending)

  roots_after : (T : Tables) (i : JournalItem) (l : Ledger) → ledger_roots (recorded h T i l) ≡ ledger_roots l ++ new_roots T i
  unfolding new_roots
  roots_after T (Tx id session time explicit lines) l =
      ap all_roots (sym (append_assoc l.closed l.pending _)) ∙ roots_append (l.closed ++ l.pending) _
  roots_after T (Close k) l =
      roots_append (l.closed ++ take k l.pending) (placed (length l.blocks + 1) 0 (drop k l.pending))
      ∙ ap (λ (ns : List (List ℕ)). all_roots (l.closed ++ take k l.pending) ++ ns) (placed_roots (length l.blocks + 1) 0 (drop k l.pending))
      ∙ sym (roots_append (l.closed ++ take k l.pending) (drop k l.pending))
      ∙ ap all_roots (append_assoc l.closed (take k l.pending) (drop k l.pending) ∙ ap (λ (es : List TxEntry). l.closed ++ es) (take-append-drop k l.pending))
      ∙ sym (append-nil (ledger_roots l))

  module _ (reads : Reading) (written : ReadsWritten reads) where
    abbrev RowsOf : List JournalItem → CatalogRows
    RowsOf J = (catalog_of (place_in J) (serial reads J)).rows

    abbrev OneMore : ℕ → CatalogRows → CatalogRows → List (List ℕ) → Type 0
    OneMore p x y roots = (b : Batch p x y) × (NoRows b.first b.second ⊎ (AreOfOne p b.first b.second × (list_all is_system_table (at roots p) ≡ true)))

    came : (J : List JournalItem) (i : JournalItem) → IsLegal reads J → IsNext reads J (serial reads J) i → HasOneStatement i → (roots : List (List ℕ)) → length roots ≡ tx_count J
        → OneMore (tx_count J) (RowsOf J) (catalog_of (place_in J) (after_item reads (serial reads J) i)).rows (roots ++ new_roots (after_item reads (serial reads J) i) i)
    unfolding new_roots
    came J (Tx id session time explicit lines) legal next alone roots many =
        let T : Tables = serial reads J in
        let U : Tables = after_item reads T (Tx id session time explicit lines) in
        let is : place_in J id ≡ tx_count J = comes_next J id next.1 in
        let e : Enters (place_in J) id T U =
        script_enters (place_in J) id T (begins reads J id legal next.1) (legal_known reads written J legal) (all_free id J next.1 T (legal_tables reads J legal).each)
        reads written explicit (map (λ (l : Line). l.0) lines) (alone_so explicit lines alone) in
        let roots_are : at (roots ++ map (λ (r : ℕ × List ℕ). r.0) (roots_of h id U) ∷ []) (place_in J id) ≡ map (λ (r : ℕ × List ℕ). r.0) (roots_of h id U) =
        ap (at (roots ++ map (λ (r : ℕ × List ℕ). r.0) (roots_of h id U) ∷ [])) (is ∙ sym many) ∙ at_next roots (map (λ (r : ℕ × List ℕ). r.0) (roots_of h id U)) in
        subst (λ (p : ℕ). OneMore p (RowsOf J) (catalog_of (place_in J) U).rows (roots ++ map (λ (r : ℕ × List ℕ). r.0) (roots_of h id U) ∷ [])) is
        (e.0, elim e.1 [ inl none ↦ inl none | inr q ↦ inr (q.0, ap (list_all is_system_table) roots_are ∙ system_roots h id U q.1) ])
    came J (Close k) legal next alone roots many =
        (record { id = 0; first = []; second = []; starts = tt; more = tt; tables = IsPermutation-refl (RowsOf J).tables; items = IsPermutation-refl (RowsOf J).items }, inl (record { first = refl; second = refl }))

    abbrev Such : List JournalItem → Type 0
    Such J = AllByRecursion HasOneStatement J → EachTold (entries_of h reads J) (RowsOf J)

    one : (J : List JournalItem) (i : JournalItem) → IsLegal reads J → IsNext reads J (serial reads J) i → Such J → Such (J ++ i ∷ [])
    one J i legal next so alone =
        let now : List JournalItem = J ++ i ∷ [] in
        let T : Tables = serial reads J in
        let U : Tables = after_item reads T i in
        let is : serial reads now ≡ U = serial_more reads first_tables J i in
        let legal_now : IsLegal reads now = more_legal reads [] first_tables J i legal next in
        let old : List TxEntry = entries_of h reads J in
        let new : List TxEntry = entries_of h reads now in
        let roots : all_roots new ≡ all_roots old ++ new_roots U i =
        ap ledger_roots (one_more h reads J i) ∙ ap (λ (V : Tables). ledger_roots (recorded h V i (ledger_of h reads J))) is ∙ roots_after U i (ledger_of h reads J) in
        let many : length (all_roots old) ≡ tx_count J = as_many old ∙ ap length (same_ids h reads J legal) ∙ ids_counted J in
        let rows : RowsOf now ≡ (catalog_of (place_in J) U).rows =
        catalog_moved (place_in now) (place_in J) (serial reads now)
        (all_weaker (TableOf now) (λ (t : Table). AllByRecursion (Alike (place_in now) (place_in J)) t.versions)
        (λ t of. all_weaker (IsOf now) (Alike (place_in now) (place_in J)) (λ v o. same_now reads J T i next v.start.0 o.start) t.versions of.ids)
        (serial reads now) (legal_tables reads now legal_now).each)
        ∙ ap (λ (V : Tables). (catalog_of (place_in J) V).rows) is in
        let c : OneMore (tx_count J) (RowsOf J) (RowsOf now) (all_roots new) =
        subst (λ (rs : List (List ℕ)). OneMore (tx_count J) (RowsOf J) (RowsOf now) rs) (sym roots)
        (subst (λ (y : CatalogRows). OneMore (tx_count J) (RowsOf J) y (all_roots old ++ new_roots U i)) (sym rows)
        (came J i legal next (last_item HasOneStatement J i alone) (all_roots old) many)) in
        told_after old new (RowsOf J) (RowsOf now) (tx_count J)
        (λ q lt. rooted_is new q ∙ ap (λ (rs : List (List ℕ)). at rs q) roots ∙ at_front (all_roots old) (new_roots U i) q (omega (arith, lt, many)) ∙ sym (rooted_is old q))
        (all_below J T (legal_tables reads J legal).each) c.0
        (elim c.1 [ inl none ↦ inl none | inr q ↦ inr (q.0, ap (list_all is_system_table) (rooted_is new (tx_count J)) ∙ q.1) ])
        (so (first_items HasOneStatement J (i ∷ []) alone))

    none_told : Such []
    unfolding ledger_from serial_from first_tables
    none_told alone = record { tables = tt; items = tt }

    pub one_statement_kept : (items : List JournalItem) → IsLegal reads items → AllByRecursion HasOneStatement items → (t : ℤ) → one_statement (entries_of h reads items) (RowsOf items) t ≡ true
    one_statement_kept items legal alone t = told_keeps_the_rule (entries_of h reads items) (RowsOf items) (along reads Such one items legal none_told alone) t
