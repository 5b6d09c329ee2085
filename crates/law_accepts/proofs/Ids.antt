-- The entries of a legal journal have the ids of its transactions, in order.
use Rattle.std.proofs.Common.{◌≡◌, ◌≢◌, ℕ, zero, suc, ◌+◌, inl, inr, refl, ap, sym, subst, ◌∙◌, List, [], ◌∷◌, ◌++◌, length, map, flat_map, take, drop, Bool, true, false, Option, Some, None, arith, append_assoc, append-nil}
use Rattle.std.specs.Prelude.{◌==◌, ◌||◌, not, if◌then◌else◌, IfSome}
use Rattle.std.specs.List.{AllByRecursion, list_any, filter}
use Rattle.std.proofs.Math.Seq.{take-append_seam}
use Rattle.std.proofs.lemmas.Bool.{eq-eqb, ne_eqb}
use Rattle.std.proofs.lemmas.List.{length-append, map-append, take-append-drop}
use Rattle.std.proofs.lemmas.List.Concat.{flat_map-cons}
use Rattle.sql_types.specs.declared.entry.TxEntry.{TxEntry}
use Rattle.sql_types.specs.declared.event.Event.{Event}
use Rattle.sql_types.specs.declared.journal.JournalItem.{JournalItem}
use Rattle.sql_types.specs.declared.journal.JournalItem.TheVariants.{Tx, Close}
use Rattle.sql_types.specs.declared.version.Table.{Table}
use Rattle.sql_types.specs.declared.version.Version.{Version}
use Rattle.spec_model.specs.Catalog.{Tables}
use Rattle.spec_model.specs.Events.{version_events, end_events}
use Rattle.spec_model.specs.Journals.{IsOther, serial, IsNext, IsLegal}
use Rattle.spec_model.specs.Rows.{EventId, live}
use Rattle.spec_model.specs.Script.{Reading}
use Rattle.spec_history.specs.Journals.{ids_of}
use Rattle.law_frame.proofs.Alls.{all_weaker, all_append, all_map, all_filter}
use Rattle.law_journal.specs.Serial.{place_in, HasTx, IsOf, TableOf}
use Rattle.law_journal.proofs.Serials.{legal_tables}
use Rattle.spec_ledger.specs.Entries.{placed}
use Rattle.spec_ledger.specs.Ledger.{Ledger, recorded, ledger_from, ledger_of, entries_of}
use Rattle.spec_ledger.proofs.Adding.{one_more}
use Rattle.format_image.specs.Image.{image_of}
use Rattle.format_image.specs.Rows.{ended_ones}
use Rattle.format_image.specs.Tables.{tables_in}
use Rattle.spec_verify.specs.declared.place.Place.TheVariants as at
use Rattle.spec_verify.specs.First.{unless, first_from}
use Rattle.spec_verify.specs.Entries.{has_id, TableEvent, least_event, events_in, strangers, id_fault}
use Rattle.spec_verify.specs.Order.{position_of}
use Rattle.law_accepts.proofs.Along.{along}
use Rattle.law_accepts.proofs.Firsts.{passes, neither}
use Rattle.law_accepts.proofs.FilledTables.{filled_tables, tables_filled}
use Rattle.law_accepts.proofs.Shown.{in_parts, tables_shown}

-- ---- the ids of the entries

abbrev pub entry_ids : List TxEntry → List ℕ
entry_ids es = map (λ (e : TxEntry). e.id) es

placed_ids : (b n : ℕ) (es : List TxEntry) → entry_ids (placed b n es) ≡ entry_ids es
placed_ids b n [] = refl
placed_ids b n (e ∷ es) = ap (λ (ns : List ℕ). e.id ∷ ns) (placed_ids b (n + 1) es)

abbrev all_ids : Ledger → List ℕ
all_ids l = entry_ids (l.closed ++ l.pending)

ids_append : (xs ys : List TxEntry) → entry_ids (xs ++ ys) ≡ entry_ids xs ++ entry_ids ys
ids_append xs ys = map-append (λ (e : TxEntry). e.id) xs ys

journal_ids : (J : List JournalItem) (i : JournalItem) → ids_of (J ++ i ∷ []) ≡ ids_of J ++ ids_of (i ∷ [])
journal_ids [] i = refl
journal_ids (Tx id session time explicit lines ∷ is) i = ap (λ (ns : List ℕ). id ∷ ns) (journal_ids is i)
journal_ids (Close k ∷ is) i = journal_ids is i

module _ (h : List ℕ → List ℕ) where
  ids_after : (T : Tables) (i : JournalItem) (l : Ledger) → all_ids (recorded h T i l) ≡ all_ids l ++ ids_of (i ∷ [])
  ids_after T (Tx id session time explicit lines) l =
      ap entry_ids (sym (append_assoc l.closed l.pending _)) ∙ ids_append (l.closed ++ l.pending) _
  ids_after T (Close k) l =
      ids_append (l.closed ++ take k l.pending) (placed (length l.blocks + 1) 0 (drop k l.pending))
      ∙ ap (λ (ns : List ℕ). entry_ids (l.closed ++ take k l.pending) ++ ns) (placed_ids (length l.blocks + 1) 0 (drop k l.pending))
      ∙ sym (ids_append (l.closed ++ take k l.pending) (drop k l.pending))
      ∙ ap entry_ids (append_assoc l.closed (take k l.pending) (drop k l.pending) ∙ ap (λ (es : List TxEntry). l.closed ++ es) (take-append-drop k l.pending))
      ∙ sym (append-nil (all_ids l))

  no_ids : (reads : Reading) → entry_ids (entries_of h reads []) ≡ ids_of []
  unfolding ledger_from
  no_ids reads = refl

  pub same_ids : (reads : Reading) (items : List JournalItem) → IsLegal reads items → entry_ids (entries_of h reads items) ≡ ids_of items
  same_ids reads items legal = along reads (λ J. entry_ids (entries_of h reads J) ≡ ids_of J) one items legal (no_ids reads)
    where
      one : (before : List JournalItem) (i : JournalItem) → IsLegal reads before → IsNext reads before (serial reads before) i
          → entry_ids (entries_of h reads before) ≡ ids_of before → entry_ids (entries_of h reads (before ++ i ∷ [])) ≡ ids_of (before ++ i ∷ [])
      one before i legal_before next e =
          ap all_ids (one_more h reads before i)
          ∙ ids_after (serial reads (before ++ i ∷ [])) i (ledger_of h reads before)
          ∙ ap (λ (ns : List ℕ). ns ++ ids_of (i ∷ [])) e
          ∙ sym (journal_ids before i)

-- ---- they differ

-- no id is among those before it
abbrev AllNew : List ℕ → List ℕ → Type 0
AllNew before [] = Unit {0}
AllNew before (n ∷ ns) = AllByRecursion (λ m. m ≢ n) before × AllNew (before ++ n ∷ []) ns

new_after : (before ns : List ℕ) (n : ℕ) → AllNew before ns → AllByRecursion (λ m. m ≢ n) (before ++ ns) → AllNew before (ns ++ n ∷ [])
new_after before [] n new others = (subst (λ (ms : List ℕ). AllByRecursion (λ m. m ≢ n) ms) (append-nil before) others, tt)
new_after before (m ∷ ms) n new others =
    (new.0, new_after (before ++ m ∷ []) ms n new.1 (subst (λ (ks : List ℕ). AllByRecursion (λ k. k ≢ n) ks) (sym (append_assoc before (m ∷ []) ms)) others))

pub other_ids : (id : ℕ) (J : List JournalItem) → AllByRecursion (IsOther id) J → AllByRecursion (λ m. m ≢ id) (ids_of J)
other_ids id [] h = tt
other_ids id (Tx other session time explicit lines ∷ is) h = (h.0, other_ids id is h.1)
other_ids id (Close k ∷ is) h = other_ids id is h.1

new_ids : (reads : Reading) (items : List JournalItem) → IsLegal reads items → AllNew [] (ids_of items)
new_ids reads items legal = along reads (λ J. AllNew [] (ids_of J)) one items legal tt
  where
    new_item : (before : List JournalItem) (T : Tables) (i : JournalItem) → IsNext reads before T i → AllNew [] (ids_of before) → AllNew [] (ids_of before ++ ids_of (i ∷ []))
    new_item before T (Tx id session time explicit lines) next new = new_after [] (ids_of before) id new (other_ids id before next.1)
    new_item before T (Close k) next new = subst (AllNew []) (sym (append-nil (ids_of before))) new

    one : (before : List JournalItem) (i : JournalItem) → IsLegal reads before → IsNext reads before (serial reads before) i → AllNew [] (ids_of before) → AllNew [] (ids_of (before ++ i ∷ []))
    one before i legal_before next new = subst (AllNew []) (sym (journal_ids before i)) (new_item before (serial reads before) i next new)

not_there : (id : ℕ) (es : List TxEntry) → AllByRecursion (λ m. m ≢ id) (entry_ids es) → has_id es id ≡ false
not_there id [] h = refl
not_there id (e ∷ es) h = rw (ne_eqb e.id id h.0) (not_there id es h.1)

module _ (entries : List TxEntry) where
  none_again : (n : ℕ) (front es : List TxEntry) → entries ≡ front ++ es → n ≡ length front → AllNew (entry_ids front) (entry_ids es)
      → first_from (λ k (e : TxEntry). unless (not (has_id (take k entries) e.id)) (at.Entry k)) n es ≡ None
  none_again n front [] all count new = refl
  none_again n front (e ∷ es) all count new =
      let here : take n entries ≡ front = ap (take n) all ∙ ap (λ (k : ℕ). take k (front ++ e ∷ es)) count ∙ take-append_seam front (e ∷ es) in
      let not_before : not (has_id (take n entries) e.id) ≡ true = ap (λ (xs : List TxEntry). not (has_id xs e.id)) here ∙ ap not (not_there e.id front new.0) in
      neither _ _ (passes (not (has_id (take n entries) e.id)) (at.Entry n) not_before)
      (none_again (n + 1) (front ++ e ∷ []) es (all ∙ sym (append_assoc front (e ∷ []) es)) (one_longer front e count)
      (subst (λ (ns : List ℕ). AllNew ns (entry_ids es)) (sym (ids_append front (e ∷ []))) new.1))
    where
      one_longer : (xs : List TxEntry) (x : TxEntry) → n ≡ length xs → n + 1 ≡ length (xs ++ x ∷ [])
      one_longer xs x e = omega (arith, e, length-append xs (x ∷ []))

-- ---- each event is of a transaction of the journal

by_ids : (es : List TxEntry) (id : ℕ) → has_id es id ≡ list_any (λ m. m == id) (entry_ids es)
by_ids [] id = refl
by_ids (e ∷ es) id = ap (λ (b : Bool). (e.id == id) || b) (by_ids es id)

or_else_true : (a b : Bool) → b ≡ true → (a || b) ≡ true
or_else_true true b e = refl
or_else_true false b e = e

of_journal : (J : List JournalItem) (id : ℕ) → HasTx J id → list_any (λ m. m == id) (ids_of J) ≡ true
of_journal [] id has = absurd has
of_journal (Tx other session time explicit lines ∷ is) id has = elim has [
  | inl e ↦ rw (eq-eqb other id e) refl
  | inr more ↦ or_else_true (other == id) _ (of_journal is id more)
]
of_journal (Close k ∷ is) id has = of_journal is id has

pub all_flat : {A B : Type 0} (P : A → Type 0) (Q : B → Type 0) (f : A → List B) → ((x : A) → P x → AllByRecursion Q (f x)) → (xs : List A) → AllByRecursion P xs → AllByRecursion Q (flat_map f xs)
all_flat P Q f g [] h = tt
all_flat P Q f g (x ∷ xs) h = subst (AllByRecursion Q) (sym (flat_map-cons f x xs)) (all_append Q (f x) (flat_map f xs) (g x h.0) (all_flat P Q f g xs h.1))

module _ (items : List JournalItem) where
  abbrev OfTx : Event → Type 0
  OfTx e = HasTx items e.tx

  end_of_tx : (table : ℕ) (v : Version) (o : Option EventId) → IfSome o (λ e. HasTx items e.0) → AllByRecursion OfTx (end_events table v o)
  end_of_tx table v None h = tt
  end_of_tx table v (Some e) h = (h, tt)

  only_tx : (start : EventId) (o : Option EventId) (P : EventId → Type 0) → IfSome o (λ e. HasTx items e.0 × P e) → IfSome o (λ e. HasTx items e.0)
  only_tx start None P h = tt
  only_tx start (Some e) P h = h.0

  version_of_tx : (table : ℕ) (v : Version) → IsOf items v → AllByRecursion OfTx (version_events table v)
  version_of_tx table v is = (is.start, end_of_tx table v v.end (only_tx v.start v.end _ is.end))

  parts_of : (t : Table) → TableOf items t → AllByRecursion (IsOf items) (in_parts t).versions
  parts_of t is = all_append (IsOf items) (live t.versions) (ended_ones t.versions) (all_filter (IsOf items) _ t.versions is.ids) (all_filter (IsOf items) _ t.versions is.ids)

  events_of_tx : (t : Table) → TableOf items t → AllByRecursion (λ (e : TableEvent). HasTx items e.1.0) (events_in (in_parts t))
  events_of_tx t is =
      all_map OfTx (λ (e : TableEvent). HasTx items e.1.0) (λ (e : Event). (e.table, (e.tx, e.seq))) (λ e h. h) (flat_map (version_events t.def.id) (in_parts t).versions)
      (all_flat (IsOf items) OfTx (version_events t.def.id) (version_of_tx t.def.id) (in_parts t).versions (parts_of t is))

  all_of_tx : (T : Tables) → AllByRecursion (TableOf items) T → AllByRecursion (λ (e : TableEvent). HasTx items e.1.0) (flat_map events_in (map in_parts T))
  all_of_tx T all =
      all_flat (λ t. AllByRecursion (λ (e : TableEvent). HasTx items e.1.0) (events_in t)) (λ (e : TableEvent). HasTx items e.1.0) events_in (λ t h. h) (map in_parts T)
      (all_map (TableOf items) (λ t. AllByRecursion (λ (e : TableEvent). HasTx items e.1.0) (events_in t)) in_parts events_of_tx T all)

pub none_left : {A : Type 0} (test : A → Bool) (xs : List A) → AllByRecursion (λ x. test x ≡ false) xs → filter test xs ≡ []
none_left test [] h = refl
none_left test (x ∷ xs) h = rw (h.0, none_left test xs h.1) refl

module _ (h : List ℕ → List ℕ) (reads : Reading) (database : List ℕ) (items : List JournalItem) (legal : IsLegal reads items) where
  known : (id : ℕ) → HasTx items id → has_id (entries_of h reads items) id ≡ true
  known id has = by_ids (entries_of h reads items) id ∙ ap (λ (ns : List ℕ). list_any (λ m. m == id) ns) (same_ids h reads items legal) ∙ of_journal items id has

  no_strangers : strangers (image_of h reads database items) ≡ []
  unfolding image_of
  no_strangers =
      none_left (λ (e : TableEvent). not (has_id (entries_of h reads items) e.1.0)) (flat_map events_in (tables_in (image_of h reads database items)))
      (all_weaker (λ (e : TableEvent). HasTx items e.1.0) (λ (e : TableEvent). not (has_id (entries_of h reads items) e.1.0) ≡ false) (λ e has. ap not (known e.1.0 has)) _
      (subst (λ (T : Tables). AllByRecursion (λ (e : TableEvent). HasTx items e.1.0) (flat_map events_in T)) (sym (tables_shown h reads database items legal))
      (all_of_tx items (filled_tables (serial reads items)) (tables_filled items (serial reads items) (legal_tables reads items legal).each))))

  pub ids_hold : id_fault (image_of h reads database items) ≡ None
  unfolding image_of id_fault
  ids_hold =
      neither _ _
      (none_again (entries_of h reads items) 0 [] (entries_of h reads items) refl refl (subst (AllNew []) (sym (same_ids h reads items legal)) (new_ids reads items legal)))
      (ap least_event no_strangers)

-- ---- the place of an entry is that of its transaction

abbrev place_among : List ℕ → ℕ → ℕ
place_among [] id = zero
place_among (n ∷ ns) id = if n == id then zero else suc (place_among ns id)

by_entries : (es : List TxEntry) (id : ℕ) → position_of es id ≡ place_among (entry_ids es) id
by_entries [] id = refl
by_entries (e ∷ es) id = ap (λ (n : ℕ). if e.id == id then zero else suc n) (by_entries es id)

by_items : (J : List JournalItem) (id : ℕ) → place_in J id ≡ place_among (ids_of J) id
by_items [] id = refl
by_items (Tx other session time explicit lines ∷ is) id = ap (λ (n : ℕ). if other == id then zero else suc n) (by_items is id)
by_items (Close k ∷ is) id = by_items is id

pub same_place : (h : List ℕ → List ℕ) (reads : Reading) (items : List JournalItem) → IsLegal reads items → (id : ℕ) → position_of (entries_of h reads items) id ≡ place_in items id
same_place h reads items legal id =
    by_entries (entries_of h reads items) id ∙ ap (λ (ns : List ℕ). place_among ns id) (same_ids h reads items legal) ∙ sym (by_items items id)
