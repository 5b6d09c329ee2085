-- Each entry of a legal journal has the roots and the numbers of its events, as the image shows them.
use Rattle.std.proofs.Common.{◌≡◌, ◌≢◌, ◌≤◌, ℕ, ◌+◌, refl, ap, sym, subst, ◌∙◌, Bool, true, false, cond, List, [], ◌∷◌, ◌++◌, length, map, take, drop, Option, Some, None, arith, nat_lt}
use Rattle.std.specs.Prelude.{not}
use Rattle.std.specs.List.{AllByRecursion}
use Rattle.std.specs.Ordering.{nat_cmp}
use Rattle.std.proofs.lemmas.List.{take-append-drop}
use Rattle.std.proofs.lemmas.List.Sums.{sum_by-cons}
use Rattle.sql_types.specs.declared.entry.TxEntry.{TxEntry}
use Rattle.sql_types.specs.declared.event.Event.{Event}
use Rattle.sql_types.specs.declared.journal.JournalItem.{JournalItem}
use Rattle.sql_types.specs.declared.journal.JournalItem.TheVariants.{Tx, Close}
use Rattle.spec_model.specs.Catalog.{Tables}
use Rattle.spec_model.specs.Events.{all_events}
use Rattle.spec_model.specs.Journals.{after_item, serial, IsNext, IsLegal}
use Rattle.spec_model.specs.Script.{Reading, script}
use Rattle.spec_model.specs.SystemTables.{first_tables}
use Rattle.law_frame.proofs.Alls.{all_weaker, all_both, all_append}
use Rattle.law_journal.specs.Kept.{count, count_all, IsNumbered}
use Rattle.law_journal.specs.Serial.{place_in, TablesOf}
use Rattle.law_journal.proofs.Serials.{legal_tables, legal_described}
use Rattle.law_journal.proofs.Tables.{table_count}
use Rattle.spec_ledger.specs.Entries.{entry_of, at_place, placed, roots_of}
use Rattle.spec_ledger.specs.Ledger.{Ledger, recorded, ledger_from, ledger_of, entries_of}
use Rattle.spec_ledger.proofs.Adding.{serial_more, one_more}
use Rattle.format_image.specs.Image.{image_of}
use Rattle.format_image.specs.Tables.{tables_in}
use Rattle.spec_verify.specs.declared.place.Place.TheVariants as at
use Rattle.law_catalog_rows.specs.Least.{least}
use Rattle.spec_verify.specs.Entries.{are_numbered, TableRoot, root_at, same_root, other_roots, root_place, entry_fault, root_fault}
use Rattle.law_accepts.proofs.Along.{along}
use Rattle.law_accepts.proofs.Begins.{begins}
use Rattle.law_accepts.proofs.ByNumber.{are_all_numbered}
use Rattle.law_accepts.proofs.Events.{same_events, numbered}
use Rattle.law_accepts.proofs.FilledTables.{filled_tables, numbered_filled, roots_filled}
use Rattle.law_accepts.proofs.Firsts.{same_bytes, passes, neither, nothing_first}
use Rattle.law_accepts.proofs.Ids.{entry_ids, other_ids, same_ids, none_left}
use Rattle.law_accepts.proofs.Shown.{in_parts, tables_shown}
use Rattle.law_accepts.proofs.Stay.{Same, all_alike, script_leaves}

-- ---- the tables as the image shows them

one_or_none : (b : Bool) → (let n : ℕ = cond b 1 0 in n ≤ 1)
one_or_none true = omega arith
one_or_none false = omega arith

module _ (tx k : ℕ) where
  few_by : (T : Tables) → ((n : ℕ) → count_all (tx, n) T ≤ 1) → AllByRecursion (λ t. (n : ℕ) → count (tx, n) t.versions ≤ 1) T
  few_by [] few = tt
  few_by (t ∷ ts) few =
      ((λ n. (let l = sum_by-cons (table_count (tx, n)) t ts in let f = few n in omega (arith, l, f))), few_by ts (λ n. (let l = sum_by-cons (table_count (tx, n)) t ts in let f = few n in omega (arith, l, f))))

  few : (T : Tables) → IsNumbered tx k T → AllByRecursion (λ t. (n : ℕ) → count (tx, n) t.versions ≤ 1) T
  few T h = few_by T (λ n. (let e = h n in let l = one_or_none (nat_lt n k) in omega (arith, e, l)))

  roots_shown : (h : List ℕ → List ℕ) (T : Tables) → IsNumbered tx k T → roots_of h tx (map in_parts T) ≡ roots_of h tx T
  roots_shown h T numbers =
      all_alike h tx in_parts T (all_weaker (λ t. (n : ℕ) → count (tx, n) t.versions ≤ 1) (λ t. Same h tx t (in_parts t)) (λ t f. record { id = refl; events = same_events tx t f }) T (few T numbers))

  events_shown : (T : Tables) → AllByRecursion (λ t. (n : ℕ) → count (tx, n) t.versions ≤ 1) T → all_events tx (map in_parts T) ≡ all_events tx T
  unfolding all_events
  events_shown [] f = refl
  events_shown (t ∷ ts) f = rw (same_events tx t f.0, events_shown ts f.1) refl

  numbers_hold : (T : Tables) → IsNumbered tx k T → are_numbered (map (λ (x : Event). x.seq) (all_events tx (map in_parts T))) ≡ true
  numbers_hold T numbers =
      ap (λ (es : List Event). are_numbered (map (λ (x : Event). x.seq) es)) (events_shown T (few T numbers)) ∙ are_all_numbered k (all_events tx T) (numbered tx k T numbers)

-- ---- the roots of entries

module _ (h : List ℕ → List ℕ) where
  -- the entry's roots are those of its events in these tables
  abbrev Rooted : Tables → TxEntry → Type 0
  Rooted T e = e.roots ≡ roots_of h e.id T

  placed_rooted : (T : Tables) (b n : ℕ) (es : List TxEntry) → AllByRecursion (Rooted T) es → AllByRecursion (Rooted T) (placed b n es)
  placed_rooted T b n [] all = tt
  placed_rooted T b n (e ∷ es) all = (all.0, placed_rooted T b (n + 1) es all.1)

  first_part : {A : Type 0} (P : A → Type 0) (xs ys : List A) → AllByRecursion P (xs ++ ys) → AllByRecursion P xs
  first_part P [] ys all = tt
  first_part P (x ∷ xs) ys all = (all.0, first_part P xs ys all.1)

  second_part : {A : Type 0} (P : A → Type 0) (xs ys : List A) → AllByRecursion P (xs ++ ys) → AllByRecursion P ys
  second_part P [] ys all = all
  second_part P (x ∷ xs) ys all = second_part P xs ys all.1

  each_entry : (P : ℕ → Type 0) (es : List TxEntry) → AllByRecursion P (entry_ids es) → AllByRecursion (λ e. P e.id) es
  each_entry P [] all = tt
  each_entry P (e ∷ es) all = (all.0, each_entry P es all.1)

  abbrev all_in : Ledger → List TxEntry
  all_in l = l.closed ++ l.pending

  closed_rooted : (T : Tables) (k : ℕ) (l : Ledger) → AllByRecursion (Rooted T) (all_in l) → AllByRecursion (Rooted T) (all_in (recorded h T (Close k) l))
  closed_rooted T k l all =
      let P : TxEntry → Type 0 = Rooted T in
      let pending : AllByRecursion P (take k l.pending ++ drop k l.pending) = subst (AllByRecursion P) (sym (take-append-drop k l.pending)) (second_part P l.closed l.pending all) in
      all_append P (l.closed ++ take k l.pending) (placed (length l.blocks + 1) 0 (drop k l.pending))
      (all_append P l.closed (take k l.pending) (first_part P l.closed l.pending all) (first_part P (take k l.pending) (drop k l.pending) pending))
      (placed_rooted T (length l.blocks + 1) 0 (drop k l.pending) (second_part P (take k l.pending) (drop k l.pending) pending))

  committed_rooted : (T : Tables) (id time : ℕ) (session : List ℕ) (l : Ledger) → AllByRecursion (Rooted T) (all_in l)
      → AllByRecursion (Rooted T) (l.closed ++ (l.pending ++ at_place (length l.blocks) (length l.pending) (entry_of h T id session time) ∷ []))
  committed_rooted T id time session l all =
      all_append (Rooted T) l.closed (l.pending ++ _) (first_part (Rooted T) l.closed l.pending all)
      (all_append (Rooted T) l.pending _ (second_part (Rooted T) l.closed l.pending all) (refl, tt))

  module _ (reads : Reading) where
    after_one : (before : List JournalItem) (i : JournalItem) → IsLegal reads before → IsNext reads before (serial reads before) i → AllByRecursion (Rooted (serial reads before)) (entries_of h reads before)
        → AllByRecursion (Rooted (after_item reads (serial reads before) i)) (all_in (recorded h (after_item reads (serial reads before) i) i (ledger_of h reads before)))
    after_one before (Close k) legal next all = closed_rooted (serial reads before) k (ledger_of h reads before) all
    after_one before (Tx id session time explicit lines) legal next all =
        let T : Tables = serial reads before in
        let texts : List (List ℕ) = map (λ l. l.0) lines in
        let U : Tables = (script reads explicit T id texts).state.tables in
        let kept = begins reads before id legal next.1 in
        let others : AllByRecursion (λ (e : TxEntry). e.id ≢ id) (entries_of h reads before) =
        each_entry (λ n. n ≢ id) (entries_of h reads before) (subst (AllByRecursion (λ n. n ≢ id)) (sym (same_ids h reads before legal)) (other_ids id before next.1)) in
        committed_rooted U id time session (ledger_of h reads before)
        (all_weaker (λ (e : TxEntry). Rooted T e × (e.id ≢ id)) (Rooted U)
        (λ e r. sym (script_leaves h (place_in before) e.id id (λ same. r.1 (sym same)) e.roots reads explicit T texts kept (legal_described reads before legal) (sym r.0)))
        (entries_of h reads before) (all_both (Rooted T) (λ (e : TxEntry). e.id ≢ id) (entries_of h reads before) all others))

    none_rooted : AllByRecursion (Rooted (serial reads [])) (entries_of h reads [])
    unfolding ledger_from
    none_rooted = tt

    pub rooted : (items : List JournalItem) → IsLegal reads items → AllByRecursion (Rooted (serial reads items)) (entries_of h reads items)
    rooted items legal = along reads (λ J. AllByRecursion (Rooted (serial reads J)) (entries_of h reads J)) one items legal none_rooted
      where
        one : (before : List JournalItem) (i : JournalItem) → IsLegal reads before → IsNext reads before (serial reads before) i → AllByRecursion (Rooted (serial reads before)) (entries_of h reads before)
            → AllByRecursion (Rooted (serial reads (before ++ i ∷ []))) (entries_of h reads (before ++ i ∷ []))
        one before i legal_before next all =
            let T : Tables = after_item reads (serial reads before) i in
            let e : serial reads (before ++ i ∷ []) ≡ T = serial_more reads first_tables before i in
            let l : ledger_of h reads (before ++ i ∷ []) ≡ recorded h T i (ledger_of h reads before) = one_more h reads before i ∙ ap (λ (U : Tables). recorded h U i (ledger_of h reads before)) e in
            subst (λ (U : Tables). AllByRecursion (Rooted U) (entries_of h reads (before ++ i ∷ []))) (sym e)
            (subst (λ (m : Ledger). AllByRecursion (Rooted T) (all_in m)) (sym l) (after_one before i legal_before next all))

-- ---- no other roots

own_root : (o : Option (List ℕ)) → same_root o o ≡ true
own_root None = refl
own_root (Some a) = same_bytes a a refl

no_other : (rs : List TableRoot) → other_roots rs rs ≡ []
no_other rs = none_left (λ t. not (same_root (root_at rs t) (root_at rs t))) _ (all_of_them _)
  where
    all_of_them : (ts : List ℕ) → AllByRecursion (λ t. not (same_root (root_at rs t) (root_at rs t)) ≡ false) ts
    all_of_them [] = tt
    all_of_them (t ∷ ts) = (ap not (own_root (root_at rs t)), all_of_them ts)

module _ (h : List ℕ → List ℕ) (reads : Reading) (database : List ℕ) (items : List JournalItem) (legal : IsLegal reads items) where
  entry_holds : (e : TxEntry) → Rooted h (serial reads items) e → entry_fault h (image_of h reads database items) e ≡ None
  entry_holds e rooted_so =
      let S : Tables = serial reads items in
      let tables : TablesOf items S = legal_tables reads items legal in
      let k : ℕ = (tables.numbered e.id).0 in
      let U : Tables = filled_tables S in
      let numbers : IsNumbered e.id k U = numbered_filled e.id k S (tables.numbered e.id).1 in
      let shown : tables_in (image_of h reads database items) ≡ map in_parts U = tables_shown h reads database items legal in
      let same : roots_of h e.id (tables_in (image_of h reads database items)) ≡ e.roots = ap (roots_of h e.id) shown ∙ roots_shown e.id k h U numbers ∙ roots_filled e.id h S ∙ sym rooted_so in
      neither _ _
      (passes _ (at.Numbers e.id) (ap (λ (V : Tables). are_numbered (map (λ (x : Event). x.seq) (all_events e.id V))) shown ∙ numbers_hold e.id k U numbers))
      (ap (λ (rs : List TableRoot). root_place e.id (least nat_cmp (other_roots e.roots rs))) same ∙ ap (λ (ts : List ℕ). root_place e.id (least nat_cmp ts)) (no_other e.roots))

  entries_hold : AllByRecursion (λ e. (k : ℕ) → entry_fault h (image_of h reads database items) e ≡ None) (image_of h reads database items).entries
  unfolding image_of
  entries_hold =
      all_weaker (Rooted h (serial reads items)) (λ e. (k : ℕ) → entry_fault h (image_of h reads database items) e ≡ None) (λ e r k. entry_holds e r) (entries_of h reads items) (rooted h reads items legal)

  pub roots_hold : root_fault h (image_of h reads database items) ≡ None
  unfolding root_fault
  roots_hold = nothing_first (λ k e. entry_fault h (image_of h reads database items) e) 0 (image_of h reads database items).entries entries_hold
