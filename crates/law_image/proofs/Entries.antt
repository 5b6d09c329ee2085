-- The entries and the records of a legal journal have a spelling.
use Rattle.std.proofs.Common.{◌≡◌, ◌<◌, ◌≤◌, ◌+◌, ◌^◌, ◌∙◌, ℕ, zero, suc, refl, sym, ap, subst, Bool, true, false, List, [], ◌∷◌, ◌++◌, length, map, take, drop, arith, append-nil, append_assoc}
use Rattle.std.proofs.lemmas.List.{length-append}
use Rattle.std.specs.Prelude.{if◌then◌else◌}
use Rattle.std.specs.List.{AllByRecursion, filter}
use Rattle.base_merkle.specs.TreeHash.{tree_hash, tree_hash_within}
use Rattle.format_entry.specs.Entry.{IsRoot, entry_bytes}
use Rattle.format_entry.specs.Record.{IsRecord, record_bytes}
use Rattle.sql_types.specs.JournalRules.{ItemRules}
use Rattle.sql_types.specs.declared.entry.BlockRecord.{BlockRecord}
use Rattle.sql_types.specs.declared.entry.TxEntry.{TxEntry}
use Rattle.sql_types.specs.declared.journal.JournalItem.{JournalItem}
use Rattle.sql_types.specs.declared.journal.JournalItem.TheVariants.{Tx, Close}
use Rattle.sql_types.specs.declared.version.Table.{Table}
use Rattle.spec_model.specs.Agreement.{IdsFrom}
use Rattle.spec_model.specs.Catalog.{Tables, defs_of}
use Rattle.spec_model.specs.Journals.{IsNext, IsLegalFrom, IsLegal, after_item, serial_from, serial}
use Rattle.spec_model.specs.Script.{Reading}
use Rattle.spec_model.specs.SystemTables.{first_tables}
use Rattle.law_frame.proofs.Alls.{all_append}
use Rattle.law_frame.proofs.UndoneTables.{first_few as all_take}
use Rattle.law_journal.proofs.Serials.{legal_described}
use Rattle.spec_ledger.specs.Blocks.{block_of, record_hash}
use Rattle.spec_ledger.specs.Entries.{has_events, root_in, roots_of, entry_of, at_place, placed}
use Rattle.spec_ledger.specs.Ledger.{Ledger, recorded, ledger_from, empty_ledger}
use Rattle.spec_ledger.specs.Parts.{AreBlocksOf}
use Rattle.spec_ledger.proofs.Adding.{serial_more}
use Rattle.law_blocks.proofs.Roots.{legal_ids, roots_rise}
use Rattle.format_image.specs.ImageBytes.{IsPlaceless}

-- ---- parts of lists

all_drop : {A : Type 0} (P : A → Type 0) (k : ℕ) (xs : List A) → AllByRecursion P xs → AllByRecursion P (drop k xs)
all_drop P zero xs h = h
all_drop P (suc k) [] h = tt
all_drop P (suc k) (x ∷ xs) h = all_drop P k xs h.1

pub few_filtered : {A : Type 0} (test : A → Bool) (xs : List A) → length (filter test xs) ≤ length xs
few_filtered test [] = omega arith
few_filtered test (x ∷ xs) = here (test x) (few_filtered test xs)
  where
    here : (b : Bool) → length (filter test xs) ≤ length xs → length (if b then x ∷ filter test xs else filter test xs) ≤ length (x ∷ xs)
    here true le = omega (arith, le)
    here false le = omega (arith, le)

pub length_mapped : {A B : Type 0} (f : A → B) (xs : List A) → length (map f xs) ≡ length xs
length_mapped f [] = refl
length_mapped f (x ∷ xs) = ap suc (length_mapped f xs)

-- ---- hashes of 32 bytes

module _ (h : List ℕ → List ℕ) (sized : (bytes : List ℕ) → length (h bytes) ≡ 32) where
  within_sized : (depth : ℕ) (leaves : List (List ℕ)) → length (tree_hash_within h depth leaves) ≡ 32
  within_sized depth [] = sized []
  within_sized depth (leaf ∷ []) = sized (0 ∷ leaf)
  within_sized zero (leaf ∷ next ∷ leaves) = sized []
  within_sized (suc depth) (leaf ∷ next ∷ leaves) = sized _

  tree_sized : (leaves : List (List ℕ)) → length (tree_hash h leaves) ≡ 32
  tree_sized leaves = within_sized (length leaves) leaves

  -- ---- records

  record_of : (b : ℕ) (part : List TxEntry) (previous : List ℕ) → length previous ≡ 32 → b < 2 ^ 64 → length part < 2 ^ 64 → IsRecord (block_of h b part previous)
  unfolding block_of
  record_of b part previous before id size = record { id = id; root = tree_sized (map entry_bytes part); size = size; previous = before }

  pub records_are : (b : ℕ) (previous : List ℕ) (rs : List BlockRecord) (es : List TxEntry) → AreBlocksOf h b previous rs es → length previous ≡ 32
      → b + length rs < 2 ^ 64 → length es < 2 ^ 64 → AllByRecursion IsRecord rs
  records_are b previous [] es all before few less = tt
  records_are b previous (r ∷ rs) es all before few less =
      let count : length es ≡ length all.0 + length all.1 = ap length all.2 ∙ length-append all.0 all.1 in (
        subst IsRecord (sym all.3.is) (record_of b all.0 previous before (omega (arith, few)) (omega (arith, count, less))),
        records_are (b + 1) (record_hash h r) rs all.1 all.4 (sized (record_bytes r)) (omega (arith, few)) (omega (arith, count, less)),
      )

  -- ---- entries

  ids_below : (n most : ℕ) (T : Tables) → IdsFrom n (defs_of T) → n + length (defs_of T) ≤ most → AllByRecursion (λ (t : Table). t.def.id < most) T
  ids_below n most [] ids le = tt
  ids_below n most (t ∷ ts) ids le = (omega (arith, ids.0, le), ids_below (n + 1) most ts ids.1 (omega (arith, le)))

  each_root : (tx : ℕ) (T : Tables) → AllByRecursion (λ (t : Table). t.def.id < 36) T → AllByRecursion IsRoot (map (root_in h tx) (filter (has_events tx) T))
  each_root tx [] a = tt
  each_root tx (t ∷ ts) a = here (has_events tx t) (each_root tx ts a.1)
    where
      here : (b : Bool) → AllByRecursion IsRoot (map (root_in h tx) (filter (has_events tx) ts)) → AllByRecursion IsRoot (map (root_in h tx) (if b then t ∷ filter (has_events tx) ts else filter (has_events tx) ts))
      here true more = let id : t.def.id < 36 = a.0 in ((omega (arith, id), tree_sized _), more)
      here false more = more

  pub roots_are : (tx : ℕ) (T : Tables) → IdsFrom 1 (defs_of T) → length (defs_of T) ≤ 34 → AllByRecursion IsRoot (roots_of h tx T)
  unfolding roots_of
  roots_are tx T ids few = each_root tx T (ids_below 1 36 T ids (omega (arith, few)))

  pub few_roots : (tx : ℕ) (T : Tables) → length (defs_of T) ≤ 34 → length (roots_of h tx T) < 256
  unfolding roots_of
  few_roots tx T few =
      let made : length (map (root_in h tx) (filter (has_events tx) T)) ≡ length (filter (has_events tx) T) = length_mapped (root_in h tx) (filter (has_events tx) T) in
      let kept : length (filter (has_events tx) T) ≤ length T = few_filtered (has_events tx) T in
      let same : length (defs_of T) ≡ length T = length_mapped (λ (t : Table). t.def) T in
      omega (arith, made, kept, same, few)

  at_place_is : (b n : ℕ) (e : TxEntry) → IsPlaceless e → IsPlaceless (at_place b n e)
  at_place_is b n e p = record { id = p.id; time = p.time; principal = p.principal; count = p.count; roots = p.roots; rise = p.rise }

  all_placed : (b n : ℕ) (es : List TxEntry) → AllByRecursion IsPlaceless es → AllByRecursion IsPlaceless (placed b n es)
  all_placed b n [] p = tt
  all_placed b n (e ∷ es) p = (at_place_is b n e p.0, all_placed b (n + 1) es p.1)

  pub record AreEntries (l : Ledger) : Type 0 where
    pub closed : AllByRecursion IsPlaceless l.closed
    pub pending : AllByRecursion IsPlaceless l.pending

  module _ (reads : Reading) where
    pub legal_more : (before : List JournalItem) (T : Tables) (J : List JournalItem) (i : JournalItem) → IsLegalFrom reads before T J → IsNext reads (before ++ J) (serial_from reads T J) i → IsLegalFrom reads before T (J ++ i ∷ [])
    unfolding serial_from
    legal_more before T [] i legal next = (subst (λ (l : List JournalItem). IsNext reads l T i) (append-nil before) next, tt)
    legal_more before T (j ∷ js) i legal next =
        (legal.0, legal_more (before ++ j ∷ []) (after_item reads T j) js i legal.1 (subst (λ (l : List JournalItem). IsNext reads l (serial_from reads (after_item reads T j) js) i) (sym (append_assoc before (j ∷ []) js)) next))

    few_tables : (J : List JournalItem) → IsLegal reads J → length (defs_of (serial reads J)) ≤ 34
    few_tables J legal = (legal_described reads J legal).count

    one_recorded : (before : List JournalItem) (i : JournalItem) (l : Ledger) → IsLegal reads (before ++ i ∷ []) → IsNext reads before (serial reads before) i → ItemRules i
        → AreEntries l → AreEntries (recorded h (after_item reads (serial reads before) i) i l)
    one_recorded before (Tx id session time explicit lines) l legal next rules a =
        let i = Tx id session time explicit lines in
        let after = after_item reads (serial reads before) i in
        let same : serial reads (before ++ i ∷ []) ≡ after = serial_more reads first_tables before i in
        let ids : IdsFrom 1 (defs_of after) = subst (λ (T : Tables). IdsFrom 1 (defs_of T)) same (legal_ids reads (before ++ i ∷ []) legal) in
        let few : length (defs_of after) ≤ 34 = subst (λ (T : Tables). length (defs_of T) ≤ 34) same (few_tables (before ++ i ∷ []) legal) in
        let own : IsPlaceless (entry_of h after id session time) = record {
          id = rules.id;
          time = rules.time;
          principal = rules.session;
          count = few_roots id after few;
          roots = roots_are id after ids few;
          rise = roots_rise h id after ids next.0.events;
        } in
        record { closed = a.closed; pending = all_append IsPlaceless l.pending _ a.pending (at_place_is (length l.blocks) (length l.pending) (entry_of h after id session time) own, tt) }
    one_recorded before (Close k) l legal next rules a =
        record {
          closed = all_append IsPlaceless l.closed (take k l.pending) a.closed (all_take IsPlaceless k l.pending a.pending);
          pending = all_placed (length l.blocks + 1) 0 (drop k l.pending) (all_drop IsPlaceless k l.pending a.pending);
        }

    all_recorded : (before J : List JournalItem) (T : Tables) (l : Ledger) → T ≡ serial reads before → IsLegal reads before → IsLegalFrom reads before T J → AllByRecursion ItemRules J
        → AreEntries l → AreEntries (ledger_from h reads T l J)
    unfolding ledger_from
    all_recorded before [] T l same legal rest rules a = a
    all_recorded before (i ∷ is) T l same legal rest rules a =
        let next : IsNext reads before (serial reads before) i = subst (λ (U : Tables). IsNext reads before U i) same rest.0 in
        let legal_now : IsLegal reads (before ++ i ∷ []) = legal_more [] first_tables before i legal next in
        let after = after_item reads T i in
        let one : AreEntries (recorded h after i l) = subst (λ (U : Tables). AreEntries (recorded h (after_item reads U i) i l)) (sym same) (one_recorded before i l legal_now next rules.0 a) in
        all_recorded (before ++ i ∷ []) is after (recorded h after i l)
        (ap (λ (U : Tables). after_item reads U i) same ∙ sym (serial_more reads first_tables before i)) legal_now rest.1 rules.1 one

    pub entries_are : (J : List JournalItem) → IsLegal reads J → AllByRecursion ItemRules J → AreEntries (ledger_from h reads first_tables empty_ledger J)
    unfolding serial_from
    entries_are J legal rules = all_recorded [] J first_tables empty_ledger refl tt legal rules (record { closed = tt; pending = tt })
