-- Where a legal journal has room for its image, each of its cuts has.
use Rattle.std.proofs.Common.{◌≡◌, ◌<◌, ◌≤◌, ◌+◌, ◌^◌, ℕ, zero, suc, refl, sym, ap, subst, arith, Bool, true, false, List, [], ◌∷◌, ◌++◌, length, map, take, drop, None, append-nil, append_assoc}
use Rattle.std.proofs.lemmas.List.{take-append-drop}
use Rattle.std.specs.Prelude.{◌==◌, if◌then◌else◌, IfSome}
use Rattle.std.specs.List.{AllByRecursion}
use Rattle.std.specs.Ordering.{is_gt}
use Rattle.sql_types.specs.declared.journal.JournalItem.{JournalItem}
use Rattle.sql_types.specs.declared.journal.JournalItem.TheVariants.{Tx, Close}
use Rattle.sql_types.specs.declared.statement.Stmt.{Stmt}
use Rattle.sql_types.specs.declared.table.TableDef.{TableDef}
use Rattle.sql_types.specs.declared.version.Table.{Table}
use Rattle.sql_types.specs.declared.version.Version.{Version}
use Rattle.spec_model.specs.Catalog.{Tables, with_versions}
use Rattle.spec_model.specs.Changes.{Change, Starts, Ends, changed}
use Rattle.spec_model.specs.Effect.{Effect, effect, with_def}
use Rattle.spec_model.specs.Journals.{cut, tx_count, after_item, serial_from, serial, IsNext, IsLegalFrom, IsLegal}
use Rattle.spec_model.specs.Lists.{inserted}
use Rattle.spec_model.specs.ChangeSets.{TableChange, changed_in, changed_from, Definition, as_before, new, in_place, altered, defined, ChangeSet, change_set}
use Rattle.spec_model.specs.Rows.{EventId, same_event, start_cmp, started, with_end, ended}
use Rattle.spec_model.specs.Script.{Reading, script}
use Rattle.spec_model.specs.SystemTables.{first_tables}
use Rattle.law_frame.proofs.Alls.{all_append}
use Rattle.law_frame.proofs.ChangeSets.{carries_change_set_out}
use Rattle.law_frame.proofs.WholeScripts.{whole_script}
use Rattle.law_frame.proofs.UndoneTables.{first_few as all_cut}
use Rattle.spec_history.specs.Journals.{blocks}
use Rattle.law_journal.specs.Described.{Described}
use Rattle.law_journal.specs.Fine.{HasLive, IsFine, IsFineIn, AllFine}
use Rattle.law_journal.specs.Kept.{count, Kept}
use Rattle.law_journal.specs.Serial.{place_in}
use Rattle.law_journal.proofs.Counts.{ended_cons, hit, missed, one_less}
use Rattle.law_journal.proofs.Keeping.{statement_kept, statement_described}
use Rattle.law_journal.proofs.Lift.{of_all as of_all_tables}
use Rattle.law_journal.proofs.Order.{new_version}
use Rattle.law_journal.proofs.Serials.{cut_legal, legal_described}
use Rattle.law_journal.proofs.Statements.{change_set_fine}
use Rattle.law_journal.proofs.Tables.{Split, split_from, once, kept_changed}
use Rattle.spec_ledger.proofs.Adding.{serial_more}
use Rattle.spec_verify.proofs.EncodedSo.{all_rest as rest_of, all_front as front_of}
use Rattle.law_image.specs.Room.{VersionFitsFormat, TableFitsFormat, FitsImageFormat}
use Rattle.law_accepts.proofs.Along.{more_legal}
use Rattle.law_accepts.proofs.Begins.{begins}
use Rattle.law_accepts.proofs.Stay.{Few, few_each}

abbrev AllRoom : List Version → Type 0
AllRoom versions = AllByRecursion VersionFitsFormat versions

abbrev TablesFitFormat : Tables → Type 0
TablesFitFormat T = AllByRecursion TableFitsFormat T

-- ---- versions

without_new : (v : Version) (vs : List Version) → AllRoom (inserted start_cmp v vs) → AllRoom vs
without_new v [] h = tt
without_new v (w ∷ ws) h = here (is_gt (start_cmp v w)) h (without_new v ws)
  where
    here : (b : Bool) → AllRoom (if b then w ∷ inserted start_cmp v ws else v ∷ w ∷ ws) → (AllRoom (inserted start_cmp v ws) → AllRoom ws) → AllRoom (w ∷ ws)
    here true r more = (r.0, more r.1)
    here false r more = r.1

one_longer : (v : Version) (vs : List Version) → length (inserted start_cmp v vs) ≡ suc (length vs)
one_longer v [] = refl
one_longer v (w ∷ ws) = here (is_gt (start_cmp v w)) (one_longer v ws)
  where
    here : (b : Bool) → length (inserted start_cmp v ws) ≡ suc (length ws) → length (if b then w ∷ inserted start_cmp v ws else v ∷ w ∷ ws) ≡ suc (suc (length ws))
    here true e = ap suc e
    here false e = refl

without_end : (at start : EventId) (vs : List Version) → count start vs ≤ 1 → HasLive start vs → AllRoom (ended at start vs) → AllRoom vs
without_end at start [] few there h = absurd there
without_end at start (v ∷ vs) few there h = here (same_event v.start start) refl (without_end at start vs)
  where
    had_enough_room : VersionFitsFormat (with_end at v) → v.end ≡ None → VersionFitsFormat v
    had_enough_room r none = record { start = r.start; end = subst (λ o. IfSome o (λ (e : EventId). e.1 < 2 ^ 64)) (sym none) tt; texts = r.texts }

    here : (b : Bool) → same_event v.start start ≡ b → (count start vs ≤ 1 → HasLive start vs → AllRoom (ended at start vs) → AllRoom vs) → AllRoom (v ∷ vs)
    here true e more =
        let it = hit at start v vs e few there in
        let r : AllRoom (with_end at v ∷ vs) = subst AllRoom it.is h in
        (had_enough_room r.0 it.is_live, r.1)
    here false e more =
        let r : AllRoom (v ∷ ended at start vs) = subst AllRoom (ended_cons at start false v vs e) h in
        (r.0, more (one_less start v vs few) (missed start v vs e there) r.1)

as_long : (at start : EventId) (vs : List Version) → length (ended at start vs) ≡ length vs
unfolding ended
as_long at start [] = refl
as_long at start (v ∷ vs) = ap suc (as_long at start vs)

-- ---- tables

table_before : (at : EventId) (c : Change) (t : Table) → Few t → IsFine t.def.columns c t.versions → TableFitsFormat (with_versions (changed at c) t) → TableFitsFormat t
unfolding started
table_before at (Starts values) t few fine r =
    let v : Version = new_version at values in
    let long : length (inserted start_cmp v t.versions) ≡ suc (length t.versions) = one_longer v t.versions in
    let room : length (inserted start_cmp v t.versions) < 2 ^ 64 = r.count in
    record { count = omega (arith, long, room); each = without_new v t.versions r.each }
table_before at (Ends start) t few fine r =
    record { count = subst (λ n. n < 2 ^ 64) (as_long at start t.versions) r.count; each = without_end at start t.versions (few start) fine r.each }

redefined_before : (def : TableDef) (T : Tables) → TablesFitFormat (map (λ (t : Table). if t.def.id == def.id then with_def def t else t) T) → TablesFitFormat T
redefined_before def [] r = tt
redefined_before def (t ∷ ts) r = (here (t.def.id == def.id) r.0, redefined_before def ts r.1)
  where
    here : (b : Bool) → TableFitsFormat (if b then with_def def t else t) → TableFitsFormat t
    here true h = record { count = h.count; each = h.each }
    here false h = h

definition_before : (d : Definition) (T : Tables) → TablesFitFormat (defined d T) → TablesFitFormat T
definition_before as_before T r = r
definition_before (new def) T r = front_of TableFitsFormat T (record { def = def; versions = [] } ∷ []) r
definition_before (in_place def) T r = redefined_before def T r
definition_before (altered def) T r = redefined_before def T r

-- ---- statements and scripts

module _ (place : ℕ → ℕ) (tx : ℕ) where
  change_before : (seq : ℕ) (c : TableChange) (T : Tables) → Kept place tx seq T → IsFineIn c T → TablesFitFormat (changed_in (tx, seq) c T) → TablesFitFormat T
  change_before seq c T k fine r =
      let P : Table → Type 0 = λ t. Few t × IsFine t.def.columns c.1 t.versions in
      let s : Split c.0 P T = (split_from 1 c.0 P T k.sound.ids (of_all_tables c.0 Few (λ t. IsFine t.def.columns c.1 t.versions) T (few_each T (once place tx seq T k)) fine)).split in
      let after : Table = with_versions (changed (tx, seq) c.1) s.table in
      let parts : TablesFitFormat (s.front ++ after ∷ s.back) = subst TablesFitFormat (s.changed_ (changed (tx, seq) c.1)) r in
      let behind : TablesFitFormat (after ∷ s.back) = rest_of TableFitsFormat s.front (after ∷ s.back) parts in
      subst TablesFitFormat (sym s.is)
      (all_append TableFitsFormat s.front (s.table ∷ s.back) (front_of TableFitsFormat s.front (after ∷ s.back) parts) (table_before (tx, seq) c.1 s.table s.holds.0 s.holds.1 behind.0, behind.1))

  changes_before : (seq : ℕ) (cs : List TableChange) (T : Tables) → Kept place tx seq T → AllFine tx seq cs T → TablesFitFormat (changed_from tx seq cs T) → TablesFitFormat T
  changes_before seq [] T k fine r = r
  changes_before seq (c ∷ cs) T k fine r =
      change_before seq c T k fine.0 (changes_before (seq + 1) cs (changed_in (tx, seq) c T) (kept_changed place tx seq c T k fine.0) fine.1 r)

  statement_before : (seq : ℕ) (T : Tables) (stmt : Stmt) → Kept place tx seq T → Described T → TablesFitFormat (effect T tx seq stmt).tables → TablesFitFormat T
  statement_before seq T stmt k d r =
      let p : ChangeSet = change_set T stmt in
      changes_before seq p.changes T k (change_set_fine place tx seq T stmt k d)
      (definition_before p.definition (changed_from tx seq p.changes T) (subst (λ (e : Effect). TablesFitFormat e.tables) (carries_change_set_out T tx seq stmt) r))

  module _ (T : Tables) where
    abbrev LeadsFrom : ℕ → Tables → Type 0
    LeadsFrom seq U = (Kept place tx seq U × Described U) × (TablesFitFormat U → TablesFitFormat T)

    step : (seq : ℕ) (U : Tables) (stmt : Stmt) → LeadsFrom seq U → LeadsFrom (effect U tx seq stmt).seq (effect U tx seq stmt).tables
    step seq U stmt l = (
      (statement_kept place tx seq U stmt l.0.0 l.0.1, statement_described place tx seq U stmt l.0.0.sound.ids l.0.1),
      λ r. l.1 (statement_before seq U stmt l.0.0 l.0.1 r),
    )

    script_before : (reads : Reading) (explicit : Bool) (texts : List (List ℕ)) → Kept place tx 0 T → Described T → TablesFitFormat (script reads explicit T tx texts).state.tables → TablesFitFormat T
    script_before reads explicit texts k d = (whole_script tx LeadsFrom step reads explicit T texts ((k, d), λ r. r)).0.1

-- ---- journals

module _ (reads : Reading) where
  item_before : (before : List JournalItem) (i : JournalItem) → IsLegal reads before → IsNext reads before (serial reads before) i → TablesFitFormat (after_item reads (serial reads before) i) → TablesFitFormat (serial reads before)
  item_before before (Close k) legal next r = r
  item_before before (Tx id session time explicit lines) legal next r =
      script_before (place_in before) id (serial reads before) reads explicit (map (λ l. l.0) lines) (begins reads before id legal next.1) (legal_described reads before legal) r

  items_before : (before items : List JournalItem) → IsLegal reads before → IsLegalFrom reads before (serial reads before) items → TablesFitFormat (serial reads (before ++ items)) → TablesFitFormat (serial reads before)
  items_before before [] legal from r = subst (λ (J : List JournalItem). TablesFitFormat (serial reads J)) (append-nil before) r
  items_before before (i ∷ is) legal from r =
      let more : List JournalItem = before ++ i ∷ [] in
      let after : serial reads more ≡ after_item reads (serial reads before) i = serial_more reads first_tables before i in
      item_before before i legal from.0
      (subst TablesFitFormat after
      (items_before more is (more_legal reads [] first_tables before i legal from.0) (subst (λ (T : Tables). IsLegalFrom reads more T is) (sym after) from.1)
      (subst (λ (J : List JournalItem). TablesFitFormat (serial reads J)) (sym (append_assoc before (i ∷ []) is)) r)))

  legal_rest : (before : List JournalItem) (T : Tables) (J K : List JournalItem) → IsLegalFrom reads before T (J ++ K) → IsLegalFrom reads (before ++ J) (serial_from reads T J) K
  unfolding serial_from
  legal_rest before T [] K legal = subst (λ (b : List JournalItem). IsLegalFrom reads b T K) (sym (append-nil before)) legal
  legal_rest before T (j ∷ js) K legal =
      subst (λ (b : List JournalItem). IsLegalFrom reads b (serial_from reads (after_item reads T j) js) K) (append_assoc before (j ∷ []) js)
      (legal_rest (before ++ j ∷ []) (after_item reads T j) js K legal.1)

  tables_of_cut : (items : List JournalItem) (m : ℕ) → IsLegal reads items → TablesFitFormat (serial reads items) → TablesFitFormat (serial reads (cut items m))
  tables_of_cut items m legal r =
      let parts : take m items ++ drop m items ≡ items = take-append-drop m items in
      items_before (take m items) (drop m items) (cut_legal reads items m legal)
      (legal_rest [] first_tables (take m items) (drop m items) (subst (λ (J : List JournalItem). IsLegalFrom reads [] first_tables J) (sym parts) legal))
      (subst (λ (J : List JournalItem). TablesFitFormat (serial reads J)) (sym parts) r)

-- ---- counts

blocks_cut : (items : List JournalItem) (m : ℕ) → blocks (take m items) ≤ blocks items
blocks_cut items zero = omega arith
blocks_cut [] (suc m) = omega arith
blocks_cut (Tx id session time explicit lines ∷ is) (suc m) = blocks_cut is m
blocks_cut (Close k ∷ is) (suc m) = let less : blocks (take m is) ≤ blocks is = blocks_cut is m in omega (arith, less)

entries_cut : (items : List JournalItem) (m : ℕ) → tx_count (take m items) ≤ tx_count items
entries_cut items zero = omega arith
entries_cut [] (suc m) = omega arith
entries_cut (Tx id session time explicit lines ∷ is) (suc m) = let less : tx_count (take m is) ≤ tx_count is = entries_cut is m in omega (arith, less)
entries_cut (Close k ∷ is) (suc m) = entries_cut is m

pub room_of_cut : (h : List ℕ → List ℕ) (reads : Reading) (database : List ℕ) (items : List JournalItem) (m : ℕ) → IsLegal reads items → FitsImageFormat h reads database items → FitsImageFormat h reads database (cut items m)
room_of_cut h reads database items m legal r =
    let few : blocks (take m items) ≤ blocks items = blocks_cut items m in
    let less : tx_count (take m items) ≤ tx_count items = entries_cut items m in
    let all_few : blocks items < 2 ^ 64 = r.blocks in
    let all_less : tx_count items < 2 ^ 64 = r.entries in
    record {
      hash = r.hash;
      database_name = r.database_name;
      rules = all_cut _ m items r.rules;
      blocks = omega (arith, few, all_few);
      entries = omega (arith, less, all_less);
      tables = tables_of_cut reads items m legal r.tables;
    }
