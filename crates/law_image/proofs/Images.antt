-- The image of a legal journal has a spelling, where it has room.
use Rattle.std.proofs.Common.{◌≡◌, ◌<◌, ◌≤◌, ◌+◌, ◌^◌, ◌∙◌, ℕ, refl, sym, ap, subst, true, List, [], ◌∷◌, ◌++◌, length, map, arith, Some}
use Rattle.std.proofs.lemmas.List.{length-append}
use Rattle.std.specs.List.{AllByRecursion}
use Rattle.sql_types.specs.JournalRules.{ItemRules}
use Rattle.sql_types.specs.Versions.{has_statement}
use Rattle.sql_types.specs.declared.image.TableRows.{TableRows}
use Rattle.sql_types.specs.declared.journal.JournalItem.{JournalItem}
use Rattle.sql_types.specs.declared.statement.Stmt.{Stmt}
use Rattle.sql_types.specs.declared.table.IndexDef.{IndexDef}
use Rattle.sql_types.specs.declared.table.TableDef.{TableDef}
use Rattle.sql_types.specs.declared.version.Table.{Table}
use Rattle.spec_model.specs.Agreement.{IdsFrom}
use Rattle.spec_model.specs.Catalog.{Defs, Tables, defs_of}
use Rattle.spec_model.specs.Journals.{serial, tx_count, IsLegal}
use Rattle.spec_model.specs.Runs.{Sound, SoundTable}
use Rattle.spec_model.specs.Script.{Reading}
use Rattle.spec_model.specs.SystemTables.{tables_def, columns_def}
use Rattle.law_blocks.specs.Journals.{blocks}
use Rattle.law_frame.proofs.Alls.{all_append}
use Rattle.law_frame.proofs.StepByStep.{Any}
use Rattle.law_journal.specs.Serial.{TableOf}
use Rattle.law_journal.proofs.Serials.{legal_tables, legal_described}
use Rattle.law_catalog_rows.specs.Formed.{AreInFront}
use Rattle.law_catalog_rows.specs.Encoded.{AreEncodedByRows}
use Rattle.law_catalog_rows.specs.Written.{ReadsWritten}
use Rattle.law_catalog_rows.proofs.Journals.{legal_described as legal_formed, legal_ids, legal_encoded}
use Rattle.law_catalog_rows.proofs.KeptByJournals.{legal_keeps}
use Rattle.spec_ledger.specs.Blocks.{no_hash}
use Rattle.spec_ledger.specs.Ledger.{Ledger, ledger_of}
use Rattle.law_blocks.proofs.Staying.{blocks_counted}
use Rattle.law_blocks.proofs.Counting.{entries_counted}
use Rattle.spec_ledger.proofs.Parting.{parted, entries_by_size}
use Rattle.format_image.specs.DefBytes.{IsIndex, IsDef, NothingDropped, ids_rise}
use Rattle.format_image.specs.Image.{user_defs, image_of}
use Rattle.format_image.specs.ImageBytes.{IsPlaceless, AreTables, IsImage, NothingGone}
use Rattle.format_image.specs.RowBytes.{IsTable}
use Rattle.format_image.specs.Rows.{table_rows}
use Rattle.law_image.specs.Room.{TableFitsFormat, FitsImageFormat}
use Rattle.law_image.proofs.Defs.{defs_are, they_rise}
use Rattle.law_image.proofs.Entries.{records_are, entries_are}
use Rattle.law_image.proofs.NothingDropped.{AllStand, all_stand}
use Rattle.law_image.proofs.Rows.{KnownTable, table_is}

-- ---- tables

known_tables : (items : List JournalItem) → AllByRecursion ItemRules items → (tx : ℕ) (T : Tables) → AllByRecursion (λ (d : TableDef). length d.columns ≤ 64) (defs_of T) → AllByRecursion (SoundTable tx 0) T → AllByRecursion (TableOf items) T
    → AllByRecursion TableFitsFormat T → AllByRecursion (KnownTable items) T
known_tables items rules tx [] few sound of room = tt
known_tables items rules tx (t ∷ ts) few sound of room =
    (record { rules = rules; ids = of.0.ids; few = few.0; rising = sound.0.rising; fit = of.0.fit; room = room.0 }, known_tables items rules tx ts few.1 sound.1 of.1 room.1)

ordinals_few : (is : List IndexDef) → AllByRecursion IsIndex is → AllByRecursion (λ (i : IndexDef). length i.ordinals < 256) is
ordinals_few [] h = tt
ordinals_few (i ∷ is) h = (h.0.count, ordinals_few is h.1)

of_users : (items : List JournalItem) (ts : Tables) → AllByRecursion (KnownTable items) ts → AllByRecursion IsDef (defs_of ts) → AreTables (defs_of ts) (map table_rows ts)
of_users items [] k d = tt
of_users items (t ∷ ts) k d = (table_is items t k.0 (ordinals_few t.def.indexes d.0.indexes), of_users items ts k.1 d.1)

-- a table of the system has no index
of_system : (items : List JournalItem) (t : Table) (def : TableDef) → t.def ≡ def → def.indexes ≡ [] → KnownTable items t → IsTable def (table_rows t)
of_system items t def same none k =
    subst (λ d. IsTable d (table_rows t)) same
    (table_is items t k (subst (λ is. AllByRecursion (λ (i : IndexDef). length i.ordinals < 256) is) (sym (ap (λ (d : TableDef). d.indexes) same ∙ none)) tt))

-- ---- all of an image but its ledger

pub record Shown (defs : Defs) (tables : List TableRows) : Type 0 where
  pub defs_are : AllByRecursion IsDef defs
  pub count : length defs < 2 ^ 32
  pub ids : ids_rise 2 defs ≡ true
  pub tables_are : AreTables (tables_def ∷ columns_def ∷ defs) tables

shown_by : (items : List JournalItem) (T : Tables) → AreEncodedByRows T → AreInFront (defs_of T) → IdsFrom 1 (defs_of T) → length (defs_of T) ≤ 34 → AllByRecursion (KnownTable items) T → Shown (user_defs T) (map table_rows T)
shown_by items [] s front ids few k = absurd s
shown_by items (a ∷ []) s front ids few k = absurd s
shown_by items (a ∷ b ∷ ts) s front ids few k =
    let defs : AllByRecursion IsDef (defs_of ts) = defs_are (defs_of ts) s.rules in
    record {
      defs_are = defs;
      count = omega (arith, few);
      ids = they_rise ((1 + 1) + 1) 2 (defs_of ts) (omega arith) ids.1.1;
      tables_are = (of_system items a tables_def front.0 refl k.0, (of_system items b columns_def front.1 refl k.1.0, of_users items ts k.1.1 defs));
    }

module _ (reads : Reading) (gives : ReadsWritten reads) (items : List JournalItem) (legal : IsLegal reads items) where
  abbrev nothing : Tables → Type 0
  nothing T = Unit {0}

  sound : (id : ℕ) × Sound id 0 (serial reads items)
  sound =
      let r = legal_keeps Any nothing (λ tx seq T stmt s any n. tt) reads (λ text stmt e. tt) items legal tt in
      (r.0, r.1)

  shown : AllByRecursion ItemRules items → AllByRecursion TableFitsFormat (serial reads items) → Shown (user_defs (serial reads items)) (map table_rows (serial reads items))
  shown rules room =
      let T = serial reads items in
      let d = legal_described reads items legal in
      shown_by items T (legal_encoded reads gives items legal) (legal_formed reads items legal).1.system (legal_ids reads items legal) d.count
      (known_tables items rules sound.0 T d.few sound.1.each (legal_tables reads items legal).each room)

  pub image_is : (h : List ℕ → List ℕ) (database : List ℕ) → FitsImageFormat h reads database items → IsImage (image_of h reads database items)
  unfolding image_of
  image_is h database room =
      let l : Ledger = ledger_of h reads items in
      let s = shown room.rules room.tables in
      let e = entries_are h room.hash reads items legal room.rules in
      let count : length l.blocks ≡ blocks items = blocks_counted h reads items in
      let all : length (l.closed ++ l.pending) ≡ tx_count items = entries_counted h reads items in
      let both : length (l.closed ++ l.pending) ≡ length l.closed + length l.pending = length-append l.closed l.pending in
      let few : blocks items < 2 ^ 64 = room.blocks in
      let many : tx_count items < 2 ^ 64 = room.entries in
      record {
        database = room.database_name;
        block_count = omega (arith, count, few);
        blocks = records_are h room.hash 0 no_hash l.blocks l.closed (parted h reads items).closed refl (omega (arith, count, few)) (omega (arith, all, both, many));
        entry_count = omega (arith, all, many);
        entries = all_append IsPlaceless l.closed l.pending e.closed e.pending;
        places = entries_by_size h reads items;
        def_count = s.count;
        defs = s.defs_are;
        ids = s.ids;
        tables = s.tables_are;
      }

users_stand : (T : Tables) → AllStand T → AllByRecursion NothingDropped (user_defs T)
users_stand [] all = tt
users_stand (a ∷ []) all = tt
users_stand (a ∷ b ∷ ts) all = all.1.1

pub nothing_is_gone : (h : List ℕ → List ℕ) (reads : Reading) (database : List ℕ) (items : List JournalItem)
    → ((text : List ℕ) (stmt : Stmt) → reads text ≡ Some stmt → has_statement 1 stmt ≡ true) → IsLegal reads items → NothingGone (image_of h reads database items)
unfolding image_of
nothing_is_gone h reads database items first legal = users_stand (serial reads items) (all_stand reads first items legal)
