-- One item more that was run again.
use Rattle.std.proofs.Common.{◌≡◌, ℕ, ◌+◌, ◌≤◌, Bool, true, List, [], ◌∷◌, ◌++◌, map, flat_map, length, refl, sym, ap, subst, ◌∙◌, arith, append-nil, append_assoc}
use Rattle.std.specs.List.{AllByRecursion}
use Rattle.std.proofs.lemmas.Bool.{and_parts, leb-true}
use Rattle.std.proofs.lemmas.List.{length-append}
use Rattle.sql_types.specs.declared.journal.JournalItem.{JournalItem}
use Rattle.sql_types.specs.declared.journal.JournalItem.TheVariants.{Tx, Close}
use Rattle.sql_types.specs.declared.version.Table.{Table}
use Rattle.sql_types.specs.JournalRules.{Line, ItemRules, TxRules, is_block_size, ids_differ, closes_follow}
use Rattle.spec_model.specs.Agreement.{IdsFrom}
use Rattle.spec_model.specs.Catalog.{Tables, defs_of}
use Rattle.spec_model.specs.Events.{all_events}
use Rattle.spec_model.specs.Journals.{tx_count, closed, IsOther, IsNext, IsLegalFrom, IsLegal, AgreesWith, after_item, serial_from, serial}
use Rattle.spec_model.specs.Script.{Reading, script}
use Rattle.spec_model.specs.SystemTables.{first_tables}
use Rattle.format_entry.specs.Entry.{IsEntry}
use Rattle.law_frame.proofs.Alls.{all_weaker, all_both}
use Rattle.law_frame.proofs.LegalSound.{legal_sound}
use Rattle.law_journal.specs.Fits.{FitsSoFar}
use Rattle.law_journal.specs.Described.{Described}
use Rattle.law_journal.specs.Serial.{TableOf, TablesOf}
use Rattle.law_journal.proofs.DefLists.{all_defs}
use Rattle.law_journal.proofs.SoFar.{few}
use Rattle.law_journal.proofs.Serials.{legal_tables, legal_described}
use Rattle.sql_apply.specs.Short.{IsShort, AreShort}
use Rattle.spec_ledger.specs.Entries.{entry_of}
use Rattle.spec_ledger.specs.Blocks.{no_hash, last_hash}
use Rattle.spec_ledger.specs.Ledger.{Ledger, empty_ledger, ledger_from, ledger_of, commits, closes}
use Rattle.spec_ledger.proofs.Adding.{serial_more, one_more}
use Rattle.law_blocks.proofs.Counting.{entries_counted, closed_counted}
use Rattle.law_blocks.proofs.Roots.{legal_ids, roots_rise}
use Rattle.store_blocks.specs.LedgerChain.{HashedLedger, KeepsHash}
use Rattle.format_image.specs.Image.{image_of}
use Rattle.law_image.proofs.Entries.{roots_are, few_roots}
use Rattle.law_events.proofs.Leaves.{all_leaves}
use Rattle.sql_reference.specs.Machine.{Machine, at_rest}
use Rattle.sql_reference.specs.Order.{IsNew, IsNewItem, InOrder}
use Rattle.sql_reference.specs.RunEnd.{run_end}
use Rattle.sql_reference.specs.declared.serial_machine.ReplayAgreement.{ReplayAgreement}
use Rattle.sql_reference.specs.declared.serial_machine.ReplayAgreement.TheVariants.{Agrees}
use Rattle.sql_reference.proofs.Ready.{sound_new}
use Rattle.audit_replay.specs.Reached.{HaveLeaves, LeadTo, MayFollow, KeepRules, Reached, image_from}
use Rattle.audit_replay.specs.declared.running.RanAgain.{RanAgain}
use Rattle.audit_replay.proofs.Rules.{rules_at, others, pending_enough}
use Rattle.format_journal.specs.Rules.{IsItem, IsJournal}
use Rattle.sql_types.specs.declared.journal.Journal.{Journal}
use Rattle.law_events.specs.Room.{FitsLeaf}
use Rattle.spec_model.specs.Events.{events_of}

-- ---- lists and tables

first_ones : {B : Type 0} (P : B → Type 0) (xs ys : List B) → AllByRecursion P (xs ++ ys) → AllByRecursion P xs
first_ones P [] ys h = tt
first_ones P (x ∷ xs) ys h = (h.0, first_ones P xs ys h.1)

last_ones : {B : Type 0} (P : B → Type 0) (xs ys : List B) → AllByRecursion P (xs ++ ys) → AllByRecursion P ys
last_ones P [] ys h = h
last_ones P (x ∷ xs) ys h = last_ones P xs ys h.1

short_table : (J : List JournalItem) (t : Table) → (length t.def.columns ≤ 64) × TableOf J t → AllByRecursion IsShort t.versions
short_table J t k =
    all_weaker (λ v. FitsSoFar t.def.columns v.values) IsShort
    (λ v f. omega (arith, few t.def.columns v.values f, k.0)) t.versions k.1.fit

pub are_short : (J : List JournalItem) (T : Tables) → TablesOf J T → Described T → AreShort T
are_short J T k d =
    all_weaker (λ t. (length t.def.columns ≤ 64) × TableOf J t) (λ t. AllByRecursion IsShort t.versions) (short_table J) T
    (all_both (λ t. length t.def.columns ≤ 64) (TableOf J) T (all_defs (λ def. length def.columns ≤ 64) T d.few) k.each)

parted : {A B : Type 0} (P : B → Type 0) (f : A → List B) (xs : List A) → AllByRecursion P (flat_map f xs)
    → AllByRecursion (λ x. AllByRecursion P (f x)) xs
parted P f [] h = tt
parted P f (x ∷ xs) h = (first_ones P (f x) (flat_map f xs) h, parted P f xs (last_ones P (f x) (flat_map f xs) h))

-- ---- items that keep the rules

pub follows_at : (items before : List JournalItem) (i : JournalItem) (rest : List JournalItem) → KeepRules items
    → items ≡ before ++ i ∷ rest → MayFollow before i
follows_at items before (Tx id session time explicit lines) rest rules is = (
  rules_at before (Tx id session time explicit lines) rest (subst (AllByRecursion ItemRules) is rules.each),
  others before id session time explicit lines rest (subst (λ l. ids_differ [] l ≡ true) is rules.ids),
)
follows_at items before (Close k) rest rules is = (
  rules_at before (Close k) rest (subst (AllByRecursion ItemRules) is rules.each),
  pending_enough before k rest (subst (λ l. closes_follow 0 l ≡ true) is rules.closes),
)

rules_of_item : (i : JournalItem) → IsItem i → ItemRules i
rules_of_item (Tx id session time explicit lines) h = h.rules
rules_of_item (Close k) h = h

pub rules_of : (j : Journal) → IsJournal j → KeepRules j.items
rules_of j h = record {
  each = all_weaker IsItem ItemRules rules_of_item j.items h.items;
  ids = h.ids;
  closes = h.closes;
}

pub closing_follows : (J : List JournalItem) (i : JournalItem) (k : ℕ) → i ≡ Close k → MayFollow J i
    → (is_block_size k ≡ true) × (closed J + k ≤ tx_count J)
closing_follows J i k is follows = subst (MayFollow J) is follows

-- ---- by the statements that texts are

module _ (reads : Reading) where
  -- ---- one item behind legal ones

  pub legal_more : (before : List JournalItem) (T : Tables) (J : List JournalItem) (i : JournalItem)
      → IsLegalFrom reads before T J → IsNext reads (before ++ J) (serial_from reads T J) i
      → IsLegalFrom reads before T (J ++ i ∷ [])
  unfolding serial_from
  legal_more before T [] i legal next =
      (subst (λ (l : List JournalItem). IsNext reads l T i) (append-nil before) next, tt)
  legal_more before T (j ∷ js) i legal next = (
    legal.0,
    legal_more (before ++ j ∷ []) (after_item reads T j) js i legal.1
        (subst (λ (l : List JournalItem). IsNext reads l (serial_from reads (after_item reads T j) js) i)
        (sym (append_assoc before (j ∷ []) js)) next),
  )

  -- ---- the closing of a block

  module _ (h : List ℕ → List ℕ) (J : List JournalItem) (k : ℕ) (m : Machine) (b c : HashedLedger)
      (reached : Reached h reads J m b) where
    -- so many entries are pending
    pub enough : closed J + k ≤ tx_count J → k ≤ length b.ledger.pending
    enough pending =
        let all = entries_counted h reads J in
        let in_blocks = closed_counted h reads J reached.legal in
        let split = length-append (ledger_of h reads J).closed (ledger_of h reads J).pending in
        let here : length b.ledger.pending ≡ length (ledger_of h reads J).pending = ap (λ (l : Ledger). length l.pending) reached.ledger in
        omega (arith, pending, all, in_blocks, split, here)

    pub closes_one : ItemRules (Close k) → closed J + k ≤ tx_count J
        → c.ledger ≡ closes h k b.ledger → KeepsHash h c → Reached h reads (J ++ Close k ∷ []) m c
    closes_one rules pending ledger hash = record {
      legal = legal_more [] first_tables J (Close k) reached.legal
          (leb-true 1 k (and_parts _ _ rules).0, leb-true k _ (and_parts _ _ rules).1, pending);
      machine = reached.machine ∙ ap at_rest (sym (serial_more reads first_tables J (Close k)));
      order = reached.order;
      ledger = ledger ∙ ap (closes h k) reached.ledger ∙ sym (one_more h reads J (Close k));
      hash = hash;
    }

  -- ---- a transaction

  -- no transaction before has this id, so it has no event yet
  pub is_new : (J : List JournalItem) (id : ℕ) → IsLegal reads J → AllByRecursion (IsOther id) J
      → IsNew id (serial reads J)
  is_new J id legal other = sound_new id (serial reads J) (legal_sound reads J id legal other)

  module _ (J : List JournalItem) (id : ℕ) (session : List ℕ) (time : ℕ) (explicit : Bool) (lines : List Line)
      (legal : IsLegal reads J) (rules : TxRules id session time explicit lines) (other : AllByRecursion (IsOther id) J)
      (agrees : AgreesWith reads (serial reads J) id explicit lines
      (script reads explicit (serial reads J) id (map (λ l. l.0) lines))) where
    abbrev item : JournalItem
    item = Tx id session time explicit lines

    abbrev with_it : List JournalItem
    with_it = J ++ item ∷ []

    abbrev after : Tables
    after = after_item reads (serial reads J) item

    same : serial reads with_it ≡ after
    same = serial_more reads first_tables J item

    pub legal_now : IsLegal reads with_it
    legal_now = legal_more [] first_tables J item legal (agrees, other)

    tables_now : TablesOf with_it after
    tables_now = subst (TablesOf with_it) same (legal_tables reads with_it legal_now)

    described_now : Described after
    described_now = subst Described same (legal_described reads with_it legal_now)

    pub short_now : AreShort after
    short_now = are_short with_it after tables_now described_now

    pub leaves_now : HaveLeaves id after
    unfolding all_events
    leaves_now = parted FitsLeaf (events_of id) after (all_leaves with_it id after tables_now described_now)

    -- the entry has a spelling
    pub entry_now : (h : List ℕ → List ℕ) → ((bytes : List ℕ) → length (h bytes) ≡ 32) → IsEntry (entry_of h after id session time)
    entry_now h sized =
        let ids : IdsFrom 1 (defs_of after) = subst (λ (T : Tables). IdsFrom 1 (defs_of T)) same (legal_ids reads with_it legal_now) in
        record {
          id = rules.id;
          block = omega arith;
          ordinal = omega arith;
          time = rules.time;
          principal = rules.session;
          count = few_roots h sized id after described_now.count;
          roots = roots_are h sized id after ids described_now.count;
          rise = roots_rise h id after ids agrees.events;
        }

    pub commits_one : (h : List ℕ → List ℕ) (m n : Machine) (b c : HashedLedger) → Reached h reads J m b
        → n ≡ at_rest after → InOrder n → c.ledger ≡ commits (entry_of h after id session time) b.ledger → c.hash ≡ b.hash
        → Reached h reads with_it n c
    commits_one h m n b c reached machine order ledger hash = record {
      legal = legal_now;
      machine = machine ∙ ap at_rest (sym same);
      order = order;
      ledger =
          ledger ∙ ap (commits (entry_of h after id session time)) reached.ledger
          ∙ ap (λ (T : Tables). commits (entry_of h T id session time) (ledger_of h reads J)) (sym same)
          ∙ sym (one_more h reads J item);
      hash = hash ∙ reached.hash ∙ sym (ap (λ (l : Ledger). last_hash h no_hash l.blocks) ledger);
    }

  -- ---- an item, by the rules that let it follow

  -- its transaction has no event yet
  pub new_item : (h : List ℕ → List ℕ) (J : List JournalItem) (i : JournalItem) (m : Machine) (b : HashedLedger)
      → Reached h reads J m b → MayFollow J i → IsNewItem i m.tables
  new_item h J (Tx id session time explicit lines) m b reached follows =
      subst (IsNew id) (sym (ap (λ (n : Machine). n.tables) reached.machine)) (is_new J id reached.legal follows.1)
  new_item h J (Close k) m b reached follows = tt

  pub first_reached : (h : List ℕ → List ℕ) (m : Machine) (b : HashedLedger) → m ≡ at_rest first_tables → InOrder m
      → b ≡ record { ledger = empty_ledger; hash = no_hash } → Reached h reads [] m b
  unfolding serial_from ledger_from
  first_reached h m b machine order ledger_chain = record {
    legal = tt;
    machine = machine;
    order = order;
    ledger = ap (λ (c : HashedLedger). c.ledger) ledger_chain;
    hash = ap (λ (c : HashedLedger). c.hash) ledger_chain ∙ sym (ap (λ (c : HashedLedger). last_hash h no_hash c.ledger.blocks) ledger_chain);
  }

  -- ---- a closing that was run

  pub close_end : (T : Tables) (i : JournalItem) (k : ℕ) → i ≡ Close k → Agrees ≡ run_end reads T i
  unfolding run_end
  close_end T i k is = rw is refl

  -- ---- a transaction that was run and agreed

  module _ (h : List ℕ → List ℕ) (J : List JournalItem) (i : JournalItem) (id : ℕ) (session : List ℕ) (time : ℕ) (explicit : Bool)
      (lines : List Line) (m n : Machine) (b : HashedLedger) (end : ReplayAgreement)
      (reached : Reached h reads J m b) (follows : MayFollow J i) (is : i ≡ Tx id session time explicit lines)
      (there : run_end reads (serial reads J) (Tx id session time explicit lines) ≡ Agrees
      → AgreesWith reads (serial reads J) id explicit lines
      (script reads explicit (serial reads J) id (map (λ l. l.0) lines)))
      (ended : end ≡ run_end reads m.tables i) (agreed : end ≡ Agrees)
      (moved : end ≡ Agrees → n ≡ at_rest (after_item reads m.tables i)) where
    tables_are : m.tables ≡ serial reads J
    tables_are = ap (λ (x : Machine). x.tables) reached.machine

    ran : run_end reads (serial reads J) (Tx id session time explicit lines) ≡ Agrees
    ran =
        ap (λ (T : Tables). run_end reads T (Tx id session time explicit lines)) (sym tables_are)
        ∙ ap (λ (x : JournalItem). run_end reads m.tables x) (sym is) ∙ sym ended ∙ agreed

    rules_now : TxRules id session time explicit lines × AllByRecursion (IsOther id) J
    rules_now = subst (MayFollow J) is follows

    now : n ≡ at_rest (after_item reads (serial reads J) (Tx id session time explicit lines))
    now =
        moved agreed ∙ ap (λ (x : JournalItem). at_rest (after_item reads m.tables x)) is
        ∙ ap (λ (T : Tables). at_rest (after_item reads T (Tx id session time explicit lines))) tables_are

    pub short_then : AreShort n.tables
    short_then =
        subst (λ (x : Machine). AreShort x.tables) (sym now)
        (short_now J id session time explicit lines reached.legal rules_now.0 rules_now.1 (there ran))

    pub leaves_then : HaveLeaves id n.tables
    leaves_then =
        subst (λ (x : Machine). HaveLeaves id x.tables) (sym now)
        (leaves_now J id session time explicit lines reached.legal rules_now.0 rules_now.1 (there ran))

    pub entry_then : ((bytes : List ℕ) → length (h bytes) ≡ 32) → IsEntry (entry_of h n.tables id session time)
    entry_then sized =
        subst (λ (x : Machine). IsEntry (entry_of h x.tables id session time)) (sym now)
        (entry_now J id session time explicit lines reached.legal rules_now.0 rules_now.1 (there ran) h sized)

    pub reached_then : (c : HashedLedger) → InOrder n → c.ledger ≡ commits (entry_of h n.tables id session time) b.ledger
        → c.hash ≡ b.hash → Reached h reads (J ++ i ∷ []) n c
    reached_then c order ledger hash =
        subst (λ (x : JournalItem). Reached h reads (J ++ x ∷ []) n c) (sym is)
        (commits_one J id session time explicit lines reached.legal rules_now.0 rules_now.1 (there ran) h m n b c reached now order
        (ledger ∙ ap (λ (x : Machine). commits (entry_of h x.tables id session time) b.ledger) now) hash)

  -- ---- the image of where items lead

  pub image_led : (h : List ℕ → List ℕ) (database : List ℕ) (items : List JournalItem) (r : RanAgain)
      → LeadTo h reads items r → image_from database r.ledger_chain.ledger r.tables.items ≡ image_of h reads database items
  unfolding image_of
  image_led h database items r leads =
      ap (λ (l : Ledger). image_from database l r.tables.items) leads.ledger
      ∙ ap (λ (T : Tables). image_from database (ledger_of h reads items) T) leads.tables
