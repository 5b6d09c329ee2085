-- What each statement keeps, where all that stands is earlier than its first event, holds of the tables to which a
-- legal journal leads.
use Rattle.std.proofs.Common.{◌≡◌, ◌≤◌, ◌<◌, ℕ, suc, ◌+◌, inl, inr, refl, sym, ap, subst, ◌∙◌, Bool, true, false, List, [], ◌∷◌, ◌++◌, map, Option, Some, None, arith, append_assoc, append-nil}
use Rattle.std.proofs.lemmas.Bool.{eq-eqb}
use Rattle.std.specs.Prelude.{IfSome}
use Rattle.std.specs.List.{AllByRecursion}
use Rattle.sql_types.specs.declared.journal.JournalItem.{JournalItem}
use Rattle.sql_types.specs.declared.journal.JournalItem.TheVariants.{Tx, Close}
use Rattle.sql_types.specs.declared.statement.Stmt.{Stmt}
use Rattle.sql_types.specs.declared.statement.Stmt.TheVariants as s
use Rattle.sql_types.specs.declared.version.Table.{Table}
use Rattle.sql_types.specs.declared.version.Version.{Version}
use Rattle.spec_model.specs.Rows.{EventId}
use Rattle.spec_model.specs.Catalog.{Tables}
use Rattle.spec_model.specs.Effect.{effect}
use Rattle.spec_model.specs.SystemTables.{first_tables}
use Rattle.spec_model.specs.Runs.{Sound}
use Rattle.spec_model.specs.Script.{Reading, State, alone, by_statement, start, text_step, script_from, script}
use Rattle.spec_model.specs.Journals.{tx_count, IsOther, after_item, serial_from, serial, IsNext, IsLegalFrom, IsLegal}
use Rattle.law_frame.proofs.Alls.{all_weaker}
use Rattle.law_frame.proofs.OtherTransactions.{others_sound}
use Rattle.law_frame.proofs.SoundStatements.{first_sound}
use Rattle.law_frame.proofs.StepByStep.{OnText, Throughout, throughout, script_keeps_where}
use Rattle.law_journal.specs.Fits.{FitsSoFar}
use Rattle.law_journal.specs.Kept.{IsNumbered, IsEarlier, AllApart, IsPast, KeptTable, Kept}
use Rattle.law_journal.specs.Described.{Described}
use Rattle.law_journal.specs.Serial.{place_in}
use Rattle.law_journal.proofs.Keeping.{first_kept, first_described, statement_kept, statement_described}
use Rattle.law_journal.proofs.Serials.{no_number, own_place, one_tx, place_of_item}

-- ---- between transactions

module _ (place : ℕ → ℕ) where
  -- all that stands in the version is of the first m transactions
  pub record Settled (m : ℕ) (v : Version) : Type 0 where
    pub start : place v.start.0 < m
    pub end : IfSome v.end (λ e. IsEarlier place v.start e × (place e.0 < m))

  pub record SettledTable (m : ℕ) (t : Table) : Type 0 where
    pub settled : AllByRecursion (Settled m) t.versions
    pub apart : AllApart place t.def.columns t.versions
    pub fit : AllByRecursion (λ v. FitsSoFar t.def.columns v.values) t.versions

  before_next : (m id seq : ℕ) (a : EventId) → place id ≡ m → IsEarlier place a (id, seq) → place a.0 < suc m
  before_next m id seq a is b = elim b [ inl lt ↦ omega (arith, is, lt) | inr p ↦ omega (arith, is, p.0) ]

  settled_end : (m id seq : ℕ) (start : EventId) (o : Option EventId) → place id ≡ m → IfSome o (λ e. IsEarlier place start e × IsEarlier place e (id, seq)) → IfSome o (λ e. IsEarlier place start e × (place e.0 < suc m))
  settled_end m id seq start None is h = tt
  settled_end m id seq start (Some e) is h = (h.0, before_next m id seq e is h.1)

  settles : (m id seq : ℕ) (t : Table) → place id ≡ m → KeptTable place (id, seq) t → SettledTable (suc m) t
  settles m id seq t is k = record {
    settled = all_weaker (IsPast place (id, seq)) (Settled (suc m)) (λ v p. record { start = before_next m id seq v.start is p.start; end = settled_end m id seq v.start v.end is p.end }) t.versions k.past;
    apart = k.apart;
    fit = k.fit;
  }

  past_end : (m id : ℕ) (start : EventId) (o : Option EventId) → place id ≡ m → IfSome o (λ e. IsEarlier place start e × (place e.0 < m)) → IfSome o (λ e. IsEarlier place start e × IsEarlier place e (id, 0))
  past_end m id start None is h = tt
  past_end m id start (Some e) is h = (h.0, inl (omega (arith, is, h.1)))

  begins : (m id : ℕ) (t : Table) → place id ≡ m → SettledTable m t → KeptTable place (id, 0) t
  begins m id t is s = record {
    past = all_weaker (Settled m) (IsPast place (id, 0)) (λ v p. record { start = inl (omega (arith, is, p.start)); end = past_end m id v.start v.end is p.end }) t.versions s.settled;
    apart = s.apart;
    fit = s.fit;
  }

module _ (place : ℕ → ℕ) (Such : Stmt → Type 0) (P : Tables → Type 0)
    (keeps : (tx seq : ℕ) (T : Tables) (stmt : Stmt) → Kept place tx seq T → Described T → Such stmt → P T → P (effect T tx seq stmt).tables) where
  -- ---- scripts

  module _ (tx : ℕ) where
    record AllKept (seq : ℕ) (T : Tables) : Type 0 where
      kept : Kept place tx seq T
      described : Described T
      holds : P T

    effect_kept : (seq : ℕ) (T : Tables) (stmt : Stmt) → Such stmt → AllKept seq T → AllKept (effect T tx seq stmt).seq (effect T tx seq stmt).tables
    effect_kept seq T stmt such h = record {
      kept = statement_kept place tx seq T stmt h.kept h.described;
      described = statement_described place tx seq T stmt h.kept.sound.ids h.described;
      holds = keeps tx seq T stmt h.kept h.described such h.holds;
    }

    abbrev Always : State → Type 0
    Always x = Throughout AllKept x

    alone_kept : (x : State) (stmt : Stmt) → Such stmt → Always x → Always (alone tx x stmt).0
    alone_kept x (s.Create c) such h = (effect_kept x.seq x.tables (s.Create c) such h.0, h.1)
    alone_kept x (s.Index c) such h = (effect_kept x.seq x.tables (s.Index c) such h.0, h.1)
    alone_kept x (s.Alter a) such h = (effect_kept x.seq x.tables (s.Alter a) such h.0, h.1)
    alone_kept x (s.Drop name) such h = (effect_kept x.seq x.tables (s.Drop name) such h.0, h.1)
    alone_kept x (s.Change stmt) such h = (effect_kept x.seq x.tables (s.Change stmt) such h.0, h.1)
    alone_kept x (s.Select q) such h = (effect_kept x.seq x.tables (s.Select q) such h.0, h.1)
    alone_kept x s.Begin such h = h
    alone_kept x s.Commit such h = h
    alone_kept x (s.Save name) such h = h
    alone_kept x (s.Rollback name) such h = h
    alone_kept x s.Digest such h = h
    alone_kept x s.Image such h = h

    text_kept : (x : State) (o : Option Stmt) → OnText Such o → Always x → Always (by_statement false tx x o).0
    text_kept x None such h = h
    text_kept x (Some stmt) such h = alone_kept x stmt such h

    module _ (reads : Reading) (gives : (text : List ℕ) (stmt : Stmt) → reads text ≡ Some stmt → Such stmt) where
      on_text : (text : List ℕ) (o : Option Stmt) → reads text ≡ o → OnText Such o
      on_text text None e = tt
      on_text text (Some stmt) e = gives text stmt e

      on_texts : (texts : List (List ℕ)) → AllByRecursion (λ t. OnText Such (reads t)) texts
      on_texts [] = tt
      on_texts (t ∷ ts) = (on_text t (reads t) refl, on_texts ts)

      texts_kept : (x : State) (texts : List (List ℕ)) → Always x → Always (script_from reads false tx x texts).state
      unfolding script_from text_step
      texts_kept x [] h = h
      texts_kept x (t ∷ ts) h = texts_kept (text_step reads false tx x t).0 ts (text_kept x (reads t) (on_text t (reads t) refl) h)

      script_kept : (explicit : Bool) (T : Tables) (texts : List (List ℕ)) → AllKept 0 T → Always (script reads explicit T tx texts).state
      script_kept true T texts h =
          script_keeps_where tx Such (Throughout AllKept) (throughout AllKept tx Such (λ m U stmt k such b. effect_kept m U stmt such b)) reads (start T) texts (on_texts texts) (h, tt)
      script_kept false T texts h = texts_kept (start T) texts (h, tt)

  -- ---- journals

  module _ (reads : Reading) (gives : (text : List ℕ) (stmt : Stmt) → reads text ≡ Some stmt → Such stmt) where
    pub record Between (before : List JournalItem) (T : Tables) : Type 0 where
      pub sound : (id : ℕ) → AllByRecursion (IsOther id) before → Sound id 0 T
      pub numbered : (id : ℕ) → (k : ℕ) × IsNumbered id k T
      pub each : AllByRecursion (SettledTable place (tx_count before)) T
      pub described : Described T
      pub holds : P T

    first_part : (Q : JournalItem → Type 0) (xs ys : List JournalItem) → AllByRecursion Q (xs ++ ys) → AllByRecursion Q xs
    first_part Q [] ys h = tt
    first_part Q (x ∷ xs) ys h = (h.0, first_part Q xs ys h.1)

    last_one : (Q : JournalItem → Type 0) (xs : List JournalItem) (y : JournalItem) → AllByRecursion Q (xs ++ y ∷ []) → Q y
    last_one Q [] y h = h.0
    last_one Q (x ∷ xs) y h = last_one Q xs y h.1

    after_one : (before : List JournalItem) (T : Tables) (item : JournalItem) → ((id : ℕ) → place_in (item ∷ []) id ≡ 0 → tx_count (item ∷ []) ≡ 1 → AllByRecursion (IsOther id) before → place id ≡ tx_count before)
        → IsNext reads before T item → Between before T → Between (before ++ item ∷ []) (after_item reads T item)
    after_one before T (Tx id session time opened lines) at next b =
        let m : ℕ = tx_count before in
        let texts : List (List ℕ) = map (λ l. l.0) lines in
        let is : place id ≡ m = at id (rw (eq-eqb id id refl) refl) refl next.1 in
        let k : Kept place id 0 T = record { sound = b.sound id next.1; own = no_number id T (b.sound id next.1); others = b.numbered; each = all_weaker (SettledTable place m) (KeptTable place (id, 0)) (λ t s. begins place m id t is s) T b.each } in
        let after = (script_kept id reads gives opened T texts (record { kept = k; described = b.described; holds = b.holds })).0 in
        let count : tx_count (before ++ Tx id session time opened lines ∷ []) ≡ suc m = omega (arith, one_tx before (Tx id session time opened lines)) in
        record {
          sound = λ other h. others_sound id other 0 (last_one (IsOther other) before (Tx id session time opened lines) h) reads opened T texts (b.sound id next.1) (b.sound other (first_part (IsOther other) before (Tx id session time opened lines ∷ []) h));
          numbered = after.kept.others;
          each = subst (λ (n : ℕ). AllByRecursion (SettledTable place n) (after_item reads T (Tx id session time opened lines))) (sym count)
              (all_weaker (KeptTable place (id, (script reads opened T id texts).state.seq)) (SettledTable place (suc m)) (λ t s. settles place m id (script reads opened T id texts).state.seq t is s) (script reads opened T id texts).state.tables after.kept.each);
          described = after.described;
          holds = after.holds;
        }
    after_one before T (Close n) at next b =
        let count : tx_count (before ++ Close n ∷ []) ≡ tx_count before = omega (arith, one_tx before (Close n)) in
        record {
          sound = λ id h. b.sound id (first_part (IsOther id) before (Close n ∷ []) h);
          numbered = b.numbered;
          each = subst (λ (m : ℕ). AllByRecursion (SettledTable place m) T) (sym count) b.each;
          described = b.described;
          holds = b.holds;
        }

-- the places are those in the journal
module _ (all : List JournalItem) (Such : Stmt → Type 0) (P : Tables → Type 0)
    (keeps : (tx seq : ℕ) (T : Tables) (stmt : Stmt) → Kept (place_in all) tx seq T → Described T → Such stmt → P T → P (effect T tx seq stmt).tables)
    (reads : Reading) (gives : (text : List ℕ) (stmt : Stmt) → reads text ≡ Some stmt → Such stmt) where
  abbrev At : List JournalItem → Tables → Type 0
  At before T = Between (place_in all) Such P keeps reads gives before T

  after_all : (before : List JournalItem) (T : Tables) (items : List JournalItem) → all ≡ before ++ items → IsLegalFrom reads before T items → At before T → At all (serial_from reads T items)
  unfolding serial_from
  after_all before T [] e legal b = subst (λ (xs : List JournalItem). At xs T) (sym (e ∙ append-nil before)) b
  after_all before T (i ∷ is) e legal b =
      after_all (before ++ i ∷ []) (after_item reads T i) is (e ∙ sym (append_assoc before (i ∷ []) is)) legal.1
      (after_one (place_in all) Such P keeps reads gives before T i
      (λ id here one others. ap (λ (xs : List JournalItem). place_in xs id) e ∙ own_place id before i is others (place_of_item id i is here one)) legal.0 b)

  first_settled : AllByRecursion (SettledTable (place_in all) 0) first_tables
  unfolding first_tables
  first_settled = (record { settled = tt; apart = tt; fit = tt }, (record { settled = tt; apart = tt; fit = tt }, tt))

  pub legal_keeps_in_place : IsLegal reads all → P first_tables → P (serial reads all)
  legal_keeps_in_place legal first =
      (after_all [] first_tables all refl legal (record {
        sound = λ id h. first_sound id 0;
        numbered = (first_kept (place_in all) 0).others;
        each = first_settled;
        described = first_described;
        holds = first;
      })).holds
