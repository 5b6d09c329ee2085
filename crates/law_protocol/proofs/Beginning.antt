-- The cells at the beginning and the first seat stand together.
use Rattle.spec_protocol.specs.AllowedVisit.{first_seat}
use Rattle.std.proofs.Common.{◌≡◌, ℕ, zero, suc, ◌+◌, ◌≤◌, Bool, true, false, List, [], ◌∷◌, refl, sym, ap, ◌∙◌, subst, inl, arith, Option, Some, None}
use Rattle.std.proofs.lemmas.Bool.{ne_eqb}
use Rattle.std.specs.Prelude.{◌==◌, if◌then◌else◌}
use mathlib.Core.Option.{some, none}
use lib.ListN.{get_elem?}
use Rattle.sql_types.specs.declared.lock.Hold.{Hold}
use Rattle.sql_types.specs.declared.table.TableDef.{TableDef}
use Rattle.sql_types.specs.declared.version.Version.{Version}
use Rattle.spec_model.specs.Catalog.{Defs, versions_of, defs_of}
use Rattle.spec_model.specs.SystemTables.{tables_id, tables_def, columns_def, first_tables}
use Rattle.spec_model.specs.Limits.{max_block}
use Rattle.spec_model.specs.Runs.{Rising}
use Rattle.spec_model.specs.Journals.{serial_from, serial}
use Rattle.spec_history.specs.Lists.{Text, Each, In}
use Rattle.spec_protocol.specs.Server.{Server}
use Rattle.spec_protocol.specs.Cells.{TableCell, Cell, Rows, first_catalog, first_ledger, empty_cells, first_cells, holds_in, holds_found, holds_at, versions_in, versions_found, versions_at, cell_of}
use Rattle.spec_protocol.specs.Seats.{OpenTransaction, Session, Role, session, SeatState, idle_seat}
use Rattle.spec_protocol.specs.OpenOnes.{HasOpen}
use Rattle.spec_protocol.specs.CommittedTxs.{committed}
use Rattle.spec_protocol.specs.Contents.{Contents, Known, contents, known, table_found}
use Rattle.spec_protocol.specs.TablesAreSerial.{StandsAs, def_at}
use Rattle.spec_protocol.specs.LocksAreRequested.{LocksAreRequested}
use Rattle.spec_protocol.specs.LocksCover.{IsUnderLocks}
use Rattle.spec_protocol.specs.Parts.{Numbers}
use Rattle.spec_protocol.specs.TranscriptsAgree.{SeatAgrees, TranscriptsAgree}
use Rattle.spec_protocol.specs.StandTogether.{LocksAskedFor, Stands}
use Rattle.spec_model.specs.Agreement.{columns_at}
use Rattle.spec_model.specs.Keys.{of_key}
use Rattle.spec_protocol.specs.Ledger.{ledger_from}

-- ---- cells

abbrev empty_cell : ℕ → TableCell
empty_cell id = record { id = id; key = []; versions = []; order = []; indexes = []; holds = [] }

-- what is found there, if anything, is the empty cell of this table
abbrev IsEmpty : ℕ → mathlib.Core.Option.Option Cell → Type 0
IsEmpty id none = Unit {0}
IsEmpty id (some c) = c ≡ Rows (empty_cell id)

zero_plus : (k : ℕ) → 0 + k ≡ k
zero_plus k = omega arith

swap : (i id : ℕ) → i + suc id ≡ suc i + id
swap i id = omega arith

all_empty : (n id i : ℕ) → IsEmpty (i + id) (get_elem? (empty_cells n id) i)
all_empty zero id i = tt
all_empty (suc n) id zero = subst (λ k. IsEmpty k (some (Rows (empty_cell id)))) (sym (zero_plus id)) refl
all_empty (suc n) id (suc i) = subst (λ k. IsEmpty k (get_elem? (empty_cells n (suc id)) i)) (swap i id) (all_empty n (suc id) i)

none_held : (id : ℕ) (o : mathlib.Core.Option.Option Cell) → IsEmpty id o → holds_found o ≡ []
none_held id none e = refl
none_held id (some c) e = ap holds_in e

none_in : (id t : ℕ) (o : mathlib.Core.Option.Option Cell) → IsEmpty id o → versions_found t o ≡ []
none_in id t none e = refl
none_in id t (some c) e = ap (versions_in t) e

-- a choice between nothing and nothing is nothing
either_empty : (b : Bool) (x : List Version) → x ≡ [] → (if b then [] else x) ≡ []
either_empty true x e = refl
either_empty false x e = e

module _ (database : Text) (size : ℕ) where
  held_nowhere : (i : ℕ) → holds_at (first_cells database size) i ≡ []
  held_nowhere zero = refl
  held_nowhere (suc zero) = refl
  held_nowhere (suc (suc i)) = none_held (i + 3) (get_elem? (empty_cells 32 3) i) (all_empty 32 3 i)

  nothing_in : (t i : ℕ) → versions_found t (get_elem? (first_cells database size) i) ≡ []
  nothing_in t zero = either_empty (t == tables_id) [] refl
  nothing_in t (suc zero) = refl
  nothing_in t (suc (suc i)) = none_in (i + 3) t (get_elem? (empty_cells 32 3) i) (all_empty 32 3 i)

  -- each cell of a table, and its number
  abbrev IsTable : ℕ → mathlib.Core.Option.Option Cell → Type 0
  IsTable id none = Unit {0}
  IsTable id (some c) = (t : TableCell) × (c ≡ Rows t) × (t.id ≡ id)

  is_table : (id : ℕ) (o : mathlib.Core.Option.Option Cell) → IsEmpty id o → IsTable id o
  is_table id none e = tt
  is_table id (some c) e = (empty_cell id, e, refl)

  three : (i : ℕ) → i + 3 ≡ suc (suc (suc i))
  three i = omega arith

  tables_there : (i : ℕ) (c : Cell) → get_elem? (empty_cells 32 3) i ≡ some c → (t : TableCell) × (c ≡ Rows t) × (t.id ≡ suc (suc (suc i)))
  tables_there i c e = subst (λ id. IsTable id (some c)) (three i) (subst (λ o. IsTable (i + 3) o) e (is_table (i + 3) (get_elem? (empty_cells 32 3) i) (all_empty 32 3 i)))

  -- ---- tables

  abbrev defs : Defs
  defs = tables_def ∷ columns_def ∷ []

  skips : (b : Bool) (d : TableDef) (x : Option TableDef) → b ≡ false → x ≡ None → (if b then Some d else x) ≡ None
  skips b d x e f = ap (λ c. if c then Some d else x) e ∙ f

  undefined : (id : ℕ) → 3 ≤ id → def_at defs id ≡ None
  undefined id l = skips (1 == id) tables_def (if 2 == id then Some columns_def else None) (ne_eqb 1 id (λ e. omega arith))
      (skips (2 == id) columns_def None (ne_eqb 2 id (λ e. omega arith)) refl)

  no_versions : (id : ℕ) → versions_of first_tables id ≡ []
  unfolding first_tables
  no_versions id = either_empty (1 == id) (if 2 == id then [] else []) (either_empty (2 == id) [] refl)

  module _ (v : Server) (seats : List SeatState) where
    abbrev cells : List Cell
    cells = first_cells database size

    abbrev c : Contents
    c = contents cells

    abbrev k : Known
    k = known v.reads []

    -- a table's cell has nothing
    abbrev HasNothing : mathlib.Core.Option.Option TableCell → Type 0
    HasNothing (some t) = StandsAs v c k seats t (def_at defs t.id)
    HasNothing none = Unit {0}

    empty_stands : (id : ℕ) → StandsAs v c k seats (empty_cell (suc (suc (suc id)))) (def_at defs (suc (suc (suc id))))
    empty_stands id = subst (StandsAs v c k seats (empty_cell (suc (suc (suc id))))) (sym (undefined (suc (suc (suc id))) (omega arith))) (refl, refl, refl)

    has_nothing : (id : ℕ) (o : mathlib.Core.Option.Option Cell) → IsEmpty (suc (suc (suc id))) o → HasNothing (table_found o)
    has_nothing id none e = tt
    has_nothing id (some c) e = subst (λ d. HasNothing (table_found (some d))) (sym e) (empty_stands id)

    nothing_at : (i : ℕ) → HasNothing (c.table i)
    nothing_at zero = tt
    nothing_at (suc zero) = tt
    nothing_at (suc (suc i)) = has_nothing i (get_elem? (empty_cells 32 3) i) (subst (λ id. IsEmpty id (get_elem? (empty_cells 32 3) i)) (three i) (all_empty 32 3 i))

-- ---- the seat

abbrev NoSession : Role → Type 0
NoSession (session x) = ⊥
NoSession _ = Unit {0}

module _ (database : Text) (size : ℕ) where
  abbrev seat : SeatState
  seat = idle_seat database size 0 []

  abbrev IsIdle : mathlib.Core.Option.Option SeatState → Type 0
  IsIdle none = Unit {0}
  IsIdle (some s) = NoSession s.role

  idle_at : (j : ℕ) → IsIdle (get_elem? (seat ∷ []) j)
  idle_at zero = tt
  idle_at (suc j) = tt

  none_open : (j : ℕ) (x : Session) (o : OpenTransaction) → HasOpen (seat ∷ []) j x o → ⊥
  none_open j x o h = subst NoSession h.role (subst IsIdle h.there (idle_at j))

  module _ (v : Server) where
    abbrev no_sessions : Numbers
    no_sessions = record { past = []; now = None }

    abbrev AgreesIf : mathlib.Core.Option.Option SeatState → Type 0
    AgreesIf none = Unit {0}
    AgreesIf (some s) = SeatAgrees v [] (first_ledger database size) no_sessions s

    agrees_at : (j : ℕ) → AgreesIf (get_elem? (seat ∷ []) j)
    agrees_at zero = record {
      sessions = record { differ = tt; past = tt; now = tt; earlier = tt };
      database = λ p. refl;
      block_size = λ p. refl;
      marks = tt;
      greatest = (omega arith, omega arith);
      past_images = tt;
      images = tt;
    }
    agrees_at (suc j) = tt

    transcripts : TranscriptsAgree v [] (first_ledger database size) (seat ∷ [])
    transcripts = record {
      good = tt;
      items = refl;
      next = refl;
      issued = refl;
      of_seat = λ j. no_sessions;
      agree = λ j s e. subst AgreesIf e (agrees_at j);
      owner = λ n. 0;
      own = λ j s e. tt;
      count = 0;
      all = λ n l. absurd (omega arith);
      no_others = λ n l. (refl, refl);
      times = tt;
      made = tt;
    }

    -- ---- all

    no_lock : (i : ℕ) (h : Hold) → In h (holds_at (first_cells database size) i) → ⊥
    no_lock i h has = subst (In h) (held_nowhere database size i) has

    under_nothing : (k : Known) (id : ℕ) → Each (IsUnderLocks (contents (first_cells database size)) k id) (versions_at (first_cells database size) id)
    under_nothing k id = subst (Each (IsUnderLocks (contents (first_cells database size)) k id)) (sym (nothing_in database size id (cell_of id))) tt

    pub begins : 1 ≤ size → size ≤ max_block → Stands v [] (first_cells database size) (seat ∷ [])
    unfolding serial_from first_tables ledger_from
    begins some_size most_size = record {
      catalog = first_catalog;
      ledger = first_ledger database size;
      are_cells = record { count = refl; has_catalog = refl; has_ledger = refl; has_tables = tables_there database size };
      ledger_is_legal = record { legal = tt; chain = refl; digests = tt; some_size = some_size; most_size = most_size };
      tables_are_serial = record {
        definitions = inl refl;
        goes_back = λ k e. absurd (let z : None ≡ Some k = e in cc);
        carried = λ j x o h. absurd (none_open j x o h);
        indexed = λ j x o h. absurd (none_open j x o h);
        versions = λ id l. ap (committed (known v.reads []).has) (nothing_in database size id (cell_of id)) ∙ sym (no_versions database size id);
        tables = λ i cell e. subst (HasNothing database size v (seat ∷ [])) e (nothing_at database size v (seat ∷ []) i);
      };
      rows_agree = record {
        free = λ id key l h. ap (of_key (columns_at (defs_of (serial v.reads [])) id) key) (nothing_in database size id (cell_of id) ∙ sym (no_versions database size id));
        own = λ j x o h. absurd (none_open j x o h);
        undone = λ id key l h has. absurd (no_lock (cell_of id) h has);
        rising = λ id l. subst Rising (sym (nothing_in database size id (cell_of id))) tt;
        back = λ j x o h. absurd (none_open j x o h);
        explicit = λ j x o h. absurd (none_open j x o h);
        before = λ j x o h. absurd (none_open j x o h);
      };
      open_scripts = λ j x o h. absurd (none_open j x o h);
      locks_cover = record {
        belong = λ i h has. absurd (no_lock i h has);
        cover = λ j x o h. absurd (none_open j x o h);
        unreleased = λ j x o h. absurd (none_open j x o h);
        looked = λ j x o h. absurd (none_open j x o h);
        looked_first = λ j x o h. absurd (none_open j x o h);
        intents = λ i h has. absurd (no_lock i h has);
        on_whole = λ h has. absurd (no_lock 0 h has);
        dropping = λ j x o h. absurd (none_open j x o h);
        catalog = λ i id h. absurd (no_lock (suc i) h.hold h.has);
        definitions = λ j x o n h. absurd (none_open j x o h);
        got = λ j x o h. absurd (none_open j x o h);
        under = λ id l. under_nothing (known v.reads []) id;
      };
      locks_agree = λ i j k a b n h. absurd (none_open j h.x h.o h.open_one);
      trees_are_of_events = λ j x o h. absurd (none_open j x o h);
      transcripts_agree = transcripts;
    }

-- there is no lock that could be asked for
pub none_asked : (database : Text) (size : ℕ) (v : Server) (st : Stands v [] (first_cells database size) (first_seat (first_cells database size) ∷ [])) → LocksAskedFor st
none_asked database size v st i lock has = absurd (subst (In lock) (held_nowhere database size i) has)

-- and none that anybody wants
pub none_requested : (database : Text) (size : ℕ) (v : Server) → LocksAreRequested v (contents (first_cells database size)) (first_seat (first_cells database size) ∷ [])
none_requested database size v j x o has explicit open_end lock = absurd (subst (In lock.hold) (held_nowhere database size 0) lock.has)
