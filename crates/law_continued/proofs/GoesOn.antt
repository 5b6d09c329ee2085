-- The cells to which a legal journal leads stand together with an idle seat and that of the past.
use Rattle.std.proofs.Common.{◌≡◌, ℕ, suc, ◌≤◌, true, false, List, [], ◌∷◌, length, Option, Some, None, IfSome, refl, sym, ap, ◌∙◌, subst, inl, arith}
use Rattle.std.specs.List.{AllByRecursion}
use Rattle.sql_types.specs.declared.journal.JournalItem.{JournalItem}
use Rattle.sql_types.specs.declared.journal.JournalItem.TheVariants.{Tx, Close}
use Rattle.sql_types.specs.declared.lock.Hold.{Hold}
use Rattle.sql_types.specs.declared.version.Version.{Version}
use Rattle.spec_model.specs.Agreement.{columns_at}
use Rattle.spec_model.specs.Catalog.{Tables, defs_of, versions_of}
use Rattle.spec_model.specs.Journals.{IsOther, IsLegal, serial}
use Rattle.spec_model.specs.Keys.{of_key}
use Rattle.spec_model.specs.Limits.{max_block}
use Rattle.spec_model.specs.Rows.{EventId}
use Rattle.spec_model.specs.Runs.{Rising, Sound}
use Rattle.spec_model.specs.Script.{Reading}
use Rattle.law_frame.proofs.LegalSound.{legal_sound}
use Rattle.law_journal.proofs.Serials.{legal_described, legal_tables}
use Rattle.law_journal.specs.Serial.{TableOf}
use Rattle.spec_history.specs.Lists.{Text, Each, In}
use Rattle.spec_protocol.specs.AllowedVisit.{first_seat}
use Rattle.spec_protocol.specs.Cells.{Cell, LedgerCell, cell_of, holds_at, versions_at}
use Rattle.spec_protocol.specs.Contents.{Known, contents, known}
use Rattle.spec_protocol.specs.LocksAreRequested.{LocksAreRequested}
use Rattle.spec_protocol.specs.LocksCover.{EndLiesUnder, IsUnderLocks}
use Rattle.spec_protocol.specs.OpenOnes.{HasOpen}
use Rattle.spec_protocol.specs.Seats.{OpenTransaction, SeatState, Session}
use Rattle.spec_protocol.specs.Server.{Server}
use Rattle.spec_protocol.specs.StandTogether.{LocksAskedFor, Stands}
use Rattle.law_retold.specs.Retold.{AreWords, CanBeRetold, Words, retold}
use Rattle.law_continued.specs.Continued.{catalog_of, continued_cells, ledger_with, past_seat}
use Rattle.law_continued.proofs.CellsThere.{Stands_there, are_cells, held_nowhere, stands_at, versions_are}
use Rattle.law_continued.proofs.Committed.{IsCommitted, committed_of, committed_whole, rising_of, rows_of}
use Rattle.law_continued.proofs.Transcripts.{none_open, transcripts}

-- an id above all of a journal's
all_below : (reads : Reading) (count : ℕ) (J : List JournalItem) → Each (CanBeRetold reads count) J → AllByRecursion (IsOther (suc count)) J
all_below reads count [] m = tt
all_below reads count (Tx id session time explicit lines ∷ J) m = ((λ e. let most = m.0.most in omega (arith, e, most)), all_below reads count J m.1)
all_below reads count (Close k ∷ J) m = (tt, all_below reads count J m.1)

module _ (v : Server) (c : Words) (database : Text) (size : ℕ) (J : List JournalItem) (count : ℕ) where
  abbrev T : Tables
  T = serial v.reads J

  abbrev ledger : LedgerCell
  ledger = ledger_with v database size J count

  abbrev cells : List Cell
  cells = continued_cells v database size J count

  abbrev seats : List SeatState
  seats = past_seat v c J count ∷ first_seat cells ∷ []

  abbrev k : Known
  k = known v.reads J

  no_lock : (i : ℕ) (lock : Hold) → In lock (holds_at cells i) → ⊥
  no_lock i lock has = subst (In lock) (held_nowhere T ledger i) has

  no_one : (j : ℕ) (x : Session) (o : OpenTransaction) → HasOpen seats j x o → ⊥
  no_one j x o h = none_open v c database size J count j x o h

  module _ (words : 1 ≤ count → AreWords v.reads c) (legal : IsLegal v.reads J) (may : Each (CanBeRetold v.reads count) J) where
    tables : AllByRecursion (TableOf J) T
    tables = (legal_tables v.reads J legal).each

    sound : Sound (suc count) 0 T
    sound = legal_sound v.reads J (suc count) legal (all_below v.reads count J may)

    few : length (defs_of T) ≤ 34
    few = (legal_described v.reads J legal).count

    same : (id : ℕ) → 1 ≤ id → versions_at cells id ≡ versions_of T id
    same id l = versions_are T ledger sound.ids few id l

    all_committed : (id : ℕ) → 1 ≤ id → Each (IsCommitted k.has) (versions_at cells id)
    all_committed id l = subst (Each (IsCommitted k.has)) (sym (same id l)) (committed_of J T id tables)

    end_under : (id : ℕ) (w : Version) (o : Option EventId) → IfSome o (λ e. k.has e.0 ≡ true) → EndLiesUnder (contents cells) k id w o
    end_under id w None h = tt
    end_under id w (Some e) h = λ absent. absurd (let yes : true ≡ false = sym h ∙ absent in cc)

    all_under : (id : ℕ) (vs : List Version) → Each (IsCommitted k.has) vs → Each (IsUnderLocks (contents cells) k id) vs
    all_under id [] h = tt
    all_under id (w ∷ vs) h = (record { start = λ absent. absurd (let yes : true ≡ false = sym h.0.start ∙ absent in cc); end = end_under id w w.end h.0.end }, all_under id vs h.1)

    pub stands : 1 ≤ size → size ≤ max_block → Stands v (retold v.reads c J count) cells seats
    stands some_size most_size = record {
      catalog = catalog_of T;
      ledger = ledger;
      are_cells = are_cells T ledger;
      ledger_is_legal = record { legal = legal; chain = refl; digests = tt; some_size = some_size; most_size = most_size };
      tables_are_serial = record {
        definitions = inl refl;
        goes_back = λ e is. absurd (let z : None ≡ Some e = is in cc);
        carried = λ j x o h. absurd (no_one j x o h);
        indexed = λ j x o h. absurd (no_one j x o h);
        versions = λ id l. committed_whole k.has (versions_at cells id) (all_committed id l) ∙ same id l;
        tables = λ i cell e. subst (Stands_there T ledger v k seats J (λ id. rows_of J T id tables)) e (stands_at T ledger v k seats J (λ id. rows_of J T id tables) i);
      };
      rows_agree = record {
        free = λ id key l h. ap (of_key (columns_at (defs_of T) id) key) (same id l);
        own = λ j x o h. absurd (no_one j x o h);
        undone = λ id key l lock has. absurd (no_lock (cell_of id) lock has);
        rising = λ id l. subst Rising (sym (same id l)) (rising_of (suc count) T id sound.each);
        back = λ j x o h. absurd (no_one j x o h);
        explicit = λ j x o h. absurd (no_one j x o h);
        before = λ j x o h. absurd (no_one j x o h);
      };
      open_scripts = λ j x o h. absurd (no_one j x o h);
      locks_cover = record {
        belong = λ i lock has. absurd (no_lock i lock has);
        cover = λ j x o h. absurd (no_one j x o h);
        unreleased = λ j x o h. absurd (no_one j x o h);
        looked = λ j x o h. absurd (no_one j x o h);
        looked_first = λ j x o h. absurd (no_one j x o h);
        intents = λ i lock has. absurd (no_lock i lock has);
        on_whole = λ lock has. absurd (no_lock 0 lock has);
        catalog = λ i id h. absurd (no_lock (suc i) h.hold h.has);
        definitions = λ j x o n h. absurd (no_one j x o h);
        got = λ j x o h. absurd (no_one j x o h);
        dropping = λ j x o h. absurd (no_one j x o h);
        under = λ id l. all_under id (versions_at cells id) (all_committed id l);
      };
      locks_agree = λ i j m a b n h. absurd (no_one j h.x h.o h.open_one);
      trees_are_of_events = λ j x o h. absurd (no_one j x o h);
      transcripts_agree = transcripts v c database size J count words legal may;
    }

  -- there is no lock that could be asked for, and none that anybody wants
  pub none_asked : (st : Stands v (retold v.reads c J count) cells seats) → LocksAskedFor st
  none_asked st i lock has = absurd (no_lock i lock has)

  pub none_wanted : LocksAreRequested v (contents cells) seats
  none_wanted j x o h explicit open_end lock = absurd (no_one j x o h)
