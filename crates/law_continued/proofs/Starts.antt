-- A server starts with a journal that was there before, and with none.
use Rattle.std.proofs.Common.{◌≡◌, ℕ, zero, suc, ◌+◌, ◌-◌, ◌<◌, ◌≤◌, List, [], ◌∷◌, ◌++◌, length, map, refl, sym, ap, ◌∙◌, subst, arith}
use Rattle.std.proofs.lemmas.List.{length-append}
use mathlib.Core.Option.{some}
use Rattle.sql_types.specs.declared.journal.JournalItem.{JournalItem}
use Rattle.sql_types.specs.declared.journal.JournalItem.TheVariants.{Tx, Close}
use Rattle.spec_model.specs.Journals.{IsLegal, serial_from, tx_count}
use Rattle.spec_model.specs.Limits.{max_block}
use Rattle.spec_model.specs.Script.{Reading}
use Rattle.spec_model.specs.SystemTables.{first_tables}
use Rattle.spec_history.specs.Journals.{ids_of, times}
use Rattle.spec_history.specs.Lists.{Each, Text}
use Rattle.spec_history.specs.Sessions.{transcript_of}
use Rattle.spec_history.specs.Transcripts.{Transcript}
use Rattle.spec_history.specs.Worlds.{World, first, run}
use Rattle.law_history.proofs.Legality.{one_legality}
use Rattle.spec_protocol.specs.Ledger.{ledger_from, ledger_of}
use Rattle.spec_protocol.proofs.Counting.{closed_counted, entries_counted}
use Rattle.spec_protocol.specs.AllowedVisit.{first_seat}
use Rattle.spec_protocol.specs.Cells.{Cell, Ledger, LedgerCell, first_cells, pending_in}
use Rattle.spec_protocol.specs.Seats.{Written}
use Rattle.spec_protocol.specs.Server.{Server}
use Rattle.spec_protocol.specs.StandTogether.{Stands}
use Rattle.law_retold.specs.Forgotten.{IsWithout}
use Rattle.law_retold.specs.Past.{behind, no_past, unclosed}
use Rattle.law_retold.specs.Retold.{AreWords, CanBeRetold, LeadsTo, Words, past_of, retold}
use Rattle.law_continued.specs.Continued.{continued_cells, ledger_with, past_seat, transcripts_from, written_from}
use Rattle.law_continued.specs.Start.{Start}
use Rattle.law_continued.proofs.GoesOn.{none_asked, none_wanted, stands}
use Rattle.law_continued.proofs.Told.{to}

all_below : (reads : Reading) (count : ℕ) (J : List JournalItem) → Each (CanBeRetold reads count) J → Each (λ id. id < suc count) (ids_of J)
all_below reads count [] m = tt
all_below reads count (Tx id session time explicit lines ∷ J) m = ((let most = m.0.most in omega (arith, most)), all_below reads count J m.1)
all_below reads count (Close k ∷ J) m = all_below reads count J m.1

-- entries that are in no block
pending_counted : (h : List ℕ → List ℕ) (reads : Reading) (J : List JournalItem) → IsLegal reads J → length (ledger_of h reads J).pending ≡ unclosed J
pending_counted h reads J legal =
    let all : length ((ledger_of h reads J).closed ++ (ledger_of h reads J).pending) ≡ tx_count J = entries_counted h reads J in
    let both = length-append (ledger_of h reads J).closed (ledger_of h reads J).pending in
    let in_blocks = closed_counted h reads J legal in
    omega (arith, all, both, in_blocks)

wrote_so : (w : World) (moments : List ℕ) (n k : ℕ) → map (λ (x : Written). x.transcript) (written_from w moments n k) ≡ transcripts_from w n k
wrote_so w moments n zero = refl
wrote_so w moments n (suc k) = ap (λ (l : List Transcript). transcript_of (w.at n) ∷ l) (wrote_so w moments (suc n) k)

knew_none : (w : World) (moments : List ℕ) (n k : ℕ) → Each (λ (x : Written). x.earlier ≡ []) (written_from w moments n k)
knew_none w moments n zero = tt
knew_none w moments n (suc k) = (refl, knew_none w moments (suc n) k)

module _ (v : Server) (c : Words) (database : Text) (size : ℕ) (some_size : 1 ≤ size) (most_size : size ≤ max_block) (J : List JournalItem) (count : ℕ) (words : 1 ≤ count → AreWords v.reads c) (legal : IsLegal v.reads J) (may : Each (CanBeRetold v.reads count) J) (few : unclosed J < size) where
  abbrev cells : List Cell
  cells = continued_cells v database size J count

  st : Stands v (retold v.reads c J count) cells (past_seat v c J count ∷ first_seat cells ∷ [])
  st = stands v c database size J count words legal may some_size most_size

  its_ledger : ledger_with v database size J count ≡ st.ledger
  its_ledger = let f : some (Ledger (ledger_with v database size J count)) ≡ some (Ledger st.ledger) = st.are_cells.has_ledger in cc

  end : LeadsTo c J count (retold v.reads c J count)
  end = to v c database J count words legal may

  pending_so : pending_in st.ledger ≡ unclosed J
  pending_so = ap pending_in (sym its_ledger) ∙ pending_counted v.hash v.reads J legal

  over_so : IsWithout count (run first (retold v.reads c J count)) (behind (past_of J count))
  over_so = record {
    items = sym end.items;
    next = sym end.next;
    issued = sym end.issued;
    at = λ n. sym (end.no_others (count + n) (omega arith)).0;
    over = end.over;
    free = end.free;
  }

  pub starts : (s : Start v database size) × (s.past ≡ past_of J count) × (s.cells ≡ continued_cells v database size J count) × (s.seat ≡ past_seat v c J count)
  starts = (
    record {
      past = past_of J count;
      is_past = record { legal = (one_legality v.reads v.hashing v.meaning v.real J).1 legal; ids = all_below v.reads count J may; some = omega arith };
      history = retold v.reads c J count;
      count = count;
      seat = past_seat v c J count;
      cells = cells;
      stands = st;
      asked = none_asked v c database size J count st;
      wanted = none_wanted v c database size J count;
      of_database = ap (λ (l : LedgerCell). l.database) (sym its_ledger);
      of_size = ap (λ (l : LedgerCell). l.block_size) (sym its_ledger);
      pending = pending_so;
      below = subst (λ (n : ℕ). n < size) (sym pending_so) few;
      absent = refl;
      rests = tt;
      wrote = wrote_so (run first (retold v.reads c J count)) (times J) 0 count;
      knew_none = knew_none (run first (retold v.reads c J count)) (times J) 0 count;
      drew = end.drew;
      over = over_so;
    },
    refl,
    refl,
    refl,
  )

-- ---- with no journal

no_words : Words
no_words = record { begin_text = []; commit_text = []; name = [] }

cells_are : (v : Server) (database : Text) (size : ℕ) → continued_cells v database size [] 0 ≡ first_cells database size
unfolding serial_from first_tables ledger_from
cells_are v database size = refl

pub starts_first : (v : Server) (database : Text) (size : ℕ) → 1 ≤ size → size ≤ max_block → (s : Start v database size) × (s.past ≡ no_past) × (s.cells ≡ first_cells database size)
starts_first v database size some_size most_size =
    let few : 0 - 0 < size = omega (arith, some_size) in
    let s = starts v no_words database size some_size most_size [] 0 (λ l. absurd (omega (arith, l))) tt tt few in
    (s.0, s.1, s.2 ∙ cells_are v database size)
