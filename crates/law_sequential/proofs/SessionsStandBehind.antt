-- How a course behind a past goes on by its sessions, and that it ends.
use Rattle.std.proofs.Common.{◌≡◌, ◌<◌, ◌≤◌, ◌^◌, ℕ, suc, List, [], ◌∷◌, ◌++◌, map, slice_set, refl, sym, ap, ap₂, subst, ◌∙◌, inl}
use mathlib.Core.Option.{some, some-ne-none}
use lib.ListN.{get_elem?}
use Rattle.spec_history.specs.Inputs.{InputLine}
use Rattle.spec_history.specs.Lists.{Text, Each}
use Rattle.spec_protocol.specs.Alone.{new_session}
use Rattle.spec_protocol.specs.AllowedVisit.{first_seat}
use Rattle.spec_protocol.specs.Cells.{Cell, Catalog, Ledger, LedgerCell, Rows, ledger_at, pending_in}
use Rattle.spec_protocol.specs.Moves.{sits}
use Rattle.spec_protocol.specs.InactiveExcept.{IsInactive}
use Rattle.spec_protocol.specs.Seats.{SeatState, IsAtRest, idle_seat, split}
use Rattle.spec_protocol.specs.Server.{Server}
use Rattle.law_behind.specs.Past.{Past}
use Rattle.law_sequential.specs.RunStart.{RunStart}
use Rattle.law_sequential.specs.RunBehind.{SequentialRunBehind}
use Rattle.law_sequential.specs.EndsLast.{Phase, running, ending}
use Rattle.law_sequential.specs.Sessions.{SessionOutput, names_told, told_nothing, IsShown}
use Rattle.law_sequential.specs.SessionsBehind.{SessionsStandBehind}
use Rattle.law_sequential.specs.OutcomeBehind.{HasEndedBehind}
use Rattle.law_sequential.proofs.Goes.{cell_same}
use Rattle.law_sequential.proofs.GoesBehind.{sequential_run_begins, session_more, ends_now}
use Rattle.law_sequential.proofs.SessionsStand.{AllWrote, all_wrote, each_later, idle_rests, names_last, names_set, quiet_all, shown_last, shown_set}

-- the first seat has the database and the block size of the start
first_is : {v : Server} {database : Text} {size : ℕ} {past : Past} (start : RunStart v database size past) → first_seat start.begins.cells ≡ idle_seat database size 0 []
first_is {v} {database} {size} start = by_cells start.begins.cells start.begins.stands.ledger start.begins.stands.are_cells.has_ledger
    ∙ ap₂ (λ (d : Text) (n : ℕ). idle_seat d n 0 []) start.begins.of_database start.begins.of_size
  where
    by_cells : (cells : List Cell) (l : LedgerCell) → get_elem? cells ledger_at ≡ some (Ledger l) → first_seat cells ≡ idle_seat l.database l.block_size 0 []
    by_cells (c ∷ Ledger k ∷ cells) l e = let same = cell_same k l e in ap₂ (λ (d : Text) (n : ℕ). idle_seat d n 0 []) (ap (λ (z : LedgerCell). z.database) same) (ap (λ (z : LedgerCell). z.block_size) same)
    by_cells (c ∷ Catalog k ∷ cells) l e = let f : some (Catalog k) ≡ some (Ledger l) = e in cc
    by_cells (c ∷ Rows k ∷ cells) l e = let f : some (Rows k) ≡ some (Ledger l) = e in cc
    by_cells (c ∷ []) l e = absurd (some-ne-none (Ledger l) (sym e))
    by_cells [] l e = absurd (some-ne-none (Ledger l) (sym e))

pub sessions_stand_first : {v : Server} {database : Text} {size : ℕ} {past : Past} (start : RunStart v database size past) → SessionsStandBehind start running [] [] [] start.begins.cells []
sessions_stand_first {database = database} {size = size} start = record {
  parent = idle_seat database size 0 [];
  present = refl;
  rests = refl;
  none = refl;
  sequential_run = subst (λ (s : SeatState). SequentialRunBehind start running [] [] start.begins.cells (s ∷ [])) (first_is start) (sequential_run_begins start);
  shown = tt;
}

module _ {v : Server} {database : Text} {size : ℕ} {past : Past} {start : RunStart v database size past} {phase : Phase} {lines : List InputLine} {moments : List ℕ} {told : List SessionOutput} {cells : List Cell} {states : List SeatState} (c : SessionsStandBehind start phase lines moments told cells states) where
  -- a session more
  pub one_session_more : ((k : ℕ) (s : SeatState) → get_elem? states k ≡ some s → IsInactive s.role) → (name : Text)
      → SessionsStandBehind start phase lines moments (told ++ told_nothing name ∷ []) cells (states ++ sits (split c.parent 1) (new_session name (split c.parent 1)) ∷ [])
  one_session_more quiet name = record {
    parent = c.parent;
    present = c.present;
    rests = c.rests;
    none = c.none;
    sequential_run = subst (λ (ns : List Text). SequentialRunBehind start phase ns lines cells (c.parent ∷ (states ++ sits (split c.parent 1) (new_session name (split c.parent 1)) ∷ []))) (sym (names_last told (told_nothing name)))
        (session_more c.sequential_run c.parent refl c.present (quiet_all c.parent states c.rests quiet) name);
    shown = shown_last moments told states c.shown (told_nothing name) (sits (split c.parent 1) (new_session name (split c.parent 1)))
        (inl (record { x = new_session name (split c.parent 1); role = refl; transcript = refl; images = refl; in_time = tt; first = refl }));
  }

  -- the course goes on, and a seat with it
  pub one_seat_on : {then_phase : Phase} {then_lines : List InputLine} {then_cells : List Cell} (later : List ℕ) (j : ℕ) (s t : SeatState) (k l : SessionOutput) → get_elem? states j ≡ some s → get_elem? told j ≡ some l → k.transcript.session ≡ l.transcript.session
      → SequentialRunBehind start then_phase (names_told told) then_lines then_cells (slice_set (c.parent ∷ states) (suc j) t) → IsShown (moments ++ later) k t
      → SessionsStandBehind start then_phase then_lines (moments ++ later) (slice_set told j k) then_cells (slice_set states j t)
  one_seat_on {then_phase} {then_lines} {then_cells} later j s t k l there was same sequential_run is = record {
    parent = c.parent;
    present = c.present;
    rests = c.rests;
    none = c.none;
    sequential_run = subst (λ (ns : List Text). SequentialRunBehind start then_phase ns then_lines then_cells (c.parent ∷ slice_set states j t)) (sym (names_set told j l k was same)) sequential_run;
    shown = shown_set (moments ++ later) told states (each_later moments later told states c.shown) j k t is;
  }

  -- cells alone go on
  pub cells_on : {then_cells : List Cell} → SequentialRunBehind start phase (names_told told) lines then_cells (c.parent ∷ states) → SessionsStandBehind start phase lines moments told then_cells states
  cells_on sequential_run = record { parent = c.parent; present = c.present; rests = c.rests; none = c.none; sequential_run = sequential_run; shown = c.shown }

pub sessions_may_end : {v : Server} {database : Text} {size : ℕ} {past : Past} {start : RunStart v database size past} {lines : List InputLine} {moments : List ℕ} {told : List SessionOutput} {cells : List Cell} {states : List SeatState} → SessionsStandBehind start running lines moments told cells states → SessionsStandBehind start ending lines moments told cells states
sessions_may_end c = record { parent = c.parent; present = c.present; rests = c.rests; none = c.none; sequential_run = ends_now c.sequential_run; shown = c.shown }

-- ---- the end

pub sessions_have_ended : {v : Server} {database : Text} {size : ℕ} {past : Past} {start : RunStart v database size past} {lines : List InputLine} {moments : List ℕ} {told : List SessionOutput} {cells : List Cell} {states : List SeatState} → SessionsStandBehind start ending lines moments told cells states
    → Each (λ s. IsAtRest s.role) states → (l : LedgerCell) → get_elem? cells ledger_at ≡ some (Ledger l) → pending_in l < size → l.next ≤ 2 ^ 63
    → HasEndedBehind v database size past (names_told told) lines moments (map (λ k. k.transcript) told) (map (λ k. k.images) told) l.items l.issued
sessions_have_ended {size = size} {start = start} {moments = moments} {told = told} {cells = cells} {states = states} c rest l lies below ids = record {
  start = start;
  cells = cells;
  seats = c.parent ∷ states;
  sequential_run = c.sequential_run;
  written = all.written;
  wrote = record { parent = c.parent; others = states; are = refl; rests = idle_rests c.parent.role c.rests; none = c.none; each = all.each };
  transcripts = all.transcripts;
  kept = all.kept;
  in_time = all.in_time;
  items = ap (λ (z : LedgerCell). z.items) same;
  issued = ap (λ (z : LedgerCell). z.issued) same;
  below = subst (λ (z : LedgerCell). pending_in z < size) (sym same) below;
  ids = subst (λ (z : LedgerCell). z.next ≤ 2 ^ 63) (sym same) ids;
}
  where
    all : AllWrote moments told states
    all = all_wrote moments told states c.shown rest

    same : c.sequential_run.ledger ≡ l
    same = cell_same c.sequential_run.ledger l (sym c.sequential_run.there ∙ lies)
