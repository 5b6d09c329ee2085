-- How a course by its sessions goes on, and that it ends.
use Rattle.std.proofs.Common.{◌≡◌, ◌<◌, ◌≤◌, ◌^◌, ℕ, zero, suc, List, [], ◌∷◌, ◌++◌, map, slice_set, refl, sym, ap, ap₂, subst, ◌∙◌, inl, inr, ⊎_elim}
use mathlib.Core.Option.{some, none, some-injective}
use lib.ListN.{get_elem?}
use Rattle.spec_model.specs.Limits.{max_block}
use Rattle.spec_history.specs.Inputs.{InputLine}
use Rattle.spec_history.specs.Lists.{Text, Each, In}
use Rattle.spec_history.specs.Transcripts.{Transcript}
use Rattle.spec_protocol.specs.Alone.{new_session}
use Rattle.spec_protocol.specs.Cells.{Cell, Ledger, LedgerCell, first_cells, ledger_at, pending_in}
use Rattle.spec_protocol.specs.Moves.{sits}
use Rattle.spec_protocol.specs.InactiveExcept.{IsInactive, InactiveExcept}
use Rattle.spec_protocol.specs.Seats.{KeptImage, Session, Role, idle, session, SeatState, Written, IsAtRest, idle_seat, split}
use Rattle.spec_protocol.specs.Server.{Server}
use Rattle.law_sequential.specs.SequentialRun.{SequentialRun}
use Rattle.law_sequential.specs.EndsLast.{Phase, running, ending}
use Rattle.law_sequential.specs.Sessions.{SessionOutput, names_told, told_nothing, Runs, IsOver, IsShown, EachShown, SessionsStand, OthersInactive}
use Rattle.law_sequential.specs.SessionOutput.{HasEnded}
use Rattle.law_sequential.specs.Wrote.{WroteEach, transcripts_in}
use Rattle.law_sequential.proofs.Goes.{sequential_run_begins, session_more, ends_now, cell_same}

-- ---- lists side by side

-- what the session of this seat has shown
pub record ShownAt (moments : List ℕ) (told : List SessionOutput) (j : ℕ) (s : SeatState) : Type 0 where
  pub k : SessionOutput
  pub there : get_elem? told j ≡ some k
  pub is : IsShown moments k s

pub shown_at : (moments : List ℕ) (told : List SessionOutput) (states : List SeatState) → EachShown moments told states → (j : ℕ) (s : SeatState) → get_elem? states j ≡ some s → ShownAt moments told j s
shown_at moments [] [] h j s e = let f : none ≡ some s = e in absurd (let g : ⊥ = cc in g)
shown_at moments [] (t ∷ ts) h j s e = absurd h
shown_at moments (k ∷ ks) [] h j s e = absurd h
shown_at moments (k ∷ ks) (t ∷ ts) h zero s e = record { k = k; there = refl; is = subst (IsShown moments k) (some-injective t s e) h.0 }
shown_at moments (k ∷ ks) (t ∷ ts) h (suc j) s e = let r = shown_at moments ks ts h.1 j s e in record { k = r.k; there = r.there; is = r.is }

pub shown_set : (moments : List ℕ) (told : List SessionOutput) (states : List SeatState) → EachShown moments told states → (j : ℕ) (k : SessionOutput) (t : SeatState) → IsShown moments k t → EachShown moments (slice_set told j k) (slice_set states j t)
shown_set moments [] [] h j k t is = tt
shown_set moments [] (u ∷ us) h j k t is = absurd h
shown_set moments (l ∷ ls) [] h j k t is = absurd h
shown_set moments (l ∷ ls) (u ∷ us) h zero k t is = (is, h.1)
shown_set moments (l ∷ ls) (u ∷ us) h (suc j) k t is = (h.0, shown_set moments ls us h.1 j k t is)

pub shown_last : (moments : List ℕ) (told : List SessionOutput) (states : List SeatState) → EachShown moments told states → (k : SessionOutput) (t : SeatState) → IsShown moments k t → EachShown moments (told ++ k ∷ []) (states ++ t ∷ [])
shown_last moments [] [] h k t is = (is, tt)
shown_last moments [] (u ∷ us) h k t is = absurd h
shown_last moments (l ∷ ls) [] h k t is = absurd h
shown_last moments (l ∷ ls) (u ∷ us) h k t is = (h.0, shown_last moments ls us h.1 k t is)

pub names_last : (told : List SessionOutput) (k : SessionOutput) → names_told (told ++ k ∷ []) ≡ names_told told ++ k.transcript.session ∷ []
names_last [] k = refl
names_last (l ∷ ls) k = ap (λ (ns : List Text). l.transcript.session ∷ ns) (names_last ls k)

pub names_set : (told : List SessionOutput) (j : ℕ) (l k : SessionOutput) → get_elem? told j ≡ some l → k.transcript.session ≡ l.transcript.session → names_told (slice_set told j k) ≡ names_told told
names_set [] j l k e same = refl
names_set (m ∷ ms) zero l k e same = ap (λ (n : Text). n ∷ names_told ms) (same ∙ ap (λ (z : SessionOutput). z.transcript.session) (sym (some-injective m l e)))
names_set (m ∷ ms) (suc j) l k e same = ap (λ (ns : List Text). m.transcript.session ∷ ns) (names_set ms j l k e same)

-- ---- more moments

in_left : (time : ℕ) (xs ys : List ℕ) → In time xs → In time (xs ++ ys)
in_left time [] ys h = absurd h
in_left time (x ∷ xs) ys h = ⊎_elim (λ (e : x ≡ time). inl e) (λ k. inr (in_left time xs ys k)) h

all_left : (ts xs ys : List ℕ) → Each (λ time. In time xs) ts → Each (λ time. In time (xs ++ ys)) ts
all_left [] xs ys h = tt
all_left (t ∷ ts) xs ys h = (in_left t xs ys h.0, all_left ts xs ys h.1)

shown_later : (moments later : List ℕ) (k : SessionOutput) (s : SeatState) → IsShown moments k s → IsShown (moments ++ later) k s
shown_later moments later k s h = ⊎_elim
    (λ (r : Runs moments k s). inl (record { x = r.x; role = r.role; transcript = r.transcript; images = r.images; in_time = all_left r.x.moments moments later r.in_time; first = r.first }))
    (λ (r : IsOver moments k s). inr (record { written = r.written; wrote = r.wrote; transcript = r.transcript; images = r.images; in_time = all_left r.written.moments moments later r.in_time; rests = r.rests })) h

pub each_later : (moments later : List ℕ) (told : List SessionOutput) (states : List SeatState) → EachShown moments told states → EachShown (moments ++ later) told states
each_later moments later [] [] h = tt
each_later moments later [] (s ∷ ss) h = absurd h
each_later moments later (k ∷ ks) [] h = absurd h
each_later moments later (k ∷ ks) (s ∷ ss) h = (shown_later moments later k s h.0, each_later moments later ks ss h.1)

-- ---- quiet seats

pub inactive_except : (parent : SeatState) (states : List SeatState) (j : ℕ) → parent.role ≡ idle → OthersInactive states j → InactiveExcept (parent ∷ states) (suc j)
inactive_except parent states j rests others zero s ne e = subst IsInactive (sym rests ∙ ap (λ (u : SeatState). u.role) (some-injective parent s e)) tt
inactive_except parent states j rests others (suc k) s ne e = others k s (λ same. ne (ap suc same)) e

pub quiet_all : (parent : SeatState) (states : List SeatState) → parent.role ≡ idle → ((k : ℕ) (s : SeatState) → get_elem? states k ≡ some s → IsInactive s.role) → (k : ℕ) (s : SeatState) → get_elem? (parent ∷ states) k ≡ some s → IsInactive s.role
quiet_all parent states rests all zero s e = subst IsInactive (sym rests ∙ ap (λ (u : SeatState). u.role) (some-injective parent s e)) tt
quiet_all parent states rests all (suc k) s e = all k s e

-- ---- a course by its sessions

pub sessions_stand_first : (v : Server) (database : Text) (size : ℕ) → 1 ≤ size → size ≤ max_block → SessionsStand v database size running [] [] [] (first_cells database size) []
sessions_stand_first v database size least most = record {
  parent = idle_seat database size 0 [];
  present = refl;
  rests = refl;
  none = refl;
  sequential_run = sequential_run_begins v database size least most;
  shown = tt;
}

module _ {v : Server} {database : Text} {size : ℕ} {phase : Phase} {lines : List InputLine} {moments : List ℕ} {told : List SessionOutput} {cells : List Cell} {states : List SeatState} (c : SessionsStand v database size phase lines moments told cells states) where
  -- a session more
  pub one_session_more : ((k : ℕ) (s : SeatState) → get_elem? states k ≡ some s → IsInactive s.role) → (name : Text)
      → SessionsStand v database size phase lines moments (told ++ told_nothing name ∷ []) cells (states ++ sits (split c.parent 1) (new_session name (split c.parent 1)) ∷ [])
  one_session_more quiet name = record {
    parent = c.parent;
    present = c.present;
    rests = c.rests;
    none = c.none;
    sequential_run = subst (λ (ns : List Text). SequentialRun v database size phase ns lines cells (c.parent ∷ (states ++ sits (split c.parent 1) (new_session name (split c.parent 1)) ∷ []))) (sym (names_last told (told_nothing name)))
        (session_more c.sequential_run c.parent refl c.present (quiet_all c.parent states c.rests quiet) name);
    shown = shown_last moments told states c.shown (told_nothing name) (sits (split c.parent 1) (new_session name (split c.parent 1)))
        (inl (record { x = new_session name (split c.parent 1); role = refl; transcript = refl; images = refl; in_time = tt; first = refl }));
  }

  -- the course goes on, and a seat with it
  pub one_seat_on : {then_phase : Phase} {then_lines : List InputLine} {then_cells : List Cell} (later : List ℕ) (j : ℕ) (s t : SeatState) (k l : SessionOutput) → get_elem? states j ≡ some s → get_elem? told j ≡ some l → k.transcript.session ≡ l.transcript.session
      → SequentialRun v database size then_phase (names_told told) then_lines then_cells (slice_set (c.parent ∷ states) (suc j) t) → IsShown (moments ++ later) k t
      → SessionsStand v database size then_phase then_lines (moments ++ later) (slice_set told j k) then_cells (slice_set states j t)
  one_seat_on {then_phase} {then_lines} {then_cells} later j s t k l there was same sequential_run is = record {
    parent = c.parent;
    present = c.present;
    rests = c.rests;
    none = c.none;
    sequential_run = subst (λ (ns : List Text). SequentialRun v database size then_phase ns then_lines then_cells (c.parent ∷ slice_set states j t)) (sym (names_set told j l k was same)) sequential_run;
    shown = shown_set (moments ++ later) told states (each_later moments later told states c.shown) j k t is;
  }

  -- cells alone go on
  pub cells_on : {then_cells : List Cell} → SequentialRun v database size phase (names_told told) lines then_cells (c.parent ∷ states) → SessionsStand v database size phase lines moments told then_cells states
  cells_on sequential_run = record { parent = c.parent; present = c.present; rests = c.rests; none = c.none; sequential_run = sequential_run; shown = c.shown }

pub sessions_may_end : {v : Server} {database : Text} {size : ℕ} {lines : List InputLine} {moments : List ℕ} {told : List SessionOutput} {cells : List Cell} {states : List SeatState} → SessionsStand v database size running lines moments told cells states → SessionsStand v database size ending lines moments told cells states
sessions_may_end c = record { parent = c.parent; present = c.present; rests = c.rests; none = c.none; sequential_run = ends_now c.sequential_run; shown = c.shown }

-- ---- the end

-- what all wrote
pub record AllWrote (moments : List ℕ) (told : List SessionOutput) (states : List SeatState) : Type 0 where
  pub written : List Written
  pub each : WroteEach states written
  pub transcripts : transcripts_in written ≡ map (λ k. k.transcript) told
  pub kept : map (λ w. w.images) written ≡ map (λ k. k.images) told
  pub in_time : Each (λ w. Each (λ time. In time moments) w.moments) written

pub idle_rests : (r : Role) → r ≡ idle → IsAtRest r
idle_rests r e = subst IsAtRest (sym e) tt

not_running : (s : SeatState) (x : Session) → s.role ≡ session x → IsAtRest s.role → ⊥
not_running s x e h = subst IsAtRest e h

pub all_wrote : (moments : List ℕ) (told : List SessionOutput) (states : List SeatState) → EachShown moments told states → Each (λ s. IsAtRest s.role) states → AllWrote moments told states
all_wrote moments [] [] h rest = record { written = []; each = tt; transcripts = refl; kept = refl; in_time = tt }
all_wrote moments [] (s ∷ ss) h rest = absurd h
all_wrote moments (k ∷ ks) [] h rest = absurd h
all_wrote moments (k ∷ ks) (s ∷ ss) h rest = ⊎_elim
    (λ (r : Runs moments k s). absurd (not_running s r.x r.role rest.0))
    (λ (o : IsOver moments k s). let r = all_wrote moments ks ss h.1 rest.1 in record {
      written = o.written ∷ r.written;
      each = (record { rests = rest.0; wrote = o.wrote }, r.each);
      transcripts = ap₂ (λ (x : Transcript) (xs : List Transcript). x ∷ xs) o.transcript r.transcripts;
      kept = ap₂ (λ (x : List KeptImage) (xs : List (List KeptImage)). x ∷ xs) o.images r.kept;
      in_time = (o.in_time, r.in_time);
    })
    h.0

pub sessions_have_ended : {v : Server} {database : Text} {size : ℕ} {lines : List InputLine} {moments : List ℕ} {told : List SessionOutput} {cells : List Cell} {states : List SeatState} → SessionsStand v database size ending lines moments told cells states
    → Each (λ s. IsAtRest s.role) states → (l : LedgerCell) → get_elem? cells ledger_at ≡ some (Ledger l) → pending_in l < size → l.next ≤ 2 ^ 63
    → HasEnded v database size (names_told told) lines moments (map (λ k. k.transcript) told) (map (λ k. k.images) told) l.items l.issued
sessions_have_ended {v} {database} {size} {lines} {moments} {told} {cells} {states} c rest l lies below ids = record {
  cells = cells;
  seats = c.parent ∷ states;
  sequential_run = c.sequential_run;
  written = all.written;
  wrote = record { parent = c.parent; others = states; are = refl; rests = idle_rests c.parent.role c.rests; none = c.none; each = all.each };
  transcripts = all.transcripts;
  kept = all.kept;
  in_time = all.in_time;
  items = ap (λ (z : LedgerCell). z.items) same;
  issued = ap (λ (z : LedgerCell). z.issued) same;
  below = subst (λ (z : LedgerCell). pending_in z < size) (sym same) below;
  ids = subst (λ (z : LedgerCell). z.next ≤ 2 ^ 63) (sym same) ids;
}
  where
    all : AllWrote moments told states
    all = all_wrote moments told states c.shown rest

    same : c.sequential_run.ledger ≡ l
    same = cell_same c.sequential_run.ledger l (sym c.sequential_run.there ∙ lies)
