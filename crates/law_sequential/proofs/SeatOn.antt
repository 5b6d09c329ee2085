-- How a course by its sessions goes on with the steps and visits of one seat, which tell what its session gains.
use Rattle.std.proofs.Common.{◌≡◌, ◌⊎◌, ◌<◌, ℕ, suc, List, [], ◌∷◌, ◌++◌, map, slice_set, refl, sym, ap, ap₂, subst, ◌∙◌, append-nil, inl, inr, ⊎_elim}
use mathlib.Core.Option.{some, some-injective}
use lib.ListN.{get_elem?}
use Rattle.spec_history.specs.Inputs.{InputLine}
use Rattle.spec_history.specs.Acts.{SessionAct, issues}
use Rattle.spec_history.specs.Lists.{Text, Each, In, Some_of}
use Rattle.spec_history.specs.Transcripts.{Entry, Transcript}
use Rattle.spec_history.proofs.Trace.{each_append}
use Rattle.spec_protocol.specs.Alone.{Alones}
use Rattle.spec_protocol.specs.Cells.{Cell, Ledger, LedgerCell, ledger_at, pending_in}
use Rattle.spec_protocol.specs.AnonymousActs.{AnonymousAct, did, closed, alones_acts, may_anonymous_acts, visit_anonymous_acts}
use Rattle.spec_protocol.specs.Follows.{alones_lines, may_lines, names_begun}
use Rattle.spec_protocol.specs.LedgerVisits.{Closes}
use Rattle.spec_protocol.specs.AllowedVisit.{AllowedVisit, OutsAreIn}
use Rattle.spec_protocol.specs.Seats.{KeptImage, Session, Role, idle, session, SeatState, Written}
use Rattle.spec_protocol.specs.Server.{Server}
use Rattle.spec_protocol.specs.Visits as visit
use Rattle.spec_protocol.specs.Visits.{Visit, Happens}
use Rattle.law_sequential.specs.SequentialRun.{SequentialRun}
use Rattle.law_sequential.specs.EndsLast.{Phase, InPhase}
use Rattle.law_sequential.specs.InStep.{Waits, IsClosing, IsIssue, ClosesForDigest}
use Rattle.law_sequential.proofs.Calm.{Still, alones_still}
use Rattle.law_sequential.specs.Sessions.{SessionOutput, names_told, told_with, Gains, Writes, Runs, IsOver, IsShown, SessionsStand, OthersInactive}
use Rattle.law_sequential.proofs.Goes.{alones_more, visit_more, close_more, cell_same}
use Rattle.law_sequential.proofs.SessionsStand.{ShownAt, shown_at, one_seat_on, cells_on, inactive_except}

-- ---- sessions

abbrev role_seen : Role → List Session
role_seen (session x) = x ∷ []
role_seen _ = []

one_session : (r : Role) (x y : Session) → r ≡ session x → r ≡ session y → x ≡ y
one_session r x y a b = let e : x ∷ [] ≡ y ∷ [] = ap role_seen (sym a ∙ b) in cc

not_idle : (r : Role) (x : Session) → r ≡ session x → r ≡ idle → ⊥
not_idle r x a b = let e : x ∷ [] ≡ [] = ap role_seen (sym a ∙ b) in cc

abbrev transcript_with : Text → List Entry → Transcript
transcript_with name entries = record { session = name; entries = entries }

in_both : (moments later ts us : List ℕ) → Each (λ time. In time moments) ts → Each (λ time. In time later) us → Each (λ time. In time (moments ++ later)) (ts ++ us)
in_both moments later ts us h k = each_append (λ time. In time (moments ++ later)) ts us (lefts ts h) (rights us k)
  where
    left : (xs : List ℕ) (time : ℕ) → In time xs → In time (xs ++ later)
    left [] time i = absurd i
    left (x ∷ xs) time i = ⊎_elim (λ (e : x ≡ time). inl e) (λ j. inr (left xs time j)) i

    right : (xs : List ℕ) (time : ℕ) → In time later → In time (xs ++ later)
    right [] time i = i
    right (x ∷ xs) time i = inr (right xs time i)

    lefts : (xs : List ℕ) → Each (λ time. In time moments) xs → Each (λ time. In time (moments ++ later)) xs
    lefts [] e = tt
    lefts (x ∷ xs) e = (left moments x e.0, lefts xs e.1)

    rights : (xs : List ℕ) → Each (λ time. In time later) xs → Each (λ time. In time (moments ++ later)) xs
    rights [] e = tt
    rights (x ∷ xs) e = (right moments x e.0, rights xs e.1)

module _ (moments later : List ℕ) (k : SessionOutput) (s t : SeatState) where
  pub runs_on : (entries : List Entry) (images : List KeptImage) (times : List ℕ) → Runs moments k s → Gains s entries images times t → Each (λ time. In time later) times → IsShown (moments ++ later) (told_with k entries images) t
  runs_on entries images times r g at = let same : r.x ≡ g.x = one_session s.role r.x g.x r.role g.before in inl (record {
    x = g.y;
    role = g.after;
    transcript = ap₂ transcript_with (g.name ∙ ap (λ (z : Session). z.transcript.session) (sym same) ∙ ap (λ (z : Transcript). z.session) r.transcript)
        (g.entries_are ∙ ap (λ (es : List Entry). es ++ entries) (ap (λ (z : Session). z.transcript.entries) (sym same) ∙ ap (λ (z : Transcript). z.entries) r.transcript));
    images = g.images_are ∙ ap (λ (is : List KeptImage). is ++ images) (ap (λ (z : Session). z.images) (sym same) ∙ r.images);
    in_time = subst (Each (λ time. In time (moments ++ later))) (sym g.moments_are)
        (in_both moments later g.x.moments times (subst (λ (z : Session). Each (λ time. In time moments) z.moments) same r.in_time) at);
    first = g.written ∙ r.first;
  })

  pub over_on : (entries : List Entry) → Runs moments k s → Writes s entries t → IsShown (moments ++ later) (told_with k entries []) t
  over_on entries r g = let same : r.x ≡ g.x = one_session s.role r.x g.x r.role g.before in inr (record {
    written = g.w;
    wrote = g.written ∙ ap (λ (ws : List Written). ws ++ g.w ∷ []) r.first;
    transcript = ap₂ transcript_with (g.name ∙ ap (λ (z : Session). z.transcript.session) (sym same) ∙ ap (λ (z : Transcript). z.session) r.transcript)
        (g.entries_are ∙ ap (λ (es : List Entry). es ++ entries) (ap (λ (z : Session). z.transcript.entries) (sym same) ∙ ap (λ (z : Transcript). z.entries) r.transcript));
    images = g.images_are ∙ ap (λ (z : Session). z.images) (sym same) ∙ r.images ∙ sym (append-nil k.images);
    in_time = subst (Each (λ time. In time (moments ++ later))) (append-nil g.w.moments)
        (in_both moments later g.w.moments [] (subst (Each (λ time. In time moments)) (ap (λ (z : Session). z.moments) same ∙ sym g.moments_are) r.in_time) tt);
    rests = g.after;
  })

-- who runs there isn't over
pub still_runs : (moments : List ℕ) (k : SessionOutput) (s : SeatState) (x : Session) → s.role ≡ session x → IsShown moments k s → Runs moments k s
still_runs moments k s x role h = ⊎_elim (λ (r : Runs moments k s). r) (λ (o : IsOver moments k s). absurd (not_idle s.role x role o.rests)) h

-- ---- a visit waits for a full block, where none is full and a digest is issued wherever a block is closed

no_issue : (ds : List AnonymousAct) → Each Still ds → Some_of IsIssue ds → ⊥
no_issue [] h i = i
no_issue (closed k ∷ ds) h i = h.0
no_issue (did (issues g mark) ∷ ds) h i = h.0
no_issue (did a ∷ ds) h i = ⊎_elim (λ (e : IsIssue (did a)). not_this a h.0 e) (λ k. no_issue ds h.1 k) i
  where
    not_this : (b : SessionAct) → Still (did b) → IsIssue (did b) → ⊥
    not_this (issues g mark) s e = s
    not_this b s e = e

some_either : (P : AnonymousAct → Type 0) (xs ys : List AnonymousAct) → Some_of P (xs ++ ys) → Some_of P xs ⊎ Some_of P ys
some_either P [] ys h = inr h
some_either P (x ∷ xs) ys h = ⊎_elim (λ (e : P x). inl (inl e)) (λ k. ⊎_elim (λ (l : Some_of P xs). inl (inr l)) (λ r. inr r) (some_either P xs ys k)) h

some_right : (P : AnonymousAct → Type 0) (xs ys : List AnonymousAct) → Some_of P ys → Some_of P (xs ++ ys)
some_right P [] ys h = h
some_right P (x ∷ xs) ys h = inr (some_right P xs ys h)

module _ (N : ℕ) (l : LedgerCell) (below : pending_in l < N) {v : Server} {s : SeatState} {out : List (ℕ × Cell)} {i : ℕ} {c : Cell} {t : SeatState} (m : AllowedVisit v s out i c t) where
  abbrev Issues : Visit → List AnonymousAct → Type 0
  Issues how ds = Some_of IsClosing (map did (alones_acts m.before) ++ (ds ++ map did (alones_acts m.after))) → Some_of IsIssue (map did (alones_acts m.before) ++ (ds ++ map did (alones_acts m.after)))

  none_issued : (n : ℕ) → Issues (visit.close n) (closed n ∷ []) → ⊥
  none_issued n f = ⊎_elim
      (λ (a : Some_of IsIssue (map did (alones_acts m.before))). no_issue _ (alones_still m.before) a)
      (λ b. ⊎_elim (λ (e : IsIssue (closed n)). e) (λ k. no_issue _ (alones_still m.after) k) b)
      (some_either IsIssue (map did (alones_acts m.before)) (closed n ∷ map did (alones_acts m.after)) (f (some_right IsClosing (map did (alones_acts m.before)) (closed n ∷ map did (alones_acts m.after)) (inl tt))))

  by_visit : (how : Visit) (a : Cell) (x : SeatState) (b : Cell) (y : SeatState) (h : Happens v out how a x b y) → Issues how (visit_anonymous_acts v out how a x b y h) → Waits N l how
  by_visit (visit.close n) (Ledger a) x (Ledger b) y h f = absurd (none_issued n f)
  by_visit (visit.close n) a x b y h f = absurd h
  by_visit (visit.commit time) a x b y h f = below
  by_visit (visit.issue moment) a x b y h f = below
  by_visit visit.keep a x b y h f = below
  by_visit how a x b y h f = tt

  pub waits_by_anonymous_acts : ClosesForDigest (may_anonymous_acts m) → Waits N l m.visit
  waits_by_anonymous_acts f = by_visit m.visit m.old m.begun c m.ended m.happens f

-- ---- the seat of a session goes on

module _ {v : Server} {database : Text} {size : ℕ} {phase : Phase} {lines : List InputLine} {moments : List ℕ} {told : List SessionOutput} {cells : List Cell} {states : List SeatState} (c : SessionsStand v database size phase lines moments told cells states)
    (j : ℕ) (s : SeatState) (there : get_elem? states j ≡ some s) (k : SessionOutput) (is_told : get_elem? told j ≡ some k) (others : OthersInactive states j) where
  its : ShownAt moments told j s
  its = shown_at moments told states c.shown j s there

  runs_there : (x : Session) → s.role ≡ session x → Runs moments k s
  runs_there x role = still_runs moments k s x role (subst (λ (l : SessionOutput). IsShown moments l s) (some-injective its.k k (sym its.there ∙ is_told)) its.is)

  named : (ds : List AnonymousAct) → names_begun ds ≡ [] → names_told told ++ names_begun ds ≡ names_told told
  named ds e = ap (λ (ns : List Text). names_told told ++ ns) e ∙ append-nil (names_told told)

  pub alone_on : (t : SeatState) (steps : Alones v s t) → Each (InPhase phase) (map did (alones_acts steps)) → names_begun (map did (alones_acts steps)) ≡ []
      → (entries : List Entry) (images : List KeptImage) (times later : List ℕ) → Gains s entries images times t → Each (λ time. In time later) times
      → SessionsStand v database size phase (lines ++ alones_lines steps) (moments ++ later) (slice_set told j (told_with k entries images)) cells (slice_set states j t)
  alone_on t steps phased nameless entries images times later g at = one_seat_on c later j s t (told_with k entries images) k there is_told refl
      (subst (λ (ns : List Text). SequentialRun v database size phase ns (lines ++ alones_lines steps) cells (slice_set (c.parent ∷ states) (suc j) t)) (named (map did (alones_acts steps)) nameless)
      (alones_more c.sequential_run (suc j) s there (inactive_except c.parent states j c.rests others) t steps phased))
      (runs_on moments later k s t entries images times (runs_there g.x g.before) g at)

  pub over_now : (t : SeatState) (steps : Alones v s t) → Each (InPhase phase) (map did (alones_acts steps)) → names_begun (map did (alones_acts steps)) ≡ []
      → (entries : List Entry) (later : List ℕ) → Writes s entries t
      → SessionsStand v database size phase (lines ++ alones_lines steps) (moments ++ later) (slice_set told j (told_with k entries [])) cells (slice_set states j t)
  over_now t steps phased nameless entries later g = one_seat_on c later j s t (told_with k entries []) k there is_told refl
      (subst (λ (ns : List Text). SequentialRun v database size phase ns (lines ++ alones_lines steps) cells (slice_set (c.parent ∷ states) (suc j) t)) (named (map did (alones_acts steps)) nameless)
      (alones_more c.sequential_run (suc j) s there (inactive_except c.parent states j c.rests others) t steps phased))
      (over_on moments later k s t entries (runs_there g.x g.before) g)

  pub visit_on : (out : List (ℕ × Cell)) → OutsAreIn cells out → (i : ℕ) (d : Cell) (t : SeatState) (m : AllowedVisit v s out i d t) → Each (InPhase phase) (may_anonymous_acts m) → names_begun (may_anonymous_acts m) ≡ []
      → (l : LedgerCell) → get_elem? cells ledger_at ≡ some (Ledger l) → pending_in l < size → ClosesForDigest (may_anonymous_acts m)
      → (entries : List Entry) (images : List KeptImage) (times later : List ℕ) → Gains s entries images times t → Each (λ time. In time later) times
      → SessionsStand v database size phase (lines ++ may_lines m) (moments ++ later) (slice_set told j (told_with k entries images)) (slice_set cells i d) (slice_set states j t)
  visit_on out outs i d t m phased nameless l lies below digests entries images times later g at = one_seat_on c later j s t (told_with k entries images) k there is_told refl
      (subst (λ (ns : List Text). SequentialRun v database size phase ns (lines ++ may_lines m) (slice_set cells i d) (slice_set (c.parent ∷ states) (suc j) t)) (named (may_anonymous_acts m) nameless)
      (visit_more c.sequential_run (suc j) s there (inactive_except c.parent states j c.rests others) out outs i d t m phased
      (waits_by_anonymous_acts size c.sequential_run.ledger (subst (λ (z : LedgerCell). pending_in z < size) (sym (cell_same c.sequential_run.ledger l (sym c.sequential_run.there ∙ lies))) below) m digests)))
      (runs_on moments later k s t entries images times (runs_there g.x g.before) g at)

  -- its seat closes a full block
  pub close_on : (l : LedgerCell) → get_elem? cells ledger_at ≡ some (Ledger l) → pending_in l ≡ size → (n : ℕ) (d : LedgerCell) → Closes v n l d
      → SessionsStand v database size phase lines moments told (slice_set cells ledger_at (Ledger d)) states
  close_on l lies is_full n d closes = cells_on c (close_more c.sequential_run (suc j) s there (inactive_except c.parent states j c.rests others) l lies is_full n d closes)
