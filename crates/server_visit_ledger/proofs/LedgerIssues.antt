-- Issuing a digest, and closing a full block before, are visits of the ledger's cell.
use Rattle.std.proofs.Common.{◌≡◌, ◌↔◌, ◌<◌, ◌≤◌, ℕ, zero, suc, Bool, true, false, List, [], ◌∷◌, ◌++◌, Option, Some, None, Result, Ok, Err, IfOk, OnErr, map, refl, sym, ap, ap₂, ◌∙◌, subst, subst₂, inl, inr, arith}
use Rattle.std.specs.Prelude.{if◌then◌else◌, nat_le}
use Rattle.std.proofs.lemmas.Bool.{leb-true, leb-false}
use Rattle.std.proofs.lemmas.List.{append-nil}
use Rattle.sql_value.specs.declared.refusal.Refusal.TheVariants.{NothingCommitted, NoMemory}
use Rattle.sql_types.specs.declared.reply.Reply.{Reply}
use Rattle.sql_types.specs.declared.reply.Reply.TheVariants as reply
use Rattle.sql_types.specs.declared.statement.Stmt.{Stmt}
use Rattle.sql_types.specs.declared.statement.Stmt.TheVariants as stmt
use Rattle.spec_model.specs.Journals.{tx_count}
use Rattle.server_session.specs.Acts.{Act, issues}
use Rattle.server_session.specs.Acts as act
use Rattle.server_session.specs.Lists.{Text}
use Rattle.server_session.specs.ActsOf.{closings}
use Rattle.server_session.specs.Alone.{IsUnfixed}
use Rattle.server_session.specs.Cells.{LedgerCell, pending_in}
use Rattle.server_session.specs.AnonymousActs.{AnonymousAct, anonymous_act, did}
use Rattle.server_session.specs.LedgerIsLegal.{LedgerIsLegal}
use Rattle.server_session.specs.LedgerVisits.{closed_by, next_block}
use Rattle.server_session.specs.Moves.{InStatement, then_at, at_place, at_moment, sits, marking}
use Rattle.server_session.specs.Seats.{OpenTransaction, inside, answering, Session, SeatState}
use Rattle.server_session.specs.Server.{Server}
use Rattle.server_session.specs.Visits.{close, issue, lack_block}
use Rattle.server_session.proofs.LedgerNumbers.{pending_after}
use Rattle.store_ledger.specs.HashedCell.{HashedCell, KeepsHash}
use Rattle.store_ledger.specs.Issues.{IsIssued}
use Rattle.store_ledger.specs.declared.cell.IssuedDigest.{IssuedDigest}
use Rattle.store_ledger.specs.declared.digest_err.DigestErr.{DigestErr}
use Rattle.store_ledger.specs.declared.digest_err.DigestErr.TheVariants.{NoBlock, Memory}
use Rattle.store_ledger.proofs.OfJournal.{issued_is_digest}
use Rattle.server_visit_ledger.specs.LedgerSeen.{ledger_seen}
use Rattle.server_session.specs.Stages.{unsaid}
use Rattle.server_visit_ledger.specs.LedgerMoves.{stage_work, work_of, moved, digest_reply, VisitsOn}
use Rattle.server_session.specs.Needs.{visits_left, point_visits, answer_visits}
use Rattle.server_session.specs.ControlPoints.{KeepsStatement, IsSamePhase}
use Rattle.server_session.specs.Sits.{Runs, IsStage}
use Rattle.server_session.specs.Steps.{Among, IsVisit}
use Rattle.server_session.specs.SessionOutput.{closed_first, plainly}
use Rattle.server_session.specs.SessionOutput as told
use Rattle.server_visit_ledger.specs.declared.ledger_work.LedgerWork.TheVariants as work
use Rattle.server_session.specs.declared.running.Running.{Running}
use Rattle.server_session.specs.declared.seat.Seat.{Seat}
use Rattle.server_session.specs.declared.stage.ControlPoint.{ControlPoint}
use Rattle.server_session.specs.declared.stage.ControlPoint.TheVariants.{Between, Inside, Leaving, Over}
use Rattle.server_session.specs.declared.stage.Stage.{Stage}
use Rattle.server_session.specs.declared.stage.Stage.TheVariants.{Begun, AssigningId, Committing, RollingBack, Issuing, Keeping, Looking, Found, Made, LacksIndex, GoingBack, Replied, GivingBack, Answering as Answered}
use Rattle.server_session.proofs.Alone.{adds_at, adds_none, sits_then}
use Rattle.server_visit_ledger.proofs.Ledger.{is_ledger, none_runs, lacks_at}
use Rattle.server_session.proofs.Sitting.{stmt_found, staged, in_statement, sits_at, visits_once, visits_alone}

-- ---- it is asked for a digest

issue_stage : (stage : Stage) → stage_work stage ≡ work.Issue → Inside stage ≡ Inside Issuing
issue_stage Issuing e = refl
issue_stage Begun e = cc
issue_stage (AssigningId explicit) e = cc
issue_stage Committing e = cc
issue_stage RollingBack e = cc
issue_stage Keeping e = cc
issue_stage Looking e = cc
issue_stage (Found def part fresh) e = cc
issue_stage (Made def indexed) e = cc
issue_stage (LacksIndex def) e = cc
issue_stage (GoingBack seq passed) e = cc
issue_stage (Replied r) e = cc
issue_stage (GivingBack r) e = cc
issue_stage (Answered b) e = cc

issue_point : (p : ControlPoint) → work_of p ≡ work.Issue → p ≡ Inside Issuing
issue_point Between e = cc
issue_point (Inside stage) e = issue_stage stage e
issue_point Leaving e = cc
issue_point Over e = cc

-- ---- blocks

full_next : (c : LedgerCell) → c.block_size ≤ pending_in c → c.block_size ≡ next_block c
full_next c l = by (nat_le c.block_size (pending_in c)) refl
  where
    by : (b : Bool) → nat_le c.block_size (pending_in c) ≡ b → c.block_size ≡ (if b then c.block_size else pending_in c)
    by true e = refl
    by false e = let m = leb-false c.block_size (pending_in c) e in absurd (omega (arith, l, m))

all_next : (c : LedgerCell) → pending_in c ≤ c.block_size → next_block c ≡ pending_in c
all_next c l = by (nat_le c.block_size (pending_in c)) refl
  where
    by : (b : Bool) → nat_le c.block_size (pending_in c) ≡ b → (if b then c.block_size else pending_in c) ≡ pending_in c
    by true e = let m = leb-true c.block_size (pending_in c) e in omega (arith, l, m)
    by false e = refl

-- where nothing is pending nothing is closed
none_closed : (v : Server) (n : ℕ) (c : LedgerCell) → pending_in c ≡ 0 → closings v n c ≡ []
none_closed v zero c e = refl
none_closed v (suc n) c e = by (nat_le (pending_in c) 0) refl
  where
    by : (b : Bool) → nat_le (pending_in c) 0 ≡ b → (if b then [] else act.closes (next_block c) ∷ closings v n (closed_by v.hash (next_block c) c)) ≡ []
    by true f = refl
    by false f = let m = leb-false (pending_in c) 0 f in absurd (omega (arith, e, m))

-- what one block takes is closed at once
closed_at_once : (v : Server) (c : LedgerCell) → pending_in c ≤ c.block_size → (m : ℕ) → pending_in c ≡ m → map anonymous_act (closings v m c) ≡ closed_first m
closed_at_once v c l zero e = refl
closed_at_once v c l (suc n) e = by (nat_le (pending_in c) 0) refl
  where
    next : next_block c ≡ suc n
    next = all_next c l ∙ e

    left : pending_in (closed_by v.hash (next_block c) c) ≡ 0
    left = let after = pending_after v (next_block c) c in omega (arith, after, next, e)

    by : (b : Bool) → nat_le (pending_in c) 0 ≡ b → map anonymous_act (if b then [] else act.closes (next_block c) ∷ closings v n (closed_by v.hash (next_block c) c)) ≡ closed_first (suc n)
    by true f = let m = leb-true (pending_in c) 0 f in absurd (omega (arith, e, m))
    by false f = ap₂ (λ (k : ℕ) (es : List Act). anonymous_act (act.closes k) ∷ map anonymous_act es) next (none_closed v n (closed_by v.hash (next_block c) c) left)

-- ---- the visits

module _ {H : Type 0} (digest : H → List ℕ → List ℕ) (y : Seat H) (c d : HashedCell) (at : y.point ≡ Inside Issuing) where
  free_there : (o : Option OpenTransaction) → IsStage Issuing y.stmt o y.images → IsUnfixed o
  free_there None k = tt
  free_there (Some o) k = let no : Some o ≡ None = k.0 in cc

  stays_with : (r : Reply) (q : Option (Running H)) → KeepsStatement y (moved y q (Inside (unsaid r)))
  stays_with r q = record { point = subst (λ (p : ControlPoint). IsSamePhase p (Inside (unsaid r))) (sym at) tt; begun = λ b. absurd b; started = refl; name = refl; text = refl }

  abbrev answered : Reply → Seat H
  answered r = moved y None (Inside (unsaid r))

  -- it is answered, with no transaction
  answers_fewer : (r : Reply) → visits_left (answered r) < visits_left y
  answers_fewer r = subst (λ (p : ControlPoint). 0 < point_visits p y.running) (sym at) (omega arith)

  module _ (a : Among digest y (ledger_seen c)) where
    here : IsStage Issuing y.stmt a.sits.x.open_one y.images
    here = staged digest a.h y a.s a.sits Issuing at y.stmt refl a.sits.x.open_one refl

    pub nobody : y.running ≡ None
    nobody = none_runs digest a.h y.running (subst (Runs digest a.h y.running) here.0 a.sits.runs)

    st : (st : Stmt) × (y.stmt ≡ Some st) × (st ≡ stmt.Digest)
    st = stmt_found (λ s. s ≡ stmt.Digest) y.stmt here.1

    abbrev p : InStatement a.v a.s
    p = in_statement digest a.h y a.s a.sits a.v a.serves Issuing at st.0 st.1

    legal : LedgerIsLegal a.v c.cell
    legal = subst (LedgerIsLegal a.v) (sym (is_ledger digest y c a)) a.together.stands.ledger_is_legal

    keeps_hash : KeepsHash (digest y.hasher) d → KeepsHash (digest a.h) d
    keeps_hash k = subst (λ (h : H). KeepsHash (digest h) d) a.sits.hasher k

    -- there is no block
    no_block : d ≡ c → tx_count c.cell.items ≡ 0 → IsVisit digest y (ledger_seen c) a (ledger_seen c) (answered (reply.Refused NothingCommitted))
    no_block same none = visits_once digest y (ledger_seen c) a (ledger_seen c) (answered (reply.Refused NothingCommitted)) (then_at a.s p None (answering (reply.Refused NothingCommitted) None)) lack_block
        (λ out. (record { stands = p; at_begin = refl; none_open = here.0; asks = st.2; none = none; seat = refl }, refl))
        (λ out. plainly (tt, tt) refl)
        (sits_at digest a.h y a.s a.sits None None (unsaid (reply.Refused NothingCommitted)) tt tt tt (refl, refl))
        [] tt (adds_at a.s a.sits.x None (inside y.text (answering (reply.Refused NothingCommitted) None)) a.sits.role) a.keeps

    -- a digest is issued
    module _ (issued : IssuedDigest) (is : IsIssued (digest y.hasher) y.started c.cell issued d.cell) (few : pending_in c.cell ≤ c.cell.block_size) where
      its : IsIssued a.v.hash y.started c.cell issued d.cell
      its = subst (λ (h : List ℕ → List ℕ). IsIssued h y.started c.cell issued d.cell) (sym a.serves.hash) (subst (λ (h : H). IsIssued (digest h) y.started c.cell issued d.cell) a.sits.hasher is)

      abbrev shown : Reply
      shown = reply.Digest issued.block issued.hash

      abbrev then_session : Session
      then_session = at_moment y.started (at_place None (inside y.text (answering shown None)) a.sits.x)

      abbrev then_state : SeatState
      then_state = marking (tx_count c.cell.items) (sits a.s then_session)

      issue_visit : KeepsHash (digest y.hasher) d → IsVisit digest y (ledger_seen c) a (ledger_seen d) (answered shown)
      issue_visit keeps = visits_once digest y (ledger_seen c) a (ledger_seen d) (answered shown) then_state (issue y.started)
          (λ out. record {
            stands = p;
            at_begin = refl;
            none_open = here.0;
            asks = st.2;
            digest = its.digest;
            newest = its.of_newest.newest;
            is = issued_is_digest a.v y.started c.cell d.cell issued legal its;
            made = its.made;
            cell = its.cell;
            seat = ap₂ (λ (b : ℕ) (h : Text). marking (tx_count c.cell.items) (sits a.s (at_moment y.started (at_place None (inside y.text (answering (reply.Digest b h) None)) a.sits.x)))) its.block its.hash;
          })
          (λ out. told.issued its.digest (tx_count c.cell.items) (ap (λ (ds : List AnonymousAct). ds ++ did (issues its.digest (tx_count c.cell.items)) ∷ []) (closed_at_once a.v c.cell few (pending_in c.cell) refl)) its.none_pending)
          (sits_then digest a.h y a.s a.sits then_state then_session y.started y.text y.stmt None (Inside (unsaid shown)) refl refl refl a.sits.moment refl a.sits.reads tt tt tt (refl, refl))
          (y.started ∷ []) (refl, tt)
          (record {
            x = a.sits.x;
            y = then_session;
            before = a.sits.role;
            after = refl;
            session = refl;
            entries = sym (append-nil a.sits.x.transcript.entries);
            images = sym (append-nil a.sits.x.images);
            moments = refl;
            earlier = refl;
            written = refl;
          })
          (keeps_hash keeps)

    -- a full block is closed alone
    close_visit : c.cell.block_size < pending_in c.cell → d.cell ≡ closed_by (digest y.hasher) c.cell.block_size c.cell → KeepsHash (digest y.hasher) d → IsVisit digest y (ledger_seen c) a (ledger_seen d) y
    close_visit full closed keeps = visits_once digest y (ledger_seen c) a (ledger_seen d) y a.s (close c.cell.block_size)
        (λ out. (record { some = omega (arith, full); all = full_next c.cell (omega (arith, full)); cell = cell_is }, refl))
        (λ out. told.closed_full full refl (let after = ap (λ (k : LedgerCell). pending_in k) cell_is ∙ pending_after a.v c.cell.block_size c.cell in omega (arith, after, full)))
        a.sits [] tt (adds_none a.s a.sits.x a.sits.role) (keeps_hash keeps)
      where
        cell_is : d.cell ≡ closed_by a.v.hash c.cell.block_size c.cell
        cell_is = closed ∙ ap (λ (h : List ℕ → List ℕ). closed_by h c.cell.block_size c.cell) (ap digest a.sits.hasher ∙ sym a.serves.hash)

    close_fewer : c.cell.block_size < pending_in c.cell → d.cell ≡ closed_by (digest y.hasher) c.cell.block_size c.cell → pending_in d.cell < pending_in c.cell
    close_fewer full closed = let after = ap (λ (k : LedgerCell). pending_in k) (closed ∙ ap (λ (h : List ℕ → List ℕ). closed_by h c.cell.block_size c.cell) (ap digest a.sits.hasher ∙ sym a.serves.hash)) ∙ pending_after a.v c.cell.block_size c.cell in
        let least = legal.some_size in omega (arith, after, least, full)

-- ---- in the form of the contracts

module _ {H : Type 0} (digest : H → List ℕ → List ℕ) (y z : Seat H) (c d : HashedCell) (is : work_of y.point ≡ work.Issue) where
  abbrev at : y.point ≡ Inside Issuing
  at = issue_point y.point is

  pub closes_full : c.cell.block_size < pending_in c.cell → d.cell ≡ closed_by (digest y.hasher) c.cell.block_size c.cell → KeepsHash (digest y.hasher) d → Among digest y (ledger_seen c)
      → VisitsOn digest y (ledger_seen c) (ledger_seen d) y
  closes_full full closed keeps a = record {
    visits = λ b. close_visit digest y c d at b full closed keeps;
    comes_on = inr (refl, close_fewer digest y c d at a full closed);
    stays = record { point = subst (λ (p : ControlPoint). IsSamePhase p p) (sym at) tt; begun = λ b. b; started = refl; name = refl; text = refl };
  }

  -- there is no memory
  pub refuses : d ≡ c → z ≡ moved y y.running (Inside (unsaid (reply.Refused NoMemory))) → Among digest y (ledger_seen c) → VisitsOn digest y (ledger_seen c) (ledger_seen d) z
  refuses same seat a = subst₂ (λ (k : HashedCell) (u : Seat H). VisitsOn digest y (ledger_seen c) (ledger_seen k) u) (sym same) (sym seat) (record {
    visits = visits_alone digest y (ledger_seen c) (moved y y.running (Inside (unsaid (reply.Refused NoMemory)))) (lacks_at digest y Issuing at (λ left. refl) refl (free_there digest y c d at));
    comes_on = inl (subst₂ (λ (p : ControlPoint) (q : Option (Running H)). answer_visits q < point_visits p y.running) (sym at) (sym (nobody digest y c d at a)) (omega arith));
    stays = stays_with digest y c d at (reply.Refused NoMemory) y.running;
  })

  pub issues_it : (issued : Result IssuedDigest DigestErr) → pending_in c.cell ≤ c.cell.block_size → IfOk issued (λ i. IsIssued (digest y.hasher) y.started c.cell i d.cell)
      → (issued ≡ Err NoBlock) ↔ (tx_count c.cell.items ≡ 0) → (issued ≡ Err NoBlock → d ≡ c) → OnErr issued (d ≡ c) → KeepsHash (digest y.hasher) d
      → z ≡ moved y y.running (Inside (unsaid (digest_reply issued))) → Among digest y (ledger_seen c) → VisitsOn digest y (ledger_seen c) (ledger_seen d) z
  issues_it (Ok i) few ok none unchanged err keeps seat a = subst (VisitsOn digest y (ledger_seen c) (ledger_seen d)) (sym (seat ∙ ap (λ (q : Option (Running H)). moved y q (Inside (unsaid (reply.Digest i.block i.hash)))) (nobody digest y c d at a))) (record {
    visits = λ b. issue_visit digest y c d at b i ok few keeps;
    comes_on = inl (answers_fewer digest y c d at (reply.Digest i.block i.hash));
    stays = stays_with digest y c d at (reply.Digest i.block i.hash) None;
  })
  issues_it (Err NoBlock) few ok none unchanged err keeps seat a = subst₂ (λ (k : HashedCell) (u : Seat H). VisitsOn digest y (ledger_seen c) (ledger_seen k) u) (sym (unchanged refl))
      (sym (seat ∙ ap (λ (q : Option (Running H)). moved y q (Inside (unsaid (reply.Refused NothingCommitted)))) (nobody digest y c d at a))) (record {
        visits = λ b. no_block digest y c d at b (unchanged refl) (none.0 refl);
        comes_on = inl (answers_fewer digest y c d at (reply.Refused NothingCommitted));
        stays = stays_with digest y c d at (reply.Refused NothingCommitted) None;
      })
  issues_it (Err Memory) few ok none unchanged err keeps seat a = refuses err seat a
