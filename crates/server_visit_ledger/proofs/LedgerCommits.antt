-- A commit is a visit of the ledger's cell, and so is the end of a transaction that left no event, or whose commit lacks memory.
use Rattle.std.proofs.Common.{◌≡◌, ◌<◌, ◌+◌, ℕ, Bool, true, false, List, [], ◌∷◌, ◌++◌, Option, Some, None, length, map, refl, sym, ap, ap₂, ◌∙◌, subst, subst₂, inl, arith, length-append}
use Rattle.std.proofs.lemmas.List.{append-nil, map-append}
use Rattle.base_types.specs.Ids.{is_tx_id}
use Rattle.sql_value.specs.declared.refusal.Refusal.TheVariants.{NoMemory}
use Rattle.sql_types.specs.declared.journal.JournalItem.TheVariants.{Tx}
use Rattle.sql_types.specs.declared.reply.Reply.{Reply}
use Rattle.sql_types.specs.declared.reply.Reply.TheVariants as reply
use Rattle.sql_types.specs.declared.statement.Stmt.{Stmt}
use Rattle.sql_types.specs.declared.statement.Stmt.TheVariants as stmt
use Rattle.sql_types.specs.declared.table.TableDef.{TableDef}
use Rattle.spec_model.specs.Journals.{Line, tx_count}
use Rattle.server_session.specs.Acts.{says}
use Rattle.server_session.specs.Acts as act
use Rattle.server_session.specs.Lists.{Each}
use Rattle.server_session.specs.Serial.{Differ}
use Rattle.server_session.specs.Transactions.{unfixed, committed}
use Rattle.server_session.specs.Blocks.{no_hash, last_hash}
use Rattle.server_session.specs.Entry.{IsEntry}
use Rattle.server_session.specs.Entries.{at_place as placed_entry}
use Rattle.server_session.specs.Alone.{IsUnfixed}
use Rattle.server_session.specs.Cells.{LedgerCell, pending_in}
use Rattle.server_session.specs.AnonymousActs.{did}
use Rattle.server_session.specs.LedgerVisits.{Commits, Ends, commits_nothing, did_nothing, lacks_memory, is_read_only, with_item, entry_of_trees, root_of_tree, with_leaves}
use Rattle.server_session.specs.Moves.{InStatement, ending, at_place, at_moment, sits, marking}
use Rattle.server_session.specs.OpenOnes.{last_line, lines_at, script_so_far}
use Rattle.server_session.specs.Seats.{OpenTransaction, inside, begun, answering, Session, SeatState}
use Rattle.server_session.specs.Visits.{commit}
use Rattle.server_session.specs.Represents.{Represents}
use Rattle.server_session.specs.Roots.{Root, roots_of_trees}
use Rattle.store_ledger.specs.Commits.{new_entry}
use Rattle.store_ledger.specs.HashedCell.{HashedCell}
use Rattle.server_visit_ledger.specs.LedgerSeen.{ledger_seen}
use Rattle.server_session.specs.Stages.{unsaid}
use Rattle.server_visit_ledger.specs.LedgerMoves.{stage_work, work_of, moved, without_index, committed_stage, ended_stage, lacking_stage, inside_with, IsIdOf, with_end, AreFixed, AreOwnFixed, IsOwnFixed, ended_after, committed_at, HasEnded, HasCommitted, HasLacked, VisitsOn, last_in, last_at, CommitsIt, IsLeftNothing}
use Rattle.server_visit_ledger.specs.LedgerMoves as moves
use Rattle.server_session.specs.Needs.{visits_left, point_visits, end_visits, answer_visits}
use Rattle.server_session.specs.ControlPoints.{KeepsStatement, IsSamePhase}
use Rattle.server_session.specs.Sits.{Sits, IsRunning, Runs, OfStmt, OfOpen, IsExplicit, IsOwn, IsIndex, IsSome, IsStage, left_of, line_of, said_at, stage_seen}
use Rattle.server_session.specs.Steps.{Among, IsVisit}
use Rattle.server_session.specs.SessionOutput.{IsPlainAnonymousAct, Adds}
use Rattle.server_session.specs.SessionOutput as told
use Rattle.server_session.specs.VisitedCells.{table_cell}
use Rattle.sql_types.specs.declared.end_line.EndLine.{EndLine}
use Rattle.sql_types.specs.declared.end_line.EndLine.TheVariants.{Committed}
use Rattle.server_visit_ledger.specs.declared.ledger_work.LedgerWork.TheVariants as work
use Rattle.server_session.specs.declared.running.Running.{Running}
use Rattle.server_session.specs.declared.seat.Seat.{Seat}
use Rattle.server_session.specs.declared.stage.ControlPoint.{ControlPoint}
use Rattle.server_session.specs.declared.stage.ControlPoint.TheVariants.{Between, Inside, Leaving, Over}
use Rattle.server_session.specs.declared.stage.Stage.{Stage}
use Rattle.server_session.specs.declared.stage.Stage.TheVariants.{Begun, AssigningId, Committing, RollingBack, Issuing, Keeping, Looking, Found, Made, LacksIndex, GoingBack, Replied, GivingBack, Answering as Answered}
use Rattle.server_session.proofs.Alone.{placed, holds_at_point, sits_then}
use Rattle.server_visit_ledger.proofs.Ledger.{needs_at, free_end, lacks_at}
use Rattle.server_visit_ledger.proofs.LedgerEnds.{running_fixed, may_answer, EndsHere, many, stays_inside, index_here, not_table, ends_by}
use Rattle.server_visit_ledger.proofs.LedgerEntries.{its_entry_fits}
use Rattle.server_session.proofs.Sitting.{stmt_found, open_found, running_found, reads_it, staged, script_so, visits_once, visits_alone}

-- ---- a transaction that may commit

-- how its statement stands there, and what it is answered then
pub record MayCommit {H : Type 0} (digest : H → List ℕ → List ℕ) (y : Seat H) (c : HashedCell) (a : Among digest y (ledger_seen c)) (stage : Stage) : Type 0 where
  pub r : Running H
  pub running : y.running ≡ Some r
  pub o : OpenTransaction
  pub open_one : a.sits.x.open_one ≡ Some o
  pub run : IsRunning digest a.h r o
  pub free : o.end ≡ unfixed
  pub st : Stmt
  pub is : a.v.reads y.text ≡ Some st
  pub at : y.point ≡ Inside stage
  pub reply : Reply
  pub commits : Commits o.explicit st (stage_seen stage (left_of y.running)) reply
  pub then_stage : committed_stage stage ≡ unsaid reply
  pub lines : last_line y.text (stage_seen stage (left_of y.running)) ≡ last_at y.point y.text
  pub unsaid_yet : said_at (Inside stage) y.text ≡ []
  pub count : point_visits (Inside stage) (Some r) ≡ length r.visited.left + 2

module _ {H : Type 0} (digest : H → List ℕ → List ℕ) (y : Seat H) (c : HashedCell) (a : Among digest y (ledger_seen c)) where
  abbrev w : Sits digest a.h y a.s
  w = a.sits

  commits_opened : y.point ≡ Inside Committing → MayCommit digest y c a Committing
  commits_opened at = record {
    r = rn.0;
    running = rn.1;
    o = op.0;
    open_one = op.1;
    run = rn.2;
    free = op.2.0;
    st = stmt.Commit;
    is = reads_it digest a.h y a.s w a.v a.serves st.0 st.1 ∙ ap (λ (s : Stmt). Some s) st.2;
    at = at;
    reply = reply.NoOutput;
    commits = subst (λ (b : Bool). Commits b stmt.Commit begun reply.NoOutput) (sym op.2.1) refl;
    then_stage = refl;
    lines = ap (λ (p : ControlPoint). last_at p y.text) (sym at);
    unsaid_yet = refl;
    count = refl;
  }
    where
      here : OfOpen IsExplicit w.x.open_one × OfStmt (λ s. s ≡ stmt.Commit) y.stmt
      here = staged digest a.h y a.s w Committing at y.stmt refl w.x.open_one refl

      op : (o : OpenTransaction) × (w.x.open_one ≡ Some o) × IsExplicit o
      op = open_found IsExplicit w.x.open_one here.0

      rn : (r : Running H) × (y.running ≡ Some r) × IsRunning digest a.h r op.0
      rn = running_found digest a.h y.running op.0 (subst (Runs digest a.h y.running) op.1 w.runs)

      st : (st : Stmt) × (y.stmt ≡ Some st) × (st ≡ stmt.Commit)
      st = stmt_found (λ s. s ≡ stmt.Commit) y.stmt here.1

  commits_own : (stage : Stage) → y.point ≡ Inside stage → OfOpen IsOwn w.x.open_one → (P : Stmt → Type 0) → OfStmt P y.stmt → (answer : Reply)
      → ((st : Stmt) → Commits false st (stage_seen stage (left_of y.running)) answer) → committed_stage stage ≡ unsaid answer
      → last_line y.text (stage_seen stage (left_of y.running)) ≡ last_in stage y.text → said_at (Inside stage) y.text ≡ []
      → ((r : Running H) → point_visits (Inside stage) (Some r) ≡ length r.visited.left + 2) → MayCommit digest y c a stage
  commits_own stage at own P some answer commits then_stage lines unsaid_yet count = record {
    r = rn.0;
    running = rn.1;
    o = op.0;
    open_one = op.1;
    run = rn.2;
    free = op.2.0;
    st = st.0;
    is = reads_it digest a.h y a.s w a.v a.serves st.0 st.1;
    at = at;
    reply = answer;
    commits = subst (λ (b : Bool). Commits b st.0 (stage_seen stage (left_of y.running)) answer) (sym op.2.1) (commits st.0);
    then_stage = then_stage;
    lines = lines ∙ ap (λ (p : ControlPoint). last_at p y.text) (sym at);
    unsaid_yet = unsaid_yet;
    count = count rn.0;
  }
    where
      op : (o : OpenTransaction) × (w.x.open_one ≡ Some o) × IsOwn o
      op = open_found IsOwn w.x.open_one own

      rn : (r : Running H) × (y.running ≡ Some r) × IsRunning digest a.h r op.0
      rn = running_found digest a.h y.running op.0 (subst (Runs digest a.h y.running) op.1 w.runs)

      st : (st : Stmt) × (y.stmt ≡ Some st) × P st
      st = stmt_found P y.stmt some

  commits_replied : (r : Reply) → y.point ≡ Inside (Replied r) → MayCommit digest y c a (Replied r)
  commits_replied r at = let here = holds_at_point digest a.h y a.s w (Inside (Replied r)) at in
      commits_own (Replied r) at here.0 IsSome here.1 r (λ st. refl) refl refl refl (λ q. refl)

  commits_made : (def : TableDef) → y.point ≡ Inside (Made def true) → MayCommit digest y c a (Made def true)
  commits_made def at = let here = holds_at_point digest a.h y a.s w (Inside (Made def true)) at in
      commits_own (Made def true) at here.0 IsIndex here.1 reply.Made (λ st. refl) refl refl refl (λ q. refl)

  not_made : (def : TableDef) → y.point ≡ Inside (Made def false) → ⊥
  not_made def at = not_table digest y c a (table_cell def.id) (holds_at_point digest a.h y a.s w (Inside (Made def false)) at).2 (needs_at digest y c a (Inside (Made def false)) at y.running refl)

  commits_stage : (stage : Stage) → y.point ≡ Inside stage → stage_work stage ≡ work.Commit → MayCommit digest y c a stage
  commits_stage Begun at e = cc
  commits_stage (AssigningId explicit) at e = cc
  commits_stage Committing at e = commits_opened at
  commits_stage RollingBack at e = cc
  commits_stage Issuing at e = cc
  commits_stage Keeping at e = cc
  commits_stage Looking at e = cc
  commits_stage (Found def part fresh) at e = cc
  commits_stage (Made def true) at e = commits_made def at
  commits_stage (Made def false) at e = absurd (not_made def at)
  commits_stage (LacksIndex def) at e = cc
  commits_stage (GoingBack seq passed) at e = cc
  commits_stage (Replied r) at e = commits_replied r at
  commits_stage (GivingBack r) at e = cc
  commits_stage (Answered b) at e = cc

stage_found : (p : ControlPoint) → work_of p ≡ work.Commit → (stage : Stage) × (p ≡ Inside stage) × (stage_work stage ≡ work.Commit)
stage_found Between e = cc
stage_found (Inside stage) e = (stage, refl, e)
stage_found Leaving e = cc
stage_found Over e = cc

-- ---- what it is about

module _ {H : Type 0} (digest : H → List ℕ → List ℕ) (y : Seat H) (c : HashedCell) (a : Among digest y (ledger_seen c)) (stage : Stage) (k : MayCommit digest y c a stage) where
  abbrev x : Session
  x = a.sits.x

  -- where the law has it
  abbrev stands : InStatement a.v a.s
  stands = record { x = a.sits.x; role = a.sits.role; text = y.text; stage = stage_seen stage (left_of y.running); place = placed digest a.h y a.s a.sits (Inside stage) k.at; stmt = k.st; is = k.is }

  differ : Differ (map (λ t. t.table) k.o.trees)
  differ = (a.together.stands.trees_are_of_events a.j a.sits.x k.o (record { seat = a.s; there = a.there; role = a.sits.role; open_one = k.open_one }) k.free).trees.differ

  roots_so : (roots : List Root) → ((h : H) (o : OpenTransaction) → Represents digest h k.r.context o → Differ (map (λ t. t.table) o.trees) → roots ≡ roots_of_trees (digest h) o.trees)
      → roots ≡ map (root_of_tree a.v) (with_leaves k.o.trees)
  roots_so roots are = are a.h k.o k.run.context differ ∙ ap (λ (h : List ℕ → List ℕ). roots_of_trees h k.o.trees) (sym a.serves.hash)

  -- its entry has a spelling
  entry_fits : ((h : H) (bytes : List ℕ) → length (digest h bytes) ≡ 32) → (id : ℕ) → IsIdOf digest id k.r → (roots : List Root)
      → ((h : H) (o : OpenTransaction) → Represents digest h k.r.context o → Differ (map (λ t. t.table) o.trees) → roots ≡ roots_of_trees (digest h) o.trees)
      → is_read_only k.o ≡ false → IsEntry (new_entry id y.name y.started roots)
  entry_fits sized id is_id roots are acts = its_entry_fits a.v a.cells a.seats a.together.stands a.j a.s a.there stands k.o k.open_one k.free k.reply k.commits acts
      (λ bytes. ap (λ (h : List ℕ → List ℕ). length (h bytes)) a.serves.hash ∙ sized a.h bytes)
      id y.name y.started roots (ap is_tx_id (is_id a.h k.o k.run.context) ∙ k.run.id) a.sits.formed a.sits.moment (roots_so roots are)

  script_is : map line_of k.r.script.items ++ last_at y.point y.text ≡ script_so_far a.sits.x k.o
  script_is = ap₂ (λ (ls ms : List Line). ls ++ ms)
      (sym (script_so digest a.h y a.s a.sits stage k.at k.unsaid_yet k.r k.running k.o k.open_one k.free))
      (sym k.lines ∙ ap lines_at (sym stands.place))

  module _ (d : HashedCell) (n : ℕ) (it : CommitsIt digest y k.r c d n) where
    cell_is : d.cell ≡ with_item (entry_of_trees a.v k.o x.transcript.session y.started) (Tx k.o.id x.transcript.session y.started k.o.explicit (script_so_far x k.o)) c.cell
    cell_is = it.cell ∙ (λ i. with_item
        (record { id = id i; block = 0; ordinal = 0; time = y.started; principal = sym a.sits.name i; roots = roots_so it.roots it.are_roots i })
        (Tx (id i) (sym a.sits.name i) y.started (k.run.explicit i) (script_is i)) c.cell)
      where
        id : it.id ≡ k.o.id
        id = it.is_id a.h k.o k.run.context

    abbrev then_one : OpenTransaction
    then_one = ending (committed (tx_count c.cell.items + 1)) (script_so_far x k.o) k.o

    abbrev then_session : Session
    then_session = at_moment y.started (at_place (Some then_one) (inside y.text (answering k.reply None)) x)

    abbrev then_state : SeatState
    then_state = marking (tx_count c.cell.items + 1) (sits a.s then_session)

    abbrev then_running : ℕ → Running H
    then_running id = with_end (committed_at n id) k.r

    plain_said : (ls : List Line) → Each IsPlainAnonymousAct (map did (map says ls))
    plain_said [] = tt
    plain_said (l ∷ ls) = (tt, plain_said ls)

    pending_is : pending_in d.cell ≡ pending_in c.cell + 1
    pending_is = ap (λ (l : LedgerCell). pending_in l) it.cell ∙ length-append c.cell.chain.pending
        (placed_entry (length c.cell.chain.blocks) (length c.cell.chain.pending) (new_entry it.id y.name y.started it.roots) ∷ [])

    commit_visit : (id : ℕ) → IsIdOf digest id k.r → IsVisit digest y (ledger_seen c) a (ledger_seen d) (moved y (Some (then_running id)) (Inside (unsaid k.reply)))
    commit_visit id is_id = visits_once digest y (ledger_seen c) a (ledger_seen d) (moved y (Some (then_running id)) (Inside (unsaid k.reply)))
        then_state (commit y.started)
        (λ out. record { stands = stands; o = k.o; open_one = k.open_one; unfixed = k.free; reply = k.reply; commits = k.commits; acts = it.acts a.h k.o k.run.context differ; cell = cell_is; seat = refl })
        (λ out. told.committed (map did (map says (lines_at x.place))) [] y.started (tx_count c.cell.items + 1) (plain_said (lines_at x.place)) tt
        (map-append did (map says (lines_at x.place)) (act.commits y.started (tx_count c.cell.items + 1) ∷ [])) pending_is)
        (sits_then digest a.h y a.s a.sits then_state then_session y.started y.text y.stmt (Some (then_running id)) (Inside (unsaid k.reply))
        refl refl refl a.sits.moment refl a.sits.reads
        (running_fixed digest a.h k.r k.o k.run k.free (Committed id n) (committed (tx_count c.cell.items + 1)) (script_so_far x k.o) (is_id a.h k.o k.run.context, it.place))
        (λ f. cc) (λ e. absurd cc) ((λ f. refl), (λ own. refl)))
        (y.started ∷ []) (refl, tt) adds
        (it.hash ∙ a.keeps ∙ ap (λ (l : LedgerCell). last_hash (digest a.h) no_hash l.chain.blocks) (sym it.cell))
      where
        adds : Adds a.s [] [] (y.started ∷ []) then_state
        adds = record {
          x = x;
          y = then_session;
          before = a.sits.role;
          after = refl;
          session = refl;
          entries = sym (append-nil x.transcript.entries);
          images = sym (append-nil x.images);
          moments = refl;
          earlier = refl;
          written = refl;
        }

    commit_fewer : (id : ℕ) → visits_left (moved y (Some (then_running id)) (Inside (unsaid k.reply))) < visits_left y
    commit_fewer id = subst₂ (λ (m n : ℕ). m < n) (sym (by k.r.explicit)) (sym (ap₂ (λ (p : ControlPoint) (q : Option (Running H)). point_visits p q) k.at k.running ∙ k.count)) (omega arith)
      where
        by : (b : Bool) → end_visits b (Some (committed_at n id)) k.r.visited.left ≡ length k.r.visited.left
        by true = refl
        by false = refl

-- ---- without a commit

module _ {H : Type 0} (digest : H → List ℕ → List ℕ) (y : Seat H) (c : HashedCell) (a : Among digest y (ledger_seen c)) where
  -- it left no event
  quiet_opened : (k : MayCommit digest y c a Committing) → is_read_only k.o ≡ true → EndsHere digest y c a (Inside (unsaid reply.NoOutput))
  quiet_opened k quiet = record {
    r = k.r;
    running = k.running;
    o = k.o;
    open_one = k.open_one;
    run = k.run;
    free = k.free;
    back = false;
    script = k.o.script;
    ends = commits_nothing y.text explicit (placed digest a.h y a.s a.sits (Inside Committing) k.at) (reads_it digest a.h y a.s a.sits a.v a.serves st.0 st.1 ∙ ap (λ (s : Stmt). Some s) st.2) quiet;
    may = may_answer y k.r k.o (record { reply = reply.NoOutput; said = false; def = None }) refl (many digest y c a (Inside Committing) k.at k.r k.running (length k.r.visited.left) (omega arith))
        (stays_inside digest y c a Committing k.at (unsaid reply.NoOutput));
  }
    where
      here : OfOpen IsExplicit a.sits.x.open_one × OfStmt (λ s. s ≡ stmt.Commit) y.stmt
      here = staged digest a.h y a.s a.sits Committing k.at y.stmt refl a.sits.x.open_one refl

      explicit : k.o.explicit ≡ true
      explicit = (subst (OfOpen IsExplicit) k.open_one here.0).1

      st : (st : Stmt) × (y.stmt ≡ Some st) × (st ≡ stmt.Commit)
      st = stmt_found (λ s. s ≡ stmt.Commit) y.stmt here.1

  is_own : (r : Reply) (k : MayCommit digest y c a (Replied r)) → k.o.explicit ≡ false
  is_own r k = (subst (OfOpen IsOwn) k.open_one (holds_at_point digest a.h y a.s a.sits (Inside (Replied r)) k.at).0).1

  own_ends : (r : Reply) (k : MayCommit digest y c a (Replied r)) (script : List Line) (answer : Reply) → Ends a.v a.sits.x k.o false script (inside y.text (answering answer None))
      → EndsHere digest y c a (Inside (unsaid answer))
  own_ends r k script answer ends = record {
    r = k.r;
    running = k.running;
    o = k.o;
    open_one = k.open_one;
    run = k.run;
    free = k.free;
    back = false;
    script = script;
    ends = ends;
    may = may_answer y k.r k.o (record { reply = answer; said = false; def = None }) refl (many digest y c a (Inside (Replied r)) k.at k.r k.running (length k.r.visited.left) (omega arith))
        (stays_inside digest y c a (Replied r) k.at (unsaid answer));
  }

  made_ends : (def : TableDef) → y.point ≡ Inside (Made def true) → EndsHere digest y c a (Inside (without_index def))
  made_ends def at = index_here digest y c a (Made def true) def true at (holds_at_point digest a.h y a.s a.sits (Inside (Made def true)) at).0 refl (λ r. omega arith)

  quiet_here : (stage : Stage) → stage_work stage ≡ work.Commit → (k : MayCommit digest y c a stage) → is_read_only k.o ≡ true → EndsHere digest y c a (Inside (ended_stage stage))
  quiet_here Begun e k quiet = cc
  quiet_here (AssigningId explicit) e k quiet = cc
  quiet_here Committing e k quiet = quiet_opened k quiet
  quiet_here RollingBack e k quiet = cc
  quiet_here Issuing e k quiet = cc
  quiet_here Keeping e k quiet = cc
  quiet_here Looking e k quiet = cc
  quiet_here (Found def part fresh) e k quiet = cc
  quiet_here (Made def true) e k quiet = made_ends def k.at
  quiet_here (Made def false) e k quiet = absurd (not_made digest y c a def k.at)
  quiet_here (LacksIndex def) e k quiet = cc
  quiet_here (GoingBack seq passed) e k quiet = cc
  quiet_here (Replied r) e k quiet = own_ends r k (script_so_far a.sits.x k.o) r
      (did_nothing y.text r (is_own r k) (placed digest a.h y a.s a.sits (Inside (Replied r)) k.at) quiet)
  quiet_here (GivingBack r) e k quiet = cc
  quiet_here (Answered b) e k quiet = cc

  -- one of a statement's own, without memory
  lacks_here : (stage : Stage) → stage_work stage ≡ work.Commit → (k : MayCommit digest y c a stage) → k.o.explicit ≡ false → EndsHere digest y c a (Inside (lacking_stage stage))
  lacks_here Begun e k own = cc
  lacks_here (AssigningId explicit) e k own = cc
  lacks_here Committing e k own = absurd (let here = (subst (OfOpen IsExplicit) k.open_one (holds_at_point digest a.h y a.s a.sits (Inside Committing) k.at).0).1 in let no : true ≡ false = sym here ∙ own in cc)
  lacks_here RollingBack e k own = cc
  lacks_here Issuing e k own = cc
  lacks_here Keeping e k own = cc
  lacks_here Looking e k own = cc
  lacks_here (Found def part fresh) e k own = cc
  lacks_here (Made def true) e k own = made_ends def k.at
  lacks_here (Made def false) e k own = absurd (not_made digest y c a def k.at)
  lacks_here (LacksIndex def) e k own = cc
  lacks_here (GoingBack seq passed) e k own = cc
  lacks_here (Replied r) e k own = own_ends r k k.o.script (reply.Refused NoMemory) (lacks_memory y.text r own (placed digest a.h y a.s a.sits (Inside (Replied r)) k.at))
  lacks_here (GivingBack r) e k own = cc
  lacks_here (Answered b) e k own = cc

  -- one that BEGIN opened stands in COMMIT
  opened_commits : (stage : Stage) → stage_work stage ≡ work.Commit → (k : MayCommit digest y c a stage) → k.o.explicit ≡ true → stage ≡ Committing
  opened_commits Begun e k explicit = cc
  opened_commits (AssigningId b) e k explicit = cc
  opened_commits Committing e k explicit = refl
  opened_commits RollingBack e k explicit = cc
  opened_commits Issuing e k explicit = cc
  opened_commits Keeping e k explicit = cc
  opened_commits Looking e k explicit = cc
  opened_commits (Found def part fresh) e k explicit = cc
  opened_commits (Made def indexed) e k explicit = absurd (let own = (subst (OfOpen IsOwn) k.open_one (holds_at_point digest a.h y a.s a.sits (Inside (Made def indexed)) k.at).0).1 in let no : true ≡ false = sym explicit ∙ own in cc)
  opened_commits (LacksIndex def) e k explicit = cc
  opened_commits (GoingBack seq passed) e k explicit = cc
  opened_commits (Replied r) e k explicit = absurd (let own = is_own r k in let no : true ≡ false = sym explicit ∙ own in cc)
  opened_commits (GivingBack r) e k explicit = cc
  opened_commits (Answered b) e k explicit = cc

-- ---- the visits

module _ {H : Type 0} (digest : H → List ℕ → List ℕ) (y z : Seat H) (c d : HashedCell) (is : work_of y.point ≡ work.Commit) where
  abbrev stage : Stage
  stage = (stage_found y.point is).0

  abbrev at : y.point ≡ Inside stage
  at = (stage_found y.point is).1

  abbrev may : (a : Among digest y (ledger_seen c)) → MayCommit digest y c a stage
  may a = commits_stage digest y c a stage at (stage_found y.point is).2

  point_is : (f : Stage → Stage) → inside_with f y.point ≡ Inside (f stage)
  point_is f = ap (inside_with f) at

  -- it was committed at this place
  pub commits : (n : ℕ) → moves.Commits digest y y.running c d n → HasCommitted digest n y z → Among digest y (ledger_seen c) → VisitsOn digest y (ledger_seen c) (ledger_seen d) z
  commits n commits_it has a = record {
    visits = λ b. subst (IsVisit digest y (ledger_seen c) b (ledger_seen d)) (sym (seat_is b)) (commit_visit digest y c b stage (may b) d n (it b) (by b).0 (by b).1);
    comes_on = inl (subst (λ (u : Seat H). visits_left u < visits_left y) (sym (seat_is a)) (commit_fewer digest y c a stage (may a) d n (it a) (by a).0));
    stays = subst (KeepsStatement y) (sym (seat_is a)) (record { point = stays_inside digest y c a stage at (unsaid (may a).reply); begun = λ b. absurd b; started = refl; name = refl; text = refl });
  }
    where
      it : (b : Among digest y (ledger_seen c)) → CommitsIt digest y (may b).r c d n
      it b = subst (λ (q : Option (Running H)). moves.Commits digest y q c d n) (may b).running commits_it

      by : (b : Among digest y (ledger_seen c)) → (id : ℕ) × IsIdOf digest id (may b).r × (has.running ≡ Some (with_end (committed_at n id) (may b).r))
      by b = subst (λ (q : Option (Running H)). AreFixed digest (committed_at n) q has.running) (may b).running has.fixed

      seat_is : (b : Among digest y (ledger_seen c)) → z ≡ moved y (Some (with_end (committed_at n (by b).0) (may b).r)) (Inside (unsaid (may b).reply))
      seat_is b = has.seat ∙ ap₂ (λ (q : Option (Running H)) (p : ControlPoint). moved y q p) (by b).2 (point_is committed_stage ∙ ap (λ (s : Stage). Inside s) (may b).then_stage)

  -- it left no event
  pub ends_quiet : IsLeftNothing digest y.running → HasEnded digest (tx_count c.cell.items) y z → Among digest y (ledger_seen c) → VisitsOn digest y (ledger_seen c) (ledger_seen c) z
  ends_quiet nothing has a = ends_by digest y z c (Inside (ended_stage stage)) (λ b. quiet_here digest y c b stage (stage_found y.point is).2 (may b) (quiet b))
      has.running has.fixed (has.seat ∙ ap (moved y has.running) (point_is ended_stage)) a
    where
      quiet : (b : Among digest y (ledger_seen c)) → is_read_only (may b).o ≡ true
      quiet b = (subst (IsLeftNothing digest) (may b).running nothing) b.h (may b).o (may b).run.context (differ digest y c b stage (may b))

  -- there is no memory for the commit
  pub lacks : HasLacked digest (tx_count c.cell.items) y z → Among digest y (ledger_seen c) → VisitsOn digest y (ledger_seen c) (ledger_seen c) z
  lacks has a = by (may a).r.explicit refl
    where
      fixed : (b : Among digest y (ledger_seen c)) → IsOwnFixed digest (ended_after (tx_count c.cell.items)) (may b).r.explicit (may b).r has.running
      fixed b = subst (λ (q : Option (Running H)). AreOwnFixed digest (ended_after (tx_count c.cell.items)) q has.running) (may b).running has.fixed

      some_is : (q r : Running H) → Some q ≡ Some r → q ≡ r
      some_is q r e = cc

      same : (b : Among digest y (ledger_seen c)) → (may b).r ≡ (may a).r
      same b = some_is (may b).r (may a).r (sym (may b).running ∙ (may a).running)

      by : (explicit : Bool) → (may a).r.explicit ≡ explicit → VisitsOn digest y (ledger_seen c) (ledger_seen c) z
      by false e = ends_by digest y z c (Inside (lacking_stage stage)) (λ b. lacks_here digest y c b stage (stage_found y.point is).2 (may b)
          (sym (may b).run.explicit ∙ ap (λ (r : Running H). r.explicit) (same b) ∙ e))
          has.running
          (subst (λ (q : Option (Running H)). AreFixed digest (ended_after (tx_count c.cell.items)) q has.running) (sym (may a).running)
          (subst (λ (explicit : Bool). IsOwnFixed digest (ended_after (tx_count c.cell.items)) explicit (may a).r has.running) e (fixed a)))
          (has.seat ∙ ap (moved y has.running) (point_is lacking_stage)) a
      by true e = subst (VisitsOn digest y (ledger_seen c) (ledger_seen c)) (sym seat_is) (record {
        visits = visits_alone digest y (ledger_seen c) (moved y y.running (Inside (unsaid (reply.Refused NoMemory)))) (lacks_at digest y Committing here (λ left. refl) refl free_there);
        comes_on = inl (subst₂ (λ (p : ControlPoint) (q : Option (Running H)). answer_visits q < point_visits p q) (sym here) (sym (may a).running)
            (subst₂ (λ (explicit : Bool) (l : Option EndLine). end_visits explicit l (may a).r.visited.left < length (may a).r.visited.left + 2) (sym e)
            (sym (free_end (may a).o.id (may a).r.end (may a).o.end (may a).run.end (may a).free)) (omega arith)));
        stays = record { point = subst (λ (p : ControlPoint). IsSamePhase p (Inside (unsaid (reply.Refused NoMemory)))) (sym here) tt; begun = λ b. absurd b; started = refl; name = refl; text = refl };
      })
        where
          committing : stage ≡ Committing
          committing = opened_commits digest y c a stage (stage_found y.point is).2 (may a) (sym (may a).run.explicit ∙ e)

          here : y.point ≡ Inside Committing
          here = at ∙ ap (λ (s : Stage). Inside s) committing

          kept : has.running ≡ y.running
          kept = subst (λ (explicit : Bool). IsOwnFixed digest (ended_after (tx_count c.cell.items)) explicit (may a).r has.running) e (fixed a) ∙ sym (may a).running

          seat_is : z ≡ moved y y.running (Inside (unsaid (reply.Refused NoMemory)))
          seat_is = has.seat ∙ ap₂ (λ (q : Option (Running H)) (p : ControlPoint). moved y q p) kept (ap (inside_with lacking_stage) here)

          free_there : (o : Option OpenTransaction) → IsStage Committing y.stmt o y.images → IsUnfixed o
          free_there None k = tt
          free_there (Some o) k = k.0.0

  -- ---- in the form of the contracts

  pub quiet_ends : (n : ℕ) → n ≡ tx_count d.cell.items → IsLeftNothing digest y.running × (d ≡ c) → HasEnded digest n y z → Among digest y (ledger_seen c)
      → VisitsOn digest y (ledger_seen c) (ledger_seen d) z
  quiet_ends n is_point nothing has a = subst (λ (k : HashedCell). VisitsOn digest y (ledger_seen c) (ledger_seen k) z) (sym nothing.1)
      (ends_quiet nothing.0 (subst (λ (m : ℕ). HasEnded digest m y z) (is_point ∙ ap (λ (k : HashedCell). tx_count k.cell.items) nothing.1) has) a)

  pub lacks_commit : (n : ℕ) → n ≡ tx_count d.cell.items → d ≡ c → HasLacked digest n y z → Among digest y (ledger_seen c) → VisitsOn digest y (ledger_seen c) (ledger_seen d) z
  lacks_commit n is_point same has a = subst (λ (k : HashedCell). VisitsOn digest y (ledger_seen c) (ledger_seen k) z) (sym same)
      (lacks (subst (λ (m : ℕ). HasLacked digest m y z) (is_point ∙ ap (λ (k : HashedCell). tx_count k.cell.items) same) has) a)

-- its entry has a spelling
pub spelled : {H : Type 0} (digest : H → List ℕ → List ℕ) (y : Seat H) (c : HashedCell) → ((h : H) (bytes : List ℕ) → length (digest h bytes) ≡ 32) → work_of y.point ≡ work.Commit
    → Among digest y (ledger_seen c) → (r : Running H) → y.running ≡ Some r → (id : ℕ) → IsIdOf digest id r → (roots : List Root)
    → ((h : H) (o : OpenTransaction) → Represents digest h r.context o → Differ (map (λ t. t.table) o.trees) → roots ≡ roots_of_trees (digest h) o.trees)
    → ((h : H) (o : OpenTransaction) → Represents digest h r.context o → Differ (map (λ t. t.table) o.trees) → is_read_only o ≡ false) → IsEntry (new_entry id y.name y.started roots)
spelled {H} digest y c sized is a r there id is_id roots are acts = entry_fits digest y c a stage k sized id (subst (IsIdOf digest id) same is_id) roots
    (subst (λ (q : Running H). (h : H) (o : OpenTransaction) → Represents digest h q.context o → Differ (map (λ t. t.table) o.trees) → roots ≡ roots_of_trees (digest h) o.trees) same are)
    (subst (λ (q : Running H). (h : H) (o : OpenTransaction) → Represents digest h q.context o → Differ (map (λ t. t.table) o.trees) → is_read_only o ≡ false) same acts a.h k.o k.run.context (differ digest y c a stage k))
  where
    stage : Stage
    stage = (stage_found y.point is).0

    k : MayCommit digest y c a stage
    k = commits_stage digest y c a stage (stage_found y.point is).1 (stage_found y.point is).2

    some_is : (q p : Running H) → Some q ≡ Some p → q ≡ p
    some_is q p e = cc

    same : r ≡ k.r
    same = some_is r k.r (sym there ∙ k.running)
