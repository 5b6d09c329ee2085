-- What happens in steps, as a function of the steps: what a history gains, but for the numbers of the
-- sessions.
use Rattle.std.specs.Prelude.{ℕ, ◌+◌, ◌++◌, true, false, List, [], ◌∷◌, map, length, Some}
use Rattle.sql_types.specs.declared.reply.Reply.{Reply}
use Rattle.sql_types.specs.declared.lock.Hold.{Hold}
use Rattle.sql_types.specs.declared.lock.LockRequest.{LockRequest}
use Rattle.sql_types.specs.declared.reply.Reply.TheVariants.{Changed, Refused}
use Rattle.spec_model.specs.Effect.{query_rows}
use Rattle.spec_model.specs.Journals.{tx_count}
use Rattle.sql_types.specs.declared.table.Part.TheVariants.{System}
use Rattle.spec_history.specs.Lists.{Text}
use Rattle.spec_history.specs.Acts.{SessionAct, assigns_id, looks, fails, meets, issues, keeps, lacks, Act, by, closes}
use Rattle.spec_protocol.specs.Server.{Server}
use Rattle.spec_protocol.specs.ActsOf.{alone_acts, closings, commit_acts, done_acts, end_acts, failed_in}
use Rattle.spec_protocol.specs.Alone.{Alones, none, more}
use Rattle.spec_protocol.specs.Cells.{Cell, Catalog, Ledger, Rows, pending_in, versions_in}
use Rattle.spec_protocol.specs.Doing.{Stopped, blocked, no_memory, rows_reply}
use Rattle.spec_protocol.specs.AllowedVisit.{AllowedVisit}
use Rattle.spec_protocol.specs.Seats.{SeatState}
use Rattle.spec_protocol.specs.Steps.{Step, Steps}
use Rattle.spec_protocol.specs.Steps as step
use Rattle.spec_protocol.specs.Visits.{Visit, assign_id, look, read_system, create_table, create_index, alter_table, refuse_create, stop_in_catalog, change, refuse_change, read, stop_in_table, commit, read_point, close, issue, lack_block, keep, Happens}

-- an act of a session, or the closing of a block
pub data AnonymousAct : Type 0 where
  did : SessionAct → AnonymousAct
  closed : (k : ℕ) → AnonymousAct

-- an act of the history, whoever did it
abbrev pub anonymous_act : Act → AnonymousAct
anonymous_act (by session act) = did act
anonymous_act (closes k) = closed k

-- one that a lock or memory stops
abbrev pub stopped_acts : {holds : List Hold} {id : ℕ} {requests : List LockRequest} {r : Reply}
    → Stopped holds id requests r → Text → List SessionAct → List SessionAct
stopped_acts (blocked c first) text fail = meets text c.0.0 ∷ []
stopped_acts no_memory text fail = fail

-- of a session, in a visit that closes no block
abbrev pub visit_acts : (v : Server) (out : List (ℕ × Cell)) (visit : Visit) (c : Cell) (s : SeatState)
    (d : Cell) (t : SeatState) → Happens v out visit c s d t → List SessionAct
visit_acts v out (assign_id explicit) (Ledger c) s (Ledger d) t w = assigns_id c.next explicit ∷ []
visit_acts v out look (Catalog c) s (Catalog d) t w = looks w.at.stands.text false ∷ []
visit_acts v out read_system (Catalog c) s (Catalog d) t w = looks w.at.stands.text false
    ∷ done_acts w.o.explicit w.at.stands.text true
    (rows_reply (query_rows w.q (w.def, System) (versions_in w.def.id (Catalog c))))
visit_acts v out create_table (Catalog c) s (Catalog d) t w = looks w.at.stands.text false ∷ []
visit_acts v out create_index (Catalog c) s (Catalog d) t w = looks w.at.stands.text false ∷ []
visit_acts v out alter_table (Catalog c) s (Catalog d) t w = looks w.at.stands.text false ∷ []
visit_acts v out refuse_create (Catalog c) s (Catalog d) t w = looks w.at.stands.text false ∷ []
visit_acts v out stop_in_catalog (Catalog c) s (Catalog d) t w = stopped_acts w.0.stopped w.0.at.stands.text
    (failed_in v.meaning (Some w.0.o) w.0.at.stands.text)
visit_acts v out change (Rows c) s (Rows d) t w =
    done_acts w.o.explicit w.at.at.stands.text true (Changed w.count)
visit_acts v out refuse_change (Rows c) s (Rows d) t w =
    done_acts w.o.explicit w.at.at.stands.text true (Refused w.refusal)
visit_acts v out read (Rows c) s (Rows d) t w =
    done_acts w.o.explicit w.at.at.stands.text true (rows_reply (query_rows w.q w.named c.versions))
visit_acts v out stop_in_table (Rows c) s (Rows d) t w =
    stopped_acts w.0.stopped w.0.at.at.stands.text (fails w.0.at.at.stands.text ∷ [])
visit_acts v out (commit time) (Ledger c) s (Ledger d) t w =
    commit_acts w.stands.x time (tx_count c.items + 1)
visit_acts v out read_point (Ledger c) s (Ledger d) t w = end_acts w.0.ends (tx_count c.items)
visit_acts v out (issue moment) (Ledger c) s (Ledger d) t w = issues w.digest (tx_count c.items) ∷ []
visit_acts v out lack_block (Ledger c) s (Ledger d) t w = lacks ∷ []
visit_acts v out keep c s d t w = keeps (length w.0.ledger.items) (tx_count w.0.ledger.items) ∷ []
visit_acts v out visit c s d t w = []

-- the blocks that it closes, before its acts
abbrev pub visit_closings : Server → Visit → Cell → List Act
visit_closings v (close k) (Ledger c) = closes k ∷ []
visit_closings v (issue moment) (Ledger c) = closings v (pending_in c) c
visit_closings v visit c = []

abbrev pub visit_anonymous_acts : (v : Server) (out : List (ℕ × Cell)) (visit : Visit) (c : Cell) (s : SeatState)
    (d : Cell) (t : SeatState) → Happens v out visit c s d t → List AnonymousAct
visit_anonymous_acts v out visit c s d t w =
    map anonymous_act (visit_closings v visit c) ++ map did (visit_acts v out visit c s d t w)

abbrev pub alones_acts : {v : Server} {s t : SeatState} → Alones v s t → List SessionAct
alones_acts none = []
alones_acts (more steps last) = alones_acts steps ++ alone_acts last

-- what the seat does by itself before the visit, the visit, and what the seat does by itself after it
abbrev pub may_anonymous_acts : {v : Server} {s : SeatState} {out : List (ℕ × Cell)} {i : ℕ} {c : Cell}
    {t : SeatState} → AllowedVisit v s out i c t → List AnonymousAct
may_anonymous_acts {v} {s} {out} {i} {c} m = map did (alones_acts m.before)
    ++ (visit_anonymous_acts v out m.visit m.old m.begun c m.ended m.happens ++ map did (alones_acts m.after))

abbrev pub step_anonymous_acts : {v : Server} {cells : List Cell} {seats : List SeatState} {then_cells : List Cell}
    {then_seats : List SeatState} → Step v cells seats then_cells then_seats → List AnonymousAct
step_anonymous_acts (step.alone j s t there how a b) = map did (alone_acts how)
step_anonymous_acts (step.visits w) = may_anonymous_acts w.may
step_anonymous_acts (step.splits j n s there a b) = []
step_anonymous_acts (step.joins j k s t there there_k apart ends a b) = []

abbrev pub steps_anonymous_acts : {v : Server} {cells : List Cell} {seats : List SeatState} {then_cells : List Cell}
    {then_seats : List SeatState} → Steps v cells seats then_cells then_seats → List AnonymousAct
steps_anonymous_acts step.none = []
steps_anonymous_acts (step.more steps last) = steps_anonymous_acts steps ++ step_anonymous_acts last
