-- Steps of a seat alone at which a statement is said: refused ones, and savepoints.
use Rattle.std.proofs.Common.{◌≡◌, ℕ, suc, ◌<◌, Bool, true, false, List, [], ◌∷◌, ◌++◌, length, Option, Some, None, slice_set, refl, sym, ap, ◌∙◌, subst, arith}
use Rattle.std.specs.Prelude.{◌==◌, if◌then◌else◌}
use Rattle.std.specs.Str.{bytes_eq}
use mathlib.Core.Option.{some}
use lib.ListN.{get_elem?}
use Rattle.sql_value.specs.declared.refusal.Refusal.{Refusal}
use Rattle.sql_value.specs.declared.refusal.Refusal.TheVariants.{NoSuchSavepoint, LimitExceeded}
use Rattle.sql_types.specs.declared.reply.Reply.{Reply}
use Rattle.sql_types.specs.declared.reply.Reply.TheVariants as reply
use Rattle.sql_types.specs.declared.statement.Stmt.{Stmt}
use Rattle.sql_types.specs.declared.statement.Stmt.TheVariants as stmt
use Rattle.sql_types.specs.declared.lock.LockRequest.{LockRequest}
use Rattle.spec_model.specs.Agreement.{LockRequests}
use Rattle.spec_model.specs.Catalog.{Defs, defs_of}
use Rattle.spec_model.specs.Limits.{max_savepoints}
use Rattle.spec_model.specs.Locks.{cell_requests}
use Rattle.spec_model.specs.Replies.{reply_text}
use Rattle.spec_model.specs.Script.{Saved, State, back_to, by_statement}
use Rattle.spec_model.specs.ScriptRequests.{text_requests}
use Rattle.spec_history.specs.Lists.{Text, Each}
use Rattle.spec_history.specs.Transcripts.{Kind, to_savepoint, kind_of}
use Rattle.spec_history.specs.Facts.{said, facts_inside}
use Rattle.spec_history.specs.Transactions.{unfixed}
use Rattle.spec_protocol.specs.Server.{Server}
use Rattle.spec_protocol.specs.Cells.{Cell, catalog_at}
use Rattle.spec_protocol.specs.Contents.{contents, known}
use Rattle.spec_protocol.specs.Answering.{refused_inside, savepoints_from}
use Rattle.spec_protocol.specs.TranscriptsSoFar.{is_begin, image_in, ProgressOpened, shown_inside}
use Rattle.spec_protocol.specs.Doing.{stage_after, done, with_line}
use Rattle.spec_protocol.specs.Moves.{saying, with_undo_state, at_place, sits, InStatement, then_at}
use Rattle.spec_protocol.specs.Seats.{OpenSavepoint, OpenTransaction, begun, answering, inside, Session, session, SeatState}
use Rattle.spec_protocol.specs.StandTogether.{History, Stands, StandsAfter}
use Rattle.spec_protocol.specs.TreesAreOfEvents.{AreOpenSavepoints}
use Rattle.spec_protocol.specs.RequestsIn.{of_catalog, of_cell, requests_at, requests_in, Holds}
use Rattle.law_protocol_steps.proofs.TranscriptActs.{GoesFrom}
use Rattle.law_protocol_steps.proofs.TranscriptProgress.{from_at, at_opened, savepoint_fits, refused_fits}
use Rattle.law_protocol_steps.proofs.SaidMore.{X, its_counter, its_trees_there, its_savepoints, said_stands}
use Rattle.law_protocol_steps.proofs.ScriptMore.{step_is, step_refused, with_saved, saves_one, saves_none, back_none}
use Rattle.spec_model.specs.Columns.{fits}
use Rattle.law_protocol_steps.proofs.AloneTurns.{kept}
use Rattle.spec_history.specs.Worlds.{step, tables}
use Rattle.spec_history.specs.Acts.{says}

-- ---- what wants nothing

pub none_requested : (P : LockRequest → Type 0) (i : ℕ) (w : LockRequests) → w.catalog ≡ None → w.cell ≡ None → Each P (requests_at i w)
none_requested P i w a b = subst (Each P) (sym (λ n. (if i == catalog_at then of_catalog (a n) else []) ++ of_cell i (b n))) (by_case (i == catalog_at))
  where
    by_case : (z : Bool) → Each P ((if z then [] else []) ++ [])
    by_case true = tt
    by_case false = tt

refused_requests : (defs : Defs) (o : Option Stmt) (e : Refusal) → refused_inside o ≡ Some e → ((text_requests defs true o).catalog ≡ None) × ((text_requests defs true o).cell ≡ None)
unfolding cell_requests
refused_requests defs None e f = (refl, refl)
refused_requests defs (Some (stmt.Create c)) e f = (refl, refl)
refused_requests defs (Some (stmt.Index c)) e f = (refl, refl)
refused_requests defs (Some (stmt.Alter a)) e f = (refl, refl)
refused_requests defs (Some (stmt.Drop name)) e f = (refl, refl)
refused_requests defs (Some stmt.Begin) e f = (refl, refl)
refused_requests defs (Some stmt.Digest) e f = (refl, refl)
refused_requests defs (Some stmt.Image) e f = (refl, refl)
refused_requests defs (Some (stmt.Change c)) e f = cc
refused_requests defs (Some (stmt.Select c)) e f = cc
refused_requests defs (Some stmt.Commit) e f = cc
refused_requests defs (Some (stmt.Save name)) e f = cc
refused_requests defs (Some (stmt.Rollback name)) e f = cc

pub save_requests : (defs : Defs) (explicit : Bool) (name : List ℕ) → ((text_requests defs explicit (Some (stmt.Save name))).catalog ≡ None) × ((text_requests defs explicit (Some (stmt.Save name))).cell ≡ None)
unfolding cell_requests
save_requests defs true name = (refl, refl)
save_requests defs false name = (refl, refl)

pub back_requests : (defs : Defs) (explicit : Bool) (name : Option (List ℕ)) → ((text_requests defs explicit (Some (stmt.Rollback name))).catalog ≡ None) × ((text_requests defs explicit (Some (stmt.Rollback name))).cell ≡ None)
unfolding cell_requests
back_requests defs true name = (refl, refl)
back_requests defs false name = (refl, refl)

-- ---- frames

pub as_many : (v : Server) (id : ℕ) (fs : List OpenSavepoint) (ks : List Saved) → AreOpenSavepoints id fs ks → length fs ≡ length ks
as_many v id [] [] h = refl
as_many v id (f ∷ fs) (k ∷ ks) h = ap suc (as_many v id fs ks h.1)
as_many v id [] (k ∷ ks) h = absurd h
as_many v id (f ∷ fs) [] h = absurd h

-- the frames from a name on are those of the savepoints
pub same_back : (v : Server) (id : ℕ) (name : List ℕ) (fs : List OpenSavepoint) (ks : List Saved) → AreOpenSavepoints id fs ks → AreOpenSavepoints id (savepoints_from name fs) (back_to ks name)
same_back v id name [] [] h = tt
same_back v id name [] (k ∷ ks) h = absurd h
same_back v id name (f ∷ fs) [] h = absurd h
same_back v id name (f ∷ fs) (k ∷ ks) h = by_name (bytes_eq f.name name) (bytes_eq k.name name) (ap (λ (n : Text). bytes_eq n name) h.0.name) (same_back v id name fs ks h.1)
  where
    by_name : (a b : Bool) → a ≡ b → AreOpenSavepoints id (savepoints_from name fs) (back_to ks name) → AreOpenSavepoints id (if a then f ∷ fs else savepoints_from name fs) (if b then k ∷ ks else back_to ks name)
    by_name true true e r = h
    by_name false false e r = r
    by_name true false e r = cc
    by_name false true e r = cc

no_back : (v : Server) (id : ℕ) (fs : List OpenSavepoint) (ks : List Saved) → AreOpenSavepoints id fs ks → fs ≡ [] → ks ≡ []
no_back v id [] [] h e = refl
no_back v id [] (k ∷ ks) h e = absurd h
no_back v id (f ∷ fs) ks h e = cc

-- ---- done, in a transaction that BEGIN opened

pub done_is : (v : Server) (s : SeatState) (p : InStatement v s) (o : OpenTransaction) (r : Reply) → o.explicit ≡ true → done s p o r ≡ then_at s p (Some (saying (p.text, reply_text r) o)) (answering r None)
done_is v s p o r e = λ i. then_at s p (Some (record { id = o.id; explicit = o.explicit; script = with_line (e i) (p.text, reply_text r) o.script; seq = o.seq; trees = o.trees; open_savepoints = o.open_savepoints; end = o.end; visited = o.visited; released = o.released })) (stage_after (e i) r)

module _ (v : Server) (cells : List Cell) (seats : List SeatState) {history : History} (st : Stands v history cells seats) (j : ℕ) (s : SeatState) (there : get_elem? seats j ≡ some s) (x : Session) (role : s.role ≡ session x)
    (o : OpenTransaction) (one : x.open_one ≡ Some o) (open_end : o.end ≡ unfixed) (explicit : o.explicit ≡ true) (text : Text) (at : x.place ≡ inside text begun) where
  abbrev stands_with : OpenTransaction → Reply → Type 0
  stands_with p r = StandsAfter v j history (says (text, reply_text r) ∷ []) cells (slice_set seats j (sits s (at_place (Some p) (inside text (answering r None)) x)))

  abbrev state : State
  state = X v cells seats st j s there x role o one open_end explicit text begun at refl (λ id ws. refl)

  counter : o.seq ≡ state.seq
  counter = its_counter v cells seats st j s there x role o one open_end explicit text begun at refl (λ id ws. refl)

  open_savepoints : AreOpenSavepoints o.id o.open_savepoints state.saved
  open_savepoints = its_savepoints v cells seats st j s there x role o one open_end explicit text begun at refl (λ id ws. refl)

  abbrev wanted : Option Stmt → ℕ → Type 0
  wanted d i = Each (Holds ((contents cells).holds i) o.id) (requests_at i (text_requests (defs_of (known v.reads st.ledger.items).tables) o.explicit d))

  goes : (p : OpenTransaction) (r : Reply) → p.id ≡ o.id → p.explicit ≡ true → p.end ≡ unfixed → shown_inside v.meaning (kind_of (v.meaning.reads text)) text (answering r None) ≡ said (text, v.meaning.writes r) ∷ [] → is_begin (answering r None) ≡ false → image_in (answering r None) ≡ 0
      → ((n : ℕ) → ProgressOpened v.meaning n text o.id unfixed (answering r None)) → GoesFrom v.meaning x (at_place (Some p) (inside text (answering r None)) x) (said (text, reply_text r) ∷ [])
  goes p r a b c shows not_begin no_image fits = from_at v.meaning x _ (inside text begun) (Some o) (said (text, reply_text r) ∷ []) at one refl
      (λ n i f. at_opened v.meaning n text o p begun (answering r None) (said (text, reply_text r) ∷ []) explicit open_end a b c refl refl refl (shows ∙ ap (λ w. said (text, w) ∷ []) (v.real.writes r)) not_begin no_image (fits n))

  -- ---- a statement that is refused there

  pub refused_there : (e : Refusal) → refused_inside (v.reads text) ≡ Some e → stands_with (saying (text, reply_text (reply.Refused e)) o) (reply.Refused e)
  refused_there e f = let r : Reply = reply.Refused e in
      said_stands v cells seats st j s there x role o one open_end explicit text begun at refl (λ id ws. refl) explicit r state
      (step_is v.reads o.explicit o.id state text ∙ (λ i. by_statement (explicit i) o.id state (v.reads text)) ∙ step_refused o.id state (v.reads text) e f)
      (λ i. let w = refused_requests (defs_of (known v.reads st.ledger.items).tables) (v.reads text) e f in
      subst (λ b. Each (Holds ((contents cells).holds i) o.id) (requests_at i (text_requests (defs_of (known v.reads st.ledger.items).tables) b (v.reads text)))) (sym explicit) (none_requested (Holds ((contents cells).holds i) o.id) i (text_requests (defs_of (known v.reads st.ledger.items).tables) true (v.reads text)) w.0 w.1))
      (saying (text, reply_text r) o) refl refl refl refl refl refl refl counter refl open_savepoints refl tt
      (goes (saying (text, reply_text r) o) r refl explicit open_end (refused_fits v.meaning 0 o.id text (v.reads text) e f (ap kind_of (v.real.reading text))).1 refl refl (λ n. (refused_fits v.meaning n o.id text (v.reads text) e f (ap kind_of (v.real.reading text))).0))

  -- ---- savepoints

  module _ (d : Stmt) (is : v.reads text ≡ Some d) (kind : kind_of (Some d) ≡ to_savepoint) (requests : (defs : Defs) (b : Bool) → ((text_requests defs b (Some d)).catalog ≡ None) × ((text_requests defs b (Some d)).cell ≡ None)) where
    kind_is : kind_of (v.meaning.reads text) ≡ to_savepoint
    kind_is = ap kind_of (v.real.reading text ∙ is) ∙ kind

    requests_none : (i : ℕ) → Each (Holds ((contents cells).holds i) o.id) (requests_in v (defs_of (known v.reads st.ledger.items).tables) o.explicit i text)
    requests_none i = let w = requests (defs_of (known v.reads st.ledger.items).tables) o.explicit in subst (λ z. wanted z i) (sym is) (none_requested (Holds ((contents cells).holds i) o.id) i _ w.0 w.1)

    at_savepoint : (r : Reply) (then_state : State) (p : OpenTransaction) → by_statement true o.id state (Some d) ≡ (then_state, r) → then_state.tables ≡ state.tables → p.id ≡ o.id → p.explicit ≡ o.explicit → p.visited ≡ o.visited → p.released ≡ o.released → p.end ≡ o.end → p.script ≡ o.script ++ (text, reply_text r) ∷ []
        → p.seq ≡ then_state.seq → p.seq ≡ o.seq → p.trees ≡ o.trees → AreOpenSavepoints o.id p.open_savepoints then_state.saved → facts_inside v.meaning to_savepoint text r None ≡ said (text, v.meaning.writes r) ∷ []
        → shown_inside v.meaning to_savepoint text (answering r None) ≡ facts_inside v.meaning to_savepoint text r None → is_begin (answering r None) ≡ false → image_in (answering r None) ≡ 0
        → ((n : ℕ) → ProgressOpened v.meaning n text o.id unfixed (answering r None)) → stands_with p r
    at_savepoint r then_state p step tables a b c g e f seq same_seq trees kept shows same not_begin no_image fits =
        said_stands v cells seats st j s there x role o one open_end explicit text begun at refl (λ id ws. refl) explicit r then_state
        (step_is v.reads o.explicit o.id state text ∙ (λ i. by_statement (explicit i) o.id state (is i)) ∙ step) requests_none p a b c g e f tables seq trees kept same_seq tt
        (goes p r a (b ∙ explicit) (e ∙ open_end) (ap (λ (k : Kind). shown_inside v.meaning k text (answering r None)) kind_is ∙ same ∙ shows) not_begin no_image fits)

  abbrev open_savepoint : Text → OpenSavepoint
  open_savepoint name = record { name = name; seq = o.seq; trees = o.trees }

  pub saved : (name : Text) → v.reads text ≡ Some (stmt.Save name) → length o.open_savepoints < max_savepoints → stands_with (saying (text, reply_text reply.Saved) (with_undo_state o.seq o.trees (open_savepoint name ∷ o.open_savepoints) o)) reply.Saved
  saved name is few = at_savepoint (stmt.Save name) is refl (λ defs b. save_requests defs b name) reply.Saved (with_saved state name) _
      (saves_one state name (let e = as_many v o.id o.open_savepoints state.saved open_savepoints in omega arith)) refl refl refl refl refl refl refl counter refl refl
      (record { name = refl; counter = counter; trees = its_trees_there v cells seats st j s there x role o one open_end explicit text begun at refl (λ id ws. refl) }, open_savepoints)
      refl refl refl refl (λ n. savepoint_fits v.meaning n text o.id reply.Saved (ap kind_of (v.real.reading text ∙ is)) (record { not_syntax_error = λ f. cc; not_no_transaction = λ f. cc; not_already_in = λ f. cc; not_forbidden_in = λ f. cc }))

  pub too_many : (name : Text) → v.reads text ≡ Some (stmt.Save name) → length o.open_savepoints ≡ max_savepoints → stands_with (saying (text, reply_text (reply.Refused LimitExceeded)) o) (reply.Refused LimitExceeded)
  too_many name is so_many = at_savepoint (stmt.Save name) is refl (λ defs b. save_requests defs b name) (reply.Refused LimitExceeded) state _
      (saves_none state name (sym (as_many v o.id o.open_savepoints state.saved open_savepoints) ∙ so_many)) refl refl refl refl refl refl refl counter refl refl open_savepoints
      refl refl refl refl (λ n. savepoint_fits v.meaning n text o.id (reply.Refused LimitExceeded) (ap kind_of (v.real.reading text ∙ is)) (record { not_syntax_error = λ f. cc; not_no_transaction = λ f. cc; not_already_in = λ f. cc; not_forbidden_in = λ f. cc }))

  pub no_savepoint : (name : Text) → v.reads text ≡ Some (stmt.Rollback (Some name)) → savepoints_from name o.open_savepoints ≡ [] → stands_with (saying (text, reply_text (reply.Refused NoSuchSavepoint)) o) (reply.Refused NoSuchSavepoint)
  no_savepoint name is none = at_savepoint (stmt.Rollback (Some name)) is refl (λ defs b. back_requests defs b (Some name)) (reply.Refused NoSuchSavepoint) state _
      (back_none state name (no_back v o.id (savepoints_from name o.open_savepoints) (back_to state.saved name) (same_back v o.id name o.open_savepoints state.saved open_savepoints) none)) refl refl refl refl refl refl refl counter refl refl open_savepoints
      refl refl refl refl (λ n. savepoint_fits v.meaning n text o.id (reply.Refused NoSuchSavepoint) (ap kind_of (v.real.reading text ∙ is)) (record { not_syntax_error = λ f. cc; not_no_transaction = λ f. cc; not_already_in = λ f. cc; not_forbidden_in = λ f. cc }))
