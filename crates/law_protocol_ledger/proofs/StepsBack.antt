-- A way back to a savepoint begins, and ends.
use Rattle.std.proofs.Common.{◌≡◌, ℕ, ◌≤◌, Bool, true, false, List, [], ◌∷◌, ◌++◌, map, Option, Some, None, slice_set, refl, sym, ap, ◌∙◌, subst, inl, inr, ⊎_elim, append-nil}
use Rattle.std.specs.Prelude.{◌==◌, if◌then◌else◌}
use Rattle.std.specs.List.{list_any, AllByRecursion}
use Rattle.std.specs.Str.{bytes_eq}
use mathlib.Core.Option.{some}
use lib.ListN.{get_elem?}
use Rattle.sql_types.specs.declared.reply.Reply.TheVariants as reply
use Rattle.sql_types.specs.declared.statement.Stmt.TheVariants as stmt
use Rattle.sql_types.specs.declared.version.Version.{Version}
use Rattle.spec_model.specs.Catalog.{Tables, defs_of, versions_of}
use Rattle.spec_model.specs.Journals.{Line}
use Rattle.spec_model.specs.Replies.{reply_text}
use Rattle.spec_model.specs.Script.{Saved, State, back_to, by_statement, script}
use Rattle.spec_model.specs.Touched.{touched}
use Rattle.spec_model.specs.Undo.{versions_undone, undone}
use Rattle.law_frame.proofs.UndoneScripts.{copies_undone}
use Rattle.law_frame.proofs.UndoneWhole.{undone_at}
use Rattle.spec_history.specs.Lists.{Text, Each, In}
use Rattle.spec_history.specs.Transcripts.{Kind, to_savepoint, kind_of}
use Rattle.spec_history.specs.Facts.{said}
use Rattle.spec_history.specs.Transactions.{unfixed}
use Rattle.spec_history.specs.Sessions.{SessionTransaction, SessionState}
use Rattle.spec_history.specs.Worlds.{first, run}
use Rattle.spec_history.proofs.Trace.{each_weaker}
use Rattle.spec_protocol.specs.Server.{Server}
use Rattle.sql_types.specs.declared.lock.Hold.{Hold}
use Rattle.spec_protocol.specs.Cells.{Cell, cell_of}
use Rattle.spec_protocol.specs.Contents.{Contents, Known, contents, known}
use Rattle.spec_protocol.specs.Alone.{tables_visited}
use Rattle.spec_protocol.specs.Answering.{savepoints_from}
use Rattle.spec_protocol.specs.TranscriptsSoFar.{shown_inside, FitsWith, Fits}
use Rattle.spec_protocol.specs.EventsIn.{events_in}
use Rattle.spec_protocol.specs.Moves.{saying, with_undo_state, at_place, sits}
use Rattle.spec_protocol.specs.OpenOnes.{HasOpen, text_at, lines_at, texts_so_far, script_end}
use Rattle.spec_protocol.specs.OpenScripts.{counted}
use Rattle.spec_protocol.specs.Parts.{asking, AreTransactions, IsNow}
use Rattle.spec_protocol.specs.Seats.{OpenSavepoint, OpenTransaction, begun, going_back, answering, SessionStatus, inside, Session, session, SeatState}
use Rattle.spec_protocol.specs.StandTogether.{History, Stands, StandsAfter}
use Rattle.spec_protocol.specs.TreesAreOfEvents.{IsOpenSavepoint, AreOpenSavepoints}
use Rattle.spec_protocol.specs.RequestsIn.{requests_in, Holds}
use Rattle.law_protocol_steps.proofs.AloneTurns.{alone_stands, kept, keeps_turn, StillAt, bare, alone_after}
use Rattle.law_protocol_steps.proofs.AnonymousActs.{plain_acts}
use Rattle.law_protocol_steps.proofs.TranscriptActs.{goes_on}
use Rattle.law_protocol_steps.proofs.TranscriptProgress.{from_at, at_opened, savepoint_fits}
use Rattle.law_protocol_steps.proofs.FreshIds.{events_of_touched, IsNotOf, each_filter_not, made_before, none_of_touched, undone_nothing}
use Rattle.law_protocol_steps.proofs.Heard.{heard_still}
use Rattle.law_protocol_steps.proofs.Ids.{InTransaction, in_transaction}
use Rattle.law_protocol_steps.proofs.OthersScripts.{sound_for}
use Rattle.law_protocol_steps.proofs.SaidMore.{trees_over, X, its_versions, its_savepoints, keeps_said, state_is}
use Rattle.law_protocol_changes.proofs.SaysHistory.{says_act, says_owner}
use Rattle.law_protocol_steps.proofs.ScriptMore.{step_is, back_one}
use Rattle.law_protocol_changes.proofs.StepsSaid.{none_requested, back_requests, same_back}
use Rattle.law_protocol_ledger.proofs.Visited.{touched_undone, nothing_there}
use Rattle.law_protocol_steps.proofs.PlainPlaces.{AddsNone, none_added}
use Rattle.spec_protocol.specs.TablesAreSerial.{IsAdding}
use Rattle.spec_model.specs.Keys.{Key, same_key, version_key}
use Rattle.spec_model.specs.Runs.{MadeBefore}
use Rattle.law_protocol_steps.proofs.Turns.{Owes}
use Rattle.spec_model.specs.Agreement.{columns_at}
use Rattle.spec_protocol.specs.RowsAgree.{key_rows}
use Rattle.spec_model.specs.Reach.{lets_change}
use Rattle.law_frame.proofs.Definitions.{opened_keep_defs}
use Rattle.law_protocol_changes.proofs.ChangedRows.{undone_before, undone_of_key}
use Rattle.law_protocol_steps.proofs.GoesOn.{nothing_added}
use Rattle.spec_history.specs.Acts.{says}

-- the savepoint of a frame
record BackAt (v : Server) (id : ℕ) (f : OpenSavepoint) (fs : List OpenSavepoint) (ks : List Saved) : Type 0 where
  c : Saved
  cs : List Saved
  is : ks ≡ c ∷ cs
  open_savepoint : IsOpenSavepoint id f c
  rest : AreOpenSavepoints id fs cs

back_at : (v : Server) (id : ℕ) (f : OpenSavepoint) (fs : List OpenSavepoint) (ks : List Saved) → AreOpenSavepoints id (f ∷ fs) ks → BackAt v id f fs ks
back_at v id f fs [] h = absurd h
back_at v id f fs (c ∷ cs) h = record { c = c; cs = cs; is = refl; open_savepoint = h.0; rest = h.1 }

all_back : (P : Saved → Type 0) (name : List ℕ) (ks : List Saved) → AllByRecursion P ks → AllByRecursion P (back_to ks name)
all_back P name [] h = tt
all_back P name (k ∷ ks) h = by_name (bytes_eq k.name name) (all_back P name ks h.1)
  where
    by_name : (b : Bool) → AllByRecursion P (back_to ks name) → AllByRecursion P (if b then k ∷ ks else back_to ks name)
    by_name true r = h
    by_name false r = r

module _ (v : Server) (cells : List Cell) (seats : List SeatState) {history : History} (st : Stands v history cells seats) (j : ℕ) (s : SeatState) (there : get_elem? seats j ≡ some s) (x : Session) (role : s.role ≡ session x)
    (o : OpenTransaction) (one : x.open_one ≡ Some o) (open_end : o.end ≡ unfixed) where
  abbrev c : Contents
  c = contents cells

  abbrev k : Known
  k = known v.reads st.ledger.items

  has : HasOpen seats j x o
  has = record { seat = s; there = there; role = role; open_one = one }

  d : InTransaction v.meaning history (st.transcripts_agree.of_seat j) x o
  d = in_transaction v history st.ledger seats st.transcripts_agree j x o has

  -- ---- it begins

  module _ (explicit : o.explicit ≡ true) (text : Text) (at : x.place ≡ inside text begun) (name : Text) (is : v.reads text ≡ Some (stmt.Rollback (Some name))) (f : OpenSavepoint) (fs : List OpenSavepoint) (found : savepoints_from name o.open_savepoints ≡ f ∷ fs) where
    abbrev state : State
    state = X v cells seats st j s there x role o one open_end explicit text begun at refl (λ id ws. refl)

    versions : (id : ℕ) → 1 ≤ id → touched o.id (c.versions id) ≡ touched o.id (versions_of state.tables id)
    versions = its_versions v cells seats st j s there x role o one open_end explicit text begun at refl (λ id ws. refl)

    to : BackAt v o.id f fs (back_to state.saved name)
    to = back_at v o.id f fs (back_to state.saved name) (subst (λ fs. AreOpenSavepoints o.id fs (back_to state.saved name)) found (same_back v o.id name o.open_savepoints state.saved (its_savepoints v cells seats st j s there x role o one open_end explicit text begun at refl (λ id ws. refl))))

    -- the savepoint's tables are what undo by its counter gives
    undo : undone o.id to.c.seq state.tables ≡ to.c.tables
    undo = (subst (AllByRecursion (λ b. undone o.id b.seq state.tables ≡ b.tables)) to.is (all_back (λ b. undone o.id b.seq state.tables ≡ b.tables) name state.saved
        (subst (λ b. AllByRecursion (λ g. undone o.id g.seq (script v.reads b k.tables o.id (map (λ l. l.0) o.script)).state.tables ≡ g.tables) (script v.reads b k.tables o.id (map (λ l. l.0) o.script)).state.saved) (sym explicit)
        (copies_undone v.reads k.tables o.id (map (λ l. l.0) o.script) (sound_for v cells seats st j x o has open_end))))).0

    abbrev p : OpenTransaction
    p = with_undo_state f.seq f.trees (f ∷ fs) o

    abbrev place : SessionStatus
    place = inside text (going_back f.seq (tables_visited o))

    abbrev y : Session
    y = at_place (Some p) place x

    -- what counts is what the savepoint has
    undone_versions : (id : ℕ) → 1 ≤ id → touched o.id (versions_undone o.id f.seq (c.versions id)) ≡ touched o.id (versions_of to.c.tables id)
    undone_versions id l = touched_undone o.id f.seq (c.versions id) ∙ ap (λ (ws : List Version). touched o.id (versions_undone o.id f.seq ws)) (versions id l) ∙ sym (touched_undone o.id f.seq (versions_of state.tables id))
        ∙ ap (λ (n : ℕ). touched o.id (versions_undone o.id n (versions_of state.tables id))) to.open_savepoint.counter ∙ ap (touched o.id) (sym (undone_at o.id to.c.seq state.tables id) ∙ ap (λ (T : Tables). versions_of T id) undo)

    counts : (id : ℕ) → 1 ≤ id → touched o.id (counted o.id id place (c.versions id)) ≡ touched o.id (versions_of to.c.tables id)
    counts id l = by_cell (list_any (λ i. i == cell_of id) (tables_visited o)) refl
      where
        by_cell : (b : Bool) → list_any (λ i. i == cell_of id) (tables_visited o) ≡ b → touched o.id (if b then versions_undone o.id f.seq (c.versions id) else c.versions id) ≡ touched o.id (versions_of to.c.tables id)
        by_cell true e = undone_versions id l
        by_cell false e = let none = nothing_there v cells seats st j x o has open_end explicit (map (λ l. l.0) o.script) versions id l e in
            none ∙ sym (touched_undone o.id f.seq (c.versions id) ∙ ap (λ (ws : List Version). touched o.id (versions_undone o.id f.seq ws)) none) ∙ undone_versions id l

    step : by_statement o.explicit o.id state (v.reads text) ≡ (record { tables = to.c.tables; seq = to.c.seq; saved = to.c ∷ to.cs }, reply.Back)
    step = (λ i. by_statement (explicit i) o.id state (is i)) ∙ back_one state name to.c to.cs to.is

    requests_none : (i : ℕ) → Each (Holds (c.holds i) o.id) (requests_in v (defs_of k.tables) o.explicit i text)
    requests_none i = let w = back_requests (defs_of k.tables) o.explicit (Some name) in
        subst (λ z. Each (Holds (c.holds i) o.id) (Rattle.spec_protocol.specs.RequestsIn.requests_at i (Rattle.spec_model.specs.ScriptRequests.text_requests (defs_of k.tables) o.explicit z))) (sym is) (none_requested (Holds (c.holds i) o.id) i _ w.0 w.1)

    kind : kind_of (v.meaning.reads text) ≡ to_savepoint
    kind = ap kind_of (v.real.reading text ∙ is)

    abbrev sess : SessionState
    sess = (run first history).at d.runs.number

    in_old : (a : Text) (ls : List Line) (l : Line) → In a (map (λ l. l.0) ls) → In a (map (λ l. l.0) (ls ++ l ∷ []))
    in_old a [] l i = absurd i
    in_old a (m ∷ ls) l i = ⊎_elim (λ e. inl e) (λ e. inr (in_old a ls l e)) i

    now : IsNow v.meaning sess y
    now = record {
      running = d.runs.now.running;
      transcript = d.runs.now.transcript;
      under = d.runs.now.under ∙ ap text_at at;
      open_one = subst (λ (z : Option SessionTransaction). AreTransactions z y y.open_one) (sym d.has) (record {
        id = d.is.id;
        explicit = d.is.explicit;
        script = d.is.script;
        end = d.is.end;
        asked = λ u. each_weaker (λ a. a.1 ≡ true → In a.0 (texts_so_far x o)) (λ a. a.1 ≡ true → In a.0 (texts_so_far y p))
            (λ a g e. in_old a.0 o.script (text, reply_text reply.Back) (subst (λ ls. In a.0 (map (λ l. l.0) ls)) (ap (λ (z : SessionStatus). o.script ++ lines_at z) at ∙ append-nil o.script) (g e))) d.transaction.asked (d.is.asked u);
        heard = heard_still x.place place d.transaction.answered d.transaction.asked (ap asking at) d.is.heard;
      });
      so_far = goes_on v.meaning sess.so_far sess.so_far x y [] refl (sym (append-nil sess.so_far.pending)) d.runs.now.so_far
          (from_at v.meaning x y (inside text begun) (Some o) [] at one refl (λ n i g. at_opened v.meaning n text o p begun (going_back f.seq (tables_visited o)) [] explicit open_end refl explicit open_end refl refl refl refl refl refl kind));
    }

    back_still : StillAt v cells seats st j s there x o y p
    back_still = record { acted = λ e. let no : true ≡ false = sym explicit ∙ e in cc; adding = λ after i a. absurd (none_added (inside text begun) o after i tt (subst (λ z. IsAdding z o after i) at a)) }

    -- the rows of a key, undone
    abbrev rows_of : ℕ → Key → List Version → List Version
    rows_of id key vs = key_rows k.tables id key vs

    back_tables : (script_end v k.tables y p).state.tables ≡ to.c.tables
    back_tables = ap (λ z. z.tables) (state_is v cells seats st j s there x role o one open_end explicit text begun at refl (λ id ws. refl) reply.Back (record { tables = to.c.tables; seq = to.c.seq; saved = to.c ∷ to.cs }) (step_is v.reads o.explicit o.id state text ∙ step) requests_none)

    owned_before : (id : ℕ) (key : Key) → 1 ≤ id → (h : Hold) → In h (c.holds (cell_of id)) → h.tx ≡ o.id → lets_change key h.request ≡ true → rows_of id key (c.versions id) ≡ rows_of id key (versions_of state.tables id)
    owned_before id key l h i m r = (λ n. counted o.id id (sym at n) (rows_of id key (c.versions id))) ∙ st.rows_agree.own j x o has open_end id key l h i m r
        ∙ ap (λ (ls : List Line). rows_of id key (versions_of (script v.reads o.explicit k.tables o.id (map (λ z. z.0) ls)).state.tables id)) (ap (λ (z : SessionStatus). o.script ++ lines_at z) at ∙ append-nil o.script)

    undone_key : (id : ℕ) (key : Key) → versions_undone o.id f.seq (rows_of id key (versions_of state.tables id)) ≡ rows_of id key (versions_of to.c.tables id)
    undone_key id key = undone_of_key (columns_at (defs_of k.tables) id) key o.id f.seq (versions_of state.tables id)
        ∙ ap (λ (n : ℕ). rows_of id key (versions_undone o.id n (versions_of state.tables id))) to.open_savepoint.counter
        ∙ ap (rows_of id key) (sym (undone_at o.id to.c.seq state.tables id) ∙ ap (λ (T : Tables). versions_of T id) undo)

    -- who isn't in the cell made nothing there
    untouched_there : (id : ℕ) → 1 ≤ id → list_any (λ i. i == cell_of id) (tables_visited o) ≡ false → Each (IsNotOf o.id) (c.versions id)
    untouched_there id l e = none_of_touched o.id (c.versions id) (nothing_there v cells seats st j x o has open_end explicit (map (λ l. l.0) o.script) versions id l e)

    back_owes : Owes v c k st.catalog.defs y p
    back_owes = record {
      carried = λ u. inr (ap (λ (b : Bool). defs_of (script v.reads b k.tables o.id (texts_so_far y p)).state.tables) explicit ∙ (opened_keep_defs v.reads k.tables o.id (texts_so_far y p)).tables);
      indexed = λ u. tt;
      looked_first = λ u f. absurd f;
      dropping = λ f. absurd f;
      own = λ u id key l h i m r. by_cell_own id key l (owned_before id key l h i m r) (list_any (λ a. a == cell_of id) (tables_visited o)) refl ∙ ap (λ (T : Tables). rows_of id key (versions_of T id)) (sym back_tables);
      before = λ u id l. by_cell_before id l (list_any (λ a. a == cell_of id) (tables_visited o)) refl;
      back = refl;
      explicit = explicit;
    }
      where
        by_cell_own : (id : ℕ) (key : Key) → 1 ≤ id → rows_of id key (c.versions id) ≡ rows_of id key (versions_of state.tables id) → (b : Bool) → list_any (λ a. a == cell_of id) (tables_visited o) ≡ b
            → (if b then versions_undone o.id f.seq (rows_of id key (c.versions id)) else rows_of id key (c.versions id)) ≡ rows_of id key (versions_of to.c.tables id)
        by_cell_own id key l e true g = ap (versions_undone o.id f.seq) e ∙ undone_key id key
        by_cell_own id key l e false g = sym (undone_nothing o.id f.seq (rows_of id key (c.versions id)) (each_filter_not o.id (λ w. same_key (version_key (columns_at (defs_of k.tables) id) w) key) (c.versions id) (untouched_there id l g)))
            ∙ ap (versions_undone o.id f.seq) e ∙ undone_key id key

        by_cell_before : (id : ℕ) → 1 ≤ id → (b : Bool) → list_any (λ a. a == cell_of id) (tables_visited o) ≡ b → AllByRecursion (MadeBefore o.id f.seq) (if b then versions_undone o.id f.seq (c.versions id) else c.versions id)
        by_cell_before id l true g = undone_before o.id f.seq (c.versions id)
        by_cell_before id l false g = made_before o.id f.seq (c.versions id) (untouched_there id l g)

    pub went_back : Stands v history cells (slice_set seats j (sits s y))
    went_back = alone_stands v cells seats st j s there _ history
        (keeps_turn v cells seats st j s there x role o one _ y p refl refl
        (keeps_said v cells seats st j s there x role o one open_end explicit text begun at refl (λ id ws. refl) reply.Back (record { tables = to.c.tables; seq = to.c.seq; saved = to.c ∷ to.cs })
        (step_is v.reads o.explicit o.id state text ∙ step) requests_none y p o.script refl refl refl refl refl refl refl counts to.open_savepoint.counter
        (trees_over v (λ id. events_in o.id id (versions_of to.c.tables id)) (λ id. events_in o.id id (counted o.id id place (c.versions id))) f.trees
        (λ id l. events_of_touched o.id id (versions_of to.c.tables id) ∙ ap (events_in o.id id) (sym (counts id l)) ∙ sym (events_of_touched o.id id (counted o.id id place (c.versions id)))) to.open_savepoint.trees)
        (to.open_savepoint, to.rest) (λ l. tt) tt (λ e. ap text_at at) (λ e. let no : true ≡ false = sym explicit ∙ e in cc) back_still back_owes))
        (nothing_added v history st.ledger _ (plain_acts v st.ledger seats history st.transcripts_agree j s there x y role d.runs.number d.runs.is [] tt tt now (record { images = refl; moments = refl; earlier = refl })))

  -- ---- it ends

  module _ (text : Text) (seq : ℕ) (at : x.place ≡ inside text (going_back seq [])) where
    abbrev line : Line
    line = (text, reply_text reply.Back)

    fits_there : (n : ℕ) → Fits v.meaning n x.place x.open_one → Fits v.meaning n (inside text (going_back seq [])) (Some o)
    fits_there n f = subst (λ q. Fits v.meaning n q (Some o)) at (subst (Fits v.meaning n x.place) one f)

    by_begin : (b : Bool) (n : ℕ) → FitsWith v.meaning b n text (going_back seq []) o.id o.end → (b ≡ true) × (kind_of (v.meaning.reads text) ≡ to_savepoint)
    by_begin true n g = (refl, g.1)
    by_begin false n g = absurd g.1

    pub explicit_by_begin : (o.explicit ≡ true) × (kind_of (v.meaning.reads text) ≡ to_savepoint)
    explicit_by_begin = by_begin o.explicit _ (fits_there _ d.runs.now.so_far.fits)

    abbrev explicit : o.explicit ≡ true
    explicit = explicit_by_begin.0

    abbrev z : Session
    z = at_place (Some (saying line o)) (inside text (answering reply.Back None)) x

    pub is_back_stands : StandsAfter v j history (says line ∷ []) cells (slice_set seats j (sits s z))
    is_back_stands = alone_after v cells seats st j s there _ _
        (keeps_turn v cells seats st j s there x role o one _ z (saying line o) refl refl
        (kept v cells seats st j s there x role o one z (o.script ++ line ∷ []) (ap (λ q. o.script ++ lines_at q) at ∙ sym (append-nil (o.script ++ line ∷ []))) (λ id ws. ap (λ q. counted o.id id q ws) at) (λ e f. let no : true ≡ false = sym explicit ∙ e in cc) (λ e. ap text_at at) (λ l. tt) tt
        (bare v cells seats st j s there x role o one z (saying line o) tt (subst AddsNone (sym at) tt) (λ e. let no : true ≡ false = sym explicit ∙ e in cc))))
        (says_act v st.ledger seats history st.transcripts_agree j s there x role o one open_end (st.open_scripts j x o has open_end).alone line (λ a i. subst (λ q. In a (map (λ l. l.0) (o.script ++ lines_at q))) at i) (ap text_at at) (answering reply.Back None)
        (from_at v.meaning x z (inside text (going_back seq [])) (Some o) (said line ∷ []) at one refl (λ n i f. at_opened v.meaning n text o (saying line o) (going_back seq []) (answering reply.Back None) (said line ∷ []) explicit open_end refl explicit open_end refl refl refl
        (ap (λ (q : Kind). shown_inside v.meaning q text (answering reply.Back None)) explicit_by_begin.1 ∙ ap (λ w. said (text, w) ∷ []) (v.real.writes reply.Back)) refl refl
        (savepoint_fits v.meaning n text o.id reply.Back explicit_by_begin.1 (record { not_syntax_error = λ f. cc; not_no_transaction = λ f. cc; not_already_in = λ f. cc; not_forbidden_in = λ f. cc }))))) (says_owner _ _ _ _ _ _ _ _ _ _ _ _ _ _ _ _ _ _ _)
