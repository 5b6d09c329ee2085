-- A statement of rows is refused by what is checked before any row, over the definition that it found.
use Rattle.law_protocol_changes.proofs.SaidThere.{rows_replied}
use Rattle.std.proofs.Common.{◌≡◌, ℕ, not, Bool, true, false, List, [], ◌∷◌, ◌++◌, map, Option, Some, None, Ok, Err, slice_set, refl, sym, ap, ◌∙◌, subst, inl, inr, ⊎_elim, append-nil, eqb-true, cond, subst₂}
use Rattle.std.specs.Prelude.{◌==◌, if◌then◌else◌}
use mathlib.Core.Option.{some}
use lib.ListN.{get_elem?}
use Rattle.sql_value.specs.declared.refusal.Refusal.{Refusal}
use Rattle.sql_value.specs.declared.refusal.Refusal.TheVariants as e
use Rattle.sql_types.specs.declared.reply.Reply.{Reply}
use Rattle.sql_types.specs.declared.reply.Reply.TheVariants as reply
use Rattle.sql_types.specs.declared.statement.Stmt.{Stmt}
use Rattle.sql_types.specs.declared.statement.Stmt.TheVariants as stmt
use Rattle.sql_types.specs.declared.statement.Select.{Select}
use Rattle.sql_types.specs.declared.statement.RowStmt.{RowStmt}
use Rattle.sql_types.specs.declared.statement.RowStmt.TheVariants.{Insert, Update, Delete}
use Rattle.sql_types.specs.declared.table.Part.{Part}
use Rattle.spec_model.specs.Refusals.{Checked}
use Rattle.spec_model.specs.Catalog.{Defs, NamedPart, Tables, defs_of, find_part, or_in, part_named}
use Rattle.spec_model.specs.Checks.{row_statement_check}
use Rattle.spec_model.specs.Effect.{effect}
use Rattle.spec_model.specs.Journals.{Line}
use Rattle.spec_model.specs.Locks.{cell_requests}
use Rattle.spec_model.specs.Query.{query_check}
use Rattle.spec_model.specs.Replies.{reply_text}
use Rattle.spec_model.specs.Script.{State, by_statement, script}
use Rattle.spec_model.specs.ScriptRequests.{text_requests}
use Rattle.law_frame.proofs.Definitions.{opened_keep_defs, nothing_done}
use Rattle.spec_history.specs.Lists.{Text, Each, In}
use Rattle.spec_history.specs.Meaning.{Meaning}
use Rattle.spec_history.specs.Transcripts.{Kind, rows, kind_of}
use Rattle.spec_history.specs.Facts.{said, answer_facts}
use Rattle.spec_history.specs.Transactions.{unfixed}
use Rattle.spec_history.specs.Sessions.{SessionTransaction, SessionState}
use Rattle.spec_history.specs.Worlds.{first, run}
use Rattle.spec_history.specs.Guards.{IsAnswered}
use Rattle.spec_history.proofs.Trace.{each_weaker}
use Rattle.spec_protocol.specs.Server.{Server}
use Rattle.spec_protocol.specs.Cells.{Cell, catalog_at}
use Rattle.spec_protocol.specs.Contents.{Contents, Known, contents, known, HasAlone}
use Rattle.spec_protocol.specs.Answering.{error_of, defs_got, refused_by_check}
use Rattle.spec_protocol.specs.TranscriptsSoFar.{end_shown, shown_with}
use Rattle.spec_protocol.specs.Doing.{stage_after, done, with_line}
use Rattle.spec_protocol.specs.LocksCover.{HoldsCatalog, table_of, IsNamed, IsGotAt, LookedAt}
use Rattle.spec_protocol.specs.Moves.{saying, at_place, sits, InOpenTransaction, then_at}
use Rattle.spec_protocol.specs.OpenOnes.{HasOpen, text_at, lines_at, texts_so_far}
use Rattle.spec_protocol.specs.Parts.{IsHeard, AreTransactions, IsNow}
use Rattle.spec_protocol.specs.Seats.{OpenTransaction, found, replied, answering, SessionStatus, inside, Session, session, SeatState}
use Rattle.spec_protocol.specs.StandTogether.{History, Stands, StandsAfter}
use Rattle.spec_protocol.specs.RequestsIn.{of_catalog, requests_at, requests_in, Holds}
use Rattle.law_protocol_steps.proofs.AloneTurns.{alone_stands, keeps_turn}
use Rattle.law_protocol_steps.proofs.AnonymousActs.{plain_acts}
use Rattle.law_protocol_steps.proofs.TranscriptActs.{goes_on}
use Rattle.law_protocol_steps.proofs.TranscriptProgress.{from_at, fits_if, if_fits, at_opened}
use Rattle.law_protocol_steps.proofs.Ids.{InTransaction, in_transaction}
use Rattle.law_protocol_steps.proofs.InPlaces.{NoControl, within, controlled_inside, fits_own}
use Rattle.law_frame.proofs.PlainRefusals.{IsPlain, IsPlainReply, effect_reply}
use Rattle.law_protocol_steps.proofs.SaidMore.{X, its_versions, its_counter, its_trees, its_savepoints, keeps_bare, said_stands}
use Rattle.law_protocol_steps.proofs.ScriptMore.{step_is}
use Rattle.law_protocol_changes.proofs.StepsSaid.{done_is}
use Rattle.spec_protocol.specs.ActsOf.{checked_acts}
use Rattle.law_protocol_steps.proofs.GoesOn.{nothing_added, unacted}
use Rattle.spec_history.specs.Acts.{says}

-- ---- the check over the found definition alone

one_found : (name : List ℕ) (F : Option NamedPart) (defs : Defs) → find_part defs name ≡ F → find_part (defs_got F) name ≡ F
unfolding find_part
one_found name None defs is = refl
one_found name (Some f) [] is = cc
one_found name (Some f) (d ∷ defs) is = by_part (part_named d name) refl is (one_found name (Some f) defs)
  where
    by_part : (p : Option Part) → part_named d name ≡ p → or_in p d (find_part defs name) ≡ Some f → (find_part defs name ≡ Some f → or_in (part_named f.0 name) f.0 None ≡ Some f) → or_in (part_named f.0 name) f.0 None ≡ Some f
    by_part (Some p) same is rec = let e : (d, p) ≡ f = cc in subst (λ (g : NamedPart). or_in (part_named g.0 name) g.0 None ≡ Some g) e (ap (λ (z : Option Part). or_in z d None) same)
    by_part None same is rec = rec is

same_row_check : (defs ds : Defs) (row : RowStmt) → find_part ds (table_of row) ≡ find_part defs (table_of row) → row_statement_check ds row ≡ row_statement_check defs row
unfolding row_statement_check
same_row_check defs ds (Insert table names vs) same = λ i. Rattle.spec_model.specs.Refusals.and_then (Rattle.spec_model.specs.Refusals.or_refused e.NoSuchTable (same i)) (λ n. Rattle.spec_model.specs.Refusals.and_then (Rattle.spec_model.specs.Checks.row_check (Insert table names vs) n.0 n.1) (λ passed. Ok n.0))
same_row_check defs ds (Update table sets cond) same = λ i. Rattle.spec_model.specs.Refusals.and_then (Rattle.spec_model.specs.Refusals.or_refused e.NoSuchTable (same i)) (λ n. Rattle.spec_model.specs.Refusals.and_then (Rattle.spec_model.specs.Checks.row_check (Update table sets cond) n.0 n.1) (λ passed. Ok n.0))
same_row_check defs ds (Delete table cond) same = λ i. Rattle.spec_model.specs.Refusals.and_then (Rattle.spec_model.specs.Refusals.or_refused e.NoSuchTable (same i)) (λ n. Rattle.spec_model.specs.Refusals.and_then (Rattle.spec_model.specs.Checks.row_check (Delete table cond) n.0 n.1) (λ passed. Ok n.0))

same_query_check : (defs ds : Defs) (q : Select) → find_part ds q.table ≡ find_part defs q.table → query_check ds q ≡ query_check defs q
unfolding query_check
same_query_check defs ds q same = λ i. Rattle.spec_model.specs.Refusals.and_then (Rattle.spec_model.specs.Refusals.or_refused e.NoSuchTable (same i)) (λ n. Rattle.spec_model.specs.Refusals.and_then (Rattle.spec_model.specs.Query.select_check (Rattle.spec_model.specs.Parts.columns_of n.0 n.1) q) (λ passed. Ok n))

is_error : {A : Type 0} (m : Checked A) (r : Refusal) → error_of m ≡ Some r → m ≡ Err r
is_error (Ok a) r e = cc
is_error (Err b) r e = cc

-- what a refused statement does, and what it wants
record Refused (defs : Defs) (d : Stmt) (r : Refusal) : Type 0 where
  step : (b : Bool) (tx : ℕ) (x : State) → defs_of x.tables ≡ defs → by_statement b tx x (Some d) ≡ (x, reply.Refused r)
  cell : cell_requests defs d ≡ None
  effects : (T : Tables) (tx seq : ℕ) → defs_of T ≡ defs → (effect T tx seq d).reply ≡ reply.Refused r

row_refused : (defs : Defs) (row : RowStmt) (r : Refusal) → row_statement_check defs row ≡ Err r → Refused defs (stmt.Change row) r
unfolding effect cell_requests
row_refused defs row r is = record {
  step = λ b tx x same. by_kind b tx x (ap (λ ds. row_statement_check ds row) same ∙ is);
  cell = ap (Rattle.spec_model.specs.Locks.row_cell_requests row) is;
  effects = λ T tx seq same. ap (λ m. (Rattle.spec_model.specs.Effect.row_effect T tx seq row m).reply) (ap (λ ds. row_statement_check ds row) same ∙ is);
}
  where
    by_kind : (b : Bool) (tx : ℕ) (x : State) → row_statement_check (defs_of x.tables) row ≡ Err r → by_statement b tx x (Some (stmt.Change row)) ≡ (x, reply.Refused r)
    by_kind true tx x f = ap (λ m. Rattle.spec_model.specs.Script.by_effect x (Rattle.spec_model.specs.Effect.row_effect x.tables tx x.seq row m)) f
    by_kind false tx x f = ap (λ m. Rattle.spec_model.specs.Script.by_effect x (Rattle.spec_model.specs.Effect.row_effect x.tables tx x.seq row m)) f

query_refused : (defs : Defs) (q : Select) (r : Refusal) → query_check defs q ≡ Err r → Refused defs (stmt.Select q) r
unfolding effect cell_requests
query_refused defs q r is = record {
  step = λ b tx x same. by_kind b tx x (ap (λ ds. query_check ds q) same ∙ is);
  cell = ap (Rattle.spec_model.specs.Locks.query_cell_requests q) is;
  effects = λ T tx seq same. ap (λ m. (Rattle.spec_model.specs.Effect.query_effect T seq q m).reply) (ap (λ ds. query_check ds q) same ∙ is);
}
  where
    by_kind : (b : Bool) (tx : ℕ) (x : State) → query_check (defs_of x.tables) q ≡ Err r → by_statement b tx x (Some (stmt.Select q)) ≡ (x, reply.Refused r)
    by_kind true tx x f = ap (λ m. Rattle.spec_model.specs.Script.by_effect x (Rattle.spec_model.specs.Effect.query_effect x.tables x.seq q m)) f
    by_kind false tx x f = ap (λ m. Rattle.spec_model.specs.Script.by_effect x (Rattle.spec_model.specs.Effect.query_effect x.tables x.seq q m)) f

refused_so : (T : Tables) (d : Stmt) (named : Option NamedPart) (r : Refusal) → IsNamed T (Some d) named → refused_by_check named d ≡ Some r → Refused (defs_of T) d r × (kind_of (Some d) ≡ rows)
refused_so T (stmt.Change row) named r h is = let n : table_of row ≡ h.0 = cc in let f : named ≡ find_part (defs_of T) (table_of row) = h.2 ∙ ap (find_part (defs_of T)) (sym n) in
    (row_refused (defs_of T) row r (sym (same_row_check (defs_of T) (defs_got named) row (one_found (table_of row) named (defs_of T) (sym f) ∙ f)) ∙ is_error (row_statement_check (defs_got named) row) r is), refl)
refused_so T (stmt.Select q) named r h is = let n : q.table ≡ h.0 = cc in let f : named ≡ find_part (defs_of T) q.table = h.2 ∙ ap (find_part (defs_of T)) (sym n) in
    (query_refused (defs_of T) q r (sym (same_query_check (defs_of T) (defs_got named) q (one_found q.table named (defs_of T) (sym f) ∙ f)) ∙ is_error (query_check (defs_got named) q) r is), refl)
refused_so T (stmt.Create c) named r h is = cc
refused_so T (stmt.Index c) named r h is = cc
refused_so T (stmt.Alter a) named r h is = cc
refused_so T (stmt.Drop name) named r h is = cc
refused_so T stmt.Begin named r h is = cc
refused_so T stmt.Commit named r h is = cc
refused_so T (stmt.Save name) named r h is = cc
refused_so T (stmt.Rollback name) named r h is = cc
refused_so T stmt.Digest named r h is = cc
refused_so T stmt.Image named r h is = cc

-- ---- a plain code

no_control : (r : Refusal) → IsPlain r → NoControl (reply.Refused r)
no_control r p = record { not_syntax_error = λ f. let g : r ≡ e.SyntaxError = cc in subst IsPlain g p; not_no_transaction = λ f. let g : r ≡ e.NoTransaction = cc in subst IsPlain g p; not_already_in = λ f. let g : r ≡ e.AlreadyInTransaction = cc in subst IsPlain g p; not_forbidden_in = λ f. let g : r ≡ e.ForbiddenInTransaction = cc in subst IsPlain g p }

refusal_said : (q : Meaning) (text : Text) (code : Refusal) → IsPlain code → answer_facts q text (reply.Refused code) ≡ said (text, q.writes (reply.Refused code)) ∷ []
refusal_said q text (e.Locked holder) h = absurd h
refusal_said q text e.NoMemory h = absurd h
refusal_said q text code h = refl

-- ---- the step

module _ (v : Server) (cells : List Cell) (seats : List SeatState) {history : History} (st : Stands v history cells seats) (j : ℕ) (s : SeatState) (there : get_elem? seats j ≡ some s) (o : OpenTransaction) (at : InOpenTransaction v s o) (named : Option NamedPart) (fresh : Bool) (r : Refusal)
    (stage : at.stands.stage ≡ found named fresh) (is : refused_by_check named at.stands.stmt ≡ Some r) where
  abbrev x : Session
  x = at.stands.x

  abbrev text : Text
  text = at.stands.text

  abbrev role : s.role ≡ session x
  role = at.stands.role

  abbrev one : x.open_one ≡ Some o
  one = at.open_one

  abbrev open_end : o.end ≡ unfixed
  open_end = at.unfixed

  abbrev c : Contents
  c = contents cells

  abbrev k : Known
  k = known v.reads st.ledger.items

  place : x.place ≡ inside text (found named fresh)
  place = at.stands.place ∙ ap (λ z. inside text z) stage

  has : HasOpen seats j x o
  has = record { seat = s; there = there; role = role; open_one = one }

  looked : HoldsCatalog v c (defs_of k.tables) o.id o.explicit text
  looked = subst (LookedAt v c (defs_of k.tables) o.id o.explicit) place (st.locks_cover.looked j x o has open_end)

  got : IsNamed k.tables (Some at.stands.stmt) named
  got = subst (λ z. IsNamed k.tables z named) at.stands.is (subst (IsGotAt v k.tables (HasAlone c o.id) (not (k.has o.id))) place (st.locks_cover.got j x o has looked.lock))

  so : Refused (defs_of k.tables) at.stands.stmt r × (kind_of (Some at.stands.stmt) ≡ rows)
  so = refused_so k.tables at.stands.stmt named r got is

  kind : kind_of (v.meaning.reads text) ≡ rows
  kind = ap kind_of (v.real.reading text ∙ at.stands.is) ∙ so.1

  plain : IsPlain r
  plain = subst IsPlainReply (so.0.effects k.tables 0 0 refl) (effect_reply k.tables 0 0 at.stands.stmt)

  covers : (i : ℕ) → Each (Holds (c.holds i) o.id) (requests_in v (defs_of k.tables) o.explicit i text)
  covers i = subst (λ z. Each (Holds (c.holds i) o.id) (requests_at i z)) (λ n. record { catalog = (text_requests (defs_of k.tables) o.explicit (v.reads text)).catalog; cell = sym no_cell n }) (by_cell (i == catalog_at) refl)
    where
      no_cell : (text_requests (defs_of k.tables) o.explicit (v.reads text)).cell ≡ None
      no_cell = ap (λ z. (text_requests (defs_of k.tables) o.explicit z).cell) at.stands.is ∙ so.0.cell

      by_cell : (z : Bool) → (i == catalog_at) ≡ z → Each (Holds (c.holds i) o.id) ((if z then of_catalog (text_requests (defs_of k.tables) o.explicit (v.reads text)).catalog else []) ++ [])
      by_cell true e = subst (Each (Holds (c.holds i) o.id)) (sym (append-nil (of_catalog (text_requests (defs_of k.tables) o.explicit (v.reads text)).catalog))) (subst (λ n. Each (Holds (c.holds n) o.id) (of_catalog (text_requests (defs_of k.tables) o.explicit (v.reads text)).catalog)) (sym (eqb-true i catalog_at e)) looked.requests)
      by_cell false e = tt

  abbrev a : Reply
  a = reply.Refused r

  -- in a transaction that BEGIN opened
  module _ (explicit : o.explicit ≡ true) where
    abbrev state : State
    state = X v cells seats st j s there x role o one open_end explicit text (found named fresh) place refl (λ id ws. refl)

    same_defs : defs_of state.tables ≡ defs_of k.tables
    same_defs = ap (λ z. defs_of (script v.reads z k.tables o.id (map (λ l. l.0) o.script)).state.tables) explicit ∙ (opened_keep_defs v.reads k.tables o.id (map (λ l. l.0) o.script)).tables

    opened_checked : StandsAfter v j history (says (text, reply_text a) ∷ []) cells (slice_set seats j (sits s (at_place (Some (saying (text, reply_text a) o)) (inside text (answering a None)) x)))
    opened_checked = said_stands v cells seats st j s there x role o one open_end explicit text (found named fresh) place refl (λ id ws. refl) explicit a state
        (step_is v.reads o.explicit o.id state text ∙ ap (by_statement o.explicit o.id state) at.stands.is ∙ so.0.step o.explicit o.id state same_defs) covers (saying (text, reply_text a) o) refl refl refl refl refl refl refl
        (its_counter v cells seats st j s there x role o one open_end explicit text (found named fresh) place refl (λ id ws. refl)) refl (its_savepoints v cells seats st j s there x role o one open_end explicit text (found named fresh) place refl (λ id ws. refl)) refl tt
        (from_at v.meaning x _ (inside text (found named fresh)) (Some o) (said (text, reply_text a) ∷ []) place one refl (λ n i f. at_opened v.meaning n text o (saying (text, reply_text a) o) (found named fresh) (answering a None) (said (text, reply_text a) ∷ []) explicit open_end refl explicit open_end refl refl refl
        (ap (λ (z : Kind). Rattle.spec_protocol.specs.TranscriptsSoFar.shown_inside v.meaning z text (answering a None)) kind ∙ refusal_said v.meaning text r plain ∙ ap (λ w. said (text, w) ∷ []) (v.real.writes a)) refl refl
        (within v.meaning n text a o.id rows None kind refl (controlled_inside n a (no_control r plain) o.id rows refl refl) tt)))

  -- in one of its own
  module _ (own : o.explicit ≡ false) where
    none : o.script ≡ []
    none = (st.open_scripts j x o has open_end).alone own

    abbrev own_state : State
    own_state = X v cells seats st j s there x role o one open_end own text (found named fresh) place refl (λ id ws. refl)

    own_defs : defs_of own_state.tables ≡ defs_of k.tables
    own_defs = ap (λ ls. defs_of (script v.reads o.explicit k.tables o.id (map (λ l. l.0) ls)).state.tables) none ∙ ap (λ z. defs_of z.state.tables) (nothing_done v.reads o.explicit k.tables o.id)

    abbrev y : Session
    y = at_place (Some o) (inside text (replied a)) x

    d : InTransaction v.meaning history (st.transcripts_agree.of_seat j) x o
    d = in_transaction v history st.ledger seats st.transcripts_agree j x o has

    abbrev sess : SessionState
    sess = (run first history).at d.runs.number

    in_old : (t : Text) (ls : List Line) (l : Line) → In t (map (λ l. l.0) ls) → In t (map (λ l. l.0) (ls ++ l ∷ []))
    in_old t [] l i = absurd i
    in_old t (m ∷ ls) l i = ⊎_elim (λ e. inl e) (λ e. inr (in_old t ls l e)) i

    heard : (b : Text × Bool) → IsHeard (inside text (found named fresh)) d.transaction.answered b → IsHeard y.place d.transaction.answered b
    heard b h = ⊎_elim (λ (g : IsAnswered d.transaction.answered b). inl g) (λ (g : In b ((text, false) ∷ [])). inr (⊎_elim (λ e. inl e) (λ (e : ⊥). absurd e) g)) h

    now : IsNow v.meaning sess y
    now = record {
      running = d.runs.now.running;
      transcript = d.runs.now.transcript;
      under = d.runs.now.under ∙ ap text_at place;
      open_one = subst (λ (z : Option SessionTransaction). AreTransactions z y y.open_one) (sym d.has) (record {
        id = d.is.id;
        explicit = d.is.explicit;
        script = d.is.script;
        end = d.is.end;
        asked = λ u. each_weaker (λ b. b.1 ≡ true → In b.0 (texts_so_far x o)) (λ b. b.1 ≡ true → In b.0 (texts_so_far y o))
            (λ b g e. in_old b.0 o.script (text, reply_text a) (subst (λ ls. In b.0 (map (λ l. l.0) ls)) (ap (λ (z : SessionStatus). o.script ++ lines_at z) place ∙ append-nil o.script) (g e))) d.transaction.asked (d.is.asked u);
        heard = each_weaker (IsHeard (inside text (found named fresh)) d.transaction.answered) (IsHeard y.place d.transaction.answered) heard d.transaction.asked (subst (λ p. Each (IsHeard p d.transaction.answered) d.transaction.asked) place d.is.heard);
      });
      so_far = goes_on v.meaning sess.so_far sess.so_far x y [] refl (sym (append-nil sess.so_far.pending)) d.runs.now.so_far
          (from_at v.meaning x y (inside text (found named fresh)) (Some o) [] place one refl (λ n i f. let g = fits_if v.meaning n text (found named fresh) o false own f in record {
            shown = append-nil _ ∙ (λ i. shown_with v.meaning (own i) o.id text (found named fresh) ++ end_shown o.end) ∙ (λ i. shown_with v.meaning (sym own i) o.id text (replied a) ++ end_shown o.end);
            before = refl;
            images = refl;
            fits = if_fits v.meaning n text (replied a) o false own (g.0, (fits_own n a (no_control r plain) v.meaning text o.end g.0 refl refl, refusal_said v.meaning text r plain));
          }));
    }

    own_checked : Stands v history cells (slice_set seats j (sits s y))
    own_checked = alone_stands v cells seats st j s there _ history
        (keeps_turn v cells seats st j s there x role o one _ y o refl refl
        (keeps_bare v cells seats st j s there x role o one open_end own text (found named fresh) place refl (λ id ws. refl) a own_state
        (step_is v.reads o.explicit o.id own_state text ∙ ap (by_statement o.explicit o.id own_state) at.stands.is ∙ so.0.step o.explicit o.id own_state own_defs) covers
        y o o.script refl refl refl refl refl refl refl (its_versions v cells seats st j s there x role o one open_end own text (found named fresh) place refl (λ id ws. refl))
        (its_counter v cells seats st j s there x role o one open_end own text (found named fresh) place refl (λ id ws. refl))
        (its_trees v cells seats st j s there x role o one open_end own text (found named fresh) place refl (λ id ws. refl))
        (its_savepoints v cells seats st j s there x role o one open_end own text (found named fresh) place refl (λ id ws. refl))
        (λ l. rows_replied k.tables (v.reads text) (ap kind_of at.stands.is ∙ so.1)) tt (λ e. ap text_at place) (λ e. none) tt (λ e f. tt) refl refl tt))
        (nothing_added v history st.ledger _ (plain_acts v st.ledger seats history st.transcripts_agree j s there x y role d.runs.number d.runs.is [] tt tt now (record { images = refl; moments = refl; earlier = refl })))

  pub checked_stands : StandsAfter v j history (checked_acts o.explicit text a) cells (slice_set seats j (done s at.stands o a))
  checked_stands = by_explicit o.explicit refl
    where
      by_explicit : (b : Bool) → o.explicit ≡ b → StandsAfter v j history (checked_acts o.explicit text a) cells (slice_set seats j (done s at.stands o a))
      by_explicit true e = subst₂ (λ (z : Bool) (t : SeatState). StandsAfter v j history (checked_acts z text a) cells (slice_set seats j t)) (sym e) (sym (done_is v s at.stands o a e)) (opened_checked e)
      by_explicit false e = subst₂ (λ (z : Bool) (t : SeatState). StandsAfter v j history (checked_acts z text a) cells (slice_set seats j t)) (sym e) (λ i. then_at s at.stands (Some (record { id = o.id; explicit = o.explicit; script = with_line (sym e i) (text, reply_text a) o.script; seq = o.seq; trees = o.trees; open_savepoints = o.open_savepoints; end = o.end; visited = o.visited; released = o.released })) (stage_after (sym e i) a)) (unacted v (own_checked e))
