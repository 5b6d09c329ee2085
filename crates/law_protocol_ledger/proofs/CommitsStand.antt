-- The visit in which a transaction is committed, where no seat stands in a statement that changes definitions.
use Rattle.std.proofs.Common.{◌≡◌, ◌≢◌, ℕ, ◌+◌, ◌<◌, ◌≤◌, ◌⊎◌, not, Bool, true, false, List, [], ◌∷◌, ◌++◌, map, Option, Some, None, slice_set, refl, sym, ap, ◌∙◌, subst, subst₂, inl, inr, ⊎_elim, append-nil, arith}
use Rattle.std.proofs.lemmas.Bool.{cases_lt}
use Rattle.std.specs.Prelude.{if◌then◌else◌}
use mathlib.Core.Option.{some}
use lib.ListN.{get_elem?}
use Rattle.sql_types.specs.declared.journal.JournalItem.{JournalItem}
use Rattle.sql_types.specs.declared.journal.JournalItem.TheVariants.{Tx}
use Rattle.sql_types.specs.declared.reply.Reply.{Reply}
use Rattle.sql_types.specs.declared.reply.Reply.TheVariants as reply
use Rattle.sql_types.specs.declared.statement.Stmt.{Stmt}
use Rattle.sql_types.specs.declared.statement.Stmt.TheVariants as stmt
use Rattle.sql_types.specs.declared.version.Version.{Version}
use Rattle.spec_model.specs.Catalog.{Defs, NamedPart, Tables, defs_of, find_part, versions_of}
use Rattle.spec_model.specs.Journals.{Line, tx_count, serial, AgreesWith, IsLegal}
use Rattle.spec_model.specs.Reach.{creates}
use Rattle.spec_model.specs.Replies.{reply_text}
use Rattle.spec_model.specs.Rows.{EventId}
use Rattle.spec_model.specs.Runs.{EndsBefore, MadeBefore, Sound}
use Rattle.spec_model.specs.Script.{script}
use Rattle.spec_model.specs.Touched.{touched}
use Rattle.spec_model.specs.Undo.{undone}
use Rattle.law_frame.proofs.AtTable.{rising_at, before_at}
use Rattle.law_frame.proofs.Definitions.{opened_keep_defs, one_keeps_defs, nothing_done, change_set_keeps}
use Rattle.law_frame.proofs.LegalSound.{legal_sound}
use Rattle.law_frame.proofs.SameEnds.{IsShort}
use Rattle.law_frame.proofs.UndoneTables.{none_undone}
use Rattle.law_frame.proofs.UndoneWhole.{CreatesNot, opened_undone, one_undone, undone_at}
use Rattle.spec_history.specs.Lists.{Text, Each, In}
use Rattle.spec_history.specs.Journals.{ids_of}
use Rattle.spec_history.specs.Refusals.{EndsAt}
use Rattle.spec_history.specs.Transactions.{unfixed, committed}
use Rattle.spec_history.specs.Acts.{SessionAct, by}
use Rattle.spec_history.proofs.Trace.{each_weaker}
use Rattle.spec_protocol.specs.Server.{Server}
use Rattle.spec_protocol.specs.Cells.{LedgerCell, Cell, Ledger, ledger_at}
use Rattle.spec_protocol.specs.CommittedTxs.{end_committed, committed as committed_at}
use Rattle.spec_protocol.specs.Contents.{Contents, Known, contents, known, HasAlone}
use Rattle.spec_protocol.specs.Seats.{StatementProgress, begun, found, made, going_back, replied, answering, refused, SessionStatus, between, inside, leaving, OpenTransaction, Session, SeatState}
use Rattle.spec_protocol.specs.OpenOnes.{HasOpen, text_at, last_line, lines_at, script_so_far, texts_so_far, script_end}
use Rattle.spec_protocol.specs.RequestsIn.{requests_in, Holds}
use Rattle.spec_protocol.specs.TablesAreSerial.{Creates, TablesAreSerial, HasActed, HasAdded}
use Rattle.spec_protocol.specs.OpenScripts.{IsOfItsScript, OpenScripts, counted}
use Rattle.spec_protocol.specs.LocksCover.{KeepsLocks, IsNamed, IsGot, IsGotAt, LocksCover, IsAfter, LookedAt}
use Rattle.spec_protocol.specs.TreesAreOfEvents.{AreOpenSavepoints, TreesAreOfEvents}
use Rattle.spec_protocol.specs.LocksAgree.{LocksAgree}
use Rattle.spec_protocol.specs.TranscriptsAgree.{TranscriptsAgree}
use Rattle.spec_history.specs.Transcripts.{kind_of}
use Rattle.spec_history.specs.Facts.{said, placed}
use Rattle.spec_protocol.specs.Parts.{asking}
use Rattle.spec_protocol.specs.OpenOnes.{last_line}
use Rattle.spec_protocol.specs.TranscriptsSoFar.{Fits, FitsWith, FitsOwn, IsSaid}
use Rattle.law_protocol_steps.proofs.TranscriptActs.{GoesFrom}
use Rattle.law_protocol_steps.proofs.TranscriptProgress.{GoesAt, from_at, fits_if, at_commit, at_said, at_own_end, made_fits}
use Rattle.spec_protocol.specs.StandTogether.{History, Stands, StandsAfter}
use Rattle.spec_protocol.specs.Moves.{saying, ending, at_place, at_moment, sits, marking, InStatement}
use Rattle.spec_protocol.specs.LedgerVisits.{Commits, is_read_only, with_item, CommitsNow, entry_of_trees}
use Rattle.law_protocol_ledger.proofs.CatalogLocks.{RequestsCatalog, requests_or_not, does_nothing, nobody_alone}
use Rattle.law_protocol_steps.proofs.CommitsLedger.{its_script, its_touched, some_event, next_item, commit_is_legal}
use Rattle.law_protocol_steps.proofs.FreshIds.{events_of_touched}
use Rattle.law_protocol_ledger.proofs.QuietOnes.{none_at_all}
use Rattle.spec_model.specs.Agreement.{IdsFrom}
use Rattle.spec_model.specs.Events.{all_events}
use Rattle.spec_model.specs.ScriptRequests.{text_requests}
use Rattle.law_frame.proofs.SameTouched.{untouched_at}
use Rattle.spec_protocol.specs.EventsIn.{events_in}
use Rattle.law_protocol_ledger.proofs.CommittedMore.{IsWithin, committed_more, each_all, all_in}
use Rattle.law_protocol_steps.proofs.AssignsId.{at_own}
use Rattle.law_protocol_steps.proofs.Ids.{below, drawn, others, has_not}
use Rattle.law_protocol_steps.proofs.JournalMore.{serial_more}
use Rattle.law_protocol_ledger.proofs.KnownMore.{has_own, has_other, had_not, upto_within, upto_past, upto_all, none_of_id}
use Rattle.law_protocol_ledger.proofs.KnownTurns.{Says, tables_more, scripts_more, trees_more, cover_more}
use Rattle.law_protocol_ledger.proofs.CommitsHistory.{commit_act, commit_by}
use Rattle.law_protocol_steps.proofs.LedgerKept.{same_contents, are_cells}
use Rattle.law_protocol_steps.proofs.LedgerVisit.{the_ledger}
use Rattle.spec_protocol.proofs.Places.{set_here, set_again}
use Rattle.law_protocol_changes.proofs.SaysHistory.{told}
use Rattle.law_protocol_steps.proofs.OpenSeats.{Own, was_open}
use Rattle.law_protocol_steps.proofs.OthersScripts.{is_short, sound_for, locked, script_stays, savepoints_stay}
use Rattle.law_protocol_steps.proofs.Turns.{MayHoldLock, StillStands, Owes, rows_turn, Turns, tables_turn, scripts_turn, trees_turn, agree_turn, cover_turn}
use Rattle.spec_protocol.specs.RowsAgree.{RowsAgree}
use Rattle.sql_types.specs.declared.table.TableDef.{TableDef}
use Rattle.spec_model.specs.ChangeSets.{as_before, in_place}
use Rattle.law_protocol_changes.proofs.SaidThere.{same_replied}
use Rattle.law_protocol_ledger.proofs.CommitRows.{rows_then, sound_left, undone_end}
use Rattle.law_protocol_steps.proofs.CommitsLedger.{counts}
use Rattle.spec_protocol.specs.ActsOf.{commit_acts}
use Rattle.law_protocol_steps.proofs.GoesOn.{Owned, each_so, ActsBy, then_more}
use Rattle.spec_history.specs.Acts as act
use Rattle.sql_types.specs.declared.entry.TxEntry.{TxEntry}

module _ (v : Server) (cells : List Cell) (seats : List SeatState) {history : History} (st : Stands v history cells seats) (j : ℕ) (s : SeatState) (there : get_elem? seats j ≡ some s)
    (p : InStatement v s) (o : OpenTransaction) (open_one : p.x.open_one ≡ Some o) (open_end : o.end ≡ unfixed) (r : Reply) (commits : Commits o.explicit p.stmt p.stage r) (acts : is_read_only o ≡ false) (time : ℕ)
    (not_creating : creates p.stmt ≡ false) where
  abbrev ledger : LedgerCell
  ledger = st.ledger

  abbrev c : Contents
  c = contents cells

  abbrev k : Known
  k = known v.reads ledger.items

  abbrev lines : List Line
  lines = script_so_far p.x o

  abbrev entry : TxEntry
  entry = entry_of_trees v o p.x.transcript.session time

  abbrev item : JournalItem
  item = Tx o.id p.x.transcript.session time o.explicit lines

  abbrev m : Known
  m = known v.reads (ledger.items ++ item ∷ [])

  has : HasOpen seats j p.x o
  has = record { seat = s; there = there; role = p.role; open_one = open_one }

  abbrev left : Tables
  left = (script_end v k.tables p.x o).state.tables

  tables_are : m.tables ≡ left
  tables_are = serial_more v.reads ledger.items item

  in_text : text_at p.x.place ≡ Some p.text
  in_text = ap text_at p.place

  its_alone : o.explicit ≡ false → o.script ≡ []
  its_alone = (its_script v cells seats st j s there p o open_one open_end r commits acts).alone

  -- ---- the definitions stay, and what it did can be undone

  abbrev sound : Sound o.id 0 k.tables
  sound = sound_for v cells seats st j p.x o has open_end

  stage_text : (stage : StatementProgress) → (t : Text) → In t (map (λ l. l.0) (last_line p.text stage)) → p.text ≡ t
  stage_text (made def indexed) t i = ⊎_elim (λ e. e) (λ (e : ⊥). absurd e) i
  stage_text (going_back seq cells) t i = ⊎_elim (λ e. e) (λ (e : ⊥). absurd e) i
  stage_text (replied reply) t i = ⊎_elim (λ e. e) (λ (e : ⊥). absurd e) i
  stage_text begun t i = absurd i
  stage_text (found named fresh) t i = absurd i
  stage_text (answering reply def) t i = absurd i
  stage_text (refused reply) t i = absurd i

  own_texts : o.explicit ≡ false → (t : Text) → In t (texts_so_far p.x o) → p.text ≡ t
  own_texts e t i = stage_text p.stage t (subst (λ (q : SessionStatus). In t (map (λ l. l.0) (lines_at q))) p.place (subst (λ (ls : List Line). In t (map (λ l. l.0) (ls ++ lines_at p.x.place))) (its_alone e) i))

  by_kind : (b : Bool) → o.explicit ≡ b → (ts : List Text) → (b ≡ false → IsShort v.reads o.id ts) → (b ≡ false → (t : Text) → In t ts → p.text ≡ t)
      → (defs_of (script v.reads b k.tables o.id ts).state.tables ≡ defs_of k.tables) × (undone o.id 0 (script v.reads b k.tables o.id ts).state.tables ≡ k.tables)
  by_kind true e ts short own = ((opened_keep_defs v.reads k.tables o.id ts).tables, opened_undone v.reads k.tables o.id sound ts)
  by_kind false e [] short own = let same = nothing_done v.reads false k.tables o.id in (ap (λ z. defs_of z.state.tables) same, ap (λ z. undone o.id 0 z.state.tables) same ∙ none_undone o.id 0 k.tables sound.each)
  by_kind false e (t ∷ []) short own = let is : v.reads t ≡ Some p.stmt = ap v.reads (sym (own refl t (inl refl))) ∙ p.is in
      (one_keeps_defs v.reads k.tables o.id t p.stmt is not_creating, one_undone v.reads k.tables o.id sound t (subst (CreatesNot v.reads k.tables o.id sound) (sym is) not_creating))
  by_kind false e (t ∷ u ∷ ts) short own = absurd (short refl)

  pub both : (defs_of left ≡ defs_of k.tables) × (undone o.id 0 left ≡ k.tables)
  both = by_kind o.explicit refl (texts_so_far p.x o) (is_short v p.x o its_alone) own_texts

  defs_stay : defs_of m.tables ≡ defs_of k.tables
  defs_stay = ap defs_of tables_are ∙ both.0

  -- ---- what the cells have is what the journal leads to

  legal : IsLegal v.reads (ledger.items ++ item ∷ [])
  legal = (commit_is_legal v cells seats st j s there p o open_one open_end r commits acts time).legal

  sound_then : (n : ℕ) → m.has n ≡ false → Sound n 0 m.tables
  sound_then n e = legal_sound v.reads (ledger.items ++ item ∷ []) n legal (others n (ledger.items ++ item ∷ []) (none_of_id n (ledger.items ++ item ∷ []) e))

  abbrev versions_then : ℕ → List Version
  versions_then id = versions_of m.tables id

  made_before : (id : ℕ) (w : Version) → In w (versions_then id) → (n : ℕ) → m.has n ≡ false → MadeBefore n 0 w
  made_before id w i n e = all_in (MadeBefore n 0) (versions_then id) w (before_at n 0 id m.tables (sound_then n e).each) i

  start_within : (id : ℕ) (w : Version) → In w (versions_then id) → (b : Bool) → m.has w.start.0 ≡ b → m.has w.start.0 ≡ true
  start_within id w i true e = e
  start_within id w i false e = let l : w.start.1 < 0 = (made_before id w i w.start.0 e).start refl in absurd (omega arith)

  end_if : (id : ℕ) (w : Version) → In w (versions_then id) → (e : EventId) → w.end ≡ Some e → (b : Bool) → m.has e.0 ≡ b → (if b then Some e else None) ≡ Some e
  end_if id w i e is true h = refl
  end_if id w i e is false h = let l : e.1 < 0 = subst (EndsBefore e.0 0) is (made_before id w i e.0 h).end refl in absurd (omega arith)

  end_within : (id : ℕ) (w : Version) → In w (versions_then id) → (x : Option EventId) → w.end ≡ x → end_committed m.has x ≡ x
  end_within id w i None is = refl
  end_within id w i (Some e) is = end_if id w i e is (m.has e.0) refl

  next_not : m.has ledger.next ≡ false
  next_not = has_other o.id p.x.transcript.session time o.explicit lines ledger.items ledger.next (λ e. let l = below v history ledger seats st.transcripts_agree j p.x o has in absurd (omega arith))
      ∙ has_not ledger.next ledger.items (each_weaker (λ i. i < ledger.next) (λ i. i ≢ ledger.next) (λ i l e. absurd (omega arith)) (ids_of ledger.items) (drawn v history ledger seats st.transcripts_agree))

  versions_are : (id : ℕ) → 1 ≤ id → committed_at m.has (c.versions id) ≡ versions_then id
  versions_are id l = committed_more o.id k.has m.has (has_own o.id p.x.transcript.session time o.explicit lines ledger.items) (λ n ne. has_other o.id p.x.transcript.session time o.explicit lines ledger.items n ne)
      (c.versions id) (versions_then id) (st.rows_agree.rising id l) (rising_at ledger.next 0 id m.tables (sound_then ledger.next next_not).each)
      (its_touched v cells seats st j s there p o open_one open_end r commits acts id l ∙ ap (λ (T : Tables). touched o.id (versions_of T id)) (sym tables_are))
      (st.tables_are_serial.versions id l ∙ ap (λ (T : Tables). versions_of T id) (sym both.1) ∙ ap (λ (T : Tables). versions_of (undone o.id 0 T) id) (sym tables_are) ∙ undone_at o.id 0 m.tables id)
      (each_all (IsWithin m.has) (versions_then id) (λ w i. record { start = start_within id w i (m.has w.start.0) refl; end = end_within id w i w.end refl }))

  -- ---- the seat

  abbrev place : ℕ
  place = tx_count ledger.items + 1

  abbrev ended_with : List Line → OpenTransaction
  ended_with ls = ending (committed place) ls o

  abbrev session_with : List Line → Session
  session_with ls = at_moment time (at_place (Some (ended_with ls)) (inside p.text (answering r None)) p.x)

  abbrev seat_with : List Line → SeatState
  seat_with ls = marking place (sits s (session_with ls))

  abbrev t : SeatState
  t = seat_with lines

  abbrev y : Session
  y = session_with lines

  abbrev q : OpenTransaction
  q = ended_with lines

  own : (P : Session → OpenTransaction → Type 0) → P y q → (z : Session) (u : OpenTransaction) → Own t z u → P z u
  own P h = at_own t y q P refl refl h

  was : (P : Session → OpenTransaction → Type 0) → P p.x o → (z : Session) (u : OpenTransaction) → Own s z u → P z u
  was P h = at_own s p.x o P p.role open_one h

  is_fixed : (z : Session) (u : OpenTransaction) → Own t z u → u.end ≡ unfixed → ⊥
  is_fixed = own (λ z u. u.end ≡ unfixed → ⊥) (λ e. let f : committed place ≡ unfixed = e in cc)

  abbrev Covered : Session → OpenTransaction → Type 0
  Covered z u = (i : ℕ) → KeepsLocks u i → Each (λ l. Each (Holds (c.holds i) u.id) (requests_in v (defs_of k.tables) u.explicit i l.0)) (script_so_far z u)

  abbrev new : Own t y q
  new = record { role = refl; open_one = refl }

  not_answer : (explicit : Bool) (d : Stmt) (stage : StatementProgress) → Commits explicit d stage r → (reply : Reply) (def : TableDef) → stage ≡ answering reply (Some def) → ⊥
  not_answer true stmt.Commit begun f reply def e = cc
  not_answer false d (replied b) f reply def e = cc
  not_answer false d (made after true) f reply def e = cc
  not_answer explicit d stage f reply def e = absurd f

  -- it adds no index
  added_not : (explicit : Bool) (d : Stmt) (stage : StatementProgress) → Commits explicit d stage r → (after : TableDef) → HasAdded (inside p.text stage) o after → (def : TableDef) × (stage ≡ made def true)
  added_not explicit d (made def true) f after a = (def, refl)
  added_not explicit d (answering reply (Some def)) f after a = absurd (not_answer explicit d (answering reply (Some def)) f reply def refl)
  added_not explicit d begun f after a = absurd a
  added_not explicit d (found named fresh) f after a = absurd a
  added_not explicit d (made def false) f after a = absurd a
  added_not explicit d (going_back seq cells) f after a = absurd a
  added_not explicit d (replied reply) f after a = absurd a
  added_not explicit d (answering reply None) f after a = absurd a
  added_not explicit d (refused reply) f after a = absurd a

  not_made : (def : TableDef) → p.stage ≡ made def true → ⊥
  not_made def e = let at : p.x.place ≡ inside p.text (made def true) = p.place ∙ ap (λ (z : StatementProgress). inside p.text z) e in
      let looked = subst (LookedAt v c (defs_of k.tables) o.id o.explicit) at (st.locks_cover.looked j p.x o has open_end) in
      let got = subst (λ z. IsAfter k.tables z def) p.is (subst (IsGotAt v k.tables (HasAlone c o.id) (not (k.has o.id))) at (st.locks_cover.got j p.x o has looked.lock)).1 in
      let no : as_before ≡ in_place def = sym (change_set_keeps k.tables p.stmt not_creating) ∙ got in cc

  adds_not : (after : TableDef) → HasAdded p.x.place o after → ⊥
  adds_not after a = let w = added_not o.explicit p.stmt p.stage commits after (subst (λ z. HasAdded z o after) p.place a) in not_made w.0 w.1

  turns : Turns v c k st.catalog.defs s t
  turns = record {
    came = λ i h e w. record { x = p.x; o = o; own = record { role = p.role; open_one = open_one }; is = own (λ z u. u.id ≡ h.tx → o.id ≡ h.tx) (λ f. f) w.x w.o w.own w.is };
    locks = λ i h e w. was (λ z u. u.id ≡ h.tx → In i u.visited → (In i u.released → ⊥) → MayHoldLock t i h)
        (λ mine visited free. record { x = y; o = q; own = new; mine = mine; visited = visited; unreleased = free })
        w.x w.o w.own w.mine w.visited w.unreleased;
    stands = λ z u text w alone out exclusive stands acted. was (λ a b. b.explicit ≡ false → text_at a.place ≡ Some text → HasActed a.place → StillStands t a b text)
        (λ e f g. record { y = y; p = q; own = new; is = refl; alone = e; stands = sym in_text ∙ f; acted = tt; adding = λ after i a. absurd (adds_not after a.added) })
        z u w alone stands acted;
    script = λ z u w e. absurd (is_fixed z u w e);
    trees = λ z u w e. absurd (is_fixed z u w e);
    cover = own Covered (λ i free. subst (Each (λ l. Each (Holds (c.holds i) o.id) (requests_in v (defs_of k.tables) o.explicit i l.0))) (sym (append-nil lines)) (st.locks_cover.cover j p.x o has i free));
    unreleased = λ z u w e. absurd (is_fixed z u w e);
    looked = λ z u w e. absurd (is_fixed z u w e);
    definitions = λ z u n w e l. own (λ a b. EndsAt b.end n → defs_of k.tables ≡ defs_of (k.after n)) (λ f. ap (λ (J : List JournalItem). defs_of (serial v.reads J)) (sym (upto_past o.id p.x.transcript.session time o.explicit lines ledger.items n (omega arith)))) z u w e;
    got = λ z u w l. own (λ a b. IsGotAt v k.tables (HasAlone c b.id) (not (k.has b.id)) a.place) tt z u w;
    owes = own (Owes v c k st.catalog.defs) (record {
      carried = λ e. absurd (is_fixed y q new e);
      indexed = λ e. absurd (is_fixed y q new e);
      looked_first = λ e. absurd (is_fixed y q new e);
      dropping = λ d. absurd d;
      own = λ e. absurd (is_fixed y q new e);
      before = λ e. absurd (is_fixed y q new e);
      back = tt;
      explicit = tt;
    });
  }

  -- ---- the journal

  abbrev after : List SeatState
  after = slice_set seats j t

  -- it has a lock in the catalog, since it left an event
  requests_catalog : RequestsCatalog v (defs_of k.tables) o.explicit (texts_so_far p.x o)
  requests_catalog = ⊎_elim (λ w. w) (λ n. absurd (some_event v cells seats st j s there p o open_one open_end r commits acts (nothing n))) (requests_or_not v (defs_of k.tables) o.explicit (texts_so_far p.x o))
    where
      nothing : Each (λ t. (text_requests (defs_of k.tables) o.explicit (v.reads t)).catalog ≡ None) (texts_so_far p.x o) → all_events o.id left ≡ []
      nothing n = none_at_all o.id left
          (λ id l. events_of_touched o.id id (versions_of left id) ∙ ap (λ (V : List Version). events_in o.id id (touched o.id V)) (does_nothing v.reads k.tables o.id o.explicit (texts_so_far p.x o) (is_short v p.x o its_alone) n id)
          ∙ ap (events_in o.id id) (untouched_at o.id k.tables id sound))
          (subst (λ (T : Tables). IdsFrom 1 (defs_of T)) tables_are (sound_then ledger.next next_not).ids)

  -- so nobody else has the catalog alone
  none_alone : (i : ℕ) (z : Session) (u : OpenTransaction) → i ≢ j → HasOpen seats i z u → HasAlone c u.id → ⊥
  none_alone = nobody_alone v c seats st.locks_agree k.tables j p.x o has (texts_so_far p.x o) (locked v cells seats st j p.x o has open_end) requests_catalog

  own_text : (text : Text) (d : Stmt) → Some p.text ≡ Some text → v.reads text ≡ Some d → creates d ≡ false
  own_text text d e is = let same : p.text ≡ text = cc in let both : Some p.stmt ≡ Some d = sym p.is ∙ ap v.reads same ∙ is in let one : p.stmt ≡ d = cc in ap creates (sym one) ∙ not_creating

  none_creates : (x : Session) (d : Stmt) → Creates v c k after x d → ⊥
  none_creates x d h = ⊎_elim
      (λ (f : (h.j ≡ j) × Own t x h.o). let a : creates d ≡ false = own_text h.text d (own (λ a b. text_at a.place ≡ Some h.text → Some p.text ≡ Some h.text) (λ g. g) x h.o f.1 h.stands) h.is in let g : true ≡ false = sym h.creates ∙ a in cc)
      (λ (f : (h.j ≢ j) × HasOpen seats h.j x h.o). none_alone h.j x h.o f.0 f.1 h.exclusive)
      (was_open seats j s t there h.j x h.o h.has)

  named_same : (named : Option NamedPart) (x : Option Stmt) → IsNamed k.tables x named → IsNamed m.tables x named
  named_same named None g = g
  named_same named (Some d) g = (g.0, g.1, g.2 ∙ ap (λ (ds : Defs). find_part ds g.0) (sym defs_stay))

  got_same : (E : Type 0) (a b : Bool) (text : Text) → (E → ⊥) → (stage : StatementProgress) → IsGot k.tables E a (v.reads text) stage → IsGot m.tables E b (v.reads text) stage
  got_same E a b text free (found named fresh) g = named_same named (v.reads text) g
  got_same E a b text free (made def indexed) g = absurd (free g.2)
  got_same E a b text free (answering reply (Some def)) g = absurd (free g.2)
  got_same E a b text free (answering reply None) g = tt
  got_same E a b text free begun g = tt
  got_same E a b text free (going_back seq cells) g = tt
  got_same E a b text free (replied reply) g = same_replied k.tables m.tables defs_stay (v.reads text) g
  got_same E a b text free (refused reply) g = tt

  got_at : (E : Type 0) (a b : Bool) (x : SessionStatus) → (E → ⊥) → IsGotAt v k.tables E a x → IsGotAt v m.tables E b x
  got_at E a b between free g = tt
  got_at E a b (inside text stage) free g = got_same E a b text free stage g
  got_at E a b leaving free g = tt

  defs_after : (n : ℕ) → (n ≤ tx_count ledger.items) ⊎ (tx_count ledger.items < n) → defs_of k.tables ≡ defs_of (k.after n) → defs_of m.tables ≡ defs_of (m.after n)
  defs_after n (inl l) e = defs_stay ∙ e ∙ ap (λ (J : List JournalItem). defs_of (serial v.reads J)) (sym (upto_within o.id p.x.transcript.session time o.explicit lines ledger.items n l))
  defs_after n (inr l) e = ap (λ (J : List JournalItem). defs_of (serial v.reads J)) (sym (upto_all o.id p.x.transcript.session time o.explicit lines ledger.items n l))

  no_count : (id : ℕ) (ws : List Version) → counted o.id id p.x.place ws ≡ ws
  no_count = counts v cells seats st j s there p o open_one open_end r commits acts

  says : Says v c k m after
  says = record {
    defs = defs_stay;
    has = had_not o.id p.x.transcript.session time o.explicit lines ledger.items;
    after = λ n e. defs_after n (within_or_past n) e;
    versions = versions_are;
    none_creates = none_creates;
    got = λ i z u w l g. ⊎_elim
        (λ (f : (i ≡ j) × Own t z u). own (λ a b. IsGotAt v m.tables (HasAlone c b.id) (not (m.has b.id)) a.place) tt z u f.1)
        (λ (f : (i ≢ j) × HasOpen seats i z u). got_at (HasAlone c u.id) (not (k.has u.id)) (not (m.has u.id)) z.place (none_alone i z u f.0 f.1) g)
        (was_open seats j s t there i z u w);
    carried = λ ds i z u w e h. ⊎_elim
        (λ (f : (i ≡ j) × Own t z u). absurd (is_fixed z u f.1 e))
        (λ (f : (i ≢ j) × HasOpen seats i z u). inr (subst (λ (T : Tables). defs_of (script_end v T z u).state.tables ≡ defs_of T) (sym tables_are)
        (undone_end v cells seats st j p.x o has open_end no_count none_alone i z u f.0 f.1 e left (sound_left v cells seats st j p.x o has open_end no_count none_alone i z u f.0 f.1 e)).0))
        (was_open seats j s t there i z u w);
    scripts = λ i z u w e h. ⊎_elim
        (λ (f : (i ≡ j) × Own t z u). absurd (is_fixed z u f.1 e))
        (λ (f : (i ≢ j) × HasOpen seats i z u). subst (λ (T : Tables). IsOfItsScript v c T z u) (sym tables_are) (script_stays v cells seats st j p.x o has open_end i z u f.0 f.1 e h))
        (was_open seats j s t there i z u w);
    trees = λ i z u w e h. ⊎_elim
        (λ (f : (i ≡ j) × Own t z u). absurd (is_fixed z u f.1 e))
        (λ (f : (i ≢ j) × HasOpen seats i z u). record { trees = h.trees; open_savepoints = subst (λ (T : Tables). AreOpenSavepoints u.id u.open_savepoints (script_end v T z u).state.saved) (sym tables_are) (savepoints_stay v cells seats st j p.x o has open_end i z u f.0 f.1 e h.open_savepoints) })
        (was_open seats j s t there i z u w);
  }
    where
      within_or_past : (n : ℕ) → (n ≤ tx_count ledger.items) ⊎ (tx_count ledger.items < n)
      within_or_past n = ⊎_elim (λ (l : tx_count ledger.items < n). inr l) (λ l. inl (omega arith)) (cases_lt (tx_count ledger.items) n)

  -- ---- the history

  pub record AgreesAt (ls : List Line) (anonymous_acts : List SessionAct) (us : List SeatState) : Type 0 where
    pub session : ℕ
    pub agree : TranscriptsAgree v (history ++ map (by session) anonymous_acts) (with_item entry (Tx o.id p.x.transcript.session time o.explicit ls) ledger) us
    pub own : agree.owner session ≡ j

  abbrev Agrees : Type 0
  Agrees = AgreesAt lines (commit_acts p.x time place) after

  at_history : (n : ℕ) (anonymous_acts : List SessionAct) (ls : List Line) (us : List SeatState) → Owned v (history ++ map (by n) anonymous_acts) (with_item entry (Tx o.id p.x.transcript.session time o.explicit ls) ledger) us n j → AgreesAt ls anonymous_acts us
  at_history n anonymous_acts ls us a = record { session = n; agree = a.0; own = a.1 }

  abbrev right_with : List Line → Type 0
  right_with ls = AgreesWith v.reads k.tables o.id o.explicit ls (script v.reads o.explicit k.tables o.id (map (λ l. l.0) ls))

  right : right_with lines
  right = (next_item v cells seats st j s there p o open_one open_end r commits acts p.x.transcript.session time).0

  abbrev stays_with : List Line → Type 0
  stays_with ls = defs_of (script v.reads o.explicit k.tables o.id (map (λ l. l.0) ls)).state.tables ≡ defs_of k.tables

  kind : kind_of (v.meaning.reads p.text) ≡ kind_of (Some p.stmt)
  kind = ap kind_of (v.real.reading p.text ∙ p.is)

  -- with COMMIT
  by_commit : p.x.place ≡ inside p.text begun → o.explicit ≡ true → p.stmt ≡ stmt.Commit → r ≡ reply.NoOutput → Agrees
  by_commit at explicit is quiet = let e : lines ≡ o.script = ap (λ (x : SessionStatus). o.script ++ lines_at x) at ∙ append-nil o.script in
      let y1 : Session = at_moment time (at_place (Some (ending (committed place) o.script o)) (inside p.text (answering r None)) p.x) in
      subst₂ (λ (ls : List Line) (more : List SessionAct). AgreesAt ls more (slice_set seats j (seat_with ls))) (sym e) (ap (λ (q : SessionStatus). map act.says (lines_at q) ++ act.commits time place ∷ []) (sym at))
      (at_history _ (act.commits time place ∷ []) o.script (slice_set seats j (seat_with o.script))
      (commit_act v ledger seats history st.transcripts_agree j s there p.x p.role o open_one open_end time p.text in_text r (ap asking at)
      (from_at v.meaning p.x y1 (inside p.text begun) (Some o) (placed place ∷ []) at open_one refl (λ n i f. subst (λ (a : Reply). GoesAt v.meaning n (inside p.text begun) (Some o) (inside p.text (answering a None)) (Some (ending (committed place) o.script o)) (placed place ∷ [])) (sym quiet) (at_commit v.meaning n p.text o place o.script explicit open_end (kind ∙ ap (λ z. kind_of (Some z)) is))))
      (subst right_with e right) (inl (subst stays_with e both.0))))

  -- with a statement that is a transaction of its own
  by_line : (w : Text) (stage : StatementProgress) → p.x.place ≡ inside p.text stage → last_line p.text stage ≡ (p.text, w) ∷ [] → o.explicit ≡ false
      → GoesFrom v.meaning p.x (at_place (Some (saying (p.text, w) o)) (inside p.text (answering r None)) p.x) (said (p.text, w) ∷ []) → Agrees
  by_line w stage at counts own goes = let line : Line = (p.text, w) in
      let f : lines_at p.x.place ≡ line ∷ [] = ap lines_at at ∙ counts in
      let e : lines ≡ o.script ++ line ∷ [] = ap (λ (ls : List Line). o.script ++ ls) f in
      let x1 : Session = at_place (Some (saying line o)) (inside p.text (answering r None)) p.x in
      let s1 : SeatState = sits s x1 in
      let y1 : Session = at_moment time (at_place (Some (ending (committed place) (o.script ++ line ∷ []) (saying line o))) (inside p.text (answering r None)) x1) in
      let t1 : SeatState = marking place (sits s1 y1) in
      let said_it : ActsBy v history (act.says line ∷ []) ledger (slice_set seats j s1) j = told v ledger seats history st.transcripts_agree j s there p.x p.role o open_one open_end its_alone line (λ a i. subst (λ (ls : List Line). In a (map (λ l. l.0) (o.script ++ ls))) f i) in_text (answering r None) goes in
      subst₂ (λ (ls : List Line) (us : List SeatState). AgreesAt ls (commit_acts p.x time place) us) (sym e) (set_again seats j s1 t1 ∙ ap (λ (ls : List Line). slice_set seats j (seat_with ls)) (sym e))
      (subst (λ (ls : List Line). AgreesAt (o.script ++ line ∷ []) (map act.says ls ++ act.commits time place ∷ []) (slice_set (slice_set seats j s1) j t1)) (sym f)
      (at_history said_it.session (act.says line ∷ act.commits time place ∷ []) (o.script ++ line ∷ []) (slice_set (slice_set seats j s1) j t1)
      (then_more v history (by said_it.session (act.says line) ∷ []) (by said_it.session (act.commits time place) ∷ []) _ _
      (commit_by v ledger (slice_set seats j s1) _ said_it.agree j s1 (set_here seats j s1 s there)
      x1 refl (saying line o) refl open_end time p.text refl r refl
      (from_at v.meaning x1 y1 (inside p.text (answering r None)) (Some (saying line o)) (placed place ∷ []) refl refl refl (λ n i f. at_own_end v.meaning n p.text r None (saying line o) (committed place) (o.script ++ line ∷ []) own open_end tt f))
      (subst right_with e right) (inl (subst stays_with e both.0)) said_it.session said_it.now))))

  own_fits : (n : ℕ) (stage : StatementProgress) → o.explicit ≡ false → Fits v.meaning n (inside p.text stage) (Some o) → FitsWith v.meaning false n p.text stage o.id o.end
  own_fits n stage own f = fits_if v.meaning n p.text stage o false own f

  by_stage : (explicit : Bool) → o.explicit ≡ explicit → (d : Stmt) → p.stmt ≡ d → (stage : StatementProgress) → Commits explicit d stage r → p.x.place ≡ inside p.text stage → Agrees
  by_stage true explicit stmt.Commit is begun f at = by_commit at explicit is f
  by_stage false own d is (replied b) f at = by_line (reply_text b) (replied b) at refl own
      (from_at v.meaning p.x _ (inside p.text (replied b)) (Some o) (said (p.text, reply_text b) ∷ []) at open_one refl (λ n i z. let g = own_fits n (replied b) own z in
      at_said v.meaning n p.text r o (replied b) (reply_text b) own (v.real.writes r ∙ ap reply_text f) refl refl open_end g.0 (subst (FitsOwn v.meaning n p.text) (sym f) g.1.0) (subst (IsSaid v.meaning p.text) (sym f) g.1.1)))
  by_stage false own d is (made def true) f at = by_line (reply_text reply.Made) (made def true) at refl own
      (from_at v.meaning p.x _ (inside p.text (made def true)) (Some o) (said (p.text, reply_text reply.Made) ∷ []) at open_one refl (λ n i z. let g = own_fits n (made def true) own z in
      at_said v.meaning n p.text r o (made def true) (reply_text reply.Made) own (v.real.writes r ∙ ap reply_text f) refl refl open_end g.0 (subst (FitsOwn v.meaning n p.text) (sym f) (made_fits v.meaning n p.text o.end g.0)) (subst (IsSaid v.meaning p.text) (sym f) refl)))
  by_stage explicit own d is stage f at = absurd f

  agrees : Agrees
  agrees = by_stage o.explicit refl p.stmt refl p.stage commits p.place

  -- ---- all

  over : (P : Contents → Type 0) → P c → P (contents (slice_set cells ledger_at (Ledger (with_item entry item ledger))))
  over P h = subst P (sym (same_contents cells ledger (with_item entry item ledger) st.are_cells.has_ledger)) h

  still_open : (i : ℕ) (z : Session) (u : OpenTransaction) → HasOpen after i z u → u.end ≡ unfixed → (i ≢ j) × HasOpen seats i z u
  still_open i z u w e = ⊎_elim (λ (f : (i ≡ j) × Own t z u). absurd (is_fixed z u f.1 e)) (λ f. f) (was_open seats j s t there i z u w)

  pub commit_stands : StandsAfter v j history (commit_acts p.x time place) (slice_set cells ledger_at (Ledger (with_item entry item ledger))) after
  commit_stands = record {
    session = agrees.session;
    stands = record {
      catalog = st.catalog;
      ledger = with_item entry item ledger;
      are_cells = are_cells cells ledger (with_item entry item ledger) st.are_cells.has_ledger st.catalog ledger st.are_cells;
      ledger_is_legal = commit_is_legal v cells seats st j s there p o open_one open_end r commits acts time;
      tables_are_serial = over (λ a. TablesAreSerial v a m st.catalog.defs st.catalog.creator after) (tables_more v c k m after says st.catalog.defs st.catalog.creator (tables_turn v c k st.catalog.defs seats j s t there turns st.catalog.creator st.tables_are_serial));
      rows_agree = over (λ a. RowsAgree v a m after) (subst (λ (T : Tables). RowsAgree v c (record { tables = T; after = m.after; has = m.has }) after) (sym tables_are)
          (rows_then v cells seats st j p.x o has open_end no_count none_alone m.has (has_own o.id p.x.transcript.session time o.explicit lines ledger.items) (λ n ne. has_other o.id p.x.transcript.session time o.explicit lines ledger.items n ne) both.0 after m.after
          still_open (rows_turn v c k st.catalog.defs seats j s t there turns st.rows_agree)));
      open_scripts = over (λ a. OpenScripts v a m after) (scripts_more v c k m after says (scripts_turn v c k st.catalog.defs seats j s t there turns st.open_scripts));
      locks_cover = over (λ a. LocksCover v a m after) (cover_more v c k m after says (cover_turn v c k st.catalog.defs seats j s t there turns st.locks_cover));
      locks_agree = over (λ a. LocksAgree a after) (agree_turn v c k st.catalog.defs seats j s t there turns st.locks_agree);
      trees_are_of_events = over (λ a. TreesAreOfEvents v a m after) (trees_more v c k m after says (trees_turn v c k st.catalog.defs seats j s t there turns st.trees_are_of_events));
      transcripts_agree = agrees.agree;
    };
    mine = each_so (commit_acts p.x time place) agrees.own;
  }

-- A commit keeps cells and seats standing together, where its statement changes no definitions.
pub commits_stand : (v : Server) (cells : List Cell) (seats : List SeatState) {history : History} → Stands v history cells seats → (j : ℕ) (s : SeatState) → get_elem? seats j ≡ some s
    → (time : ℕ) (c d : LedgerCell) (t : SeatState) → get_elem? cells ledger_at ≡ some (Ledger c) → (w : CommitsNow v time c s d t) → creates w.stands.stmt ≡ false
    → StandsAfter v j history (commit_acts w.stands.x time (tx_count c.items + 1)) (slice_set cells ledger_at (Ledger d)) (slice_set seats j t)
commits_stand v cells seats {history} st j s there time c d t here visit free = from c (the_ledger cells st.catalog st.ledger c st.are_cells here) visit free
  where
    from : (e : LedgerCell) → e ≡ st.ledger → (w : CommitsNow v time e s d t) → creates w.stands.stmt ≡ false → StandsAfter v j history (commit_acts w.stands.x time (tx_count e.items + 1)) (slice_set cells ledger_at (Ledger d)) (slice_set seats j t)
    from e is w f = subst (λ (l : LedgerCell). StandsAfter v j history (commit_acts w.stands.x time (tx_count l.items + 1)) (slice_set cells ledger_at (Ledger d)) (slice_set seats j t)) (sym is)
        (subst₂ (λ (l : LedgerCell) (u : SeatState). StandsAfter v j history (commit_acts w.stands.x time (tx_count st.ledger.items + 1)) (slice_set cells ledger_at (Ledger l)) (slice_set seats j u))
        (ap (with_item (entry_of_trees v w.o w.stands.x.transcript.session time) (Tx w.o.id w.stands.x.transcript.session time w.o.explicit (script_so_far w.stands.x w.o))) (sym is) ∙ sym w.cell)
        (ap (λ (l : LedgerCell). marking (tx_count l.items + 1) (sits s (at_moment time (at_place (Some (ending (committed (tx_count l.items + 1)) (script_so_far w.stands.x w.o) w.o)) (inside w.stands.text (answering w.reply None)) w.stands.x)))) (sym is) ∙ sym w.seat)
        (commit_stands v cells seats st j s there w.stands w.o w.open_one w.unfixed w.reply w.commits w.acts time f))
