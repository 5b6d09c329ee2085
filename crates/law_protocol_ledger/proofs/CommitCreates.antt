-- The visit in which a statement that changes definitions is committed: nobody else has any lock then.
use Rattle.law_frame.specs.Alters.{Alters}
use Rattle.law_journal.proofs.SoFar.{stay_fit}
use Rattle.law_journal.specs.Fits as row_fits
use Rattle.spec_protocol.specs.TablesAreSerial.{AreIndexes, IsIndexed, StandsAs, TableStands, IsCarried}
use Rattle.sql_types.specs.declared.lock.Mode.TheVariants.{X}
use Rattle.spec_protocol.specs.LocksCover.{HasLock, LiesUnder, EndLiesUnder, IsUnderLocks, Belongs, IsDropping}
use Rattle.spec_protocol.specs.CommittedTxs.{with_committed_end}
use Rattle.std.proofs.Common.{◌≡◌, ◌≢◌, ℕ, ◌+◌, ◌<◌, ◌≤◌, ◌⊎◌, not, Bool, true, false, List, [], ◌∷◌, ◌++◌, map, Option, Some, None, slice_set, refl, sym, ap, ◌∙◌, subst, subst₂, inl, inr, ⊎_elim, append-nil, arith, ap₂, suc, zero}
use Rattle.std.proofs.lemmas.Bool.{cases_eq}
use Rattle.std.specs.Prelude.{if◌then◌else◌, ◌==◌, is_some}
use mathlib.Core.Option.{some}
use lib.ListN.{get_elem?}
use Rattle.sql_types.specs.declared.journal.JournalItem.{JournalItem}
use Rattle.sql_types.specs.declared.journal.JournalItem.TheVariants.{Tx}
use Rattle.sql_types.specs.declared.reply.Reply.{Reply}
use Rattle.sql_types.specs.declared.reply.Reply.TheVariants as reply
use Rattle.sql_types.specs.declared.statement.Stmt.{Stmt}
use Rattle.sql_types.specs.declared.statement.Stmt.TheVariants as stmt
use Rattle.sql_types.specs.declared.version.Version.{Version}
use Rattle.spec_model.specs.Catalog.{Defs, Tables, defs_of, versions_of}
use Rattle.spec_model.specs.Journals.{Line, tx_count, serial, AgreesWith, IsLegal}
use Rattle.spec_model.specs.Reach.{creates, lets_change}
use Rattle.spec_model.specs.Replies.{reply_text}
use Rattle.spec_model.specs.Rows.{EventId, live}
use Rattle.spec_model.specs.Runs.{EndsBefore, MadeBefore, Sound, Rising}
use Rattle.spec_model.specs.Script.{script}
use Rattle.spec_model.specs.Touched.{touched}
use Rattle.spec_model.specs.Undo.{versions_undone}
use Rattle.law_frame.proofs.AtTable.{rising_at, before_at}
use Rattle.law_frame.proofs.LegalSound.{legal_sound}
use Rattle.spec_history.specs.Lists.{Text, Each, In}
use Rattle.spec_history.specs.Journals.{ids_of}
use Rattle.spec_history.specs.Refusals.{EndsAt}
use Rattle.spec_history.specs.Transactions.{unfixed, committed}
use Rattle.spec_history.specs.Acts.{SessionAct, by}
use Rattle.spec_history.proofs.Trace.{each_weaker}
use Rattle.spec_protocol.specs.Server.{Server}
use Rattle.spec_protocol.specs.Cells.{LedgerCell, Cell, Ledger, ledger_at, catalog_at, cell_of, Index, TableCell}
use Rattle.spec_protocol.specs.CommittedTxs.{end_committed, committed as committed_at}
use Rattle.spec_protocol.specs.Contents.{Contents, Known, contents, known, HasAlone}
use Rattle.spec_protocol.specs.Seats.{StatementProgress, begun, found, made, going_back, replied, answering, refused, SessionStatus, between, inside, leaving, OpenTransaction, Session, SeatState}
use Rattle.spec_protocol.specs.OpenOnes.{HasOpen, text_at, last_line, lines_at, script_so_far, texts_so_far, script_end}
use Rattle.spec_protocol.specs.RequestsIn.{requests_in, Holds, of_catalog, of_cell, requests_at}
use Rattle.spec_protocol.specs.TablesAreSerial.{Creates, TablesAreSerial, HasAdded, IsAdding, IsSortedProjection, KeysDiffer, def_at, ordinals_of}
use Rattle.spec_protocol.specs.OpenScripts.{IsOfItsScript, OpenScripts, counted}
use Rattle.spec_protocol.specs.LocksCover.{KeepsLocks, IsGot, IsGotAt, LocksCover, LookedAt, LookedFirst}
use Rattle.spec_protocol.specs.TreesAreOfEvents.{AreOpenSavepoints, TreesAreOfEvents}
use Rattle.spec_protocol.specs.LocksAgree.{LocksAgree}
use Rattle.spec_protocol.specs.TranscriptsAgree.{TranscriptsAgree}
use Rattle.spec_history.specs.Facts.{said, placed}
use Rattle.spec_protocol.specs.OpenOnes.{last_line}
use Rattle.spec_protocol.specs.TranscriptsSoFar.{Fits, FitsWith, FitsOwn, IsSaid}
use Rattle.law_protocol_steps.proofs.TranscriptActs.{GoesFrom}
use Rattle.law_protocol_steps.proofs.TranscriptProgress.{from_at, fits_if, at_said, at_own_end, made_fits}
use Rattle.spec_protocol.specs.StandTogether.{History, Stands, StandsAfter}
use Rattle.spec_protocol.specs.Moves.{saying, ending, at_place, at_moment, sits, marking, InStatement}
use Rattle.spec_protocol.specs.LedgerVisits.{Commits, is_read_only, with_item, CommitsNow, entry_of_trees}
use Rattle.law_protocol_steps.proofs.CommitsLedger.{its_script, its_touched, next_item, commit_is_legal}
use Rattle.spec_model.specs.Agreement.{columns_at}
use Rattle.spec_model.specs.ScriptRequests.{text_requests}
use Rattle.law_protocol_ledger.proofs.CommittedMore.{IsWithin, committed_more, each_all, all_in, all_pass, unchanged}
use Rattle.law_protocol_steps.proofs.Ids.{below, differ, drawn, others, has_not, outside}
use Rattle.law_protocol_steps.proofs.JournalMore.{serial_more}
use Rattle.law_protocol_ledger.proofs.KnownMore.{has_own, has_other, upto_all, none_of_id}
use Rattle.law_protocol_ledger.proofs.CommitsHistory.{commit_by}
use Rattle.law_protocol_steps.proofs.LedgerKept.{same_contents, are_cells}
use Rattle.law_protocol_steps.proofs.LedgerVisit.{the_ledger}
use Rattle.spec_protocol.proofs.Places.{set_here, set_again}
use Rattle.law_protocol_changes.proofs.SaysHistory.{told}
use Rattle.law_protocol_steps.proofs.OpenSeats.{Own, was_open}
use Rattle.law_protocol_steps.proofs.OthersScripts.{sound_for, locked, script_stays, savepoints_stay, each_map}
use Rattle.spec_protocol.specs.RowsAgree.{RowsAgree, GoesBackTo, IsExplicitAt}
use Rattle.sql_types.specs.declared.table.Part.TheVariants.{Base}
use Rattle.sql_types.specs.declared.table.TableDef.{TableDef}
use Rattle.spec_model.specs.ChangeSets.{altered, as_before, in_place, defined, change_set, Definition, new}
use Rattle.law_protocol_ledger.proofs.CommitRows.{sound_left, undone_end}
use Rattle.law_protocol_steps.proofs.CommitsLedger.{counts}
use Rattle.law_protocol_steps.proofs.OfCells.{HasLooked, looked_now, looked_so}
use Rattle.spec_protocol.specs.TreesAreOfEvents.{HasItsTrees}
use Rattle.spec_protocol.specs.TablesAreSerial.{IsUnderWay}
use Rattle.spec_protocol.specs.LocksAgree.{SeatHas}
use Rattle.spec_protocol.specs.LocksCover.{RequestsNone}
use Rattle.sql_types.specs.declared.lock.Hold.{Hold}
use Rattle.spec_model.specs.Keys.{Key, key_places, of_key, live_by_key, live_by_key_at}
use Rattle.sql_types.specs.declared.lock.Mode.{Mode}
use Rattle.sql_types.specs.declared.lock.LockRequest.{LockRequest}
use Rattle.law_protocol_steps.proofs.CatalogAlone.{alone}
use Rattle.law_frame.proofs.ByKeys.{by_keys}
use Rattle.law_protocol_ledger.proofs.CreatedTables.{created_tables, effect_defs, users_stay, Makes, index_later, made_by, makes_altered, makes_index, makes_none, makes_table, no_requests, same_request}
use Rattle.spec_model.specs.Effect.{effect}
use Rattle.law_protocol_changes.proofs.CreateVisits.{has_whole}
use Rattle.law_protocol_changes.proofs.Creating.{no_cell, x_of}
use Rattle.law_frame.proofs.UndoneVersions.{nothing_undone}
use Rattle.law_protocol_changes.proofs.ChangedRows.{rising_undone, undone_of_key}
use Rattle.spec_model.specs.Locks.{whole}
use Rattle.sql_value.specs.declared.column.ColumnDef.{ColumnDef}
use Rattle.law_protocol_steps.proofs.DefsAfter.{IndexMade, else_redefined, found_at, found_id, here_redefined, index_made, kept_append, new_append}
use Rattle.law_journal.proofs.DefLists.{defs_append, defs_redefined, redef}
use Rattle.law_protocol_steps.proofs.SeatsAfter.{one_session, Goes, each_open, open_else, open_here}
use Rattle.std.specs.List.{AllByRecursion}
use Rattle.law_protocol_changes.proofs.StepsSaid.{none_requested}
use Rattle.law_protocol_ledger.proofs.CommitsStand.{commits_stand}
use Rattle.law_protocol_end.proofs.NoneWanting.{none_wanting}
use Rattle.spec_protocol.specs.ActsOf.{commit_acts}
use Rattle.law_protocol_steps.proofs.GoesOn.{Owned, each_so, ActsBy, then_more}
use Rattle.spec_history.specs.Acts as act
use Rattle.sql_types.specs.declared.entry.TxEntry.{TxEntry}

first_looked : (place : SessionStatus) → LookedFirst place → HasLooked place
first_looked (inside text (found named true)) h = tt
first_looked (inside text (refused reply)) h = tt
first_looked (inside text (found named false)) h = absurd h
first_looked (inside text begun) h = absurd h
first_looked (inside text (made def indexed)) h = absurd h
first_looked (inside text (going_back seq cells)) h = absurd h
first_looked (inside text (replied reply)) h = absurd h
first_looked (inside text (answering reply def)) h = absurd h
first_looked between h = absurd h
first_looked leaving h = absurd h

within_same : (has : ℕ → Bool) (vs : List Version) → Each (IsWithin has) vs → committed_at has vs ≡ vs
within_same has vs h = ap (map (with_committed_end has)) (all_pass (λ v. has v.start.0) vs (each_weaker (IsWithin has) (λ v. has v.start.0 ≡ true) (λ v k. k.start) vs h))
    ∙ unchanged (with_committed_end has) vs (each_weaker (IsWithin has) (λ v. with_committed_end has v ≡ v) (λ v k i. record { values = v.values; start = v.start; end = k.end i }) vs h)

own_of : (b : Bool) (d : Stmt) (stage : StatementProgress) (r : Reply) → creates d ≡ true → Commits b d stage r → b ≡ false
own_of true stmt.Commit begun r e f = cc
own_of false d stage r e f = refl
own_of b d stage r e f = absurd f

-- it was replied to, or its index was added
pub data Ready (stage : StatementProgress) : Type 0 where
  was_replied : (b : Reply) → stage ≡ replied b → Ready stage
  was_added : (def : TableDef) → stage ≡ made def true → Ready stage

ready_of : (b : Bool) (d : Stmt) (stage : StatementProgress) (r : Reply) → creates d ≡ true → Commits b d stage r → Ready stage
ready_of true stmt.Commit begun r e f = cc
ready_of false d (replied q) r e f = was_replied q refl
ready_of false d (made def true) r e f = was_added def refl
ready_of b d stage r e f = absurd f

module _ (v : Server) (cells : List Cell) (seats : List SeatState) {history : History} (st : Stands v history cells seats) (j : ℕ) (s : SeatState) (there : get_elem? seats j ≡ some s)
    (p : InStatement v s) (o : OpenTransaction) (open_one : p.x.open_one ≡ Some o) (open_end : o.end ≡ unfixed) (r : Reply) (commits : Commits o.explicit p.stmt p.stage r) (acts : is_read_only o ≡ false) (time : ℕ)
    (creating : creates p.stmt ≡ true) where
  abbrev ledger : LedgerCell
  ledger = st.ledger

  abbrev c : Contents
  c = contents cells

  abbrev k : Known
  k = known v.reads ledger.items

  abbrev T : Tables
  T = k.tables

  abbrev lines : List Line
  lines = script_so_far p.x o

  abbrev entry : TxEntry
  entry = entry_of_trees v o p.x.transcript.session time

  abbrev item : JournalItem
  item = Tx o.id p.x.transcript.session time o.explicit lines

  abbrev m : Known
  m = known v.reads (ledger.items ++ item ∷ [])

  has : HasOpen seats j p.x o
  has = record { seat = s; there = there; role = p.role; open_one = open_one }

  abbrev left : Tables
  left = (script_end v T p.x o).state.tables

  tables_are : m.tables ≡ left
  tables_are = serial_more v.reads ledger.items item

  in_text : text_at p.x.place ≡ Some p.text
  in_text = ap text_at p.place

  own : o.explicit ≡ false
  own = own_of o.explicit p.stmt p.stage r creating commits

  ready : Ready p.stage
  ready = ready_of o.explicit p.stmt p.stage r creating commits

  its_alone : o.explicit ≡ false → o.script ≡ []
  its_alone = (its_script v cells seats st j s there p o open_one open_end r commits acts).alone

  last_of : Ready p.stage → (w : Text) × (last_line p.text p.stage ≡ (p.text, w) ∷ [])
  last_of (was_replied b e) = (reply_text b, ap (last_line p.text) e)
  last_of (was_added def e) = (reply_text reply.Made, ap (last_line p.text) e)

  lines_are : lines ≡ (p.text, (last_of ready).0) ∷ []
  lines_are = ap (λ (ls : List Line). ls ++ lines_at p.x.place) (its_alone own) ∙ ap lines_at p.place ∙ (last_of ready).1

  pub texts_are : texts_so_far p.x o ≡ p.text ∷ []
  texts_are = ap (map (λ l. l.0)) lines_are

  left_is : left ≡ (effect T o.id 0 p.stmt).tables
  left_is = ap (λ (b : Bool). (script v.reads b T o.id (texts_so_far p.x o)).state.tables) own ∙ ap (λ (ts : List Text). (script v.reads false T o.id ts).state.tables) texts_are ∙ created_tables v o.id T p.text p.stmt p.is creating

  left_defs : defs_of m.tables ≡ defs_of (defined (change_set T p.stmt).definition T)
  left_defs = ap defs_of (tables_are ∙ left_is) ∙ effect_defs T o.id 0 p.stmt

  -- ---- it has the catalog alone

  requests_are : (D : Defs) (i : ℕ) → requests_in v D o.explicit i p.text ≡ (if i == catalog_at then whole X ∷ [] else [])
  requests_are D i = ap (λ (q : Option Stmt). requests_at i (text_requests D o.explicit q)) p.is ∙ ap (λ (b : Bool). requests_at i (text_requests D b (Some p.stmt))) own
      ∙ ap₂ (λ q w. (if i == catalog_at then of_catalog q else []) ++ of_cell i w) (x_of p.stmt creating) (no_cell D p.stmt creating) ∙ append-nil (if i == catalog_at then whole X ∷ [] else [])

  its_locks : (n : ℕ) → Each (Holds (c.holds n) o.id) (requests_in v (defs_of T) o.explicit n p.text)
  its_locks n = (subst (λ (ts : List Text). Each (λ t. Each (Holds (c.holds n) o.id) (requests_in v (defs_of T) o.explicit n t)) ts) texts_are (locked v cells seats st j p.x o has open_end n)).0

  exclusive : HasAlone c o.id
  exclusive = has_whole (c.holds catalog_at) o.id (subst (Each (Holds (c.holds catalog_at) o.id)) (requests_are (defs_of T) catalog_at) (its_locks catalog_at)).0

  its_lock : HasLock c catalog_at o.id
  its_lock = record { hold = record { tx = o.id; request = whole X }; has = exclusive; mine = refl }

  no_lock : (i id : ℕ) → HasLock c i id → id ≡ o.id
  no_lock zero id l = alone v cells seats st o.id exclusive id l
  no_lock (suc i) id l = alone v cells seats st o.id exclusive id (st.locks_cover.catalog i id l)

  pub its : (i : ℕ) (h : Hold) → In h (c.holds i) → h.tx ≡ o.id
  its i h is = no_lock i h.tx (record { hold = h; has = is; mine = refl })

  differ_ids : (i : ℕ) (z : Session) (u : OpenTransaction) → i ≢ j → HasOpen seats i z u → u.id ≢ o.id
  differ_ids i z u ne w e = differ v history ledger seats st.transcripts_agree j i p.x z o u (λ q. ne (sym q)) has w (sym e)

  not_locked : (i : ℕ) (z : Session) (u : OpenTransaction) → i ≢ j → HasOpen seats i z u → (n : ℕ) → HasLock c n u.id → ⊥
  not_locked i z u ne w n l = differ_ids i z u ne w (no_lock n u.id l)

  none_alone : (i : ℕ) (z : Session) (u : OpenTransaction) → i ≢ j → HasOpen seats i z u → HasAlone c u.id → ⊥
  none_alone i z u ne w a = not_locked i z u ne w catalog_at (record { hold = record { tx = u.id; request = whole X }; has = a; mine = refl })

  -- so nobody else wants anything
  requests_none : (i : ℕ) (z : Session) (u : OpenTransaction) → i ≢ j → HasOpen seats i z u → KeepsLocks u catalog_at → Each (λ l. (text_requests (defs_of T) u.explicit (v.reads l.0)).catalog ≡ None) (script_so_far z u)
  requests_none i z u ne w free = each_weaker (λ (l : Line). Each (Holds (c.holds catalog_at) u.id) (requests_in v (defs_of T) u.explicit catalog_at l.0)) (λ (l : Line). (text_requests (defs_of T) u.explicit (v.reads l.0)).catalog ≡ None)
      (λ l h. none_of (text_requests (defs_of T) u.explicit (v.reads l.0)).catalog (of_cell catalog_at (text_requests (defs_of T) u.explicit (v.reads l.0)).cell) h) (script_so_far z u) (st.locks_cover.cover i z u w catalog_at free)
    where
      none_of : (q : Option Mode) (ws : List LockRequest) → Each (Holds (c.holds catalog_at) u.id) (of_catalog q ++ ws) → q ≡ None
      none_of None ws h = refl
      none_of (Some mode) ws h = absurd (not_locked i z u ne w catalog_at (record { hold = h.0.hold; has = h.0.has; mine = h.0.mine }))

  unreleased_so : (i : ℕ) (z : Session) (u : OpenTransaction) → HasOpen seats i z u → u.end ≡ unfixed → KeepsLocks u catalog_at
  unreleased_so i z u w e = (λ q. subst (In catalog_at) (st.locks_cover.unreleased i z u w e) q, λ q. subst (In catalog_at) (st.locks_cover.unreleased i z u w e) q)

  -- ---- what the cells have is what the journal leads to

  legal : IsLegal v.reads (ledger.items ++ item ∷ [])
  legal = (commit_is_legal v cells seats st j s there p o open_one open_end r commits acts time).legal

  sound_then : (n : ℕ) → m.has n ≡ false → Sound n 0 m.tables
  sound_then n e = legal_sound v.reads (ledger.items ++ item ∷ []) n legal (others n (ledger.items ++ item ∷ []) (none_of_id n (ledger.items ++ item ∷ []) e))

  sound : Sound o.id 0 T
  sound = sound_for v cells seats st j p.x o has open_end

  m_own : m.has o.id ≡ true
  m_own = has_own o.id p.x.transcript.session time o.explicit lines ledger.items

  m_other : (n : ℕ) → n ≢ o.id → m.has n ≡ k.has n
  m_other = has_other o.id p.x.transcript.session time o.explicit lines ledger.items

  next_not : m.has ledger.next ≡ false
  next_not = m_other ledger.next (λ e. let l = below v history ledger seats st.transcripts_agree j p.x o has in absurd (omega arith))
      ∙ has_not ledger.next ledger.items (each_weaker (λ i. i < ledger.next) (λ i. i ≢ ledger.next) (λ i l e. absurd (omega arith)) (ids_of ledger.items) (drawn v history ledger seats st.transcripts_agree))

  no_count : (id : ℕ) (ws : List Version) → counted o.id id p.x.place ws ≡ ws
  no_count = counts v cells seats st j s there p o open_one open_end r commits acts

  -- whose start or end isn't in the journal has a lock
  in_then : (id : ℕ) (w : Version) (e : EventId) → (k.has e.0 ≡ false → LiesUnder c T id w e) → m.has e.0 ≡ true
  in_then id w e u = by (k.has e.0) refl
    where
      by : (b : Bool) → k.has e.0 ≡ b → m.has e.0 ≡ true
      by true f = ⊎_elim (λ (q : e.0 ≡ o.id). ap m.has q ∙ m_own) (λ (ne : e.0 ≢ o.id). m_other e.0 ne ∙ f) (cases_eq e.0 o.id)
      by false f = let l = u f in ap m.has (sym l.mine ∙ its (cell_of id) l.hold l.has) ∙ m_own

  end_then : (id : ℕ) (w : Version) (e : Option EventId) → EndLiesUnder c k id w e → end_committed m.has e ≡ e
  end_then id w None u = refl
  end_then id w (Some e) u = ap (λ (b : Bool). if b then Some e else None) (in_then id w e u)

  all_within : (id : ℕ) → 1 ≤ id → Each (IsWithin m.has) (c.versions id)
  all_within id l = each_weaker (IsUnderLocks c k id) (IsWithin m.has) (λ w u. record { start = in_then id w w.start u.start; end = end_then id w w.end u.end }) (c.versions id) (st.locks_cover.under id l)

  left_rising : (id : ℕ) → Rising (versions_of m.tables id)
  left_rising id = rising_at ledger.next 0 id m.tables (sound_then ledger.next next_not).each

  reach : (key : Key) → lets_change key (whole X) ≡ true
  reach key = refl

  -- undone, they are those of before
  before : (id : ℕ) → 1 ≤ id → versions_of T id ≡ versions_undone o.id 0 (versions_of m.tables id)
  before id l = ⊎_elim in_catalog
      (λ (ne : cell_of id ≢ catalog_at). let e : versions_of m.tables id ≡ versions_of T id = ap (λ (U : Tables). versions_of U id) (tables_are ∙ left_is) ∙ users_stay T o.id 0 p.stmt creating id ne in
      sym (nothing_undone o.id 0 (versions_of T id) (before_at o.id 0 id T sound.each)) ∙ ap (versions_undone o.id 0) (sym e))
      (cases_eq (cell_of id) catalog_at)
    where
      in_catalog : cell_of id ≡ catalog_at → versions_of T id ≡ versions_undone o.id 0 (versions_of m.tables id)
      in_catalog e = by_keys (columns_at (defs_of T) id) (versions_of T id) (versions_undone o.id 0 (versions_of m.tables id)) (rising_at o.id 0 id T sound.each) (rising_undone o.id 0 (versions_of m.tables id) (left_rising id))
          (λ key. sym (st.rows_agree.undone id key l (record { tx = o.id; request = whole X }) held (has_not o.id ledger.items (outside v history ledger seats st.transcripts_agree j p.x o has open_end)) (reach key))
          ∙ ap (versions_undone o.id 0) (sym (no_count id _) ∙ st.rows_agree.own j p.x o has open_end id key l (record { tx = o.id; request = whole X }) held refl (reach key) ∙ ap (λ (U : Tables). of_key (columns_at (defs_of T) id) key (versions_of U id)) (sym tables_are))
          ∙ undone_of_key (columns_at (defs_of T) id) key o.id 0 (versions_of m.tables id))
        where
          held : In (record { tx = o.id; request = whole X }) (c.holds (cell_of id))
          held = subst (λ (n : ℕ). In (record { tx = o.id; request = whole X }) (c.holds n)) (sym e) exclusive

  start_within : (id : ℕ) (w : Version) → In w (versions_of m.tables id) → (b : Bool) → m.has w.start.0 ≡ b → m.has w.start.0 ≡ true
  start_within id w i true e = e
  start_within id w i false e = let l : w.start.1 < 0 = (all_in (MadeBefore w.start.0 0) (versions_of m.tables id) w (before_at w.start.0 0 id m.tables (sound_then w.start.0 e).each) i).start refl in absurd (omega arith)

  end_if : (id : ℕ) (w : Version) → In w (versions_of m.tables id) → (e : EventId) → w.end ≡ Some e → (b : Bool) → m.has e.0 ≡ b → (if b then Some e else None) ≡ Some e
  end_if id w i e is true h = refl
  end_if id w i e is false h = let l : e.1 < 0 = subst (EndsBefore e.0 0) is (all_in (MadeBefore e.0 0) (versions_of m.tables id) w (before_at e.0 0 id m.tables (sound_then e.0 h).each) i).end refl in absurd (omega arith)

  end_within : (id : ℕ) (w : Version) → In w (versions_of m.tables id) → (x : Option EventId) → w.end ≡ x → end_committed m.has x ≡ x
  end_within id w i None is = refl
  end_within id w i (Some e) is = end_if id w i e is (m.has e.0) refl

  versions_are : (id : ℕ) → 1 ≤ id → committed_at m.has (c.versions id) ≡ versions_of m.tables id
  versions_are id l = committed_more o.id k.has m.has m_own m_other (c.versions id) (versions_of m.tables id) (st.rows_agree.rising id l) (left_rising id)
      (its_touched v cells seats st j s there p o open_one open_end r commits acts id l ∙ ap (λ (U : Tables). touched o.id (versions_of U id)) (sym tables_are))
      (st.tables_are_serial.versions id l ∙ before id l)
      (each_all (IsWithin m.has) (versions_of m.tables id) (λ w i. record { start = start_within id w i (m.has w.start.0) refl; end = end_within id w i w.end refl }))

  same_versions : (id : ℕ) → 1 ≤ id → c.versions id ≡ versions_of m.tables id
  same_versions id l = sym (within_same m.has (c.versions id) (all_within id l)) ∙ versions_are id l

  -- ---- what it got

  got_stage : (stage : StatementProgress) → p.stage ≡ stage → IsGot T (HasAlone c o.id) (not (k.has o.id)) (Some p.stmt) stage
  got_stage stage e = subst (λ (q : Option Stmt). IsGot T (HasAlone c o.id) (not (k.has o.id)) q stage) p.is
      (subst (IsGotAt v T (HasAlone c o.id) (not (k.has o.id))) (p.place ∙ ap (inside p.text) e) (st.locks_cover.got j p.x o has its_lock))

  its_place : (stage : StatementProgress) → p.stage ≡ stage → p.x.place ≡ inside p.text stage
  its_place stage e = p.place ∙ ap (inside p.text) e

  -- who creates is this one
  it_is : (x : Session) (d : Stmt) (h : Creates v c k seats x d) → (x ≡ p.x) × (h.o ≡ o) × (d ≡ p.stmt)
  it_is x d h =
      let same_id : h.o.id ≡ o.id = no_lock catalog_at h.o.id (record { hold = record { tx = h.o.id; request = whole X }; has = h.exclusive; mine = refl }) in
      let same_seat : h.j ≡ j = ⊎_elim (λ (e : h.j ≡ j). e) (λ (ne : h.j ≢ j). absurd (differ_ids h.j x h.o ne h.has same_id)) (cases_eq h.j j) in
      let alike = one_session seats j x p.x h.o o (subst (λ (n : ℕ). HasOpen seats n x h.o) same_seat h.has) has in
      let texts : Some h.text ≡ Some p.text = sym h.stands ∙ ap (λ (u : Session). text_at u.place) alike.0 ∙ in_text in
      let one : h.text ≡ p.text = cc in
      let stmts : Some d ≡ Some p.stmt = sym h.is ∙ ap v.reads one ∙ p.is in
      (alike.0, alike.1, cc)

  -- what it has added is in place of the definition with this id
  record Adds (id : ℕ) : Type 0 where
    def : TableDef
    added : p.stage ≡ made def true
    here : def.id ≡ id

  adds_at : (stage : StatementProgress) (after : TableDef) → Ready stage → HasAdded (inside p.text stage) o after → stage ≡ made after true
  adds_at stage after (was_replied b e) a = absurd (subst (λ (q : StatementProgress). HasAdded (inside p.text q) o after) e a)
  adds_at stage after (was_added def e) a = let z : (def ≡ after) × (o.end ≡ unfixed) = subst (λ (q : StatementProgress). HasAdded (inside p.text q) o after) e a in e ∙ ap (λ (d : TableDef). made d true) z.0

  adds_or_not : (def : TableDef) (xs : List (List ℕ)) → AreIndexes v c k seats def xs → (xs ≡ ordinals_of def.indexes) ⊎ Adds def.id
  adds_or_not def xs h = ⊎_elim (λ (e : xs ≡ ordinals_of def.indexes). inl e)
      (λ (a : (x : Session) × (d : Stmt) × (after : TableDef) × (by : Creates v c k seats x d) × (def_at (defs_of (defined (change_set T d).definition T)) def.id ≡ Some after) × (xs ≡ ordinals_of after.indexes) × IsAdding x.place by.o after (cell_of def.id)).
      let w = it_is a.0 a.1 a.3 in
      let added : HasAdded p.x.place o a.2 = subst (λ (u : Session). HasAdded u.place o a.2) w.0 (subst (λ (u : OpenTransaction). HasAdded a.0.place u a.2) w.1 a.6.added) in
      inr (record { def = a.2; added = adds_at p.stage a.2 ready (subst (λ (q : SessionStatus). HasAdded q o a.2) p.place added); here = found_id (defs_of (defined (change_set T a.1).definition T)) def.id a.2 a.4 })) h

  in_place_of : (def : TableDef) → p.stage ≡ made def true → (change_set T p.stmt).definition ≡ in_place def
  in_place_of def e = (got_stage (made def true) e).1

  -- ---- tables

  abbrev place : ℕ
  place = tx_count ledger.items + 1

  abbrev ended_with : List Line → OpenTransaction
  ended_with ls = ending (committed place) ls o

  abbrev session_with : List Line → Session
  session_with ls = at_moment time (at_place (Some (ended_with ls)) (inside p.text (answering r None)) p.x)

  abbrev seat_with : List Line → SeatState
  seat_with ls = marking place (sits s (session_with ls))

  abbrev t : SeatState
  t = seat_with lines

  abbrev y : Session
  y = session_with lines

  abbrev q : OpenTransaction
  q = ended_with lines

  abbrev after : List SeatState
  after = slice_set seats j t

  no_indexes : (xs : List Index) → xs ≡ [] → map (λ (x : Index). x.ordinals) xs ≡ []
  no_indexes xs e = ap (map (λ (x : Index). x.ordinals)) e

  stays : (cell : TableCell) (def : TableDef) → ((a : Adds def.id) → ⊥) → TableStands v c k seats cell def → TableStands v c m after cell def
  stays cell def none h = record {
    key = h.key;
    fit = h.fit;
    in_key_order = h.in_key_order;
    keys_differ = h.keys_differ;
    projections = h.projections;
    indexes = inl (⊎_elim (λ (e : map (λ x. x.ordinals) cell.indexes ≡ ordinals_of def.indexes). e) (λ a. absurd (none a)) (adds_or_not def _ h.indexes));
  }

  stays_or_none : (cell : TableCell) (d : Option TableDef) → ((def : TableDef) → d ≡ Some def → (a : Adds def.id) → ⊥) → StandsAs v c k seats cell d → StandsAs v c m after cell d
  stays_or_none cell None none h = h
  stays_or_none cell (Some def) none h = stays cell def (none def refl) h

  -- a new table's cell is empty
  is_new : (cell : TableCell) (def : TableDef) → def.indexes ≡ [] → StandsAs v c k seats cell None → TableStands v c m after cell def
  unfolding live_by_key_at
  is_new cell def none h = record {
    key = inl h.0;
    fit = subst (Each (λ w. row_fits.FitsSoFar def.columns w.values)) (sym h.0) tt;
    in_key_order = h.1 ∙ ap (λ (vs : List Version). map (λ w. w.start) (live_by_key def.columns None vs)) (sym h.0);
    keys_differ = subst (λ (vs : List Version). KeysDiffer (key_places def.columns) (live vs)) (sym h.0) tt;
    projections = subst (Each (IsSortedProjection (key_places def.columns) cell.versions)) (sym h.2) tt;
    indexes = inl (no_indexes cell.indexes h.2 ∙ ap ordinals_of (sym none));
  }

  -- so stands a table's cell under the definition that ALTER TABLE or DROP TABLE puts in the place of its own
  altered_stands : (cell : TableCell) (old def : TableDef) → Alters old def → ((a : Adds old.id) → ⊥) → TableStands v c k seats cell old → TableStands v c m after cell def
  altered_stands cell old def g none h = record {
    key = ⊎_elim (λ (e : cell.versions ≡ []). inl e) (λ (e : cell.key ≡ key_places old.columns). inr (e ∙ sym g.key)) h.key;
    fit = each_weaker (λ w. row_fits.FitsSoFar old.columns w.values) (λ w. row_fits.FitsSoFar def.columns w.values) (λ w f. stay_fit old.columns def.columns w.values g.columns f) cell.versions h.fit;
    in_key_order = h.in_key_order ∙ ap (λ (key : List ℕ). map (λ w. w.start) (live_by_key_at key None cell.versions)) (sym g.key);
    keys_differ = subst (λ (key : List ℕ). KeysDiffer key (live cell.versions)) (sym g.key) h.keys_differ;
    projections = subst (λ (key : List ℕ). Each (IsSortedProjection key cell.versions) cell.indexes) (sym g.key) h.projections;
    indexes = inl (⊎_elim (λ (e : map (λ x. x.ordinals) cell.indexes ≡ ordinals_of old.indexes). e ∙ ap ordinals_of (sym g.indexes)) (λ a. absurd (none a)) (adds_or_not old _ h.indexes));
  }

  tables_then : (i : ℕ) (cell : TableCell) → c.table i ≡ some cell → StandsAs v c m after cell (def_at (defs_of m.tables) cell.id)
  tables_then i cell at = by (made_by T p.stmt creating)
    where
      was : StandsAs v c k seats cell (def_at (defs_of T) cell.id)
      was = st.tables_are_serial.tables i cell at

      over : (d : Definition) → (change_set T p.stmt).definition ≡ d → (P : Option TableDef → Type 0) → P (def_at (defs_of (defined d T)) cell.id) → P (def_at (defs_of m.tables) cell.id)
      over d e P h = subst (λ (ds : Defs). P (def_at ds cell.id)) (sym (left_defs ∙ ap (λ (z : Definition). defs_of (defined z T)) e)) h

      by : Makes T p.stmt → StandsAs v c m after cell (def_at (defs_of m.tables) cell.id)
      by (makes_none e) = over as_before e (StandsAs v c m after cell) (stays_or_none cell (def_at (defs_of T) cell.id) (λ def f a. let z : as_before ≡ in_place a.def = sym e ∙ in_place_of a.def a.added in cc) was)
      by (makes_table def none e) = over (new def) e (StandsAs v c m after cell) (subst (λ (ds : Defs). StandsAs v c m after cell (def_at ds cell.id)) (sym (defs_append T (record { def = def; versions = [] }))) (by_old (def_at (defs_of T) cell.id) refl))
        where
          by_old : (d : Option TableDef) → def_at (defs_of T) cell.id ≡ d → StandsAs v c m after cell (def_at (defs_of T ++ def ∷ []) cell.id)
          by_old (Some old) f = subst (StandsAs v c m after cell) (sym (kept_append def old cell.id (defs_of T) f)) (stays cell old (λ a. let z : new def ≡ in_place a.def = sym e ∙ in_place_of a.def a.added in cc) (subst (StandsAs v c k seats cell) f was))
          by_old None f = subst (StandsAs v c m after cell) (sym (new_append def cell.id (defs_of T) f)) (if_new (def.id == cell.id))
            where
              if_new : (b : Bool) → StandsAs v c m after cell (if b then Some def else None)
              if_new true = is_new cell def none (subst (StandsAs v c k seats cell) f was)
              if_new false = subst (StandsAs v c k seats cell) f was
      by (makes_index wi e) = over (in_place wi) e (StandsAs v c m after cell) (subst (λ (ds : Defs). StandsAs v c m after cell (def_at ds cell.id)) (sym (defs_redefined wi T)) by_id)
        where
          its_stage : p.stage ≡ made wi true
          its_stage = at_ready ready
            where
              at_ready : Ready p.stage → p.stage ≡ made wi true
              at_ready (was_replied b f) = absurd (index_later T p.stmt wi creating (got_stage (replied b) f) e)
              at_ready (was_added def f) = let z : in_place def ≡ in_place wi = sym (in_place_of def f) ∙ e in let one : def ≡ wi = cc in f ∙ ap (λ (d : TableDef). made d true) one

          index_is : IndexMade T p.stmt wi
          index_is = index_made T p.stmt wi sound.ids e

          has_them : cell.id ≡ wi.id → map (λ (x : Index). x.ordinals) cell.indexes ≡ ordinals_of wi.indexes
          has_them f = subst (IsIndexed c) (its_place (made wi true) its_stage) (st.tables_are_serial.indexed j p.x o has open_end) i cell at f

          same_columns : wi.columns ≡ index_is.old.columns
          same_columns = ap (λ (d : TableDef). d.columns) index_is.is

          redefined_here : cell.id ≡ wi.id → StandsAs v c m after cell (def_at (redef wi (defs_of T)) cell.id)
          redefined_here f = subst (StandsAs v c m after cell) (sym (ap (def_at (redef wi (defs_of T))) f ∙ here_redefined wi index_is.old (defs_of T) index_is.at))
              (let h : TableStands v c k seats cell index_is.old = subst (StandsAs v c k seats cell) (ap (def_at (defs_of T)) f ∙ index_is.at) was in record {
                key = ⊎_elim (λ (e : cell.versions ≡ []). inl e) (λ (e : cell.key ≡ key_places index_is.old.columns). inr (e ∙ ap key_places (sym same_columns))) h.key;
                fit = subst (λ (cols : List ColumnDef). Each (λ w. row_fits.FitsSoFar cols w.values) cell.versions) (sym same_columns) h.fit;
                in_key_order = h.in_key_order ∙ ap (λ (cols : List ColumnDef). map (λ w. w.start) (live_by_key cols None cell.versions)) (sym same_columns);
                keys_differ = subst (λ (cols : List ColumnDef). KeysDiffer (key_places cols) (live cell.versions)) (sym same_columns) h.keys_differ;
                projections = subst (λ (cols : List ColumnDef). Each (IsSortedProjection (key_places cols) cell.versions) cell.indexes) (sym same_columns) h.projections;
                indexes = inl (has_them f);
              })

          by_id : StandsAs v c m after cell (def_at (redef wi (defs_of T)) cell.id)
          by_id = ⊎_elim redefined_here
              (λ (ne : cell.id ≢ wi.id). subst (StandsAs v c m after cell) (sym (else_redefined wi cell.id (defs_of T) ne))
              (stays_or_none cell (def_at (defs_of T) cell.id) (λ def f a. let z : made a.def true ≡ made wi true = sym a.added ∙ its_stage in let one : a.def ≡ wi = cc in
              ne (sym (found_id (defs_of T) cell.id def f) ∙ sym a.here ∙ ap (λ (d : TableDef). d.id) one)) was))
              (cases_eq cell.id wi.id)
      by (makes_altered def g e) = over (altered def) e (StandsAs v c m after cell) (subst (λ (ds : Defs). StandsAs v c m after cell (def_at ds cell.id)) (sym (defs_redefined def T)) by_id)
        where
          no_index : (id : ℕ) → Adds id → ⊥
          no_index id a = let z : altered def ≡ in_place a.def = sym e ∙ in_place_of a.def a.added in cc

          there_is : def_at (defs_of T) def.id ≡ Some g.old
          there_is = ap (def_at (defs_of T)) g.alters.id ∙ (found_at 1 (defs_of T) g.name (g.old, Base) sound.ids g.found).at

          by_id : StandsAs v c m after cell (def_at (redef def (defs_of T)) cell.id)
          by_id = ⊎_elim
              (λ (f : cell.id ≡ def.id). subst (StandsAs v c m after cell) (sym (ap (def_at (redef def (defs_of T))) f ∙ here_redefined def g.old (defs_of T) there_is))
              (altered_stands cell g.old def g.alters (no_index g.old.id) (subst (StandsAs v c k seats cell) (ap (def_at (defs_of T)) f ∙ there_is) was)))
              (λ (ne : cell.id ≢ def.id). subst (StandsAs v c m after cell) (sym (else_redefined def cell.id (defs_of T) ne))
              (stays_or_none cell (def_at (defs_of T) cell.id) (λ d f. no_index d.id) was))
              (cases_eq cell.id def.id)

  -- ---- the seat

  goes : Goes seats j t p.x o y q
  goes = record { before = has; role = refl; open_one = refl }

  not_open : q.end ≡ unfixed → ⊥
  not_open e = let f : committed place ≡ unfixed = e in cc

  rows_agree_then : RowsAgree v c m after
  rows_agree_then = record {
    free = λ id key l f. ap (of_key (columns_at (defs_of m.tables) id) key) (same_versions id l);
    own = each_open seats j t p.x o y q goes (λ n z u. u.end ≡ unfixed → (id : ℕ) (key : Key) → 1 ≤ id → (h : Hold) → In h (c.holds (cell_of id)) → h.tx ≡ u.id → lets_change key h.request ≡ true
        → counted u.id id z.place (of_key (columns_at (defs_of m.tables) id) key (c.versions id)) ≡ of_key (columns_at (defs_of m.tables) id) key (versions_of (script_end v m.tables z u).state.tables id))
        (λ e. absurd (not_open e))
        (λ n z u ne w e id key l h is mine reaches. absurd (differ_ids n z u ne w (sym mine ∙ its (cell_of id) h is)));
    undone = λ id key l h is e reaches. absurd (let f : m.has h.tx ≡ true = ap m.has (its (cell_of id) h is) ∙ m_own in cc);
    rising = st.rows_agree.rising;
    back = each_open seats j t p.x o y q goes (λ n z u. GoesBackTo z.place u.seq) tt (λ n z u ne w. st.rows_agree.back n z u w);
    explicit = each_open seats j t p.x o y q goes (λ n z u. IsExplicitAt z.place u.explicit) tt (λ n z u ne w. st.rows_agree.explicit n z u w);
    before = each_open seats j t p.x o y q goes (λ n z u. u.end ≡ unfixed → (id : ℕ) → 1 ≤ id → AllByRecursion (MadeBefore u.id u.seq) (counted u.id id z.place (c.versions id)))
        (λ e. absurd (not_open e)) (λ n z u ne w e. st.rows_agree.before n z u w e);
  }

  scripts_then : OpenScripts v c m after
  scripts_then = each_open seats j t p.x o y q goes (λ n z u. u.end ≡ unfixed → IsOfItsScript v c m.tables z u) (λ e. absurd (not_open e))
      (λ n z u ne w e. subst (λ (U : Tables). IsOfItsScript v c U z u) (sym tables_are) (script_stays v cells seats st j p.x o has open_end n z u ne w e (st.open_scripts n z u w e)))

  trees_then : TreesAreOfEvents v c m after
  trees_then = each_open seats j t p.x o y q goes (λ n z u. u.end ≡ unfixed → HasItsTrees v c m z u) (λ e. absurd (not_open e))
      (λ n z u ne w e. let h = st.trees_are_of_events n z u w e in record { trees = h.trees; open_savepoints = subst (λ (U : Tables). AreOpenSavepoints u.id u.open_savepoints (script_end v U z u).state.saved) (sym tables_are) (savepoints_stay v cells seats st j p.x o has open_end n z u ne w e h.open_savepoints) })

  -- ---- locks

  belongs : (i : ℕ) (h : Hold) → Belongs seats i h → Belongs after i h
  belongs i h b = ⊎_elim
      (λ (e : b.j ≡ j). let same = one_session seats j b.x p.x b.o o (subst (λ (n : ℕ). HasOpen seats n b.x b.o) e b.has) has in record {
        j = j;
        x = y;
        o = q;
        has = open_here seats j t p.x o y q goes;
        mine = ap (λ (u : OpenTransaction). u.id) (sym same.1) ∙ b.mine;
        only = λ n z u w f. only n z u w f ∙ e;
        visited = subst (λ (u : OpenTransaction). In i u.visited) same.1 b.visited;
        unreleased = λ k. b.unreleased (subst (λ (u : OpenTransaction). In i u.released) (sym same.1) k);
      })
      (λ (ne : b.j ≢ j). record { j = b.j; x = b.x; o = b.o; has = open_else seats j t p.x o y q goes b.j b.x b.o ne b.has; mine = b.mine; only = only; visited = b.visited; unreleased = b.unreleased })
      (cases_eq b.j j)
    where
      only : (n : ℕ) (z : Session) (u : OpenTransaction) → HasOpen after n z u → u.id ≡ h.tx → n ≡ b.j
      only = each_open seats j t p.x o y q goes (λ n z u. u.id ≡ h.tx → n ≡ b.j) (λ e. b.only j p.x o has e) (λ n z u ne w e. b.only n z u w e)

  cover_mine : (i : ℕ) → KeepsLocks q i → Each (λ l. Each (Holds (c.holds i) q.id) (requests_in v (defs_of m.tables) q.explicit i l.0)) (script_so_far y q)
  cover_mine i free = subst (Each (λ l. Each (Holds (c.holds i) o.id) (requests_in v (defs_of m.tables) o.explicit i l.0))) (sym (append-nil lines ∙ lines_are))
      (subst (Each (Holds (c.holds i) o.id)) (requests_are (defs_of T) i ∙ sym (requests_are (defs_of m.tables) i)) (its_locks i), tt)

  cover_else : (n : ℕ) (z : Session) (u : OpenTransaction) → n ≢ j → HasOpen seats n z u → (i : ℕ) → KeepsLocks u i → Each (λ l. Each (Holds (c.holds i) u.id) (requests_in v (defs_of m.tables) u.explicit i l.0)) (script_so_far z u)
  cover_else n z u ne w i free = each_weaker (λ (l : Line). (text_requests (defs_of T) u.explicit (v.reads l.0)).catalog ≡ None) (λ (l : Line). Each (Holds (c.holds i) u.id) (requests_in v (defs_of m.tables) u.explicit i l.0))
      (λ l e. let f = no_requests (defs_of T) (defs_of m.tables) u.explicit (v.reads l.0) e in none_requested (Holds (c.holds i) u.id) i (text_requests (defs_of m.tables) u.explicit (v.reads l.0)) f.0 f.1)
      (script_so_far z u) (requests_none n z u ne w (free.1, free.1))

  looked_else : (n : ℕ) (z : Session) (u : OpenTransaction) → n ≢ j → HasOpen seats n z u → u.end ≡ unfixed → HasLooked z.place → ⊥
  looked_else n z u ne w e l = not_locked n z u ne w catalog_at (looked_now v cells T u z.place (st.locks_cover.looked n z u w e) l).lock

  definitions_mine : (n : ℕ) → EndsAt q.end n → HasLock c catalog_at q.id → defs_of m.tables ≡ defs_of (m.after n)
  definitions_mine n e l = ap (λ (J : List JournalItem). defs_of (serial v.reads J)) (sym (upto_all o.id p.x.transcript.session time o.explicit lines ledger.items n (omega (arith, e))))

  cover_then : LocksCover v c m after
  cover_then = record {
    belong = λ i h is. belongs i h (st.locks_cover.belong i h is);
    cover = each_open seats j t p.x o y q goes (λ n z u. (i : ℕ) → KeepsLocks u i → Each (λ l. Each (Holds (c.holds i) u.id) (requests_in v (defs_of m.tables) u.explicit i l.0)) (script_so_far z u)) cover_mine cover_else;
    unreleased = each_open seats j t p.x o y q goes (λ n z u. u.end ≡ unfixed → u.released ≡ []) (λ e. absurd (not_open e)) (λ n z u ne w. st.locks_cover.unreleased n z u w);
    looked = each_open seats j t p.x o y q goes (λ n z u. u.end ≡ unfixed → LookedAt v c (defs_of m.tables) u.id u.explicit z.place) (λ e. absurd (not_open e)) (λ n z u ne w e. looked_so v cells m.tables u z.place (λ l. absurd (looked_else n z u ne w e l)));
    looked_first = each_open seats j t p.x o y q goes (λ n z u. u.end ≡ unfixed → LookedFirst z.place → RequestsNone v c m.tables u) (λ e. absurd (not_open e)) (λ n z u ne w e f. absurd (looked_else n z u ne w e (first_looked z.place f)));
    intents = st.locks_cover.intents;
    on_whole = st.locks_cover.on_whole;
    catalog = st.locks_cover.catalog;
    definitions = λ n z u k w e l. each_open seats j t p.x o y q goes (λ n z u. (k : ℕ) → EndsAt u.end k → HasLock c catalog_at u.id → defs_of m.tables ≡ defs_of (m.after k)) definitions_mine (λ n z u ne w k e l. absurd (not_locked n z u ne w catalog_at l)) n z u w k e l;
    got = each_open seats j t p.x o y q goes (λ n z u. HasLock c catalog_at u.id → IsGotAt v m.tables (HasAlone c u.id) (not (m.has u.id)) z.place) (λ l. tt) (λ n z u ne w l. absurd (not_locked n z u ne w catalog_at l));
    dropping = each_open seats j t p.x o y q goes (λ n z u. IsDropping z.place u → HasAlone c u.id) (λ h. absurd h) (λ n z u ne w h. st.locks_cover.dropping n z u w h);
    under = λ id l. each_weaker (IsWithin m.has) (IsUnderLocks c m id) (under_within id) (c.versions id) (all_within id l);
  }
    where
      end_under : (id : ℕ) (w : Version) (e : Option EventId) → end_committed m.has e ≡ e → EndLiesUnder c m id w e
      end_under id w None f = tt
      end_under id w (Some e) f = λ g. absurd (let h : None ≡ Some e = ap (λ (b : Bool). if b then Some e else None) (sym g) ∙ f in cc)

      under_within : (id : ℕ) (w : Version) → IsWithin m.has w → IsUnderLocks c m id w
      under_within id w h = record { start = λ e. absurd (let f = h.start in cc); end = end_under id w w.end h.end }

  agree_then : LocksAgree c after
  agree_then i a b f g ne k l = st.locks_agree i a b f g ne (had i a f k) (had i b g l)
    where
      had : (i n : ℕ) (h : Hold) → SeatHas c after i n h → SeatHas c seats i n h
      had i n h w = each_open seats j t p.x o y q goes (λ n z u. u.id ≡ h.tx → SeatHas c seats i n h)
          (λ e. record { x = p.x; o = o; open_one = has; lock = w.lock; mine = e })
          (λ n z u ne k e. record { x = z; o = u; open_one = k; lock = w.lock; mine = e })
          n w.x w.o w.open_one w.mine

  -- ---- tables

  definitions_are : st.catalog.defs ≡ defs_of m.tables
  definitions_are = ⊎_elim
      (λ (e : st.catalog.defs ≡ defs_of T). ⊎_elim (λ (f : st.catalog.defs ≡ defs_of left). f ∙ ap defs_of (sym tables_are)) (λ (f : defs_of left ≡ defs_of T). e ∙ sym f ∙ ap defs_of (sym tables_are)) (st.tables_are_serial.carried j p.x o has open_end))
      (λ (u : IsUnderWay v c k seats st.catalog.defs st.catalog.creator). u.is ∙ ap (λ (d : Stmt). defs_of (defined (change_set T d).definition T)) (it_is u.x u.stmt u.by).2 ∙ sym left_defs)
      st.tables_are_serial.definitions

  serial_then : TablesAreSerial v c m st.catalog.defs st.catalog.creator after
  serial_then = record {
    definitions = inl definitions_are;
    goes_back = λ e is. let g = st.tables_are_serial.goes_back e is in record { exclusive = g.exclusive; before = λ out. absurd (let f : m.has e.tx ≡ true = ap m.has (its catalog_at (record { tx = e.tx; request = whole X }) g.exclusive) ∙ m_own in cc) };
    carried = each_open seats j t p.x o y q goes (λ n z u. u.end ≡ unfixed → IsCarried st.catalog.defs m.tables (script_end v m.tables z u).state.tables) (λ e. absurd (not_open e))
        (λ n z u ne w e. inr (subst (λ (U : Tables). defs_of (script_end v U z u).state.tables ≡ defs_of U) (sym tables_are)
        (undone_end v cells seats st j p.x o has open_end no_count none_alone n z u ne w e left (sound_left v cells seats st j p.x o has open_end no_count none_alone n z u ne w e)).0));
    indexed = each_open seats j t p.x o y q goes (λ n z u. u.end ≡ unfixed → IsIndexed c z.place) (λ e. absurd (not_open e)) (λ n z u ne w e. st.tables_are_serial.indexed n z u w e);
    versions = versions_are;
    tables = tables_then;
  }

  -- ---- the history

  pub record AgreesAt (ls : List Line) (anonymous_acts : List SessionAct) (us : List SeatState) : Type 0 where
    pub session : ℕ
    pub agree : TranscriptsAgree v (history ++ map (by session) anonymous_acts) (with_item entry (Tx o.id p.x.transcript.session time o.explicit ls) ledger) us
    pub own : agree.owner session ≡ j

  abbrev Agrees : Type 0
  Agrees = AgreesAt lines (commit_acts p.x time place) after

  at_history : (n : ℕ) (anonymous_acts : List SessionAct) (ls : List Line) (us : List SeatState) → Owned v (history ++ map (by n) anonymous_acts) (with_item entry (Tx o.id p.x.transcript.session time o.explicit ls) ledger) us n j → AgreesAt ls anonymous_acts us
  at_history n anonymous_acts ls us a = record { session = n; agree = a.0; own = a.1 }

  abbrev right_with : List Line → Type 0
  right_with ls = AgreesWith v.reads T o.id o.explicit ls (script v.reads o.explicit T o.id (map (λ l. l.0) ls))

  right : right_with lines
  right = (next_item v cells seats st j s there p o open_one open_end r commits acts p.x.transcript.session time).0

  nobody_requests : (i : ℕ) (z : Session) (u : OpenTransaction) → i ≢ j → HasOpen seats i z u → u.end ≡ unfixed → Each (λ t. v.meaning.requests u.explicit t ≡ false) (texts_so_far z u)
  nobody_requests i z u ne w e = each_map (λ l. l.0) (λ t. v.meaning.requests u.explicit t ≡ false) (script_so_far z u)
      (each_weaker (λ (l : Line). (text_requests (defs_of T) u.explicit (v.reads l.0)).catalog ≡ None) (λ (l : Line). v.meaning.requests u.explicit l.0 ≡ false)
      (λ l f. v.real.requests u.explicit l.0 ∙ ap is_some (sym (same_request (defs_of T) u.explicit (v.reads l.0)) ∙ f)) (script_so_far z u) (requests_none i z u ne w (unreleased_so i z u w e)))

  module _ (w : Text) (stage : StatementProgress) (at : p.x.place ≡ inside p.text stage) (last : last_line p.text stage ≡ (p.text, w) ∷ [])
      (goes_so : GoesFrom v.meaning p.x (at_place (Some (saying (p.text, w) o)) (inside p.text (answering r None)) p.x) (said (p.text, w) ∷ [])) where
    abbrev line : Line
    line = (p.text, w)

    line_is : lines_at p.x.place ≡ line ∷ []
    line_is = ap lines_at at ∙ last

    all_lines : lines ≡ o.script ++ line ∷ []
    all_lines = ap (λ (ls : List Line). o.script ++ ls) line_is

    abbrev x1 : Session
    x1 = at_place (Some (saying line o)) (inside p.text (answering r None)) p.x

    abbrev s1 : SeatState
    s1 = sits s x1

    abbrev seats1 : List SeatState
    seats1 = slice_set seats j s1

    abbrev y1 : Session
    y1 = at_moment time (at_place (Some (ending (committed place) (o.script ++ line ∷ []) (saying line o))) (inside p.text (answering r None)) x1)

    abbrev t1 : SeatState
    t1 = marking place (sits s1 y1)

    said_it : ActsBy v history (act.says line ∷ []) ledger seats1 j
    said_it = told v ledger seats history st.transcripts_agree j s there p.x p.role o open_one open_end its_alone line (λ a i. subst (λ (ls : List Line). In a (map (λ l. l.0) (o.script ++ ls))) line_is i) in_text (answering r None) goes_so

    there1 : get_elem? seats1 j ≡ some s1
    there1 = set_here seats j s1 s there

    abbrev has1 : HasOpen seats1 j x1 (saying line o)
    has1 = record { seat = s1; there = there1; role = refl; open_one = refl }

    nobody_wants1 : (i : ℕ) (z : Session) (u : OpenTransaction) → i ≢ j → HasOpen seats1 i z u → u.end ≡ unfixed → Each (λ t. v.meaning.requests u.explicit t ≡ false) (texts_so_far z u)
    nobody_wants1 i z u ne k e = nobody_requests i z u ne (⊎_elim (λ (f : (i ≡ j) × Own s1 z u). absurd (ne f.0)) (λ (f : (i ≢ j) × HasOpen seats i z u). f.1) (was_open seats j s s1 there i z u k)) e

    by_line : Agrees
    by_line = subst₂ (λ (ls : List Line) (us : List SeatState). AgreesAt ls (commit_acts p.x time place) us) (sym all_lines) (set_again seats j s1 t1 ∙ ap (λ (ls : List Line). slice_set seats j (seat_with ls)) (sym all_lines))
        (subst (λ (ls : List Line). AgreesAt (o.script ++ line ∷ []) (map act.says ls ++ act.commits time place ∷ []) (slice_set seats1 j t1)) (sym line_is)
        (at_history said_it.session (act.says line ∷ act.commits time place ∷ []) (o.script ++ line ∷ []) (slice_set seats1 j t1)
        (then_more v history (by said_it.session (act.says line) ∷ []) (by said_it.session (act.commits time place) ∷ []) _ _
        (commit_by v ledger seats1 _ said_it.agree j s1 there1
        x1 refl (saying line o) refl open_end time p.text refl r refl
        (from_at v.meaning x1 y1 (inside p.text (answering r None)) (Some (saying line o)) (placed place ∷ []) refl refl refl (λ n i f. at_own_end v.meaning n p.text r None (saying line o) (committed place) (o.script ++ line ∷ []) own open_end tt f))
        (subst right_with all_lines right) (inr (none_wanting v (history ++ by said_it.session (act.says line) ∷ []) ledger seats1 said_it.agree j x1 (saying line o) has1 nobody_wants1)) said_it.session said_it.now))))

  own_fits : (n : ℕ) (stage : StatementProgress) → Fits v.meaning n (inside p.text stage) (Some o) → FitsWith v.meaning false n p.text stage o.id o.end
  own_fits n stage f = fits_if v.meaning n p.text stage o false own f

  by_stage : (explicit : Bool) → o.explicit ≡ explicit → (d : Stmt) → creates d ≡ true → (stage : StatementProgress) → Commits explicit d stage r → p.x.place ≡ inside p.text stage → Agrees
  by_stage true explicit stmt.Commit e begun f at = cc
  by_stage false explicit d e (replied b) f at = by_line (reply_text b) (replied b) at refl
      (from_at v.meaning p.x _ (inside p.text (replied b)) (Some o) (said (p.text, reply_text b) ∷ []) at open_one refl (λ n i z. let g = own_fits n (replied b) z in
      at_said v.meaning n p.text r o (replied b) (reply_text b) own (v.real.writes r ∙ ap reply_text f) refl refl open_end g.0 (subst (FitsOwn v.meaning n p.text) (sym f) g.1.0) (subst (IsSaid v.meaning p.text) (sym f) g.1.1)))
  by_stage false explicit d e (made def true) f at = by_line (reply_text reply.Made) (made def true) at refl
      (from_at v.meaning p.x _ (inside p.text (made def true)) (Some o) (said (p.text, reply_text reply.Made) ∷ []) at open_one refl (λ n i z. let g = own_fits n (made def true) z in
      at_said v.meaning n p.text r o (made def true) (reply_text reply.Made) own (v.real.writes r ∙ ap reply_text f) refl refl open_end g.0 (subst (FitsOwn v.meaning n p.text) (sym f) (made_fits v.meaning n p.text o.end g.0)) (subst (IsSaid v.meaning p.text) (sym f) refl)))
  by_stage explicit h d e stage f at = absurd f

  agrees : Agrees
  agrees = by_stage o.explicit refl p.stmt creating p.stage commits p.place

  -- ---- all

  over : (P : Contents → Type 0) → P c → P (contents (slice_set cells ledger_at (Ledger (with_item entry item ledger))))
  over P h = subst P (sym (same_contents cells ledger (with_item entry item ledger) st.are_cells.has_ledger)) h

  pub create_commits : StandsAfter v j history (commit_acts p.x time place) (slice_set cells ledger_at (Ledger (with_item entry item ledger))) after
  create_commits = record {
    session = agrees.session;
    stands = record {
      catalog = st.catalog;
      ledger = with_item entry item ledger;
      are_cells = are_cells cells ledger (with_item entry item ledger) st.are_cells.has_ledger st.catalog ledger st.are_cells;
      ledger_is_legal = commit_is_legal v cells seats st j s there p o open_one open_end r commits acts time;
      tables_are_serial = over (λ a. TablesAreSerial v a m st.catalog.defs st.catalog.creator after) serial_then;
      rows_agree = over (λ a. RowsAgree v a m after) rows_agree_then;
      open_scripts = over (λ a. OpenScripts v a m after) scripts_then;
      locks_cover = over (λ a. LocksCover v a m after) cover_then;
      locks_agree = over (λ a. LocksAgree a after) agree_then;
      trees_are_of_events = over (λ a. TreesAreOfEvents v a m after) trees_then;
      transcripts_agree = agrees.agree;
    };
    mine = each_so (commit_acts p.x time place) agrees.own;
  }

-- A commit keeps cells and seats standing together.
pub every_commit_stands : (v : Server) (cells : List Cell) (seats : List SeatState) {history : History} → Stands v history cells seats → (j : ℕ) (s : SeatState) → get_elem? seats j ≡ some s
    → (time : ℕ) (c d : LedgerCell) (t : SeatState) → get_elem? cells ledger_at ≡ some (Ledger c) → (w : CommitsNow v time c s d t)
    → StandsAfter v j history (commit_acts w.stands.x time (tx_count c.items + 1)) (slice_set cells ledger_at (Ledger d)) (slice_set seats j t)
every_commit_stands v cells seats {history} st j s there time c d t here visit = by (creates visit.stands.stmt) refl
  where
    from : (e : LedgerCell) → e ≡ st.ledger → (w : CommitsNow v time e s d t) → creates w.stands.stmt ≡ true → StandsAfter v j history (commit_acts w.stands.x time (tx_count e.items + 1)) (slice_set cells ledger_at (Ledger d)) (slice_set seats j t)
    from e is w f = subst (λ (l : LedgerCell). StandsAfter v j history (commit_acts w.stands.x time (tx_count l.items + 1)) (slice_set cells ledger_at (Ledger d)) (slice_set seats j t)) (sym is)
        (subst₂ (λ (l : LedgerCell) (u : SeatState). StandsAfter v j history (commit_acts w.stands.x time (tx_count st.ledger.items + 1)) (slice_set cells ledger_at (Ledger l)) (slice_set seats j u))
        (ap (with_item (entry_of_trees v w.o w.stands.x.transcript.session time) (Tx w.o.id w.stands.x.transcript.session time w.o.explicit (script_so_far w.stands.x w.o))) (sym is) ∙ sym w.cell)
        (ap (λ (l : LedgerCell). marking (tx_count l.items + 1) (sits s (at_moment time (at_place (Some (ending (committed (tx_count l.items + 1)) (script_so_far w.stands.x w.o) w.o)) (inside w.stands.text (answering w.reply None)) w.stands.x)))) (sym is) ∙ sym w.seat)
        (create_commits v cells seats st j s there w.stands w.o w.open_one w.unfixed w.reply w.commits w.acts time f))

    by : (b : Bool) → creates visit.stands.stmt ≡ b → StandsAfter v j history (commit_acts visit.stands.x time (tx_count c.items + 1)) (slice_set cells ledger_at (Ledger d)) (slice_set seats j t)
    by true e = from c (the_ledger cells st.catalog st.ledger c st.are_cells here) visit e
    by false e = commits_stand v cells seats st j s there time c d t here visit e
