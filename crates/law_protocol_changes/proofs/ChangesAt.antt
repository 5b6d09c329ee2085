-- A statement changes the rows of a table's cell, where it has its locks: the rows still agree key by key.
use Rattle.std.proofs.Common.{◌≡◌, ◌≢◌, ℕ, ◌+◌, ◌≤◌, Bool, true, false, List, [], ◌∷◌, ◌++◌, map, length, set, Some, Ok, refl, sym, ap, ◌∙◌, subst, ⊎_elim, append-nil, arith}
use Rattle.std.proofs.lemmas.Bool.{cases_eq, ne_eqb}
use Rattle.std.specs.Prelude.{◌-◌}
use Rattle.std.specs.List.{AllByRecursion}
use mathlib.Core.Option.{some}
use lib.ListN.{get_elem?}
use Rattle.sql_value.specs.declared.column.ColumnDef.{ColumnDef}
use Rattle.sql_types.specs.declared.lock.LockRequest.{LockRequest}
use Rattle.sql_types.specs.declared.reply.Reply.TheVariants as reply
use Rattle.sql_types.specs.declared.statement.Stmt.TheVariants as stmt
use Rattle.sql_types.specs.declared.statement.RowStmt.{RowStmt}
use Rattle.sql_types.specs.declared.version.Version.{Version}
use Rattle.spec_model.specs.Keys.{Key, key_places, of_key}
use Rattle.spec_model.specs.Catalog.{Defs, NamedPart, Tables, defs_of, versions_of, changed_table}
use Rattle.spec_model.specs.Changes.{Change, changed_all, row_changes}
use Rattle.spec_model.specs.Checks.{row_statement_check}
use Rattle.spec_model.specs.Journals.{Line}
use Rattle.spec_model.specs.Lists.{repeats}
use Rattle.spec_model.specs.Create.{names_of}
use Rattle.spec_model.specs.Locks.{row_requests}
use Rattle.spec_model.specs.Agreement.{AgreeOnAll, columns_at}
use Rattle.spec_model.specs.Reach.{has_key, lets_change}
use Rattle.spec_model.specs.Runs.{Rising, MadeBefore}
use Rattle.spec_model.specs.Replies.{reply_text}
use Rattle.spec_model.specs.Script.{Step, ScriptEnd, start, script}
use Rattle.spec_model.specs.Undo.{versions_undone}
use Rattle.law_frame.proofs.Alls.{all_weaker}
use Rattle.law_frame.proofs.AtTable.{rising_at, before_at, names_at}
use Rattle.law_frame.proofs.Definitions.{same_defs, opened_keep_defs}
use Rattle.law_frame.proofs.LeftAlone.{all_leave}
use Rattle.law_frame.proofs.LeftRows.{row_leaves}
use Rattle.law_frame.proofs.NoClash.{Relies}
use Rattle.law_frame.proofs.SameChangeSet.{same_changes}
use Rattle.law_frame.proofs.UndoneVersions.{row_undoes}
use Rattle.spec_history.specs.Lists.{Text, Each, In}
use Rattle.spec_history.specs.Transactions.{unfixed}
use Rattle.spec_protocol.specs.Server.{Server}
use Rattle.sql_types.specs.declared.lock.Hold.{Hold}
use Rattle.spec_protocol.specs.Cells.{TableCell, Cell, Rows, holds_at, versions_at, cell_of}
use Rattle.spec_protocol.specs.Seats.{OpenTransaction, found, SessionStatus, inside, Session, session, SeatState}
use Rattle.spec_protocol.specs.OpenOnes.{HasOpen, lines_at, script_so_far, texts_so_far, script_end}
use Rattle.spec_protocol.specs.OpenScripts.{counted}
use Rattle.spec_protocol.specs.Moves.{noting, at_place, sits}
use Rattle.spec_protocol.specs.Doing.{grown, events_from, with_line, with_reply, stage_after}
use Rattle.spec_protocol.specs.TableVisits.{with_versions}
use Rattle.spec_protocol.specs.RequestsIn.{Holds}
use Rattle.spec_protocol.specs.RowsAgree.{GoesBackTo, IsExplicitAt}
use Rattle.spec_protocol.specs.StandTogether.{History, Stands}
use Rattle.law_protocol_steps.proofs.SeatsAfter.{Goes, each_open}
use Rattle.law_protocol_steps.proofs.CellsAfter.{held_here, each_holds, versions_here, were_here, versions_else}
use Rattle.law_protocol_changes.proofs.ChangedRows.{all_rising, all_before, all_untouched, keys_follow, all_undo, undone_of_key, IsCounted, all_count, some_undone, counted_is, later, undone_before}
use Rattle.law_protocol_steps.proofs.SeatIds.{one_seat, outside}
use Rattle.law_protocol_steps.proofs.Excluded.{HasNoX, none_reach}
use Rattle.law_protocol_steps.proofs.RowsFor.{sound, end_alone, end_sound, agree_on}
use Rattle.law_protocol_steps.proofs.NewLine.{one_more, its_step, checked_part, changed_here, changed_else}
use Rattle.law_frame.proofs.AgreeAfter.{has_table}
use Rattle.law_protocol_steps.proofs.Takes.{tables_now}
use Rattle.law_protocol_steps.proofs.TakesInTable.{IsAtPlace, table_place, cell_at, users}
use Rattle.law_protocol_steps.proofs.OfCells.{IsFree, RowsAgree, in_journal}
use Rattle.law_protocol_changes.proofs.Apart.{x_apart}

-- a seat stands at what it found in the catalog, has its locks in the cell of its table, and makes these changes there
pub record Changing (v : Server) (cells : List Cell) (seats : List SeatState) {history : History} (S : Stands v history cells seats) (j : ℕ) (s : SeatState) (x : Session) (o : OpenTransaction) (text : Text) (named : NamedPart) (fresh : Bool)
    (i : ℕ) (c : TableCell) (row : RowStmt) (changes : List Change) (count : ℕ) : Type 0 where
  pub there : get_elem? seats j ≡ some s
  pub role : s.role ≡ session x
  pub open_one : x.open_one ≡ Some o
  pub unfixed : o.end ≡ unfixed
  pub place : x.place ≡ inside text (found (Some named) fresh)
  pub out : get_elem? cells i ≡ some (Rows c)
  pub is : v.reads text ≡ Some (stmt.Change row)
  pub checked : row_statement_check (defs_of (tables_now S)) row ≡ Ok named.0
  pub here : named.0.id ≡ c.id
  pub columns : columns_at (defs_of (tables_now S)) c.id ≡ named.0.columns
  pub defined : has_table (defs_of (tables_now S)) c.id ≡ true
  pub held : Each (Holds c.holds o.id) (row_requests named.0 row)
  pub others : (w : LockRequest) → In w (row_requests named.0 row) → Relies w.mode → (key : Key) → has_key key w.item ≡ true → (h : Hold) → In h c.holds → h.tx ≢ o.id → lets_change key h.request ≡ false
  pub changed : row_changes named.0 c.versions row ≡ Ok (changes, count)

pub user_cell : (id : ℕ) → 3 ≤ id → cell_of id ≡ id - 1
user_cell id l = rw (ne_eqb id 1 (λ e. omega arith), ne_eqb id 2 (λ e. omega arith)) refl

module _ (v : Server) (cells : List Cell) (seats : List SeatState) {history : History} (S : Stands v history cells seats) (j : ℕ) (s : SeatState) (x : Session) (o : OpenTransaction) (text : Text) (named : NamedPart) (fresh : Bool)
    (i : ℕ) (c : TableCell) (row : RowStmt) (changes : List Change) (count : ℕ) (K : Changing v cells seats S j s x o text named fresh i c row changes count) where
  abbrev T : Tables
  T = tables_now S

  abbrev columns : List ColumnDef
  columns = columns_at (defs_of T) c.id

  abbrev pub rows_then : List Version
  rows_then = changed_all o.id o.seq changes c.versions

  abbrev pub cell_then : TableCell
  cell_then = with_versions (key_places named.0.columns) rows_then c

  abbrev pub cells_then : List Cell
  cells_then = set cells i (Rows cell_then)

  abbrev pub open_then : OpenTransaction
  open_then = with_reply text (reply.Changed count) (noting (o.seq + length changes) (grown c.id (events_from o.id o.seq c.id rows_then) o.trees) o)

  abbrev pub session_then : Session
  session_then = at_place (Some open_then) (inside text (stage_after o.explicit (reply.Changed count))) x

  abbrev pub then_sits : SeatState
  then_sits = sits s session_then

  abbrev pub seats_then : List SeatState
  seats_then = set seats j (sits s session_then)

  pub has_open : HasOpen seats j x o
  has_open = record { seat = s; there = K.there; role = K.role; open_one = K.open_one }

  pub goes : Goes seats j (sits s session_then) x o session_then open_then
  goes = record { before = has_open; role = refl; open_one = refl }

  pub at : IsAtPlace i c
  at = table_place cells S.catalog S.ledger i c S.are_cells K.out

  pub user : 3 ≤ c.id
  user = let e = at.id in omega arith

  pub here : cell_of c.id ≡ i
  here = cell_at i c at

  pub only_id : (id : ℕ) → 1 ≤ id → cell_of id ≡ i → id ≡ c.id
  only_id id l e = let far = users id at.n l (e ∙ at.is) in
      let one : id - 1 ≡ c.id - 1 = sym (user_cell id far) ∙ e ∙ sym here ∙ user_cell c.id user in omega arith

  -- ---- the cells

  pub same_holds : (n : ℕ) → holds_at cells_then n ≡ holds_at cells n
  same_holds = each_holds cells i (Rows c) (Rows cell_then) K.out (λ n hs. hs ≡ holds_at cells n) (sym (held_here cells i (Rows c) (Rows c) K.out)) (λ n. refl)

  pub rows_were : versions_at cells c.id ≡ c.versions
  rows_were = were_here cells i (Rows c) (Rows c) K.out c.id here

  pub rows_are : versions_at cells_then c.id ≡ rows_then
  rows_are = versions_here cells i (Rows c) (Rows cell_then) K.out c.id here

  pub rows_elsewhere : (id : ℕ) → cell_of id ≢ i → versions_at cells_then id ≡ versions_at cells id
  rows_elsewhere = versions_else cells i (Rows c) (Rows cell_then) K.out

  held_in : (h : Hold) → In h (holds_at cells (cell_of c.id)) → In h c.holds
  held_in h has = subst (In h) (held_here cells i (Rows c) (Rows c) K.out) (subst (λ (n : ℕ). In h (holds_at cells n)) here has)

  -- ---- the script's table

  pub whole_script : script_so_far x o ≡ o.script
  whole_script = ap (λ (q : SessionStatus). o.script ++ lines_at q) K.place ∙ append-nil o.script

  pub no_count : (id : ℕ) (vs : List Version) → counted o.id id x.place vs ≡ vs
  no_count id vs = ap (λ (q : SessionStatus). counted o.id id q vs) K.place

  abbrev E : ScriptEnd
  E = script_end v T x o

  abbrev W : List Version
  W = versions_of E.state.tables c.id

  pub V_rising : Rising c.versions
  V_rising = subst Rising rows_were (S.rows_agree.rising c.id (omega (arith, user)))

  pub V_before : AllByRecursion (MadeBefore o.id o.seq) c.versions
  V_before = subst (AllByRecursion (MadeBefore o.id o.seq)) (no_count c.id (versions_at cells c.id) ∙ rows_were) (S.rows_agree.before j x o has_open K.unfixed c.id (omega (arith, user)))

  pub W_rising : Rising W
  W_rising = rising_at o.id o.seq c.id E.state.tables (end_sound v cells seats S j x o has_open K.unfixed whole_script).each

  pub W_before : AllByRecursion (MadeBefore o.id o.seq) W
  W_before = before_at o.id o.seq c.id E.state.tables (end_sound v cells seats S j x o has_open K.unfixed whole_script).each

  agree : AgreeOnAll named.0.columns (row_requests named.0 row) c.versions W
  agree = subst (λ (cols : List ColumnDef). AgreeOnAll cols (row_requests named.0 row) c.versions W) K.columns
      (subst (λ (vs : List Version). AgreeOnAll columns (row_requests named.0 row) vs W) rows_were
      (agree_on v cells seats S j x o has_open K.unfixed whole_script c.id (omega (arith, user)) (no_count c.id) (row_requests named.0 row) (λ w d r key q h has ne. K.others w d r key q h (held_in h has) ne)))

  -- the script makes the same changes
  same_there : row_changes named.0 W row ≡ Ok (changes, count)
  same_there = sym (same_changes named.0 row c.versions W agree) ∙ K.changed

  E_defs : defs_of E.state.tables ≡ defs_of T
  E_defs = by o.explicit refl
    where
      by : (b : Bool) → o.explicit ≡ b → defs_of E.state.tables ≡ defs_of T
      by true e = ap (λ (b : Bool). defs_of (script v.reads b T o.id (texts_so_far x o)).state.tables) e ∙ (opened_keep_defs v.reads T o.id (texts_so_far x o)).tables
      by false e = ap defs_of (end_alone v cells seats S j x o has_open K.unfixed whole_script e)

  abbrev pub new_line : Line
  new_line = (text, reply_text (reply.Changed count))

  pub script_then : script_so_far session_then open_then ≡ script_so_far x o ++ new_line ∷ []
  script_then = by o.explicit
      ∙ ap (λ (ls : List Line). ls ++ new_line ∷ []) (sym whole_script)
    where
      by : (b : Bool) → with_line b new_line o.script ++ lines_at (inside text (stage_after b (reply.Changed count))) ≡ o.script ++ new_line ∷ []
      by true = append-nil (o.script ++ new_line ∷ [])
      by false = refl

  E_counter : E.state.seq ≡ o.seq
  E_counter = sym (S.open_scripts j x o has_open K.unfixed).counter

  texts_then : texts_so_far session_then open_then ≡ texts_so_far x o ++ text ∷ []
  texts_then = ap (map (λ (l : Line). l.0)) script_then ∙ map_end (script_so_far x o)
    where
      map_end : (ls : List Line) → map (λ (l : Line). l.0) (ls ++ new_line ∷ []) ≡ map (λ (l : Line). l.0) ls ++ text ∷ []
      map_end [] = refl
      map_end (l ∷ ls) = ap (λ (ts : List Text). l.0 ∷ ts) (map_end ls)

  abbrev pub end_then : ScriptEnd
  end_then = record { state = record { tables = changed_table named.0.id (changed_all o.id E.state.seq changes) E.state.tables; seq = E.state.seq + length changes; saved = E.state.saved }; replies = E.replies ++ reply.Changed count ∷ [] }

  -- what the script comes to with the statement
  pub ends_so : script_end v T session_then open_then ≡ end_then
  ends_so = ap (script v.reads o.explicit T o.id) texts_then
      ∙ one_more v.reads o.explicit o.id (start T) (texts_so_far x o) text
      ∙ ap (λ (q : Step). record { state = q.0; replies = E.replies ++ q.1 ∷ [] })
      (its_step v.reads o.explicit o.id E.state text row named.0 changes count K.is (ap (λ (ds : Defs). row_statement_check ds row) E_defs ∙ K.checked)
      (ap (λ (n : ℕ). row_changes named.0 (versions_of E.state.tables n) row) K.here ∙ same_there))

  -- the script still leaves the definitions
  pub then_defs : defs_of (script_end v T session_then open_then).state.tables ≡ defs_of T
  then_defs = ap (λ (e : ScriptEnd). defs_of e.state.tables) ends_so ∙ same_defs named.0.id (changed_all o.id E.state.seq changes) E.state.tables ∙ E_defs

  abbrev pub W_then : List Version
  W_then = changed_all o.id o.seq changes W

  pub script_rows : versions_of (script_end v T session_then open_then).state.tables c.id ≡ W_then
  script_rows = ap (λ (e : ScriptEnd). versions_of e.state.tables c.id) ends_so
      ∙ ap (λ (n : ℕ). versions_of (changed_table n (changed_all o.id E.state.seq changes) E.state.tables) c.id) K.here
      ∙ changed_here c.id (changed_all o.id E.state.seq changes) E.state.tables (ap (λ (ds : Defs). has_table ds c.id) E_defs ∙ K.defined)
      ∙ ap (λ (n : ℕ). changed_all o.id n changes W) E_counter

  pub script_elsewhere : (id : ℕ) → id ≢ c.id → versions_of (script_end v T session_then open_then).state.tables id ≡ versions_of E.state.tables id
  script_elsewhere id ne = ap (λ (e : ScriptEnd). versions_of e.state.tables id) ends_so
      ∙ changed_else named.0.id id (changed_all o.id E.state.seq changes) E.state.tables (λ e. ne (sym e ∙ K.here))

  -- ---- what is left alone

  leaves : (key : Key) (vs : List Version) → Rising vs → row_changes named.0 vs row ≡ Ok (changes, count) → HasNoX (holds_at cells (cell_of c.id)) o.id key → of_key columns key (changed_all o.id o.seq changes vs) ≡ of_key columns key vs
  leaves key vs r e free =
      let part = checked_part (defs_of T) row named.0 K.checked in
      let names = subst (λ (cols : List ColumnDef). repeats (names_of cols) ≡ false) K.columns (names_at o.id 0 c.id T (sound v cells seats S j x o has_open K.unfixed).each) in
      let free_here : HasNoX c.holds o.id key = λ h has m. free h (subst (λ (n : ℕ). In h (holds_at cells n)) (sym here) (subst (In h) (sym (held_here cells i (Rows c) (Rows c) K.out)) has)) m in
      subst (λ (cols : List ColumnDef). of_key cols key (changed_all o.id o.seq changes vs) ≡ of_key cols key vs) (sym K.columns)
      (all_leave named.0.columns key o.id o.seq changes vs (row_leaves named.0 part.0 row key vs (changes, count) r names part.1 (none_reach c.holds o.id key (row_requests named.0 row) free_here K.held) e))

  pub left : (key : Key) → HasNoX (holds_at cells (cell_of c.id)) o.id key → of_key columns key rows_then ≡ of_key columns key c.versions
  left key free = leaves key c.versions V_rising K.changed free

  pub left_in_script : (key : Key) → HasNoX (holds_at cells (cell_of c.id)) o.id key → of_key columns key W_then ≡ of_key columns key W
  left_in_script key free = leaves key W W_rising same_there free

  -- where another transaction has X, this one hasn't
  pub none_besides : (key : Key) (h : Hold) → In h (holds_at cells (cell_of c.id)) → h.tx ≢ o.id → lets_change key h.request ≡ true → HasNoX (holds_at cells (cell_of c.id)) o.id key
  none_besides key h has ne reach g i m = by (lets_change key g.request) refl
    where
      by : (b : Bool) → lets_change key g.request ≡ b → b ≡ false
      by true e = absurd (x_apart v cells seats S (cell_of c.id) key g h i has (λ z. ne (z ∙ m)) e reach)
      by false e = refl

  pub follows : (key : Key) → of_key columns key c.versions ≡ of_key columns key W → of_key columns key rows_then ≡ of_key columns key W_then
  follows key e = keys_follow o.id columns key o.seq changes c.versions W V_before W_before V_rising W_rising e

  pub owned : (key : Key) (h : Hold) → In h (holds_at cells (cell_of c.id)) → h.tx ≡ o.id → lets_change key h.request ≡ true → of_key columns key rows_then ≡ of_key columns key W_then
  owned key h has m reach = follows key (ap (of_key columns key) (sym rows_were) ∙ sym (no_count c.id (of_key columns key (versions_at cells c.id)))
      ∙ S.rows_agree.own j x o has_open K.unfixed c.id key (omega (arith, user)) h has m reach)

  pub undo : versions_undone o.id 0 rows_then ≡ versions_undone o.id 0 c.versions
  undo = all_undo o.id 0 o.seq (omega arith) changes c.versions (row_undoes o.id 0 named.0 row c.versions (changes, count) V_rising K.changed)

  undo_key : (key : Key) → versions_undone o.id 0 (of_key columns key rows_then) ≡ versions_undone o.id 0 (of_key columns key c.versions)
  undo_key key = undone_of_key columns key o.id 0 rows_then ∙ ap (of_key columns key) undo ∙ sym (undone_of_key columns key o.id 0 c.versions)

  -- ---- rows agree

  -- what holds of this table's rows then, and of those of each other as before, holds of all
  pub by_table : (P : ℕ → Type 0) → P c.id → ((id : ℕ) → 1 ≤ id → cell_of id ≢ i → P id) → (id : ℕ) → 1 ≤ id → P id
  by_table P this others id l = ⊎_elim (λ (e : cell_of id ≡ i). subst P (sym (only_id id l e)) this) (λ (ne : cell_of id ≢ i). others id l ne) (cases_eq (cell_of id) i)

  pub not_this : (id : ℕ) → cell_of id ≢ i → id ≢ c.id
  not_this id ne e = ne (ap cell_of e ∙ here)

  was_held : (n : ℕ) (h : Hold) → In h (holds_at cells_then n) → In h (holds_at cells n)
  was_held n h has = subst (In h) (same_holds n) has

  key_rows : (cs : List Cell) (id : ℕ) (key : Key) (q : List Version → List Version) (vs : List Version) → versions_at cs id ≡ vs → q (of_key (columns_at (defs_of T) id) key (versions_at cs id)) ≡ q (of_key (columns_at (defs_of T) id) key vs)
  key_rows cs id key q vs e = ap (λ (ws : List Version). q (of_key (columns_at (defs_of T) id) key ws)) e

  -- one that has no X there leaves the rows of the key
  kept_key : (key : Key) (q : List Version → List Version) → HasNoX (holds_at cells (cell_of c.id)) o.id key → q (of_key columns key (versions_at cells_then c.id)) ≡ q (of_key columns key (versions_at cells c.id))
  kept_key key q free = key_rows cells_then c.id key q rows_then rows_are ∙ ap q (left key free) ∙ sym (key_rows cells c.id key q c.versions rows_were)

  mine_outside : (n : ℕ) → in_journal S.ledger.items (o.id, n) ≡ false
  mine_outside n = outside v cells seats S j x o n has_open K.unfixed

  free_of_mine : (key : Key) → IsFree (holds_at cells (cell_of c.id)) S.ledger key → HasNoX (holds_at cells (cell_of c.id)) o.id key
  free_of_mine key f h has m = by (lets_change key h.request) refl
    where
      by : (b : Bool) → lets_change key h.request ≡ b → b ≡ false
      by true e = absurd (let z : in_journal S.ledger.items (o.id, 0) ≡ true = ap (λ (n : ℕ). in_journal S.ledger.items (n, 0)) (sym m) ∙ f h has e in let y = mine_outside 0 in cc)
      by false e = refl

  free_before : (n : ℕ) (key : Key) → IsFree (holds_at cells_then n) S.ledger key → IsFree (holds_at cells n) S.ledger key
  free_before n key f h has r = f h (subst (In h) (sym (same_holds n)) has) r

  -- rows of a key, as the journal leads to them
  free_then : (id : ℕ) → 1 ≤ id → (key : Key) → IsFree (holds_at cells_then (cell_of id)) S.ledger key
      → of_key (columns_at (defs_of T) id) key (versions_at cells_then id) ≡ of_key (columns_at (defs_of T) id) key (versions_of T id)
  free_then = by_table (λ id. (key : Key) → IsFree (holds_at cells_then (cell_of id)) S.ledger key → of_key (columns_at (defs_of T) id) key (versions_at cells_then id) ≡ of_key (columns_at (defs_of T) id) key (versions_of T id))
      (λ key f. let g = free_before (cell_of c.id) key f in kept_key key (λ vs. vs) (free_of_mine key g) ∙ S.rows_agree.free c.id key (omega (arith, user)) g)
      (λ id l ne key f. key_rows cells_then id key (λ vs. vs) (versions_at cells id) (rows_elsewhere id ne) ∙ S.rows_agree.free id key l (free_before (cell_of id) key f))

  pub counts_then : (tx id : ℕ) (vs : List Version) → counted tx id session_then.place vs ≡ vs
  counts_then tx id vs = by o.explicit
    where
      by : (b : Bool) → counted tx id (inside text (stage_after b (reply.Changed count))) vs ≡ vs
      by true = refl
      by false = refl

  own_then : (id : ℕ) → 1 ≤ id → (key : Key) (h : Hold) → In h (holds_at cells_then (cell_of id)) → h.tx ≡ o.id → lets_change key h.request ≡ true
      → counted o.id id session_then.place (of_key (columns_at (defs_of T) id) key (versions_at cells_then id)) ≡ of_key (columns_at (defs_of T) id) key (versions_of (script_end v T session_then open_then).state.tables id)
  own_then = by_table (λ id. (key : Key) (h : Hold) → In h (holds_at cells_then (cell_of id)) → h.tx ≡ o.id → lets_change key h.request ≡ true
      → counted o.id id session_then.place (of_key (columns_at (defs_of T) id) key (versions_at cells_then id)) ≡ of_key (columns_at (defs_of T) id) key (versions_of (script_end v T session_then open_then).state.tables id))
      (λ key h has m r. counts_then o.id c.id _ ∙ key_rows cells_then c.id key (λ vs. vs) rows_then rows_are ∙ owned key h (was_held (cell_of c.id) h has) m r ∙ ap (of_key columns key) (sym script_rows))
      (λ id l ne key h has m r. counts_then o.id id _ ∙ key_rows cells_then id key (λ vs. vs) (versions_at cells id) (rows_elsewhere id ne)
      ∙ sym (no_count id _) ∙ S.rows_agree.own j x o has_open K.unfixed id key l h (was_held (cell_of id) h has) m r ∙ ap (of_key (columns_at (defs_of T) id) key) (sym (script_elsewhere id (not_this id ne))))

  own_else : (n : ℕ) (z : Session) (r : OpenTransaction) → n ≢ j → HasOpen seats n z r → r.end ≡ unfixed → (id : ℕ) → 1 ≤ id → (key : Key) (h : Hold) → In h (holds_at cells_then (cell_of id)) → h.tx ≡ r.id → lets_change key h.request ≡ true
      → counted r.id id z.place (of_key (columns_at (defs_of T) id) key (versions_at cells_then id)) ≡ of_key (columns_at (defs_of T) id) key (versions_of (script_end v T z r).state.tables id)
  own_else n z r ne g e = by_table (λ id. (key : Key) (h : Hold) → In h (holds_at cells_then (cell_of id)) → h.tx ≡ r.id → lets_change key h.request ≡ true
      → counted r.id id z.place (of_key (columns_at (defs_of T) id) key (versions_at cells_then id)) ≡ of_key (columns_at (defs_of T) id) key (versions_of (script_end v T z r).state.tables id))
      (λ key h has m reach. kept_key key (counted r.id c.id z.place) (none_besides key h (was_held (cell_of c.id) h has) (λ y. ne (one_seat v cells seats S n j z x r o g has_open (sym m ∙ y))) reach)
      ∙ S.rows_agree.own n z r g e c.id key (omega (arith, user)) h (was_held (cell_of c.id) h has) m reach)
      (λ id l d key h has m reach. key_rows cells_then id key (counted r.id id z.place) (versions_at cells id) (rows_elsewhere id d) ∙ S.rows_agree.own n z r g e id key l h (was_held (cell_of id) h has) m reach)

  undone_then : (id : ℕ) → 1 ≤ id → (key : Key) (h : Hold) → In h (holds_at cells_then (cell_of id)) → in_journal S.ledger.items (h.tx, 0) ≡ false → lets_change key h.request ≡ true
      → versions_undone h.tx 0 (of_key (columns_at (defs_of T) id) key (versions_at cells_then id)) ≡ of_key (columns_at (defs_of T) id) key (versions_of T id)
  undone_then = by_table (λ id. (key : Key) (h : Hold) → In h (holds_at cells_then (cell_of id)) → in_journal S.ledger.items (h.tx, 0) ≡ false → lets_change key h.request ≡ true
      → versions_undone h.tx 0 (of_key (columns_at (defs_of T) id) key (versions_at cells_then id)) ≡ of_key (columns_at (defs_of T) id) key (versions_of T id))
      (λ key h has u reach. let was = was_held (cell_of c.id) h has in ⊎_elim
      (λ (m : h.tx ≡ o.id). key_rows cells_then c.id key (versions_undone h.tx 0) rows_then rows_are
      ∙ ap (λ (n : ℕ). versions_undone n 0 (of_key columns key rows_then)) m ∙ undo_key key ∙ ap (λ (n : ℕ). versions_undone n 0 (of_key columns key c.versions)) (sym m)
      ∙ sym (key_rows cells c.id key (versions_undone h.tx 0) c.versions rows_were))
      (λ (ne : h.tx ≢ o.id). kept_key key (versions_undone h.tx 0) (none_besides key h was ne reach))
      (cases_eq h.tx o.id)
      ∙ S.rows_agree.undone c.id key (omega (arith, user)) h was u reach)
      (λ id l ne key h has u reach. key_rows cells_then id key (versions_undone h.tx 0) (versions_at cells id) (rows_elsewhere id ne) ∙ S.rows_agree.undone id key l h (was_held (cell_of id) h has) u reach)

  rising_then : (id : ℕ) → 1 ≤ id → Rising (versions_at cells_then id)
  rising_then = by_table (λ id. Rising (versions_at cells_then id)) (subst Rising (sym rows_are) (all_rising o.id o.seq changes c.versions V_before V_rising))
      (λ id l ne. subst Rising (sym (rows_elsewhere id ne)) (S.rows_agree.rising id l))

  before_then : (id : ℕ) → 1 ≤ id → AllByRecursion (MadeBefore o.id open_then.seq) (counted o.id id session_then.place (versions_at cells_then id))
  before_then = by_table (λ id. AllByRecursion (MadeBefore o.id open_then.seq) (counted o.id id session_then.place (versions_at cells_then id)))
      (subst (AllByRecursion (MadeBefore o.id open_then.seq)) (sym (counts_then o.id c.id _ ∙ rows_are)) (all_before o.id o.seq changes c.versions V_before))
      (λ id l ne. subst (AllByRecursion (MadeBefore o.id open_then.seq)) (sym (counts_then o.id id _ ∙ rows_elsewhere id ne))
      (all_weaker (MadeBefore o.id o.seq) (MadeBefore o.id open_then.seq) (λ w. later o.id o.seq (length changes) w) (versions_at cells id)
      (subst (AllByRecursion (MadeBefore o.id o.seq)) (no_count id (versions_at cells id)) (S.rows_agree.before j x o has_open K.unfixed id l))))

  -- another transaction's counter is above its starts and ends, which stay
  before_else : (n : ℕ) (z : Session) (r : OpenTransaction) → n ≢ j → HasOpen seats n z r → r.end ≡ unfixed → (id : ℕ) → 1 ≤ id → AllByRecursion (MadeBefore r.id r.seq) (counted r.id id z.place (versions_at cells_then id))
  before_else n z r ne g e = by_table (λ id. AllByRecursion (MadeBefore r.id r.seq) (counted r.id id z.place (versions_at cells_then id)))
      (subst (λ (vs : List Version). AllByRecursion (MadeBefore r.id r.seq) (counted r.id c.id z.place vs)) (sym rows_are)
      (below (counted_is r.id c.id z.place) (S.rows_agree.back n z r g)
      (subst (λ (vs : List Version). AllByRecursion (MadeBefore r.id r.seq) (counted r.id c.id z.place vs)) rows_were (S.rows_agree.before n z r g e c.id (omega (arith, user))))))
      (λ id l d. subst (λ (vs : List Version). AllByRecursion (MadeBefore r.id r.seq) (counted r.id id z.place vs)) (sym (rows_elsewhere id d)) (S.rows_agree.before n z r g e id l))
    where
      below : IsCounted r.id c.id z.place → GoesBackTo z.place r.seq → AllByRecursion (MadeBefore r.id r.seq) (counted r.id c.id z.place c.versions) → AllByRecursion (MadeBefore r.id r.seq) (counted r.id c.id z.place rows_then)
      below (all_count same) back h = subst (AllByRecursion (MadeBefore r.id r.seq)) (sym (same rows_then)) (all_untouched o.id r.id r.seq (λ y. ne (one_seat v cells seats S n j z x r o g has_open (sym y))) o.seq changes c.versions (subst (AllByRecursion (MadeBefore r.id r.seq)) (same c.versions) h))
      below (some_undone seq goes same) back h = subst (AllByRecursion (MadeBefore r.id r.seq)) (sym (same rows_then)) (subst (λ (m : ℕ). AllByRecursion (MadeBefore r.id m) (versions_undone r.id seq rows_then)) (goes r.seq back) (undone_before r.id seq rows_then))

  pub rows_agree : RowsAgree v cells_then S.ledger seats_then
  rows_agree = record {
    free = λ id key l f. free_then id l key f;
    own = each_open seats j (sits s session_then) x o session_then open_then goes
        (λ n z r. r.end ≡ unfixed → (id : ℕ) (key : Key) → 1 ≤ id → (h : Hold) → In h (holds_at cells_then (cell_of id)) → h.tx ≡ r.id → lets_change key h.request ≡ true
        → counted r.id id z.place (of_key (columns_at (defs_of T) id) key (versions_at cells_then id)) ≡ of_key (columns_at (defs_of T) id) key (versions_of (script_end v T z r).state.tables id))
        (λ e id key l h has m r. own_then id l key h has m r)
        (λ n z r ne g e id key l h has m reach. own_else n z r ne g e id l key h has m reach);
    undone = λ id key l h has u r. undone_then id l key h has u r;
    rising = rising_then;
    back = each_open seats j (sits s session_then) x o session_then open_then goes (λ n z r. GoesBackTo z.place r.seq) (by o.explicit) (λ n z r ne g. S.rows_agree.back n z r g);
    explicit = each_open seats j (sits s session_then) x o session_then open_then goes (λ n z r. IsExplicitAt z.place r.explicit) (by_explicit o.explicit) (λ n z r ne g. S.rows_agree.explicit n z r g);
    before = each_open seats j (sits s session_then) x o session_then open_then goes
        (λ n z r. r.end ≡ unfixed → (id : ℕ) → 1 ≤ id → AllByRecursion (MadeBefore r.id r.seq) (counted r.id id z.place (versions_at cells_then id)))
        (λ e id l. before_then id l) before_else;
  }
    where
      by_explicit : (b : Bool) → IsExplicitAt (inside text (stage_after b (reply.Changed count))) o.explicit
      by_explicit true = tt
      by_explicit false = tt

      by : (b : Bool) → GoesBackTo (inside text (stage_after b (reply.Changed count))) open_then.seq
      by true = tt
      by false = tt
