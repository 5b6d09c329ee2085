-- A statement of rows that is done in its table's cell, and changes none of its rows: cells and seats stand together.
use Rattle.law_protocol_steps.proofs.ActedFor.{StandsBy}
use Rattle.std.proofs.Common.{subst₂, Bool, List, None, Option, Some, [], ap, append-nil, arith, false, inl, inr, map, refl, set, subst, sym, true, ℕ, ⊎_elim, ◌++◌, ◌∙◌, ◌∷◌, ◌≡◌, ◌≢◌, ◌≤◌, ◌⊎◌, Err, Ok}
use Rattle.sql_types.specs.declared.lock.Mode.TheVariants.{IS, IX, S, X}
use Rattle.sql_types.specs.declared.lock.Item.TheVariants.{Whole}
use Rattle.sql_types.specs.declared.table.Part.TheVariants.{Base, History, View, System}
use Rattle.law_protocol_steps.proofs.SaidMore as more
use Rattle.law_protocol_changes.proofs.SaidThere as say
use Rattle.law_protocol_steps.proofs.TakesInTable as take
use Rattle.spec_model.specs.Effect as effects
use Rattle.sql_types.specs.declared.statement.RowStmt.TheVariants.{Insert, Update, Delete}
use Rattle.sql_types.specs.declared.reply.Reply.TheVariants as reply
use Rattle.sql_types.specs.declared.statement.Stmt.TheVariants as stmt
use Rattle.sql_value.specs.declared.refusal.Refusal.TheVariants.{NoSuchTable}
use Rattle.spec_model.specs.Agreement.{AgreeOnAll, columns_at}
use Rattle.law_protocol_steps.proofs.Taken.{AreFree, taken_comes, taken_holds}
use Rattle.spec_protocol.specs.Cells.{Cell, Rows, TableCell, catalog_at, cell_of, holds_at}
use Rattle.sql_value.specs.declared.column.ColumnDef.{ColumnDef}
use Rattle.spec_model.specs.Catalog.{Defs, NamedPart, Tables, defs_of, find_part, versions_of}
use Rattle.spec_history.specs.Lists.{Each, In, Text}
use Rattle.spec_protocol.specs.LocksCover.{HasIntent, IsNamed, name_of, table_of}
use Rattle.law_protocol_steps.proofs.OfCells.{HasLooked, HoldsInCatalog, IsGotAt, in_journal, looked_now}
use Rattle.spec_protocol.specs.OpenOnes.{HasOpen, script_end, script_so_far}
use Rattle.sql_types.specs.declared.lock.Hold.{Hold}
use Rattle.spec_protocol.specs.RequestsIn.{Holds, of_catalog, of_cell, requests_in}
use Rattle.law_frame.proofs.PlainRefusals.{IsPlainReply, effect_reply}
use Rattle.sql_types.specs.declared.journal.JournalItem.{JournalItem}
use Rattle.spec_model.specs.Keys.{Key}
use Rattle.spec_model.specs.Journals.{Line, serial}
use Rattle.spec_protocol.specs.Seats.{OpenTransaction, SessionStatus, SeatState, Session, found, inside}
use Rattle.sql_types.specs.declared.reply.Reply.{Reply}
use Rattle.spec_model.specs.Script.{ScriptEnd, State, by_statement, script, by_effect}
use Rattle.sql_types.specs.declared.statement.Select.{Select}
use Rattle.spec_protocol.specs.Server.{Server}
use Rattle.spec_protocol.specs.StandTogether.{Stands}
use Rattle.sql_types.specs.declared.statement.Stmt.{Stmt}
use Rattle.sql_types.specs.declared.version.Version.{Version}
use Rattle.sql_types.specs.declared.lock.LockRequest.{LockRequest}
use Rattle.law_protocol_steps.proofs.RowsFor.{agree_on, sound}
use Rattle.law_protocol_steps.proofs.AfterSet.{all_at, each_at, set_here, set_twice}
use Rattle.law_protocol_steps.proofs.TakenLocks.{all_free}
use Rattle.spec_protocol.specs.Moves.{at_place, sits, visiting}
use Rattle.spec_model.specs.Locks.{by_key_or_whole, query_requests, requests_conflict, whole, cell_requests, query_cell_requests, row_cell_requests, row_requests}
use Rattle.spec_protocol.specs.Contents.{contents}
use Rattle.spec_protocol.specs.Doing.{done, stage_after, with_reply, rows_reply}
use Rattle.spec_history.proofs.Trace.{each_append}
use Rattle.std.proofs.lemmas.Bool.{eqb-true}
use Rattle.law_protocol_steps.proofs.Excluded.{excluded}
use Rattle.spec_model.specs.InTheWay.{first_conflict}
use Rattle.law_frame.proofs.NamedPart.{found_is_listed, found_is_system}
use lib.ListN.{get_elem?}
use Rattle.law_protocol_steps.proofs.CellsAfter.{held_here, were_here}
use Rattle.spec_model.specs.Holds.{holds_after}
use Rattle.std.specs.Prelude.{if◌then◌else◌, not, ◌==◌}
use Rattle.spec_model.specs.Where.{key_fixed}
use Rattle.spec_history.specs.Transcripts.{kind_of, rows}
use mathlib.Core.Option.{some}
use Rattle.law_protocol_steps.proofs.ScriptMore.{step_is}
use Rattle.law_protocol_steps.proofs.Takes.{tables_now}
use Rattle.spec_model.specs.ScriptRequests.{text_requests}
use Rattle.spec_protocol.specs.TableVisits.{Found, with_holds, ReadsRows, RefusesRows}
use Rattle.spec_model.specs.Refusals.{Checked, and_then, or_refused}
use Rattle.spec_model.specs.Rows.{Row}
use Rattle.sql_types.specs.declared.statement.RowStmt.{RowStmt}
use Rattle.spec_model.specs.Parts.{columns_of}
use Rattle.spec_model.specs.Effect.{effect, shown, query_effect, query_rows, row_effect}
use Rattle.law_protocol_steps.proofs.NewLine.{found_alone, same_check}
use Rattle.spec_model.specs.Query.{query_check, select_check}
use Rattle.spec_model.specs.Changes.{row_changes}
use Rattle.spec_model.specs.Checks.{row_statement_check}
use Rattle.law_protocol_tables.proofs.Changes.{rows_announced}
use Rattle.law_frame.proofs.SameChangeSet.{same_changes, rows_by_requests}
use Rattle.spec_protocol.specs.ActsOf.{done_acts}
use Rattle.spec_history.specs.Acts.{Act}

abbrev Announces : List LockRequest → Type 0
Announces ws = (w : LockRequest) → In w ws → (u : LockRequest) × In u ws × (u.item ≡ Whole)

abbrev SharesOnly : List LockRequest → Type 0
SharesOnly ws = (w : LockRequest) → In w ws → w.mode ≡ X → ⊥

-- ---- the wants of a SELECT

key_announced : (o : Option Key) → Announces (by_key_or_whole IS S o)
key_announced (Some key) w i = (whole IS, inl refl, refl)
key_announced None w i = (whole S, inl refl, refl)

key_shares : (o : Option Key) → SharesOnly (by_key_or_whole IS S o)
key_shares (Some key) w (inl e) m = let z : IS ≡ X = ap (λ (u : LockRequest). u.mode) e ∙ m in cc
key_shares (Some key) w (inr (inl e)) m = let z : S ≡ X = ap (λ (u : LockRequest). u.mode) e ∙ m in cc
key_shares (Some key) w (inr (inr e)) m = e
key_shares None w (inl e) m = let z : S ≡ X = ap (λ (u : LockRequest). u.mode) e ∙ m in cc
key_shares None w (inr e) m = e

whole_shares : SharesOnly (whole S ∷ [])
whole_shares w (inl e) m = let z : S ≡ X = ap (λ (u : LockRequest). u.mode) e ∙ m in cc
whole_shares w (inr e) m = e

query_announced : (n : NamedPart) (q : Select) → Announces (query_requests n q)
unfolding query_requests
query_announced (def, Base) q w i = key_announced (key_fixed def.columns q.cond) w i
query_announced (def, History) q w i = (whole S, inl refl, refl)
query_announced (def, View) q w i = (whole S, inl refl, refl)
query_announced (def, System) q w i = absurd i

query_shares : (n : NamedPart) (q : Select) → SharesOnly (query_requests n q)
unfolding query_requests
query_shares (def, Base) q w i = key_shares (key_fixed def.columns q.cond) w i
query_shares (def, History) q w i = whole_shares w i
query_shares (def, View) q w i = whole_shares w i
query_shares (def, System) q w i = absurd i

module _ (v : Server) (cells : List Cell) (seats : List SeatState) {history : List Act} (stands_before : Stands v history cells seats) (j : ℕ) (s : SeatState) (there : get_elem? seats j ≡ some s) (i : ℕ) (c : TableCell) (out : get_elem? cells i ≡ some (Rows c))
    (o : OpenTransaction) (named : NamedPart) (fresh : Bool) (L : Found v c s o named fresh) (ws : List LockRequest) (no_conflict : first_conflict c.holds o.id ws ≡ None) (announced : Announces ws)
    (intents : (w : LockRequest) → In w ws → w.mode ≡ X → (u : LockRequest) × In u ws × (u.item ≡ Whole) × ((u.mode ≡ IX) ⊎ (u.mode ≡ X))) where
  abbrev x : Session
  x = L.at.stands.x

  abbrev text : Text
  text = L.at.stands.text

  abbrev D : Defs
  D = defs_of (tables_now stands_before)

  place : x.place ≡ inside text (found (Some named) fresh)
  place = L.at.stands.place ∙ ap (inside text) L.at_found

  has_open : HasOpen seats j x o
  has_open = record { seat = s; there = there; role = L.at.stands.role; open_one = L.at.open_one }

  pub got : IsNamed (tables_now stands_before) (Some L.at.stands.stmt) (Some named)
  got = subst (λ (q : Option Stmt). IsNamed (tables_now stands_before) q (Some named)) L.at.stands.is
      (subst (λ (q : SessionStatus). IsGotAt v cells (tables_now stands_before) o.id (not (in_journal stands_before.ledger.items (o.id, 0))) q) place (stands_before.locks_cover.got j x o has_open ((looked_now v cells (tables_now stands_before) o x.place (stands_before.locks_cover.looked j x o has_open L.at.unfixed) (subst HasLooked (sym place) tt)).lock)))

  pub finds : find_part D got.0 ≡ Some named
  finds = sym got.2

  at : take.IsAtPlace i c
  at = take.table_place cells stands_before.catalog stands_before.ledger i c stands_before.are_cells out

  pub user : 3 ≤ c.id
  user = let e = at.id in omega arith

  here : cell_of named.0.id ≡ i
  here = ap cell_of L.here ∙ take.cell_at i c at

  free : AreFree c.holds o.id ws
  free = all_free c.holds o.id ws no_conflict

  takes_at : take.TakesAt v cells seats stands_before j s x o text (Some named) fresh i c ws
  takes_at = record {
    there = there;
    role = L.at.stands.role;
    open_one = L.at.open_one;
    unfixed = L.at.unfixed;
    place = place;
    out = out;
    free = free;
    intents = intents;
    announced = announced;
  }

  abbrev cells1 : List Cell
  cells1 = take.then_cells v cells seats stands_before j s x o text (Some named) fresh i c ws takes_at

  abbrev seats1 : List SeatState
  seats1 = take.then_seats v cells seats stands_before j s x o text (Some named) fresh i c ws takes_at

  abbrev cell1 : TableCell
  cell1 = take.then_cell v cells seats stands_before j s x o text (Some named) fresh i c ws takes_at

  abbrev x1 : Session
  x1 = take.then_session v cells seats stands_before j s x o text (Some named) fresh i c ws takes_at

  abbrev o1 : OpenTransaction
  o1 = visiting i o

  stands_then : Stands v history cells1 seats1
  stands_then = take.takes_there v cells seats stands_before j s x o text (Some named) fresh i c ws takes_at

  same_ledger : stands_then.ledger ≡ stands_before.ledger
  unfolding stands_then
  same_ledger = take.same_ledger v cells seats stands_before j s x o text (Some named) fresh i c ws takes_at

  abbrev T : Tables
  T = tables_now stands_then

  same_defs : defs_of T ≡ D
  same_defs = ap (λ (items : List JournalItem). defs_of (serial v.reads items)) (ap (λ l. l.items) same_ledger)

  there1 : get_elem? seats1 j ≡ some (sits s x1)
  there1 = set_here seats j s (sits s x1) there

  cell_out : get_elem? cells1 i ≡ some (Rows cell1)
  cell_out = set_here cells i (Rows c) (Rows cell1) out

  has_open1 : HasOpen seats1 j x1 o1
  has_open1 = record { seat = sits s x1; there = there1; role = refl; open_one = refl }

  held_here1 : holds_at cells1 i ≡ cell1.holds
  held_here1 = held_here cells1 i (Rows cell1) (Rows cell1) cell_out

  free1 : AreFree cell1.holds o.id ws
  free1 = all_at _ ws (λ w is. all_at _ cell1.holds (λ h has ne. ⊎_elim
      (λ (was : In h c.holds). each_at (λ (g : Hold). g.tx ≢ o.id → requests_conflict w g.request ≡ false) c.holds h (each_at (λ (u : LockRequest). Each (λ g. g.tx ≢ o.id → requests_conflict u g.request ≡ false) c.holds) ws w free is) was ne)
      (λ (new : (h.tx ≡ o.id) × In h.request ws). absurd (ne new.0))
      (taken_comes o.id ws c.holds h has)))

  intents1 : (h : Hold) → In h cell1.holds → h.request.mode ≡ X → HasIntent cell1.holds h
  intents1 h has m = subst (λ (hs : List Hold). HasIntent hs h) held_here1 (stands_then.locks_cover.intents i h (subst (In h) (sym held_here1) has) m)

  -- ---- its wants are held

  module _ (cell_is : (text_requests D o.explicit (v.reads text)).cell ≡ Some (named.0.id, ws)) where
    looked1 : HoldsInCatalog v cells1 T x1.place o1
    looked1 = looked_now v cells1 T o1 x1.place (stands_then.locks_cover.looked j x1 o1 has_open1 L.at.unfixed) tt

    covers : (n : ℕ) → Each (Holds ((contents cells1).holds n) o1.id) (requests_in v (defs_of T) o1.explicit n text)
    covers n = subst (λ cell. Each (Holds ((contents cells1).holds n) o.id) ((if n == catalog_at then of_catalog (text_requests (defs_of T) o.explicit (v.reads text)).catalog else []) ++ of_cell n cell))
        (sym (ap (λ ds. (text_requests ds o.explicit (v.reads text)).cell) same_defs ∙ cell_is))
        (each_append (Holds ((contents cells1).holds n) o.id) (if n == catalog_at then of_catalog (text_requests (defs_of T) o.explicit (v.reads text)).catalog else []) (of_cell n (Some (named.0.id, ws))) (in_catalog (n == catalog_at) refl) (in_cell (cell_of named.0.id == n) refl))
      where
        in_catalog : (b : Bool) → (n == catalog_at) ≡ b → Each (Holds ((contents cells1).holds n) o.id) (if b then of_catalog (text_requests (defs_of T) o.explicit (v.reads text)).catalog else [])
        in_catalog true e = subst (λ m. Each (Holds ((contents cells1).holds m) o.id) (of_catalog (text_requests (defs_of T) o.explicit (v.reads text)).catalog)) (sym (eqb-true n catalog_at e)) (looked1.requests text refl)
        in_catalog false e = tt

        in_cell : (b : Bool) → (cell_of named.0.id == n) ≡ b → Each (Holds ((contents cells1).holds n) o.id) (if b then ws else [])
        in_cell true e = subst (λ m. Each (Holds ((contents cells1).holds m) o.id) ws) (sym here ∙ eqb-true (cell_of named.0.id) n e) (subst (λ (hs : List Hold). Each (Holds hs o.id) ws) (sym held_here1) (taken_holds o.id ws c.holds))
        in_cell false e = tt

    -- ---- its script's table agrees on them

    columns_are : columns_at (defs_of T) c.id ≡ named.0.columns
    columns_are = ap (λ (ds : Defs). columns_at ds c.id) same_defs ∙ ap (columns_at D) (sym L.here) ∙ (found_is_listed 1 D got.0 named (sound v cells seats stands_before j x o has_open L.at.unfixed).ids finds).columns

    whole_script : script_so_far x1 o1 ≡ o1.script
    whole_script = append-nil o.script

    abbrev state : State
    state = more.X v cells1 seats1 stands_then j (sits s x1) there1 x1 refl o1 refl L.at.unfixed refl text (found (Some named) false) refl refl (λ id vs. refl)

    same_state : script_end v T x1 o1 ≡ script v.reads o.explicit T o.id (map (λ l. l.0) o.script)
    same_state = ap (λ (ls : List Line). script v.reads o.explicit T o.id (map (λ l. l.0) ls)) whole_script

    held_in : (h : Hold) → In h (holds_at cells1 (cell_of c.id)) → In h cell1.holds
    held_in h has = subst (In h) held_here1 (subst (λ (n : ℕ). In h (holds_at cells1 n)) (take.cell_at i c at) has)

    agree : AgreeOnAll named.0.columns ws c.versions (versions_of state.tables c.id)
    agree = subst (λ (e : ScriptEnd). AgreeOnAll named.0.columns ws c.versions (versions_of e.state.tables c.id)) same_state
        (subst (λ (cols : List ColumnDef). AgreeOnAll cols ws c.versions (versions_of (script_end v T x1 o1).state.tables c.id)) columns_are
        (subst (λ (vs : List Version). AgreeOnAll (columns_at (defs_of T) c.id) ws vs (versions_of (script_end v T x1 o1).state.tables c.id)) (were_here cells1 i (Rows cell1) (Rows cell1) cell_out c.id (take.cell_at i c at))
        (agree_on v cells1 seats1 stands_then j x1 o1 has_open1 L.at.unfixed whole_script c.id (omega (arith, user)) (λ vs. refl) ws
        (λ w is r key q h has ne. excluded cell1.holds o.id ws free1 intents1 announced key w is r q h (held_in h has) ne))))

    state_defs : defs_of state.tables ≡ D
    state_defs = say.same_defs v cells1 seats1 stands_then j (sits s x1) there1 x1 refl o1 refl L.at.unfixed text (Some named) false refl ∙ same_defs

    module _ (r : Reply) (by_effects : (b : Bool) (X : State) → (by_statement b o.id X (Some L.at.stands.stmt)).1 ≡ (effect X.tables o.id X.seq L.at.stands.stmt).reply) (kind : kind_of (Some L.at.stands.stmt) ≡ rows)
        (step : (b : Bool) (X : State) → defs_of X.tables ≡ D → AgreeOnAll named.0.columns ws c.versions (versions_of X.tables c.id) → by_statement b o.id X (Some L.at.stands.stmt) ≡ (X, r))
        (d : TableCell) (t : SeatState) (cell : d ≡ with_holds (holds_after c.holds o.id ws) c) (seat : t ≡ done s L.at.stands (visiting (cell_of c.id) o) r) where
      plain : IsPlainReply r
      plain = subst IsPlainReply (sym (by_effects o.explicit state) ∙ ap (λ (q : State × Reply). q.1) (step o.explicit state state_defs agree)) (effect_reply state.tables o.id state.seq L.at.stands.stmt)

      said : StandsBy v j history o.id o.explicit (done_acts o.explicit text true r) cells1 (set seats1 j (sits (sits s x1) (at_place (Some (with_reply text r o1)) (inside text (stage_after o1.explicit r)) x1)))
      said = say.said_for_it v cells1 seats1 stands_then j (sits s x1) there1 x1 refl o1 refl L.at.unfixed text (Some named) false refl r plain
          (step_is v.reads o.explicit o.id state text ∙ ap (by_statement o.explicit o.id state) L.at.stands.is ∙ step o.explicit state state_defs agree)
          covers (ap kind_of (v.real.reading text ∙ L.at.stands.is) ∙ kind)

      pub row_said : StandsBy v j history o.id o.explicit (done_acts o.explicit text true r) (set cells i (Rows d)) (set seats j t)
      row_said = subst₂ (λ (cs : List Cell) (us : List SeatState). StandsBy v j history o.id o.explicit (done_acts o.explicit text true r) cs us) (ap (λ (e : TableCell). set cells i (Rows e)) (sym cell))
          (set_twice seats j (sits s x1) _ ∙ ap (set seats j) (ap (λ (n : ℕ). done s L.at.stands (visiting n o) r) (sym (take.cell_at i c at)) ∙ sym seat)) said

-- ---- the visits

pub same_query : (defs : Defs) (q : Select) (one : NamedPart) → find_part defs q.table ≡ Some one → query_check (one.0 ∷ []) q ≡ query_check defs q
unfolding query_check
same_query defs q one e = ap (λ (o : Option NamedPart). and_then (or_refused NoSuchTable o) (λ n. and_then (select_check (columns_of n.0 n.1) q) (λ passed. Ok n))) (found_alone defs q.table one e ∙ sym e)

module _ (v : Server) (cells : List Cell) (seats : List SeatState) {history : List Act} (stands_before : Stands v history cells seats) (j : ℕ) (s : SeatState) (there : get_elem? seats j ≡ some s) (i : ℕ) (c d : TableCell) (t : SeatState) (out : get_elem? cells i ≡ some (Rows c)) where
  -- INSERT, UPDATE and DELETE that a row refuses
  pub refuses_rows : (L : RefusesRows v c s d t) → StandsBy v j history L.o.id L.o.explicit (done_acts L.o.explicit L.at.at.stands.text true (reply.Refused L.refusal)) (set cells i (Rows d)) (set seats j t)
  unfolding effect cell_requests
  refuses_rows L = row_said v cells seats stands_before j s there i c out L.o L.named L.fresh L.at (row_requests L.named.0 L.row) L.free
      (λ w h. let u = rows_announced L.named.0 L.row w h in (u.0, u.1, u.2)) (λ w h m. rows_announced L.named.0 L.row w h)
      (ap (λ (q : Option Stmt). (text_requests D L.o.explicit q).cell) reads ∙ ap (λ m. row_cell_requests L.row m) checked)
      (reply.Refused L.refusal) by_effects (ap (λ (q : Stmt). kind_of (Some q)) L.is) step d t L.cell L.seat
    where
      D : Defs
      D = defs_of (tables_now stands_before)

      reads : v.reads L.at.at.stands.text ≡ Some (stmt.Change L.row)
      reads = L.at.at.stands.is ∙ ap (λ (q : Stmt). Some q) L.is

      is_found : IsNamed (tables_now stands_before) (Some L.at.at.stands.stmt) (Some L.named)
      is_found = got v cells seats stands_before j s there i c out L.o L.named L.fresh L.at (row_requests L.named.0 L.row) L.free (λ w h. let u = rows_announced L.named.0 L.row w h in (u.0, u.1, u.2)) (λ w h m. rows_announced L.named.0 L.row w h)

      finds_it : find_part D (table_of L.row) ≡ Some L.named
      finds_it = by L.row (subst (λ (q : Stmt). name_of q ≡ Some is_found.0) L.is is_found.1)
        where
          by : (row : RowStmt) → name_of (stmt.Change row) ≡ Some is_found.0 → find_part D (table_of row) ≡ Some L.named
          by (Insert table names rs) e = let z : table ≡ is_found.0 = cc in ap (find_part D) z ∙ sym is_found.2
          by (Update table sets cond) e = let z : table ≡ is_found.0 = cc in ap (find_part D) z ∙ sym is_found.2
          by (Delete table cond) e = let z : table ≡ is_found.0 = cc in ap (find_part D) z ∙ sym is_found.2

      checked : row_statement_check D L.row ≡ Ok L.named.0
      checked = sym (same_check D L.row L.named finds_it) ∙ L.passes

      step : (b : Bool) (x : State) → defs_of x.tables ≡ D → AgreeOnAll L.named.0.columns (row_requests L.named.0 L.row) c.versions (versions_of x.tables c.id) → by_statement b L.o.id x (Some L.at.at.stands.stmt) ≡ (x, reply.Refused L.refusal)
      step b x e a = ap (λ (q : Stmt). by_statement b L.o.id x (Some q)) L.is ∙ by b
        where
          refused_there : row_changes L.named.0 (versions_of x.tables L.named.0.id) L.row ≡ Err L.refusal
          refused_there = ap (λ (n : ℕ). row_changes L.named.0 (versions_of x.tables n) L.row) L.at.here ∙ sym (same_changes L.named.0 L.row c.versions (versions_of x.tables c.id) a) ∙ L.refuses

          effect_is : row_effect x.tables L.o.id x.seq L.row (row_statement_check (defs_of x.tables) L.row) ≡ record { tables = x.tables; seq = x.seq; reply = reply.Refused L.refusal }
          effect_is = ap (λ ds. row_effect x.tables L.o.id x.seq L.row (row_statement_check ds L.row)) e ∙ ap (row_effect x.tables L.o.id x.seq L.row) checked ∙ ap (effects.done x.tables L.o.id x.seq L.named.0.id) refused_there

          by : (b : Bool) → by_statement b L.o.id x (Some (stmt.Change L.row)) ≡ (x, reply.Refused L.refusal)
          by true = ap (by_effect x) effect_is
          by false = ap (by_effect x) effect_is

      by_effects : (b : Bool) (x : State) → (by_statement b L.o.id x (Some L.at.at.stands.stmt)).1 ≡ (effect x.tables L.o.id x.seq L.at.at.stands.stmt).reply
      by_effects b x = subst (λ (q : Stmt). (by_statement b L.o.id x (Some q)).1 ≡ (effect x.tables L.o.id x.seq q).reply) (sym L.is) (by b)
        where
          by : (b : Bool) → (by_statement b L.o.id x (Some (stmt.Change L.row))).1 ≡ (effect x.tables L.o.id x.seq (stmt.Change L.row)).reply
          by true = refl
          by false = refl

  -- SELECT
  pub reads_rows : (L : ReadsRows v c s d t) → StandsBy v j history L.o.id L.o.explicit (done_acts L.o.explicit L.at.at.stands.text true (rows_reply (query_rows L.q L.named c.versions))) (set cells i (Rows d)) (set seats j t)
  unfolding effect cell_requests
  reads_rows L = row_said v cells seats stands_before j s there i c out L.o L.named L.fresh L.at (query_requests L.named L.q) L.free
      (query_announced L.named L.q) (λ w h m. absurd (query_shares L.named L.q w h m))
      (ap (λ (q : Option Stmt). (text_requests D L.o.explicit q).cell) reads ∙ ap (λ m. query_cell_requests L.q m) checked)
      (rows_reply (query_rows L.q L.named c.versions)) by_effects (ap (λ (q : Stmt). kind_of (Some q)) L.is) step d t L.cell L.seat
    where
      D : Defs
      D = defs_of (tables_now stands_before)

      reads : v.reads L.at.at.stands.text ≡ Some (stmt.Select L.q)
      reads = L.at.at.stands.is ∙ ap (λ (q : Stmt). Some q) L.is

      is_found : IsNamed (tables_now stands_before) (Some L.at.at.stands.stmt) (Some L.named)
      is_found = got v cells seats stands_before j s there i c out L.o L.named L.fresh L.at (query_requests L.named L.q) L.free (query_announced L.named L.q) (λ w h m. absurd (query_shares L.named L.q w h m))

      finds_it : find_part D L.q.table ≡ Some L.named
      finds_it = let e : Some L.q.table ≡ Some is_found.0 = subst (λ (q : Stmt). name_of q ≡ Some is_found.0) L.is is_found.1 in let z : L.q.table ≡ is_found.0 = cc in ap (find_part D) z ∙ sym is_found.2

      checked : query_check D L.q ≡ Ok L.named
      checked = sym (same_query D L.q L.named finds_it) ∙ L.passes

      no_system : L.named.1 ≡ System → ⊥
      no_system e = let l : L.named.0.id ≤ 2 = found_is_system D L.q.table L.named finds_it e in let u = user v cells seats stands_before j s there i c out L.o L.named L.fresh L.at (query_requests L.named L.q) L.free (query_announced L.named L.q) (λ w h m. absurd (query_shares L.named L.q w h m)) in let h = L.at.here in omega (arith, l, u, h)

      step : (b : Bool) (x : State) → defs_of x.tables ≡ D → AgreeOnAll L.named.0.columns (query_requests L.named L.q) c.versions (versions_of x.tables c.id) → by_statement b L.o.id x (Some L.at.at.stands.stmt) ≡ (x, rows_reply (query_rows L.q L.named c.versions))
      step b x e a = ap (λ (q : Stmt). by_statement b L.o.id x (Some q)) L.is ∙ by b
        where
          rows_there : query_rows L.q L.named (versions_of x.tables L.named.0.id) ≡ query_rows L.q L.named c.versions
          rows_there = ap (λ (n : ℕ). query_rows L.q L.named (versions_of x.tables n)) L.at.here ∙ sym (rows_by_requests (tables_now stands_before) (tables_now stands_before) (sound v cells seats stands_before j L.at.at.stands.x L.o (record { seat = s; there = there; role = L.at.at.stands.role; open_one = L.at.at.open_one }) L.at.at.unfixed).ids L.q L.named c.versions (versions_of x.tables c.id) (λ z. absurd (no_system z)) a)

          shown_is : (m : Checked (List Row)) → by_effect x (shown x.tables x.seq m) ≡ (x, rows_reply m)
          shown_is (Ok rs) = refl
          shown_is (Err r) = refl

          effect_is : query_effect x.tables x.seq L.q (query_check (defs_of x.tables) L.q) ≡ shown x.tables x.seq (query_rows L.q L.named c.versions)
          effect_is = ap (λ ds. query_effect x.tables x.seq L.q (query_check ds L.q)) e ∙ ap (query_effect x.tables x.seq L.q) checked ∙ ap (shown x.tables x.seq) rows_there

          by : (b : Bool) → by_statement b L.o.id x (Some (stmt.Select L.q)) ≡ (x, rows_reply (query_rows L.q L.named c.versions))
          by true = ap (by_effect x) effect_is ∙ shown_is (query_rows L.q L.named c.versions)
          by false = ap (by_effect x) effect_is ∙ shown_is (query_rows L.q L.named c.versions)

      by_effects : (b : Bool) (x : State) → (by_statement b L.o.id x (Some L.at.at.stands.stmt)).1 ≡ (effect x.tables L.o.id x.seq L.at.at.stands.stmt).reply
      by_effects b x = subst (λ (q : Stmt). (by_statement b L.o.id x (Some q)).1 ≡ (effect x.tables L.o.id x.seq q).reply) (sym L.is) (by b)
        where
          by : (b : Bool) → (by_statement b L.o.id x (Some (stmt.Select L.q))).1 ≡ (effect x.tables L.o.id x.seq (stmt.Select L.q)).reply
          by true = refl
          by false = refl
