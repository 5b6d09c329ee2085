-- SELECT on a system table, answered in the catalog: cells and seats stand together.
use Rattle.law_protocol_steps.proofs.ActedFor.{StandsBy, first_by}
use Rattle.sql_types.specs.declared.lock.Mode.TheVariants.{S}
use Rattle.sql_types.specs.declared.table.Part.TheVariants.{System}
use Rattle.sql_types.specs.declared.statement.Stmt.TheVariants as stmt
use Rattle.law_protocol_steps.proofs.SaidMore as more
use Rattle.law_protocol_changes.proofs.SaidThere as say
use Rattle.law_protocol_steps.proofs.Looks as look
use Rattle.spec_protocol.specs.CatalogVisits.{Looks, ReadsSystem}
use Rattle.law_protocol_steps.proofs.Taken.{AreFree, taken_comes}
use Rattle.std.proofs.Common.{Bool, Err, List, Ok, Option, Some, [], ap, append-nil, arith, false, inl, map, refl, set, subst, suc, sym, true, zero, ℕ, ⊎_elim, ◌++◌, ◌∙◌, ◌∷◌, ◌≡◌, ◌≢◌, ◌≤◌}
use Rattle.spec_protocol.specs.Cells.{Catalog, CatalogCell, Cell, catalog_at, cell_of, holds_at, versions_at, versions_in}
use Rattle.spec_model.specs.Refusals.{Checked}
use Rattle.spec_model.specs.Catalog.{Tables, defs_of, find_part, versions_of}
use Rattle.spec_history.specs.Lists.{Each, In, Text}
use Rattle.spec_protocol.specs.OpenOnes.{HasOpen, script_so_far}
use Rattle.sql_types.specs.declared.lock.Hold.{Hold}
use Rattle.spec_protocol.specs.RequestsIn.{Holds, of_catalog, of_cell, requests_in}
use Rattle.law_protocol_steps.proofs.OfCells.{HoldsInCatalog, looked_now}
use Rattle.spec_model.specs.Agreement.{IdsFrom}
use Rattle.law_frame.proofs.PlainRefusals.{IsPlainReply, effect_reply}
use Rattle.sql_types.specs.declared.journal.JournalItem.{JournalItem}
use Rattle.spec_model.specs.Journals.{Line, serial}
use Rattle.spec_protocol.specs.Seats.{OpenTransaction, SeatState, Session, StatementProgress, found, inside}
use Rattle.sql_types.specs.declared.reply.Reply.{Reply}
use Rattle.spec_model.specs.Rows.{Row}
use Rattle.spec_protocol.specs.Server.{Server}
use Rattle.spec_protocol.specs.StandTogether.{History, Stands, StandsAfter}
use Rattle.spec_model.specs.Script.{State, by_effect, by_statement, script}
use Rattle.sql_types.specs.declared.statement.Stmt.{Stmt}
use Rattle.law_protocol_steps.proofs.RowsFor.{agree_on, sound}
use Rattle.law_protocol_steps.proofs.AfterSet.{all_at, each_at, set_here, set_twice}
use Rattle.law_protocol_steps.proofs.TakenLocks.{all_free}
use Rattle.spec_protocol.specs.Moves.{at_place, sits, then_at, visiting}
use Rattle.spec_model.specs.Locks.{catalog_request, cell_requests, query_cell_requests, query_requests, requests_conflict, whole}
use Rattle.spec_protocol.specs.Contents.{contents}
use Rattle.spec_history.proofs.Trace.{each_append}
use Rattle.spec_model.specs.Effect.{effect, shown, query_effect, query_rows}
use Rattle.std.proofs.lemmas.Bool.{eqb-true}
use Rattle.law_protocol_steps.proofs.Excluded.{excluded}
use Rattle.law_frame.proofs.NamedPart.{found_is_system, found_is_listed, query_passed}
use lib.ListN.{get_elem?}
use Rattle.law_protocol_steps.proofs.CellsAfter.{held_here, were_here}
use Rattle.spec_model.specs.Holds.{holds_after, holds_any}
use Rattle.std.specs.Prelude.{if◌then◌else◌, not, ◌==◌}
use Rattle.spec_history.specs.Transcripts.{kind_of}
use Rattle.spec_protocol.specs.LocksCover.{name_of}
use Rattle.spec_model.specs.Query.{query_check}
use Rattle.spec_protocol.specs.Doing.{rows_reply, with_reply, stage_after}
use mathlib.Core.Option.{some}
use Rattle.law_protocol_steps.proofs.ScriptMore.{step_is}
use Rattle.law_protocol_steps.proofs.Takes.{tables_now}
use Rattle.spec_model.specs.ScriptRequests.{text_requests}
use Rattle.spec_protocol.specs.ActsOf.{done_acts}
use Rattle.spec_history.specs.Acts.{by}
use Rattle.law_protocol_steps.proofs.GoesOn.{one_number}
use Rattle.spec_history.specs.Acts as act

module _ (v : Server) (cells : List Cell) (seats : List SeatState) {history : History} (stands_before : Stands v history cells seats) (j : ℕ) (s : SeatState) (there : get_elem? seats j ≡ some s) (c d : CatalogCell) (t : SeatState) (out : get_elem? cells catalog_at ≡ some (Catalog c)) (L : ReadsSystem v c s d t) where
  abbrev o : OpenTransaction
  o = L.o

  abbrev x : Session
  x = L.at.stands.x

  abbrev text : Text
  text = L.at.stands.text

  abbrev stage : StatementProgress
  stage = found (find_part c.defs L.q.table) (not (holds_any c.holds o.id))

  shares : catalog_request o.explicit L.at.stands.stmt ≡ Some S
  shares = ap (catalog_request o.explicit) L.selects ∙ shares_it o.explicit
    where
      shares_it : (b : Bool) → catalog_request b (stmt.Select L.q) ≡ Some S
      shares_it true = refl
      shares_it false = refl

  named : name_of L.at.stands.stmt ≡ Some L.q.table
  named = ap name_of L.selects

  -- it looks up first
  abbrev looks : Looks v c s d (then_at s L.at.stands (Some (visiting catalog_at o)) stage)
  looks = record { o = o; at = L.at; at_begin = L.at_begin; shares = shares; name = L.q.table; named = named; free = L.free; cell = L.cell; seat = refl }

  abbrev cells1 : List Cell
  cells1 = set cells catalog_at (Catalog d)

  abbrev o1 : OpenTransaction
  o1 = visiting catalog_at o

  abbrev x1 : Session
  x1 = at_place (Some o1) (inside text stage) x

  abbrev seats1 : List SeatState
  seats1 = set seats j (sits s x1)

  -- the number of its session in the history
  abbrev number : ℕ
  number = look.number v cells seats stands_before j s there c d (then_at s L.at.stands (Some (visiting catalog_at o)) stage) out looks

  stands_then : Stands v (history ++ by number (act.looks text false) ∷ []) cells1 seats1
  stands_then = look.stands_so v cells seats stands_before j s there c d (then_at s L.at.stands (Some (visiting catalog_at o)) stage) out looks

  same_ledger : stands_then.ledger ≡ stands_before.ledger
  unfolding stands_then
  same_ledger = look.same_ledger v cells seats stands_before j s there c d (then_at s L.at.stands (Some (visiting catalog_at o)) stage) out looks

  same_number : (stands_then.transcripts_agree.of_seat j).now ≡ Some number
  unfolding stands_then
  same_number = look.same_number v cells seats stands_before j s there c d (then_at s L.at.stands (Some (visiting catalog_at o)) stage) out looks

  abbrev T : Tables
  T = tables_now stands_then

  same_defs : defs_of T ≡ c.defs
  same_defs = ap (λ (items : List JournalItem). defs_of (serial v.reads items)) (ap (λ l. l.items) same_ledger) ∙ sym (look.same_definitions v cells seats stands_before j s there c d (then_at s L.at.stands (Some (visiting catalog_at o)) stage) out looks)

  there1 : get_elem? seats1 j ≡ some (sits s x1)
  there1 = set_here seats j s (sits s x1) there

  cell_out : get_elem? cells1 catalog_at ≡ some (Catalog d)
  cell_out = set_here cells catalog_at (Catalog c) (Catalog d) out

  has_open1 : HasOpen seats1 j x1 o1
  has_open1 = record { seat = sits s x1; there = there1; role = refl; open_one = refl }

  held1 : holds_at cells1 catalog_at ≡ holds_after c.holds o.id (whole S ∷ [])
  held1 = held_here cells1 catalog_at (Catalog d) (Catalog d) cell_out ∙ ap (λ (z : CatalogCell). z.holds) L.cell

  checked : query_check (defs_of T) L.q ≡ Ok (L.def, System)
  checked = ap (λ ds. query_check ds L.q) same_defs ∙ L.passes

  finds : find_part (defs_of T) L.q.table ≡ Some (L.def, System)
  finds = (query_passed (defs_of T) L.q (L.def, System) checked).by_name

  ids : IdsFrom 1 (defs_of T)
  ids = (sound v cells1 seats1 stands_then j x1 o1 has_open1 L.at.unfixed).ids

  low : L.def.id ≤ 2
  low = found_is_system (defs_of T) L.q.table (L.def, System) finds refl

  high : 1 ≤ L.def.id
  high = (found_is_listed 1 (defs_of T) L.q.table (L.def, System) ids finds).from

  here : cell_of L.def.id ≡ catalog_at
  here = by L.def.id low high
    where
      by : (n : ℕ) → n ≤ 2 → 1 ≤ n → cell_of n ≡ catalog_at
      by zero l h = absurd (omega (arith, h))
      by (suc zero) l h = refl
      by (suc (suc zero)) l h = refl
      by (suc (suc (suc n))) l h = absurd (omega (arith, l))

  looked1 : HoldsInCatalog v cells1 T x1.place o1
  looked1 = looked_now v cells1 T o1 x1.place (stands_then.locks_cover.looked j x1 o1 has_open1 L.at.unfixed) tt

  reads : v.reads text ≡ Some (stmt.Select L.q)
  reads = L.at.stands.is ∙ ap (λ (q : Stmt). Some q) L.selects

  covers : (n : ℕ) → Each (Holds ((contents cells1).holds n) o1.id) (requests_in v (defs_of T) o1.explicit n text)
  unfolding cell_requests query_requests
  covers n = subst (λ cell. Each (Holds ((contents cells1).holds n) o.id) ((if n == catalog_at then of_catalog (text_requests (defs_of T) o.explicit (v.reads text)).catalog else []) ++ of_cell n cell))
      (sym (ap (λ (q : Option Stmt). (text_requests (defs_of T) o.explicit q).cell) reads ∙ ap (λ m. query_cell_requests L.q m) checked))
      (each_append (Holds ((contents cells1).holds n) o.id) (if n == catalog_at then of_catalog (text_requests (defs_of T) o.explicit (v.reads text)).catalog else []) (if cell_of L.def.id == n then [] else []) (in_catalog (n == catalog_at) refl) (in_cell (cell_of L.def.id == n)))
    where
      in_catalog : (b : Bool) → (n == catalog_at) ≡ b → Each (Holds ((contents cells1).holds n) o.id) (if b then of_catalog (text_requests (defs_of T) o.explicit (v.reads text)).catalog else [])
      in_catalog true e = subst (λ m. Each (Holds ((contents cells1).holds m) o.id) (of_catalog (text_requests (defs_of T) o.explicit (v.reads text)).catalog)) (sym (eqb-true n catalog_at e)) (looked1.requests text refl)
      in_catalog false e = tt

      in_cell : (b : Bool) → Each (Holds ((contents cells1).holds n) o.id) (if b then [] else [])
      in_cell true = tt
      in_cell false = tt

  -- ---- nobody else changes the system tables

  free : AreFree c.holds o.id (whole S ∷ [])
  free = all_free c.holds o.id (whole S ∷ []) L.free

  free_then : AreFree (holds_after c.holds o.id (whole S ∷ [])) o.id (whole S ∷ [])
  free_then = (
    all_at (λ (g : Hold). g.tx ≢ o.id → requests_conflict (whole S) g.request ≡ false) (holds_after c.holds o.id (whole S ∷ [])) (λ h has ne. ⊎_elim
        (λ (was : In h c.holds). each_at (λ (g : Hold). g.tx ≢ o.id → requests_conflict (whole S) g.request ≡ false) c.holds h free.0 was ne)
        (λ (new : (h.tx ≡ o.id) × In h.request (whole S ∷ [])). absurd (ne new.0))
        (taken_comes o.id (whole S ∷ []) c.holds h has)),
    tt,
  )

  free1 : AreFree (holds_at cells1 catalog_at) o.id (whole S ∷ [])
  free1 = subst (λ (hs : List Hold). AreFree hs o.id (whole S ∷ [])) (sym held1) free_then

  whole_script : script_so_far x1 o1 ≡ o1.script
  whole_script = append-nil o.script

  abbrev state : State
  state = more.X v cells1 seats1 stands_then j (sits s x1) there1 x1 refl o1 refl L.at.unfixed refl text stage refl refl (λ id vs. refl)

  same_rows : versions_at cells1 L.def.id ≡ versions_of state.tables L.def.id
  same_rows = (agree_on v cells1 seats1 stands_then j x1 o1 has_open1 L.at.unfixed whole_script L.def.id high (λ vs. refl) (whole S ∷ [])
      (λ w is r key q h has ne. excluded (holds_at cells1 catalog_at) o.id (whole S ∷ []) free1 (λ g k m. stands_then.locks_cover.intents catalog_at g k m) (λ u k. (whole S, inl refl, refl)) key w is r q h (subst (λ (n : ℕ). In h (holds_at cells1 n)) here has) ne)).0
      ∙ ap (λ (ls : List Line). versions_of (script v.reads o.explicit T o.id (map (λ l. l.0) ls)).state.tables L.def.id) whole_script

  state_defs : defs_of state.tables ≡ defs_of T
  state_defs = say.same_defs v cells1 seats1 stands_then j (sits s x1) there1 x1 refl o1 refl L.at.unfixed text (find_part c.defs L.q.table) (not (holds_any c.holds o.id)) refl

  abbrev answer : Reply
  answer = rows_reply (query_rows L.q (L.def, System) (versions_in L.def.id (Catalog c)))

  rows_are : versions_of state.tables L.def.id ≡ versions_in L.def.id (Catalog c)
  rows_are = sym same_rows ∙ were_here cells1 catalog_at (Catalog d) (Catalog d) cell_out L.def.id here ∙ ap (λ (z : CatalogCell). versions_in L.def.id (Catalog z)) L.cell

  step : by_statement o.explicit o.id state (Some L.at.stands.stmt) ≡ (state, answer)
  unfolding effect
  step = ap (λ (q : Stmt). by_statement o.explicit o.id state (Some q)) L.selects ∙ by o.explicit
    where
      shown_is : (m : Checked (List Row)) → by_effect state (shown state.tables state.seq m) ≡ (state, rows_reply m)
      shown_is (Ok rs) = refl
      shown_is (Err r) = refl

      effect_is : query_effect state.tables state.seq L.q (query_check (defs_of state.tables) L.q) ≡ shown state.tables state.seq (query_rows L.q (L.def, System) (versions_in L.def.id (Catalog c)))
      effect_is = ap (λ ds. query_effect state.tables state.seq L.q (query_check ds L.q)) state_defs ∙ ap (query_effect state.tables state.seq L.q) checked ∙ ap (λ vs. shown state.tables state.seq (query_rows L.q (L.def, System) vs)) rows_are

      by : (b : Bool) → by_statement b o.id state (Some (stmt.Select L.q)) ≡ (state, answer)
      by true = ap (by_effect state) effect_is ∙ shown_is (query_rows L.q (L.def, System) (versions_in L.def.id (Catalog c)))
      by false = ap (by_effect state) effect_is ∙ shown_is (query_rows L.q (L.def, System) (versions_in L.def.id (Catalog c)))

  plain : IsPlainReply answer
  unfolding effect
  plain = subst IsPlainReply (ap (λ m. (query_effect state.tables state.seq L.q m).reply) (ap (λ ds. query_check ds L.q) state_defs ∙ checked) ∙ ap (λ vs. (shown state.tables state.seq (query_rows L.q (L.def, System) vs)).reply) rows_are ∙ reply_is (query_rows L.q (L.def, System) (versions_in L.def.id (Catalog c)))) (effect_reply state.tables o.id state.seq (stmt.Select L.q))
    where
      reply_is : (m : Checked (List Row)) → (shown state.tables state.seq m).reply ≡ rows_reply m
      reply_is (Ok rs) = refl
      reply_is (Err r) = refl

  abbrev SaidAt : List SeatState → Type 0
  SaidAt = StandsAfter v j (history ++ by number (act.looks text false) ∷ []) (done_acts o.explicit text true answer) cells1

  then_said : SaidAt (set seats1 j (sits (sits s x1) (at_place (Some (with_reply text answer o1)) (inside text (stage_after o1.explicit answer)) x1)))
  then_said = say.said_there v cells1 seats1 stands_then j (sits s x1) there1 x1 refl o1 refl L.at.unfixed text (find_part c.defs L.q.table) (not (holds_any c.holds o.id)) refl answer plain
      (step_is v.reads o.explicit o.id state text ∙ ap (by_statement o.explicit o.id state) L.at.stands.is ∙ step) covers
      (ap kind_of (v.real.reading text ∙ reads))

  said_by_it : then_said.session ≡ number
  unfolding then_said
  said_by_it = one_number then_said.session number (say.said_by v cells1 seats1 stands_then j (sits s x1) there1 x1 refl o1 refl L.at.unfixed text (find_part c.defs L.q.table) (not (holds_any c.holds o.id)) refl answer plain
      (step_is v.reads o.explicit o.id state text ∙ ap (by_statement o.explicit o.id state) L.at.stands.is ∙ step) covers
      (ap kind_of (v.real.reading text ∙ reads))) same_number

  said_own_it : then_said.stands.transcripts_agree.owner then_said.session ≡ j
  unfolding then_said
  said_own_it = say.said_own v cells1 seats1 stands_then j (sits s x1) there1 x1 refl o1 refl L.at.unfixed text (find_part c.defs L.q.table) (not (holds_any c.holds o.id)) refl answer plain
      (step_is v.reads o.explicit o.id state text ∙ ap (by_statement o.explicit o.id state) L.at.stands.is ∙ step) covers
      (ap kind_of (v.real.reading text ∙ reads))

  pub reads_system : StandsBy v j history o.id o.explicit (act.looks text false ∷ done_acts o.explicit text true answer) (set cells catalog_at (Catalog d)) (set seats j t)
  reads_system = subst (StandsBy v j history o.id o.explicit (act.looks text false ∷ done_acts o.explicit text true answer) cells1) (set_twice seats j (sits s x1) _ ∙ ap (set seats j) (sym L.seat)) (first_by v history number o.id o.explicit (look.is_number v cells seats stands_before j s there c d (then_at s L.at.stands (Some (visiting catalog_at o)) stage) out looks) then_said said_own_it said_by_it)
