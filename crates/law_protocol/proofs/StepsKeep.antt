-- Each step keeps cells and seats standing together, and so do all of them.
use Rattle.std.proofs.Common.{◌≡◌, ℕ, zero, suc, Bool, true, false, List, [], ◌∷◌, ◌++◌, ◌+◌, map, Option, Some, None, set, refl, sym, ap, ap₂, ◌∙◌, subst, subst₂, arith, inl, ⊎_elim}
use Rattle.std.specs.Prelude.{if◌then◌else◌, nat_le}
use mathlib.Core.Option.{some}
use lib.ListN.{get_elem?}
use Rattle.sql_value.specs.declared.refusal.Refusal.{Refusal}
use Rattle.sql_types.specs.declared.journal.JournalItem.TheVariants.{Close}
use Rattle.sql_types.specs.declared.lock.Hold.{Hold}
use Rattle.sql_types.specs.declared.lock.Mode.{Mode}
use Rattle.sql_types.specs.declared.lock.Mode.TheVariants.{S, X}
use Rattle.sql_types.specs.declared.lock.LockRequest.{LockRequest}
use Rattle.sql_types.specs.declared.reply.Reply.{Reply}
use Rattle.sql_types.specs.declared.statement.Select.{Select}
use Rattle.sql_types.specs.declared.statement.Stmt.{Stmt}
use Rattle.sql_types.specs.declared.statement.Stmt.TheVariants as stmt
use Rattle.sql_types.specs.declared.table.TableDef.{TableDef}
use Rattle.spec_model.specs.Catalog.{Defs, NamedPart, defs_of}
use Rattle.spec_model.specs.Holds.{holds_after}
use Rattle.spec_model.specs.Journals.{serial, tx_count}
use Rattle.spec_model.specs.Locks.{catalog_request, query_requests, row_requests, whole}
use Rattle.spec_model.specs.Reach.{creates}
use Rattle.spec_history.specs.Lists.{Text, Each, In}
use Rattle.spec_history.specs.Real.{requests_catalog}
use Rattle.spec_history.specs.Transactions.{End}
use Rattle.spec_history.specs.Acts.{SessionAct, Act, closes, fails, looks, meets}
use Rattle.spec_protocol.specs.Server.{Server}
use Rattle.spec_protocol.specs.AnonymousActs.{AnonymousAct, did, stopped_acts, visit_anonymous_acts, alones_acts, may_anonymous_acts, step_anonymous_acts, steps_anonymous_acts}
use Rattle.spec_protocol.specs.ActsOf.{alone_acts, closings, commit_acts, done_acts, failed_in}
use Rattle.spec_protocol.specs.Answering.{error_of, refused_by_check}
use Rattle.spec_protocol.specs.CatalogVisits.{CreateRefused, StopsInCatalog}
use Rattle.spec_protocol.specs.Cells.{CatalogCell, LedgerCell, Cell, Catalog, Ledger, Rows, AreCells, TableCell, catalog_at, ledger_at, pending_in}
use Rattle.spec_protocol.specs.Doing.{Stopped, blocked, no_memory}
use Rattle.spec_protocol.specs.LedgerVisits.{CommitsNow, closed_by, next_block}
use Rattle.spec_protocol.specs.LocksWereAsked.{IsAskedFor}
use Rattle.spec_protocol.specs.OpenOnes.{HasOpen, script_end}
use Rattle.spec_protocol.specs.Seats.{OpenTransaction, SeatState, kept}
use Rattle.spec_protocol.specs.StandTogether.{History, IsOfSeat, LocksAskedFor, Stands, StandsAfter, StandsDone, StandsLater, StandsNext}
use Rattle.spec_protocol.specs.Steps.{Step, alone, visits, splits, joins, Steps, none, more}
use Rattle.spec_protocol.specs.TableVisits.{Found, StopsInTable, requests_here}
use Rattle.spec_protocol.specs.UndoVisits.{index_dropped, refused_def, undone_unless}
use Rattle.spec_protocol.specs.Visits.{Visit, assign_id, look, read_system, create_table, create_index, alter_table, refuse_create, stop_in_catalog, change, refuse_change, read, stop_in_table, add_index, undo_to, commit, read_point, release, release_catalog, give_back, close, issue, lack_block, keep, nothing, Happens}
use Rattle.spec_protocol.specs.RequestsIn.{of_catalog}
use Rattle.law_protocol_steps.proofs.CellsOut.{out_lies}
use Rattle.law_protocol_steps.proofs.ActedFor.{StandsBy, sessions_at, by_any, looked_then, done_for}
use Rattle.law_protocol_tables.proofs.AddIndex.{adds_index}
use Rattle.law_protocol_steps.proofs.AfterSet.{set_same}
use Rattle.spec_protocol.specs.AllowedVisit.{OutsAreIn, AllowedVisit}
use Rattle.law_protocol.proofs.AlonesKeep.{alones_one, quiet_then, step_one}
use Rattle.spec_history.specs.Histories.{OneAtATime}
use Rattle.spec_history.specs.Inputs.{InputLine}
use Rattle.spec_protocol.specs.Follows.{Follows, alone_lines, alones_lines, may_lines, step_lines, steps_lines}
use Rattle.law_protocol.proofs.FollowsMore.{follows_append}
use Rattle.law_protocol.proofs.FollowsSteps.{visit_follows}
use Rattle.spec_history.specs.Worlds.{World, first, run}
use Rattle.spec_history.proofs.Cuts.{run_append}
use Rattle.spec_protocol.specs.InactiveExcept.{InactiveExcept}
use Rattle.spec_protocol.specs.OneByOne.{IsOneAlone, OneByOne}
use Rattle.law_protocol_steps.proofs.ByLocksMore.{alone_append}
use Rattle.law_protocol.proofs.StepsAlone.{visit_one_at_a_time}
use Rattle.law_protocol.proofs.OneSeat.{OneSeat, one_did, one_on, quieter, seats_own}
use Rattle.law_protocol.proofs.SeatNames.{KeepsNames, alones_names, visit_names}
use Rattle.spec_protocol.specs.SeatNames.{OthersDiffer, names_of}
use Rattle.law_protocol.proofs.DecidesSteps.{visit_decides}
use Rattle.law_protocol.proofs.KeepsRequested.{same_requested, split_requested, visit_requested}
use Rattle.spec_protocol.specs.Contents.{contents}
use Rattle.spec_protocol.specs.LocksAreRequested.{LocksAreRequested}
use Rattle.spec_protocol.proofs.Places.{set_again, set_here}
use Rattle.law_protocol_steps.proofs.CatalogThere.{catalog_held, catalog_there}
use Rattle.law_protocol_steps.proofs.AskedMore.{NotFree}
use Rattle.law_protocol_tables.proofs.AskedStays.{AssignsNoId}
use Rattle.law_protocol_tables.proofs.Changes.{changes_stand}
use Rattle.law_protocol_steps.proofs.Closes.{closes_stand}
use Rattle.law_protocol.proofs.CommitAsked.{over_all}
use Rattle.law_protocol_ledger.proofs.CommitCreates.{every_commit_stands, its, texts_are}
use Rattle.law_protocol_ledger.proofs.CommitsStand.{both}
use Rattle.law_protocol_ledger.proofs.CreateVisits.{alters_x, alters_table, creates_table, creates_index, refuses_create}
use Rattle.law_protocol_ledger.proofs.DigestsStand.{issues_stand, lacks_stand}
use Rattle.law_protocol.proofs.AssignNoId.{done_none, done_kept, failed_in_none, commit_none, end_none}
use Rattle.law_protocol_steps.proofs.AssignsId.{assigns_id_stands}
use Rattle.law_protocol_tables.proofs.Formed.{dropped_as, left_unless}
use Rattle.law_protocol_tables.proofs.GivesBackStand.{gives_back}
use Rattle.law_protocol_steps.proofs.GoesOn.{Goes, IsClosing, unacted, after_acts, closed_one, none_done, still, closed_first, goes_on}
use Rattle.law_protocol.proofs.LedgerBase.{KeepsBase, base_stays, may_base, steps_base}
use Rattle.law_protocol_tables.proofs.GoingBack.{undoes_to, releases_table}
use Rattle.law_protocol_ledger.proofs.JoinsStand.{back, join_stands}
use Rattle.law_protocol_steps.proofs.JournalMore.{serial_more}
use Rattle.law_protocol_tables.proofs.KeepsAsked.{defs_at, same_ledger, stay_asked, still_asked_for}
use Rattle.law_protocol_ledger.proofs.KeepsStand.{keeps_stand}
use Rattle.law_protocol.proofs.LedgerAsked.{closed_tables, drawn_asked, closed_asked, issued_asked, in_ledger_asked, in_ledger_over, ledger_then}
use Rattle.law_protocol_steps.proofs.LedgerVisit.{lies_there, the_ledger}
use Rattle.law_protocol_steps.proofs.Looks.{looks_up}
use Rattle.law_protocol_ledger.proofs.ReadsStand.{reads_stand}
use Rattle.law_protocol_tables.proofs.ReadsSystemStands.{reads_system}
use Rattle.law_protocol_tables.proofs.ReleasesCatalogStand.{releases_catalog}
use Rattle.law_protocol_tables.proofs.RowsVisits.{refuses_rows, reads_rows}
use Rattle.law_protocol_ledger.proofs.Splits.{splits_stand}
use Rattle.law_protocol_tables.proofs.StopsAtLock as lock
use Rattle.law_protocol_tables.proofs.StopsForMemory as memory
use Rattle.law_protocol_tables.proofs.VisitsAsked.{no_more, taken_there, were_held, wanted_there, not_ledger}

-- a table's cell isn't the ledger's
not_rows : (cells : List Cell) (catalog : CatalogCell) (ledger : LedgerCell) (c : TableCell) → AreCells cells catalog ledger → (i : ℕ) → get_elem? cells i ≡ some (Rows c) → ledger_at ≡ i → ⊥
not_rows cells catalog ledger c a i e same = let f : some (Ledger ledger) ≡ some (Rows c) = sym a.has_ledger ∙ ap (get_elem? cells) same ∙ e in cc

-- a statement that creates, alters or drops takes X where it is refused
refused_x : (c : CatalogCell) (d : Stmt) (e : Refusal) → CreateRefused c d e → catalog_request false d ≡ Some X
refused_x c (stmt.Create q) e h = refl
refused_x c (stmt.Index q) e h = refl
refused_x c (stmt.Alter a) e h = refl
refused_x c (stmt.Drop name) e h = refl
refused_x c d e h = absurd h

select_shares : (b : Bool) (q : Select) → catalog_request b (stmt.Select q) ≡ Some S
select_shares true q = refl
select_shares false q = refl

-- what a table's cell releases was locked
table_held : (e : End) (tx : ℕ) (r : Option TableDef) (c : TableCell) → (index_dropped r (undone_unless e tx c)).holds ≡ c.holds
table_held e tx r c = let same : (undone_unless e tx c).holds ≡ c.holds = (left_unless e tx c).holds in
    dropped_as (λ (z : TableCell). z.holds ≡ c.holds) (undone_unless e tx c) same same r

-- the closings before a digest are closings
closing_there : (b : Bool) (k : ℕ) (es : List Act) → Each IsClosing es → Each IsClosing (if b then [] else closes k ∷ es)
closing_there true k es c = tt
closing_there false k es c = (tt, c)

only_closings : (v : Server) (n : ℕ) (c : LedgerCell) → Each IsClosing (closings v n c)
only_closings v zero c = tt
only_closings v (suc n) c = closing_there (nat_le (pending_in c) 0) (next_block c) _ (only_closings v n (closed_by v.hash (next_block c) c))

-- after the visit all locks were asked for
pub record AskedAfter (v : Server) (j : ℕ) (history : History) (acts : List SessionAct) (cells : List Cell) (seats : List SeatState) : Type 0 where
  pub after : StandsAfter v j history acts cells seats
  pub asked : LocksAskedFor after.stands

module _ (v : Server) (cells : List Cell) (seats : List SeatState) {history : History} (st : Stands v history cells seats) (asked : LocksAskedFor st)
    (out : List (ℕ × Cell)) (lies : (n : ℕ) (b : Cell) → In (n, b) out → get_elem? cells n ≡ some b) (i j : ℕ) (s : SeatState) (there : get_elem? seats j ≡ some s) where
  abbrev Then : List AnonymousAct → Cell → SeatState → Type 0
  Then anonymous_acts d t = StandsDone v j history anonymous_acts (set cells i d) (set seats j t)

  done : {acts : List SessionAct} {then_cells : List Cell} {then_seats : List SeatState} → AskedAfter v j history acts then_cells then_seats → StandsDone v j history (map did acts) then_cells then_seats
  done a = after_acts v a.after a.asked

  -- ---- the catalog's cell

  in_catalog : (acts : List SessionAct) (c : CatalogCell) (d : Cell) (t : SeatState) → get_elem? cells i ≡ some (Catalog c) → (get_elem? cells catalog_at ≡ some (Catalog c) → AskedAfter v j history acts (set cells catalog_at d) (set seats j t)) → Then (map did acts) d t
  in_catalog acts c d t e f = let at = catalog_there cells st.catalog c st.ledger st.are_cells i e in
      done (subst (λ (n : ℕ). AskedAfter v j history acts (set cells n d) (set seats j t)) (sym at) (f (subst (λ (n : ℕ). get_elem? cells n ≡ some (Catalog c)) at e)))

  not_catalog : ledger_at ≡ catalog_at → ⊥
  not_catalog e = omega (arith, e)

  -- no lock more is there
  catalog_fewer : (acts : List SessionAct) (c d : CatalogCell) (t : SeatState) → Each AssignsNoId acts → get_elem? cells i ≡ some (Catalog c) → ((lock : Hold) → In lock d.holds → In lock c.holds)
      → (get_elem? cells catalog_at ≡ some (Catalog c) → StandsAfter v j history acts (set cells catalog_at (Catalog d)) (set seats j t)) → Then (map did acts) (Catalog d) t
  catalog_fewer acts c d t assigns_id e fewer f = in_catalog acts c (Catalog d) t e (λ g. let a = f g in record { after = a; asked = no_more v st asked catalog_at (Catalog c) (Catalog d) g not_catalog a assigns_id fewer })

  -- its statement's lock is
  catalog_more : (acts rest : List SessionAct) (c d : CatalogCell) (t : SeatState) (o : OpenTransaction) (text : Text) (mode : Mode) → acts ≡ looks text false ∷ rest → Each AssignsNoId acts → Each NotFree rest → requests_catalog o.explicit (v.reads text) ≡ Some mode
      → d.holds ≡ holds_after c.holds o.id (whole mode ∷ []) → get_elem? cells i ≡ some (Catalog c)
      → (get_elem? cells catalog_at ≡ some (Catalog c) → StandsBy v j history o.id o.explicit acts (set cells catalog_at (Catalog d)) (set seats j t)) → Then (map did acts) (Catalog d) t
  catalog_more acts rest c d t o text mode is assigns_id kept requests holds e f = subst (λ (list : List SessionAct). Then (map did list) (Catalog d) t) (sym is) (in_catalog (looks text false ∷ rest) c (Catalog d) t e (λ g. taken g (subst (λ (list : List SessionAct). StandsBy v j history o.id o.explicit list (set cells catalog_at (Catalog d)) (set seats j t)) is (f g))))
    where
      taken : get_elem? cells catalog_at ≡ some (Catalog c) → StandsBy v j history o.id o.explicit (looks text false ∷ rest) (set cells catalog_at (Catalog d)) (set seats j t) → AskedAfter v j history (looks text false ∷ rest) (set cells catalog_at (Catalog d)) (set seats j t)
      taken g b = record {
        after = by_any b;
        asked = taken_there v st asked catalog_at (Catalog c) (Catalog d) g not_catalog b (subst (Each AssignsNoId) is assigns_id) (whole mode ∷ []) holds (text, false)
            (looked_then history b.session o.id o.explicit b.of v.meaning b.stands.ledger.database text false rest kept b.stands.transcripts_agree.good)
            (λ w k. subst (λ (m : Option Mode). In w (of_catalog m)) (sym requests) k);
      }

  stopped_in_catalog : (c d : CatalogCell) (t : SeatState) → d ≡ c → (w : StopsInCatalog v c s t) → (r : Reply) → w.r ≡ r → (why : Stopped c.holds w.o.id (of_catalog (catalog_request w.o.explicit w.at.stands.stmt)) r) → get_elem? cells i ≡ some (Catalog c) → Then (map did (stopped_acts why w.at.stands.text (failed_in v.meaning (Some w.o) w.at.stands.text))) (Catalog d) t
  stopped_in_catalog c d t same w _ is (blocked q f) e = catalog_fewer (meets w.at.stands.text q.0.0 ∷ []) c d t (tt, tt) e (λ lock has. subst (λ (z : CatalogCell). In lock z.holds) same has)
      (λ g. subst (λ (cs : List Cell). StandsAfter v j history (meets w.at.stands.text q.0.0 ∷ []) cs (set seats j t)) (sym (ap (λ (z : CatalogCell). set cells catalog_at (Catalog z)) same ∙ set_same cells catalog_at (Catalog c) g))
      (lock.stops_in_catalog v cells seats st asked j s there c t g w q f is))
  stopped_in_catalog c d t same w _ is no_memory e = catalog_fewer (failed_in v.meaning (Some w.o) w.at.stands.text) c d t (failed_in_none v.meaning (Some w.o) w.at.stands.text) e (λ lock has. subst (λ (z : CatalogCell). In lock z.holds) same has)
      (λ g. memory.stops_in_catalog v cells seats st j s there c d t g w is same)

  -- ---- a table's cell

  rows_fewer : (acts : List SessionAct) (c d : TableCell) (t : SeatState) → Each AssignsNoId acts → get_elem? cells i ≡ some (Rows c) → ((lock : Hold) → In lock d.holds → In lock c.holds) → StandsAfter v j history acts (set cells i (Rows d)) (set seats j t) → Then (map did acts) (Rows d) t
  rows_fewer acts c d t assigns_id e fewer a = done (record { after = a; asked = no_more v st asked i (Rows c) (Rows d) e (not_rows cells st.catalog st.ledger c st.are_cells i e) a assigns_id fewer })

  rows_more : (c d : TableCell) (t : SeatState) (r : Reply) (o : OpenTransaction) (named : NamedPart) (fresh : Bool) (L : Found v c s o named fresh) → refused_by_check (Some named) L.at.stands.stmt ≡ None → (ws : List LockRequest) → requests_here named L.at.stands.stmt ≡ ws → d.holds ≡ holds_after c.holds o.id ws
      → (e : get_elem? cells i ≡ some (Rows c)) → StandsBy v j history o.id o.explicit (done_acts o.explicit L.at.stands.text true r) (set cells i (Rows d)) (set seats j t) → Then (map did (done_acts o.explicit L.at.stands.text true r)) (Rows d) t
  rows_more c d t r o named fresh L passes ws same holds e b = done (record {
    after = by_any b;
    asked = taken_there v st asked i (Rows c) (Rows d) e (not_ledger v st j s there i c e o named fresh L passes) b (done_none o.explicit L.at.stands.text true r) ws holds (L.at.stands.text, true)
        (done_for history b.session o.id o.explicit b.of o.explicit L.at.stands.text r)
        (λ w k. wanted_there v st j s there i c e o named fresh L passes w (subst (In w) (sym same) k));
  })

  stopped_in_table : (c d : TableCell) (t : SeatState) → d ≡ c → (w : StopsInTable v c s t) → (r : Reply) → w.r ≡ r → (why : Stopped c.holds w.o.id (requests_here w.named w.at.at.stands.stmt) r) → get_elem? cells i ≡ some (Rows c) → Then (map did (stopped_acts why w.at.at.stands.text (fails w.at.at.stands.text ∷ []))) (Rows d) t
  stopped_in_table c d t same w _ is (blocked q f) e = rows_fewer (meets w.at.at.stands.text q.0.0 ∷ []) c d t (tt, tt) e (λ lock has. subst (λ (z : TableCell). In lock z.holds) same has)
      (subst (λ (cs : List Cell). StandsAfter v j history (meets w.at.at.stands.text q.0.0 ∷ []) cs (set seats j t)) (sym (ap (λ (z : TableCell). set cells i (Rows z)) same ∙ set_same cells i (Rows c) e))
      (lock.stops_in_table v cells seats st asked j s there i c t e w q f is))
  stopped_in_table c d t same w _ is no_memory e = rows_fewer (fails w.at.at.stands.text ∷ []) c d t (tt, tt) e (λ lock has. subst (λ (z : TableCell). In lock z.holds) same has) (memory.stops_in_table v cells seats st j s there i c d t e w is same)

  -- ---- the ledger's cell

  in_ledger : (anonymous_acts : List AnonymousAct) (c : LedgerCell) (d : Cell) (t : SeatState) → get_elem? cells i ≡ some (Ledger c) → (get_elem? cells ledger_at ≡ some (Ledger c) → StandsDone v j history anonymous_acts (set cells ledger_at d) (set seats j t)) → Then anonymous_acts d t
  in_ledger anonymous_acts c d t e f = let at = lies_there cells st.catalog st.ledger c st.are_cells i e in
      subst (λ (n : ℕ). StandsDone v j history anonymous_acts (set cells n d) (set seats j t)) (sym at) (f (subst (λ (n : ℕ). get_elem? cells n ≡ some (Ledger c)) at e))

  ledger_acts : (acts : List SessionAct) (c d : LedgerCell) (t : SeatState) → Each AssignsNoId acts → serial v.reads d.items ≡ serial v.reads c.items → get_elem? cells i ≡ some (Ledger c)
      → (get_elem? cells ledger_at ≡ some (Ledger c) → StandsAfter v j history acts (set cells ledger_at (Ledger d)) (set seats j t)) → Then (map did acts) (Ledger d) t
  ledger_acts acts c d t assigns_id same e f = in_ledger (map did acts) c (Ledger d) t e (λ g. let a = f g in done (record { after = a; asked = in_ledger_asked v st asked c d g a assigns_id same }))

  committed_then : (time : ℕ) (c d : LedgerCell) (t : SeatState) (w : CommitsNow v time c s d t) → get_elem? cells ledger_at ≡ some (Ledger c) → StandsDone v j history (map did (commit_acts w.stands.x time (tx_count c.items + 1))) (set cells ledger_at (Ledger d)) (set seats j t)
  committed_then time c d t w g = by (creates w.stands.stmt) refl
    where
      a : StandsAfter v j history (commit_acts w.stands.x time (tx_count c.items + 1)) (set cells ledger_at (Ledger d)) (set seats j t)
      a = every_commit_stands v cells seats st j s there time c d t g w

      mine : HasOpen seats j w.stands.x w.o
      mine = record { seat = s; there = there; role = w.stands.role; open_one = w.open_one }

      is : c ≡ st.ledger
      is = the_ledger cells st.catalog st.ledger c st.are_cells g

      left_then : (b : creates w.stands.stmt ≡ false) → defs_at st ≡ defs_at a.stands
      left_then b = sym ((both v cells seats st j s there w.stands w.o w.open_one w.unfixed w.reply w.commits w.acts time b).0)
          ∙ ap (λ (l : LedgerCell). defs_of (script_end v (serial v.reads l.items) w.stands.x w.o).state.tables) (sym is)
          ∙ ap defs_of (sym (serial_more v.reads c.items _)) ∙ ap (λ (l : LedgerCell). defs_of (serial v.reads l.items)) (sym (ledger_then v st asked c d g a.stands ∙ w.cell))

      by : (b : Bool) → creates w.stands.stmt ≡ b → StandsDone v j history (map did (commit_acts w.stands.x time (tx_count c.items + 1))) (set cells ledger_at (Ledger d)) (set seats j t)
      by true b = done (record {
        after = a;
        asked = in_ledger_over v st asked c d g a (commit_none w.stands.x time (tx_count c.items + 1)) (over_all v st asked j w.stands.x w.o mine w.unfixed w.stands.text w.stands.stmt w.stands.is b
            (texts_are v cells seats st j s there w.stands w.o w.open_one w.unfixed w.reply w.commits w.acts time b) (its v cells seats st j s there w.stands w.o w.open_one w.unfixed w.reply w.commits w.acts time b) (defs_at a.stands));
      })
      by false b = done (record {
        after = a;
        asked = in_ledger_over v st asked c d g a (commit_none w.stands.x time (tx_count c.items + 1)) (λ n lock has. subst (λ (ds : Defs). IsAskedFor v (sessions_at history) ds n lock) (left_then b) (asked n lock has));
      })

  -- ---- visits

  nothing_keeps : (c d : Cell) (t : SeatState) → get_elem? cells i ≡ some c → d ≡ c → t ≡ s → Then [] d t
  nothing_keeps c d t e f g = subst₂ (λ (cs : List Cell) (us : List SeatState). StandsDone v j history [] cs us) (sym (ap (set cells i) f ∙ set_same cells i c e)) (sym (ap (set seats j) g ∙ set_same seats j s there)) (none_done v j st asked)

  pub visit_keeps : (visit : Visit) (c d : Cell) (t : SeatState) → get_elem? cells i ≡ some c → (h : Happens v out visit c s d t) → Then (visit_anonymous_acts v out visit c s d t h) d t
  visit_keeps (assign_id explicit) (Ledger c) (Ledger d) t e h = in_ledger _ c (Ledger d) t e (λ f. let a = assigns_id_stands v cells seats st j s there explicit c d t f h in
      done (record { after = a; asked = drawn_asked v st asked c d f c.next explicit a (ap (λ (l : LedgerCell). serial v.reads l.items) h.cell) }))
  visit_keeps look (Catalog c) (Catalog d) t e h = catalog_more _ [] c d t h.o h.at.stands.text S refl (tt, tt) tt (ap (requests_catalog h.o.explicit) h.at.stands.is ∙ h.shares) (ap (λ (z : CatalogCell). z.holds) h.cell) e (λ f. looks_up v cells seats st j s there c d t f h)
  visit_keeps read_system (Catalog c) (Catalog d) t e h = catalog_more _ _ c d t h.o h.at.stands.text S refl (tt, done_none h.o.explicit h.at.stands.text true _) (done_kept h.o.explicit h.at.stands.text _) (ap (requests_catalog h.o.explicit) (h.at.stands.is ∙ ap Some h.selects) ∙ select_shares h.o.explicit h.q) (ap (λ (z : CatalogCell). z.holds) h.cell) e
      (λ f. reads_system v cells seats st j s there c d t f h)
  visit_keeps create_table (Catalog c) (Catalog d) t e h = catalog_more _ [] c d t h.o h.at.stands.text X refl (tt, tt) tt (ap₂ requests_catalog h.alone (h.at.stands.is ∙ ap Some h.creates)) (ap (λ (z : CatalogCell). z.holds) h.cell) e (λ f. creates_table v cells seats st j s there c d t f h)
  visit_keeps create_index (Catalog c) (Catalog d) t e h = catalog_more _ [] c d t h.o h.at.stands.text X refl (tt, tt) tt (ap₂ requests_catalog h.alone (h.at.stands.is ∙ ap Some h.creates)) (ap (λ (z : CatalogCell). z.holds) h.cell) e (λ f. creates_index v cells seats st j s there c d t f h)
  visit_keeps alter_table (Catalog c) (Catalog d) t e h = catalog_more _ [] c d t h.o h.at.stands.text X refl (tt, tt) tt (ap₂ requests_catalog h.alone h.at.stands.is ∙ alters_x c h.at.stands.stmt h.made_is h.passes) (ap (λ (z : CatalogCell). z.holds) h.cell) e (λ f. alters_table v cells seats st j s there c d t f h)
  visit_keeps refuse_create (Catalog c) (Catalog d) t e h = catalog_more _ [] c d t h.o h.at.stands.text X refl (tt, tt) tt (ap₂ requests_catalog h.alone h.at.stands.is ∙ refused_x c h.at.stands.stmt h.refusal h.is) (ap (λ (z : CatalogCell). z.holds) h.cell) e
      (λ f. refuses_create v cells seats st j s there c d t f h)
  visit_keeps stop_in_catalog (Catalog c) (Catalog d) t e h = stopped_in_catalog c d t h.1 h.0 h.0.r refl h.0.stopped e
  visit_keeps change (Rows c) (Rows d) t e h = rows_more c d t _ h.o h.named h.fresh h.at (ap (refused_by_check (Some h.named)) h.is ∙ ap error_of h.passes) (row_requests h.named.0 h.row) (ap (requests_here h.named) h.is) (ap (λ (z : TableCell). z.holds) h.cell) e (changes_stand v cells seats st j s there i c d t e h)
  visit_keeps refuse_change (Rows c) (Rows d) t e h = rows_more c d t _ h.o h.named h.fresh h.at (ap (refused_by_check (Some h.named)) h.is ∙ ap error_of h.passes) (row_requests h.named.0 h.row) (ap (requests_here h.named) h.is) (ap (λ (z : TableCell). z.holds) h.cell) e (refuses_rows v cells seats st j s there i c d t e h)
  visit_keeps read (Rows c) (Rows d) t e h = rows_more c d t _ h.o h.named h.fresh h.at (ap (refused_by_check (Some h.named)) h.is ∙ ap error_of h.passes) (query_requests h.named h.q) (ap (requests_here h.named) h.is) (ap (λ (z : TableCell). z.holds) h.cell) e (reads_rows v cells seats st j s there i c d t e h)
  visit_keeps stop_in_table (Rows c) (Rows d) t e h = stopped_in_table c d t h.1 h.0 h.0.r refl h.0.stopped e
  visit_keeps add_index (Rows c) (Rows d) t e h = rows_fewer [] c d t tt e (λ lock has. subst (λ (z : TableCell). In lock z.holds) h.cell has) (unacted v (adds_index v cells seats st j s there i c d t e h))
  visit_keeps undo_to (Rows c) (Rows d) t e h = rows_fewer [] c d t tt e (λ lock has. subst (λ (z : TableCell). In lock z.holds) h.cell has) (unacted v (undoes_to v cells seats st j s there i c d t e h))
  visit_keeps (commit time) (Ledger c) (Ledger d) t e h = in_ledger _ c (Ledger d) t e (committed_then time c d t h)
  visit_keeps read_point (Ledger c) (Ledger d) t e h = ledger_acts _ c d t (end_none h.0.ends (tx_count c.items)) (ap (λ (l : LedgerCell). serial v.reads l.items) h.1) e (λ f. reads_stand v cells seats st j s there c d t f h.0 h.1)
  visit_keeps release (Rows c) (Rows d) t e h = rows_fewer [] c d t tt e
      (λ lock has. subst (In lock) (table_held h.o.end h.o.id (refused_def h.x.place) c) (were_held _ h.o.id lock (subst (λ (z : TableCell). In lock z.holds) h.cell has))) (unacted v (releases_table v cells seats st j s there i c d t e h))
  visit_keeps release_catalog (Catalog c) (Catalog d) t e h = catalog_fewer [] c d t tt e (λ lock has. were_held c.holds h.o.id lock (subst (In lock) (ap (λ (z : CatalogCell). z.holds) h.cell ∙ catalog_held h.o.end h.o.id c) has)) (λ f. unacted v (releases_catalog v cells seats st j s there c d t f h))
  visit_keeps give_back (Catalog c) (Catalog d) t e h = catalog_fewer [] c d t tt e (λ lock has. were_held c.holds h.o.id lock (subst (λ (z : CatalogCell). In lock z.holds) h.cell has)) (λ f. unacted v (gives_back v cells seats st j s there c d t f h))
  visit_keeps (close k) (Ledger c) (Ledger d) t e h = in_ledger _ c (Ledger d) t e (λ f. let a = closes_stand v cells seats st j s there k c d t f h.0 h.1 in
      closed_one v k a (closed_asked v st asked c d f k a (ap (λ (l : LedgerCell). serial v.reads l.items) h.0.cell ∙ serial_more v.reads c.items (Close k))))
  visit_keeps (issue moment) (Ledger c) (Ledger d) t e h = in_ledger _ c (Ledger d) t e (λ f. let a = issues_stand v cells seats st j s there moment c d t f h in
      closed_first v (closings v (pending_in c) c) (only_closings v (pending_in c) c) (after_acts v a (issued_asked v st asked c d f (pending_in c) a (tt, tt) (ap (λ (l : LedgerCell). serial v.reads l.items) h.cell ∙ closed_tables v (pending_in c) c))))
  visit_keeps lack_block (Ledger c) (Ledger d) t e h = ledger_acts _ c d t (tt, tt) (ap (λ (l : LedgerCell). serial v.reads l.items) h.1) e (λ f. lacks_stand v cells seats st j s there c d t f h.0 h.1)
  visit_keeps keep c d t e h = subst (λ (cs : List Cell). StandsDone v j history (visit_anonymous_acts v out keep c s d t h) cs (set seats j t)) (sym (ap (set cells i) h.1 ∙ set_same cells i c e))
      (let a = keeps_stand v cells seats st j s there out lies t h.0 in done (record { after = a; asked = stay_asked v st asked a (tt, tt) (ap (λ (l : LedgerCell). defs_of (serial v.reads l.items)) (sym (same_ledger v st a.stands refl))) (λ n lock has. inl has) }))
  visit_keeps nothing c d t e h = nothing_keeps c d t e h.0 h.1
  visit_keeps visit c d t e h = absurd h

-- a visit alone
visit_stands : (v : Server) (cells : List Cell) (seats : List SeatState) {history : History} (st : Stands v history cells seats) → LocksAskedFor st → (j : ℕ) (s : SeatState) → get_elem? seats j ≡ some s
    → (out : List (ℕ × Cell)) → OutsAreIn cells out → (visit : Visit) (i : ℕ) (c d : Cell) (t : SeatState) → get_elem? cells i ≡ some c → (w : Happens v out visit c s d t)
    → StandsDone v j history (visit_anonymous_acts v out visit c s d t w) (set cells i d) (set seats j t)
visit_stands v cells seats st asked j s there out outs visit i c d t e w = visit_keeps v cells seats st asked out (out_lies cells out outs) i j s there visit c d t e w

pub visit_next : (v : Server) (cells : List Cell) (seats : List SeatState) {history : History} (st : Stands v history cells seats) → LocksAskedFor st → LocksAreRequested v (contents cells) seats → (j : ℕ) (s : SeatState) → get_elem? seats j ≡ some s
    → (out : List (ℕ × Cell)) → OutsAreIn cells out → (visit : Visit) (i : ℕ) (c d : Cell) (t : SeatState) → get_elem? cells i ≡ some c → (w : Happens v out visit c s d t)
    → StandsNext v j history (visit_anonymous_acts v out visit c s d t w) [] (set cells i d) (set seats j t)
visit_next v cells seats {history} st asked wanted j s there out outs visit i c d t e w = let a = visit_stands v cells seats st asked j s there out outs visit i c d t e w in record {
  done = a;
  locks_are_requested = visit_requested v cells seats st wanted j s there out visit i c d t e w;
  follows = visit_follows v (run first history) out visit c s d t w a.events a.are;
  locks_decide = visit_decides v st j s there asked wanted i out visit c d t e w a.events a.are a.stands;
}

-- in the form in which a board asks for it
may_one : (v : Server) (cells : List Cell) (seats : List SeatState) {history : History} (st : Stands v history cells seats) → LocksAskedFor st → LocksAreRequested v (contents cells) seats → (j : ℕ) (s : SeatState) → get_elem? seats j ≡ some s
    → (out : List (ℕ × Cell)) → OutsAreIn cells out → (i : ℕ) (c : Cell) (t : SeatState) → (m : AllowedVisit v s out i c t)
    → OneSeat v history (may_anonymous_acts m) (may_lines m) (set cells i c) (set seats j t) (names_of t) (InactiveExcept seats j)
may_one v cells seats {history} st asked wanted j s there out outs i c t m = one_on v first_steps longer.keeps (one_on v the_visit longer_then.keeps last_steps)
  where
    begun_there : get_elem? (set seats j m.begun) j ≡ some m.begun
    begun_there = set_here seats j m.begun s there

    first_steps : OneSeat v history (map did (alones_acts m.before)) (alones_lines m.before) cells (set seats j m.begun) (names_of m.begun) (InactiveExcept seats j)
    first_steps = alones_one v cells seats st asked wanted j s m.begun there m.before

    old_there : get_elem? cells i ≡ some m.old
    old_there = (subst (OutsAreIn cells) m.is_out outs).0

    visited : StandsDone v j (history ++ first_steps.goes.events) (visit_anonymous_acts v out m.visit m.old m.begun c m.ended m.happens) (set cells i c) (set (set seats j m.begun) j m.ended)
    visited = visit_keeps v cells (set seats j m.begun) first_steps.goes.stands first_steps.goes.locks_were_asked out (out_lies cells out outs) i j m.begun begun_there m.visit m.old c m.ended old_there m.happens

    the_visit : OneSeat v (history ++ first_steps.goes.events) (visit_anonymous_acts v out m.visit m.old m.begun c m.ended m.happens) [] (set cells i c) (set seats j m.ended) (names_of m.ended) (InactiveExcept seats j)
    the_visit = subst (λ (us : List SeatState). OneSeat v (history ++ first_steps.goes.events) (visit_anonymous_acts v out m.visit m.old m.begun c m.ended m.happens) [] (set cells i c) us (names_of m.ended) (InactiveExcept seats j)) (set_again seats j m.begun m.ended)
        (one_did v visited (visit_requested v cells (set seats j m.begun) first_steps.goes.stands first_steps.goes.locks_are_requested j m.begun begun_there out m.visit i m.old c m.ended old_there m.happens)
        (visit_decides v first_steps.goes.stands j m.begun begun_there first_steps.goes.locks_were_asked first_steps.goes.locks_are_requested i out m.visit m.old c m.ended old_there m.happens visited.events visited.are visited.stands)
        m.ended (set_here (set seats j m.begun) j m.ended m.begun begun_there) (InactiveExcept seats j)
        (λ q. visit_one_at_a_time v first_steps.goes.stands j m.begun begun_there (quiet_then seats j m.begun q) out m.visit m.old c m.ended m.happens visited)
        (visit_follows v (run first (history ++ first_steps.goes.events)) out m.visit m.old m.begun c m.ended m.happens visited.events visited.are))

    last_steps : OneSeat v ((history ++ first_steps.goes.events) ++ the_visit.goes.events) (map did (alones_acts m.after)) (alones_lines m.after) (set cells i c) (set seats j t) (names_of t) (InactiveExcept seats j)
    last_steps = subst (λ (us : List SeatState). OneSeat v ((history ++ first_steps.goes.events) ++ the_visit.goes.events) (map did (alones_acts m.after)) (alones_lines m.after) (set cells i c) us (names_of t) (InactiveExcept seats j)) (set_again seats j m.ended t)
        (quieter (quiet_then seats j m.ended) (alones_one v (set cells i c) (set seats j m.ended) the_visit.goes.stands the_visit.goes.locks_were_asked the_visit.goes.locks_are_requested j m.ended t (set_here seats j m.ended s there) m.after))

    longer_then : KeepsNames m.ended t
    longer_then = alones_names v m.ended t m.after

    longer : KeepsNames m.begun t
    longer = record { keeps = λ name k. longer_then.keeps name ((visit_names v m.begun out m.visit m.old c m.ended m.happens).keeps name k) }

-- what is done, one after another where this is so
record GoesAlone (v : Server) (history : History) (anonymous_acts : List AnonymousAct) (lines : List InputLine) (cells : List Cell) (seats : List SeatState) (Q : Type 0) : Type 0 where
  goes : Goes v history anonymous_acts cells seats
  alone : Q → OneAtATime (run first history) goes.events
  follows : Follows (run first history) goes.events lines

of_seat : {v : Server} {history : History} {anonymous_acts : List AnonymousAct} {lines : List InputLine} {cells : List Cell} {seats : List SeatState} {names : List Text} {Q : Type 0} → OneSeat v history anonymous_acts lines cells seats names Q → GoesAlone v history anonymous_acts lines cells seats Q
of_seat o = record { goes = o.goes; alone = o.alone; follows = o.follows }

none_goes : (v : Server) {history : History} {cells : List Cell} {seats : List SeatState} (st : Stands v history cells seats) → LocksAskedFor st → LocksAreRequested v (contents cells) seats → (Q : Type 0) → GoesAlone v history [] [] cells seats Q
unfolding still
none_goes v st asked wanted Q = record { goes = still v st asked wanted; alone = λ q. tt; follows = record { lines_are = refl; in_turn = tt } }

step_goes : (v : Server) (cells : List Cell) (seats : List SeatState) (then_cells : List Cell) (then_seats : List SeatState) {history : History} (st : Stands v history cells seats) → LocksAskedFor st → LocksAreRequested v (contents cells) seats → (step : Step v cells seats then_cells then_seats) → GoesAlone v history (step_anonymous_acts step) (step_lines step) then_cells then_seats (IsOneAlone step)
step_goes v cells seats then_cells then_seats {history} st asked wanted (alone j s t there step a b) = subst₂ (λ (cs : List Cell) (us : List SeatState). GoesAlone v history (map did (alone_acts step)) (alone_lines step) cs us (InactiveExcept seats j)) (sym a) (sym b) (of_seat (step_one v cells seats st asked wanted j s t there step (InactiveExcept seats j) (λ q. q)))
step_goes v cells seats then_cells then_seats {history} st asked wanted (visits w) = subst₂ (λ (cs : List Cell) (us : List SeatState). GoesAlone v history (may_anonymous_acts w.may) (may_lines w.may) cs us (InactiveExcept seats w.j)) (sym w.cells_are) (sym w.seats_are)
    (of_seat (may_one v cells seats st asked wanted w.j w.s w.is_seat w.out w.are_out w.i w.c w.t w.may))
step_goes v cells seats then_cells then_seats {history} st asked wanted (splits j n s there a b) = subst₂ (λ (cs : List Cell) (us : List SeatState). GoesAlone v history [] [] cs us (Unit {0})) (sym a) (sym b) (let q = splits_stand v cells seats j s n st there in none_goes v q (still_asked_for v st asked q) (split_requested v cells seats st j s there n wanted) (Unit {0}))
step_goes v cells seats then_cells then_seats {history} st asked wanted (joins j k s t there there_k apart rest a b) = subst₂ (λ (cs : List Cell) (us : List SeatState). GoesAlone v history [] [] cs us (Unit {0})) (sym a) (sym b) (let q = join_stands v cells seats st j k s t there there_k apart rest in none_goes v q (still_asked_for v st asked q) (same_requested v (contents cells) seats _ (back v cells seats st j k s t there there_k apart rest) wanted) (Unit {0}))

both_go : (v : Server) {history : History} {anonymous_acts more : List AnonymousAct} {lines more_lines : List InputLine} {cells then_cells : List Cell} {seats then_seats : List SeatState} {P Q : Type 0} (st : GoesAlone v history anonymous_acts lines cells seats P) → GoesAlone v (history ++ st.goes.events) more more_lines then_cells then_seats Q → GoesAlone v history (anonymous_acts ++ more) (lines ++ more_lines) then_cells then_seats (P × Q)
unfolding goes_on
both_go v {history} {more_lines = more_lines} st last = record {
  follows = follows_append (run first history) st.goes.events last.goes.events st.follows (subst (λ (w : World). Follows w last.goes.events more_lines) (run_append first history st.goes.events) last.follows);
  goes = goes_on v st.goes last.goes;
  alone = λ q. alone_append (run first history) st.goes.events last.goes.events (st.alone q.0) (subst (λ (w : World). OneAtATime w last.goes.events) (run_append first history st.goes.events) (last.alone q.1));
}

all_go : (v : Server) (cells : List Cell) (seats : List SeatState) {history : History} (st : Stands v history cells seats) → LocksAskedFor st → LocksAreRequested v (contents cells) seats → (then_cells : List Cell) (then_seats : List SeatState) → (steps : Steps v cells seats then_cells then_seats) → GoesAlone v history (steps_anonymous_acts steps) (steps_lines steps) then_cells then_seats (OneByOne steps)
all_go v cells seats st asked wanted _ _ none = none_goes v st asked wanted (Unit {0})
all_go v cells seats st asked wanted then_cells then_seats (more {between_cells} {between_seats} steps last) = let h = all_go v cells seats st asked wanted between_cells between_seats steps in
    both_go v h (step_goes v between_cells between_seats then_cells then_seats h.goes.stands h.goes.locks_were_asked h.goes.locks_are_requested last)

-- ---- and the ledger's database and block size stay

abbrev based : (v : Server) {history : History} {cells then_cells : List Cell} {seats then_seats : List SeatState} {anonymous_acts : List AnonymousAct} {lines : List InputLine} (st : Stands v history cells seats) → KeepsBase cells then_cells → (g : Goes v history anonymous_acts then_cells then_seats) → Follows (run first history) g.events lines → StandsLater st anonymous_acts lines then_cells then_seats
based v st base g follows = let same = base_stays v base st g.stands in record { events = g.events; are = g.are; stands = g.stands; locks_were_asked = g.locks_were_asked; locks_are_requested = g.locks_are_requested; locks_decide = g.locks_decide; follows = follows; database = same.database; block_size = same.block_size }

pub may_keeps : (v : Server) (cells : List Cell) (seats : List SeatState) {history : History} (st : Stands v history cells seats) → LocksAskedFor st → LocksAreRequested v (contents cells) seats → (j : ℕ) (s : SeatState) → get_elem? seats j ≡ some s
    → (out : List (ℕ × Cell)) → OutsAreIn cells out → (i : ℕ) (c : Cell) (t : SeatState) → (m : AllowedVisit v s out i c t)
    → StandsLater st (may_anonymous_acts m) (may_lines m) (set cells i c) (set seats j t)
may_keeps v cells seats st asked wanted j s there out outs i c t m = let o = may_one v cells seats st asked wanted j s there out outs i c t m in based v st (may_base v cells s out outs i c t m) o.goes o.follows

-- all that it does its own sessions do, where no other seat has sessions of their names
pub may_owns : (v : Server) (cells : List Cell) (seats : List SeatState) {history : History} (st : Stands v history cells seats) → LocksAskedFor st → LocksAreRequested v (contents cells) seats → (j : ℕ) (s : SeatState) → get_elem? seats j ≡ some s
    → (out : List (ℕ × Cell)) → OutsAreIn cells out → (i : ℕ) (c : Cell) (t : SeatState) → (m : AllowedVisit v s out i c t) → OthersDiffer (set seats j t) j
    → (w : StandsLater st (may_anonymous_acts m) (may_lines m) (set cells i c) (set seats j t)) × Each (IsOfSeat w.stands.transcripts_agree.owner j) w.events
may_owns v cells seats st asked wanted j s there out outs i c t m differ = let o = may_one v cells seats st asked wanted j s there out outs i c t m in
    (based v st (may_base v cells s out outs i c t m) o.goes o.follows, seats_own v o.goes.stands j differ t (set_here seats j t s there) o.goes.events o.named)

-- and so do all of them
pub all_alone : (v : Server) (cells : List Cell) (seats : List SeatState) {history : History} (st : Stands v history cells seats) → LocksAskedFor st → LocksAreRequested v (contents cells) seats → (then_cells : List Cell) (then_seats : List SeatState) → (steps : Steps v cells seats then_cells then_seats)
    → (w : StandsLater st (steps_anonymous_acts steps) (steps_lines steps) then_cells then_seats) × (OneByOne steps → OneAtATime (run first history) w.events)
all_alone v cells seats st asked wanted then_cells then_seats steps = let g = all_go v cells seats st asked wanted then_cells then_seats steps in (based v st (steps_base v cells seats then_cells then_seats steps) g.goes g.follows, g.alone)

pub all_keep : (v : Server) (cells : List Cell) (seats : List SeatState) {history : History} (st : Stands v history cells seats) → LocksAskedFor st → LocksAreRequested v (contents cells) seats → (then_cells : List Cell) (then_seats : List SeatState) → (steps : Steps v cells seats then_cells then_seats) → StandsLater st (steps_anonymous_acts steps) (steps_lines steps) then_cells then_seats
all_keep v cells seats st asked wanted then_cells then_seats steps = (all_alone v cells seats st asked wanted then_cells then_seats steps).0
