-- In each visit, and in each step that a seat takes by itself, locks decide.
use Rattle.std.proofs.Common.{◌≡◌, ◌≢◌, ℕ, zero, suc, ◌+◌, Bool, true, false, List, [], ◌∷◌, ◌++◌, map, Option, Some, None, set, slice_set, refl, sym, ap, ◌∙◌, subst, subst₂, inl}
use Rattle.std.specs.Prelude.{if◌then◌else◌, nat_le}
use mathlib.Core.Option.{some}
use lib.ListN.{get_elem?}
use Rattle.sql_value.specs.declared.refusal.Refusal.TheVariants.{NoSuchSavepoint, LimitExceeded}
use Rattle.sql_types.specs.declared.lock.Hold.{Hold}
use Rattle.sql_types.specs.declared.reply.Reply.{Reply}
use Rattle.sql_types.specs.declared.reply.Reply.TheVariants as reply
use Rattle.sql_types.specs.declared.statement.Stmt.{Stmt}
use Rattle.spec_model.specs.Catalog.{Tables, defs_of}
use Rattle.spec_model.specs.InTheWay.{first_conflict}
use Rattle.spec_model.specs.Journals.{Line, serial, tx_count}
use Rattle.spec_model.specs.Locks.{catalog_request}
use Rattle.spec_model.specs.Replies.{reply_text}
use Rattle.spec_history.specs.Transcripts.{statement, end_of_session}
use Rattle.spec_history.specs.Acts.{SessionAct, starts, takes, releases_locks, answers, stops, looks, says, fails, commits, ends, issues, Act, closes}
use Rattle.spec_history.specs.Histories.{IsIdle}
use Rattle.spec_history.specs.Lists.{Text, Each, In}
use Rattle.spec_history.specs.Meaning.{Meaning}
use Rattle.spec_history.specs.Real.{requests_catalog, requests_cell}
use Rattle.spec_history.specs.Sessions.{SessionTransaction, viewed}
use Rattle.spec_history.specs.Transactions.{unfixed}
use Rattle.spec_history.specs.Transcripts.{Kind, unread, begin, commit, roll_back, to_savepoint, create, rows, issue, keep, kind_of}
use Rattle.spec_history.specs.Worlds.{first, run, tables}
use Rattle.spec_history.specs.ExactRefusals.{held_beside, in_the_way}
use Rattle.spec_history.proofs.Settles.{in_left, in_right}
use Rattle.spec_protocol.specs.Server.{Server}
use Rattle.spec_protocol.specs.ActsOf.{closings, done_acts, checked_acts, end_acts, failed_acts, failed_in, alone_acts}
use Rattle.spec_protocol.specs.Alone.{Alone}
use Rattle.spec_protocol.specs.Alone as alone
use Rattle.spec_protocol.specs.CatalogVisits.{StopsInCatalog}
use Rattle.spec_protocol.specs.Cells.{Cell, Catalog, CatalogCell, Ledger, LedgerCell, Rows, TableCell, catalog_at, holds_at, holds_found, pending_in}
use Rattle.spec_protocol.specs.Contents.{contents}
use Rattle.spec_protocol.specs.AnonymousActs.{AnonymousAct, did, anonymous_act, stopped_acts, visit_anonymous_acts}
use Rattle.spec_protocol.specs.Doing.{Stopped, blocked, no_memory, done, stage_after, with_line, with_reply}
use Rattle.spec_protocol.specs.LedgerVisits.{Ends, commits_nothing, rolls_back, leaves, did_nothing, was_refused, lacks_memory, lacks_index, closed_by, next_block}
use Rattle.spec_protocol.specs.LocksAreRequested.{LocksAreRequested}
use Rattle.spec_protocol.specs.LocksCover.{IsNamed}
use Rattle.spec_protocol.specs.RowsAgree.{IsExplicitAt}
use Rattle.spec_protocol.specs.LocksDecideIn.{LocksDecideIn}
use Rattle.spec_protocol.specs.Moves.{InStatement, InOpenTransaction, at_place, saying, sits}
use Rattle.spec_protocol.specs.OpenOnes.{HasOpen, last_line, lines_at, script_so_far}
use Rattle.spec_protocol.specs.Parts.{IsTransaction}
use Rattle.spec_protocol.specs.Seats.{OpenTransaction, SessionStatus, between, inside, leaving, StatementProgress, begun, found, made, going_back, replied, answering, refused, Session, SeatState, session}
use Rattle.spec_protocol.specs.StandTogether.{History, LocksAskedFor, Stands}
use Rattle.spec_protocol.specs.TableVisits.{StopsInTable, requests_here}
use Rattle.spec_protocol.specs.Visits as visit
use Rattle.spec_protocol.specs.Visits.{Visit, Happens}
use Rattle.spec_protocol.specs.RequestsIn.{of_catalog}
use Rattle.law_protocol_tables.proofs.Barring.{Bars, first_bars}
use Rattle.law_protocol_steps.proofs.CatalogThere.{catalog_there}
use Rattle.law_protocol.proofs.Decides.{IsSilent, SaidAt, all_silent, is_its, meets_one, says_first, says_one, says_then}
use Rattle.law_protocol.proofs.FreeOrMet.{met_in_catalog, met_in_table}
use Rattle.law_protocol.proofs.HeldStatements.{map_in}
use Rattle.spec_protocol.proofs.Places.{set_here}
use Rattle.law_protocol_tables.proofs.PassedRequests.{requests_found}
use Rattle.law_protocol_steps.proofs.TakesInTable.{IsAtPlace}
use Rattle.law_protocol_tables.proofs.VisitsAsked.{got, lies, looked}

-- ---- silent acts

either_silent : (b : Bool) (k : ℕ) (es : List Act) (more : List AnonymousAct) → Each IsSilent more → Each IsSilent (map anonymous_act es ++ more) → Each IsSilent (map anonymous_act (if b then [] else closes k ∷ es) ++ more)
either_silent true k es more h rest = h
either_silent false k es more h rest = (tt, rest)

closings_silent : (v : Server) (n : ℕ) (c : LedgerCell) (more : List AnonymousAct) → Each IsSilent more → Each IsSilent (map anonymous_act (closings v n c) ++ more)
closings_silent v zero c more h = h
closings_silent v (suc n) c more h = either_silent (nat_le (pending_in c) 0) (next_block c) (closings v n (closed_by v.hash (next_block c) c)) more h (closings_silent v n (closed_by v.hash (next_block c) c) more h)

failed_silent : (kind : Kind) (text : Text) → Each IsSilent (map did (failed_acts kind text))
failed_silent unread text = (tt, tt)
failed_silent begin text = (tt, tt)
failed_silent commit text = tt
failed_silent roll_back text = tt
failed_silent to_savepoint text = (tt, tt)
failed_silent create text = (tt, tt)
failed_silent rows text = (tt, tt)
failed_silent issue text = (tt, tt)
failed_silent keep text = (tt, tt)

failed_in_silent : (q : Meaning) (o : Option OpenTransaction) (text : Text) → Each IsSilent (map did (failed_in q o text))
failed_in_silent q None text = tt
failed_in_silent q (Some o) text = by o.explicit
  where
    by : (b : Bool) → Each IsSilent (map did (if b then failed_acts (kind_of (q.reads text)) text else fails text ∷ []))
    by true = failed_silent (kind_of (q.reads text)) text
    by false = (tt, tt)

-- at most one line is under way
one_line : (p : SessionStatus) (l m : Line) (ls : List Line) → lines_at p ≡ l ∷ m ∷ ls → ⊥
one_line between l m ls e = cc
one_line leaving l m ls e = cc
one_line (inside text begun) l m ls e = cc
one_line (inside text (found named fresh)) l m ls e = cc
one_line (inside text (made def indexed)) l m ls e = cc
one_line (inside text (going_back seq cells)) l m ls e = cc
one_line (inside text (replied r)) l m ls e = cc
one_line (inside text (answering r def)) l m ls e = cc
one_line (inside text (refused r)) l m ls e = cc

-- ---- a statement that is said is one of the script then

in_done : (b : Bool) (text : Text) (r : Reply) (script : List Line) → b ≡ true → In text (map (λ l. l.0) (with_line b (text, reply_text r) script ++ last_line text (stage_after b r)))
in_done true text r script e = map_in (λ l. l.0) ((script ++ (text, reply_text r) ∷ []) ++ []) (text, reply_text r) (in_left (text, reply_text r) (script ++ (text, reply_text r) ∷ []) [] (in_right (text, reply_text r) script ((text, reply_text r) ∷ []) (inl refl)))
in_done false text r script e = cc

module _ (v : Server) {history : History} {cells : List Cell} {seats : List SeatState} (st : Stands v history cells seats) (j : ℕ) (s : SeatState) (there : get_elem? seats j ≡ some s) where
  said_done : (t : SeatState) (at : InStatement v s) (p : OpenTransaction) (r : Reply) → t ≡ done s at p r → p.explicit ≡ true → p.end ≡ unfixed → SaidAt (slice_set seats j t) j at.text
  said_done t at p r e explicit open_end = record {
    x = at_place (Some (with_reply at.text r p)) (inside at.text (stage_after p.explicit r)) at.x;
    o = with_reply at.text r p;
    has = record { seat = t; there = set_here seats j t s there; role = ap (λ (z : SeatState). z.role) e; open_one = refl };
    under = at.text;
    stage = stage_after p.explicit r;
    place = refl;
    open_end = open_end;
    said = in_done p.explicit at.text r p.script explicit;
  }

  said_so : (x : Session) (o : OpenTransaction) (text : Text) (r : Reply) → o.end ≡ unfixed → SaidAt (slice_set seats j (sits s (at_place (Some (saying (text, reply_text r) o)) (inside text (answering r None)) x))) j text
  said_so x o text r open_end = record {
    x = at_place (Some (saying (text, reply_text r) o)) (inside text (answering r None)) x;
    o = saying (text, reply_text r) o;
    has = record { seat = sits s (at_place (Some (saying (text, reply_text r) o)) (inside text (answering r None)) x); there = set_here seats j _ s there; role = refl; open_one = refl };
    under = text;
    stage = answering r None;
    place = refl;
    open_end = open_end;
    said = in_done true text r o.script refl;
  }

  -- ---- by itself

  module _ (t : SeatState) where
    abbrev Decides : List SessionAct → Type 0
    Decides acts = (events : List Act) → map anonymous_act events ≡ map did acts → Stands v (history ++ events) cells (slice_set seats j t) → LocksDecideIn v history events

    quiet : (acts : List SessionAct) → Each IsSilent (map did acts) → Decides acts
    quiet acts h events e after = all_silent v history events (map did acts) e h

    done_alone : (o : OpenTransaction) (at : InOpenTransaction v s o) (p : OpenTransaction) (r : Reply) → t ≡ done s at.stands p r → p.explicit ≡ true → p.end ≡ unfixed → Decides (says (at.stands.text, reply_text r) ∷ [])
    done_alone o at p r e explicit open_end events are after = says_one v history cells (slice_set seats j t) j (at.stands.text, reply_text r) events are after (said_done t at.stands p r e explicit open_end)

  checked : (t : SeatState) (o : OpenTransaction) (at : InOpenTransaction v s o) (r : Reply) → t ≡ done s at.stands o r → (b : Bool) → o.explicit ≡ b → Decides t (checked_acts b at.stands.text r)
  checked t o at r e true explicit = done_alone t o at o r e explicit at.unfixed
  checked t o at r e false own = quiet t [] tt

  pub alone_decides : (t : SeatState) (step : Alone v s t) → Decides t (alone_acts step)
  alone_decides t (alone.begins name present role) = quiet t (starts name ∷ []) (tt, tt)
  alone_decides t (alone.builds present role) = quiet t [] tt
  alone_decides t (alone.rests role) = quiet t [] tt
  alone_decides t (alone.takes x text at goes) = quiet t (takes text ∷ []) (tt, tt)
  alone_decides t (alone.leaves x o at one open_end explicit) = quiet t [] tt
  alone_decides t (alone.stops x at free) = quiet t (stops ∷ []) (tt, tt)
  alone_decides t (alone.refused_in x o text e at one open_end explicit is) = λ events are after. says_one v history cells (slice_set seats j t) j (text, reply_text (reply.Refused e)) events are after (said_so x o text (reply.Refused e) open_end)
  alone_decides t (alone.refused_out x text e at free is) = quiet t [] tt
  alone_decides t (alone.refused_checked o at named fresh e stage is) = checked t o at (reply.Refused e) refl o.explicit refl
  alone_decides t (alone.no_memory x text at open_end) = quiet t (failed_in v.meaning x.open_one text) (failed_in_silent v.meaning x.open_one text)
  alone_decides t (alone.no_memory_then o at named fresh stage) = quiet t (fails at.stands.text ∷ []) (tt, tt)
  alone_decides t (alone.saves o at name stage explicit is few) = done_alone t o at _ reply.Saved refl explicit at.unfixed
  alone_decides t (alone.has_too_many o at name stage explicit is full) = done_alone t o at _ (reply.Refused LimitExceeded) refl explicit at.unfixed
  alone_decides t (alone.goes_back o at name f fs stage explicit is there_is) = quiet t [] tt
  alone_decides t (alone.has_no_savepoint o at name stage explicit is nothing) = done_alone t o at _ (reply.Refused NoSuchSavepoint) refl explicit at.unfixed
  alone_decides t (alone.is_back o at seq stage) = done_alone t o at _ reply.Back refl (subst (λ (p : SessionStatus). IsExplicitAt p o.explicit) (at.stands.place ∙ ap (inside at.stands.text) stage)
      (st.rows_agree.explicit j at.stands.x o (record { seat = s; there = there; role = at.stands.role; open_one = at.open_one }))) at.unfixed
  alone_decides t (alone.answers x text r at goes) = quiet t (answers (statement text r None) ∷ []) (tt, tt)
  alone_decides t (alone.answers_end x o text r def line at one is released) = quiet t (releases_locks ∷ answers (statement text r (Some line)) ∷ []) (tt, (tt, tt))
  alone_decides t (alone.has_left x o line at one is released) = quiet t (releases_locks ∷ answers (end_of_session line) ∷ stops ∷ []) (tt, (tt, (tt, tt)))

  -- ---- visits

  module _ (asked : LocksAskedFor st) (wanted : LocksAreRequested v (contents cells) seats) (i : ℕ) where
    abbrev T : Tables
    T = serial v.reads st.ledger.items

    abbrev Visit_decides : List AnonymousAct → Cell → SeatState → Type 0
    Visit_decides anonymous_acts b t = (events : List Act) → map anonymous_act events ≡ anonymous_acts → Stands v (history ++ events) (set cells i b) (slice_set seats j t) → LocksDecideIn v history events

    still : (anonymous_acts : List AnonymousAct) (b : Cell) (t : SeatState) → Each IsSilent anonymous_acts → Visit_decides anonymous_acts b t
    still anonymous_acts b t h events e after = all_silent v history events anonymous_acts e h

    -- a statement of rows is done
    rows_done : (b : Cell) (t : SeatState) (at : InStatement v s) (p : OpenTransaction) (r : Reply) → t ≡ done s at p r → p.end ≡ unfixed → (o : Bool) → p.explicit ≡ o → Visit_decides (map did (done_acts o at.text true r)) b t
    rows_done b t at p r e open_end true explicit = λ events are after. says_one v history (set cells i b) (slice_set seats j t) j (at.text, reply_text r) events are after (said_done t at p r e explicit open_end)
    rows_done b t at p r e open_end false own = still _ b t (tt, tt)

    system_done : (b : Cell) (t : SeatState) (at : InStatement v s) (p : OpenTransaction) (r : Reply) → t ≡ done s at p r → p.end ≡ unfixed → (o : Bool) → p.explicit ≡ o → Visit_decides (did (looks at.text false) ∷ map did (done_acts o at.text true r)) b t
    system_done b t at p r e open_end true explicit = λ events are after. says_then v history (set cells i b) (slice_set seats j t) j at.text false (at.text, reply_text r) events are after (said_done t at p r e explicit open_end)
    system_done b t at p r e open_end false own = still _ b t (tt, (tt, tt))

    mine : (x : Session) (o : OpenTransaction) → s.role ≡ session x → x.open_one ≡ Some o → HasOpen seats j x o
    mine x o role one = record { seat = s; there = there; role = role; open_one = one }

    -- the statement under way is said with the end of its transaction
    ends_so : (x : Session) (o : OpenTransaction) (role : s.role ≡ session x) (one : x.open_one ≡ Some o) (text : Text) (stage : StatementProgress) (place : x.place ≡ inside text stage) → o.end ≡ unfixed → (last : SessionAct) → IsSilent (did last) → (b : Cell) (t : SeatState) (ls : List Line) → lines_at x.place ≡ ls → Visit_decides (map did (map says ls ++ last ∷ [])) b t
    ends_so x o role one text stage place open_end last h b t [] e = still _ b t (h, tt)
    ends_so x o role one text stage place open_end last h b t (l ∷ []) e = λ events are after. says_first v history st j l (did last ∷ []) (h, tt) events are (record {
      x = x;
      o = o;
      has = mine x o role one;
      under = text;
      stage = stage;
      place = place;
      open_end = open_end;
      said = map_in (λ k. k.0) (script_so_far x o) l (in_right l o.script (lines_at x.place) (subst (In l) (sym e) (inl refl)));
    })
    ends_so x o role one text stage place open_end last h b t (l ∷ m ∷ ls) e = absurd (one_line x.place l m ls e)

    point_read : {x : Session} {o : OpenTransaction} {back : Bool} {script : List Line} {place : SessionStatus} (role : s.role ≡ session x) (one : x.open_one ≡ Some o) → o.end ≡ unfixed → (n : ℕ) (b : Cell) (t : SeatState) (e : Ends v x o back script place) → Visit_decides (map did (end_acts e n)) b t
    point_read role one open_end n b t (commits_nothing text p q r f) = still _ b t (tt, tt)
    point_read role one open_end n b t (rolls_back text p q r) = still _ b t (tt, tt)
    point_read role one open_end n b t (leaves p q) = still _ b t (tt, tt)
    point_read {x} {o} role one open_end n b t (did_nothing text r own place quiet_one) = ends_so x o role one text (replied r) place open_end (ends n false) tt b t ((text, reply_text r) ∷ []) (ap lines_at place)
    point_read role one open_end n b t (was_refused text r p q) = still _ b t (tt, tt)
    point_read role one open_end n b t (lacks_memory text r p q) = still _ b t (tt, (tt, tt))
    point_read role one open_end n b t (lacks_index text def indexed p q) = still _ b t (tt, (tt, tt))

    -- a lock stops it
    in_catalog : (a : CatalogCell) (b : Cell) (t : SeatState) → get_elem? cells i ≡ some (Catalog a) → i ≡ catalog_at → (w : StopsInCatalog v a s t) (r : Reply) (why : Stopped a.holds w.o.id (of_catalog (catalog_request w.o.explicit w.at.stands.stmt)) r) → Visit_decides (map did (stopped_acts why w.at.stands.text (failed_in v.meaning (Some w.o) w.at.stands.text))) b t
    in_catalog a b t e there_is w _ (blocked q f) = λ events are after. meets_one v history st j w.at.stands.text q.0.0 events are (λ n idle k below d has. let is = its n idle d has in
        subst₂ (λ (id : ℕ) (z : Bool). in_the_way v.meaning (v.meaning.defs (tables v.meaning (run first history))) (held_beside n k (λ m. viewed ((run first history).at m).transaction)) id z w.at.stands.text ≡ Some q.0.0) (sym is.id) (sym is.explicit)
        (met_in_catalog v st n idle k w.o.id w.o.explicit w.at.stands.text asked wanted below (λ u g. (its n idle u g).id) q
        (subst₂ (λ (hs : List Hold) (d : Option Stmt). first_conflict hs w.o.id (of_catalog (requests_catalog w.o.explicit d)) ≡ Some q) (sym (ap (holds_at cells) (sym there_is) ∙ ap holds_found e)) (sym w.at.stands.is) f)))
      where
        its : (n : ℕ) (idle : (m : ℕ) → m ≢ n → IsIdle ((run first history).at m)) (d : SessionTransaction) → ((run first history).at n).transaction ≡ Some d → IsTransaction d w.at.stands.x w.o
        its n idle d has = is_its v st n idle j w.at.stands.x w.o (mine w.at.stands.x w.o w.at.stands.role w.at.open_one) w.at.stands.text w.at.stands.stage w.at.stands.place d has
    in_catalog a b t e there_is w _ no_memory = still _ b t (failed_in_silent v.meaning (Some w.o) w.at.stands.text)

    in_table : (a : TableCell) (b : Cell) (t : SeatState) (e : get_elem? cells i ≡ some (Rows a)) (w : StopsInTable v a s t) (r : Reply) (why : Stopped a.holds w.o.id (requests_here w.named w.at.at.stands.stmt) r) → Visit_decides (map did (stopped_acts why w.at.at.stands.text (fails w.at.at.stands.text ∷ []))) b t
    in_table a b t e w _ (blocked q f) = λ events are after. meets_one v history st j w.at.at.stands.text q.0.0 events are (λ n idle k below d has. let is = its n idle d has in
        subst₂ (λ (id : ℕ) (z : Bool). in_the_way v.meaning (v.meaning.defs (tables v.meaning (run first history))) (held_beside n k (λ m. viewed ((run first history).at m).transaction)) id z w.at.at.stands.text ≡ Some q.0.0) (sym is.id) (sym is.explicit)
        (met_in_table v st n idle k w.o.id w.o.explicit w.at.at.stands.text asked wanted below (λ u g. (its n idle u g).id) place.n (requests_here w.named w.at.at.stands.stmt) q
        (looked v st j s there i a e w.o w.named w.fresh w.at w.passes).requests
        (ap (requests_cell (defs_of T)) w.at.at.stands.is ∙ requests_found (defs_of T) w.named w.at.at.stands.stmt got_it.0 got_it.1 (sym got_it.2) w.passes bars.request bars.wanted ∙ ap (λ (m : ℕ). Some (m, requests_here w.named w.at.at.stands.stmt)) (w.at.here ∙ place.id))
        (subst (λ (hs : List Hold). first_conflict hs w.o.id (requests_here w.named w.at.at.stands.stmt) ≡ Some q) (sym (ap (holds_at cells) (sym place.is) ∙ ap holds_found e)) f)))
      where
        its : (n : ℕ) (idle : (m : ℕ) → m ≢ n → IsIdle ((run first history).at m)) (d : SessionTransaction) → ((run first history).at n).transaction ≡ Some d → IsTransaction d w.at.at.stands.x w.o
        its n idle d has = is_its v st n idle j w.at.at.stands.x w.o (mine w.at.at.stands.x w.o w.at.at.stands.role w.at.at.open_one) w.at.at.stands.text w.at.at.stands.stage w.at.at.stands.place d has

        place : IsAtPlace i a
        place = lies v st j s there i a e w.o w.named w.fresh w.at w.passes

        got_it : IsNamed T (Some w.at.at.stands.stmt) (Some w.named)
        got_it = got v st j s there i a e w.o w.named w.fresh w.at w.passes

        bars : Bars a.holds w.o.id (requests_here w.named w.at.at.stands.stmt) q.0.0
        bars = first_bars a.holds w.o.id _ q f
    in_table a b t e w _ no_memory = still _ b t (tt, tt)

    pub visit_decides : (out : List (ℕ × Cell)) (how : Visit) (a b : Cell) (t : SeatState) → get_elem? cells i ≡ some a → (h : Happens v out how a s b t) → Visit_decides (visit_anonymous_acts v out how a s b t h) b t
    visit_decides out (visit.assign_id explicit) (Ledger a) (Ledger b) t e h = still _ _ t (tt, tt)
    visit_decides out visit.look (Catalog a) (Catalog b) t e h = still _ _ t (tt, tt)
    visit_decides out visit.read_system (Catalog a) (Catalog b) t e h = system_done (Catalog b) t h.at.stands _ _ h.seat h.at.unfixed h.o.explicit refl
    visit_decides out visit.create_table (Catalog a) (Catalog b) t e h = still _ _ t (tt, tt)
    visit_decides out visit.create_index (Catalog a) (Catalog b) t e h = still _ _ t (tt, tt)
    visit_decides out visit.alter_table (Catalog a) (Catalog b) t e h = still _ _ t (tt, tt)
    visit_decides out visit.refuse_create (Catalog a) (Catalog b) t e h = still _ _ t (tt, tt)
    visit_decides out visit.stop_in_catalog (Catalog a) (Catalog b) t e h = in_catalog a (Catalog b) t e (catalog_there cells st.catalog a st.ledger st.are_cells i e) h.0 h.0.r h.0.stopped
    visit_decides out visit.change (Rows a) (Rows b) t e h = rows_done (Rows b) t h.at.at.stands _ _ h.seat h.at.at.unfixed h.o.explicit refl
    visit_decides out visit.refuse_change (Rows a) (Rows b) t e h = rows_done (Rows b) t h.at.at.stands _ _ h.seat h.at.at.unfixed h.o.explicit refl
    visit_decides out visit.read (Rows a) (Rows b) t e h = rows_done (Rows b) t h.at.at.stands _ _ h.seat h.at.at.unfixed h.o.explicit refl
    visit_decides out visit.stop_in_table (Rows a) (Rows b) t e h = in_table a (Rows b) t e h.0 h.0.r h.0.stopped
    visit_decides out visit.add_index (Rows a) (Rows b) t e h = still _ _ t tt
    visit_decides out visit.undo_to (Rows a) (Rows b) t e h = still _ _ t tt
    visit_decides out (visit.commit time) (Ledger a) (Ledger b) t e h = ends_so h.stands.x h.o h.stands.role h.open_one h.stands.text h.stands.stage h.stands.place h.unfixed (commits time (tx_count a.items + 1)) tt (Ledger b) t (lines_at h.stands.x.place) refl
    visit_decides out visit.read_point (Ledger a) (Ledger b) t e h = point_read h.0.role h.0.open_one h.0.unfixed (tx_count a.items) (Ledger b) t h.0.ends
    visit_decides out visit.release (Rows a) (Rows b) t e h = still _ _ t tt
    visit_decides out visit.release_catalog (Catalog a) (Catalog b) t e h = still _ _ t tt
    visit_decides out visit.give_back (Catalog a) (Catalog b) t e h = still _ _ t tt
    visit_decides out (visit.close k) (Ledger a) (Ledger b) t e h = still _ _ t (tt, tt)
    visit_decides out (visit.issue moment) (Ledger a) (Ledger b) t e h = still _ _ t (closings_silent v (pending_in a) a (did (issues h.digest (tx_count a.items)) ∷ []) (tt, tt))
    visit_decides out visit.lack_block (Ledger a) (Ledger b) t e h = still _ _ t (tt, tt)
    visit_decides out visit.keep a b t e h = still _ _ t (tt, tt)
    visit_decides out visit.nothing a b t e h = still _ _ t tt
    visit_decides out how a b t e h = absurd h
