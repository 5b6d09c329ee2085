-- The visit in which an id is drawn.
use Rattle.std.proofs.Common.{◌≡◌, ◌≢◌, ℕ, ◌<◌, ◌≤◌, Bool, true, false, not, List, [], ◌∷◌, ◌++◌, flat_map, Option, Some, None, slice_set, refl, sym, ap, ◌∙◌, subst, subst₂, append-nil, arith, inr}
use mathlib.Core.Option.{some}
use lib.ListN.{get_elem?}
use Rattle.sql_types.specs.declared.version.Version.{Version}
use Rattle.spec_model.specs.Rows.{EventId}
use Rattle.spec_model.specs.Catalog.{Tables, defs_of, versions_of}
use Rattle.spec_model.specs.Journals.{tx_count}
use Rattle.spec_model.specs.Script.{script_from}
use Rattle.law_frame.proofs.LegalSound.{legal_sound}
use Rattle.spec_history.specs.Lists.{Text, Each, In}
use Rattle.spec_history.specs.Journals.{ids_of}
use Rattle.spec_history.specs.Refusals.{EndsAt}
use Rattle.spec_history.specs.Digests.{Digest}
use Rattle.spec_history.specs.Facts.{began}
use Rattle.spec_history.specs.Transactions.{unfixed}
use Rattle.spec_history.specs.Transcripts.{kind_of}
use Rattle.spec_protocol.specs.TranscriptsSoFar.{EndsOwn}
use Rattle.law_protocol_steps.proofs.TranscriptActs.{GoesFrom, goes_on}
use Rattle.law_protocol_steps.proofs.TranscriptProgress.{from_at, at_begin, at_draw, runs_own}
use Rattle.spec_history.specs.Acts.{assigns_id}
use Rattle.spec_history.specs.Sessions.{SessionTransaction, SessionState, acted}
use Rattle.spec_history.specs.Worlds.{first}
use Rattle.spec_history.proofs.Trace.{each_weaker}
use Rattle.spec_protocol.specs.Server.{Server}
use Rattle.sql_types.specs.declared.lock.Hold.{Hold}
use Rattle.spec_protocol.specs.Cells.{LedgerCell, Cell, Ledger, ledger_at, cell_of}
use Rattle.spec_protocol.specs.Contents.{Contents, Known, contents, known, HasAlone}
use Rattle.spec_protocol.specs.Seats.{OpenTransaction, begun, inside, Session, Written, Role, session, SeatState}
use Rattle.spec_protocol.specs.OpenOnes.{text_at, script_so_far, script_end}
use Rattle.spec_protocol.specs.RequestsIn.{requests_in, Holds}
use Rattle.spec_model.specs.Touched.{touched}
use Rattle.spec_protocol.specs.EventsIn.{events_in}
use Rattle.spec_protocol.specs.OpenScripts.{IsOfItsScript, counted}
use Rattle.spec_protocol.specs.LocksCover.{KeepsLocks, LookedAt, LiesUnder, EndLiesUnder, IsUnderLocks, IsGotAt, IsDropping, LookedFirst}
use Rattle.spec_protocol.specs.TreesAreOfEvents.{HasItsTrees}
use Rattle.spec_protocol.specs.LedgerIsLegal.{IsOfCell, LedgerIsLegal}
use Rattle.spec_protocol.specs.Parts.{AreTransactions, IsNow}
use Rattle.spec_protocol.specs.TranscriptsAgree.{session_moments, moments_of}
use Rattle.spec_protocol.specs.StandTogether.{History, Stands, StandsAfter}
use Rattle.spec_protocol.specs.Moves.{new_transaction, at_place, InStatement, then_at}
use Rattle.spec_protocol.specs.LedgerVisits.{drawn, stage_with_id, AssignsIdFor, AssignsId}
use Rattle.law_protocol_steps.proofs.FreshIds.{EndIsNotOf, IsNotOf, no_events, none_touched, none_touched_in, made_before}
use Rattle.law_protocol_steps.proofs.Ids.{Running, running, below, drawn as drawn_ids, others, has_not}
use Rattle.law_protocol_steps.proofs.OpenSeats.{Own, own_session, owns_none, owns_one}
use Rattle.law_protocol_steps.proofs.OneMore.{Acts, agrees_then, agrees_owner, images_stay_each}
use Rattle.law_protocol_steps.proofs.LedgerVisit.{the_ledger, ledger_after}
use Rattle.law_protocol_steps.proofs.Turns.{Turns, Owes}
use Rattle.std.specs.List.{AllByRecursion}
use Rattle.spec_protocol.specs.RowsAgree.{GoesBackTo, IsExplicitAt}
use Rattle.spec_protocol.specs.TablesAreSerial.{IsIndexed}
use Rattle.spec_model.specs.Runs.{MadeBefore}

-- what is said of what a seat has is said of all that it has
pub at_own : (t : SeatState) (y : Session) (o : OpenTransaction) (P : Session → OpenTransaction → Type 0) → t.role ≡ session y → y.open_one ≡ Some o → P y o → (z : Session) (p : OpenTransaction) → Own t z p → P z p
at_own t y o P role one h z p own = subst (λ (x : Session). P x p) (own_session t y role z p own) (subst (P y) (owns_one t y role o one z p own) h)

module _ (v : Server) (cells : List Cell) (seats : List SeatState) {history : History} (st : Stands v history cells seats) where
  abbrev ledger : LedgerCell
  ledger = st.ledger

  abbrev c : Contents
  c = contents cells

  abbrev k : Known
  k = known v.reads ledger.items

  -- ---- nothing is of the id that is drawn next

  pub others_in_journal : Each (λ i. i ≢ ledger.next) (ids_of ledger.items)
  others_in_journal = each_weaker (λ i. i < ledger.next) (λ i. i ≢ ledger.next) (λ i l e. absurd (omega arith)) (ids_of ledger.items) (drawn_ids v history ledger seats st.transcripts_agree)

  pub no_lock : (i : ℕ) (h : Hold) → In h (c.holds i) → h.tx ≢ ledger.next
  no_lock i h has e = let b = st.locks_cover.belong i h has in let l = below v history ledger seats st.transcripts_agree b.j b.x b.o b.has in let m = b.mine in absurd (omega arith)

  not_its : (id : ℕ) (w : Version) (event : EventId) → (k.has event.0 ≡ false → LiesUnder c k.tables id w event) → event.0 ≢ ledger.next
  not_its id w event h e = let u = h (ap k.has e ∙ has_not ledger.next ledger.items others_in_journal) in no_lock _ u.hold u.has (u.mine ∙ e)

  end_not_its : (id : ℕ) (w : Version) (o : Option EventId) → EndLiesUnder c k id w o → EndIsNotOf ledger.next o
  end_not_its id w None h = tt
  end_not_its id w (Some event) h = not_its id w event h

  abbrev all_not : (id : ℕ) → 1 ≤ id → Each (IsNotOf ledger.next) (c.versions id)
  all_not id l = each_weaker (IsUnderLocks c k id) (IsNotOf ledger.next) (λ w u. record { start = not_its id w w.start u.start; end = end_not_its id w w.end u.end }) (c.versions id) (st.locks_cover.under id l)

  pub none_touched_yet : (id : ℕ) → 1 ≤ id → touched ledger.next (c.versions id) ≡ []
  none_touched_yet id l = none_touched ledger.next (c.versions id) (all_not id l)

  pub none_started : (id : ℕ) → 1 ≤ id → events_in ledger.next id (c.versions id) ≡ []
  none_started id l = no_events ledger.next id (c.versions id) (all_not id l)

  pub none_in_journal : (id : ℕ) → touched ledger.next (versions_of k.tables id) ≡ []
  none_in_journal id = none_touched_in ledger.next k.tables id (legal_sound v.reads ledger.items ledger.next st.ledger_is_legal.legal (others ledger.next ledger.items others_in_journal))

  -- ---- the seat then

  module _ (x : Session) (text : Text) where
    abbrev new : Bool → OpenTransaction
    new explicit = new_transaction ledger.next explicit

    abbrev then_session : Bool → Session
    then_session explicit = at_place (Some (new explicit)) (inside text (stage_with_id explicit ledger.next)) x

    its_script : (explicit : Bool) → IsOfItsScript v c k.tables (then_session explicit) (new explicit)
    unfolding script_from
    its_script true = record { replies = refl; versions = λ id l. none_touched_yet id l ∙ sym (none_in_journal id); counter = refl; alone = λ e. refl }
    its_script false = record { replies = refl; versions = λ id l. none_touched_yet id l ∙ sym (none_in_journal id); counter = refl; alone = λ e. refl }

    its_trees : (explicit : Bool) → HasItsTrees v c k (then_session explicit) (new explicit)
    unfolding script_from
    its_trees true = record { trees = record { differ = tt; tables = tt; leaves = tt; others = λ id l e. none_started id l }; open_savepoints = tt }
    its_trees false = record { trees = record { differ = tt; tables = tt; leaves = tt; others = λ id l e. none_started id l }; open_savepoints = tt }

  module _ (s : SeatState) (explicit : Bool) (p : InStatement v s) (free : p.x.open_one ≡ None) (at_begun : p.stage ≡ begun) (assigns_id_for : AssignsIdFor explicit p.stmt) where
    abbrev t : SeatState
    t = then_at s p (Some (new p.x p.text explicit)) (stage_with_id explicit ledger.next)

    abbrev y : Session
    y = then_session p.x p.text explicit

    abbrev o : OpenTransaction
    o = new p.x p.text explicit

    own : (P : Session → OpenTransaction → Type 0) → P y o → (z : Session) (q : OpenTransaction) → Own t z q → P z q
    own P h = at_own t y o P refl refl h

    no_lines : (b : Bool) → script_so_far (then_session p.x p.text b) (new p.x p.text b) ≡ []
    no_lines true = refl
    no_lines false = refl

    got_nothing : (b : Bool) (T : Tables) (E : Type 0) (out : Bool) → IsGotAt v T E out (then_session p.x p.text b).place
    got_nothing true T E out = tt
    got_nothing false T E out = tt

    no_look : (b : Bool) → LookedAt v c (defs_of k.tables) ledger.next b (inside p.text (stage_with_id b ledger.next))
    no_look true = tt
    no_look false = tt

    nothing_yet : (b : Bool) → (script_end v k.tables (then_session p.x p.text b) (new p.x p.text b)).state.tables ≡ k.tables
    unfolding script_from
    nothing_yet true = refl
    nothing_yet false = refl

    owes_drawn : (b : Bool) → Owes v c k st.catalog.defs (then_session p.x p.text b) (new p.x p.text b)
    owes_drawn b = record {
      carried = λ u. inr (ap (λ (T : Tables). defs_of T) (nothing_yet b));
      indexed = λ u. drawn_indexed b;
      looked_first = λ u f. absurd (drawn_first b f);
      dropping = λ f. absurd (drawn_dropping b f);
      own = λ u id key l h i m r. absurd (no_lock (cell_of id) h i m);
      before = λ u id l. subst (AllByRecursion (MadeBefore ledger.next 0)) (drawn_counts b id) (made_before ledger.next 0 (c.versions id) (all_not id l));
      back = drawn_back b;
      explicit = drawn_opened b;
    }
      where
        drawn_indexed : (b : Bool) → IsIndexed c (then_session p.x p.text b).place
        drawn_indexed true = tt
        drawn_indexed false = tt

        drawn_first : (b : Bool) → LookedFirst (then_session p.x p.text b).place → ⊥
        drawn_first true f = f
        drawn_first false f = f

        drawn_dropping : (b : Bool) → IsDropping (then_session p.x p.text b).place (new p.x p.text b) → ⊥
        drawn_dropping true f = f
        drawn_dropping false f = f

        drawn_counts : (b : Bool) (id : ℕ) → c.versions id ≡ counted ledger.next id (then_session p.x p.text b).place (c.versions id)
        drawn_counts true id = refl
        drawn_counts false id = refl

        drawn_back : (b : Bool) → GoesBackTo (then_session p.x p.text b).place 0
        drawn_back true = tt
        drawn_back false = tt

        drawn_opened : (b : Bool) → IsExplicitAt (then_session p.x p.text b).place b
        drawn_opened true = tt
        drawn_opened false = tt

    abbrev Covered : Session → OpenTransaction → Type 0
    Covered z q = (i : ℕ) → KeepsLocks q i → Each (λ l. Each (Holds (c.holds i) q.id) (requests_in v (defs_of k.tables) q.explicit i l.0)) (script_so_far z q)

    turns : Turns v c k st.catalog.defs s t
    turns = record {
      came = λ i h has w. absurd (no_lock i h has (sym w.is ∙ own (λ z q. q.id ≡ ledger.next) refl w.x w.o w.own));
      locks = λ i h has w. absurd (owns_none s p.x p.role free w.x w.o w.own);
      stands = λ z q text w. absurd (owns_none s p.x p.role free z q w);
      script = λ z q w u. own (IsOfItsScript v c k.tables) (its_script p.x p.text explicit) z q w;
      trees = λ z q w u. own (HasItsTrees v c k) (its_trees p.x p.text explicit) z q w;
      cover = own Covered (λ i r. subst (Each (λ l. Each (Holds (c.holds i) o.id) (requests_in v (defs_of k.tables) o.explicit i l.0))) (sym (no_lines explicit)) tt);
      unreleased = λ z q w e. own (λ x r. r.released ≡ []) refl z q w;
      looked = λ z q w e. own (λ x r. LookedAt v c (defs_of k.tables) r.id r.explicit x.place) (no_look explicit) z q w;
      definitions = λ z q n w e. absurd (own (λ x r. EndsAt r.end n → ⊥) (λ f. f) z q w e);
      got = λ z q w l. own (λ x r. IsGotAt v k.tables (HasAlone c r.id) (not (k.has r.id)) x.place) (got_nothing explicit k.tables (HasAlone c ledger.next) (not (k.has ledger.next))) z q w;
      owes = own (Owes v c k st.catalog.defs) (owes_drawn explicit);
    }

    -- ---- the ledger

    of_cell : (g : Digest) → IsOfCell v ledger g → IsOfCell v (drawn ledger) g
    of_cell g e = record { closed = e.closed; is = e.is }

    legal : LedgerIsLegal v (drawn ledger)
    legal = let l = st.ledger_is_legal in record { legal = l.legal; chain = l.chain; digests = each_weaker (IsOfCell v ledger) (IsOfCell v (drawn ledger)) of_cell ledger.issued l.digests; some_size = l.some_size; most_size = l.most_size }

    -- ---- the history

    module _ (j : ℕ) (there : get_elem? seats j ≡ some s) where
      run : Running v.meaning history (st.transcripts_agree.of_seat j) p.x
      run = running v history ledger seats st.transcripts_agree j s p.x there p.role

      abbrev sess : SessionState
      sess = (Rattle.spec_history.specs.Worlds.run first history).at run.number

      no_transaction : (z : Option SessionTransaction) → AreTransactions z p.x None → z ≡ None
      no_transaction None e = refl
      no_transaction (Some d) e = absurd e

      transaction_none : sess.transaction ≡ None
      transaction_none = no_transaction sess.transaction (subst (AreTransactions sess.transaction p.x) free run.now.open_one)

      under_text : (b : Bool) → text_at p.x.place ≡ text_at (then_session p.x p.text b).place
      under_text b = ap text_at p.place

      kind : kind_of (v.meaning.reads p.text) ≡ kind_of (Some p.stmt)
      kind = ap kind_of (v.real.reading p.text ∙ p.is)

      goes : (b : Bool) → AssignsIdFor b p.stmt → GoesFrom v.meaning p.x (then_session p.x p.text b) (began ledger.next b ∷ [])
      goes true e = from_at v.meaning p.x (then_session p.x p.text true) (inside p.text begun) None (began ledger.next true ∷ []) (p.place ∙ ap (λ z. inside p.text z) at_begun) free refl (λ n i f. at_begin v.meaning n p.text ledger.next (kind ∙ ap (λ z. kind_of (Some z)) e))
      goes false e = from_at v.meaning p.x (then_session p.x p.text false) (inside p.text begun) None (began ledger.next false ∷ []) (p.place ∙ ap (λ z. inside p.text z) at_begun) free refl (λ n i f. at_draw v.meaning n p.text ledger.next (subst (λ z. EndsOwn z unfixed) (sym kind) (runs_own p.stmt e)))

      now : IsNow v.meaning (acted sess (assigns_id ledger.next explicit)) y
      now = record { running = run.now.running; transcript = run.now.transcript; under = run.now.under ∙ under_text explicit; open_one = record { id = refl; explicit = refl; script = refl; end = refl; asked = λ e. tt; heard = tt }; so_far = goes_on v.meaning sess.so_far (acted sess (assigns_id ledger.next explicit)).so_far p.x y (began ledger.next explicit ∷ []) refl refl run.now.so_far (goes explicit assigns_id_for) }

      within : (s.least ≤ s.greatest) × (s.greatest ≤ tx_count ledger.items)
      within = (st.transcripts_agree.agree j s there).greatest

      moments_same : (time : ℕ) → In time (moments_of s) → In time (moments_of t)
      moments_same time e = subst (λ (r : Role). In time (flat_map (λ (x : Written). x.moments) s.written ++ session_moments r)) p.role e

      acts : Acts v history run.number (assigns_id ledger.next explicit) ledger (drawn ledger) s t
      acts = record {
        ok = (run.now.running, transaction_none, sym st.transcripts_agree.next);
        items = sym (append-nil ledger.items);
        next = refl;
        issued = sym (append-nil ledger.issued);
        same_database = refl;
        same_size = refl;
        x = p.x;
        y = y;
        was = p.role;
        role = refl;
        same_name = refl;
        now = now;
        same_present = refl;
        seat_database = refl;
        seat_size = refl;
        same_written = refl;
        same_earlier = refl;
        same_least = refl;
        more_marks = omega arith;
        greatest = within.1;
        marks = tt;
        images = sym (append-nil _);
        each_image = λ e. images_stay_each v ledger (drawn ledger) [] p.x.images refl (sym (append-nil ledger.items)) e;
        moments = moments_same;
        times = tt;
        made = tt;
      }

      pub draw_stands : StandsAfter v j history (assigns_id ledger.next explicit ∷ []) (slice_set cells ledger_at (Ledger (drawn ledger))) (slice_set seats j t)
      draw_stands = ledger_after v cells seats st j s t there (drawn ledger) refl run.number legal turns (agrees_then v history ledger (drawn ledger) seats st.transcripts_agree j s t there run.number (assigns_id ledger.next explicit) run.is acts) (agrees_owner _ _ _ _ _ _ _ _ _ _ _ _ _ _)

-- Drawing an id keeps cells and seats standing together.
pub assigns_id_stands : (v : Server) (cells : List Cell) (seats : List SeatState) {history : History} → Stands v history cells seats → (j : ℕ) (s : SeatState) → get_elem? seats j ≡ some s
    → (explicit : Bool) (c d : LedgerCell) (t : SeatState) → get_elem? cells ledger_at ≡ some (Ledger c) → AssignsId v explicit c s d t
    → StandsAfter v j history (assigns_id c.next explicit ∷ []) (slice_set cells ledger_at (Ledger d)) (slice_set seats j t)
assigns_id_stands v cells seats {history} st j s there explicit c d t here = subst (λ (e : LedgerCell). AssignsId v explicit e s d t → StandsAfter v j history (assigns_id e.next explicit ∷ []) (slice_set cells ledger_at (Ledger d)) (slice_set seats j t))
    (sym (the_ledger cells st.catalog st.ledger c st.are_cells here)) from
  where
    from : AssignsId v explicit st.ledger s d t → StandsAfter v j history (assigns_id st.ledger.next explicit ∷ []) (slice_set cells ledger_at (Ledger d)) (slice_set seats j t)
    from w = subst₂ (λ (l : LedgerCell) (u : SeatState). StandsAfter v j history (assigns_id st.ledger.next explicit ∷ []) (slice_set cells ledger_at (Ledger l)) (slice_set seats j u)) (sym w.cell) (sym w.seat) (draw_stands v cells seats st s explicit w.stands w.none_open w.at_begin w.assigns_id_for j there)
