-- The visits with which the digest statement is answered: a digest is issued, or there is no block.
use Rattle.std.proofs.Common.{◌≡◌, ℕ, zero, suc, ◌+◌, ◌≤◌, Bool, true, false, List, [], ◌∷◌, ◌++◌, flat_map, Option, Some, None, slice_set, refl, sym, ap, ◌∙◌, subst, subst₂, inl, ⊎_elim, append-nil, leb-true, leb-false, arith, append_assoc}
use Rattle.std.specs.Prelude.{if◌then◌else◌, nat_le}
use mathlib.Core.Option.{some}
use lib.ListN.{get_elem?}
use Rattle.sql_value.specs.declared.refusal.Refusal.TheVariants.{NothingCommitted}
use Rattle.sql_types.specs.declared.journal.JournalItem.{JournalItem}
use Rattle.sql_types.specs.declared.journal.JournalItem.TheVariants.{Close}
use Rattle.sql_types.specs.declared.reply.Reply.TheVariants as reply
use Rattle.spec_model.specs.Journals.{tx_count, closed}
use Rattle.spec_history.specs.Facts.{no_digest, digest}
use Rattle.spec_history.specs.Transcripts.{issue, kind_of}
use Rattle.sql_types.specs.declared.statement.Stmt.TheVariants as stmt
use Rattle.spec_history.specs.Sessions.{acted}
use Rattle.spec_protocol.specs.Seats.{begun}
use Rattle.law_protocol_steps.proofs.TranscriptActs.{goes_on}
use Rattle.law_protocol_steps.proofs.TranscriptProgress.{from_at, at_lack, at_digest}
use Rattle.spec_history.specs.Lists.{Text, In}
use Rattle.spec_history.specs.Journals.{blocks}
use Rattle.spec_history.specs.Digests.{Digest, IsDigest}
use Rattle.spec_history.specs.Acts.{issues, lacks, closes}
use Rattle.spec_history.specs.Sessions.{SessionTransaction, SessionState}
use Rattle.spec_history.specs.Worlds.{first, run}
use Rattle.spec_history.proofs.Settles.{in_append, in_left, in_right}
use Rattle.spec_history.proofs.Trace.{each_append, each_weaker, count_append}
use Rattle.spec_protocol.specs.Server.{Server}
use Rattle.spec_protocol.specs.Cells.{LedgerCell, Cell, Ledger, ledger_at, pending_in, blocks_in}
use Rattle.spec_protocol.specs.Contents.{Contents, Known, contents, known}
use Rattle.spec_protocol.specs.Seats.{answering, inside, OpenTransaction, Session, Written, Role, SeatState}
use Rattle.spec_protocol.specs.LedgerIsLegal.{IsOfCell, LedgerIsLegal}
use Rattle.spec_protocol.specs.LedgerVisits.{closed_by, all_closed, with_digest, Issues, LacksBlock, next_block}
use Rattle.spec_protocol.specs.Moves.{at_place, at_moment, sits, marking, InStatement}
use Rattle.spec_protocol.specs.OpenOnes.{text_at}
use Rattle.spec_protocol.specs.Parts.{AreTransactions}
use Rattle.spec_protocol.specs.TranscriptsAgree.{session_moments, moments_of}
use Rattle.spec_protocol.specs.StandTogether.{History, Stands, StandsAfter}
use Rattle.law_protocol_steps.proofs.Closes.{close_stands, next_within}
use Rattle.law_protocol_steps.proofs.Ids.{Running, running}
use Rattle.law_protocol_steps.proofs.LedgerVisit.{the_ledger, ledger_after}
use Rattle.law_protocol_steps.proofs.OneMore.{Acts, agrees_then, agrees_owner, images_stay_each}
use Rattle.law_protocol_steps.proofs.OpenSeats.{Own, owns_none}
use Rattle.spec_protocol.proofs.Places.{set_here, set_same, set_again}
use Rattle.law_protocol_steps.proofs.PlainAct.{plain_act, plain_act_owner}
use Rattle.law_protocol_steps.proofs.Turns.{Turns}
use Rattle.spec_model.specs.Catalog.{Defs}
use Rattle.spec_protocol.specs.ActsOf.{closings}
use Rattle.spec_protocol.proofs.LedgerNumbers.{blocks_are, pending_are, pending_after}

-- a seat that has no open transaction, before and then, owes nothing
pub no_turn : (v : Server) (c : Contents) (k : Known) (defs : Defs) (s t : SeatState) → ((z : Session) (u : OpenTransaction) → Own s z u → ⊥) → ((z : Session) (u : OpenTransaction) → Own t z u → ⊥) → Turns v c k defs s t
no_turn v c k defs s t free free_then = record {
  came = λ i h e w. absurd (free_then w.x w.o w.own);
  locks = λ i h e w. absurd (free w.x w.o w.own);
  stands = λ z u text w. absurd (free z u w);
  script = λ z u w e. absurd (free_then z u w);
  trees = λ z u w e. absurd (free_then z u w);
  cover = λ z u w. absurd (free_then z u w);
  unreleased = λ z u w e. absurd (free_then z u w);
  looked = λ z u w e. absurd (free_then z u w);
  definitions = λ z u n w. absurd (free_then z u w);
  got = λ z u w. absurd (free_then z u w);
  owes = λ z u w. absurd (free_then z u w);
}

-- ---- all that is pending is closed

pub record AllClosed (v : Server) (history : History) (cells : List Cell) (seats : List SeatState) (c d : LedgerCell) : Type 0 where
  pub stands : Stands v history (slice_set cells ledger_at (Ledger d)) seats
  pub none : pending_in d ≡ 0
  pub count : tx_count d.items ≡ tx_count c.items
  pub database : d.database ≡ c.database

module _ (v : Server) (seats : List SeatState) where
  as_they_are : (cells : List Cell) {history : History} (st : Stands v history cells seats) → pending_in st.ledger ≡ 0 → AllClosed v history cells seats st.ledger st.ledger
  as_they_are cells {history} st e = record { stands = subst (λ (cs : List Cell). Stands v history cs seats) (sym (set_same cells ledger_at (Ledger st.ledger) st.are_cells.has_ledger)) st; none = e; count = refl; database = refl }

  longer_none : {history : History} {cells : List Cell} {c d : LedgerCell} → AllClosed v history cells seats c d → AllClosed v (history ++ []) cells seats c d
  longer_none {history} {cells} {c} {d} w = subst (λ (h : History). AllClosed v h cells seats c d) (sym (append-nil history)) w

  closings_stand : (n : ℕ) (cells : List Cell) {history : History} (st : Stands v history cells seats) → pending_in st.ledger ≤ n → AllClosed v (history ++ closings v n st.ledger) cells seats st.ledger (all_closed v.hash n st.ledger)
  closings_stand zero cells {history} st l = longer_none (as_they_are cells st (omega arith))
  closings_stand (suc n) cells {history} st l = by_pending (nat_le (pending_in st.ledger) 0) refl (λ h cs su m. closings_stand n cs su m)
    where
      after_one : (1 ≤ pending_in st.ledger) → ((h : History) (cs : List Cell) (su : Stands v h cs seats) → pending_in su.ledger ≤ n → AllClosed v (h ++ closings v n su.ledger) cs seats su.ledger (all_closed v.hash n su.ledger)) → AllClosed v (history ++ (closes (next_block st.ledger) ∷ closings v n (closed_by v.hash (next_block st.ledger) st.ledger))) cells seats st.ledger (all_closed v.hash n (closed_by v.hash (next_block st.ledger) st.ledger))
      after_one least rec =
          let w = next_within st.ledger st.ledger_is_legal.some_size least in
          let c1 : LedgerCell = closed_by v.hash (next_block st.ledger) st.ledger in
          let cells1 : List Cell = slice_set cells ledger_at (Ledger c1) in
          let st1 : Stands v (history ++ closes (next_block st.ledger) ∷ []) cells1 seats = close_stands v cells seats st (next_block st.ledger) w.0 w.1 w.2 in
          let is : c1 ≡ st1.ledger = the_ledger cells1 st1.catalog st1.ledger c1 st1.are_cells (set_here cells ledger_at (Ledger c1) (Ledger st.ledger) st.are_cells.has_ledger) in
          let few : pending_in st1.ledger ≤ n = (let p : pending_in c1 ≡ pending_in st1.ledger = ap (λ (x : LedgerCell). pending_in x) is in let w0 = w.0 in let after = pending_after v (next_block st.ledger) st.ledger in omega arith) in
          let r = rec _ cells1 st1 few in
          let e : all_closed v.hash n st1.ledger ≡ all_closed v.hash n c1 = ap (all_closed v.hash n) (sym is) in record {
            stands = subst₂ (λ (h : History) (cs : List Cell). Stands v h cs seats) (append_assoc history (closes (next_block st.ledger) ∷ []) (closings v n c1)) (set_again cells ledger_at (Ledger c1) (Ledger (all_closed v.hash n c1)))
                (subst₂ (λ (h : History) (x : LedgerCell). Stands v h (slice_set cells1 ledger_at (Ledger x)) seats) (ap (λ (x : LedgerCell). (history ++ closes (next_block st.ledger) ∷ []) ++ closings v n x) (sym is)) e r.stands);
            none = subst (λ (x : LedgerCell). pending_in x ≡ 0) e r.none;
            count = (ap (λ (x : LedgerCell). tx_count x.items) (sym e)) ∙ r.count ∙ ap (λ (x : LedgerCell). tx_count x.items) (sym is) ∙ count_close st.ledger.items (next_block st.ledger);
            database = ap (λ (x : LedgerCell). x.database) (sym e) ∙ r.database ∙ ap (λ (x : LedgerCell). x.database) (sym is);
          }
        where
          count_close : (J : List JournalItem) (k : ℕ) → tx_count (J ++ Close k ∷ []) ≡ tx_count J
          count_close J k = omega (arith, count_append J (Close k ∷ []))

      by_pending : (b : Bool) → nat_le (pending_in st.ledger) 0 ≡ b → ((h : History) (cs : List Cell) (su : Stands v h cs seats) → pending_in su.ledger ≤ n → AllClosed v (h ++ closings v n su.ledger) cs seats su.ledger (all_closed v.hash n su.ledger))
          → AllClosed v (history ++ (if b then [] else closes (next_block st.ledger) ∷ closings v n (closed_by v.hash (next_block st.ledger) st.ledger))) cells seats st.ledger (if b then st.ledger else all_closed v.hash n (closed_by v.hash (next_block st.ledger) st.ledger))
      by_pending true e rec = longer_none (as_they_are cells st (omega (arith, leb-true (pending_in st.ledger) 0 e)))
      by_pending false e rec = after_one (omega (arith, leb-false (pending_in st.ledger) 0 e)) rec

-- ---- a session without a transaction

pub same_none : (z : Option SessionTransaction) (x y : Session) → AreTransactions z x None → AreTransactions z y None
same_none None x y e = tt
same_none (Some d) x y e = absurd e

module _ (v : Server) (cells : List Cell) (seats : List SeatState) {history : History} (st : Stands v history cells seats) (j : ℕ) (s : SeatState) (there : get_elem? seats j ≡ some s) (p : InStatement v s) (free : p.x.open_one ≡ None) (at_begun : p.stage ≡ begun) (asks : p.stmt ≡ stmt.Digest) where
  abbrev ledger : LedgerCell
  ledger = st.ledger

  r : Running v.meaning history (st.transcripts_agree.of_seat j) p.x
  r = running v history ledger seats st.transcripts_agree j s p.x there p.role

  abbrev sess : SessionState
  sess = (run first history).at r.number

  no_transaction : AreTransactions sess.transaction p.x None
  no_transaction = subst (AreTransactions sess.transaction p.x) free r.now.open_one

  was_greatest : (s.least ≤ s.greatest) × (s.greatest ≤ tx_count ledger.items)
  was_greatest = (st.transcripts_agree.agree j s there).greatest

  place : p.x.place ≡ inside p.text begun
  place = p.place ∙ ap (λ z. inside p.text z) at_begun

  kind : kind_of (v.meaning.reads p.text) ≡ issue
  kind = ap kind_of (v.real.reading p.text ∙ p.is) ∙ ap (λ z. kind_of (Some z)) asks

  -- there is no block
  module _ (none : tx_count ledger.items ≡ 0) where
    abbrev y : Session
    y = at_place None (inside p.text (answering (reply.Refused NothingCommitted) None)) p.x

    pub lack_stands : StandsAfter v j history (lacks ∷ []) (slice_set cells ledger_at (Ledger ledger)) (slice_set seats j (sits s y))
    lack_stands = ledger_after v cells seats st j s (sits s y) there ledger refl r.number st.ledger_is_legal
        (no_turn v (contents cells) (known v.reads ledger.items) st.catalog.defs s (sits s y) (owns_none s p.x p.role free) (owns_none (sits s y) y refl refl))
        (plain_act v ledger seats history st.transcripts_agree j s there p.x y p.role r.number r.is lacks s.greatest (omega arith) was_greatest.1 tt
        (r.now.running, ap tx_count st.transcripts_agree.items ∙ none)
        (record { running = r.now.running; transcript = r.now.transcript; under = r.now.under ∙ ap text_at p.place; open_one = same_none sess.transaction p.x y no_transaction; so_far = goes_on v.meaning sess.so_far (acted sess lacks).so_far p.x y (no_digest ∷ []) refl refl r.now.so_far (from_at v.meaning p.x y (inside p.text begun) None (no_digest ∷ []) place free refl (λ n i f. at_lack v.meaning n p.text kind)) })
        (record { items = refl; ids = refl; issued = refl; images = refl }) (record { images = refl; moments = refl; earlier = refl })) (plain_act_owner _ _ _ _ _ _ _ _ _ _ _ _ _ _ _ _ _ _ _ _ _ _)

  -- a digest is issued, where nothing is pending
  module _ (moment mark : ℕ) (g : Digest) (nothing : pending_in ledger ≡ 0) (newest : blocks_in ledger ≡ g.block + 1) (is : IsDigest v.meaning ledger.database ledger.items g) (made : g.made ≡ moment) (counts : mark ≡ tx_count ledger.items) where
    abbrev z : Session
    z = at_moment moment (at_place None (inside p.text (answering (reply.Digest g.block g.hash) None)) p.x)

    abbrev t : SeatState
    t = marking mark (sits s z)

    abbrev c1 : LedgerCell
    c1 = with_digest g ledger

    of_cell : (d : Digest) → IsOfCell v ledger d → IsOfCell v c1 d
    of_cell d e = record { closed = e.closed; is = e.is }

    legal : LedgerIsLegal v c1
    legal = let l = st.ledger_is_legal in record {
      legal = l.legal;
      chain = l.chain;
      digests = each_append (IsOfCell v c1) ledger.issued (g ∷ []) (each_weaker (IsOfCell v ledger) (IsOfCell v c1) of_cell ledger.issued l.digests) (record { closed = (let b = blocks_are v ledger l in omega arith); is = is }, tt);
      some_size = l.some_size;
      most_size = l.most_size;
    }

    kept_moments : (i : ℕ) → In i (moments_of s) → In i (moments_of t)
    kept_moments i e = ⊎_elim
        (λ (a : In i (flat_map (λ (w : Written). w.moments) s.written)). in_left i (flat_map (λ (w : Written). w.moments) s.written) (p.x.moments ++ moment ∷ []) a)
        (λ (a : In i p.x.moments). in_right i (flat_map (λ (w : Written). w.moments) s.written) (p.x.moments ++ moment ∷ []) (in_left i p.x.moments (moment ∷ []) a))
        (in_append i (flat_map (λ (w : Written). w.moments) s.written) p.x.moments (subst (λ (r : Role). In i (flat_map (λ (w : Written). w.moments) s.written ++ session_moments r)) p.role e))

    acts : Acts v history r.number (issues g mark) ledger c1 s t
    acts = record {
      ok = record {
        running = r.now.running;
        last = ap blocks st.transcripts_agree.items ∙ sym (blocks_are v ledger st.ledger_is_legal) ∙ newest;
        all = ap closed st.transcripts_agree.items ∙ (let l = pending_are v ledger st.ledger_is_legal in omega arith) ∙ ap tx_count (sym st.transcripts_agree.items);
        is = subst (λ (J : List JournalItem). IsDigest v.meaning ledger.database J g) (sym st.transcripts_agree.items) is;
        counts = counts ∙ ap tx_count (sym st.transcripts_agree.items);
      };
      items = sym (append-nil ledger.items);
      next = omega arith;
      issued = refl;
      same_database = refl;
      same_size = refl;
      x = p.x;
      y = z;
      was = p.role;
      role = refl;
      same_name = refl;
      now = record { running = r.now.running; transcript = r.now.transcript; under = r.now.under ∙ ap text_at p.place; open_one = same_none sess.transaction p.x z no_transaction; so_far = goes_on v.meaning sess.so_far (acted sess (issues g mark)).so_far p.x z (digest g.block g.hash ∷ []) refl refl r.now.so_far (from_at v.meaning p.x z (inside p.text begun) None (digest g.block g.hash ∷ []) place free refl (λ n i f. at_digest v.meaning n p.text g.block g.hash kind)) };
      same_present = refl;
      seat_database = refl;
      seat_size = refl;
      same_written = refl;
      same_earlier = refl;
      same_least = refl;
      more_marks = omega arith;
      greatest = let l = was_greatest.1 in omega arith;
      marks = ((let l = was_greatest.0 in let m = was_greatest.1 in omega arith, omega arith), tt);
      images = sym (append-nil _);
      each_image = λ e. images_stay_each v ledger c1 [] p.x.images refl (sym (append-nil ledger.items)) e;
      moments = kept_moments;
      times = tt;
      made = (in_right g.made (flat_map (λ (w : Written). w.moments) s.written) (p.x.moments ++ moment ∷ []) (in_right g.made p.x.moments (moment ∷ []) (inl (sym made))), tt);
    }

    pub digest_stands : StandsAfter v j history (issues g mark ∷ []) (slice_set cells ledger_at (Ledger c1)) (slice_set seats j t)
    digest_stands = ledger_after v cells seats st j s t there c1 refl r.number legal
        (no_turn v (contents cells) (known v.reads ledger.items) st.catalog.defs s t (owns_none s p.x p.role free) (owns_none t z refl refl))
        (agrees_then v history ledger c1 seats st.transcripts_agree j s t there r.number (issues g mark) r.is acts) (agrees_owner _ _ _ _ _ _ _ _ _ _ _ _ _ _)

-- ---- the two visits

pub lacks_stand : (v : Server) (cells : List Cell) (seats : List SeatState) {history : History} → Stands v history cells seats → (j : ℕ) (s : SeatState) → get_elem? seats j ≡ some s
    → (c d : LedgerCell) (t : SeatState) → get_elem? cells ledger_at ≡ some (Ledger c) → LacksBlock v c s t → d ≡ c
    → StandsAfter v j history (lacks ∷ []) (slice_set cells ledger_at (Ledger d)) (slice_set seats j t)
lacks_stand v cells seats {history} st j s there c d t here visit same = from (the_ledger cells st.catalog st.ledger c st.are_cells here) visit
  where
    from : c ≡ st.ledger → LacksBlock v c s t → StandsAfter v j history (lacks ∷ []) (slice_set cells ledger_at (Ledger d)) (slice_set seats j t)
    from is w = subst₂ (λ (e : LedgerCell) (u : SeatState). StandsAfter v j history (lacks ∷ []) (slice_set cells ledger_at (Ledger e)) (slice_set seats j u)) (sym (same ∙ is)) (sym w.seat)
        (lack_stands v cells seats st j s there w.stands w.none_open w.at_begin w.asks (ap (λ (e : LedgerCell). tx_count e.items) (sym is) ∙ w.none))

module _ (v : Server) (cells : List Cell) (seats : List SeatState) {history : History} (st : Stands v history cells seats) where
  closing_of : AllClosed v (history ++ closings v (pending_in st.ledger) st.ledger) cells seats st.ledger (all_closed v.hash (pending_in st.ledger) st.ledger)
  closing_of = closings_stand v seats (pending_in st.ledger) cells st (omega arith)

  abbrev all_of : LedgerCell
  all_of = all_closed v.hash (pending_in st.ledger) st.ledger

  abbrev cells1_of : List Cell
  cells1_of = slice_set cells ledger_at (Ledger all_of)

  same_of : all_of ≡ closing_of.stands.ledger
  same_of = the_ledger cells1_of closing_of.stands.catalog closing_of.stands.ledger all_of closing_of.stands.are_cells (set_here cells ledger_at (Ledger all_of) (Ledger st.ledger) st.are_cells.has_ledger)

pub issues_stand : (v : Server) (cells : List Cell) (seats : List SeatState) {history : History} → Stands v history cells seats → (j : ℕ) (s : SeatState) → get_elem? seats j ≡ some s
    → (moment : ℕ) (c d : LedgerCell) (t : SeatState) → get_elem? cells ledger_at ≡ some (Ledger c) → (w : Issues v moment c s d t)
    → StandsAfter v j (history ++ closings v (pending_in c) c) (issues w.digest (tx_count c.items) ∷ []) (slice_set cells ledger_at (Ledger d)) (slice_set seats j t)
issues_stand v cells seats {history} st j s there moment c d t here = subst
    (λ (e : LedgerCell). (w : Issues v moment e s d t) → StandsAfter v j (history ++ closings v (pending_in e) e) (issues w.digest (tx_count e.items) ∷ []) (slice_set cells ledger_at (Ledger d)) (slice_set seats j t))
    (sym (the_ledger cells st.catalog st.ledger c st.are_cells here)) from
  where
    from : (w : Issues v moment st.ledger s d t) → StandsAfter v j (history ++ closings v (pending_in st.ledger) st.ledger) (issues w.digest (tx_count st.ledger.items) ∷ []) (slice_set cells ledger_at (Ledger d)) (slice_set seats j t)
    from w = subst₂ (λ (e : LedgerCell) (u : SeatState). StandsAfter v j (history ++ closings v (pending_in st.ledger) st.ledger) (issues w.digest (tx_count st.ledger.items) ∷ []) (slice_set cells ledger_at (Ledger e)) (slice_set seats j u)) (sym w.cell) (sym w.seat)
        (subst (λ (cs : List Cell). StandsAfter v j (history ++ closings v (pending_in st.ledger) st.ledger) (issues w.digest (tx_count st.ledger.items) ∷ []) cs (slice_set seats j (marking (tx_count st.ledger.items) (sits s (at_moment moment (at_place None (inside w.stands.text (answering (reply.Digest w.digest.block w.digest.hash) None)) w.stands.x))))))
        (set_again cells ledger_at (Ledger (all_of v cells seats st)) (Ledger (with_digest w.digest (all_of v cells seats st))))
        (subst (λ (e : LedgerCell). StandsAfter v j (history ++ closings v (pending_in st.ledger) st.ledger) (issues w.digest (tx_count st.ledger.items) ∷ []) (slice_set (cells1_of v cells seats st) ledger_at (Ledger (with_digest w.digest e))) (slice_set seats j (marking (tx_count st.ledger.items) (sits s (at_moment moment (at_place None (inside w.stands.text (answering (reply.Digest w.digest.block w.digest.hash) None)) w.stands.x)))))) (sym (same_of v cells seats st))
        (digest_stands v (cells1_of v cells seats st) seats (closing_of v cells seats st).stands j s there w.stands w.none_open w.at_begin w.asks moment (tx_count st.ledger.items) w.digest
        (ap (λ (e : LedgerCell). pending_in e) (sym (same_of v cells seats st)) ∙ (closing_of v cells seats st).none)
        (ap (λ (e : LedgerCell). blocks_in e) (sym (same_of v cells seats st)) ∙ w.newest)
        (subst₂ (λ (db : Text) (J : List JournalItem). IsDigest v.meaning db J w.digest) (sym (closing_of v cells seats st).database ∙ ap (λ (e : LedgerCell). e.database) (same_of v cells seats st)) (ap (λ (e : LedgerCell). e.items) (same_of v cells seats st)) w.is)
        w.made
        (sym (closing_of v cells seats st).count ∙ ap (λ (e : LedgerCell). tx_count e.items) (same_of v cells seats st)))))
