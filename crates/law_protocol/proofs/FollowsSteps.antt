-- Which statements a seat takes up in a step, and in which order sessions begin.
use Rattle.std.proofs.Common.{◌≡◌, ◌≢◌, ℕ, ◌+◌, ◌<◌, true, List, [], ◌∷◌, ◌++◌, map, Some, refl, sym, ap, ap₂, ◌∙◌, subst, slice_set, ⊎_elim, inl, arith}
use Rattle.std.proofs.lemmas.Bool.{ne_eqb}
use mathlib.Core.Option.{some}
use lib.ListN.{get_elem?}
use Rattle.spec_history.specs.Acts.{SessionAct, starts, takes, commits, issues, Act, by, closes}
use Rattle.spec_history.specs.Guards.{Good}
use Rattle.spec_history.specs.Histories.{line_by}
use Rattle.spec_history.specs.Inputs.{InputLine}
use Rattle.spec_history.specs.Lists.{Text, Each, In}
use Rattle.spec_history.specs.Sessions.{SessionState, runs, gone, unborn, acted}
use Rattle.spec_history.specs.Transactions.{listed}
use Rattle.spec_history.specs.Transcripts.{Transcript}
use Rattle.spec_history.specs.Worlds.{World, first, run, step}
use Rattle.spec_history.proofs.Cuts.{good_append, run_append}
use Rattle.spec_history.proofs.Settles.{in_append, in_right}
use Rattle.spec_history.proofs.Trace.{each_weaker}
use Rattle.spec_model.specs.Journals.{tx_count}
use Rattle.spec_protocol.specs.ActsOf.{alone_acts}
use Rattle.spec_protocol.specs.Alone.{Alone}
use Rattle.spec_protocol.specs.Alone as alone
use Rattle.spec_protocol.specs.Cells.{Cell, Catalog, Ledger, Rows, pending_in}
use Rattle.spec_protocol.specs.AnonymousActs.{AnonymousAct, did, anonymous_act, visit_anonymous_acts}
use Rattle.spec_protocol.specs.Follows.{alone_lines, BeginsNext, Follows}
use Rattle.spec_protocol.specs.OpenOnes.{lines_at}
use Rattle.spec_protocol.specs.Seats.{Session, SeatState, session}
use Rattle.spec_protocol.specs.Server.{Server}
use Rattle.spec_protocol.specs.StandTogether.{History, IsOfSeat, Stands, StandsDone}
use Rattle.spec_protocol.specs.TranscriptsAgree.{TranscriptsAgree}
use Rattle.spec_protocol.specs.Visits as visit
use Rattle.spec_protocol.specs.Visits.{Visit, Happens}
use Rattle.law_protocol.proofs.Decides.{done_first, nothing_more}
use Rattle.law_protocol_steps.proofs.AnonymousActs.{at_after}
use Rattle.law_protocol_steps.proofs.Ids.{each_in, running}
use Rattle.law_protocol_ledger.proofs.NoneWanting.{listed_is, past_over}
use Rattle.law_protocol.proofs.OneAtATime.{IsPlain}
use Rattle.law_protocol.proofs.OneSeat.{counted}
use Rattle.spec_protocol.proofs.Places.{set_here}
use Rattle.law_protocol.proofs.SeatNames.{has_begun}
use Rattle.law_protocol.proofs.StepsAlone.{checked_plain, closings_plain, done_plain, end_plain, failed_in_plain, says_plain, stopped_plain}

-- ---- where no statement is taken up and no session begins

abbrev Neither : AnonymousAct → Type 0
Neither (did (starts name)) = ⊥
Neither (did (takes text)) = ⊥
Neither _ = Unit {0}

neither_one : (w : World) (n : ℕ) (a : SessionAct) → Neither (did a) → (line_by (w.at n) a ≡ []) × BeginsNext w n a
neither_one w n (starts name) p = absurd p
neither_one w n (takes text) p = absurd p
neither_one w n a p = (refl, tt)

neither_follows : (w : World) (es : List Act) → Each Neither (map anonymous_act es) → Follows w es []
neither_follows w [] p = record { lines_are = refl; in_turn = tt }
neither_follows w (by n a ∷ es) p = let r = neither_follows (step w (by n a)) es p.1 in let o = neither_one w n a p.0 in
    record { lines_are = ap₂ (λ (xs ys : List InputLine). xs ++ ys) o.0 r.lines_are; in_turn = (o.1, r.in_turn) }
neither_follows w (closes k ∷ es) p = let r = neither_follows (step w (closes k)) es p.1 in record { lines_are = r.lines_are; in_turn = r.in_turn }

plain_neither : (d : AnonymousAct) → IsPlain d → Neither d
plain_neither (did (starts name)) p = absurd p
plain_neither (did (takes text)) p = absurd p
plain_neither d p = tt

module _ (v : Server) {history : History} {cells : List Cell} {seats : List SeatState} (st : Stands v history cells seats) (j : ℕ) (s : SeatState) (there : get_elem? seats j ≡ some s) where
  abbrev W : World
  W = run first history

  module _ {anonymous_acts : List AnonymousAct} {then_cells : List Cell} (t : SeatState) (d : StandsDone v j history anonymous_acts then_cells (slice_set seats j t)) where
    abbrev then_history : History
    then_history = history ++ d.events

    abbrev later : TranscriptsAgree v then_history d.stands.ledger (slice_set seats j t)
    later = d.stands.transcripts_agree

    good : Good v.meaning d.stands.ledger.database W d.events
    good = (good_append v.meaning d.stands.ledger.database first history d.events later.good).1

    neither : Each Neither anonymous_acts → Follows W d.events []
    neither p = neither_follows W d.events (subst (Each Neither) (sym d.are) p)

    module _ (n : ℕ) (a : SessionAct) (is : d.events ≡ by n a ∷ []) where
      inside : In (by n a) d.events
      inside = subst (In (by n a)) (sym is) (inl refl)

      below : n < later.count
      below = counted v d.stands n a (in_right (by n a) history d.events inside)

      then_at : (m : ℕ) → (run first then_history).at m ≡ (step W (by n a)).at m
      then_at m = ap (λ (w : World). w.at m) (run_append first history d.events) ∙ ap (λ (es : List Act). (run W es).at m) is

      then_mine : (run first then_history).at n ≡ acted (W.at n) a
      then_mine = then_at n ∙ at_after W n a

      then_else : (m : ℕ) → m ≢ n → (run first then_history).at m ≡ W.at m
      then_else m ne = then_at m ∙ (rw (ne_eqb m n ne) refl)

      -- each session of a lower number has begun
      lower : (m : ℕ) → m < n → (W.at m).phase ≢ unborn
      lower m l e = has_begun v then_history d.stands.ledger (slice_set seats j t) later m (let k = below in omega (arith, l, k)) (ap (λ (z : SessionState). z.phase) (then_else m (λ same. absurd (omega (arith, l, same)))) ∙ e)

      -- who runs at the end is the seat's session
      its_name : (y : Session) → t.role ≡ session y → (acted (W.at n) a).phase ≡ runs → (acted (W.at n) a).name ≡ y.transcript.session
      its_name y role phase = ⊎_elim
          (λ (p : In n (later.of_seat (later.owner n)).past). let f : gone ≡ runs = sym (past_over then_history (later.of_seat (later.owner n)).past (later.all n below).0.written n (later.agree (later.owner n) (later.all n below).0 (later.all n below).1).sessions.past p) ∙ ap (λ (z : SessionState). z.phase) then_mine ∙ phase in cc)
          (λ (p : In n (listed (later.of_seat (later.owner n)).now)). named (ap (λ (u : ℕ). (later.of_seat u).now) (sym owner) ∙ listed_is n (later.of_seat (later.owner n)).now p))
          (in_append n (later.of_seat (later.owner n)).past (listed (later.of_seat (later.owner n)).now) (later.all n below).2)
        where
          owner : later.owner n ≡ j
          owner = each_in (IsOfSeat later.owner j) d.events (by n a) d.mine inside

          named : (later.of_seat j).now ≡ Some n → (acted (W.at n) a).name ≡ y.transcript.session
          named now = let r = running v then_history d.stands.ledger (slice_set seats j t) later j t y (set_here seats j t s there) role in
              let f : n ≡ r.number = (let g : Some n ≡ Some r.number = sym now ∙ r.is in cc) in
              ap (λ (z : SessionState). z.name) (sym then_mine) ∙ ap (λ (k : ℕ). ((run first then_history).at k).name) f ∙ ap (λ (z : Transcript). z.session) r.now.transcript

  pub alone_follows : {then_cells : List Cell} (t : SeatState) (how : Alone v s t) (d : StandsDone v j history (map did (alone_acts how)) then_cells (slice_set seats j t)) → Follows W d.events (alone_lines how)
  alone_follows t (alone.begins name present role) d = let f = done_first d.events (starts name) [] d.are in let is = f.is ∙ ap (λ (es : List Act). by f.session (starts name) ∷ es) (nothing_more f.rest f.are) in
      subst (λ (es : List Act). Follows W es []) (sym is) (record { lines_are = refl; in_turn = (lower t d f.session (starts name) is, tt) })
  alone_follows t (alone.takes x text at goes) d = let f = done_first d.events (takes text) [] d.are in let is = f.is ∙ ap (λ (es : List Act). by f.session (takes text) ∷ es) (nothing_more f.rest f.are) in
      let g = subst (Good v.meaning d.stands.ledger.database W) is (good t d) in
      subst (λ (es : List Act). Follows W es (record { session = x.transcript.session; text = text } ∷ [])) (sym is)
      (record { lines_are = ap (λ (name : Text). record { session = name; text = text } ∷ []) (its_name t d f.session (takes text) is _ refl g.0.0); in_turn = (tt, tt) })
  alone_follows t (alone.builds present role) d = neither t d tt
  alone_follows t (alone.rests role) d = neither t d tt
  alone_follows t (alone.leaves x o at one open_end explicit) d = neither t d tt
  alone_follows t (alone.stops x at free) d = neither t d (tt, tt)
  alone_follows t (alone.refused_in x o text e at one open_end explicit is) d = neither t d (tt, tt)
  alone_follows t (alone.refused_out x text e at free is) d = neither t d tt
  alone_follows t (alone.refused_checked o at named fresh e stage is) d = neither t d (each_weaker IsPlain Neither plain_neither _ (checked_plain o.explicit at.stands.text _))
  alone_follows t (alone.no_memory x text at open_end) d = neither t d (each_weaker IsPlain Neither plain_neither _ (failed_in_plain v.meaning x.open_one text))
  alone_follows t (alone.no_memory_then o at named fresh stage) d = neither t d (tt, tt)
  alone_follows t (alone.saves o at name stage explicit is few) d = neither t d (tt, tt)
  alone_follows t (alone.has_too_many o at name stage explicit is full) d = neither t d (tt, tt)
  alone_follows t (alone.goes_back o at name f fs stage explicit is there_is) d = neither t d tt
  alone_follows t (alone.has_no_savepoint o at name stage explicit is never) d = neither t d (tt, tt)
  alone_follows t (alone.is_back o at seq stage) d = neither t d (tt, tt)
  alone_follows t (alone.answers x text r at goes) d = neither t d (tt, tt)
  alone_follows t (alone.answers_end x o text r def line at one is released) d = neither t d (tt, (tt, tt))
  alone_follows t (alone.has_left x o line at one is released) d = neither t d (tt, (tt, (tt, tt)))

-- ---- visits

pub visit_plain : (v : Server) (out : List (ℕ × Cell)) (how : Visit) (a : Cell) (s : SeatState) (b : Cell) (t : SeatState) (h : Happens v out how a s b t) → Each IsPlain (visit_anonymous_acts v out how a s b t h)
visit_plain v out (visit.assign_id explicit) (Ledger a) s (Ledger b) t h = (tt, tt)
visit_plain v out visit.look (Catalog a) s (Catalog b) t h = (tt, tt)
visit_plain v out visit.read_system (Catalog a) s (Catalog b) t h = (tt, done_plain h.o.explicit h.at.stands.text true _)
visit_plain v out visit.create_table (Catalog a) s (Catalog b) t h = (tt, tt)
visit_plain v out visit.create_index (Catalog a) s (Catalog b) t h = (tt, tt)
visit_plain v out visit.alter_table (Catalog a) s (Catalog b) t h = (tt, tt)
visit_plain v out visit.refuse_create (Catalog a) s (Catalog b) t h = (tt, tt)
visit_plain v out visit.stop_in_catalog (Catalog a) s (Catalog b) t h = stopped_plain h.0.stopped h.0.at.stands.text _ (failed_in_plain v.meaning (Some h.0.o) h.0.at.stands.text)
visit_plain v out visit.change (Rows a) s (Rows b) t h = done_plain h.o.explicit h.at.at.stands.text true _
visit_plain v out visit.refuse_change (Rows a) s (Rows b) t h = done_plain h.o.explicit h.at.at.stands.text true _
visit_plain v out visit.read (Rows a) s (Rows b) t h = done_plain h.o.explicit h.at.at.stands.text true _
visit_plain v out visit.stop_in_table (Rows a) s (Rows b) t h = stopped_plain h.0.stopped h.0.at.at.stands.text _ (tt, tt)
visit_plain v out visit.add_index (Rows a) s (Rows b) t h = tt
visit_plain v out visit.undo_to (Rows a) s (Rows b) t h = tt
visit_plain v out (visit.commit time) (Ledger a) s (Ledger b) t h = says_plain (lines_at h.stands.x.place) (commits time (tx_count a.items + 1) ∷ []) (tt, tt)
visit_plain v out visit.read_point (Ledger a) s (Ledger b) t h = end_plain h.0.ends (tx_count a.items)
visit_plain v out visit.release (Rows a) s (Rows b) t h = tt
visit_plain v out visit.release_catalog (Catalog a) s (Catalog b) t h = tt
visit_plain v out visit.give_back (Catalog a) s (Catalog b) t h = tt
visit_plain v out (visit.close k) (Ledger a) s (Ledger b) t h = (tt, tt)
visit_plain v out (visit.issue moment) (Ledger a) s (Ledger b) t h = closings_plain v (pending_in a) a (did (issues h.digest (tx_count a.items)) ∷ []) (tt, tt)
visit_plain v out visit.lack_block (Ledger a) s (Ledger b) t h = (tt, tt)
visit_plain v out visit.keep a s b t h = (tt, tt)
visit_plain v out visit.nothing a s b t h = tt
visit_plain v out how a s b t h = absurd h

pub visit_follows : (v : Server) (w : World) (out : List (ℕ × Cell)) (how : Visit) (a : Cell) (s : SeatState) (b : Cell) (t : SeatState) (h : Happens v out how a s b t) (events : List Act) → map anonymous_act events ≡ visit_anonymous_acts v out how a s b t h → Follows w events []
visit_follows v w out how a s b t h events are = neither_follows w events (subst (Each Neither) (sym are) (each_weaker IsPlain Neither plain_neither _ (visit_plain v out how a s b t h)))
