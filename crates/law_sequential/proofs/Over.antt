-- What a course comes to once all its sessions are over.
use Rattle.std.proofs.Common.{◌≡◌, ◌≢◌, ℕ, zero, suc, ◌<◌, List, [], ◌∷◌, ◌++◌, map, Option, None, Some, refl, sym, ap, subst, subst₂, ◌∙◌, append-nil, inl, inr, ⊎_elim}
use mathlib.Core.Option.{some, none, some-injective}
use lib.ListN.{get_elem?}
use Rattle.spec_history.specs.Histories.{ClosesInStep, EndsComeLast, OneAtATime, SetupRan, lines_of, pending}
use Rattle.spec_history.specs.Inputs.{InputLine, InputSession, sessions_in}
use Rattle.spec_history.specs.Lists.{Text, Each, Some_of, At, In}
use Rattle.spec_history.specs.Transcripts.{Transcript, statements}
use Rattle.spec_history.specs.Worlds.{World, first, run}
use Rattle.spec_protocol.specs.AtTheEnd.{AllRest, HasItsImages, NamesDiffer, SessionsDiffer, WasKnown}
use Rattle.spec_protocol.specs.Cells.{Cell, LedgerCell, pending_in}
use Rattle.spec_protocol.specs.AnonymousActs.{AnonymousAct, anonymous_act, steps_anonymous_acts}
use Rattle.spec_protocol.specs.Follows.{BeginInTurn, names_begun}
use Rattle.spec_protocol.specs.LocksDecideIn.{LocksDecideIn}
use Rattle.spec_protocol.specs.Reordered.{NamesApart}
use Rattle.spec_protocol.specs.Seats.{SeatState, Written, IsAtRest}
use Rattle.spec_protocol.specs.Server.{Server}
use Rattle.spec_protocol.specs.StandTogether.{History, Stands}
use Rattle.law_protocol.proofs.KeptImages.{have_images}
use Rattle.law_behind.specs.AgreeBehind.{AgreeBehind}
use Rattle.law_behind.specs.Forgotten.{without}
use Rattle.law_behind.specs.OrderBehind.{HaveOneOrderBehind, StepOrderBehind}
use Rattle.law_behind.specs.Past.{Past, unclosed}
use Rattle.law_going_on.specs.Start.{Start}
use Rattle.law_going_on.specs.EndBehind.{AreWrittenBehind}
use Rattle.law_sequential.specs.RunStart.{RunStart}
use Rattle.law_sequential.specs.RunBehind.{SequentialRunBehind}
use Rattle.law_sequential.specs.EndsLast.{Phase, running, ending, CameSo, EndsLast}
use Rattle.law_sequential.specs.InStep.{InStep}
use Rattle.law_sequential.specs.OutcomeBehind.{OutcomeBehind}
use Rattle.law_sequential.specs.Wrote.{WroteOne, WroteEach, Wrote, transcripts_in}
use Rattle.law_sequential.proofs.Closes.{closes_in_step}
use Rattle.law_sequential.proofs.Ends.{ends_last}
use Rattle.law_sequential.proofs.GoesBehind.{since, ledger_is}
use Rattle.law_sequential.proofs.LedgerInStep.{due_below}
use Rattle.law_sequential.proofs.SameNames.{names_in, same_list, differ}
use Rattle.law_sequential.proofs.SinceStart.{SinceStart}
use Rattle.law_sequential.proofs.Texts.{rows_texts, input_is}

-- ---- lists by place

nothing_there : {A : Type 0} (x : A) → none ≡ some x → ⊥
nothing_there x e = cc

-- what a seat behind the first wrote
pub record WroteThere (written : List Written) (k : ℕ) (s : SeatState) : Type 0 where
  pub one : Written
  pub at : At written k one
  pub is : WroteOne s one

pub wrote_there : (others : List SeatState) (written : List Written) → WroteEach others written → (k : ℕ) (s : SeatState) → get_elem? others k ≡ some s → WroteThere written k s
wrote_there [] [] h k s e = absurd (nothing_there s e)
wrote_there [] (w ∷ ws) h k s e = absurd h
wrote_there (t ∷ ts) [] h k s e = absurd h
wrote_there (t ∷ ts) (w ∷ ws) h zero s e = record { one = w; at = refl; is = subst (λ (u : SeatState). WroteOne u w) (some-injective t s e) h.0 }
wrote_there (t ∷ ts) (w ∷ ws) h (suc k) s e = let r = wrote_there ts ws h.1 k s e in record { one = r.one; at = r.at; is = r.is }

transcript_at : (written : List Written) (k : ℕ) (w : Written) → At written k w → At (transcripts_in written) k w.transcript
transcript_at [] k w a = absurd a
transcript_at (u ∷ us) zero w a = ap (λ (z : Written). z.transcript) a
transcript_at (u ∷ us) (suc k) w a = transcript_at us k w a

at_in : {A : Type 0} (xs : List A) (k : ℕ) (x : A) → At xs k x → In x xs
at_in [] k x a = absurd a
at_in (y ∷ ys) zero x a = inl a
at_in (y ∷ ys) (suc k) x a = inr (at_in ys k x a)

each_from_at : {A : Type 0} (P : A → Type 0) (xs : List A) → ((k : ℕ) (x : A) → At xs k x → P x) → Each P xs
each_from_at P [] h = tt
each_from_at P (x ∷ xs) h = (h 0 x refl, each_from_at P xs (λ k y a. h (suc k) y a))

single : (w u : Written) (m : ℕ) → At (w ∷ []) m u → (m ≡ 0) × (w ≡ u)
single w u zero a = (refl, a)
single w u (suc m) a = absurd a

each_one : (P : Written → Type 0) (others : List SeatState) (written : List Written) → WroteEach others written → ((k : ℕ) (s : SeatState) → get_elem? others k ≡ some s → Each P s.written) → Each P written
each_one P [] [] h f = tt
each_one P [] (w ∷ ws) h f = absurd h
each_one P (s ∷ ss) [] h f = absurd h
each_one P (s ∷ ss) (w ∷ ws) h f = ((subst (Each P) h.0.wrote (f 0 s refl)).0, each_one P ss ws h.1 (λ k t e. f (suc k) t e))

-- ---- what the seats wrote

-- the place among all transcripts of one that a seat has written
record PlacedAt (written : List Written) (j m : ℕ) (x : Transcript) : Type 0 where
  place : ℕ
  seat : j ≡ suc place
  sole : m ≡ 0
  there : At (transcripts_in written) place x

module _ (parent : SeatState) (others : List SeatState) (written : List Written) (no_more : parent.written ≡ []) (each : WroteEach others written) where
  found : (j m : ℕ) (s : SeatState) (u : Written) → get_elem? (parent ∷ others) j ≡ some s → At s.written m u → PlacedAt written j m u.transcript
  found zero m s u e a = absurd (subst (λ (ws : List Written). At ws m u) (ap (λ (z : SeatState). z.written) (sym (some-injective parent s e)) ∙ no_more) a)
  found (suc k) m s u e a = let w = wrote_there others written each k s e in let p = single w.one u m (subst (λ (ws : List Written). At ws m u) w.is.wrote a) in
      record { place = k; seat = refl; sole = p.0; there = subst (λ (z : Written). At (transcripts_in written) k z.transcript) p.1 (transcript_at written k w.one w.at) }

  some_found : (j : ℕ) (s : SeatState) (ws : List Written) (x : Transcript) → ((m : ℕ) (u : Written) → At ws m u → In u.transcript (transcripts_in written)) → Some_of (λ w. w.transcript ≡ x) ws → In x (transcripts_in written)
  some_found j s [] x f h = absurd h
  some_found j s (w ∷ ws) x f h = ⊎_elim (λ (e : w.transcript ≡ x). subst (λ (z : Transcript). In z (transcripts_in written)) e (f 0 w refl)) (λ k. some_found j s ws x (λ m u a. f (suc m) u a) k) h

  pub is_one : (j : ℕ) (s : SeatState) (x : Transcript) → get_elem? (parent ∷ others) j ≡ some s → Some_of (λ w. w.transcript ≡ x) s.written → In x (transcripts_in written)
  is_one j s x e h = some_found j s s.written x (λ m u a. let p = found j m s u e a in at_in (transcripts_in written) p.place u.transcript p.there) h

  pub all_rest : IsAtRest parent.role → AllRest (parent ∷ others)
  all_rest rests zero s e = subst (λ (z : SeatState). IsAtRest z.role) (some-injective parent s e) rests
  all_rest rests (suc k) s e = (wrote_there others written each k s e).is.rests

  pub names_differ : (names : List Text) → names_in (transcripts_in written) ≡ names → NamesApart names → NamesDiffer (parent ∷ others)
  names_differ names named apart j k m n x y a b ne =
      let p = found j m a.state a.written a.there a.has in let q = found k n b.state b.written b.there b.has in
      let px : At (transcripts_in written) p.place x = subst (λ (z : Transcript). At (transcripts_in written) p.place z) a.is p.there in
      let qy : At (transcripts_in written) q.place y = subst (λ (z : Transcript). At (transcripts_in written) q.place z) b.is q.there in
      let places : p.place ≢ q.place = (λ same. ne (p.seat ∙ ap suc same ∙ sym q.seat) (p.sole ∙ sym q.sole)) in
      differ (transcripts_in written) names named apart p.place q.place x y px qy places

-- ---- ends

came_last : (phase : Phase) (anonymous_acts : List AnonymousAct) → CameSo phase anonymous_acts → EndsLast anonymous_acts
came_last running anonymous_acts h = record { before = anonymous_acts; after = []; are = sym (append-nil anonymous_acts); none_ended = h; none_taken = tt }
came_last ending anonymous_acts h = h

-- ---- all together

-- the law that is used
abbrev pub AgreesBehind : Type 0
AgreesBehind = (v : Server) (database : Text) (size : ℕ) (start : Start v database size) (events : History) (cells : List Cell) (seats : List SeatState)
    → (st : Stands v (start.history ++ events) cells (start.seat ∷ seats)) → AllRest seats
    → (input : List InputSession) × (X : List Transcript)
    × AreWrittenBehind start.count events seats input X
    × (NamesDiffer seats → SessionsDiffer X)
    × (BeginInTurn (run first start.history) events → map (λ x. x.session) X ≡ names_begun (map anonymous_act events))
    × (SessionsDiffer X → (setup : Option ℕ) → SetupRan setup (without start.count events)
    → AgreeBehind v.meaning st.ledger.database start.past input setup X st.ledger.items st.ledger.issued × HaveOneOrderBehind v.meaning start.past setup X st.ledger.items)
    × ((N : ℕ) → SessionsDiffer X → LocksDecideIn v start.history events → OneAtATime (run first start.history) events → EndsComeLast (run first start.history) events
    → ClosesInStep N (pending (unclosed start.past.items)) events → StepOrderBehind v.meaning N start.past (lines_of (run first start.history) events) X st.ledger.items)
    × (SessionsDiffer X → (u : ℕ) (x : Transcript) → At X u x → WasKnown seats x → SetupRan (Some u) (without start.count events))

module _ (agrees_behind : AgreesBehind) {v : Server} {database : Text} {size : ℕ} {past : Past} {start : RunStart v database size past} {phase : Phase} {names : List Text} {lines : List InputLine} {cells : List Cell} (parent : SeatState) (others : List SeatState)
    (c : SequentialRunBehind start phase names lines cells (parent ∷ others)) (written : List Written)
    (rests : IsAtRest parent.role) (no_more : parent.written ≡ []) (each : WroteEach others written)
    (named : names_in (transcripts_in written) ≡ names) (apart : NamesApart names) (below : pending_in c.ledger < size) where
  abbrev seats : List SeatState
  seats = parent ∷ others

  abbrev begins : Start v database size
  begins = start.begins

  abbrev s : SinceStart begins cells seats c.steps
  s = since c

  abbrev events : History
  events = s.events

  abbrev W : World
  W = run first begins.history

  abbrev st : Stands v (begins.history ++ events) cells (begins.seat ∷ seats)
  st = s.stands

  abbrev X : List Transcript
  X = transcripts_in written

  rest_all : AllRest seats
  rest_all = all_rest parent others written no_more each rests

  abbrev input : List InputSession
  input = (agrees_behind v database size begins events cells seats st rest_all).0

  abbrev first_X : List Transcript
  first_X = (agrees_behind v database size begins events cells seats st rest_all).1

  are_written : AreWrittenBehind begins.count events seats input first_X
  are_written = (agrees_behind v database size begins events cells seats st rest_all).2

  first_names : names_in first_X ≡ names
  first_names = (agrees_behind v database size begins events cells seats st rest_all).4 s.follows.in_turn ∙ ap names_begun s.are ∙ c.begun

  -- they are those that are told
  same_X : first_X ≡ X
  same_X = same_list first_X X names first_names named apart (each_from_at (λ x. In x X) first_X (λ i x a. let w = are_written.written i x a in is_one parent others written no_more each w.j w.seat x w.there w.has))

  differs : SessionsDiffer first_X
  differs = (agrees_behind v database size begins events cells seats st rest_all).3 (names_differ parent others written no_more each names named apart)

  end_last : EndsComeLast W events
  end_last = let e = came_last phase (steps_anonymous_acts c.steps) c.came_so in ends_last W events e.before e.after (s.are ∙ e.are) e.none_ended e.none_taken

  same_due : pending (unclosed past.items) ≡ pending (unclosed begins.past.items)
  same_due = ap (λ (p : Past). pending (unclosed p.items)) (sym start.of_past)

  in_step : ClosesInStep size (pending (unclosed begins.past.items)) events
  in_step = closes_in_step size events (pending (unclosed begins.past.items)) (pending_in c.ledger)
      (subst (λ due. InStep size due (map anonymous_act events) (pending (pending_in c.ledger))) same_due
      (subst₂ (λ ds due. InStep size (pending (unclosed past.items)) ds due) (sym s.are) (due_below size c.ledger below) c.closes))

  order : StepOrderBehind v.meaning size past lines first_X st.ledger.items
  order = subst₂ (λ (p : Past) (ls : List InputLine). StepOrderBehind v.meaning size p ls first_X st.ledger.items) start.of_past (s.follows.lines_are ∙ c.taken_up)
      ((agrees_behind v database size begins events cells seats st rest_all).6 size differs s.locks_decide (s.one_at_a_time c.one_by_one) end_last in_step)

  agreed : AgreeBehind v.meaning database past input None first_X st.ledger.items st.ledger.issued
  agreed = subst₂ (λ (p : Past) (db : Text). AgreeBehind v.meaning db p input None first_X st.ledger.items st.ledger.issued) start.of_past s.same_database
      ((agrees_behind v database size begins events cells seats st rest_all).5 differs None tt).0

  the_input : input ≡ sessions_in lines names
  the_input = input_is lines input first_X agreed.statements_are_answered
      (λ i x a. ap statements (sym (order.order.entries i x a)) ∙ rows_texts first_X lines order.rows differs order.order.lines_answered i x a)
      ∙ ap (sessions_in lines) first_names

  then_agreed : AgreeBehind v.meaning database past (sessions_in lines names) None X st.ledger.items st.ledger.issued
  then_agreed = subst₂ (λ (i : List InputSession) (Y : List Transcript). AgreeBehind v.meaning database past i None Y st.ledger.items st.ledger.issued) the_input same_X agreed

  images_of : Each (HasItsImages v st.ledger) written
  images_of = each_one (HasItsImages v st.ledger) others written each (λ k t e. have_images v (begins.history ++ events) cells (begins.seat ∷ seats) st (suc (suc k)) t e)

  outcome_then : OutcomeBehind v database size past names lines written st.ledger
  outcome_then = record {
    agree = then_agreed;
    in_order = subst (λ (Y : List Transcript). StepOrderBehind v.meaning size past lines Y st.ledger.items) same_X order;
    images = images_of;
    legal = st.ledger_is_legal.legal;
  }

  pub outcome : OutcomeBehind v database size past names lines written c.ledger
  outcome = subst (λ (l : LedgerCell). OutcomeBehind v database size past names lines written l) (sym (ledger_is c)) outcome_then

-- the same over what the seats wrote
pub outcome_is : AgreesBehind → {v : Server} {database : Text} {size : ℕ} {past : Past} {start : RunStart v database size past} {phase : Phase} {names : List Text} {lines : List InputLine} {cells : List Cell} (seats : List SeatState) (c : SequentialRunBehind start phase names lines cells seats) (written : List Written)
    → Wrote seats written → names_in (transcripts_in written) ≡ names → NamesApart names → pending_in c.ledger < size → OutcomeBehind v database size past names lines written c.ledger
outcome_is agrees_behind {v} {database} {size} {past} {start} {phase} {names} {lines} {cells} seats c written wrote named apart below = by seats c wrote.are below
  where
    by : (us : List SeatState) (d : SequentialRunBehind start phase names lines cells us) → us ≡ wrote.parent ∷ wrote.others → pending_in d.ledger < size → OutcomeBehind v database size past names lines written d.ledger
    by [] d e l = let f : [] ≡ wrote.parent ∷ wrote.others = e in cc
    by (p ∷ us) d e l = let h : p ≡ wrote.parent = cc in let t : us ≡ wrote.others = cc in
        outcome agrees_behind p us d written (subst (λ (z : SeatState). IsAtRest z.role) (sym h) wrote.rests) (ap (λ (z : SeatState). z.written) h ∙ wrote.none) (subst (λ (zs : List SeatState). WroteEach zs written) (sym t) wrote.each) named apart l
