-- Once no session runs, what the seats wrote since the start agrees behind its past.
use Rattle.std.proofs.Common.{◌≡◌, ℕ, zero, suc, ◌+◌, ◌-◌, ◌<◌, ◌≤◌, List, [], ◌∷◌, ◌++◌, length, map, Option, None, refl, sym, ap, ◌∙◌, subst, subst₂, ⊎_elim, inl, inr, arith}
use Rattle.std.proofs.lemmas.Bool.{cases_lt}
use mathlib.Core.Option.{some}
use lib.ListN.{get_elem?}
use Rattle.sql_types.specs.declared.journal.JournalItem.{JournalItem}
use Rattle.spec_history.specs.Acts.{Act, by, closes}
use Rattle.spec_history.specs.Digests.{Digest}
use Rattle.spec_history.specs.Guards.{AtRest, Good}
use Rattle.spec_history.specs.Histories.{AreOf, ClosesInStep, EndsComeLast, IsWhole, OneAtATime, SessionsBelow, SetupRan, lines_of, pending}
use Rattle.spec_history.specs.Inputs.{InputLine, InputSession}
use Rattle.spec_history.specs.Lists.{Text, Each, Some_of, In, At}
use Rattle.spec_history.specs.Sessions.{SessionState, gone, transcript_of, unborn}
use Rattle.spec_history.specs.Transactions.{listed}
use Rattle.spec_history.specs.Transcripts.{Transcript}
use Rattle.spec_history.specs.Worlds.{World, first, run}
use Rattle.spec_protocol.specs.AnonymousActs.{anonymous_act}
use Rattle.spec_protocol.specs.AtTheEnd.{AllRest, IsWritten, NamesDiffer, SessionsDiffer, WroteAt}
use Rattle.spec_protocol.specs.Cells.{Cell}
use Rattle.spec_protocol.specs.Follows.{BeginInTurn, names_begun}
use Rattle.spec_protocol.specs.LocksDecideIn.{LocksDecideIn}
use Rattle.spec_protocol.specs.Parts.{Past, all_of}
use Rattle.spec_protocol.specs.Seats.{IsAtRest, SeatState, Written}
use Rattle.spec_protocol.specs.Server.{Server}
use Rattle.spec_protocol.specs.StandTogether.{History, Stands}
use Rattle.law_protocol_end.proofs.GoneFree.{gone_rests}
use Rattle.law_protocol_end.proofs.BegunNames.{in_their_order}
use Rattle.law_protocol_end.proofs.TheEnd as whole_end
use Rattle.law_behind.specs.AgreeBehind.{AgreeBehind}
use Rattle.law_behind.specs.Forgotten.{IsWithout, without}
use Rattle.law_behind.specs.OrderBehind.{HaveOneOrderBehind, StepOrderBehind}
use Rattle.law_behind.specs.Past.{behind, unclosed}
use Rattle.law_behind.proofs.Agreed.{agrees}
use Rattle.law_behind.proofs.Forgotten.{forgotten}
use Rattle.law_behind.proofs.InOrder.{in_one_order}
use Rattle.law_behind.proofs.Ordered.{keeps_order}
use Rattle.law_behind.proofs.Sessions.{alone_at, ends_at, lines_at, sessions_behind}
use Rattle.law_behind.proofs.Without.{alone_without, below_without, closes_without, ends_without, lines_without, locks_without}
use Rattle.law_continued.specs.Continued.{transcripts_from}
use Rattle.law_continued.specs.Start.{Start}
use Rattle.law_going_on.specs.EndBehind.{AreWrittenBehind}
use Rattle.law_going_on.proofs.Begun.{same_acts, turn_without}
use Rattle.law_going_on.proofs.Whose.{gone_then, its_own, not_its, parts, splits}

-- ---- the sessions from number n on

abbrev taken_from : World → ℕ → ℕ → List InputSession
taken_from w n zero = []
taken_from w n (suc k) = record { name = (w.at n).name; texts = (w.at n).so_far.taken } ∷ taken_from w (suc n) k

are_of : (w : World) (n k : ℕ) → ((i : ℕ) → n ≤ i → i < n + k → AtRest (w.at i)) → AreOf w.at n (taken_from w n k) (transcripts_from w n k)
are_of w n zero rest = tt
are_of w n (suc k) rest = (record { name = refl; texts = refl }, refl, rest n (omega arith) (omega arith), are_of w (suc n) k (λ i l m. rest i (omega (arith, l)) (omega (arith, m))))

-- with other numbers they are the same
are_shifted : (f g : ℕ → SessionState) (n m : ℕ) (input : List InputSession) (X : List Transcript) → ((i : ℕ) → g (m + i) ≡ f (n + i)) → AreOf f n input X → AreOf g m input X
are_shifted f g n m [] [] same a = tt
are_shifted f g n m [] (x ∷ X) same a = absurd a
are_shifted f g n m (s ∷ input) [] same a = absurd a
are_shifted f g n m (s ∷ input) (x ∷ X) same a =
    let here : f n ≡ g m = ap f (let e : n ≡ n + 0 = omega arith in e) ∙ sym (same 0) ∙ ap g (let e : m + 0 ≡ m = omega arith in e) in (
      record { name = a.0.name ∙ ap (λ (z : SessionState). z.name) here; texts = a.0.texts ∙ ap (λ (z : SessionState). z.so_far.taken) here },
      a.1 ∙ ap transcript_of here,
      subst AtRest here a.2,
      are_shifted f g (suc n) (suc m) input X (λ i. ap g (let e : suc m + i ≡ m + suc i = omega arith in e) ∙ same (suc i) ∙ ap f (let e : n + suc i ≡ suc n + i = omega arith in e)) a.3,
    )

pub so_many : (w : World) (n k : ℕ) → length (transcripts_from w n k) ≡ k
so_many w n zero = refl
so_many w n (suc k) = ap suc (so_many w (suc n) k)

at_from : (w : World) (n k i : ℕ) (x : Transcript) → At (transcripts_from w n k) i x → (n + i < n + k) × (transcript_of (w.at (n + i)) ≡ x)
at_from w n zero i x a = absurd (nowhere i a)
  where
    nowhere : (i : ℕ) → At [] i x → ⊥
    nowhere zero h = h
    nowhere (suc i) h = h
at_from w n (suc k) zero x a = (omega arith, ap (λ (m : ℕ). transcript_of (w.at m)) (let e : n + 0 ≡ n = omega arith in e) ∙ a)
at_from w n (suc k) (suc i) x a = let r = at_from w (suc n) k i x a in let l = r.0 in (omega (arith, l), ap (λ (m : ℕ). transcript_of (w.at m)) (let e : n + suc i ≡ suc n + i = omega arith in e) ∙ r.1)

there_from : (w : World) (n k i : ℕ) → i < k → At (transcripts_from w n k) i (transcript_of (w.at (n + i)))
there_from w n zero i l = absurd (omega (arith, l))
there_from w n (suc k) zero l = ap (λ (m : ℕ). transcript_of (w.at m)) (let e : n ≡ n + 0 = omega arith in e)
there_from w n (suc k) (suc i) l = subst (λ (m : ℕ). At (transcripts_from w (suc n) k) i (transcript_of (w.at m))) (let e : suc n + i ≡ n + suc i = omega arith in e) (there_from w (suc n) k i (omega (arith, l)))

has_from : (w : World) (n k i : ℕ) → n ≤ i → i < n + k → In (transcript_of (w.at i)) (transcripts_from w n k)
has_from w n zero i l m = absurd (omega (arith, l, m))
has_from w n (suc k) i l m = ⊎_elim (λ (e : n < i). inr (has_from w (suc n) k i (omega (arith, e)) (omega (arith, m)))) (λ e. inl (ap (λ (j : ℕ). transcript_of (w.at j)) (let same : n ≡ i = omega (arith, e, l) in same))) (cases_lt n i)

below_behind : (n : ℕ) (es fs : List Act) → SessionsBelow n (es ++ fs) → SessionsBelow n fs
below_behind n [] fs b = b
below_behind n (by s a ∷ es) fs b = below_behind n es fs b.1
below_behind n (closes k ∷ es) fs b = below_behind n es fs b

some_at : (P : Written → Type 0) (ws : List Written) (i : ℕ) (w : Written) → At ws i w → P w → Some_of P ws
some_at P [] i w a p = absurd a
some_at P (z ∷ ws) zero w a p = inl (subst P (sym a) p)
some_at P (z ∷ ws) (suc i) w a p = inr (some_at P ws i w a p)

-- a seat behind the first
behind_first : (x : SeatState) (seats : List SeatState) (o j place : ℕ) (t : Transcript) → o ≡ suc j → WroteAt (x ∷ seats) o place t → WroteAt seats j place t
behind_first x seats o j place t e w = let v : WroteAt (x ∷ seats) (suc j) place t = subst (λ (k : ℕ). WroteAt (x ∷ seats) k place t) e w in
    record { state = v.state; there = v.there; written = v.written; has = v.has; is = v.is }

is_written : (seats : List SeatState) (j place : ℕ) (t : Transcript) → WroteAt seats j place t → IsWritten seats t
is_written seats j place t w = record { j = j; seat = w.state; there = w.there; has = some_at (λ z. z.transcript ≡ t) w.state.written place w.written w.has w.is }

module _ (v : Server) (database : Text) (size : ℕ) (start : Start v database size) (events : History) (cells : List Cell) (seats : List SeatState) (st : Stands v (start.history ++ events) cells (start.seat ∷ seats)) (rest : AllRest seats) where
  abbrev h : History
  h = start.history ++ events

  abbrev all_seats : List SeatState
  all_seats = start.seat ∷ seats

  abbrev past_world : World
  past_world = run first start.history

  abbrev W : World
  W = run first h

  abbrev rests_of : SeatState → Type 0
  rests_of s = IsAtRest s.role

  rest_all : AllRest all_seats
  rest_all zero s e = subst rests_of (let same : start.seat ≡ s = (let f : some start.seat ≡ some s = e in cc) in same) start.rests
  rest_all (suc j) s e = rest j s e

  good : Good v.meaning st.ledger.database first h
  good = st.transcripts_agree.good

  -- ---- how many

  least : start.count ≤ st.transcripts_agree.count
  least = ⊎_elim
      (λ (l : st.transcripts_agree.count < start.count). absurd (
      let f : (W.at st.transcripts_agree.count).phase ≡ unborn = ap (λ (z : SessionState). z.phase) (st.transcripts_agree.no_others st.transcripts_agree.count (omega arith)).0 in
      let g : gone ≡ unborn = sym (gone_then v database size start events cells seats st st.transcripts_agree.count l) ∙ f in cc))
      (λ l. omega (arith, l)) (cases_lt st.transcripts_agree.count start.count)

  abbrev many : ℕ
  many = st.transcripts_agree.count - start.count

  all_together : start.count + many ≡ st.transcripts_agree.count
  all_together = let l = least in omega (arith, l)

  abbrev pub X : List Transcript
  X = transcripts_from W start.count many

  abbrev pub input : List InputSession
  input = taken_from W start.count many

  length_is : length X ≡ many
  length_is = so_many W start.count many

  is_done : (n : ℕ) → n < start.count + many → whole_end.IsDone v h cells all_seats st rest_all n
  is_done n l = whole_end.is_done v h cells all_seats st rest_all n (let e = all_together in omega (arith, e, l))

  -- ---- whose they are

  pub seat_behind : (n : ℕ) → start.count ≤ n → n < start.count + many → (j : ℕ) × (st.transcripts_agree.owner n ≡ suc j)
  seat_behind n l m = by_owner (st.transcripts_agree.owner n) refl
    where
      by_owner : (o : ℕ) → st.transcripts_agree.owner n ≡ o → (j : ℕ) × (st.transcripts_agree.owner n ≡ suc j)
      by_owner zero e = let its = st.transcripts_agree.all n (let k = all_together in omega (arith, k, m)) in
          absurd (not_its v database size start events cells seats st n l (subst (λ (j : ℕ). In n (all_of (st.transcripts_agree.of_seat j))) e its.2))
      by_owner (suc j) e = (j, e)

  behind_count : (n j : ℕ) → st.transcripts_agree.owner n ≡ suc j → start.count ≤ n
  behind_count n j e = ⊎_elim (λ (l : n < start.count). absurd (let z : 0 ≡ suc j = sym (its_own v database size start events cells seats st n l) ∙ e in cc)) (λ l. omega (arith, l)) (cases_lt n start.count)

  pub is_one : (n : ℕ) → (W.at n).phase ≡ gone → n < st.transcripts_agree.count
  is_one n e = ⊎_elim (λ (l : n < st.transcripts_agree.count). l)
      (λ l. absurd (let f : (W.at n).phase ≡ unborn = ap (λ (z : SessionState). z.phase) (st.transcripts_agree.no_others n (omega (arith, l))).0 in let g : gone ≡ unborn = sym e ∙ f in cc))
      (cases_lt n st.transcripts_agree.count)

  written_at : (i : ℕ) (x : Transcript) → At X i x → IsWritten seats x
  written_at i x a =
      let w = at_from W start.count many i x a in
      let d = is_done (start.count + i) w.0 in
      let s = seat_behind (start.count + i) (omega arith) w.0 in
      subst (IsWritten seats) w.1 (is_written seats s.0 d.place (transcript_of (W.at (start.count + i))) (behind_first start.seat seats (st.transcripts_agree.owner (start.count + i)) s.0 d.place (transcript_of (W.at (start.count + i))) s.1 d.wrote))

  each_there : (j : ℕ) (ns : List ℕ) (ws : List Written) → Past h ns ws → Each (λ n. st.transcripts_agree.owner n ≡ suc j) ns → Each (λ w. In w.transcript X) ws
  each_there j [] [] p o = tt
  each_there j [] (w ∷ ws) p o = absurd p
  each_there j (n ∷ ns) [] p o = absurd p
  each_there j (n ∷ ns) (w ∷ ws) p o = (
    subst (λ (t : Transcript). In t X) p.0.is (has_from W start.count many n (behind_count n j o.0) (let l = is_one n p.0.over in let e = all_together in omega (arith, l, e))),
    each_there j ns ws p.1 o.1,
  )

  each_front : (P : ℕ → Type 0) (xs ys : List ℕ) → Each P (xs ++ ys) → Each P xs
  each_front P [] ys e = tt
  each_front P (x ∷ xs) ys e = (e.0, each_front P xs ys e.1)

  all_there : (j : ℕ) (s : SeatState) → get_elem? seats j ≡ some s → Each (λ w. In w.transcript X) s.written
  all_there j s e = each_there j (st.transcripts_agree.of_seat (suc j)).past s.written (st.transcripts_agree.agree (suc j) s e).sessions.past
      (each_front (λ n. st.transcripts_agree.owner n ≡ suc j) (st.transcripts_agree.of_seat (suc j)).past (listed (st.transcripts_agree.of_seat (suc j)).now) (st.transcripts_agree.own (suc j) s e))

  pub names_differ : NamesDiffer seats → SessionsDiffer X
  names_differ names i j x y a b ne same =
      let wa = at_from W start.count many i x a in
      let wb = at_from W start.count many j y b in
      let da = is_done (start.count + i) wa.0 in
      let db = is_done (start.count + j) wb.0 in
      let sa = seat_behind (start.count + i) (omega arith) wa.0 in
      let sb = seat_behind (start.count + j) (omega arith) wb.0 in
      names sa.0 sb.0 da.place db.place (transcript_of (W.at (start.count + i))) (transcript_of (W.at (start.count + j)))
      (behind_first start.seat seats (st.transcripts_agree.owner (start.count + i)) sa.0 da.place (transcript_of (W.at (start.count + i))) sa.1 da.wrote)
      (behind_first start.seat seats (st.transcripts_agree.owner (start.count + j)) sb.0 db.place (transcript_of (W.at (start.count + j))) sb.1 db.wrote)
      (λ one. whole_end.apart_at v h cells all_seats st rest_all (start.count + i) (start.count + j) (λ e. ne (let k : i ≡ j = omega (arith, e) in k)) da db (sa.1 ∙ ap suc one ∙ sym sb.1))
      (ap (λ (z : Transcript). z.session) wa.1 ∙ same ∙ ap (λ (z : Transcript). z.session) (sym wb.1))

  pub at_X : (i : ℕ) (x : Transcript) → At X i x → (start.count + i < start.count + many) × (transcript_of (W.at (start.count + i)) ≡ x)
  at_X i x a = at_from W start.count many i x a

  pub gone_X : (n : ℕ) → n < start.count + many → (W.at n).phase ≡ gone
  gone_X n l = (is_done n l).over

  pub in_X : (n : ℕ) → start.count ≤ n → n < start.count + many → At X (n - start.count) (transcript_of (W.at n))
  in_X n l m = subst (λ (k : ℕ). At X (n - start.count) (transcript_of (W.at k))) (let e : start.count + (n - start.count) ≡ n = omega (arith, l) in e) (there_from W start.count many (n - start.count) (omega (arith, l, m)))

  -- ---- without those that were before

  abbrev since : History
  since = without start.count events

  abbrev V : World
  V = run (behind start.past) since

  left : Good v.meaning st.ledger.database (behind start.past) since × IsWithout start.count (run past_world events) V
  left = forgotten v.meaning st.ledger.database start.count events past_world (behind start.past) start.over (parts v database size start events cells seats st).1

  at_is : (i : ℕ) → V.at i ≡ W.at (start.count + i)
  at_is i = left.1.at i ∙ ap (λ (w : World). w.at (start.count + i)) (sym (splits v database size start events cells seats st))

  items_are : V.items ≡ st.ledger.items
  items_are = left.1.items ∙ ap (λ (w : World). w.items) (sym (splits v database size start events cells seats st)) ∙ st.transcripts_agree.items

  issued_are : V.issued ≡ st.ledger.issued
  issued_are = left.1.issued ∙ ap (λ (w : World). w.issued) (sym (splits v database size start events cells seats st)) ∙ st.transcripts_agree.issued

  sessions : AreOf (run first since).at 0 input X
  sessions = subst (λ (f : ℕ → SessionState). AreOf f 0 input X) (sym (sessions_behind start.past since))
      (are_shifted W.at V.at start.count 0 input X (λ i. ap V.at (let e : 0 + i ≡ i = omega arith in e) ∙ at_is i)
      (are_of W start.count many (λ i l m. gone_rests v.meaning st.ledger.database h good i (is_done i m).over)))

  all_below : SessionsBelow (start.count + length X) h
  all_below = subst (λ (n : ℕ). SessionsBelow n h) (let e = all_together in let k = length_is in let g : st.transcripts_agree.count ≡ start.count + length X = omega (arith, e, k) in g)
      (whole_end.below st.transcripts_agree.count h (λ n l. (st.transcripts_agree.no_others n l).1))

  pub some_below : SessionsBelow (length X) since
  some_below = below_without v.meaning st.ledger.database start.count (length X) events past_world (behind start.past) start.over (parts v database size start events cells seats st).1 (below_behind (start.count + length X) start.history events all_below)

  pub are_written : AreWrittenBehind start.count events seats input X
  are_written = record { sessions = sessions; below = some_below; written = written_at; all = all_there }

  over_then : (n : ℕ) → n < length X → (V.at n).phase ≡ gone
  over_then n l = ap (λ (x : SessionState). x.phase) (at_is n) ∙ (is_done (start.count + n) (let k = length_is in omega (arith, l, k))).over

  none_then : (n : ℕ) → length X ≤ n → (V.at n).phase ≡ unborn
  none_then n l = ap (λ (x : SessionState). x.phase) (at_is n ∙ (st.transcripts_agree.no_others (start.count + n) (let k = length_is in let e = all_together in omega (arith, l, k, e))).0)

  pub in_order_then : BeginInTurn past_world events → map (λ x. x.session) X ≡ names_begun (map anonymous_act events)
  in_order_then turn = in_their_order v.meaning st.ledger.database (behind start.past) since left.0
      (turn_without v.meaning st.ledger.database start.count events past_world (behind start.past) start.over (parts v database size start events cells seats st).1 turn)
      (λ n. refl) input X (subst (λ (f : ℕ → SessionState). AreOf f 0 input X) (sessions_behind start.past since) sessions) over_then none_then
      ∙ ap names_begun (same_acts start.count events)

  whole : (setup : Option ℕ) → SetupRan setup since → SessionsDiffer X → IsWhole input setup X since
  whole setup ran differ = record { sessions = sessions; all = some_below; names_differ = differ; setup_ran = ran }

  pub agrees_then : SessionsDiffer X → (setup : Option ℕ) → SetupRan setup since
      → AgreeBehind v.meaning st.ledger.database start.past input setup X st.ledger.items st.ledger.issued × HaveOneOrderBehind v.meaning start.past setup X st.ledger.items
  agrees_then differ setup ran = (
    subst₂ (λ (J : List JournalItem) (G : List Digest). AgreeBehind v.meaning st.ledger.database start.past input setup X J G) items_are issued_are
        (agrees v.meaning st.ledger.database start.past start.is_past since left.0 input setup X (whole setup ran differ)),
    subst (HaveOneOrderBehind v.meaning start.past setup X) items_are (in_one_order v.meaning st.ledger.database start.past start.is_past since left.0 input setup X (whole setup ran differ)),
  )

  -- ---- step order

  module _ (N : ℕ) (differ : SessionsDiffer X) (decide : LocksDecideIn v start.history events) (alone : OneAtATime past_world events) (ends : EndsComeLast past_world events) (in_step : ClosesInStep N (pending (unclosed start.past.items)) events) where
    abbrev g0 : Good v.meaning st.ledger.database past_world events
    g0 = (parts v database size start events cells seats st).1

    lines_are : lines_of first since ≡ lines_of past_world events
    lines_are = lines_at first (behind start.past) refl since ∙ lines_without v.meaning st.ledger.database start.count events past_world (behind start.past) start.over g0

    pub keeps_order_then : StepOrderBehind v.meaning N start.past (lines_of past_world events) X st.ledger.items
    keeps_order_then = subst₂ (λ (lines : List InputLine) (J : List JournalItem). StepOrderBehind v.meaning N start.past lines X J) lines_are items_are
        (keeps_order v.meaning st.ledger.database start.past start.is_past since left.0 input None X (whole None tt differ) N
        (alone_at (behind start.past) first refl since (alone_without v.meaning st.ledger.database start.count events past_world (behind start.past) start.over g0 alone))
        (ends_at (behind start.past) first refl since (ends_without v.meaning st.ledger.database start.count events past_world (behind start.past) start.over g0 ends))
        (closes_without start.count N (pending (unclosed start.past.items)) events in_step)
        (locks_without v.meaning st.ledger.database start.count (length X) events past_world (behind start.past) start.over g0 (decide (start.count + length X) all_below alone)))
