-- A session that all other seats knew to be over when theirs began ran before all others that came since the start.
use Rattle.std.proofs.Common.{◌≡◌, ◌≢◌, ◌⊎◌, ℕ, suc, ◌+◌, ◌-◌, ◌<◌, ◌≤◌, List, [], ◌∷◌, ◌++◌, length, Option, None, refl, sym, ap, ◌∙◌, subst, ⊎_elim, inl, inr, arith, append-nil}
use Rattle.std.proofs.lemmas.Bool.{cases_eq, cases_lt}
use mathlib.Core.Option.{some}
use lib.ListN.{get_elem?}
use Rattle.spec_history.specs.Acts.{SessionAct, Act, by, closes, of}
use Rattle.spec_history.specs.Guards.{Good}
use Rattle.spec_history.specs.Histories.{RanBefore}
use Rattle.spec_history.specs.Lists.{Text, Each, In, At}
use Rattle.spec_history.specs.Sessions.{SessionState, gone, transcript_of, unborn}
use Rattle.spec_history.specs.Transactions.{listed}
use Rattle.spec_history.specs.Transcripts.{Transcript}
use Rattle.spec_history.specs.Worlds.{World, first, run}
use Rattle.spec_history.proofs.Cuts.{good_append, of_append, run_append}
use Rattle.spec_history.proofs.Refused.{below_or_nil}
use Rattle.spec_history.proofs.Settles.{in_append}
use Rattle.spec_history.proofs.Setup.{silent}
use Rattle.spec_protocol.specs.AtTheEnd.{AllRest, SessionsDiffer, WasKnown}
use Rattle.spec_protocol.specs.Cells.{Cell}
use Rattle.spec_protocol.specs.Parts.{BeganAfter, Numbers, WasOver}
use Rattle.spec_protocol.specs.Seats.{SeatState}
use Rattle.spec_protocol.specs.Server.{Server}
use Rattle.spec_protocol.specs.StandTogether.{History, Stands}
use Rattle.law_protocol_end.proofs.JoinsStand.{rests_none}
use Rattle.law_protocol_end.proofs.RanFirst.{WroteSo, ran_before, wrote_so}
use Rattle.law_behind.specs.Forgotten.{IsWithout, without}
use Rattle.law_behind.specs.Past.{behind}
use Rattle.law_behind.proofs.Forgotten.{forgotten}
use Rattle.law_behind.proofs.Sessions.{sessions_behind}
use Rattle.law_behind.proofs.Without.{of_without}
use Rattle.law_continued.specs.Start.{Start}
use Rattle.law_going_on.proofs.TheEnd.{X, at_X, gone_X, in_X, is_one, seat_behind, so_many, some_below}
use Rattle.law_going_on.proofs.Whose.{as_it_was, parts, same_one}

without_append : (count : ℕ) (es fs : List Act) → without count (es ++ fs) ≡ without count es ++ without count fs
without_append count [] fs = refl
without_append count (by s a ∷ es) fs = ap (λ (l : List Act). by (s - count) a ∷ l) (without_append count es fs)
without_append count (closes k ∷ es) fs = ap (λ (l : List Act). closes k ∷ l) (without_append count es fs)

nil_behind : (xs ys : List SessionAct) → xs ++ ys ≡ [] → ys ≡ []
nil_behind [] ys e = e
nil_behind (x ∷ xs) ys e = cc

each_in : {A : Type 0} (P : A → Type 0) (xs : List A) (x : A) → Each P xs → In x xs → P x
each_in P [] x h i = absurd i
each_in P (y ∷ ys) x h i = ⊎_elim (λ (e : y ≡ x). subst P e h.0) (λ (k : In x ys). each_in P ys x h.1 k) i

-- of two fronts of one list, one begins with the other
record Longer (xs ys us vs : List Act) : Type 0 where
  more : List Act
  front : us ≡ xs ++ more
  rest : ys ≡ more ++ vs

fronts : (xs ys us vs : List Act) → xs ++ ys ≡ us ++ vs → Longer xs ys us vs ⊎ Longer us vs xs ys
fronts [] ys us vs e = inl (record { more = us; front = refl; rest = e })
fronts (x ∷ xs) ys [] vs e = inr (record { more = x ∷ xs; front = refl; rest = sym e })
fronts (x ∷ xs) ys (u ∷ us) vs e =
    let head : x ≡ u = cc in
    let tail : xs ++ ys ≡ us ++ vs = cc in
    ⊎_elim
    (λ (l : Longer xs ys us vs). inl (record { more = l.more; front = (λ i. sym head i ∷ l.front i); rest = l.rest }))
    (λ (l : Longer us vs xs ys). inr (record { more = l.more; front = (λ i. head i ∷ l.front i); rest = l.rest }))
    (fronts xs ys us vs tail)

module _ (v : Server) (database : Text) (size : ℕ) (start : Start v database size) (events : History) (cells : List Cell) (seats : List SeatState) (st : Stands v (start.history ++ events) cells (start.seat ∷ seats)) (rest : AllRest seats)
    (differ : SessionsDiffer (X v database size start events cells seats st rest)) (u : ℕ) (x : Transcript) (there : At (X v database size start events cells seats st rest) u x) (known : WasKnown seats x) where
  abbrev h : History
  h = start.history ++ events

  abbrev past_world : World
  past_world = run first start.history

  abbrev at : ℕ → SessionState
  at = (run first h).at

  abbrev many : ℕ
  many = st.transcripts_agree.count - start.count

  abbrev since : History
  since = without start.count events

  abbrev g0 : Good v.meaning st.ledger.database past_world events
  g0 = (parts v database size start events cells seats st).1

  -- ---- the session of that transcript

  its : (start.count + u < start.count + many) × (transcript_of (at (start.count + u)) ≡ x)
  its = at_X v database size start events cells seats st rest u x there

  its_gone : (at (start.count + u)).phase ≡ gone
  its_gone = gone_X v database size start events cells seats st rest (start.count + u) its.0

  -- no other has it
  is_it : (n : ℕ) → start.count ≤ n → n < start.count + many → transcript_of (at n) ≡ x → n ≡ start.count + u
  is_it n l m e = ⊎_elim (λ (same : n ≡ start.count + u). same)
      (λ (ne : n ≢ start.count + u). absurd (differ (n - start.count) u (transcript_of (at n)) x (in_X v database size start events cells seats st rest n l m) there (λ k. ne (let f : n ≡ start.count + u = omega (arith, k, l) in f)) (ap (λ (y : Transcript). y.session) e)))
      (cases_eq n (start.count + u))

  not_before : (n : ℕ) → n < start.count → transcript_of (at n) ≡ x → ⊥
  not_before n l e =
      let kept : transcript_of (at n) ≡ transcript_of (past_world.at n) = ap transcript_of (as_it_was v database size start events cells seats st n l) in
      let same : start.count + u ≡ n = same_one v database size start events cells seats st (start.count + u) n l its_gone (its.1 ∙ sym e ∙ kept) in
      absurd (omega (arith, l, same))

  -- who was over at some moment is one of those that did something
  was_one : (m n : ℕ) → BeganAfter h m n → m < st.transcripts_agree.count
  was_one m n b =
      let g : Good v.meaning st.ledger.database first (b.before ++ b.after) = subst (Good v.meaning st.ledger.database first) b.is st.transcripts_agree.good in
      let still : ((run (run first b.before) b.after).at m).phase ≡ gone = (silent v.meaning st.ledger.database m (run first b.before) b.after b.over (good_append v.meaning st.ledger.database first b.before b.after g).1).1 in
      let now : (at m).phase ≡ gone = ap (λ (l : List Act). ((run first l).at m).phase) b.is ∙ ap (λ (z : World). (z.at m).phase) (run_append first b.before b.after) ∙ still in
      is_one v database size start events cells seats st rest m now

  its_number : (m n : ℕ) → BeganAfter h m n → transcript_of (at m) ≡ x → m ≡ start.count + u
  its_number m n b e = ⊎_elim
      (λ (l : m < start.count). absurd (not_before m l e))
      (λ l. is_it m (omega (arith, l)) (let k = was_one m n b in omega (arith, k, l)) e)
      (cases_lt m start.count)

  by_seat : (n : ℕ) → start.count ≤ n → n < start.count + many → n ≢ start.count + u → WroteSo h (λ y. (y.transcript ≡ x) ⊎ In x y.earlier) n → BeganAfter h (start.count + u) n
  by_seat n l m ne k = ⊎_elim
      (λ (e : k.written.transcript ≡ x). absurd (ne (is_it n l m (k.past.is ∙ e))))
      (λ (i : In x k.written.earlier). let was = each_in (WasOver h n) k.written.earlier x k.past.earlier i in
      subst (λ (j : ℕ). BeganAfter h j n) (its_number was.number n was.before was.is) was.before)
      k.so

  wrote : (n : ℕ) → start.count ≤ n → n < start.count + many → WroteSo h (λ y. (y.transcript ≡ x) ⊎ In x y.earlier) n
  wrote n l m =
      let s = seat_behind v database size start events cells seats st rest n l m in
      let found = st.transcripts_agree.all n (omega (arith, l, m)) in
      let there_is : get_elem? (start.seat ∷ seats) (suc s.0) ≡ some found.0 = subst (λ (j : ℕ). get_elem? (start.seat ∷ seats) j ≡ some found.0) s.1 found.1 in
      let mine : Numbers = st.transcripts_agree.of_seat (suc s.0) in
      let agree = (st.transcripts_agree.agree (suc s.0) found.0 there_is).sessions in
      let among : In n (mine.past ++ listed mine.now) = subst (λ (j : ℕ). In n ((st.transcripts_agree.of_seat j).past ++ listed (st.transcripts_agree.of_seat j).now)) s.1 found.2 in
      let none : mine.now ≡ None = rests_none v.meaning h mine.now found.0.role (rest s.0 found.0 there_is) agree.now in
      let past : In n mine.past = ⊎_elim (λ (k : In n mine.past). k) (λ (k : In n (listed mine.now)). absurd (subst (λ (o : Option ℕ). In n (listed o)) none k)) (in_append n mine.past (listed mine.now) among) in
      wrote_so h (λ y. (y.transcript ≡ x) ⊎ In x y.earlier) mine.past found.0.written n agree.past past (known s.0 found.0 there_is)

  -- ---- the same without those that were before

  over_since : ((run first since).at u).phase ≡ gone
  over_since = ap (λ (f : ℕ → SessionState). (f u).phase) (sessions_behind start.past since)
      ∙ ap (λ (z : SessionState). z.phase) ((forgotten v.meaning st.ledger.database start.count events past_world (behind start.past) start.over g0).1.at u)
      ∙ ap (λ (w : World). (w.at (start.count + u)).phase) (sym (run_append first start.history events)) ∙ its_gone

  cut_behind : (s : ℕ) → BeganAfter h (start.count + u) (start.count + s) → BeganAfter since u s
  cut_behind s b = ⊎_elim
      (λ (l : Longer start.history events b.before b.after).
      let g1 : Good v.meaning st.ledger.database past_world l.more = (good_append v.meaning st.ledger.database past_world l.more b.after (subst (Good v.meaning st.ledger.database past_world) l.rest g0)).0 in
      let z : IsWithout start.count (run past_world l.more) (run (behind start.past) (without start.count l.more)) = (forgotten v.meaning st.ledger.database start.count l.more past_world (behind start.past) start.over g1).1 in
      record {
        before = without start.count l.more;
        after = without start.count b.after;
        is = ap (without start.count) l.rest ∙ without_append start.count l.more b.after;
        over = ap (λ (f : ℕ → SessionState). (f u).phase) (sessions_behind start.past (without start.count l.more)) ∙ ap (λ (y : SessionState). y.phase) (z.at u)
            ∙ ap (λ (w : World). (w.at (start.count + u)).phase) (sym (run_append first start.history l.more)) ∙ ap (λ (es : List Act). ((run first es).at (start.count + u)).phase) (sym l.front) ∙ b.over;
        none = of_without v.meaning st.ledger.database start.count s l.more past_world (behind start.past) start.over g1
            ∙ nil_behind (of (start.count + s) start.history) (of (start.count + s) l.more) (sym (of_append (start.count + s) start.history l.more) ∙ ap (of (start.count + s)) (sym l.front) ∙ b.none);
      })
      (λ (l : Longer b.before b.after start.history events). absurd (
      let g1 : Good v.meaning st.ledger.database first (b.before ++ l.more) = subst (Good v.meaning st.ledger.database first) l.front (parts v database size start events cells seats st).0 in
      let still : ((run (run first b.before) l.more).at (start.count + u)).phase ≡ gone = (silent v.meaning st.ledger.database (start.count + u) (run first b.before) l.more b.over (good_append v.meaning st.ledger.database first b.before l.more g1).1).1 in
      let gone_there : (past_world.at (start.count + u)).phase ≡ gone = ap (λ (es : List Act). ((run first es).at (start.count + u)).phase) l.front ∙ ap (λ (w : World). (w.at (start.count + u)).phase) (run_append first b.before l.more) ∙ still in
      let fresh_there : unborn ≡ (past_world.at (start.count + u)).phase = ap (λ (z : SessionState). z.phase) (start.over.at u) in
      let e : unborn ≡ gone = fresh_there ∙ gone_there in cc))
      (fronts start.history events b.before b.after b.is)

  began_after : (s : ℕ) → s ≢ u → BeganAfter since u s
  began_after s ne = ⊎_elim
      (λ (l : s < length (X v database size start events cells seats st rest)).
      let m = some_many l in
      cut_behind s (by_seat (start.count + s) (omega arith) m (λ e. ne (let f : s ≡ u = omega (arith, e) in f)) (wrote (start.count + s) (omega arith) m)))
      (λ (none : of s since ≡ []). record { before = since; after = []; is = sym (append-nil since); over = over_since; none = none })
      (below_or_nil s (length (X v database size start events cells seats st rest)) since (some_below v database size start events cells seats st rest))
    where
      some_many : s < length (X v database size start events cells seats st rest) → start.count + s < start.count + many
      some_many l = let k = so_many (run first h) start.count many in omega (arith, l, k)

  pub ran_first : RanBefore u since
  ran_first = ran_before u since over_since began_after
