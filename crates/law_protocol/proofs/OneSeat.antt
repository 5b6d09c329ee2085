-- What one seat does, step after step, its own sessions do: by their names.
use Rattle.std.proofs.Common.{◌≡◌, ◌≢◌, ℕ, ◌<◌, List, [], ◌∷◌, ◌++◌, refl, sym, ap, ◌∙◌, subst, inl, inr, ⊎_elim, arith, append_assoc}
use Rattle.std.proofs.lemmas.Bool.{cases_eq, cases_lt, eq-eqb}
use Rattle.std.specs.Prelude.{◌==◌, if◌then◌else◌, Bool, true, false}
use mathlib.Core.Option.{some, some-injective}
use lib.ListN.{get_elem?}
use Rattle.spec_history.specs.Acts.{SessionAct, Act, by, closes, of}
use Rattle.spec_history.specs.Inputs.{InputLine}
use Rattle.spec_history.specs.Lists.{Text, Each, In}
use Rattle.spec_history.specs.Sessions.{SessionState, unborn}
use Rattle.spec_history.specs.Worlds.{World, first, run}
use Rattle.spec_history.proofs.Cuts.{good_append, run_append}
use Rattle.law_history.proofs.Names.{Named, keeps_name}
use Rattle.spec_history.proofs.Settles.{in_right}
use Rattle.spec_history.proofs.Trace.{each_append, each_weaker}
use Rattle.spec_protocol.specs.Cells.{Cell}
use Rattle.spec_protocol.specs.Contents.{contents}
use Rattle.spec_protocol.specs.AnonymousActs.{AnonymousAct}
use Rattle.spec_protocol.specs.Follows.{Follows}
use Rattle.law_protocol.proofs.FollowsMore.{follows_append}
use Rattle.spec_protocol.specs.LocksAreRequested.{LocksAreRequested}
use Rattle.spec_protocol.specs.LocksDecideIn.{LocksDecideIn}
use Rattle.spec_protocol.specs.SeatNames.{OthersDiffer, names_of}
use Rattle.spec_protocol.specs.Seats.{SeatState}
use Rattle.spec_protocol.specs.Server.{Server}
use Rattle.spec_protocol.specs.StandTogether.{History, IsOfSeat, LocksAskedFor, Stands, StandsDone}
use Rattle.spec_protocol.specs.TranscriptsAgree.{TranscriptsAgree}
use Rattle.spec_history.specs.Histories.{OneAtATime}
use Rattle.law_protocol_steps.proofs.AfterSet.{all_at}
use Rattle.law_protocol_steps.proofs.ByLocksMore.{alone_append}
use Rattle.law_protocol_steps.proofs.GoesOn.{Goes, goes, goes_on, still}
use Rattle.law_protocol_steps.proofs.Ids.{each_in}
use Rattle.law_protocol.proofs.SeatNames.{has_begun, name_there}

-- a session that did something has begun, and its name is one of these
abbrev pub IsNamedIn : World → List Text → Act → Type 0
IsNamedIn w names (by n a) = ((w.at n).phase ≢ unborn) × In (w.at n).name names
IsNamedIn w names (closes k) = Unit {0}

pub record OneSeat (v : Server) (history : History) (anonymous_acts : List AnonymousAct) (lines : List InputLine) (cells : List Cell) (seats : List SeatState) (names : List Text) (Q : Type 0) : Type 0 where
  pub goes : Goes v history anonymous_acts cells seats
  -- where this is so, it is done one after another
  pub alone : Q → OneAtATime (run first history) goes.events
  pub named : Each (IsNamedIn (run first (history ++ goes.events)) names) goes.events
  pub follows : Follows (run first history) goes.events lines

pub none_did : (v : Server) {history : History} {cells : List Cell} {seats : List SeatState} (st : Stands v history cells seats) → LocksAskedFor st → LocksAreRequested v (contents cells) seats → (names : List Text) (Q : Type 0) → OneSeat v history [] [] cells seats names Q
unfolding still
none_did v st asked wanted names Q = record { goes = still v st asked wanted; alone = λ q. tt; named = tt; follows = record { lines_are = refl; in_turn = tt } }

-- ---- one after another

pub one_on : (v : Server) {history : History} {anonymous_acts more : List AnonymousAct} {lines more_lines : List InputLine} {cells then_cells : List Cell} {seats then_seats : List SeatState} {names then_names : List Text} {Q : Type 0} (st : OneSeat v history anonymous_acts lines cells seats names Q) → ((name : Text) → In name names → In name then_names)
    → OneSeat v (history ++ st.goes.events) more more_lines then_cells then_seats then_names Q → OneSeat v history (anonymous_acts ++ more) (lines ++ more_lines) then_cells then_seats then_names Q
unfolding goes_on
one_on v {history} {more_lines = more_lines} {names = names} {then_names} st longer last = record {
  follows = follows_append (run first history) st.goes.events last.goes.events st.follows (subst (λ (w : World). Follows w last.goes.events more_lines) (run_append first history st.goes.events) last.follows);
  goes = goes_on v st.goes last.goes;
  alone = λ q. alone_append (run first history) st.goes.events last.goes.events (st.alone q) (subst (λ (w : World). OneAtATime w last.goes.events) (run_append first history st.goes.events) (last.alone q));
  named = subst (λ (h : History). Each (IsNamedIn (run first h) then_names) (st.goes.events ++ last.goes.events)) (append_assoc history st.goes.events last.goes.events)
      (each_append (IsNamedIn (run first ((history ++ st.goes.events) ++ last.goes.events)) then_names) st.goes.events last.goes.events
      (each_weaker (IsNamedIn (run first (history ++ st.goes.events)) names) (IsNamedIn (run first ((history ++ st.goes.events) ++ last.goes.events)) then_names) kept st.goes.events st.named) last.named);
}
  where
    kept : (e : Act) → IsNamedIn (run first (history ++ st.goes.events)) names e → IsNamedIn (run first ((history ++ st.goes.events) ++ last.goes.events)) then_names e
    kept (by n a) h = let before = run first (history ++ st.goes.events) in
        let k : Named (before.at n).name ((run first ((history ++ st.goes.events) ++ last.goes.events)).at n) = subst (λ (w : World). Named (before.at n).name (w.at n)) (sym (run_append first (history ++ st.goes.events) last.goes.events))
        (keeps_name v.meaning last.goes.stands.ledger.database (before.at n).name n before last.goes.events (good_append v.meaning last.goes.stands.ledger.database first (history ++ st.goes.events) last.goes.events last.goes.stands.transcripts_agree.good).1 (h.0, refl)) in
        (k.0, longer _ (subst (λ (name : Text). In name names) (sym k.1) h.1))
    kept (closes k) h = tt

-- where less is asked of the others
abbrev pub quieter : {v : Server} {history : History} {anonymous_acts : List AnonymousAct} {lines : List InputLine} {cells : List Cell} {seats : List SeatState} {names : List Text} {P Q : Type 0} → (Q → P) → OneSeat v history anonymous_acts lines cells seats names P → OneSeat v history anonymous_acts lines cells seats names Q
quieter f o = record { goes = o.goes; alone = λ q. o.alone (f q); named = o.named; follows = o.follows }

-- ---- one step

pub acted_in : (es : List Act) (n : ℕ) (a : SessionAct) → In (by n a) es → of n es ≡ [] → ⊥
acted_in [] n a i e = absurd i
acted_in (by m b ∷ es) n a (inl same) e = let f : m ≡ n = cc in let g : (m == n) ≡ true = eq-eqb m n f in let h : (b ∷ of n es) ≡ [] = sym (ap (λ (c : Bool). if c then b ∷ of n es else of n es) g) ∙ e in cc
acted_in (by m b ∷ es) n a (inr i) e = acted_in es n a i (none_later (m == n) e)
  where
    none_later : (c : Bool) → (if c then b ∷ of n es else of n es) ≡ [] → of n es ≡ []
    none_later true f = cc
    none_later false f = f
acted_in (closes k ∷ es) n a (inl same) e = cc
acted_in (closes k ∷ es) n a (inr i) e = acted_in es n a i e

module _ (v : Server) {history : History} {cells : List Cell} {seats : List SeatState} (st : Stands v history cells seats) where
  abbrev agree : TranscriptsAgree v history st.ledger seats
  agree = st.transcripts_agree

  pub counted : (n : ℕ) (a : SessionAct) → In (by n a) history → n < agree.count
  counted n a i = ⊎_elim (λ (l : n < agree.count). l) (λ l. absurd (acted_in history n a i (agree.no_others n (omega (arith, l))).1)) (cases_lt n agree.count)

pub one_did : (v : Server) {j : ℕ} {history : History} {anonymous_acts : List AnonymousAct} {cells : List Cell} {seats : List SeatState} (d : StandsDone v j history anonymous_acts cells seats) → LocksAreRequested v (contents cells) seats → LocksDecideIn v history d.events → (t : SeatState) → get_elem? seats j ≡ some t → (Q : Type 0) → (Q → OneAtATime (run first history) d.events) → {lines : List InputLine} → Follows (run first history) d.events lines
    → OneSeat v history anonymous_acts lines cells seats (names_of t) Q
one_did v {j} {history} {anonymous_acts} {cells} {seats} d wanted decide t there Q alone follows = record { follows = follows; goes = goes d wanted decide; alone = alone; named = all_at (IsNamedIn (run first (history ++ d.events)) (names_of t)) d.events each }
  where
    each : (e : Act) → In e d.events → IsNamedIn (run first (history ++ d.events)) (names_of t) e
    each (closes k) i = tt
    each (by n a) i =
        let l = counted v d.stands n a (in_right (by n a) history d.events i) in
        let mine : d.stands.transcripts_agree.owner n ≡ j = each_in (IsOfSeat d.stands.transcripts_agree.owner j) d.events (by n a) d.mine i in
        let w = d.stands.transcripts_agree.all n l in
        let same : w.0 ≡ t = some-injective w.0 t (sym w.1 ∙ ap (get_elem? seats) mine ∙ there) in
        (has_begun v (history ++ d.events) d.stands.ledger seats d.stands.transcripts_agree n l, subst (λ (z : SeatState). In ((run first (history ++ d.events)).at n).name (names_of z)) same (name_there v (history ++ d.events) d.stands.ledger seats d.stands.transcripts_agree n l))

-- ---- whose they are

-- where no other seat has sessions of their names, what sessions of these names did sessions of this seat did
pub seats_own : (v : Server) {history : History} {cells : List Cell} {seats : List SeatState} (st : Stands v history cells seats) → (j : ℕ) → OthersDiffer seats j → (t : SeatState) → get_elem? seats j ≡ some t
    → (events : List Act) → Each (IsNamedIn (run first history) (names_of t)) events → Each (IsOfSeat st.transcripts_agree.owner j) events
seats_own v {history} {seats = seats} st j differ t there = each_weaker (IsNamedIn (run first history) (names_of t)) (IsOfSeat st.transcripts_agree.owner j) owned
  where
    of_session : (n : ℕ) → ((run first history).at n).phase ≢ unborn → In ((run first history).at n).name (names_of t) → st.transcripts_agree.owner n ≡ j
    of_session n begun name = ⊎_elim (λ (e : st.transcripts_agree.owner n ≡ j). e)
        (λ (ne : st.transcripts_agree.owner n ≢ j). absurd (differ (st.transcripts_agree.owner n) (st.transcripts_agree.all n count).0 t ((run first history).at n).name ne (st.transcripts_agree.all n count).1 there (name_there v history st.ledger seats st.transcripts_agree n count) name))
        (cases_eq (st.transcripts_agree.owner n) j)
      where
        count : n < st.transcripts_agree.count
        count = ⊎_elim (λ (l : n < st.transcripts_agree.count). l) (λ l. absurd (begun (ap (λ (x : SessionState). x.phase) (st.transcripts_agree.no_others n (omega (arith, l))).0))) (cases_lt n st.transcripts_agree.count)

    owned : (e : Act) → IsNamedIn (run first history) (names_of t) e → IsOfSeat st.transcripts_agree.owner j e
    owned (by n a) h = of_session n h.0 h.1
    owned (closes k) h = tt
