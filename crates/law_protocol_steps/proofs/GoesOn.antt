-- How a history goes on, in proofs.
use Rattle.std.proofs.Common.{◌≡◌, ℕ, List, [], ◌++◌, map, Option, Some, refl, sym, ap, ◌∙◌, subst, append-nil, append_assoc, ◌∷◌, ap₂, inl}
use mathlib.Core.Option.{some}
use lib.ListN.{get_elem?}
use Rattle.spec_history.specs.Lists.{Each, In}
use Rattle.spec_history.specs.Transactions.{listed}
use Rattle.spec_history.proofs.Settles.{in_right}
use Rattle.spec_protocol.specs.Parts.{all_of}
use Rattle.law_protocol_steps.proofs.Ids.{each_in}
use Rattle.spec_history.specs.Acts.{SessionAct, Act, by, closes}
use Rattle.spec_protocol.specs.Server.{Server}
use Rattle.spec_protocol.specs.Contents.{contents}
use Rattle.spec_protocol.specs.LocksAreRequested.{LocksAreRequested}
use Rattle.spec_protocol.specs.LocksDecideIn.{LocksDecideIn}
use Rattle.law_protocol_steps.proofs.ByLocksMore.{decides_on}
use Rattle.spec_protocol.specs.AnonymousActs.{AnonymousAct, did, closed, anonymous_act}
use Rattle.spec_protocol.specs.Cells.{Cell, LedgerCell}
use Rattle.spec_protocol.specs.Seats.{SeatState}
use Rattle.spec_protocol.specs.StandTogether.{History, IsOfSeat, LocksAskedFor, Stands, StandsAfter, StandsDone}
use Rattle.spec_protocol.specs.TranscriptsAgree.{TranscriptsAgree}

-- nothing came behind it
pub nothing_added : (v : Server) (history : History) (ledger : LedgerCell) (seats : List SeatState) → TranscriptsAgree v (history ++ []) ledger seats → TranscriptsAgree v history ledger seats
nothing_added v history ledger seats agree = subst (λ (h : History). TranscriptsAgree v h ledger seats) (append-nil history) agree

-- a session did nothing
pub unacted : (v : Server) {j : ℕ} {history : History} {cells : List Cell} {seats : List SeatState} → Stands v history cells seats → StandsAfter v j history [] cells seats
unacted v {j} {history} {cells} {seats} st = record { session = 0; stands = subst (λ (h : History). Stands v h cells seats) (sym (append-nil history)) st; mine = tt }

pub same_acts : (v : Server) {j : ℕ} {history : History} {acts more : List SessionAct} {cells : List Cell} {seats : List SeatState} → acts ≡ more → StandsAfter v j history acts cells seats → StandsAfter v j history more cells seats
same_acts v {j} {history} {acts} {more} {cells} {seats} e st = subst (λ (list : List SessionAct). StandsAfter v j history list cells seats) e st

-- a session at seat j did these acts, and its number in the history is known
pub record ActsBy (v : Server) (history : History) (acts : List SessionAct) (ledger : LedgerCell) (seats : List SeatState) (j : ℕ) : Type 0 where
  pub session : ℕ
  pub agree : TranscriptsAgree v (history ++ map (by session) acts) ledger seats
  pub now : (agree.of_seat j).now ≡ Some session

-- what is so is so of each
pub each_so : {A P : Type 0} (xs : List A) → P → Each (λ x. P) xs
each_so [] p = tt
each_so (x ∷ xs) p = (p, each_so xs p)

some_is : (m n : ℕ) → Some m ≡ Some n → m ≡ n
some_is m n e = cc

pub one_number : {o : Option ℕ} (m n : ℕ) → o ≡ Some m → o ≡ Some n → m ≡ n
one_number m n e f = some_is m n (sym e ∙ f)

-- they agree, and this session is one of the seat's
abbrev pub Owned : Server → History → LedgerCell → List SeatState → ℕ → ℕ → Type 0
Owned v h ledger seats n j = (agree : TranscriptsAgree v h ledger seats) × (agree.owner n ≡ j)

-- one behind the other
pub then_more : (v : Server) (history xs ys : History) (ledger : LedgerCell) (seats : List SeatState) {n j : ℕ} → Owned v ((history ++ xs) ++ ys) ledger seats n j → Owned v (history ++ (xs ++ ys)) ledger seats n j
then_more v history xs ys ledger seats {n} {j} agree = subst (λ (h : History). Owned v h ledger seats n j) (append_assoc history xs ys) agree

-- ---- later

-- they stand together later on, with these deeds behind the history
pub record Goes (v : Server) (history : History) (anonymous_acts : List AnonymousAct) (cells : List Cell) (seats : List SeatState) : Type 0 where
  pub events : List Act
  pub are : map anonymous_act events ≡ anonymous_acts
  pub stands : Stands v (history ++ events) cells seats
  pub locks_were_asked : LocksAskedFor stands
  pub locks_are_requested : LocksAreRequested v (contents cells) seats
  pub locks_decide : LocksDecideIn v history events

-- the deeds of a session's acts
pub anonymous_acts_by : (n : ℕ) (acts : List SessionAct) → map anonymous_act (map (by n) acts) ≡ map did acts
anonymous_acts_by n [] = refl
anonymous_acts_by n (a ∷ acts) = ap (λ (ds : List AnonymousAct). did a ∷ ds) (anonymous_acts_by n acts)

pub anonymous_acts_append : (xs ys : List Act) → map anonymous_act (xs ++ ys) ≡ map anonymous_act xs ++ map anonymous_act ys
anonymous_acts_append [] ys = refl
anonymous_acts_append (x ∷ xs) ys = ap (λ (ds : List AnonymousAct). anonymous_act x ∷ ds) (anonymous_acts_append xs ys)

-- of one history and of another that is the same
pub moved : (v : Server) {h g : History} {cells : List Cell} {seats : List SeatState} → h ≡ g → (st : Stands v h cells seats) → LocksAskedFor st → (moved_to : Stands v g cells seats) × LocksAskedFor moved_to
moved v {h} {g} {cells} {seats} e st asked = subst (λ (k : History). (moved_to : Stands v k cells seats) × LocksAskedFor moved_to) e (st, asked)

-- whoever did it
abbrev pub goes : {v : Server} {j : ℕ} {history : History} {anonymous_acts : List AnonymousAct} {cells : List Cell} {seats : List SeatState} → (d : StandsDone v j history anonymous_acts cells seats) → LocksAreRequested v (contents cells) seats → LocksDecideIn v history d.events → Goes v history anonymous_acts cells seats
goes d wanted decide = record { events = d.events; are = d.are; stands = d.stands; locks_were_asked = d.locks_were_asked; locks_are_requested = wanted; locks_decide = decide }

-- with whose a session is
moved_of : (v : Server) {h g : History} {cells : List Cell} {seats : List SeatState} (j : ℕ) (events : List Act) → h ≡ g → (st : Stands v h cells seats) → LocksAskedFor st → Each (IsOfSeat st.transcripts_agree.owner j) events
    → (moved_to : Stands v g cells seats) × LocksAskedFor moved_to × Each (IsOfSeat moved_to.transcripts_agree.owner j) events
moved_of v {h} {g} {cells} {seats} j events e st asked mine = subst (λ (k : History). (moved_to : Stands v k cells seats) × LocksAskedFor moved_to × Each (IsOfSeat moved_to.transcripts_agree.owner j) events) e (st, asked, mine)

mine_by : (owner : ℕ → ℕ) (j n : ℕ) (acts : List SessionAct) → Each (λ act. owner n ≡ j) acts → Each (IsOfSeat owner j) (map (by n) acts)
mine_by owner j n [] m = tt
mine_by owner j n (a ∷ acts) m = (m.0, mine_by owner j n acts m.1)

-- nothing but closings
abbrev pub IsClosing : Act → Type 0
IsClosing (by n act) = ⊥
IsClosing (closes k) = Unit {0}

closings_mine : (owner : ℕ → ℕ) (j : ℕ) (xs ys : List Act) → Each IsClosing xs → Each (IsOfSeat owner j) ys → Each (IsOfSeat owner j) (xs ++ ys)
closings_mine owner j [] ys c m = m
closings_mine owner j (by n a ∷ xs) ys c m = absurd c.0
closings_mine owner j (closes k ∷ xs) ys c m = (tt, closings_mine owner j xs ys c.1 m)

-- a block was closed
pub closed_one : (v : Server) {j : ℕ} {history : History} {cells : List Cell} {seats : List SeatState} (k : ℕ) (st : Stands v (history ++ closes k ∷ []) cells seats) → LocksAskedFor st → StandsDone v j history (closed k ∷ []) cells seats
closed_one v k st asked = record { events = closes k ∷ []; are = refl; stands = st; mine = (tt, tt); locks_were_asked = asked }

unfoldable pub still : (v : Server) {history : History} {cells : List Cell} {seats : List SeatState} (st : Stands v history cells seats) → LocksAskedFor st → LocksAreRequested v (contents cells) seats → Goes v history [] cells seats
still v {history} st asked wanted = let m = moved v (sym (append-nil history)) st asked in record { events = []; are = refl; stands = m.0; locks_were_asked = m.1; locks_are_requested = wanted; locks_decide = λ k below alone. tt }

-- nothing was done
pub none_done : (v : Server) (j : ℕ) {history : History} {cells : List Cell} {seats : List SeatState} (st : Stands v history cells seats) → LocksAskedFor st → StandsDone v j history [] cells seats
none_done v j {history} st asked = let m = moved_of v j [] (sym (append-nil history)) st asked tt in record { events = []; are = refl; stands = m.0; mine = tt; locks_were_asked = m.1 }

pub after_acts : (v : Server) {j : ℕ} {history : History} {acts : List SessionAct} {cells : List Cell} {seats : List SeatState} (st : StandsAfter v j history acts cells seats) → LocksAskedFor st.stands → StandsDone v j history (map did acts) cells seats
after_acts v {j} {history} {acts} st asked = record { events = map (by st.session) acts; are = anonymous_acts_by st.session acts; stands = st.stands; mine = mine_by st.stands.transcripts_agree.owner j st.session acts st.mine; locks_were_asked = asked }

unfoldable pub goes_on : (v : Server) {history : History} {anonymous_acts more : List AnonymousAct} {cells then_cells : List Cell} {seats then_seats : List SeatState} (st : Goes v history anonymous_acts cells seats) → Goes v (history ++ st.events) more then_cells then_seats → Goes v history (anonymous_acts ++ more) then_cells then_seats
goes_on v {history} {anonymous_acts} {more} st last = let m = moved v (append_assoc history st.events last.events) last.stands last.locks_were_asked in record {
  events = st.events ++ last.events;
  are = anonymous_acts_append st.events last.events ∙ ap₂ (λ (xs ys : List AnonymousAct). xs ++ ys) st.are last.are;
  stands = m.0;
  locks_were_asked = m.1;
  locks_are_requested = last.locks_are_requested;
  locks_decide = decides_on v history st.events last.events st.locks_decide last.locks_decide;
}

pub closed_first : (v : Server) {j : ℕ} {history : History} {anonymous_acts : List AnonymousAct} {cells : List Cell} {seats : List SeatState} (more : History) → Each IsClosing more → StandsDone v j (history ++ more) anonymous_acts cells seats → StandsDone v j history (map anonymous_act more ++ anonymous_acts) cells seats
closed_first v {j} {history} {anonymous_acts} more only st = let m = moved_of v j st.events (append_assoc history more st.events) st.stands st.locks_were_asked st.mine in record {
  events = more ++ st.events;
  are = anonymous_acts_append more st.events ∙ ap (λ (ds : List AnonymousAct). map anonymous_act more ++ ds) st.are;
  stands = m.0;
  mine = closings_mine m.0.transcripts_agree.owner j more st.events only m.2;
  locks_were_asked = m.1;
}
