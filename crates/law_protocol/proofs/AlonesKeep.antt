-- What a seat does alone, one step after another, keeps cells and seats standing together.
use Rattle.std.proofs.Common.{◌≡◌, ◌∙◌, ℕ, List, [], ◌∷◌, ◌++◌, map, slice_set, refl, sym, ap, subst, inl}
use mathlib.Core.Option.{some}
use lib.ListN.{get_elem?}
use Rattle.spec_model.specs.Catalog.{defs_of}
use Rattle.spec_model.specs.Journals.{serial}
use Rattle.spec_history.specs.Acts.{SessionAct}
use Rattle.spec_protocol.specs.ActsOf.{alone_acts}
use Rattle.spec_protocol.specs.AnonymousActs.{AnonymousAct, did, alones_acts}
use Rattle.spec_protocol.specs.Follows.{alone_lines, alones_lines}
use Rattle.spec_protocol.specs.Alone.{Alone, Alones, none, more}
use Rattle.spec_protocol.specs.Cells.{Cell, LedgerCell}
use Rattle.spec_protocol.specs.Seats.{SeatState}
use Rattle.spec_protocol.specs.Server.{Server}
use Rattle.spec_protocol.specs.StandTogether.{History, LocksAskedFor, Stands, StandsDone, StandsNext}
use Rattle.law_protocol_ledger.proofs.AloneStands.{alone_keeps}
use Rattle.law_protocol.proofs.AssignNoId.{alone_none}
use Rattle.law_protocol.proofs.FollowsSteps.{alone_follows}
use Rattle.law_protocol.proofs.DecidesSteps.{alone_decides}
use Rattle.law_protocol.proofs.KeepsRequested.{alone_requested}
use Rattle.law_protocol.proofs.OneSeat.{OneSeat, none_did, one_did, one_on}
use Rattle.law_protocol.proofs.SeatNames.{alone_names}
use Rattle.spec_protocol.specs.SeatNames.{names_of}
use Rattle.spec_protocol.specs.Contents.{contents}
use Rattle.spec_protocol.specs.LocksAreRequested.{LocksAreRequested}
use Rattle.law_protocol_steps.proofs.GoesOn.{after_acts}
use Rattle.law_protocol_tables.proofs.KeepsAsked.{same_ledger, stay_asked}
use Rattle.spec_protocol.specs.InactiveExcept.{InactiveExcept}
use Rattle.law_protocol.proofs.StepsAlone.{alone_one_at_a_time}
use Rattle.spec_protocol.proofs.Places.{set_else, set_again, set_here, set_same}

-- one step
pub one_keeps : (v : Server) (cells : List Cell) (seats : List SeatState) {history : History} (st : Stands v history cells seats) → LocksAskedFor st → (j : ℕ) (s t : SeatState) → get_elem? seats j ≡ some s → (step : Alone v s t) → StandsDone v j history (map did (alone_acts step)) cells (slice_set seats j t)
one_keeps v cells seats st asked j s t there step = let q = alone_keeps v cells seats st j s there t step in
    after_acts v q (stay_asked v st asked q (alone_none step) (ap (λ (l : LedgerCell). defs_of (serial v.reads l.items)) (sym (same_ledger v st q.stands refl))) (λ n lock has. inl has))

pub step_one : (v : Server) (cells : List Cell) (seats : List SeatState) {history : History} (st : Stands v history cells seats) → LocksAskedFor st → LocksAreRequested v (contents cells) seats → (j : ℕ) (s t : SeatState) → get_elem? seats j ≡ some s → (step : Alone v s t) → (Q : Type 0) → (Q → InactiveExcept seats j)
    → OneSeat v history (map did (alone_acts step)) (alone_lines step) cells (slice_set seats j t) (names_of t) Q
step_one v cells seats st asked wanted j s t there step Q quiet = let d = one_keeps v cells seats st asked j s t there step in
    one_did v d (alone_requested v cells seats st wanted j s there t step) (alone_decides v st j s there t step d.events d.are d.stands) t (set_here seats j t s there) Q (λ q. alone_one_at_a_time v st j s there (quiet q) t step d) (alone_follows v st j s there t step d)

pub one_next : (v : Server) (cells : List Cell) (seats : List SeatState) {history : History} (st : Stands v history cells seats) → LocksAskedFor st → LocksAreRequested v (contents cells) seats → (j : ℕ) (s t : SeatState) → get_elem? seats j ≡ some s → (step : Alone v s t) → StandsNext v j history (map did (alone_acts step)) (alone_lines step) cells (slice_set seats j t)
one_next v cells seats st asked wanted j s t there step = let d = one_keeps v cells seats st asked j s t there step in record {
  done = d;
  locks_are_requested = alone_requested v cells seats st wanted j s there t step;
  follows = alone_follows v st j s there t step d;
  locks_decide = alone_decides v st j s there t step d.events d.are d.stands;
}

did_append : (xs ys : List SessionAct) → map did (xs ++ ys) ≡ map did xs ++ map did ys
did_append [] ys = refl
did_append (x ∷ xs) ys = ap (λ (ds : List AnonymousAct). did x ∷ ds) (did_append xs ys)

-- the others are quiet still
pub quiet_then : (seats : List SeatState) (j : ℕ) (t : SeatState) → InactiveExcept seats j → InactiveExcept (slice_set seats j t) j
quiet_then seats j t quiet k u ne e = quiet k u ne (sym (set_else seats j k t ne) ∙ e)

pub alones_one : (v : Server) (cells : List Cell) (seats : List SeatState) {history : History} (st : Stands v history cells seats) → LocksAskedFor st → LocksAreRequested v (contents cells) seats → (j : ℕ) (s t : SeatState) → get_elem? seats j ≡ some s → (steps : Alones v s t)
    → OneSeat v history (map did (alones_acts steps)) (alones_lines steps) cells (slice_set seats j t) (names_of t) (InactiveExcept seats j)
alones_one v cells seats {history} st asked wanted j s _ there none = subst (λ (us : List SeatState). OneSeat v history [] [] cells us (names_of s) (InactiveExcept seats j)) (sym (set_same seats j s there)) (none_did v st asked wanted (names_of s) (InactiveExcept seats j))
alones_one v cells seats {history} st asked wanted j s _ there (more {t} {u} steps last) = let w = alones_one v cells seats st asked wanted j s t there steps in
    subst (λ (ds : List AnonymousAct). OneSeat v history ds (alones_lines steps ++ alone_lines last) cells (slice_set seats j u) (names_of u) (InactiveExcept seats j)) (sym (did_append (alones_acts steps) (alone_acts last)))
    (one_on v w (alone_names v t u last).keeps (subst (λ (us : List SeatState). OneSeat v (history ++ w.goes.events) (map did (alone_acts last)) (alone_lines last) cells us (names_of u) (InactiveExcept seats j)) (set_again seats j t u)
    (step_one v cells (slice_set seats j t) w.goes.stands w.goes.locks_were_asked w.goes.locks_are_requested j t u (set_here seats j t s there) last (InactiveExcept seats j) (quiet_then seats j t))))
