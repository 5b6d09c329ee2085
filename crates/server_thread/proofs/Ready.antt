-- What a seat may do that needs no more visits: its statement may be answered, or its session may be over.
use Rattle.std.proofs.Common.{◌≡◌, ◌⊎◌, List, ℕ, Option, Some, None, sym, subst, inl, inr, ⊎_elim}
use Rattle.spec_protocol.specs.Seats.{SeatState}
use Rattle.server_session.specs.ControlPoints.{IsAnswering, IsBetweenAt, IsLeaving, IsUnderWay}
use Rattle.server_session.specs.Rest.{FinishesBy, IsFinishing, MayEndSession, MayEndSessionAt}
use Rattle.server_session.specs.Sits.{Sits}
use Rattle.server_session.specs.declared.running.Running.{Running}
use Rattle.server_session.specs.declared.seat.Seat.{Seat}
use Rattle.server_session.specs.declared.stage.ControlPoint.{ControlPoint}
use Rattle.server_session.specs.declared.stage.ControlPoint.TheVariants.{Between, Inside, Leaving, Over}
use Rattle.server_engine.specs.IsMidway.{WentToEnd}
use Rattle.server_engine.proofs.Calls.{still_ending}
use Rattle.server_engine.proofs.Turns.{done_answers, done_leaves, still_inside}

none_left : {H : Type 0} (p : ControlPoint) (r : Option (Running H)) → IsBetweenAt p → r ≡ None → MayEndSessionAt p r
none_left {H} Between r b e = subst (λ (q : Option (Running H)). MayEndSessionAt Between q) (sym e) tt
none_left (Inside stage) r b e = absurd b
none_left Leaving r b e = absurd b
none_left Over r b e = absurd b

-- a session comes to its end
pub finishing_ends : {H : Type 0} (r : Option (Running H)) (y z : Seat H) → FinishesBy r y z → MayEndSession z ⊎ IsLeaving z
finishing_ends None y z f = inl (none_left z.point z.running f.0 f.1)
finishing_ends (Some r) y z f = inr f

module _ {H : Type 0} (digest : H → List ℕ → List ℕ) (h : H) (z : Seat H) (s : SeatState) (w : Sits digest h z s) where
  -- its statement was under way, so its answer is there
  pub answer_there : (y : Seat H) → IsUnderWay y → WentToEnd y z → IsAnswering z
  answer_there y u w_end = let i = still_inside y z u w_end.0 in done_answers digest h z s w i.0 i.1 w_end.1

  -- its session came to its end, so it may be over
  pub may_leave : (x y : Seat H) → IsFinishing x y → WentToEnd y z → MayEndSession z
  may_leave x y f w_end = ⊎_elim (λ (e : MayEndSession z). e) (λ (l : IsLeaving z). done_leaves digest h z s w l w_end.1)
      (still_ending y z (finishing_ends x.running x y f) w_end.0)
