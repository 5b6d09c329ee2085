-- Where a seat stands, as callers tell it.
use Rattle.std.specs.Prelude.{◌≡◌}
use Rattle.server_session.specs.declared.seat.Seat.{Seat}
use Rattle.server_session.specs.declared.stage.ControlPoint.{ControlPoint}
use Rattle.server_session.specs.declared.stage.ControlPoint.TheVariants.{Between, Inside, Leaving, Over}
use Rattle.server_session.specs.declared.stage.Stage.{Stage}
use Rattle.server_session.specs.declared.stage.Stage.TheVariants.{Begun, Answering as Answered}

abbrev pub IsBetweenAt : ControlPoint → Type 0
IsBetweenAt Between = Unit {0}
IsBetweenAt _ = ⊥

abbrev pub IsInsideAt : ControlPoint → Type 0
IsInsideAt (Inside stage) = Unit {0}
IsInsideAt _ = ⊥

abbrev pub IsLeavingAt : ControlPoint → Type 0
IsLeavingAt Leaving = Unit {0}
IsLeavingAt _ = ⊥

abbrev pub IsOverAt : ControlPoint → Type 0
IsOverAt Over = Unit {0}
IsOverAt _ = ⊥

abbrev pub HasReply : Stage → Type 0
HasReply (Answered a) = Unit {0}
HasReply _ = ⊥

abbrev pub IsAnsweringAt : ControlPoint → Type 0
IsAnsweringAt (Inside stage) = HasReply stage
IsAnsweringAt _ = ⊥

abbrev pub IsBegunAt : ControlPoint → Type 0
IsBegunAt (Inside Begun) = Unit {0}
IsBegunAt _ = ⊥

abbrev pub IsUnderWayAt : ControlPoint → Type 0
IsUnderWayAt (Inside Begun) = ⊥
IsUnderWayAt (Inside stage) = Unit {0}
IsUnderWayAt _ = ⊥

-- in no statement
abbrev pub IsBetween : {H : Type 0} → Seat H → Type 0
IsBetween y = IsBetweenAt y.point

-- in a statement
abbrev pub IsInside : {H : Type 0} → Seat H → Type 0
IsInside y = IsInsideAt y.point

-- in a statement whose reply is certain
abbrev pub IsAnswering : {H : Type 0} → Seat H → Type 0
IsAnswering y = IsAnsweringAt y.point

-- at the session's end, while its transaction is ended
abbrev pub IsLeaving : {H : Type 0} → Seat H → Type 0
IsLeaving y = IsLeavingAt y.point

-- the session is over
abbrev pub IsOver : {H : Type 0} → Seat H → Type 0
IsOver y = IsOverAt y.point

-- a statement is taken up, and nothing else is done
abbrev pub IsBegun : {H : Type 0} → Seat H → Type 0
IsBegun y = IsBegunAt y.point

-- a statement is taken up and read
abbrev pub IsUnderWay : {H : Type 0} → Seat H → Type 0
IsUnderWay y = IsUnderWayAt y.point

-- it stays in its statement, or at the session's end
abbrev pub IsSamePhase : ControlPoint → ControlPoint → Type 0
IsSamePhase (Inside stage) then_point = IsInsideAt then_point
IsSamePhase Leaving then_point = IsLeavingAt then_point
IsSamePhase _ then_point = ⊥

-- a visit ends neither statement nor session, and changes neither the session's name nor the statement's text
-- and moment
pub record KeepsStatement {H : Type 0} (y z : Seat H) : Type 0 where
  pub point : IsSamePhase y.point z.point
  -- nor does it lead back to the beginning of a statement
  pub begun : IsBegun z → IsBegun y
  pub started : z.started ≡ y.started
  pub name : z.name ≡ y.name
  pub text : z.text ≡ y.text
