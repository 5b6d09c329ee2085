use Rattle.std.proofs.Common.{arith, inl, inr, ⊎_elim}
use Rattle.server_engine.specs.CoreInput.{at_end}
use Rattle.server_step.proofs.Steps.{open_behind, over_more}
use Rattle.server_step.proofs.sessions.end_sessions.Goals as goal

pub loop-session-init : goal.loop-session-init
loop-session-init g c = ((λ h a m. inl m), (λ j less. absurd (omega (arith, less))), λ j above less. c.requires.open j less)

pub end_session-requires-clause-standing : goal.end_session-requires-clause-standing
end_session-requires-clause-standing g c κs within =
    let s = c.requires.standing in
    ⊎_elim
    (λ m. record { h = s.h; a = s.a; stands = m })
    (λ m. record { h = s.h; a = at_end s.a; stands = m })
    (c.loop-session.invariant.0 s.h s.a s.stands)

pub end_session-requires-clause-open : goal.end_session-requires-clause-open
end_session-requires-clause-open g c κs within = c.loop-session.invariant.2 c.loop-session.session (omega arith) c.loop-session-test.true

pub loop-session-preserved : goal.loop-session-preserved
loop-session-preserved g c =
    let step = c.end_session.ensures in
    let core = c.loop-session.core in
    let then_core = c.end_session.new.self in
    let session = c.loop-session.session in (
      (λ h a m. ⊎_elim (λ s. inr (step.stands h a s)) (λ s. inr (step.stands h (at_end a) s)) (c.loop-session.invariant.0 h a m)),
      over_more core then_core session step.others step.ended c.loop-session.invariant.1,
      open_behind core then_core session step.others c.args.count c.loop-session.invariant.2,
    )

pub returns-clause-stands : goal.returns-clause-stands
returns-clause-stands g c = c.loop-session.invariant.0

pub returns-clause-ended : goal.returns-clause-ended
returns-clause-ended g c j less = c.loop-session.invariant.1 j (omega (arith, less, c.loop-session-test.false))
