use Rattle.std.proofs.Common.{◌++◌, [], ◌∷◌, take, sym, ap, subst, ◌∙◌}
use Rattle.server_session.specs.ControlPoints.{IsBetween}
use Rattle.server_thread.specs.Seated.{texts_in}
use Rattle.server_engine.proofs.Calls.{when_err}
use Rattle.server_thread.proofs.Going.{starts_ahead}
use Rattle.server_thread.proofs.Seating.{same_ahead, take_more}
use Rattle.server_thread.proofs.worker.Worker.start.Goals as goal

-- a statement is taken up
pub returns-clause-ahead : goal.returns-clause-ahead
returns-clause-ahead g c = λ v s serves ahead.
    let z = c.args.self.now in
    let texts = z.job.statements.now in
    let y = c.write_answer.new.self in
    let same = c.write_answer.ensures.same in
    let st = c.start.ensures in
    starts_ahead g.H.Hash32.digest g.C.Clock.says z.job v serves y z.taken s
    (same_ahead g.H.Hash32.digest g.C.Clock.says z.job v z.session y z.taken s ahead same)
    (subst IsBetween (sym same.seat) c.requires.between) c.in_ok-write_answer.ensures.answer
    c.in_ok-text.text c.moment-now.result c.start.new.self st.starts st.inside st.started st.name st.text c.moment-now.ensures.said
    (take_more texts z.taken _ c.requires.more
    ∙ ap (λ t. take z.taken (texts_in texts) ++ t ∷ []) (sym c.in_ok-text.ensures))

-- or isn't
pub returns-in_err-write_answer-clause-ahead : goal.returns-in_err-write_answer-clause-ahead
returns-in_err-write_answer-clause-ahead g c = λ v s serves ahead.
    let z = c.args.self.now in
    same_ahead g.H.Hash32.digest g.C.Clock.says z.job v z.session c.write_answer.new.self z.taken s ahead c.write_answer.ensures.same

pub returns-in_err-write_answer-clause-between : goal.returns-in_err-write_answer-clause-between
returns-in_err-write_answer-clause-between g c = when_err c.from_residual.result
    (subst IsBetween (sym c.write_answer.ensures.same.seat) c.requires.between)

pub returns-in_err-text-clause-ahead : goal.returns-in_err-text-clause-ahead
returns-in_err-text-clause-ahead g c = λ v s serves ahead.
    let z = c.args.self.now in
    same_ahead g.H.Hash32.digest g.C.Clock.says z.job v z.session c.write_answer.new.self z.taken s ahead c.write_answer.ensures.same

pub returns-in_err-text-clause-between : goal.returns-in_err-text-clause-between
returns-in_err-text-clause-between g c = when_err c.from_residual-in_err-text.result
    (subst IsBetween (sym c.write_answer.ensures.same.seat) c.requires.between)
