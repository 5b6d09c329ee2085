use Rattle.std.proofs.Common.{◌<◌, ◌∙◌, ◌∷◌, [], ℕ, Ok, inl, inr, subst, arith}
use Rattle.std.proofs.Math.Seq.{take-add}
use Rattle.std.proofs.lemmas.Grind.{common_steps}
use Rattle.base_io.specs.History.{Adds, EndsAt}
use Rattle.cli_audit.specs.Calls.{Moved, failed, StopsWriting}
use Rattle.cli_audit.proofs.CallLemmas.{since_more, since_end, since_weaker, on_err}
use Rattle.cli_audit.proofs.TransferLemmas.{taken_next, rest_whole}
use Rattle.cli_audit.proofs.transfer.write_all.Goals as goal

pub loop-at-preserved : goal.loop-at-preserved
loop-at-preserved g c =
    let whole = rest_whole c.loop-at.at c.args.bytes.now in
    let within = rw whole at c.in_ok-n.ensures.within in
    let taken = rw whole at c.in_ok-n.ensures.taken in
    let some : 0 < c.in_ok-n.n = omega arith in
    (taken_next _ _ _ _ _ _ (take-add c.loop-at.at c.in_ok-n.n c.args.bytes.now) c.loop-at.invariant.0 taken, grind (arith, common_steps, within), c.in_ok-n.ensures.calm ∙ c.loop-at.invariant.2, c.in_ok-n.ensures.flowing some ∙ c.loop-at.invariant.3, since_more _ _ _ Moved (Ok c.in_ok-n.n) c.loop-at.invariant.4 c.in_ok-n.ensures.answered some)

pub returns-in_err-n-clause-some_writes : goal.returns-in_err-n-clause-some_writes
returns-in_err-n-clause-some_writes g c =
    on_err c.from_residual.result (since_weaker _ _ (EndsAt Moved failed) StopsWriting (λ answers end. inl end)
    (since_end _ _ _ Moved failed c.loop-at.invariant.4 c.in_err-n.ensures.answered))

pub returns-then-n-eq0-clause-some_writes : goal.returns-then-n-eq0-clause-some_writes
returns-then-n-eq0-clause-some_writes g c =
    let P : ℕ → Type 0 = λ n. Adds (g.K.Sink.history c.loop-at.sink) (g.K.Sink.history c.write.new.self) (Ok n ∷ []) in
    since_weaker _ _ (EndsAt Moved (Ok 0)) StopsWriting (λ answers end. inr end)
    (since_end _ _ _ Moved (Ok 0) c.loop-at.invariant.4 (subst P c.if-n-eq0.true c.in_ok-n.ensures.answered))
