use Rattle.std.proofs.Common.{◌∙◌, ◌∷◌, [], Ok, ℕ, arith, subst}
use Rattle.std.proofs.lemmas.Grind.{common_steps}
use Rattle.base_io.specs.History.{Adds}
use Rattle.cli_audit.specs.Calls.{Moved, failed}
use Rattle.cli_audit.proofs.CallLemmas.{since_more, since_end}
use Rattle.cli_audit.proofs.TransferLemmas.{came_on, came_short, came_past, too_much}
use Rattle.cli_audit.proofs.transfer.read_input.Goals as goal

pub returns-then-is_err-clause-came : goal.returns-then-is_err-clause-came
returns-then-is_err-clause-came g c =
    came_short _ _ _ _ _ _ c.loop-n.invariant.0 c.in-Ok.ensures.bytes (grind (arith, common_steps))

pub returns-then-len-gt-INPUT_LIMIT-clause-came : goal.returns-then-len-gt-INPUT_LIMIT-clause-came
returns-then-len-gt-INPUT_LIMIT-clause-came g c =
    came_past _ _ _ _ _ _ c.loop-n.invariant.0 c.in-Ok.ensures.bytes (grind (arith, common_steps))

pub returns-in-Err-clause-reads : goal.returns-in-Err-clause-reads
returns-in-Err-clause-reads g c = since_end _ _ _ Moved failed c.loop-n.invariant.4 c.in-Err.ensures.answered

pub returns-then-n-eq0-clause-reads : goal.returns-then-n-eq0-clause-reads
returns-then-n-eq0-clause-reads g c =
    let P : ℕ → Type 0 = λ n. Adds (g.S.Source.history c.loop-n.source) (g.S.Source.history c.read.new.self) (Ok n ∷ []) in
    since_end _ _ _ Moved (Ok 0) c.loop-n.invariant.4 (subst P c.if-n-eq0.true c.in-Ok.ensures.answered)

pub returns-then-is_err-clause-reads : goal.returns-then-is_err-clause-reads
returns-then-is_err-clause-reads g c = since_more _ _ _ Moved (Ok c.in-Ok.n) c.loop-n.invariant.4 c.in-Ok.ensures.answered (omega arith)

pub returns-then-len-gt-INPUT_LIMIT-clause-reads : goal.returns-then-len-gt-INPUT_LIMIT-clause-reads
returns-then-len-gt-INPUT_LIMIT-clause-reads g c = since_more _ _ _ Moved (Ok c.in-Ok.n) c.loop-n.invariant.4 c.in-Ok.ensures.answered (omega arith)

pub loop-n-preserved : goal.loop-n-preserved
loop-n-preserved g c = (
  came_on _ _ _ _ _ _ c.in-Ok.n c.loop-n.invariant.0 c.in-Ok.ensures.bytes (grind (arith, common_steps)),
  grind (arith, common_steps),
  c.in-Ok.ensures.calm ∙ c.loop-n.invariant.2,
  grind (arith, common_steps),
  since_more _ _ _ Moved (Ok c.in-Ok.n) c.loop-n.invariant.4 c.in-Ok.ensures.answered (omega arith),
)

pub returns-then-len-gt-INPUT_LIMIT-clause-beyond : goal.returns-then-len-gt-INPUT_LIMIT-clause-beyond
returns-then-len-gt-INPUT_LIMIT-clause-beyond g c is =
    too_much _ _ (came_past _ _ _ _ _ _ c.loop-n.invariant.0 c.in-Ok.ensures.bytes (grind (arith, common_steps)))
