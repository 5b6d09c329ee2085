use Rattle.std.proofs.Common.{refl, arith}
use Rattle.audit_verify.proofs.InRuns.{at_first, next_known}
use Rattle.audit_verify.proofs.order.earlier_at.Goals as goal

pub returns-then-k-eq0 : goal.returns-then-k-eq0
returns-then-k-eq0 c = at_first c.args.table.now.columns c.args.ranked.now c.args.k _ c.requires.order c.requires.within (omega (arith, c.if-k-eq0.true)) refl refl refl

pub returns : goal.returns
returns c =
    next_known c.args.table.now.columns c.args.ranked.now c.args.k c.index-ranked-k.result c.index-ranked-k-2.result c.args.before.now c.earlier_behind.result
    c.requires.order c.requires.within (omega (arith, c.if-k-eq0.false)) c.index-ranked-k.is c.index-ranked-k-2.is c.requires.before c.earlier_behind.ensures
