use Rattle.audit_verify.proofs.Strangers.{two_events}
use Rattle.audit_verify.proofs.ids.lesser_of.Goals as goal

pub returns-in-Some : goal.returns-in-Some
returns-in-Some c =
    two_events c.args.entries.now.all.now c.args.table c.args.version.now c.in-Some.end c.args.best c.lesser_at-best.result c.lesser_at.result
    c.in-Some.is c.lesser_at-best.ensures c.lesser_at.ensures
