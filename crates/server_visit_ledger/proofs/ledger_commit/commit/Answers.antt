use Rattle.server_visit_ledger.proofs.LedgerCommits.{commits, quiet_ends, lacks_commit}
use Rattle.server_visit_ledger.proofs.ledger_commit.commit.Goals as goal

pub returns-in-Ok-Some : goal.returns-in-Ok-Some
returns-in-Ok-Some g c = let tried = rw c.in-Ok-Some.field-0-is at c.in-Ok-Some.ensures.ok in
    commits g.H.Hash32.digest c.args.seat.now c.fix_commit.new.seat c.args.ledger.now c.try_commit.new.ledger c.requires.work c.in-Ok-Some.place tried c.fix_commit.ensures c.requires.among

pub returns-in-Ok-None : goal.returns-in-Ok-None
returns-in-Ok-None g c = let tried = rw c.in-Ok-None.field-0-is at c.in-Ok-None.ensures.ok in
    quiet_ends g.H.Hash32.digest c.args.seat.now c.fix_end.new.seat c.args.ledger.now c.try_commit.new.ledger c.requires.work c.point.result c.point.ensures tried c.fix_end.ensures c.requires.among

pub returns-in-Err : goal.returns-in-Err
returns-in-Err g c =
    lacks_commit g.H.Hash32.digest c.args.seat.now c.lack_commit.new.seat c.args.ledger.now c.try_commit.new.ledger c.requires.work c.point-in-Err.result c.point-in-Err.ensures c.in-Err.ensures.err c.lack_commit.ensures c.requires.among
