use Rattle.std.proofs.Common.{◌∙◌, sym}
use Rattle.store_locks.proofs.Steps.{after_more, after_all, grown, longer}
use Rattle.store_locks.proofs.list.LockList.take_all.Goals as goal

pub loop-request-preserved : goal.loop-request-preserved
loop-request-preserved c =
    let w = c.request-item.result in
    rw (c.in_ok-take.ensures.ok) (record {
      after = sym (after_more c.loop-request.self c.args.tx c.args.requests.now c.loop-request.request-index w c.loop-request-test.true c.request-item.is) ∙ c.loop-request.invariant.after;
      grows = grown c.args.self.now c.loop-request.self c.args.tx w c.loop-request.invariant.grows c.loop-request.invariant.longer;
      longer = longer c.args.self.now c.loop-request.self c.args.tx w c.loop-request.invariant.longer;
    })

pub returns-clause-ok : goal.returns-clause-ok
returns-clause-ok c = sym (after_all c.loop-request.self c.args.tx c.args.requests.now c.loop-request.request-index c.loop-request-test.false) ∙ c.loop-request.invariant.after
