use Rattle.format_digest.proofs.Values.{values_more}
use Rattle.format_digest.proofs.writing.values_of.Goals as goal

pub loop-digest-preserved : goal.loop-digest-preserved
loop-digest-preserved c =
    values_more c.args.list.now c.loop-digest.digest-index c.digest-item.result c.loop-digest.values.items _ c.in_ok-value_of.field-0 c.loop-digest-test.true c.digest-item.is
    c.in_ok-push.ensures.items c.loop-digest.invariant c.in_ok-value_of.ensures
