use Rattle.std.proofs.Common.{ap, arith}
use Rattle.server_run.proofs.Sizes.{first_weigh, one_more_weighs, size_is, weight}
use Rattle.server_run.proofs.running.statement_count.Goals as goal

pub overflow_add-count : goal.overflow_add-count
overflow_add-count c =
    let all_sections = c.args.all_sections.now in
    let all = size_is all_sections in
    let same = ap weight c.deref-session-items.ensures.value in
    let most = first_weigh c.deref-session-items.result.now c.loop-session.session-index in
    let i = c.loop-session.invariant in let few = c.requires in let n = c.len-count-in-loop-session.type_inv in omega (arith, all, same, most, i, few, n)

pub overflow_cast-result : goal.overflow_cast-result
overflow_cast-result c =
    let all_sections = c.args.all_sections.now in
    let all = size_is all_sections in
    let same = ap weight c.deref-session-items.ensures.value in
    let most = first_weigh c.deref-session-items.result.now c.loop-session.session-index in
    let i = c.loop-session.invariant in let few = c.requires in omega (arith, all, same, most, i, few)

pub returns : goal.returns
returns c =
    let all_sections = c.args.all_sections.now in
    let all = size_is all_sections in
    let same = ap weight c.deref-session-items.ensures.value in
    let most = first_weigh c.deref-session-items.result.now c.loop-session.session-index in
    let i = c.loop-session.invariant in let few = c.requires in omega (arith, all, same, most, i, few)

pub loop-session-preserved : goal.loop-session-preserved
loop-session-preserved c =
    let one = one_more_weighs c.deref-session-items.result.now c.loop-session.session-index c.session-item.result c.loop-session-test.true c.session-item.is in
    let n = c.len-count-in-loop-session.ensures in
    let i = c.loop-session.invariant in omega (arith, one, n, i)
