use Rattle.std.proofs.Common.{◌∙◌, arith, sym, ap}
use Rattle.sql_check.specs.NameSet.{has}
use Rattle.sql_check.proofs.NameSets.{known, stands_behind}
use Rattle.sql_check.proofs.names.many_repeat.Goals as goal

pub returns-then-not-branch : goal.returns-then-not-branch
returns-then-not-branch g c =
    let named = g.T.Named.named in
    let there = known (has c.loop-at.behind c.name.result.now) _ c.in_ok-add_name.ensures.new c.if-not-branch.true in
    sym (stands_behind named c.args.items.now c.loop-at.at c.index-items-at.result (omega (arith, c.loop-at-test.true)) c.loop-at.invariant.within c.index-items-at.is
    (sym (c.loop-at.invariant.behind (named c.index-items-at.result)) ∙ (ap (has c.loop-at.behind) (sym c.name.ensures) ∙ there)))
