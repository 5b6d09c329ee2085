use Rattle.std.proofs.Common.{arith, ◌≡◌, ◌+◌, ◌∷◌, length, ap, ◌∙◌}
use Rattle.sql_apply.proofs.Steps.{still_left, before_still, none_left}
use Rattle.sql_apply.proofs.changing.carry_out.Goals as goal

pub loop-change-preserved : goal.loop-change-preserved
loop-change-preserved c =
    let was = c.loop-change.change-iterator.rest.items in
    let rest = c.next.new.self.rest.items in
    let next : was ≡ c.in-Some.change ∷ rest = c.in-Some.ensures.steps.0 in
    let more : length was ≡ length rest + 1 = ap length next ∙ omega arith in
    record {
      room = omega (arith, more, c.loop-change.invariant.room);
      are_before = before_still c.args.tx c.loop-change.number c.in-Some.change was rest c.loop-change.versions.items c.carry_out_one.new.versions.items next c.in_ok-carry_out_one.ensures c.loop-change.invariant.are_before;
      left = still_left c.args.tx c.loop-change.number c.in-Some.change was rest c.loop-change.versions.items c.carry_out_one.new.versions.items next c.in_ok-carry_out_one.ensures _ c.loop-change.invariant.left;
    }

pub returns : goal.returns
returns c =
    let rest = c.loop-change.change-iterator.rest in
    none_left c.args.tx c.loop-change.number rest.items c.loop-change.versions.items (omega (arith, c.in-None.ensures.steps.0, rest.ok.0)) ∙ c.loop-change.invariant.left
