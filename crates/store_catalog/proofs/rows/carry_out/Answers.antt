use Rattle.std.proofs.Common.{arith, ◌≡◌, ◌+◌, ◌∷◌, length, ap, ◌∙◌}
use Rattle.store_catalog.proofs.Carrying.{still_before, still_left, none_left}
use Rattle.store_catalog.proofs.rows.carry_out.Goals as goal

pub loop-change-preserved : goal.loop-change-preserved
loop-change-preserved c =
    let was = c.loop-change.change-iterator.rest.items in
    let rest = c.next.new.self.rest.items in
    let next : was ≡ c.in-Some.change ∷ rest = c.in-Some.ensures.steps.0 in
    let more : length was ≡ length rest + 1 = ap length next ∙ omega arith in
    record {
      numbers = omega (arith, more, c.loop-change.invariant.numbers);
      room = omega (arith, more, c.loop-change.invariant.room, c.carry_out_one.ensures.room);
      before = still_before c.args.tx c.loop-change.number c.in-Some.change c.loop-change.rows.stored.versions c.carry_out_one.new.rows.stored.versions c.carry_out_one.ensures.versions c.loop-change.invariant.before;
      left = still_left c.args.tx c.loop-change.number c.in-Some.change was rest c.loop-change.rows.stored.versions c.carry_out_one.new.rows.stored.versions next c.carry_out_one.ensures.versions _ c.loop-change.invariant.left;
    }

pub returns : goal.returns
returns c =
    let rest = c.loop-change.change-iterator.rest in
    none_left c.args.tx c.loop-change.number rest.items c.loop-change.rows.stored.versions (omega (arith, c.in-None.ensures.steps.0, rest.ok.0)) ∙ c.loop-change.invariant.left
