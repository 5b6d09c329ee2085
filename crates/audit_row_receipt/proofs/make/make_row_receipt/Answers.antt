use Rattle.std.proofs.Common.{rules}
use Rattle.audit_row_receipt.proofs.RowsSpelled.{row_from, no_row}
use Rattle.audit_row_receipt.proofs.make.make_row_receipt.Goals as goal

pub returns-in_ok-steps-in-Some-clause-made : goal.returns-in_ok-steps-in-Some-clause-made
returns-in_ok-steps-in-Some-clause-made g c =
    row_from (g.H.Hash32.digest c.args.h) ((g.met.H.Hash32 g.world.𝓛 g.world.𝓜 g.world.𝓡 ((λ s x. x), (λ x. x), (λ x. x), λ x. x)).sized c.args.h)
    c.args.image.now c.args.tx c.args.table c.args.seq c.args.block c.in-Some.place c.in_ok-receipt.receipt c.in_ok-leaf-in-Some.leaf c.leaf_at.result.now c.in_ok-steps-in-Some.steps
    c.in_ok-leaves.leaves.items c.deref.result.now c.deref-in-Some.result.now c.deref-in-Some-2.result.now c.in_ok-place.field-0
    c.requires.image c.in_ok-receipt.ensures.made c.in_ok-leaves.ensures (search rules) c.in_ok-place.ensures c.in-Some.is c.deref.ensures.value c.leaf_at.ensures c.deref-in-Some.ensures.value
    c.in_ok-leaf-in-Some.ensures c.in_ok-steps-in-Some.ensures c.deref-in-Some-2.ensures.value

pub returns-in-None-clause-none : goal.returns-in-None-clause-none
returns-in-None-clause-none g c = λ e.
    no_row c.args.image.now c.args.tx c.args.table c.args.seq c.args.block c.in_ok-leaves.leaves.items c.deref.result.now c.in_ok-place.field-0
    c.in_ok-leaves.ensures c.in_ok-place.ensures c.in-None.is c.deref.ensures.value
