use Rattle.std.proofs.Common.{sym}
use Rattle.std.proofs.lemmas.Result.{IfOk-weaker}
use Rattle.audit_any_receipt.proofs.Given.{given_under}
use Rattle.audit_any_receipt.proofs.Held.{last_fits}
use Rattle.audit_any_receipt.proofs.make.make_any.Goals as goal

pub make_under-requires-clause-chain : goal.make_under-requires-clause-chain
make_under-requires-clause-chain g c κs within =
    (last_fits (g.H.Hash32.digest c.args.h) c.args.image.now c.args.held.now c.in-Some.newest.now c.requires.accepted (sym c.in-Some.ensures)).chain

pub make_under-requires-clause-blocks : goal.make_under-requires-clause-blocks
make_under-requires-clause-blocks g c κs within =
    (last_fits (g.H.Hash32.digest c.args.h) c.args.image.now c.args.held.now c.in-Some.newest.now c.requires.accepted (sym c.in-Some.ensures)).blocks

pub make_under-requires-clause-block : goal.make_under-requires-clause-block
make_under-requires-clause-block g c κs within =
    (last_fits (g.H.Hash32.digest c.args.h) c.args.image.now c.args.held.now c.in-Some.newest.now c.requires.accepted (sym c.in-Some.ensures)).digest.block

pub returns-clause-made : goal.returns-clause-made
returns-clause-made g c =
    IfOk-weaker c.make_under.result _ _
    (λ r made. given_under (g.H.Hash32.digest c.args.h) c.args.image.now c.args.held.now c.in-Some.newest.now c.requires.image c.requires.accepted (sym c.in-Some.ensures) c.args.wanted c.least_to.result r c.least_to.ensures.is made)
    c.make_under.ensures.made
