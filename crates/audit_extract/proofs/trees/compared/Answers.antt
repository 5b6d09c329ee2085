use Rattle.std.proofs.Common.{refl, sym, ◌∙◌, ◌≢◌}
use Rattle.audit_extract.proofs.Halves.{collides}
use Rattle.audit_extract.proofs.trees.compared.Goals as goal

pub returns-clause-finds : goal.returns-clause-finds
returns-clause-finds g c =
    let ne : c.in_ok-first.first ≢ c.in_ok-second.second = λ e. c.if-is_equal.ensures.differ refl (c.bytes.ensures ∙ e ∙ sym c.bytes-2.ensures) in
    collides (g.H.Hash32.digest c.args.h) c.args.a.now c.args.b.now _ _ c.requires.same c.in_ok-first.ensures c.in_ok-second.ensures ne
