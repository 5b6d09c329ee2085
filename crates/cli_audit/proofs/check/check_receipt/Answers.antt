use Rattle.std.proofs.Common.{◌∙◌, sym}
use Rattle.cli_audit.proofs.CheckLemmas.{shows_claim}
use Rattle.cli_audit.proofs.check.check_receipt.Goals as goal

pub returns-then-is_yes-clause-shows : goal.returns-then-is_yes-clause-shows
returns-then-is_yes-clause-shows g c = λ done.
    let h = g.H.Hash32.digest c.args.h in
    let old = g.V.Vault.names c.args.vault.now in
    let sized = (g.met.H.Hash32 g.world.𝓛 g.world.𝓜 g.world.𝓡 ((λ s x. x), (λ x. x), (λ x. x), λ x. x)).sized c.args.h in
    shows_claim c.accepted_receipts_are_never_contradicted.ensures h sized c.args.receipt.now c.args.digests.now old c.in-Ok.answer
    (sym c.is_yes.ensures ∙ c.if-is_yes.true) c.in-Ok.ensures.checked
