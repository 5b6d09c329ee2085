use Rattle.std.proofs.Common.{sym, ◌∙◌}
use Rattle.audit_verify.proofs.VerdictParts.{first_decides, second_decides}
use Rattle.audit_definitions.proofs.Verdicts.{same_ok}
use Rattle.audit_verify.proofs.verdict.verify_image.Goals as goal

pub returns-in-Yes : goal.returns-in-Yes
returns-in-Yes g c =
    same_ok _ _ _ (second_decides (g.H.Hash32.digest c.args.hasher) c.args.image.now c.args.digests.now (sym c.in_ok-no.ensures ∙ c.in-Yes.is))
    c.verify_tables.ensures

pub returns-in_default : goal.returns-in_default
returns-in_default g c =
    first_decides (g.H.Hash32.digest c.args.hasher) c.args.image.now c.args.digests.now c.in_ok-no.no c.in_ok-no.ensures c.in_default.not-Yes
