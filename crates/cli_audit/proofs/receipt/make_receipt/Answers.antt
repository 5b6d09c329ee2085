use Rattle.cli_audit.specs.declared.receipt.Shown.TheVariants.{Made, Refused}
use Rattle.cli_audit.specs.Receipt.{HasReceipt, IsShown}
use Rattle.cli_audit.specs.Verify.{IsJudged}
use Rattle.cli_audit.proofs.ReceiptLemmas.{receipted_is, puts_receipt, made_by, cause_refusing, said_refusing}
use Rattle.cli_audit.proofs.ReplayLemmas.{calls_by}
use Rattle.cli_audit.proofs.receipt.make_receipt.Goals as goal

-- a receipt was made

pub returns-in-Ok-Made-clause-receipted : goal.returns-in-Ok-Made-clause-receipted
returns-in-Ok-Made-clause-receipted g c =
    let h = g.H.Hash32.digest c.args.h in
    let old = g.V.Vault.names c.args.vault.now in
    let shown : IsShown h c.args.image.now c.args.digests.now c.args.wanted old (Made c.in-Ok-Made.receipt) = rw c.in-Ok-Made.field-0-is at c.in-Ok-Made.ensures.shown in
    let has : HasReceipt h c.args.image.now c.args.digests.now c.args.wanted old = record { r = c.in-Ok-Made.receipt; on = shown } in
    made_by c.save_receipt-ended.result _ _ _ _ _ c.save_receipt-ended.ensures.cause
    (receipted_is h c.args.image.now c.args.digests.now c.args.wanted c.args.save.now old _ _ has c.in-Ok-Made.ensures.same c.save_receipt-ended.result c.save_receipt-ended.ensures.put _ _ c.save_receipt-ended.ensures.written)

pub returns-in-Ok-Made-clause-shown : goal.returns-in-Ok-Made-clause-shown
returns-in-Ok-Made-clause-shown g c =
    let h = g.H.Hash32.digest c.args.h in
    let old = g.V.Vault.names c.args.vault.now in
    let shown : IsShown h c.args.image.now c.args.digests.now c.args.wanted old (Made c.in-Ok-Made.receipt) = rw c.in-Ok-Made.field-0-is at c.in-Ok-Made.ensures.shown in
    let has : HasReceipt h c.args.image.now c.args.digests.now c.args.wanted old = record { r = c.in-Ok-Made.receipt; on = shown } in
    puts_receipt h c.args.image.now c.args.digests.now c.args.wanted c.args.save.now old _ _ has c.in-Ok-Made.ensures.same c.save_receipt-ended.result c.save_receipt-ended.ensures.put

pub returns-in-Ok-Made-clause-calls : goal.returns-in-Ok-Made-clause-calls
returns-in-Ok-Made-clause-calls g c =
    calls_by _ _ _ 2 c.save_receipt-ended.result _ _ c.save_receipt-ended.ensures.cause c.in-Ok-Made.ensures.gave c.save_receipt-ended.ensures.puts

-- the verdict isn't Yes

pub returns-in-Ok-Refused-clause-cause : goal.returns-in-Ok-Refused-clause-cause
returns-in-Ok-Refused-clause-cause g c =
    let h = g.H.Hash32.digest c.args.h in
    let old = g.V.Vault.names c.args.vault.now in
    let shown : IsShown h c.args.image.now c.args.digests.now c.args.wanted old (Refused c.in-Ok-Refused.verdict) = rw c.in-Ok-Refused.field-0-is at c.in-Ok-Refused.ensures.shown in
    let judged : IsJudged h c.args.image.now c.args.digests.now old c.in-Ok-Refused.verdict =
    record { bytes = shown.bytes; file = shown.file; are_in_vault = shown.are_in_vault; on = shown.such.1 } in
    cause_refusing c.in-Ok-Refused.verdict _ _ _ _ c.refuse.result c.refuse.ensures.ends h c.args.image.now c.args.digests.now old shown.such.0 judged c.args.wanted _

pub returns-in-Ok-Refused-clause-receipted : goal.returns-in-Ok-Refused-clause-receipted
returns-in-Ok-Refused-clause-receipted g c =
    let h = g.H.Hash32.digest c.args.h in
    let old = g.V.Vault.names c.args.vault.now in
    let shown : IsShown h c.args.image.now c.args.digests.now c.args.wanted old (Refused c.in-Ok-Refused.verdict) = rw c.in-Ok-Refused.field-0-is at c.in-Ok-Refused.ensures.shown in
    let judged : IsJudged h c.args.image.now c.args.digests.now old c.in-Ok-Refused.verdict =
    record { bytes = shown.bytes; file = shown.file; are_in_vault = shown.are_in_vault; on = shown.such.1 } in
    said_refusing c.in-Ok-Refused.verdict _ _ _ _ c.refuse.result c.refuse.ensures.ends h c.args.image.now c.args.digests.now old shown.such.0 judged _ _ c.in-Ok-Refused.ensures.same
