use Rattle.std.proofs.Common.{◌∙◌, arith}
use Rattle.format_receipt.specs.ReceiptReading.{receipt_at}
use Rattle.format_receipt.proofs.ReceiptExact.{receipt_found, receipt_only}
use Rattle.format_receipt.proofs.reading.read_receipt.Goals as goal

pub returns-clause-found : goal.returns-clause-found
returns-clause-found c =
    receipt_found c.args.bytes.now c.in_ok-found.found (λ i. omega (arith, c.type_inv.bytes i)) (c.in_ok-found.ensures.ok receipt_at c.args.bytes.now c.receipt_at.ensures)

pub returns-clause-only : goal.returns-clause-only
returns-clause-only c = λ r is same. c.in_ok-found.ensures.ok receipt_at c.args.bytes.now c.receipt_at.ensures ∙ receipt_only c.args.bytes.now r is same
