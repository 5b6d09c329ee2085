use Rattle.std.proofs.Common.{◌∙◌, arith}
use Rattle.format_row_receipt.specs.RowReading.{table_receipt_at}
use Rattle.format_row_receipt.proofs.RowExact.{table_found, table_only}
use Rattle.format_row_receipt.proofs.reading.read_table_receipt.Goals as goal

pub returns-clause-found : goal.returns-clause-found
returns-clause-found c =
    table_found c.args.bytes.now c.in_ok-found.found (λ i. omega (arith, c.type_inv.bytes i)) (c.in_ok-found.ensures.ok table_receipt_at c.args.bytes.now c.table_receipt_at.ensures)

pub returns-clause-only : goal.returns-clause-only
returns-clause-only c = λ r is same. c.in_ok-found.ensures.ok table_receipt_at c.args.bytes.now c.table_receipt_at.ensures ∙ table_only c.args.bytes.now r is same
