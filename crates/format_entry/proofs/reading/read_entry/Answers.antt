use Rattle.std.proofs.Common.{◌∙◌, arith}
use Rattle.format_entry.specs.EntryReading.{entry_at}
use Rattle.format_entry.proofs.EntryExact.{found_of, only_of}
use Rattle.format_entry.proofs.reading.read_entry.Goals as goal

pub returns-clause-found : goal.returns-clause-found
returns-clause-found c =
    found_of c.args.bytes.now c.in_ok-found.found (λ i. omega (arith, c.type_inv.bytes i)) (c.in_ok-found.ensures.ok entry_at c.args.bytes.now c.entry_at.ensures)

pub returns-clause-only : goal.returns-clause-only
returns-clause-only c = λ e is same. c.in_ok-found.ensures.ok entry_at c.args.bytes.now c.entry_at.ensures ∙ only_of c.args.bytes.now e is same
