use Rattle.std.proofs.Common.{◌∙◌, arith}
use Rattle.format_journal.specs.JournalReading.{journal_at}
use Rattle.format_journal.proofs.JournalExact.{found_of, only_of}
use Rattle.format_journal.proofs.reading.read_journal.Goals as goal

pub returns-clause-found : goal.returns-clause-found
returns-clause-found c =
    found_of c.args.bytes.now c.in_ok-found.found (λ i. omega (arith, c.type_inv.bytes i)) (c.in_ok-found.ensures.ok journal_at c.args.bytes.now c.journal_at.ensures)

pub returns-clause-only : goal.returns-clause-only
returns-clause-only c = λ j is same. c.in_ok-found.ensures.ok journal_at c.args.bytes.now c.journal_at.ensures ∙ only_of c.args.bytes.now j is same
