use Rattle.std.proofs.Common.{◌∙◌, arith, sym}
use Rattle.format_event.proofs.Values.{fields_count, few_some}
use Rattle.format_event.proofs.event_ref.told_of.Goals as goal

pub returns-clause-count : goal.returns-clause-count
returns-clause-count c = c.some_of.ensures ∙ sym (fields_count 1 c.args.values.now)

pub returns-clause-bound : goal.returns-clause-bound
returns-clause-bound c = let few = few_some c.args.values.now in omega (arith, few, c.some_of.ensures)
