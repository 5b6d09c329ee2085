use Rattle.law_literals.proofs.Stored.{written_for}
use Rattle.law_literals.proofs.laws.stored_values_are_written_as_literals.Goals as goal

pub returns : goal.returns
returns c = written_for c.literals_are_read_back.ensures.written c.conversion_is_stored.ensures.kept
    c.literals_are_read_back.ensures.days c.days_are_read_back.ensures.read
