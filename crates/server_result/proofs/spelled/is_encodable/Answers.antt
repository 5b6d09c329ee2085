use Rattle.std.proofs.Common.{arith}
use Rattle.server_result.proofs.Forms.{journal_is_encodable}
use Rattle.server_result.proofs.spelled.is_encodable.Goals as goal

pub returns : goal.returns
returns c reads legal =
    journal_is_encodable c.args.journal.now (c.legal_journals_keep_the_rules.ensures.journal reads c.args.journal.now legal) (rw c.as_slice.ensures at c.texts_are_encodable.ensures) (omega (arith, c.len-count.ensures))
