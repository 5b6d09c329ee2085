use Rattle.std.proofs.Common.{◌∙◌}
use Rattle.cli_commands.proofs.AnswerLemmas.{ran_by}
use Rattle.cli_commands.proofs.SavedLemmas.{saves_is}
use Rattle.cli_commands.proofs.saved.save_and_write.Goals as goal

pub returns-clause-saved : goal.returns-clause-saved
returns-clause-saved g c =
    ran_by c.put_and_write.result _ _ _ _ c.put_and_write.ensures.cause
    (saves_is _ c.args.ran c.requires _ c.in-Ok.ensures.files c.put_and_write.result _ _ _ _ _ _
    c.as_slice.ensures (c.bytes.ensures.value ∙ c.in-Ok.ensures.text) c.put_and_write.ensures.put c.put_and_write.ensures.written)
