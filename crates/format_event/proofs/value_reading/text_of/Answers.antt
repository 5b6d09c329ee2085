use Rattle.std.proofs.Common.{◌∙◌}
use Rattle.format_event.proofs.Texts.{text_is, no_text}
use Rattle.format_event.proofs.value_reading.text_of.Goals as goal

pub returns-in_ok-text-in-Ok : goal.returns-in_ok-text-in-Ok
returns-in_ok-text-in-Ok c = text_is c.args.bytes.now c.in_ok-text-in-Ok.text c.in-Ok.ensures.cases.1 (c.in_ok-text-in-Ok.ensures ∙ c.in-Ok.ensures.cases.0)

pub returns-in-Err : goal.returns-in-Err
returns-in-Err c = no_text c.args.bytes.now c.in-Err.ensures.cases.0
