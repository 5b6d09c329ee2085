use Rattle.std.proofs.Common.{◌∙◌}
use Rattle.format_journal.proofs.Texts.{text_is, no_text}
use Rattle.format_journal.proofs.reading.text_at.Goals as goal

pub returns-in_ok-of_str-in-Ok : goal.returns-in_ok-of_str-in-Ok
returns-in_ok-of_str-in-Ok c =
    text_is c.args.bytes.now c.in_ok-text.text.now c.in_ok-of_str-in-Ok.field-0 c.in_ok-text.rest.now c.in_ok-text.ensures c.in-Ok.ensures.cases.1 (c.in_ok-of_str-in-Ok.ensures ∙ c.in-Ok.ensures.cases.0)

pub returns-in-Err : goal.returns-in-Err
returns-in-Err c = no_text c.args.bytes.now c.in_ok-text.text.now c.in_ok-text.rest.now c.in_ok-text.ensures c.in-Err.ensures.cases.0
