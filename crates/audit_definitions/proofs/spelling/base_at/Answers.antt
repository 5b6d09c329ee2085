use Rattle.std.proofs.Common.{sym, ◌∙◌}
use Rattle.audit_definitions.proofs.Encoded.{base_some, base_none}
use Rattle.audit_definitions.proofs.spelling.base_at.Goals as goal

pub returns-in-Some : goal.returns-in-Some
returns-in-Some c = c.as_slice.ensures ∙ base_some c.args.image.now.tables c.args.place c.in-Some.rows.now (sym c.in-Some.ensures.value)

pub returns-in-None : goal.returns-in-None
returns-in-None c = base_none c.args.image.now.tables c.args.place (sym c.in-None.ensures.value)
