use Rattle.std.proofs.Common.{ap, sym, ◌∙◌}
use Rattle.spec_model.specs.Rows.{values_of}
use Rattle.audit_definitions.specs.Numbers.{before_number}
use Rattle.audit_definitions.proofs.FirstValues.{before_of}
use Rattle.audit_definitions.proofs.names.is_before.Goals as goal

pub returns : goal.returns
returns c = c.is_less.ensures ∙ ap (before_number c.args.id) c.table_of.ensures ∙ sym (before_of c.args.id (values_of c.args.version.now))
