use Rattle.std.proofs.Common.{ap, sym, ◌∙◌}
use Rattle.std.specs.Prelude.{pos}
use Rattle.spec_model.specs.Rows.{values_of}
use Rattle.audit_definitions.specs.Numbers.{about_number}
use Rattle.audit_definitions.proofs.FirstValues.{about_of}
use Rattle.audit_definitions.proofs.items.is_about.Goals as goal

pub returns : goal.returns
returns c = c.is_table.ensures ∙ ap (about_number (pos c.args.id)) c.table_of.ensures ∙ sym (about_of (pos c.args.id) (values_of c.args.version.now))
