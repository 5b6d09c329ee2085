use Rattle.std.proofs.Common.{sym, ◌∙◌}
use Rattle.audit_rules.specs.Seen.{seen}
use Rattle.audit_rules.proofs.FewRows.{more_than_two}
use Rattle.audit_rules.proofs.tables.tables_are_right.Goals as goal

pub returns-then-has_many : goal.returns-then-has_many
returns-then-has_many c = more_than_two (seen c.args.tables.now) (sym c.has_many.ensures ∙ c.if-has_many.true)
