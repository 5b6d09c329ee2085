use Rattle.std.proofs.Common.{◌∙◌, ap}
use Rattle.std.specs.Prelude.{pos}
use Rattle.std.specs.List.{list_any}
use Rattle.audit_rules.specs.declared.first_ranks.Thing.{Thing}
use Rattle.audit_rules.specs.declared.times.What.TheVariants as what
use Rattle.audit_rules.specs.FirstRanks.{has_happened}
use Rattle.audit_rules.proofs.SaidByRows.{happened_so}
use Rattle.audit_rules.proofs.table_times.TableTimes.of.Goals as goal

pub returns-clause-times : goal.returns-clause-times
returns-clause-times c = λ rows times. record {
  times = times;
  created = λ before.
      c.created_at.ensures before
      ∙ ap (λ (thing : Thing). list_any (has_happened thing before) c.args.times.now.created) c.table_itself-itself.ensures
      ∙ ap (list_any (has_happened (record { table = pos c.args.table; item = pos 0 }) before)) times.created
      ∙ happened_so what.Created (pos c.args.table) (pos 0) before rows.tables;
  gone = λ before.
      c.gone_at.ensures before
      ∙ ap (λ (thing : Thing). list_any (has_happened thing before) c.args.times.now.gone) c.table_itself-itself.ensures
      ∙ ap (list_any (has_happened (record { table = pos c.args.table; item = pos 0 }) before)) times.gone
      ∙ happened_so what.Gone (pos c.args.table) (pos 0) before rows.tables;
}
