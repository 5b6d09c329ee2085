use Rattle.std.proofs.Common.{◌∙◌, ◌+◌, ap}
use Rattle.std.specs.Prelude.{pos}
use Rattle.std.specs.List.{list_any}
use Rattle.audit_rules.specs.declared.first_ranks.Thing.{Thing}
use Rattle.audit_rules.specs.FirstRanks.{has_happened}
use Rattle.audit_rules.proofs.TimesOfTables.{dropped_at_is}
use Rattle.audit_rules.proofs.table_times.TableTimes.is_dropped_at.Goals as goal

pub returns : goal.returns
returns c = λ rows times.
    c.is_past.ensures ∙ c.dropped_at.ensures c.args.before
    ∙ ap (λ (thing : Thing). list_any (has_happened thing c.args.before) c.args.self.now.times.now.dropped) c.column_at.ensures
    ∙ dropped_at_is rows c.args.self.now times (pos (c.args.place + 1)) c.args.before
