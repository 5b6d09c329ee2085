use Rattle.std.proofs.Common.{subst, sym}
use Rattle.spec_model.specs.Changes.{row_changes}
use Rattle.spec_model.specs.Refusals.{MatchesUnlessOom}
use Rattle.sql_change.proofs.changes.row_changes_of.Goals as goal

pub returns-in-Insert : goal.returns-in-Insert
unfolding row_changes
returns-in-Insert g c = subst (λ s. MatchesUnlessOom (row_changes c.args.table.now (g.R.LiveVersions.versions c.args.versions.now) s) c.insert.result) (sym c.in-Insert.is) c.insert.ensures

pub returns-in-Update : goal.returns-in-Update
unfolding row_changes
returns-in-Update g c = subst (λ s. MatchesUnlessOom (row_changes c.args.table.now (g.R.LiveVersions.versions c.args.versions.now) s) c.update.result) (sym c.in-Update.is) c.update.ensures
