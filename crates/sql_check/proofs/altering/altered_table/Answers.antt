use Rattle.std.proofs.Common.{subst, sym}
use Rattle.spec_model.specs.Refusals.{MatchesUnlessOom}
use Rattle.sql_check.specs.Altering.{altered_in}
use Rattle.sql_check.proofs.altering.altered_table.Goals as goal

pub returns-in-DropColumn : goal.returns-in-DropColumn
returns-in-DropColumn c =
    subst (λ alter. MatchesUnlessOom (altered_in alter (c.args.def.now, c.args.part)) c.drop_column.result) (sym c.in-DropColumn.is) c.drop_column.ensures
