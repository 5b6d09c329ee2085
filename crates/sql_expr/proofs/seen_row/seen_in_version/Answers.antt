use Rattle.std.proofs.Common.{◌∙◌, ap, sym, Some, option_map}
use Rattle.sql_types.specs.declared.outcome.Outcome.TheVariants as out
use Rattle.sql_expr.proofs.Rows.{stored_in}
use Rattle.sql_expr.proofs.seen_row.seen_in_version.Goals as goal

pub returns-in-Some : goal.returns-in-Some
returns-in-Some c =
    ap Some c.seen_stored.ensures
    ∙ sym (ap (option_map (λ x. out.Value x)) (stored_in c.args.declared.now c.args.version.now c.args.place c.in-Some.stored.now (sym c.in-Some.ensures)))
