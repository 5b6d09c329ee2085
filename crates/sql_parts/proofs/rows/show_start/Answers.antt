use Rattle.std.proofs.Common.{ap, ◌∙◌, ◌++◌, ◌∷◌, []}
use Rattle.spec_model.specs.Rows.{Row}
use Rattle.spec_model.specs.Parts.{ViewRow}
use Rattle.sql_parts.proofs.rows.show_start.Goals as goal

pub returns : goal.returns
returns c =
    let with : Row → ViewRow = λ row. (c.args.version.now.start, row) in
    c.in_ok-push.ensures.items ∙ ap (λ row. c.args.shown.now.items ++ with row ∷ []) c.in_ok-row.ensures
