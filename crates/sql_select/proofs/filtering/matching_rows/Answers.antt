use Rattle.std.proofs.Common.{map, subst}
use Rattle.spec_model.specs.Parts.{base_row}
use Rattle.spec_model.specs.Where.{holds}
use Rattle.sql_select.specs.Answers.{ItemsMatchUnlessOom}
use Rattle.sql_parts.proofs.InTurn.{filter_after_none}
use Rattle.sql_select.proofs.filtering.matching_rows.Goals as goal

pub returns : goal.returns
returns c =
    let test = holds c.args.columns.now c.args.cond.now in
    subst (λ meant. ItemsMatchUnlessOom meant c.each_taken.result) (filter_after_none test (map (base_row c.args.declared.now) (map (λ v. v.now) c.args.versions.now))) c.each_taken.ensures
