use Rattle.std.proofs.Common.{sym, ap, ◌∙◌, ◌∷◌, ◌++◌, [], List, take, subst}
use Rattle.std.specs.List.{AllByRecursion}
use Rattle.std.proofs.lemmas.List.{take_all, take_more}
use Rattle.std.proofs.SliceLists.{all_by_recursion_push}
use Rattle.sql_types.specs.JournalRules.{Line}
use Rattle.format_journal.specs.Rules.{IsStatement}
use Rattle.format_journal.proofs.encoded.are_statements.Goals as goal

pub loop-statement-preserved : goal.loop-statement-preserved
loop-statement-preserved c =
    let so_far = take c.loop-statement.statement-index c.args.script.now in
    subst (λ (l : List Line). AllByRecursion IsStatement l)
    (sym (take_more c.args.script.now c.loop-statement.statement-index c.statement-item.result c.loop-statement-test.true
    ∙ ap (λ (s : Line). so_far ++ s ∷ []) (sym c.statement-item.is)))
    (all_by_recursion_push IsStatement so_far c.statement-item.result c.loop-statement.invariant c.is_statement.ensures)

pub returns : goal.returns
returns c =
    subst (λ (l : List Line). AllByRecursion IsStatement l)
    (take_all c.loop-statement.statement-index c.args.script.now c.loop-statement-test.false) c.loop-statement.invariant
