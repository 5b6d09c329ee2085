use Rattle.std.proofs.Common.{rules, arith}
use Rattle.std.proofs.lemmas.Grind.{common_steps}
use Rattle.spec_syntax.specs.Input.{list_from}
use Rattle.spec_syntax.specs.Expr.{name}
use Rattle.law_syntax.proofs.Levels.{one_more}
use Rattle.sql_parse.proofs.row.names.Goals as goal

pub loop-turn-preserved : goal.loop-turn-preserved
unfolding list_from
loop-turn-preserved c =
    let e = one_more (λ n. list_from name n c.loop-turn.found c.loop-turn.c) _ c.loop-turn._turn c.loop-turn-test.true c.loop-turn.invariant in
    first_of (search rules, grind (arith, common_steps))
