use Rattle.std.proofs.Common.{rules, arith}
use Rattle.std.proofs.lemmas.Grind.{common_steps}
use Rattle.spec_syntax.specs.Expr.{more, operator, operand, expr, level}
use Rattle.law_printing.proofs.Repeats.{hands_on}
use Rattle.law_syntax.proofs.Levels.{one_more, starts, refused_first}
use Rattle.sql_parse.proofs.expr.+rules.Goals as goal

pub grouped-returns-in_err-left : goal.grouped-returns-in_err-left
grouped-returns-in_err-left t c =
    let no = hands_on _ (level (expr c.args.depth) c.args.level c.args.c.now) c.in_err-left.field-0.0 _ c.operand.new.c
    (λ none. refused_first (expr c.args.depth) c.args.level c.args.c.now none) c.in_err-left.ensures in
    first_of (search (rules, no), grind (arith, common_steps, no))

pub grouped-loop-turn-init : goal.grouped-loop-turn-init
grouped-loop-turn-init t c =
    let begun = starts (expr c.args.depth) c.args.level c.args.c.now _ _ c.in_ok-left.ensures in
    first_of (search (rules, begun), grind (arith, common_steps, begun))

pub grouped-loop-turn-preserved : goal.grouped-loop-turn-preserved
unfolding more
grouped-loop-turn-preserved t c =
    let e = one_more (λ n. more (operator c.args.level) (operand (expr c.args.depth) c.args.level) n c.loop-turn.left c.loop-turn.c) _ c.loop-turn._turn c.loop-turn-test.true c.loop-turn.invariant in
    first_of (search rules, grind (arith, common_steps))
