use Rattle.std.proofs.Common.{◌≤◌, length, arith, rules}
use Rattle.std.proofs.lemmas.Grind.{common_steps}
use Rattle.sql_lex.proofs.Scans.{loop_turn, count_turn}
use Rattle.sql_lex.proofs.cut.cut.Goals as goal

pub loop-rest-preserved : goal.loop-rest-preserved
loop-rest-preserved c =
    let z = c.loop-rest.rest.now in
    let within : (1 ≤ c.in-Some.len) × (c.in-Some.len ≤ length z) = search rules in
    let some : 1 ≤ length z = omega (arith, within.0, within.1) in
    let turn = loop_turn _ c.loop-rest.at z c.in-Some.kind c.in-Some.len c.loop-rest.found c.push.new.self some (cc) (cc) (cc) within.0 c.loop-rest.invariant.0 c.in_ok-push.ensures.ok in
    let count = count_turn c.loop-rest.at c.in-Some.len _ z within.1 c.loop-rest.invariant.1 in
    (first_of (search (rules, turn), grind (arith, turn), grind (arith, common_steps, turn)), omega (arith, count))
