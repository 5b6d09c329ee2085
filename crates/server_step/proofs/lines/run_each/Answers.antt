use Rattle.std.proofs.Common.{List, ℕ, map, take, refl, sym, subst, Bor}
use Rattle.std.proofs.lemmas.List.{take_all}
use Rattle.format_lines.specs.Line.{Statement, seen}
use Rattle.format_lines.specs.declared.line.Line.{Line}
use Rattle.server_result.specs.Moments.{said_with}
use Rattle.server_step.specs.Reached.{Reached, asked}
use Rattle.server_step.proofs.Joins.{seen_more}
use Rattle.server_step.proofs.Steps.{reached_none}
use Rattle.server_step.proofs.lines.run_each.Goals as goal

pub loop-line-init : goal.loop-line-init
loop-line-init g c =
    let names = map (λ (n : Bor (List ℕ)). n.now) c.args.sessions.now in
    let says = said_with c.args.given (g.C.Clock.says c.args.clock.now) in
    ((λ h past database size m. reached_none g.H.Hash32.digest h past database size names says c.args.core.now m), c.requires.open)

pub run_line-requires-clause-standing : goal.run_line-requires-clause-standing
run_line-requires-clause-standing g c κs within =
    let b = c.requires.begins in
    let names = map (λ (n : Bor (List ℕ)). n.now) c.args.sessions.now in
    let before = map seen (take c.loop-line.line-index c.args.lines.now) in
    let reached = c.loop-line.invariant.0 b.0 b.1 b.2 b.3 b.4 in
    record { h = b.0; a = asked b.1 b.2 b.3 names before reached.times; stands = reached.stands; phase = refl }

pub run_line-requires-clause-open : goal.run_line-requires-clause-open
run_line-requires-clause-open g c κs within = c.loop-line.invariant.1

pub loop-line-preserved : goal.loop-line-preserved
loop-line-preserved g c =
    let names = map (λ (n : Bor (List ℕ)). n.now) c.args.sessions.now in
    let says = said_with c.args.given (g.C.Clock.says c.args.clock.now) in
    let before = map seen (take c.loop-line.line-index c.args.lines.now) in (
      (λ h past database size m. subst (λ (ss : List Statement). Reached g.H.Hash32.digest h past database size names says ss c.run_line.new.core)
          (sym (seen_more c.args.lines.now c.loop-line.line-index c.loop-line-test.true))
          (c.in_ok-run_line.ensures.reached h past database size before (c.loop-line.invariant.0 h past database size m))),
      c.in_ok-run_line.ensures.open,
    )

pub returns-clause-reached : goal.returns-clause-reached
returns-clause-reached g c h past database size m =
    let names = map (λ (n : Bor (List ℕ)). n.now) c.args.sessions.now in
    let says = said_with c.args.given (g.C.Clock.says c.args.clock.now) in
    subst (λ (ls : List Line). Reached g.H.Hash32.digest h past database size names says (map seen ls) c.loop-line.core)
    (take_all c.loop-line.line-index c.args.lines.now c.loop-line-test.false) (c.loop-line.invariant.0 h past database size m)

pub returns-clause-open : goal.returns-clause-open
returns-clause-open g c = c.loop-line.invariant.1
