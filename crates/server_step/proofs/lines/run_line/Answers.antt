use Rattle.std.proofs.Common.{◌≡◌, ◌∙◌, List, ℕ, OnOk, length, map, ap, subst, arith, Bor}
use Rattle.std.proofs.lemmas.List.{length-map}
use mathlib.Core.Option.{some}
use lib.ListN.{get_elem?}
use Rattle.base_types.specs.declared.text.Text.{Text}
use Rattle.server_engine.specs.CoreInput.{with_line}
use Rattle.server_engine.specs.Standing.{Stands}
use Rattle.format_lines.specs.Line.{seen}
use Rattle.server_result.specs.Moments.{said_with}
use Rattle.server_step.proofs.Places.{found, within}
use Rattle.server_step.proofs.Steps.{reached_more, still_open, when_ok}
use Rattle.server_step.proofs.lines.run_line.Goals as goal

pub step-requires-clause-open : goal.step-requires-clause-open
step-requires-clause-open g c κs inside =
    let names = map (λ (n : Bor (List ℕ)). n.now) c.args.sessions.now in
    let less = within names c.args.line.now.session.now c.requires.named in
    let many = length-map c.args.sessions.now (λ (n : Bor (List ℕ)). n.now) in
    c.requires.open c.number_of-session.result (omega (arith, c.number_of-session.ensures, less, many))

pub returns-clause-reached : goal.returns-clause-reached
returns-clause-reached g c h past database size before reached =
    let names = map (λ (n : Bor (List ℕ)). n.now) c.args.sessions.now in
    let name = c.args.line.now.session.now in
    let session = c.number_of-session.result in
    let time = c.moment.result in
    let there : get_elem? names session ≡ some name = ap (get_elem? names) c.number_of-session.ensures ∙ found names name c.requires.named in
    reached_more g.H.Hash32.digest h past database size names (said_with c.args.given (g.C.Clock.says c.args.clock.now)) before c.args.core.now c.step.new.self (seen c.args.line.now) session time c.step.result
    c.moment.ensures.said there
    (λ k a n standing runs is. subst (λ (t : Text). OnOk c.step.result (Stands g.H.Hash32.digest k c.step.new.self (with_line n t time a))) c.in_ok-text.ensures (c.step.ensures.stands k a n standing runs is))
    reached

pub returns-clause-open : goal.returns-clause-open
returns-clause-open g c = when_ok c.step.result (still_open c.args.core.now c.step.new.self c.number_of-session.result c.step.ensures.others
    (length c.args.sessions.now) c.step.ensures.open c.requires.open)
