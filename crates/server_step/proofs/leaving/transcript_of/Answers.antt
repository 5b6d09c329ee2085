use Rattle.std.proofs.Common.{◌≡◌, ◌∷◌, [], ◌++◌, ◌∙◌, ℕ, List, map, IfOk, ap, ap₂, sym, subst, Bor}
use Rattle.std.proofs.lemmas.List.{map_push, take_all}
use Rattle.format_lines.specs.Line.{seen}
use Rattle.server_engine.specs.declared.session.Session.{Session}
use Rattle.server_result.proofs.Joins.{mapped_more}
use Rattle.server_step.specs.Numbers.{numbers_of}
use Rattle.server_step.specs.Woven.{woven_text}
use Rattle.server_step.proofs.leaving.transcript_of.Goals as goal

pub loop-session-init : goal.loop-session-init
loop-session-init g c = ap (map (λ (t : Bor (List (List ℕ))). t.now)) c.in_ok-texts.ensures.items

pub loop-session-preserved : goal.loop-session-preserved
loop-session-preserved g c =
    ap (map (λ (t : Bor (List (List ℕ))). t.now)) c.in_ok-push.ensures.items
    ∙ map_push (λ (t : Bor (List (List ℕ))). t.now) c.loop-session.texts.items c.as_slice.result
    ∙ ap₂ (λ (xs : List (List (List ℕ))) (x : List (List ℕ)). xs ++ x ∷ []) c.loop-session.invariant c.as_slice.ensures
    ∙ sym (mapped_more (λ (y : Session g.row.H.Denot). y.entries) c.args.sessions.now c.loop-session.session-index c.session-item.result c.loop-session-test.true c.session-item.is)

pub returns : goal.returns
returns g c =
    subst (λ (texts : List (List (List ℕ))). IfOk c.weave.result (λ text. text ≡ woven_text (numbers_of (map (λ n. n.now) c.args.names.now) (map seen c.args.lines.now)) texts))
    (c.loop-session.invariant ∙ ap (map (λ (y : Session g.row.H.Denot). y.entries)) (take_all c.loop-session.session-index c.args.sessions.now c.loop-session-test.false))
    c.weave.ensures
