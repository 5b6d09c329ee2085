use Rattle.std.proofs.Common.{◌≡◌, ◌+◌, ◌∙◌, List, ℕ, [], ◌∷◌, ◌++◌, map, take, sym, ap, subst, arith, Bor}
use Rattle.std.proofs.lemmas.List.{take_all}
use Rattle.server_engine.specs.Standing.{Stands}
use Rattle.server_step.specs.Reached.{asked}
use Rattle.server_step.proofs.Joins.{as_many, name_more}
use Rattle.server_step.proofs.Steps.{open_more}
use Rattle.server_step.proofs.sessions.open_sessions.Goals as goal

pub loop-session-init : goal.loop-session-init
loop-session-init g c = ((λ h past database size m. m), λ j less. absurd (omega (arith, less)))

pub open_session-requires-clause-standing : goal.open_session-requires-clause-standing
open_session-requires-clause-standing g c κs within =
    let b = c.requires.begins in
    record { h = b.0; a = asked b.1 b.2 b.3 (map (λ n. n.now) (take c.loop-session.session-index c.args.sessions.now)) [] []; stands = c.loop-session.invariant.0 b.0 b.1 b.2 b.3 b.4 }

pub loop-session-preserved : goal.loop-session-preserved
loop-session-preserved g c =
    let k = c.loop-session.session-index in
    let sessions = c.args.sessions.now in
    let names = map (λ (n : Bor (List ℕ)). n.now) (take k sessions) in
    let more : names ++ c.in_ok-of_str.field-0 ∷ [] ≡ map (λ (n : Bor (List ℕ)). n.now) (take (k + 1) sessions) =
    ap (λ (n : List ℕ). names ++ n ∷ []) c.in_ok-of_str.ensures ∙ sym (name_more sessions k c.loop-session-test.true) in
    let step = c.in_ok-open_session.ensures in
    let b = c.requires.begins in
    let last : c.in_ok-open_session.field-0 ≡ k =
    step.number b.0 (asked b.1 b.2 b.3 names [] []) (c.loop-session.invariant.0 b.0 b.1 b.2 b.3 b.4) ∙ as_many sessions k c.loop-session-test.true in (
      (λ h past database size m. subst (λ (ns : List (List ℕ)). Stands g.H.Hash32.digest h c.open_session.new.self (asked past database size ns [] [])) more
          (step.stands h (asked past database size names [] []) (c.loop-session.invariant.0 h past database size m))),
      open_more c.loop-session.core c.open_session.new.self c.in_ok-open_session.field-0 step.others k last step.«open» c.loop-session.invariant.1,
    )

pub returns-clause-stands : goal.returns-clause-stands
returns-clause-stands g c h past database size m =
    subst (λ (l : List (Bor (List ℕ))). Stands g.H.Hash32.digest h c.loop-session.core (asked past database size (map (λ n. n.now) l) [] []))
    (take_all c.loop-session.session-index c.args.sessions.now c.loop-session-test.false) (c.loop-session.invariant.0 h past database size m)

pub returns-clause-open : goal.returns-clause-open
returns-clause-open g c j less = c.loop-session.invariant.1 j (omega (arith, less, c.loop-session-test.false))
