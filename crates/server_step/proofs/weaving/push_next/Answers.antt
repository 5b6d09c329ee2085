use Rattle.std.proofs.Common.{◌++◌, ◌∷◌, ◌∙◌, List, ℕ, [], append-nil, refl, sym, ap, string_bytes, Bor}
use Rattle.server_result.specs.Joined.{joined}
use Rattle.server_step.proofs.Nexts.{first_beyond, first_there, none_there, rest_beyond, rest_there}
use Rattle.server_step.proofs.weaving.push_next.Goals as goal

pub returns-then-session-left-clause-out : goal.returns-then-session-left-clause-out
returns-then-session-left-clause-out c =
    sym (append-nil (string_bytes c.args.out.now))
    ∙ ap (λ (ts : List (List ℕ)). string_bytes c.args.out.now ++ joined ts) (sym (first_beyond c.args.session c.args.left.now c.if-session-left.true))

pub returns-then-session-left-clause-left : goal.returns-then-session-left-clause-left
returns-then-session-left-clause-left c = sym (rest_beyond c.args.session c.args.left.now c.if-session-left.true)

pub returns-in_default-clause-out : goal.returns-in_default-clause-out
returns-in_default-clause-out c =
    let at = ap (λ (b : Bor (List (List ℕ))). b.now) (sym c.index-left-session.is) ∙ c.in_default.ensures in
    sym (append-nil (string_bytes c.args.out.now))
    ∙ ap (λ (ts : List (List ℕ)). string_bytes c.args.out.now ++ joined ts) (sym (first_there c.args.session c.args.left.now c.index-left-session.result [] c.if-session-left.false at))

pub returns-in_default-clause-left : goal.returns-in_default-clause-left
returns-in_default-clause-left c =
    let at = ap (λ (b : Bor (List (List ℕ))). b.now) (sym c.index-left-session.is) ∙ c.in_default.ensures in
    sym (none_there c.args.session c.args.left.now c.index-left-session.result c.if-session-left.false at)

pub returns-clause-out : goal.returns-clause-out
returns-clause-out c =
    let texts = c.in-Some.first.now ∷ c.in-Some.rest.now in
    let at = ap (λ (b : Bor (List (List ℕ))). b.now) (sym c.index-left-session.is) ∙ c.in-Some.ensures in
    c.in_ok-push_str.ensures.bytes
    ∙ ap (λ (t : List ℕ). string_bytes c.args.out.now ++ t)
    (c.as_str.ensures.value
    ∙ sym (append-nil c.in-Some.first.now)
    ∙ ap joined (sym (first_there c.args.session c.args.left.now c.index-left-session.result texts c.if-session-left.false at)))

pub returns-clause-left : goal.returns-clause-left
returns-clause-left c =
    let texts = c.in-Some.first.now ∷ c.in-Some.rest.now in
    let at = ap (λ (b : Bor (List (List ℕ))). b.now) (sym c.index-left-session.is) ∙ c.in-Some.ensures in
    rest_there c.args.session c.args.left.now c.index-left-session.result c.in-Some.rest texts c.if-session-left.false at refl
