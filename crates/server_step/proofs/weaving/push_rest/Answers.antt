use Rattle.std.proofs.Common.{◌++◌, ◌∙◌, List, ℕ, map, take, append-nil, append_assoc, sym, ap, string_bytes, Bor}
use Rattle.std.proofs.lemmas.List.{take_all}
use Rattle.server_result.specs.Joined.{joined, joined_each}
use Rattle.server_result.proofs.Joins.{each_more, mapped_more}
use Rattle.server_step.proofs.weaving.push_rest.Goals as goal

pub loop-texts-init : goal.loop-texts-init
loop-texts-init c = sym (append-nil (string_bytes c.args.out.now))

pub loop-texts-preserved : goal.loop-texts-preserved
loop-texts-preserved c =
    let left = c.args.left.now in
    let so_far = map (λ (l : Bor (List (List ℕ))). l.now) (take c.loop-texts.texts-index left) in
    c.in_ok-push_texts.ensures
    ∙ ap (λ (b : List ℕ). b ++ joined c.texts-item.result.now) c.loop-texts.invariant
    ∙ append_assoc (string_bytes c.args.out.now) (joined_each so_far) (joined c.texts-item.result.now)
    ∙ ap (λ (b : List ℕ). string_bytes c.args.out.now ++ b)
    (sym (each_more so_far c.texts-item.result.now)
    ∙ ap joined_each (sym (mapped_more (λ (l : Bor (List (List ℕ))). l.now) left c.loop-texts.texts-index c.texts-item.result c.loop-texts-test.true c.texts-item.is)))

pub returns : goal.returns
returns c =
    c.loop-texts.invariant
    ∙ ap (λ (t : List (Bor (List (List ℕ)))). string_bytes c.args.out.now ++ joined_each (map (λ l. l.now) t)) (take_all c.loop-texts.texts-index c.args.left.now c.loop-texts-test.false)
