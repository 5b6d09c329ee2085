use Rattle.std.proofs.Common.{◌++◌, ◌∙◌, List, ℕ, take, append-nil, append_assoc, sym, ap, string_bytes}
use Rattle.std.proofs.lemmas.List.{take_all}
use Rattle.server_result.specs.Joined.{joined}
use Rattle.server_result.proofs.Joins.{joined_more, one_more}
use Rattle.server_result.proofs.texts.push_texts.Goals as goal

pub loop-text-init : goal.loop-text-init
loop-text-init c = sym (append-nil (string_bytes c.args.out.now))

pub loop-text-preserved : goal.loop-text-preserved
loop-text-preserved c =
    let texts = c.args.texts.now in
    let so_far = joined (take c.loop-text.text-index texts) in
    c.in_ok-push_str.ensures.bytes
    ∙ ap (λ (b : List ℕ). b ++ c.as_str.result.now) c.loop-text.invariant
    ∙ append_assoc (string_bytes c.args.out.now) so_far c.as_str.result.now
    ∙ ap (λ (t : List ℕ). string_bytes c.args.out.now ++ (so_far ++ t)) c.as_str.ensures.value
    ∙ ap (λ (b : List ℕ). string_bytes c.args.out.now ++ b)
    (sym (joined_more (take c.loop-text.text-index texts) c.text-item.result)
    ∙ ap joined (sym (one_more texts c.loop-text.text-index c.text-item.result c.loop-text-test.true c.text-item.is)))

pub returns : goal.returns
returns c =
    c.loop-text.invariant
    ∙ ap (λ (t : List (List ℕ)). string_bytes c.args.out.now ++ joined t) (take_all c.loop-text.text-index c.args.texts.now c.loop-text-test.false)
