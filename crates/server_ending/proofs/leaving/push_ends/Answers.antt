use Rattle.std.proofs.Common.{◌++◌, ◌∙◌, List, ℕ, map, take, append-nil, append_assoc, sym, ap, string_bytes}
use Rattle.std.proofs.lemmas.List.{take_all}
use Rattle.server_result.specs.Joined.{joined, joined_each}
use Rattle.server_result.proofs.Joins.{each_more, mapped_more}
use Rattle.server_engine.specs.declared.session.SessionEnd.{SessionEnd}
use Rattle.server_ending.proofs.leaving.push_ends.Goals as goal

pub loop-end-init : goal.loop-end-init
loop-end-init c = sym (append-nil (string_bytes c.args.out.now))

pub loop-end-preserved : goal.loop-end-preserved
loop-end-preserved c =
    let ends = c.args.ends.now in
    let so_far = map (λ (e : SessionEnd). e.entries) (take c.loop-end.end-index ends) in
    c.in_ok-push_texts.ensures
    ∙ ap (λ (b : List ℕ). b ++ joined c.as_slice.result.now) c.loop-end.invariant
    ∙ append_assoc (string_bytes c.args.out.now) (joined_each so_far) (joined c.as_slice.result.now)
    ∙ ap (λ (t : List (List ℕ)). string_bytes c.args.out.now ++ (joined_each so_far ++ joined t)) c.as_slice.ensures
    ∙ ap (λ (b : List ℕ). string_bytes c.args.out.now ++ b)
    (sym (each_more so_far c.end-item.result.entries)
    ∙ ap joined_each (sym (mapped_more (λ (e : SessionEnd). e.entries) ends c.loop-end.end-index c.end-item.result c.loop-end-test.true c.end-item.is)))

pub returns : goal.returns
returns c =
    c.loop-end.invariant
    ∙ ap (λ (t : List SessionEnd). string_bytes c.args.out.now ++ joined_each (map (λ e. e.entries) t)) (take_all c.loop-end.end-index c.args.ends.now c.loop-end-test.false)
