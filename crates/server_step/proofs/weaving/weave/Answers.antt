use Rattle.std.proofs.Common.{◌≡◌, ◌++◌, ◌∙◌, List, ℕ, map, length, arith, sym, ap, string_bytes, Bor}
use Rattle.std.specs.Vec.{with_items}
use Rattle.std.proofs.lemmas.List.{drop_all, with_items_is}
use Rattle.format_lines.specs.Line.{seen}
use Rattle.format_lines.specs.declared.line.Line.{Line}
use Rattle.server_result.specs.Joined.{joined, joined_each}
use Rattle.server_step.specs.Numbers.{numbers_of}
use Rattle.server_step.specs.Woven.{first_at, without_first, woven_text}
use Rattle.server_step.proofs.Joins.{woven_more}
use Rattle.server_step.proofs.weaving.weave.Goals as goal

pub loop-line-init : goal.loop-line-init
loop-line-init c =
    let names = map (λ (n : Bor (List ℕ)). n.now) c.args.sessions.now in
    let texts = map (λ (t : Bor (List (List ℕ))). t.now) c.args.texts.items in
    ap (λ (b : List ℕ). b ++ woven_text (numbers_of names (map seen c.args.lines.now)) texts) c.new-out.ensures.bytes

pub loop-line-preserved : goal.loop-line-preserved
loop-line-preserved c =
    let i = c.number_of.result in
    let names = map (λ (n : Bor (List ℕ)). n.now) c.args.sessions.now in
    let texts = λ (ts : List (Bor (List (List ℕ)))). map (λ (t : Bor (List (List ℕ))). t.now) ts in
    let value = c.deref_mut.ensures.value in
    let many : length c.push_next.new.left ≡ c.loop-line.left.len = omega (arith, c.push_next.auto.left, c.deref_mut.ensures.len) in
    woven_more names c.args.lines.now c.loop-line.line-index i (string_bytes c.loop-line.out) (string_bytes c.push_next.new.out)
    (woven_text (numbers_of names (map seen c.args.lines.now)) (texts c.args.texts.items)) (texts c.loop-line.left.items) (texts (with_items c.loop-line.left c.push_next.new.left).items)
    c.loop-line-test.true c.number_of.ensures
    (c.in_ok-push_next.ensures.out ∙ ap (λ (l : List (Bor (List (List ℕ)))). string_bytes c.loop-line.out ++ joined (first_at i (texts l))) value)
    (ap texts (with_items_is c.loop-line.left c.push_next.new.left many) ∙ c.in_ok-push_next.ensures.left ∙ ap (λ (l : List (Bor (List (List ℕ)))). without_first i (texts l)) value)
    c.loop-line.invariant

pub returns : goal.returns
returns c =
    let names = map (λ (n : Bor (List ℕ)). n.now) c.args.sessions.now in
    c.from_string.ensures
    ∙ c.in_ok-push_rest.ensures
    ∙ ap (λ (l : List (Bor (List (List ℕ)))). string_bytes c.loop-line.out ++ joined_each (map (λ t. t.now) l)) c.deref.ensures.value
    ∙ ap (λ (ls : List Line). string_bytes c.loop-line.out ++ woven_text (numbers_of names (map seen ls)) (map (λ (t : Bor (List (List ℕ))). t.now) c.loop-line.left.items)) (sym (drop_all c.loop-line.line-index c.args.lines.now c.loop-line-test.false))
    ∙ c.loop-line.invariant
