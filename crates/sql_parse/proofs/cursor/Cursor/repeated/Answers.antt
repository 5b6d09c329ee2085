use Rattle.std.proofs.Common.{◌≡◌, ◌-◌, true, false, Some, None, rules, arith, sym, ap, ◌∙◌}
use Rattle.std.proofs.lemmas.Grind.{common_steps}
use Rattle.spec_syntax.specs.Input.{repeated, repeated_at, sees, spend}
use Rattle.law_printing.proofs.Repeats.{turn, refused, ended, stays, falls, hands_on}
use Rattle.sql_parse.proofs.cursor.Cursor.repeated.Goals as goal

pub returns-in_err-spend : goal.returns-in_err-spend
unfolding repeated
returns-in_err-spend c =
    let seen : sees c.args.tag c.loop-tag.self ≡ true = cc in
    let no = hands_on _ (repeated_at c.args.tag c.args.self.now.rest c.args.self.now.left) c.in_err-spend.field-0.0 _ c.spend.new.self
    (λ (none : spend c.eat.new.self ≡ None). refused c.args.tag c.loop-tag.self _ _ _ seen c.eat.ensures.after none c.loop-tag.invariant.0) c.in_err-spend.ensures in
    first_of (search (rules, no), grind (arith, common_steps, no))

pub loop-tag-smaller : goal.loop-tag-smaller
loop-tag-smaller c =
    let seen : sees c.args.tag c.loop-tag.self ≡ true = cc in
    falls c.args.tag c.loop-tag.self _ _ seen c.eat.ensures.after c.in_ok-spend.ensures

pub loop-tag-preserved : goal.loop-tag-preserved
loop-tag-preserved c =
    let seen : sees c.args.tag c.loop-tag.self ≡ true = cc in
    turn c.args.tag c.loop-tag.self _ _ _ _ seen c.eat.ensures.after c.in_ok-spend.ensures c.loop-tag.invariant

pub returns : goal.returns
unfolding repeated
returns c =
    let seen : sees c.args.tag c.loop-tag.self ≡ false = cc in
    let same = stays c.args.tag c.loop-tag.self _ seen c.eat.ensures.after in
    let left : c.loop-tag.self.left ≡ c.self-2.inside.left = same ∙ ap (λ i. i.left) (sym c.self-2.view_is) in
    ended c.args.tag c.loop-tag.self _ _ _ seen c.eat.ensures.after c.loop-tag.invariant.0
    ∙ ap (λ n. Some (c.self.inside.left - n, c.eat.new.self)) left

pub overflow_sub-result : goal.overflow_sub-result
overflow_sub-result c =
    let seen : sees c.args.tag c.loop-tag.self ≡ false = cc in
    let same = stays c.args.tag c.loop-tag.self _ seen c.eat.ensures.after in
    let left : c.loop-tag.self.left ≡ c.self-2.inside.left = same ∙ ap (λ i. i.left) (sym c.self-2.view_is) in
    omega (arith, left, c.loop-tag.invariant.1)
