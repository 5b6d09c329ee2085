use Rattle.std.proofs.Common.{◌≡◌, ◌++◌, ◌-◌, ℕ, ap, ◌∙◌, arith, length, replicate, None}
use Rattle.format_image_rows.proofs.Filled.{filled_by}
use Rattle.format_image_rows.proofs.tables.with_nulls.Goals as goal

pub returns : goal.returns
returns c =
    let many : c.loop.counter ≡ length c.args.columns.now - length c.args.values = omega (arith, c.len.ensures, c.saturating_sub-end.ensures, c.loop.auto.counter-end, c.loop-test.false) in
    c.loop.invariant ∙ ap (λ (n : ℕ). c.args.values ++ replicate n None) many ∙ filled_by c.args.columns.now c.args.values
