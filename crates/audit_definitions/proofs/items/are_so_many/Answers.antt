use Rattle.std.proofs.Common.{◌==◌, length, get_or, sym, ap, ◌∙◌, arith}
use Rattle.law_catalog_rows.specs.Encoded.{rows_of_indexes}
use Rattle.audit_definitions.proofs.Counts.{items, same_rest, too_few, left_more, left_few}
use Rattle.audit_definitions.proofs.items.are_so_many.Goals as goal

pub returns-then-count-columns : goal.returns-then-count-columns
returns-then-count-columns c =
    let def = c.args.def.now in
    too_few (length def.columns) (length (rows_of_indexes def.id 1 def.indexes)) c.args.count (omega (arith, c.if-count-columns.true, c.len-columns.ensures))
    ∙ ap (λ n. c.args.count == n) (sym (items def))

pub loop-index-init : goal.loop-index-init
loop-index-init c =
    let def = c.args.def.now in
    sym (ap (λ n. c.args.count == n) (items def)
    ∙ same_rest (length def.columns) (length (rows_of_indexes def.id 1 def.indexes)) c.args.count _ (omega (arith, c.if-count-columns.false, c.len-columns.ensures)) (omega (arith, c.len-columns.ensures)))

pub loop-index-preserved : goal.loop-index-preserved
loop-index-preserved c =
    left_more c.args.def.now c.loop-index.index-index c.index-item.result (omega (arith, c.loop-index-test.true, ap length c.as_slice-index-items.ensures)) (c.index-item.is ∙ ap (λ l. get_or l c.loop-index.index-index c.index-item.result) c.as_slice-index-items.ensures) c.loop-index.left _ _
    c.loop-index.invariant (omega (arith, c.if-left-parts.false, c.len-parts.ensures)) (omega (arith, c.len-parts.ensures))

pub returns-then-left-parts : goal.returns-then-left-parts
returns-then-left-parts c =
    left_few c.args.def.now c.loop-index.index-index c.index-item.result (omega (arith, c.loop-index-test.true, ap length c.as_slice-index-items.ensures)) (c.index-item.is ∙ ap (λ l. get_or l c.loop-index.index-index c.index-item.result) c.as_slice-index-items.ensures) c.loop-index.left _
    c.loop-index.invariant (omega (arith, c.if-left-parts.true, c.len-parts.ensures))
