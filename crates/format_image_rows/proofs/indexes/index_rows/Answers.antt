use Rattle.std.proofs.Common.{◌∙◌, sym}
use Rattle.std.proofs.lemmas.List.{map_more}
use Rattle.format_image.specs.Rows.{index_row}
use Rattle.format_image_rows.proofs.indexes.index_rows.Goals as goal

pub loop-version-preserved : goal.loop-version-preserved
loop-version-preserved c =
    rw (c.loop-version.invariant, c.in_ok-index_row.ensures, c.version-item.is) at c.in_ok-push.ensures.items
    ∙ sym (map_more (index_row c.args.table.now c.args.index.now) c.args.base.now c.loop-version.version-index _ c.loop-version-test.true)
