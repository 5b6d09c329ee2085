use Rattle.std.proofs.Common.{◌∙◌}
use Rattle.format_image.specs.Rows.{stored_at, index_ordinals}
use Rattle.format_image_rows.proofs.Joined.{joined}
use Rattle.format_image_rows.proofs.indexes.index_row.Goals as goal

pub returns : goal.returns
unfolding index_ordinals
returns c =
    c.from_vec.ensures
    ∙ (rw (c.in_ok-add_columns.ensures, c.in_ok-row.ensures.items, c.as_slice.ensures, c.key.ensures) at c.in_ok-add_places.ensures)
    ∙ joined (stored_at c.args.version.now.values) _ _
