use Rattle.format_image.proofs.Marks.{columns_start, one_is_column, columns_next, columns_end}
use Rattle.format_image.proofs.write_definitions.put_each_column.Goals as goal

pub each-init : goal.each-init
each-init c = columns_start c.args.version c.args.out.now.items c.args.columns.now c.args.dropped.now c.requires.each c.requires.rise

pub put_column-requires : goal.put_column-requires
put_column-requires c = one_is_column _ _ _ _ c.each.rest.now c.each.left.now _ c.in-Some.column.now c.in-Some.more.now c.in-Some.ensures c.each.invariant

pub each-preserved : goal.each-preserved
each-preserved c =
    columns_next _ _ _ _ c.each.rest.now c.each.left.now _ c.in-Some.column.now c.in-Some.more.now c.in-Some.ensures c.each.invariant _ _ _
    c.begins_with-is_dropped.ensures c.in_ok-put_column.ensures

pub returns : goal.returns
returns c = columns_end _ _ _ _ c.each.rest.now c.each.left.now _ (rw c.in_default.is at c.first_of.ensures) c.each.invariant
