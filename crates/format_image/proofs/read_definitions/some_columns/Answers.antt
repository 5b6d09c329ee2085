use Rattle.std.proofs.Common.{◌≡◌, ◌-◌, refl, arith}
use Rattle.format_image.specs.ImageReading.{column_at}
use Rattle.format_image.proofs.ColumnsRead.{goes_on}
use Rattle.format_image.proofs.read_definitions.some_columns.Goals as goal

pub loop-place-init : goal.loop-place-init
loop-place-init c =
    let all : c.args.count - 0 ≡ c.args.count = omega arith in
    rw (c.new-columns.ensures, c.new-dropped.ensures, all) refl

pub loop-place-preserved : goal.loop-place-preserved
loop-place-preserved c =
    let lt = c.loop-place-test.true in
    rw (c.in_ok-push.ensures.ok, c.in_ok-push_if.ensures)
    (goes_on (column_at c.args.version) c.loop-place.columns c.loop-place.dropped c.args.count c.loop-place.place c.loop-place.rest.now c.in_ok-column.column c.in_ok-column.is_dropped c.in_ok-column.after.now _ (omega arith) c.in_ok-column.ensures c.loop-place.invariant)
