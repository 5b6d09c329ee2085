use Rattle.std.proofs.Common.{◌≡◌, ◌-◌, arith}
use Rattle.format_image.specs.ImageBytes.{sizes_of}
use Rattle.format_image.specs.ImageReading.{placeless_at}
use Rattle.format_image.proofs.Walking.{goes_on, starts}
use Rattle.format_image.proofs.read_ledger.some_entries.Goals as goal

pub loop-init : goal.loop-init
loop-init c =
    let ks = sizes_of c.args.blocks.now in
    let all : c.args.count - 0 ≡ c.args.count = omega arith in
    record {
      read = rw (c.new-entries.ensures, all) (starts placeless_at ks c.args.count c.args.bytes.now);
      count = omega arith;
      early = omega arith;
    }

pub loop-preserved : goal.loop-preserved
loop-preserved c =
    let lt = c.loop-test.true in
    let spot = c.free_spot-spot.ensures in
    record {
      read = rw (c.in_ok-push.ensures.ok, c.at_place.ensures) (goes_on placeless_at c.loop.entries (sizes_of c.loop.left.now) c.loop.block c.loop.ordinal c.args.count c.loop.counter c.loop.rest.now c.in_ok-entry.after.now c.in_ok-entry.entry _ _ (omega arith) c.in_ok-entry.ensures spot.spot c.loop.invariant.read);
      count = omega (arith, spot.count, c.loop.invariant.count);
      early = omega (arith, spot.early, c.loop.invariant.early);
    }
