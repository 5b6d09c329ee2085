use Rattle.std.proofs.Common.{arith, ap}
use Rattle.std.specs.Prelude.{length}
use Rattle.spec_protocol.specs.Cells.{TableCell}
use Rattle.store_table.proofs.Asking.{held_within}
use Rattle.store_table.proofs.cell.TableCell.read.Goals as goal

pub stop-requires : goal.stop-requires
stop-requires c =
    let within = held_within c.args.self.now c.args.tx c.args.requests.now c.lock.new.self c.in_ok-lock.ensures.ok in
    let there = ap (λ (x : TableCell). length x.holds) c.self.view_is in
    omega (arith, c.held-held.ensures, within, there)
