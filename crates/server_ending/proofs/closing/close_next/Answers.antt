use Rattle.std.proofs.Common.{refl}
use Rattle.spec_protocol.specs.Cells.{ledger_at}
use Rattle.server_engine.proofs.Pairs.{index_there}
use Rattle.server_ending.proofs.Closings.{told_of}
use Rattle.server_ending.proofs.closing.close_next.Goals as goal

pub close_pending-requires-after_bounds : goal.close_pending-requires-after_bounds
close_pending-requires-after_bounds g c κs within =
    let x = c.index_mut-ledger.result.now in
    (c.requires.is x (index_there c.args.cells.now.items ledger_at x c.requires.within c.index_mut-ledger.ensures.value)).2

pub returns : goal.returns
returns g c =
    let h = g.H.Hash32.digest c.args.hasher in
    let x = c.index_mut-ledger.result.now in
    let y = c.close_pending.new.self in
    let there = index_there c.args.cells.now.items ledger_at x c.requires.within c.index_mut-ledger.ensures.value in
    let is = c.requires.is x there in
    record {
      x = x;
      y = y;
      there = there;
      closes = c.in_ok-close_pending.ensures.closes;
      keeps = c.close_pending.ensures.keeps;
      told = told_of h x y is.0 is.1 c.in_ok-close_pending.ensures.closes c.item_count-items.result c.item_count.result c.item_count-items.ensures c.item_count.ensures;
      is = refl;
    }
