use Rattle.std.proofs.Common.{◌∙◌, ◌≤◌, suc, arith, ap}
use Rattle.spec_protocol.specs.Cells.{pending_in}
use Rattle.store_ledger.specs.HashedCell.{HashedCell}
use Rattle.store_ledger.proofs.Closings.{smaller, some_stay, count_stays, one_further, rest_stays}
use Rattle.store_ledger.proofs.cell.LedgerCell.close_full.Goals as goal

pub loop-alloc-smaller : goal.loop-alloc-smaller
loop-alloc-smaller g c =
    let some : 1 ≤ pending_in c.loop-alloc.self.cell =
    omega (arith, c.pending.ensures.count, c.loop-alloc-test.true) in
    smaller (g.H.Hash32.digest c.args.h) c.next_count-count.result c.loop-alloc.self.cell
    c.close_block.new.self.cell
    c.in_ok-close_block.ensures.cell some (c.next_count-count.ensures.some some)

pub loop-alloc-preserved : goal.loop-alloc-preserved
loop-alloc-preserved g c =
    let digest = g.H.Hash32.digest c.args.h in
    let k = c.next_count-count.result in
    let before = c.loop-alloc.self.cell in
    let after = c.close_block.new.self.cell in
    let is = c.in_ok-close_block.ensures.cell in
    let some : 1 ≤ pending_in before = omega (arith, c.pending.ensures.count, c.loop-alloc-test.true) in
    let least = c.next_count-count.ensures.some some in
    let next = c.next_count-count.ensures.count in (
      c.close_block.ensures.hash,
      rest_stays digest k before after is some next least ∙ c.loop-alloc.invariant.1,
      count_stays digest k before after is some ∙ c.loop-alloc.invariant.2,
      (
        suc c.loop-alloc.invariant.3.0,
        one_further digest k before after is some next c.loop-alloc.invariant.3.0 c.args.self.now.cell
            c.loop-alloc.invariant.3.1,
      ),
      λ _.
          some_stay digest k before after is some
          (omega (
            arith,
            c.next_count-count.ensures.fits,
            c.pending.ensures.count,
            c.block_size.ensures.size,
            c.loop-alloc-test.true,
          )),
      λ few.
          let same = c.loop-alloc.invariant.5 few in
          absurd (omega (
            arith,
            few,
            ap (λ (v : HashedCell). pending_in v.cell) same,
            ap (λ (v : HashedCell). v.cell.block_size) same,
            c.pending.ensures.count,
            c.block_size.ensures.size,
            c.loop-alloc-test.true,
          )),
    )
