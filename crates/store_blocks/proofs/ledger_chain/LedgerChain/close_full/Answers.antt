use Rattle.std.proofs.Common.{◌≡◌, ◌≤◌, ◌+◌, suc, length, sym, ap, arith}
use Rattle.spec_ledger.specs.Ledger.{Ledger}
use Rattle.store_blocks.proofs.Closing.{length_first, one_more_closed, one_more_full, pending_less}
use Rattle.store_blocks.proofs.ledger_chain.LedgerChain.close_full.Goals as goal

pub closings-init : goal.closings-init
closings-init g c = record {
  ledger = sym c.requires.placed;
  full = tt;
  few = omega arith;
  hash = c.requires.hash;
}

pub take_block-requires-clause-count : goal.take_block-requires-clause-count
take_block-requires-clause-count g c κs within =
    let was = c.closings.chain.ledger in
    let enough : c.args.size ≤ length was.pending = omega (arith, c.pending.ensures, c.closings-test.true) in
    omega (arith, enough, ap (λ (l : Ledger). length l.pending) c.place_first.ensures.ledger, length_first (length was.blocks) c.args.size was.pending enough)

pub closings-preserved : goal.closings-preserved
closings-preserved g c =
    let h = g.H.Hash32.digest c.args.h in
    let was = c.closings.chain.ledger in
    let placed_now = c.place_first.new.self.ledger in
    let taken_now = c.take_block.new.self.ledger in
    let n = c.closings.count in
    let next : suc n ≡ n + 1 = omega arith in
    let enough : c.args.size ≤ length was.pending = omega (arith, c.pending.ensures, c.closings-test.true) in
    record {
      ledger = one_more_closed h c.args.size n c.args.self.ledger was placed_now taken_now enough c.closings.invariant.ledger
          c.place_first.ensures.ledger c.in_ok-take_block.ensures.ledger (n + 1) next;
      full = one_more_full h c.args.size n c.args.self.ledger was placed_now taken_now enough c.closings.invariant.ledger
          c.place_first.ensures.ledger c.in_ok-take_block.ensures.ledger (n + 1) next c.closings.invariant.full;
      few = omega (
        arith,
        c.closings.invariant.few,
        c.requires.some,
        enough,
        pending_less h c.args.size n c.args.self.ledger was placed_now taken_now enough
            c.closings.invariant.ledger c.place_first.ensures.ledger c.in_ok-take_block.ensures.ledger,
      );
      hash = c.in_ok-take_block.ensures.hash;
    }

pub closings-smaller : goal.closings-smaller
closings-smaller g c =
    let was = c.closings.chain.ledger in
    let enough : c.args.size ≤ length was.pending = omega (arith, c.pending.ensures, c.closings-test.true) in
    omega (
      arith,
      c.requires.some,
      enough,
      pending_less (g.H.Hash32.digest c.args.h) c.args.size c.closings.count c.args.self.ledger was c.place_first.new.self.ledger c.take_block.new.self.ledger enough
          c.closings.invariant.ledger c.place_first.ensures.ledger c.in_ok-take_block.ensures.ledger,
    )

pub returns-clause-few : goal.returns-clause-few
returns-clause-few g c =
    let last = c.closings.chain.ledger in
    omega (
      arith,
      c.closings-test.false,
      c.pending.ensures,
      ap (λ (l : Ledger). length l.pending) c.place_first-2.ensures.ledger,
      length_first (length last.blocks) c.pending-2.result last.pending (omega (arith, c.pending-2.ensures)),
    )
