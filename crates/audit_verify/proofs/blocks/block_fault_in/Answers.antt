use Rattle.std.proofs.Common.{ap, sym, ◌∙◌, ◌+◌, ◌-◌, drop, ◌∷◌, arith}
use Rattle.audit_verify.proofs.Fitting.{entries_more}
use Rattle.audit_verify.proofs.BlockParts.{next_holds, next_fails, none_left}
use Rattle.audit_verify.proofs.blocks.block_fault_in.Goals as goal

pub loop-b-preserved : goal.loop-b-preserved
loop-b-preserved g c =
    let h = g.H.Hash32.digest c.args.hasher in
    let i = c.args.image.now in
    let r = c.block_at-block.result.now in
    let b = c.loop-b.b in
    let end = c.args.from + c.args.count in
    let here = ap (drop b) (sym c.as_slice-blocks.ensures) ∙ c.block_at-block.ensures ∙ ap (λ l. r ∷ drop (b + 1) l) c.as_slice-blocks.ensures in
    record {
      rest =
          next_holds h i b (end - b) (end - (b + 1)) r (drop (b + 1) i.blocks) _ here (omega (arith, c.loop-b-test.true)) c.loop-b.invariant.rest
          (sym c.in_ok-block_holds.ensures.holds ∙ c.if-not-branch.false);
      before = ap (λ n. n + r.size) c.loop-b.invariant.before ∙ entries_more i b r (drop (b + 1) i.blocks) here;
      within = c.in_ok-block_holds.ensures.within c.if-not-branch.false;
    }

pub returns-then-not-branch : goal.returns-then-not-branch
returns-then-not-branch g c =
    let h = g.H.Hash32.digest c.args.hasher in
    let i = c.args.image.now in
    let r = c.block_at-block.result.now in
    let b = c.loop-b.b in
    let end = c.args.from + c.args.count in
    let here = ap (drop b) (sym c.as_slice-blocks.ensures) ∙ c.block_at-block.ensures ∙ ap (λ l. r ∷ drop (b + 1) l) c.as_slice-blocks.ensures in
    next_fails h i b (end - b) (end - (b + 1)) r (drop (b + 1) i.blocks) _ here (omega (arith, c.loop-b-test.true)) c.loop-b.invariant.rest
    (sym c.in_ok-block_holds.ensures.holds ∙ c.if-not-branch.true)

pub returns : goal.returns
returns g c =
    none_left (g.H.Hash32.digest c.args.hasher) c.args.image.now c.loop-b.b (c.args.from + c.args.count - c.loop-b.b) _ _
    (omega (arith, c.loop-b-test.false)) c.loop-b.invariant.rest
