use Rattle.std.proofs.Common.{rules, refl, sym, ◌∙◌, get_or}
use Rattle.std.proofs.lemmas.List.{get_or_default}
use Rattle.audit_extract.proofs.ImageLeaves.{bytes_at}
use Rattle.audit_extract.proofs.leaves.same_bytes.Goals as goal

pub returns-then-not-is_equal-clause-differ : goal.returns-then-not-is_equal-clause-differ
returns-then-not-is_equal-clause-differ c =
    λ is. bytes_at c.args.a.now c.args.b.now c.loop-i.i c.index-a-i.result (get_or c.args.b.now c.loop-i.i c.index-b-i.result) (search rules) (search rules) (search rules)
    (get_or_default c.args.b.now c.loop-i.i c.index-b-i.result (get_or c.args.b.now c.loop-i.i c.index-b-i.result) (search rules))
    (λ e. c.if-not-is_equal.ensures.differ refl (c.bytes.ensures ∙ e ∙ sym c.bytes-in-loop-i.ensures))
