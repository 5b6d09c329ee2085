use Rattle.std.proofs.Common.{rules, ◌∙◌}
use Rattle.std.proofs.lemmas.Result.{IfOk-weaker}
use Rattle.audit_roots.proofs.Hashed.{hashes_of_both}
use Rattle.audit_roots.proofs.workers.+fn-leaf_hashes_by-join+arg2+fn-leaf_hashes_by-join+arg3+leaf_hashes_by.Goals as goal

pub returns : goal.returns
returns g t c =
    IfOk-weaker c.joined.result _ _
    (λ hashes is.
    hashes_of_both (g.H.Hash32.digest c.args.hasher) c.args.marks.now c.parts_at.result.0.now c.parts_at.result.1.now
    c.in_ok-first.field-0.items c.deref.result.now hashes.items c.parts_at.ensures.parts (search rules) (c.deref.ensures.value ∙ (search rules)) is)
    c.joined.ensures
