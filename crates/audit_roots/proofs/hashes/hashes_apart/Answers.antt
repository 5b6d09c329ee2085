use Rattle.std.proofs.Common.{map, sym, ap, subst, ◌∙◌}
use Rattle.std.specs.List.{All}
use Rattle.std.proofs.lemmas.Result.{IfOk-weaker}
use Rattle.audit_roots.specs.Marks.{is_end, is_start, leaf_hash, HasValues}
use Rattle.audit_roots.proofs.Woven.{kept_values, woven_is}
use Rattle.audit_roots.proofs.hashes.hashes_apart.Goals as goal

pub hashes_in_fours-requires-after_bounds : goal.hashes_in_fours-requires-after_bounds
hashes_in_fours-requires-after_bounds g c κs within =
    subst (All HasValues) (sym (c.deref.ensures.value ∙ c.in_ok-starts.ensures)) (kept_values is_start c.args.marks.now c.requires)

pub hashes_in_fours-requires-2-after_bounds : goal.hashes_in_fours-requires-2-after_bounds
hashes_in_fours-requires-2-after_bounds g c κs within =
    subst (All HasValues) (sym (c.deref-2.ensures.value ∙ c.in_ok-ends.ensures)) (kept_values is_end c.args.marks.now c.requires)

pub returns : goal.returns
returns g c =
    let f = leaf_hash (g.H.Hash32.digest c.args.hasher) in
    IfOk-weaker c.woven.result _ _
    (λ hashes is.
    is
    ∙ woven_is f c.args.marks.now _ _
    (c.deref-3.ensures.value ∙ c.in_ok-of_starts.ensures ∙ ap (map f) (c.deref.ensures.value ∙ c.in_ok-starts.ensures))
    (c.deref-4.ensures.value ∙ c.in_ok-of_ends.ensures ∙ ap (map f) (c.deref-2.ensures.value ∙ c.in_ok-ends.ensures)))
    c.woven.ensures
