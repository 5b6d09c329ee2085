use Rattle.std.proofs.Common.{ℕ, None, map, filter, sym, ap, ◌∙◌}
use Rattle.std.specs.Prelude.{not}
use Rattle.std.specs.Ordering.{nat_cmp}
use Rattle.law_catalog_rows.specs.Least.{least_from}
use Rattle.spec_verify.specs.Entries.{TableRoot, same_root, root_at}
use Rattle.audit_definitions.proofs.Walks.{least_filtered}
use Rattle.audit_roots.proofs.roots.least_other.Goals as goal

pub returns : goal.returns
returns c =
    let a = c.args.a.now in
    let b = c.args.b.now in
    let other = λ (t : ℕ). not (same_root (root_at a t) (root_at b t)) in
    let table = λ (r : TableRoot). r.0 in
    c.least_among.ensures
    ∙ ap (λ o. least_from nat_cmp o (filter other (map table b))) c.least_among-best.ensures
    ∙ sym (least_filtered nat_cmp other None (map table a) (map table b))
