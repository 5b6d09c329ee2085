use Rattle.std.proofs.Common.{sym, ◌∙◌}
use Rattle.audit_verify.proofs.GroupsMerge.{all_versions, all_indexes, all_roots}
use Rattle.audit_verify.proofs.VerdictParts.{after_ids}
use Rattle.audit_definitions.proofs.Verdicts.{same_ok}
use Rattle.audit_verify.proofs.workers.verify_groups.Goals as goal

pub verdict_on-requires-clause-version : goal.verdict_on-requires-clause-version
verdict_on-requires-clause-version g c =
    all_versions c.in_ok-tables.tables.items c.args.image.now c.in_ok-tables.ensures (g.H.Hash32.digest c.args.hasher) c.len-count.result c.len-count.ensures
    c.in_ok-found.found.groups c.in_ok-found.ensures.groups

pub verdict_on-requires-clause-index : goal.verdict_on-requires-clause-index
verdict_on-requires-clause-index g c =
    all_indexes c.in_ok-tables.tables.items c.args.image.now c.in_ok-tables.ensures (g.H.Hash32.digest c.args.hasher) c.len-count.result c.len-count.ensures
    c.in_ok-found.found.groups c.in_ok-found.ensures.groups

pub returns : goal.returns
returns g c =
    let h = g.H.Hash32.digest c.args.hasher in
    let i = c.args.image.now in
    same_ok _ _ _
    (after_ids h i c.root_place-root.result (sym c.id_fault.ensures ∙ c.in_default.is)
    (all_roots c.in_ok-tables.tables.items i c.in_ok-tables.ensures h c.len-count.result c.len-count.ensures c.in_ok-found.found.groups c.in_ok-found.ensures.groups
    c.requires c.as_slice-2.result.now c.in_ok-found.found.left c.root_place-root.result c.as_slice-2.ensures c.in_ok-found.ensures.left c.root_place-root.ensures))
    c.verdict_on.ensures
