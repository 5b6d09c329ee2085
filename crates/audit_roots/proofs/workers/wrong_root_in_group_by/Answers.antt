use Rattle.std.proofs.Common.{ap₂}
use Rattle.audit_roots.specs.Groups.{wrong_root}
use Rattle.audit_definitions.proofs.Verdicts.{same_ok}
use Rattle.audit_roots.proofs.WrongRoots.{within_shown, group_tables, group_spelled, group_rises}
use Rattle.audit_roots.proofs.workers.wrong_root_in_group_by.Goals as goal

pub group_of-group-requires : goal.group_of-group-requires
group_of-group-requires g c = within_shown _ _ c.args.image.now _ c.in_ok-tables.ensures c.deref-2.ensures.value c.requires.within

pub root_in_group_by-requires-clause-spelled : goal.root_in_group_by-requires-clause-spelled
root_in_group_by-requires-clause-spelled g c κs within =
    group_spelled _ _ _ c.args.image.now c.args.from c.args.count c.in_ok-tables.ensures c.requires.image c.deref-2.ensures.value c.group_of-group.ensures

pub root_in_group_by-requires-clause-rise : goal.root_in_group_by-requires-clause-rise
root_in_group_by-requires-clause-rise g c κs within =
    group_rises _ _ _ c.args.image.now c.args.from c.args.count c.in_ok-tables.ensures c.requires.image c.deref-2.ensures.value c.group_of-group.ensures

pub returns : goal.returns
returns g c =
    same_ok _ _ _
    (ap₂ (wrong_root (g.H.Hash32.digest c.args.hasher))
    (group_tables _ _ _ c.args.image.now c.args.from c.args.count c.in_ok-tables.ensures c.requires.image c.deref-2.ensures.value c.group_of-group.ensures)
    c.as_slice.ensures)
    c.root_in_group_by.ensures
