use Rattle.std.proofs.Common.{ap, ◌∙◌}
use Rattle.audit_verify.specs.Groups.{if_none, version_in}
use Rattle.audit_verify.proofs.GroupParts.{group_started, group_few, group_indexes}
use Rattle.audit_roots.proofs.WrongRoots.{within_shown, group_tables}
use Rattle.audit_verify.proofs.groups.group_rows.Goals as goal

pub group_of-group-requires : goal.group_of-group-requires
group_of-group-requires c = within_shown _ _ c.args.image.now _ c.in_ok-tables.ensures c.deref-2.ensures.value c.requires.within

pub version_in_group-requires : goal.version_in_group-requires
version_in_group-requires c =
    group_started _ _ _ c.args.image.now c.args.from c.args.count c.in_ok-tables.ensures c.deref-2.ensures.value c.group_of-group.ensures c.requires.ids

pub index_in_group-requires : goal.index_in_group-requires
index_in_group-requires c =
    group_few _ _ _ c.args.image.now c.args.from c.args.count c.in_ok-tables.ensures c.deref-2.ensures.value c.group_of-group.ensures c.requires.image

pub returns-clause-version : goal.returns-clause-version
returns-clause-version c =
    c.in_ok-version.ensures
    ∙ ap (version_in c.args.image.now)
    (group_tables _ _ _ c.args.image.now c.args.from c.args.count c.in_ok-tables.ensures c.requires.image c.deref-2.ensures.value c.group_of-group.ensures)

pub returns-clause-index : goal.returns-clause-index
returns-clause-index c =
    c.in_ok-index.ensures
    ∙ ap (if_none c.in_ok-version.version)
    (group_indexes _ _ _ c.args.image.now c.args.from c.args.count c.in_ok-tables.ensures c.deref-2.ensures.value c.group_of-group.ensures)
