use Rattle.audit_extract.proofs.ImageLeaves.{users_start, users_rows, users_next, users_end}
use Rattle.audit_extract.proofs.leaves.add_users.Goals as goal

pub each-init : goal.each-init
each-init c = users_start c.args.leaves.now.items c.args.defs.now c.args.tables.now c.requires

pub add_table-requires : goal.add_table-requires
add_table-requires c = users_rows _ _ _ _ c.each.defs.now c.each.rest.now _ c.in-Some-first_of.others.now _ c.in-Some.more.now c.in-Some-first_of.ensures c.in-Some.ensures c.each.invariant

pub each-preserved : goal.each-preserved
each-preserved c = users_next _ _ _ _ _ c.each.defs.now c.each.rest.now _ c.in-Some-first_of.others.now _ c.in-Some.more.now c.in-Some-first_of.ensures c.in-Some.ensures c.each.invariant c.in_ok-add_table-in-Some-first_of.ensures

pub returns : goal.returns
returns c = users_end _ _ _ _ c.each.defs.now c.each.rest.now (rw c.in_default.is at c.first_of.ensures) c.each.invariant
