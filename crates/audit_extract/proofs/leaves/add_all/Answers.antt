use Rattle.std.proofs.Common.{sym, subst}
use Rattle.spec_model.specs.Catalog.{Defs}
use Rattle.format_image.specs.ImageBytes.{AreTables}
use Rattle.audit_extract.proofs.ImageLeaves.{two_first}
use Rattle.audit_extract.proofs.leaves.add_all.Goals as goal

pub add_each-requires-clause-first : goal.add_each-requires-clause-first
add_each-requires-clause-first c = (two_first c.args.image.now c.in-Some.first.now c.in-Some.rest.now c.in-Some-first_of.second.now c.in-Some-first_of.users.now c.requires (rw c.as_slice.ensures at c.in-Some.ensures) c.in-Some-first_of.ensures).0

pub add_each-requires-clause-second : goal.add_each-requires-clause-second
add_each-requires-clause-second c = (two_first c.args.image.now c.in-Some.first.now c.in-Some.rest.now c.in-Some-first_of.second.now c.in-Some-first_of.users.now c.requires (rw c.as_slice.ensures at c.in-Some.ensures) c.in-Some-first_of.ensures).1.0

pub add_each-requires-clause-users : goal.add_each-requires-clause-users
add_each-requires-clause-users c =
    subst (λ (defs : Defs). AreTables defs c.in-Some-first_of.users.now) (sym c.as_slice-in-Some-first_of.ensures)
    (two_first c.args.image.now c.in-Some.first.now c.in-Some.rest.now c.in-Some-first_of.second.now c.in-Some-first_of.users.now c.requires (rw c.as_slice.ensures at c.in-Some.ensures) c.in-Some-first_of.ensures).1.1
