use Rattle.std.proofs.Common.{length, refl}
use Rattle.audit_roots.proofs.Hashed.{front_part, hashes_of_part}
use Rattle.audit_roots.proofs.TableRoots.{group_is}
use Rattle.audit_roots.proofs.roots.group_at.Goals as goal

pub returns-clause-group : goal.returns-clause-group
returns-clause-group c = λ h.
    group_is c.args.marks.now c.split_at.result.1.now c.first_group.result.0.now c.first_group.result.1.now c.args.at c.split_at.ensures.back c.first_group.ensures.parts h _ c.first_group.ensures.other
    _ c.first_group.ensures.own c.requires.at refl

pub returns-clause-hashes : goal.returns-clause-hashes
returns-clause-hashes c = λ h all.
    let own = c.first_group.result.0.now in
    let rest = c.split_at.result.1.now in
    hashes_of_part h c.args.marks.now rest own c.args.hashes.now _ c.args.at (length own) (length own) refl
    c.split_at.ensures.back (front_part own c.first_group.result.1.now rest c.first_group.ensures.parts) c.hashes_at.ensures all
