use Rattle.audit_roots.proofs.IdsAt.{id_some, id_none}
use Rattle.audit_roots.proofs.merged.id_at.Goals as goal

pub returns-in-Some : goal.returns-in-Some
returns-in-Some c =
    let found = c.in-Some.ensures.lookup in
    id_some c.args.entries.now c.args.k c.in-Some.entry.now found.0 found.1

pub returns-in-None : goal.returns-in-None
returns-in-None c = id_none c.args.entries.now c.args.k c.in-None.ensures.lookup.3
