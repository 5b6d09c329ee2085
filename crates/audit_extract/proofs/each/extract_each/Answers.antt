use Rattle.std.proofs.Common.{sym}
use Rattle.audit_extract.proofs.EachDigest.{meets_of, finds_of}
use Rattle.audit_extract.proofs.each.extract_each.Goals as goal

pub extract-requires-clause-honest : goal.extract-requires-clause-honest
extract-requires-clause-honest g c κs within =
    (meets_of (g.H.Hash32.digest c.args.h) c.args.honest.now c.args.suspect.now c.requires.honest c.requires.suspect c.args.digests.now c.in-Some.digest.now (sym c.in-Some.ensures) c.requires.honest_accepted c.requires.suspect_accepted).0

pub extract-requires-clause-suspect : goal.extract-requires-clause-suspect
extract-requires-clause-suspect g c κs within =
    (meets_of (g.H.Hash32.digest c.args.h) c.args.honest.now c.args.suspect.now c.requires.honest c.requires.suspect c.args.digests.now c.in-Some.digest.now (sym c.in-Some.ensures) c.requires.honest_accepted c.requires.suspect_accepted).1

pub returns-in-Some-clause-finds : goal.returns-in-Some-clause-finds
returns-in-Some-clause-finds g c =
    finds_of (g.H.Hash32.digest c.args.h) c.args.honest.now c.args.suspect.now c.requires.honest c.requires.suspect c.args.digests.now c.in-Some.digest.now c.extract.result (sym c.in-Some.ensures) c.requires.honest_accepted c.requires.suspect_accepted c.extract.ensures.finds
