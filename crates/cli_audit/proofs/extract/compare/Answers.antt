use Rattle.cli_audit.proofs.ExtractLemmas.{accepts}
use Rattle.cli_audit.proofs.extract.compare.Goals as goal

pub returns-in-Ok-Err : goal.returns-in-Ok-Err
returns-in-Ok-Err g c =
    let h = g.H.Hash32.digest c.args.h in
    (accepts h c.args.digests.now c.args.honest.now c.in-Ok.image (rw c.in-Ok.is at c.in_ok-image.ensures), rw c.in-Ok-Err.field-0-is at c.in-Ok-Err.ensures)

pub returns : goal.returns
returns g c =
    let h = g.H.Hash32.digest c.args.h in
    let a = rw c.in-Ok.is at c.in_ok-image.ensures in
    let b = rw c.in-Ok-Ok.field-0-is at c.in-Ok-Ok.ensures in (
      record {
        honest = c.in-Ok.image;
        suspect = c.in-Ok-Ok.image;
        is_honest = (a.0, a.1);
        is_suspect = (b.0, b.1);
        honest_accepted = accepts h c.args.digests.now c.args.honest.now c.in-Ok.image a;
        suspect_accepted = accepts h c.args.digests.now c.args.suspect.now c.in-Ok-Ok.image b;
        found = c.in_ok-outcome.ensures.finds;
        strings = c.in_ok-outcome.ensures.strings;
      },
      c.coverage_of-coverage.ensures,
    )
