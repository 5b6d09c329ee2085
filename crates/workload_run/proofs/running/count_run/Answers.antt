use Rattle.std.proofs.Common.{◌∙◌, ap, map, subst, sym}
use Rattle.format_image.specs.ImageBytes.{IsSpellingOf}
use Rattle.server_run.specs.Held.{held}
use Rattle.workload_run.specs.Reports.{TellsOfImage}
use Rattle.workload_run.proofs.running.count_run.Goals as goal

pub returns-in_default-clause-none : goal.returns-in_default-clause-none
returns-in_default-clause-none g c = λ i is_image spelled.
    let one = c.in_ok-image.ensures.only i is_image (subst (λ b. IsSpellingOf b i) (sym c.bytes.ensures) spelled) in
    let none = c.in_default.is in cc

pub returns-clause-counts : goal.returns-clause-counts
returns-clause-counts g c =
    let found = rw c.in-Some.is at c.in_ok-image.ensures.found in record {
      image = c.in-Some.image;
      is_image = found.0;
      bytes = subst (λ b. IsSpellingOf b c.in-Some.image) c.bytes.ensures found.1;
      tells = subst (λ ds. TellsOfImage (g.H.Hash32.digest c.args.hasher) c.in-Some.image ds c.in_ok-report_on.field-0)
          (c.deref.ensures.value ∙ c.in_ok-digests.ensures ∙ ap (map held) c.as_slice.ensures) c.in_ok-report_on.ensures;
    }
