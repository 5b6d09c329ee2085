use Rattle.std.proofs.Common.{◌∙◌}
use Rattle.format_digest.proofs.Values.{value_is}
use Rattle.format_digest.proofs.writing.value_of.Goals as goal

pub returns : goal.returns
returns c =
    value_is c.args.digest.now c.moment_text-made.result.bytes c.moment_text-last_commit.result.bytes c.as_str-2.result.now c.as_str.result.now c.as_str-3.result.now c.in_ok-value.value
    c.moment_text-made.ensures c.as_str-2.ensures.value c.moment_text-last_commit.ensures c.as_str-3.ensures.value
    c.in_ok-hash.ensures.fits.0 c.in_ok-hash.ensures.fits.1 (c.as_str.ensures.value ∙ c.in_ok-hash.ensures.text) c.in_ok-value.ensures
