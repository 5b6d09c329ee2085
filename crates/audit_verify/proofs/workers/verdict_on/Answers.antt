use Rattle.std.proofs.Common.{sym, ◌∙◌}
use Rattle.audit_verify.proofs.RowFaults.{no_version}
use Rattle.audit_verify.proofs.Small.{small_first, small_second}
use Rattle.audit_verify.proofs.workers.verdict_on.Goals as goal

pub catalog_fault-requires-clause-first : goal.catalog_fault-requires-clause-first
catalog_fault-requires-clause-first c = small_first c.args.image.now c.requires.image (no_version c.args.image.now (sym c.requires.version ∙ c.in_default-version.is))

pub catalog_fault-requires-clause-second : goal.catalog_fault-requires-clause-second
catalog_fault-requires-clause-second c = small_second c.args.image.now c.requires.image (no_version c.args.image.now (sym c.requires.version ∙ c.in_default-version.is))
