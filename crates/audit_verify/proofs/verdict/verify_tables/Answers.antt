use Rattle.std.proofs.Common.{sym, ◌∙◌}
use Rattle.audit_verify.proofs.RowFaults.{no_version}
use Rattle.audit_verify.proofs.Small.{small_first, small_second}
use Rattle.audit_verify.proofs.verdict.verify_tables.Goals as goal

pub row_fault-requires-clause-ids : goal.row_fault-requires-clause-ids
row_fault-requires-clause-ids g c = sym c.id_fault.ensures ∙ c.in_default.is

pub catalog_fault-requires-clause-first : goal.catalog_fault-requires-clause-first
catalog_fault-requires-clause-first g c = small_first c.args.image.now c.requires (no_version c.args.image.now (sym c.in_ok-place-2.ensures ∙ c.in_default-3.is))

pub catalog_fault-requires-clause-second : goal.catalog_fault-requires-clause-second
catalog_fault-requires-clause-second g c = small_second c.args.image.now c.requires (no_version c.args.image.now (sym c.in_ok-place-2.ensures ∙ c.in_default-3.is))
