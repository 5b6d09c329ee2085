use Rattle.std.proofs.Common.{map, ap, ap₂, ◌∙◌}
use Rattle.audit_verify.specs.Groups.{left_over}
use Rattle.audit_roots.specs.ImageTable.{table_of}
use Rattle.audit_definitions.proofs.Verdicts.{same_ok}
use Rattle.audit_roots.proofs.Tables.{are_tables}
use Rattle.audit_verify.proofs.workers.left_in.Goals as goal

pub returns : goal.returns
returns c =
    same_ok _ _ _
    (ap₂ left_over (ap (map table_of) c.deref-2.ensures.value ∙ are_tables _ _ c.in_ok-tables.ensures) c.as_slice.ensures)
    c.left_over.ensures
