use Rattle.std.proofs.lemmas.Result.{on_ok_weaker}
use Rattle.audit_roots.proofs.marks.add_table.Goals as goal

pub returns-clause-values : goal.returns-clause-values
returns-clause-values c =
    on_ok_weaker c.add_versions-2.result (λ keeps all. keeps (c.in_ok-add_versions.ensures.values all)) c.add_versions-2.ensures.values
