use Rattle.std.proofs.Common.{◌≡◌, ◌++◌, drop}
use Rattle.spec_model.specs.Parts as spec
use Rattle.sql_parts.proofs.rows.history_rows.Given as goal

abbrev pub invariant-loop-version : goal.invariant-loop-version
invariant-loop-version l = l.rows.items ++ spec.history_rows l.declared (drop l.version-index l.versions) ≡ spec.history_rows l.declared l.versions
