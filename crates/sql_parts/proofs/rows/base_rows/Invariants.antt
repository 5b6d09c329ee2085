use Rattle.std.proofs.Common.{◌≡◌, take, map}
use Rattle.spec_model.specs.Parts.{base_row}
use Rattle.sql_parts.proofs.rows.base_rows.Given as goal

abbrev pub invariant-loop-version : goal.invariant-loop-version
invariant-loop-version l = l.rows.items ≡ map (base_row l.declared) (map (λ v. v.now) (take l.version-index l.versions))
