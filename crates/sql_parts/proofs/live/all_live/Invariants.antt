use Rattle.std.proofs.Common.{◌≡◌, ◌++◌, drop, map}
use Rattle.spec_model.specs.Rows.{live}
use Rattle.sql_parts.proofs.live.all_live.Given as goal

abbrev pub invariant-loop-version : goal.invariant-loop-version
invariant-loop-version l = map (λ v. v.now) l.found.items ++ live (drop l.version-index l.versions) ≡ live l.versions
