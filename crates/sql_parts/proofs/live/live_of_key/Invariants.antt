use Rattle.std.proofs.Common.{◌≡◌, ◌++◌, drop, map}
use Rattle.spec_model.specs.Rows.{live}
use Rattle.spec_model.specs.Keys.{of_key}
use Rattle.sql_parts.proofs.live.live_of_key.Given as goal

abbrev pub invariant-loop-version : goal.invariant-loop-version
invariant-loop-version l =
    map (λ v. v.now) l.found.items ++ live (of_key l.table.columns l.key (drop l.version-index l.versions)) ≡ live (of_key l.table.columns l.key l.versions)
