use Rattle.std.proofs.Common.{◌≡◌, drop, map}
use Rattle.spec_model.specs.Lists.{checked_map}
use Rattle.spec_model.specs.Changes.{row_after_set}
use Rattle.sql_parts.specs.InTurn.{map_after}
use Rattle.sql_change.proofs.setting.each_set.Given as goal

abbrev pub invariant-loop-version : goal.invariant-loop-version
invariant-loop-version l =
    map_after (row_after_set l.def.columns l.sets) l.rows (map (λ v. v.now) (drop l.version-index l.versions))
    ≡ checked_map (row_after_set l.def.columns l.sets) (map (λ v. v.now) l.versions)
