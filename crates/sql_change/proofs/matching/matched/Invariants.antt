use Rattle.std.proofs.Common.{◌≡◌, drop, map}
use Rattle.spec_model.specs.Lists.{checked_filter}
use Rattle.spec_model.specs.Parts.{base_row}
use Rattle.spec_model.specs.Where.{holds}
use Rattle.sql_parts.specs.InTurn.{filter_after}
use Rattle.sql_change.proofs.matching.matched.Given as goal

abbrev pub invariant-loop-version : goal.invariant-loop-version
invariant-loop-version l =
    filter_after (λ v. holds l.columns l.cond (base_row l.declared v)) (map (λ v. v.now) l.taken.items) (map (λ v. v.now) (drop l.version-index l.live_by_key))
    ≡ checked_filter (λ v. holds l.columns l.cond (base_row l.declared v)) (map (λ v. v.now) l.live_by_key)
