use Rattle.std.proofs.Common.{◌≡◌, [], drop, map}
use Rattle.spec_model.specs.Parts.{base_row}
use Rattle.spec_model.specs.Where.{holds}
use Rattle.sql_parts.specs.InTurn.{filter_after}
use Rattle.sql_select.proofs.filtering.each_taken.Given as goal

abbrev pub invariant-loop-version : goal.invariant-loop-version
invariant-loop-version l =
    filter_after (holds l.columns l.cond) l.taken.items (map (base_row l.declared) (map (λ v. v.now) (drop l.version-index l.versions)))
    ≡ filter_after (holds l.columns l.cond) [] (map (base_row l.declared) (map (λ v. v.now) l.versions))
