use Rattle.std.proofs.Common.{◌≡◌, drop}
use Rattle.std.specs.Prelude.{max}
use Rattle.spec_model.specs.Alter.{changes_at}
use Rattle.spec_model.specs.Lists as lists
use Rattle.sql_system.proofs.changing.greatest_change.Given as goal

abbrev pub invariant-loop-version : goal.invariant-loop-version
invariant-loop-version l =
    max l.greatest (lists.greatest (changes_at l.place l.id (drop l.version-index l.versions)))
    ≡ lists.greatest (changes_at l.place l.id l.versions)
