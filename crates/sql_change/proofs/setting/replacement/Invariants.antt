use Rattle.std.proofs.Common.{◌≡◌, ◌++◌, map, flat_map}
use Rattle.std.specs.List.{zip}
use Rattle.spec_model.specs.Changes.{replaced}
use Rattle.sql_change.proofs.setting.replacement.Given as goal

abbrev pub invariant-loop-version : goal.invariant-loop-version
invariant-loop-version l =
    l.changes ++ flat_map (λ p. replaced l.fn.columns p.0 p.1) (zip (map (λ v. v.now) l.version-iterator.a.rest.now) l.version-iterator.b.rest.items)
    ≡ flat_map (λ p. replaced l.fn.columns p.0 p.1) (zip (map (λ v. v.now) l.fn.versions) l.fn.rows)
