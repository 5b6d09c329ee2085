use Rattle.std.proofs.Common.{arith, ap, inl, inr, flat_map, Bor, map}
use Rattle.sql_types.specs.declared.version.Version.{Version}
use Rattle.spec_model.specs.Changes.{replaced}
use Rattle.sql_parts.proofs.Zipped.{all_done, no_pairs, second_ended}
use Rattle.sql_change.proofs.setting.replacement.Goals as goal

abbrev seen : Bor Version → Version
seen v = v.now

pub returns : goal.returns
returns c =
    let left = c.loop-version.version-iterator in
    all_done _ _ _
    (ap (flat_map (λ p. replaced c.args.columns.now p.0 p.1)) (elim c.in-None.ensures.steps [
      | inl ended ↦ no_pairs seen left.a.rest.now left.b.rest.items (omega (arith, ended.1.0))
      | inr ended ↦ second_ended (map seen left.a.rest.now) left.b.rest.items (omega (arith, ended.1.0, left.b.rest.ok.0))
    ]))
    c.loop-version.invariant
