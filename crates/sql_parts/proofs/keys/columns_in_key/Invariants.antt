use Rattle.std.proofs.Common.{◌≡◌, ◌++◌, drop, map, filter}
use Rattle.std.specs.Prelude.{◌==◌, not}
use Rattle.spec_model.specs.Lists.{numbered}
use Rattle.sql_parts.proofs.keys.columns_in_key.Given as goal

abbrev pub invariant-loop-place : goal.invariant-loop-place
invariant-loop-place l =
    map (λ p. (p.0, p.1.now)) l.placed.items ++ filter (λ p. not (p.1.key_position == 0)) (numbered l.place (drop l.place l.columns))
    ≡ filter (λ p. not (p.1.key_position == 0)) (numbered 0 l.columns)
