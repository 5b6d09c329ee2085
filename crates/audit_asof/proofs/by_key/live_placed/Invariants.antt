use Rattle.std.proofs.Common.{◌≡◌, ◌++◌, drop, map, filter}
use Rattle.std.specs.Prelude.{is_none}
use Rattle.spec_model.specs.Lists.{numbered}
use Rattle.audit_asof.specs.KeyOrder.{live_placed}
use Rattle.audit_asof.proofs.by_key.live_placed.Given as goal

abbrev pub invariant-loop-place : goal.invariant-loop-place
invariant-loop-place l =
    map (λ p. (p.0, p.1.now)) l.placed.items ++ filter (λ p. is_none p.1.end) (numbered l.place (drop l.place l.versions)) ≡ live_placed l.versions
