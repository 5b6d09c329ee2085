use Rattle.std.proofs.Common.{◌≡◌, ◌+◌, ◌==◌, drop}
use Rattle.std.specs.List.{list_all}
use Rattle.std.specs.Prelude.{◌||◌, not}
use Rattle.spec_model.specs.Lists.{numbered, is_among}
use Rattle.audit_definitions.proofs.rules.are_without_key.Given as goal

abbrev pub invariant-loop-place : goal.invariant-loop-place
invariant-loop-place l =
    list_all (λ c. not (is_among l.dropped c.0) || c.1.key_position == 0) (numbered (l.place + 1) (drop l.place l.columns))
    ≡ list_all (λ c. not (is_among l.dropped c.0) || c.1.key_position == 0) (numbered 1 l.columns)
