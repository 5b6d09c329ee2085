use Rattle.std.proofs.Common.{◌≡◌, ◌++◌, ◌+◌, drop, flat_map}
use Rattle.spec_model.specs.Lists.{numbered}
use Rattle.spec_model.specs.Events.{fields_at}
use Rattle.sql_apply.proofs.events.fields_of.Given as goal

abbrev pub invariant-loop-place : goal.invariant-loop-place
invariant-loop-place l = l.fields.items ++ flat_map fields_at (numbered (l.place + 1) (drop l.place l.values)) ≡ flat_map fields_at (numbered 1 l.values)
