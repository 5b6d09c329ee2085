use Rattle.std.proofs.Common.{◌≡◌, map, take}
use Rattle.audit_roots.specs.EventIds.{number_in}
use Rattle.audit_roots.proofs.event_ids.put_numbers.Given as goal

abbrev pub invariant-loop-id : goal.invariant-loop-id
invariant-loop-id l = l.numbers.items ≡ map number_in (take l.id-index l.ids)
