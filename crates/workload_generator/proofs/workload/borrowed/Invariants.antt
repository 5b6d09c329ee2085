use Rattle.std.proofs.Common.{◌≡◌, map, take, string_bytes}
use Rattle.workload_generator.proofs.workload.borrowed.Given as goal

-- the texts so far
abbrev pub invariant-loop-text : goal.invariant-loop-text
invariant-loop-text l = map (λ t. t.now) l.strs.items ≡ map string_bytes (take l.text-index l.texts)
