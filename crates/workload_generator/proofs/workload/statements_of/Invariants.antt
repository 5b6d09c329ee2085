use Rattle.std.proofs.Common.{◌≡◌, map, take, string_bytes}
use Rattle.workload_generator.specs.Workload as spec
use Rattle.workload_generator.proofs.workload.statements_of.Given as goal

-- the statements so far
abbrev pub invariant-loop-n : goal.invariant-loop-n
invariant-loop-n l = map string_bytes l.texts.items ≡ take l.n (spec.session_texts l.table l.rows)
