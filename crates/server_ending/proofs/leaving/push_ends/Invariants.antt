use Rattle.std.proofs.Common.{◌≡◌, ◌++◌, map, take, string_bytes}
use Rattle.server_result.specs.Joined.{joined_each}
use Rattle.server_ending.proofs.leaving.push_ends.Given as goal

-- those so far are there
abbrev pub invariant-loop-end : goal.invariant-loop-end
invariant-loop-end l = string_bytes l.out ≡ string_bytes l.initial.out ++ joined_each (map (λ e. e.entries) (take l.end-index l.ends))
