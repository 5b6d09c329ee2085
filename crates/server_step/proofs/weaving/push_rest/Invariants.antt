use Rattle.std.proofs.Common.{◌≡◌, ◌++◌, map, take, string_bytes}
use Rattle.server_result.specs.Joined.{joined_each}
use Rattle.server_step.proofs.weaving.push_rest.Given as goal

-- those so far are there
abbrev pub invariant-loop-texts : goal.invariant-loop-texts
invariant-loop-texts l = string_bytes l.out ≡ string_bytes l.initial.out ++ joined_each (map (λ texts. texts.now) (take l.texts-index l.left))
