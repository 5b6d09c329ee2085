use Rattle.std.proofs.Common.{◌≡◌, ◌++◌, take, string_bytes}
use Rattle.server_result.specs.Joined.{joined}
use Rattle.server_result.proofs.texts.push_texts.Given as goal

-- those so far are there
abbrev pub invariant-loop-text : goal.invariant-loop-text
invariant-loop-text l = string_bytes l.out ≡ string_bytes l.initial.out ++ joined (take l.text-index l.texts)
