use Rattle.std.proofs.Common.{map, take}
use Rattle.server_reader.specs.Answered.{AreRepliesBehind}
use Rattle.server_reader.proofs.answering.push_entries.Given as goal

-- those so far are answered
abbrev pub invariant-loop-text : goal.invariant-loop-text
invariant-loop-text l = AreRepliesBehind l.opened l.name (map (λ t. t.now) (take l.text-index l.texts)) l.initial.entries l.entries
