use Rattle.std.proofs.Common.{◌≡◌, map, take, string_bytes}
use Rattle.audit_answers.specs.Told.{answers_text}
use Rattle.audit_answers.proofs.answering.answers_over.Given as goal

abbrev pub invariant-loop-text : goal.invariant-loop-text
invariant-loop-text l = string_bytes l.written ≡ answers_text l.opened (map (λ t. t.now) (take l.text-index l.texts))
