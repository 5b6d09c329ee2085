use Rattle.std.proofs.Common.{◌≡◌, map, take}
use Rattle.server_step.proofs.leaving.transcript_of.Given as goal

-- those of the sessions so far
abbrev pub invariant-loop-session : goal.invariant-loop-session
invariant-loop-session g l = map (λ t. t.now) l.texts.items ≡ map (λ y. y.entries) (take l.session-index l.sessions)
