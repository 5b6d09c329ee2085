use Rattle.std.proofs.Common.{◌≡◌, ◌≤◌, ◌-◌, take, length}
use Rattle.std.specs.List.{All}
use Rattle.base_io.specs.History.{Since}
use Rattle.base_io.specs.Outside.{TellsTaken}
use Rattle.cli_audit.specs.Calls.{Moved}
use Rattle.cli_audit.proofs.transfer.write_all.Given as goal

-- the sink took the bytes so far, by writes that each took some
abbrev pub invariant-loop-at : goal.invariant-loop-at
invariant-loop-at g l =
    TellsTaken (g.K.Sink.taken l.initial.sink) (g.K.Sink.taken l.sink) (take l.at l.bytes)
    × (l.at ≤ length l.bytes)
    × (g.K.Sink.faults l.sink ≡ g.K.Sink.faults l.initial.sink)
    × (g.K.Sink.stalls l.sink ≡ g.K.Sink.stalls l.initial.sink)
    × Since (g.K.Sink.history l.initial.sink) (g.K.Sink.history l.sink) (All Moved)

abbrev pub decreases-loop-at : goal.decreases-loop-at
decreases-loop-at g l = length l.bytes - l.at
