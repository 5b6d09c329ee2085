use Rattle.std.proofs.Common.{◌≡◌, ◌≤◌, ◌-◌, length}
use Rattle.std.specs.List.{All}
use Rattle.base_io.specs.History.{Since}
use Rattle.cli_audit.specs.Calls.{Moved}
use Rattle.cli_audit.specs.Transfer.{CameSoFar}
use Rattle.cli_audit.proofs.transfer.read_input.Given as goal

-- so much came, at most the limit, by reads that gave bytes
abbrev pub invariant-loop-n : goal.invariant-loop-n
invariant-loop-n g l =
    CameSoFar (g.S.Source.left l.initial.source) (g.S.Source.left l.source) l.came.items
    × (length l.came.items ≤ 4194304)
    × (g.S.Source.faults l.source ≡ g.S.Source.faults l.initial.source)
    × (length l.buf ≡ 4096)
    × Since (g.S.Source.history l.initial.source) (g.S.Source.history l.source) (All Moved)

abbrev pub decreases-loop-n : goal.decreases-loop-n
decreases-loop-n g l = 4194305 - length l.came.items
