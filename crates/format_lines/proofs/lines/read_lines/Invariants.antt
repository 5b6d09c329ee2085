use Rattle.std.proofs.Common.{◌≡◌, ◌+◌, ◌≤◌, true, length, map, Ok, All}
use Rattle.format_lines.specs.Line.{seen, is_session_name}
use Rattle.format_lines.specs.Lines.{lines_of, read_input, read_from, followed}
use Rattle.format_lines.proofs.lines.read_lines.Given as goal

abbrev pub invariant-loop-rest : goal.invariant-loop-rest
invariant-loop-rest l =
    (read_input l.fn.bytes ≡ followed (Ok (map seen l.lines.items)) (read_from (l.number + 1) (lines_of l.rest)))
    × All (λ line. is_session_name line.session.now ≡ true) l.lines.items
    × (length l.lines.items ≤ l.number) × (l.number + length l.rest ≤ length l.fn.bytes)

abbrev pub decreases-loop-rest : goal.decreases-loop-rest
decreases-loop-rest l = length l.rest
