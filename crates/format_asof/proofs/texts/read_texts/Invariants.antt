use Rattle.std.proofs.Common.{◌≡◌, ◌+◌, ◌≤◌, length, map, Ok}
use Rattle.format_lines.specs.Lines.{lines_of}
use Rattle.format_asof.specs.Texts.{texts_of, told_from, followed}
use Rattle.format_asof.proofs.texts.read_texts.Given as goal

abbrev pub invariant-loop-rest : goal.invariant-loop-rest
invariant-loop-rest l =
    (texts_of l.fn.bytes ≡ followed (Ok (map (λ t. t.now) l.texts.items)) (told_from (l.number + 1) (lines_of l.rest)))
    × (l.number + length l.rest ≤ length l.fn.bytes)

abbrev pub decreases-loop-rest : goal.decreases-loop-rest
decreases-loop-rest l = length l.rest
