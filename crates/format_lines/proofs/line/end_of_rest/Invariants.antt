use Rattle.std.proofs.Common.{◌≡◌, ◌+◌, ◌<◌, ◌≤◌, true, length, take}
use Rattle.std.specs.List.{suffix_len, slice_index}
use Rattle.format_lines.specs.Line.{is_blank}
use Rattle.format_lines.proofs.line.end_of_rest.Given as goal

abbrev pub invariant-loop-end : goal.invariant-loop-end
invariant-loop-end l =
    (l.end ≤ length l.z) × (l.end + suffix_len is_blank l.z ≡ length l.z + suffix_len is_blank (take l.end l.z))
    × (l.end < length l.z → is_blank (slice_index l.z l.end) ≡ true)

abbrev pub decreases-loop-end : goal.decreases-loop-end
decreases-loop-end l = l.end
