use Rattle.std.proofs.Common.{◌≡◌, ◌+◌, ◌≤◌, length}
use Rattle.format_sections.specs.Kind.{kinds_of}
use Rattle.format_sections.specs.UnreadInput.{behind_skipped}
use Rattle.format_sections.proofs.section.behind_skipped.Given as goal

abbrev pub invariant-loop-rest : goal.invariant-loop-rest
invariant-loop-rest l =
    (behind_skipped (kinds_of l.bytes) ≡ behind_skipped (kinds_of l.rest.bytes.now))
    × (l.rest.before + length (kinds_of l.rest.bytes.now) ≡ length (kinds_of l.bytes))
    × (l.rest.before + length l.rest.bytes.now ≤ length l.bytes)

abbrev pub decreases-loop-rest : goal.decreases-loop-rest
decreases-loop-rest l = length l.rest.bytes.now
