use Rattle.std.proofs.Common.{◌≡◌, ◌+◌, ◌≤◌, ◌++◌, length, map}
use Rattle.format_sections.specs.Kind.{kinds_of}
use Rattle.format_sections.specs.RunSections.{statements_of}
use Rattle.format_sections.specs.UnreadInput.{behind_section}
use Rattle.format_sections.proofs.section.read_statements.Given as goal

abbrev pub invariant-loop-rest : goal.invariant-loop-rest
invariant-loop-rest l =
    (statements_of (kinds_of l.fn.start.bytes.now) ≡ map (λ t. t.now) l.statements.items ++ statements_of (kinds_of l.rest.bytes.now))
    × (behind_section (kinds_of l.fn.start.bytes.now) ≡ behind_section (kinds_of l.rest.bytes.now))
    × (l.rest.before + length (kinds_of l.rest.bytes.now) ≡ l.fn.start.before + length (kinds_of l.fn.start.bytes.now))
    × (l.rest.before + length l.rest.bytes.now ≤ l.fn.start.before + length l.fn.start.bytes.now)
    × (l.fn.start.before + length l.statements.items ≤ l.rest.before)

abbrev pub decreases-loop-rest : goal.decreases-loop-rest
decreases-loop-rest l = length l.rest.bytes.now
