use Rattle.std.proofs.Common.{◌≡◌, ◌+◌, ◌≤◌, length, map}
use Rattle.format_sections.specs.Kind.{kinds_of}
use Rattle.format_sections.specs.Names.{has}
use Rattle.format_sections.specs.RunSections.{section_view, size_of}
use Rattle.format_sections.proofs.Reached.{Reached}
use Rattle.format_sections.proofs.all_sections.read_run_sections.Given as goal

abbrev pub invariant-loop-rest : goal.invariant-loop-rest
invariant-loop-rest l =
    Reached (kinds_of l.fn.input) (kinds_of l.rest.bytes.now) (map (λ t. t.now) l.setup.items) (map section_view l.sessions.items) (has l.names)
    × (l.rest.before + length (kinds_of l.rest.bytes.now) ≡ length (kinds_of l.fn.input))
    × (l.rest.before + length l.rest.bytes.now ≤ length l.fn.input)
    × (size_of (record { setup = map (λ t. t.now) l.setup.items; sessions = map section_view l.sessions.items }) ≤ l.rest.before)

abbrev pub decreases-loop-rest : goal.decreases-loop-rest
decreases-loop-rest l = length l.rest.bytes.now
