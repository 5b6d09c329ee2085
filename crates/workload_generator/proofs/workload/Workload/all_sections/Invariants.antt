use Rattle.std.proofs.Common.{◌≡◌, map, take}
use Rattle.format_sections.specs.RunSections.{section_view}
use Rattle.workload_generator.specs.Texts.{section_said}
use Rattle.workload_generator.proofs.workload.Workload.all_sections.Given as goal

-- the sections so far
abbrev pub invariant-loop-session : goal.invariant-loop-session
invariant-loop-session l = map section_view l.sessions.items ≡ map section_said (take l.session-index l.session-items)
