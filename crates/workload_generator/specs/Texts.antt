-- What the texts of a workload say as a plan.
use Rattle.std.specs.Prelude.{map, string_bytes}
use Rattle.format_sections.specs.RunSections.{RunSections, Section}
use Rattle.format_sections.specs.declared.kind.SectionKind.TheVariants as kind
use Rattle.workload_generator.specs.declared.workload.SessionTexts.{SessionTexts}
use Rattle.workload_generator.specs.declared.workload.Workload.{Workload}

abbrev pub section_said : SessionTexts → Section
section_said s =
    record { name = string_bytes s.name; kind = kind.Session; statements = map string_bytes s.statements.items }

abbrev pub sections_said : Workload → RunSections
sections_said w = record { setup = map string_bytes w.setup.items; sessions = map section_said w.sessions.items }
