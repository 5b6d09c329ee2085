use Rattle.std.proofs.Common.{◌≡◌, map, take, string_bytes}
use Rattle.workload_generator.specs.Texts.{section_said}
use Rattle.workload_generator.specs.Workload as spec
use Rattle.workload_generator.proofs.workload.Workload.new.Given as goal

-- the texts of the tables so far
abbrev pub invariant-loop-table : goal.invariant-loop-table
invariant-loop-table l =
    (map string_bytes l.setup.items ≡ map spec.create_text (take l.table-index spec.tables))
    × (map section_said l.sessions.items ≡ map (spec.section_of l.rows) (take l.table-index spec.tables))
