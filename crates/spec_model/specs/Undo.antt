-- Undo by number: the starts and ends of a transaction with a number or above are dropped.
use Rattle.std.specs.Prelude.{ℕ, ◌==◌, ◌&&◌, not, nat_le, Bool, if◌then◌else◌, List, map, Option, Some, None}
use Rattle.std.specs.List.{filter}
use Rattle.sql_types.specs.declared.version.Version.{Version}
use Rattle.spec_model.specs.Rows.{EventId}
use Rattle.spec_model.specs.Catalog.{Tables, with_versions}

-- an event of transaction tx with the number seq or above
abbrev pub is_undone : ℕ → ℕ → EventId → Bool
is_undone tx seq event = event.0 == tx && nat_le seq event.1

-- an end that is undone is none
abbrev pub end_left : ℕ → ℕ → Option EventId → Option EventId
end_left tx seq None = None
end_left tx seq (Some event) = if is_undone tx seq event then None else Some event

abbrev pub end_undone : ℕ → ℕ → Version → Version
end_undone tx seq v = record { values = v.values; start = v.start; end = end_left tx seq v.end }

-- versions whose start is undone go, and ends that are undone are taken back
abbrev pub versions_undone : ℕ → ℕ → List Version → List Version
versions_undone tx seq versions =
    map (end_undone tx seq) (filter (λ v. not (is_undone tx seq v.start)) versions)

unfoldable pub undone : ℕ → ℕ → Tables → Tables
undone tx seq tables = map (with_versions (versions_undone tx seq)) tables
