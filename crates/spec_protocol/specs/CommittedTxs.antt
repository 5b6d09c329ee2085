-- What the cells have of committed transactions.
use Rattle.std.specs.Prelude.{ℕ, Bool, if◌then◌else◌, List, map, Option, Some, None}
use Rattle.std.specs.List.{filter}
use Rattle.sql_types.specs.declared.version.Version.{Version}
use Rattle.spec_model.specs.Rows.{EventId}

-- `has` says which transactions are committed
abbrev pub end_committed : (ℕ → Bool) → Option EventId → Option EventId
end_committed has None = None
end_committed has (Some event) = if has event.0 then Some event else None

abbrev pub with_committed_end : (ℕ → Bool) → Version → Version
with_committed_end has v = record { values = v.values; start = v.start; end = end_committed has v.end }

-- versions without starts and ends whose transaction isn't committed
abbrev pub committed : (ℕ → Bool) → List Version → List Version
committed has versions = map (with_committed_end has) (filter (λ v. has v.start.0) versions)
