-- The versions that a transaction started or ended.
use Rattle.std.specs.Prelude.{ℕ, ◌==◌, ◌||◌, Bool, false, List, Option, Some, None}
use Rattle.std.specs.List.{filter}
use Rattle.sql_types.specs.declared.version.Version.{Version}
use Rattle.spec_model.specs.Rows.{EventId}

abbrev pub ends_by : ℕ → Option EventId → Bool
ends_by tx None = false
ends_by tx (Some event) = event.0 == tx

abbrev pub is_touched : ℕ → Version → Bool
is_touched tx v = v.start.0 == tx || ends_by tx v.end

abbrev pub touched : ℕ → List Version → List Version
touched tx versions = filter (is_touched tx) versions
