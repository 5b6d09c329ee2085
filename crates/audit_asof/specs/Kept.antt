-- Versions that are kept one by one.
use Rattle.std.specs.Prelude.{ℕ, if◌then◌else◌, Bool, List, [], ◌∷◌}
use Rattle.sql_types.specs.declared.version.Version.{Version}
use Rattle.spec_asof.specs.DatabaseAt.{with_end_at}

-- the version as it was left, or none where its start doesn't count
abbrev pub kept_by : (ℕ → Bool) → Version → List Version
kept_by has v = if has v.start.0 then with_end_at has v ∷ [] else []
