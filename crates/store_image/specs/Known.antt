-- Which transactions are known to be committed, and versions by them.
use Rattle.std.specs.Prelude.{ℕ, ◌==◌, if◌then◌else◌, Bool, List, [], ◌∷◌}
use Rattle.std.specs.List.{list_any}
use Rattle.sql_types.specs.declared.version.Version.{Version}
use Rattle.spec_protocol.specs.CommittedTxs.{with_committed_end}

-- the transaction with this id is one of these
abbrev pub has_in : List ℕ → ℕ → Bool
has_in ids id = list_any (λ n. n == id) ids

-- the version without an end that isn't committed, or none where its start isn't
abbrev pub kept_by : (ℕ → Bool) → Version → List Version
kept_by has v = if has v.start.0 then with_committed_end has v ∷ [] else []
