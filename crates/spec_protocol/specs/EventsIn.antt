-- The events of a transaction among the versions of one table.
use Rattle.std.specs.Prelude.{ℕ, ◌==◌, List, flat_map}
use Rattle.std.specs.List.{filter}
use Rattle.std.specs.Ordering.{nat_cmp}
use Rattle.sql_types.specs.declared.event.Event.{Event}
use Rattle.sql_types.specs.declared.version.Version.{Version}
use Rattle.spec_model.specs.Lists.{sorted}
use Rattle.spec_model.specs.Events.{version_events}

-- the starts and ends of the transaction in the table with this id, by number
abbrev pub events_in : ℕ → ℕ → List Version → List Event
events_in tx id versions = sorted (λ a b. nat_cmp a.seq b.seq)
    (filter (λ e. e.tx == tx) (flat_map (version_events id) versions))
