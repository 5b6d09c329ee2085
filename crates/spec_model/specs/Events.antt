-- The events of a transaction: the starts and ends that it left.
use Rattle.std.specs.Prelude.{ℕ, ◌==◌, List, [], ◌∷◌, flat_map, Option, Some, None}
use Rattle.std.specs.List.{filter}
use Rattle.std.specs.Ordering.{nat_cmp}
use Rattle.sql_types.specs.declared.event.Event.{Event}
use Rattle.sql_types.specs.declared.event.EventField.{EventField}
use Rattle.sql_types.specs.declared.version.TypedValue.{TypedValue}
use Rattle.sql_types.specs.declared.version.Version.{Version}
use Rattle.sql_types.specs.declared.version.Table.{Table}
use Rattle.spec_model.specs.Lists.{sorted, numbered}
use Rattle.spec_model.specs.Rows.{EventId}
use Rattle.spec_model.specs.Catalog.{Tables}

abbrev pub fields_at : ℕ × Option TypedValue → List EventField
fields_at (n, Some t) = record { ordinal = n; ty = t.ty; value = t.value } ∷ []
fields_at (n, None) = []

-- the values other than NULL, by rising ordinal
abbrev pub fields_of : List (Option TypedValue) → List EventField
fields_of values = flat_map fields_at (numbered 1 values)

-- the start of a version
abbrev pub start_event : ℕ → Version → Event
start_event table v =
    record {
      table = table;
      tx = v.start.0;
      seq = v.start.1;
      ends = None;
      columns = fields_of v.values;
    }

-- its end
abbrev pub end_event : ℕ → Version → EventId → Event
end_event table v end =
    record {
      table = table;
      tx = end.0;
      seq = end.1;
      ends = Some v.start;
      columns = fields_of v.values;
    }

abbrev pub end_events : ℕ → Version → Option EventId → List Event
end_events table v (Some end) = end_event table v end ∷ []
end_events table v None = []

-- its start, and its end if it has one
abbrev pub version_events : ℕ → Version → List Event
version_events table v = start_event table v ∷ end_events table v v.end

-- the starts and ends of the transaction in the table, by number
unfoldable pub events_of : ℕ → Table → List Event
events_of tx t =
    sorted (λ a b. nat_cmp a.seq b.seq)
    (filter (λ e. e.tx == tx) (flat_map (version_events t.def.id) t.versions))

-- in all tables
unfoldable pub all_events : ℕ → Tables → List Event
all_events tx tables = flat_map (events_of tx) tables
