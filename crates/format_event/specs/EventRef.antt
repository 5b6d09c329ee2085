-- The event that is seen by a view of it.
use Rattle.std.specs.Prelude.{ℕ, List, Option}
use Rattle.sql_types.specs.declared.event.Event.{Event}
use Rattle.sql_types.specs.declared.version.TypedValue.{TypedValue}
use Rattle.spec_model.specs.Events.{fields_of}
use Rattle.spec_model.specs.Rows.{EventId}
use Rattle.format_event.specs.declared.event_ref.EventRef.{EventRef}

-- the start of a version with these values, or the end of the one that started so
abbrev pub event_with : ℕ → EventId → Option EventId → List (Option TypedValue) → Event
event_with table id ends values =
    record { table = table; tx = id.0; seq = id.1; ends = ends; columns = fields_of values }

abbrev pub event_of : EventRef → Event
event_of e = event_with e.table e.id e.ends e.values.now
