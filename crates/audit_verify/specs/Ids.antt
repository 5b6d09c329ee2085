-- Ids that stand twice, and starts and ends by transactions that have no entry, version by version.
use Rattle.std.specs.Prelude.{ℕ, not, Bool, List, map, take, Option}
use Rattle.std.specs.List.{filter}
use Rattle.sql_types.specs.declared.entry.TxEntry.{TxEntry}
use Rattle.sql_types.specs.declared.event.Event.{Event}
use Rattle.sql_types.specs.declared.version.Table.{Table}
use Rattle.sql_types.specs.declared.version.Version.{Version}
use Rattle.spec_model.specs.Events.{version_events}
use Rattle.spec_verify.specs.declared.place.Place.{Place}
use Rattle.spec_verify.specs.declared.place.Place.TheVariants as at
use Rattle.spec_verify.specs.Entries.{TableEvent, has_id, events_in}
use Rattle.spec_verify.specs.First.{unless, first}

-- the first of these entries whose id an earlier one has
abbrev pub repeated_in : List TxEntry → Option Place
repeated_in entries =
    first (λ k (e : TxEntry). unless (not (has_id (take k entries) e.id)) (at.Entry k)) entries

abbrev pub is_stranger : List TxEntry → TableEvent → Bool
is_stranger entries e = not (has_id entries e.1.0)

abbrev pub strangers_of : List TxEntry → ℕ → Version → List TableEvent
strangers_of entries table v =
    filter (is_stranger entries) (map (λ (e : Event). (e.table, (e.tx, e.seq))) (version_events table v))

abbrev pub strangers_in : List TxEntry → Table → List TableEvent
strangers_in entries t = filter (is_stranger entries) (events_in t)
