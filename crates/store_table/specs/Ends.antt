-- The ends of versions, by the events that made them.
use Rattle.std.specs.Prelude.{ℕ, List, [], ◌∷◌, flat_map, Option, Some, None}
use Rattle.std.specs.declared.cmp.Ordering.{Ordering}
use Rattle.std.specs.List.{prefix_len}
use Rattle.std.specs.Ordering.{is_lt, ordering_then}
use Rattle.sql_types.specs.declared.version.Version.{Version}
use Rattle.spec_model.specs.Lists.{sorted}
use Rattle.spec_model.specs.Rows.{EventId, event_cmp}
use Rattle.store_table.specs.declared.ending.Ending.{Ending}

abbrev pub ending : EventId → EventId → Ending
ending end start = record { end = end; start = start }

-- by the event that ended the version, then by the one that started it
abbrev pub ending_cmp : Ending → Ending → Ordering
ending_cmp a b = ordering_then (event_cmp a.end b.end) (event_cmp a.start b.start)

abbrev pub own_ending : Option EventId → EventId → List Ending
own_ending (Some end) start = ending end start ∷ []
own_ending None start = []

abbrev pub endings_of : List Version → List Ending
endings_of versions = flat_map (λ v. own_ending v.end v.start) versions

-- in order
abbrev pub endings_in : List Version → List Ending
endings_in versions = sorted ending_cmp (endings_of versions)

-- how many come before this one
abbrev pub ending_place : Ending → List Ending → ℕ
ending_place e endings = prefix_len (λ a. is_lt (ending_cmp a e)) endings
