-- Ranks at which something happened to things, and whether it had happened before another rank.
use Rattle.std.specs.Prelude.{◌&&◌, Bool, false, Option, Some, None}
use Rattle.std.specs.Ordering.{int_cmp, int_eq, ordering_then}
use Rattle.std.specs.declared.cmp.Ordering.{Ordering}
use Rattle.spec_model.specs.Rows.{event_cmp}
use Rattle.spec_rules.specs.Places.{stands_before}
use Rattle.audit_rules.specs.declared.first_ranks.Happened.{Happened}
use Rattle.audit_rules.specs.declared.first_ranks.Thing.{Thing}
use Rattle.audit_columns.specs.Positions.{Rank}
use Rattle.audit_columns.specs.Runs.{run_cmp}

-- by the table, and then by the item
abbrev pub thing_cmp : Thing → Thing → Ordering
thing_cmp a b = ordering_then (int_cmp a.table b.table) (int_cmp a.item b.item)

abbrev pub by_thing : Happened → Happened → Ordering
by_thing a b = thing_cmp a.thing b.thing

abbrev pub by_rank : Happened → Happened → Ordering
by_rank a b = event_cmp a.rank b.rank

-- by the thing, and then by rank
abbrev pub happened_cmp : Happened → Happened → Ordering
happened_cmp = run_cmp by_thing by_rank

-- to this thing, before this rank
abbrev pub has_happened : Thing → Rank → Happened → Bool
has_happened thing before h =
    int_eq h.thing.table thing.table && int_eq h.thing.item thing.item && stands_before h.rank before

-- the rank is there, and before the other
abbrev pub is_past : Option Rank → Rank → Bool
is_past None before = false
is_past (Some rank) before = stands_before rank before
