-- The order of the versions of one key, by the places of their transactions in the ledger.
use Rattle.std.specs.Prelude.{◌==◌, ◌&&◌, ◌||◌, Bool, true, false, if◌then◌else◌, nat_lt, List, [], ◌∷◌, Option, Some, None, is_some, is_none}
use Rattle.std.specs.List.{list_any, filter}
use Rattle.sql_value.specs.declared.column.ColumnDef.{ColumnDef}
use Rattle.sql_types.specs.declared.entry.TxEntry.{TxEntry}
use Rattle.sql_types.specs.declared.version.Version.{Version}
use Rattle.spec_model.specs.Rows.{EventId, same_event}
use Rattle.spec_model.specs.Keys.{version_key, of_key}
pub use Rattle.spec_rules.specs.Places.{position_of}

module _ (entries : List TxEntry) where
  -- by the place of the entry, then by number
  abbrev pub is_before : EventId → EventId → Bool
  is_before a b =
      let p = position_of entries a.0 in
      let q = position_of entries b.0 in
      nat_lt p q || (p == q && nat_lt a.1 b.1)

  -- by start; of two with one start the one without an end is the later
  abbrev pub is_earlier : Version → Version → Bool
  is_earlier v w =
      is_before v.start w.start || (same_event v.start w.start && (is_some v.end && is_none w.end))

  abbrev pub later_of : Version → Option Version → Option Version
  later_of v None = Some v
  later_of v (Some w) = if is_earlier w v then Some v else Some w

  -- the latest of some versions
  abbrev pub latest : List Version → Option Version
  latest [] = None
  latest (v ∷ vs) = later_of v (latest vs)

  abbrev pub later_started : Version → Option Version → Option Version
  later_started v None = Some v
  later_started v (Some w) = if is_before w.start v.start then Some v else Some w

  -- the last of some versions to start; of those with one start the one that stands last
  abbrev pub last_started : List Version → Option Version
  last_started [] = None
  last_started (v ∷ vs) = later_started v (last_started vs)

  abbrev pub ends_before : Option EventId → EventId → Bool
  ends_before None event = false
  ends_before (Some end) event = is_before end event

  -- it ends after it starts, if it ends
  abbrev pub ends_well : Version → Option EventId → Bool
  ends_well v None = true
  ends_well v (Some end) = is_before v.start end

  -- the version before it, if there is one, ends before it starts
  abbrev pub follows : Version → Option Version → Bool
  follows v None = true
  follows v (Some w) = ends_before w.end v.start

  module _ (columns : List ColumnDef) (versions : List Version) where
    -- the earlier versions of its key
    abbrev pub before : Version → List Version
    before v = filter (λ w. is_earlier w v) (of_key columns (version_key columns v) versions)

    -- its end, if it has one, is behind its start, and the latest of the earlier versions of its key had
    -- ended before that start
    abbrev pub is_in_order : Version → Bool
    is_in_order v = ends_well v v.end && follows v (latest (before v))

    -- it is in the base, and an earlier one of its key is too
    abbrev pub shares_key : Version → Bool
    shares_key v = is_none v.end && list_any (λ (w : Version). is_none w.end) (before v)
