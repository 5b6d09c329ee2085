-- The versions of a table by their ranks: by key, and those of a key by start.
use Rattle.std.specs.Prelude.{ℕ, ℤ, pos, ◌==◌, ◌&&◌, ◌||◌, ◌≡◌, ◌<◌, ◌-◌, nat_lt, not, Bool, true, false, List, [], ◌∷◌, map, get_or, Option, Some, None, is_none, is_some, option_map, unwrap_or, IfSome}
use Rattle.std.specs.Borrow.{Bor}
use Rattle.std.specs.List.{AllByRecursion, All, filter, list_any}
use Rattle.std.specs.Ordering.{int_cmp, nat_cmp, on, ordering_then}
use Rattle.std.specs.declared.cmp.Ordering.{Ordering}
use Rattle.sql_value.specs.declared.column.ColumnDef.{ColumnDef}
use Rattle.sql_value.specs.declared.value.Value.TheVariants.{Num}
use Rattle.sql_types.specs.declared.entry.TxEntry.{TxEntry}
use Rattle.sql_types.specs.declared.version.Version.{Version}
use Rattle.spec_model.specs.Keys.{version_key}
use Rattle.spec_model.specs.Rows.{event_cmp}
use Rattle.spec_model.specs.SystemTables.{columns_id}
use Rattle.spec_rules.specs.Rows.{CatalogRows}
use Rattle.spec_rules.specs.Rules.{version_keeps_the_rules}
use Rattle.sql_parts.specs.Places.{by_key}
use Rattle.spec_verify.specs.Entries.{TableEvent, has_id}
use Rattle.audit_verify.specs.declared.order.EarlierVersions.{EarlierVersions}
use Rattle.audit_verify.specs.declared.order.VersionWithRanks.{VersionWithRanks}
use Rattle.audit_columns.specs.Positions.{Rank, rank_of}
use Rattle.audit_columns.specs.Runs as runs
use Rattle.audit_roots.specs.declared.shown.ImageTable.{ImageTable}

-- some entry is of the transaction that started the version
abbrev pub IsStarted : List TxEntry → Version → Type 0
IsStarted entries v = has_id entries v.start.0 ≡ true

-- so it is of all versions of a table
pub record AreStarted (entries : List TxEntry) (s : ImageTable) : Type 0 where
  pub base : All (IsStarted entries) s.rows.now.base
  pub history : All (IsStarted entries) s.rows.now.history

abbrev pub version_of : VersionWithRanks → Version
version_of r = r.version.now

-- its ranks are those of its version's start and end
pub record IsRanked (entries : List TxEntry) (r : VersionWithRanks) : Type 0 where
  pub start : r.start ≡ rank_of entries r.version.now.start
  pub end : r.end ≡ option_map (rank_of entries) r.version.now.end
  pub started : IsStarted entries r.version.now

-- the version's key is its number, if it has one
abbrev pub IsNumbered : List ColumnDef → VersionWithRanks → Type 0
IsNumbered columns r = IfSome r.key_number (λ (n : ℤ). version_key columns r.version.now ≡ Num 0 n ∷ [])

abbrev pub has_number : VersionWithRanks → Bool
has_number r = is_some r.key_number

-- 0 where it has none
abbrev pub number_of : VersionWithRanks → ℤ
number_of r = unwrap_or r.key_number (pos 0)

-- ---- orders

-- by the place, then by the number
abbrev pub rank_before : Rank → Rank → Bool
rank_before a b = nat_lt a.0 b.0 || (a.0 == b.0 && nat_lt a.1 b.1)

-- 1 where there is no end
abbrev pub openness : Option Rank → ℕ
openness None = 1
openness (Some end) = 0

-- by start; of two with one start the one without an end is the later
abbrev pub start_cmp : VersionWithRanks → VersionWithRanks → Ordering
start_cmp a b = ordering_then (event_cmp a.start b.start) (nat_cmp (openness a.end) (openness b.end))

abbrev pub key_order : List ColumnDef → VersionWithRanks → VersionWithRanks → Ordering
key_order columns a b = by_key columns a.version.now b.version.now

abbrev pub ranked_cmp : List ColumnDef → VersionWithRanks → VersionWithRanks → Ordering
ranked_cmp columns = runs.run_cmp (key_order columns) start_cmp

-- by the numbers that are the keys, and then by start
abbrev pub numbered_cmp : VersionWithRanks → VersionWithRanks → Ordering
numbered_cmp = runs.run_cmp (on number_of int_cmp) start_cmp

-- they are these versions, in their order
pub record AreRanked (entries : List TxEntry) (columns : List ColumnDef) (versions : List Version)
    (ranked : List VersionWithRanks) : Type 0 where
  pub versions_are : map version_of ranked ≡ versions
  pub ranks : AllByRecursion (IsRanked entries) ranked
  pub numbers : AllByRecursion (IsNumbered columns) ranked

-- ---- the earlier versions of a version's key

abbrev pub is_open : VersionWithRanks → Bool
is_open r = is_none r.end

abbrev pub earlier_of : List ColumnDef → List VersionWithRanks → VersionWithRanks → List VersionWithRanks
earlier_of columns all r = runs.earlier (key_order columns) start_cmp r all

-- the end of the latest of them, if there are some
abbrev pub latest_end : List ColumnDef → List VersionWithRanks → VersionWithRanks → Option (Option Rank)
latest_end columns all r =
    option_map (λ (w : VersionWithRanks). w.end) (runs.latest (key_order columns) start_cmp (earlier_of columns all r))

-- the latest of them, if there are some
abbrev pub last_version : List ColumnDef → List VersionWithRanks → VersionWithRanks → Option Version
last_version columns all r =
    option_map version_of (runs.latest (key_order columns) start_cmp (earlier_of columns all r))

-- one of them has no end
abbrev pub any_open : List ColumnDef → List VersionWithRanks → VersionWithRanks → Bool
any_open columns all r = list_any is_open (earlier_of columns all r)

pub record KnowsEarlier (columns : List ColumnDef) (all : List VersionWithRanks) (r : VersionWithRanks)
    (e : EarlierVersions) : Type 0 where
  pub latest : e.latest ≡ latest_end columns all r
  pub last : option_map (λ (v : Bor Version). v.now) e.last ≡ last_version columns all r
  pub some_open : e.any_open ≡ any_open columns all r

-- of the version before the one at this place, if there is one
abbrev pub KnowsBefore : List ColumnDef → List VersionWithRanks → ℕ → EarlierVersions → Type 0
KnowsBefore columns all k e = (d : VersionWithRanks) → 0 < k → KnowsEarlier columns all (get_or all (k - 1) d) e

-- ---- in order

abbrev pub ends_well : VersionWithRanks → Option Rank → Bool
ends_well r None = true
ends_well r (Some end) = rank_before r.start end

abbrev pub follows : VersionWithRanks → Option (Option Rank) → Bool
follows r None = true
follows r (Some None) = false
follows r (Some (Some end)) = rank_before end r.start

-- where it has no end each earlier one of its key has one; it ends after it starts; and the latest of the
-- earlier ones ends before it starts
abbrev pub is_ordered_after : VersionWithRanks → Option (Option Rank) → Bool → Bool
is_ordered_after r latest some_open = not (is_open r && some_open) && (ends_well r r.end && follows r latest)

abbrev pub is_ordered_among : List ColumnDef → List VersionWithRanks → VersionWithRanks → Bool
is_ordered_among columns all r = is_ordered_after r (latest_end columns all r) (any_open columns all r)

-- ---- rules of changes

-- a version of this table keeps them, with the version of its key just before it
abbrev pub keeps_rules : List TxEntry → CatalogRows → ℕ → Option Version → Version → Bool
keeps_rules entries rows table last v =
    not (nat_lt columns_id table) || version_keeps_the_rules entries rows (pos table) last v

module _ (entries : List TxEntry) (rows : CatalogRows) (table : ℕ) (columns : List ColumnDef)
    (all : List VersionWithRanks) where
  abbrev pub is_right_among : VersionWithRanks → Bool
  is_right_among r =
      is_ordered_among columns all r
      && keeps_rules entries rows table (last_version columns all r) (version_of r)

  -- the starts of those of some versions that don't stand in order among all, or break a rule
  abbrev pub wrong_among : List VersionWithRanks → List TableEvent
  wrong_among some =
      map (λ (r : VersionWithRanks). (table, r.version.now.start)) (filter (λ r. not (is_right_among r)) some)
