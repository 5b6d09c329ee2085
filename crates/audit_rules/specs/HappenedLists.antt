-- What the rows of the system tables say happened to tables and to columns, and when.
use Rattle.std.specs.Prelude.{ℤ, pos, ◌≡◌, ◌&&◌, Bool, if◌then◌else◌, IsSorted, List, Option, Some, None}
use Rattle.std.specs.List.{filter_map}
use Rattle.std.specs.Ordering.{int_eq}
use Rattle.spec_model.specs.Lists.{sorted}
use Rattle.law_catalog_rows.specs.Differs.{table_of}
use Rattle.spec_rules.specs.Places.{EventPlace, PlacedRow, stands_before}
use Rattle.spec_rules.specs.Rows.{CatalogRows, has_no_change, item_of, says, says_dropped}
use Rattle.spec_rules.specs.WhileTheTableIsThere.{says_gone}
use Rattle.audit_rules.specs.declared.first_ranks.Happened.{Happened}
use Rattle.audit_rules.specs.declared.times.What.{What}
use Rattle.audit_rules.specs.declared.times.What.TheVariants as what
use Rattle.audit_rules.specs.FirstRanks.{happened_cmp}

-- the row says it
abbrev pub tells : What → PlacedRow → Bool
tells what.Created r = has_no_change 0 r
tells what.Gone r = says_gone r
tells what.Dropped r = says_dropped r
tells what.OutsideKey r = says 8 (pos 0) r

-- of which item of the table, and of the table itself 0
abbrev pub item_in : What → PlacedRow → ℤ
item_in what.Created r = pos 0
item_in what.Gone r = pos 0
item_in what.Dropped r = item_of r
item_in what.OutsideKey r = item_of r

abbrev pub happened_to : What → PlacedRow → Option ℤ → Option Happened
happened_to w r None = None
happened_to w r (Some t) =
    if tells w r
    then Some (record { thing = record { table = t; item = item_in w r }; rank = r.place })
    else None

abbrev pub happened : What → PlacedRow → Option Happened
happened w r = happened_to w r (table_of r.row)

abbrev pub all_happened : What → List PlacedRow → List Happened
all_happened w rows = sorted happened_cmp (filter_map (happened w) rows)

-- the row says it of this item before the place
abbrev pub says_so : What → ℤ → EventPlace → PlacedRow → Bool
says_so w i before r = (int_eq (item_in w r) i && tells w r) && stands_before r.place before

-- when each thing happened, by the thing and then by place
pub record HappenedLists : Type 0 where
  pub created : List Happened
  pub gone : List Happened
  pub dropped : List Happened
  pub outside_key : List Happened

pub record AllSorted (t : HappenedLists) : Type 0 where
  pub created : IsSorted happened_cmp t.created
  pub gone : IsSorted happened_cmp t.gone
  pub dropped : IsSorted happened_cmp t.dropped
  pub outside_key : IsSorted happened_cmp t.outside_key

-- by these rows
pub record AreTimes (rows : CatalogRows) (t : HappenedLists) : Type 0 where
  pub created : t.created ≡ all_happened what.Created rows.tables
  pub gone : t.gone ≡ all_happened what.Gone rows.tables
  pub dropped : t.dropped ≡ all_happened what.Dropped rows.items
  pub outside_key : t.outside_key ≡ all_happened what.OutsideKey rows.items
