-- Tables get their ids one after another, the first of them 3.
use Rattle.std.specs.Prelude.{ℤ, pos, negsuc, ◌+ℤ◌, ◌&&◌, ◌||◌, not, Bool, List}
use Rattle.std.specs.List.{list_all, list_any}
use Rattle.std.specs.Ordering.{int_eq}
use Rattle.spec_rules.specs.Places.{PlacedRow, stands_before}
use Rattle.spec_rules.specs.Rows.{CatalogRows, has_no_change, tables_about}

-- the row says that a table was created, and stands before those of these rows that say so of t
abbrev pub is_created_before : List PlacedRow → PlacedRow → Bool
is_created_before tables b =
    has_no_change 0 b
    && list_all (λ r. not (has_no_change 0 r) || stands_before b.place r.place) tables

unfoldable pub ids_follow : CatalogRows → ℤ → Bool
ids_follow rows t =
    int_eq t (pos 3)
    || list_any (is_created_before (tables_about rows t)) (tables_about rows (t +ℤ negsuc 0))
