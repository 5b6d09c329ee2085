-- What sorting the rows of the system tables leaves as it was.
use Rattle.std.proofs.Common.{◌≡◌, refl, sym, ap, ◌∙◌, Bool, true, false, List, [], ◌∷◌}
use Rattle.std.specs.Prelude.{◌&&◌, ◌||◌, not}
use Rattle.std.specs.Cmp.{IsTotalOrder, nat_cmp_total, on_total}
use Rattle.std.specs.List.{list_all, list_any}
use Rattle.spec_model.specs.Create.{all_names}
use Rattle.spec_model.specs.Lists.{sorted, repeats}
use Rattle.spec_model.specs.SystemTables.{tables_def, columns_def}
use Rattle.spec_rules.specs.Places.{EventPlace, PlacedRow, stands_before}
use Rattle.spec_rules.specs.Rows.{in_force}
use Rattle.spec_rules.specs.TableNames.{names_are_new, names_of_table, has_one_of}
use Rattle.audit_columns.proofs.Folds.{sorted_is}
use Rattle.audit_rules.specs.declared.rows.PlacedVersion.{PlacedVersion}
use Rattle.audit_rules.specs.Seen.{position_cmp, position_in, row_of, seen, table_cmp}
use Rattle.audit_rules.proofs.InForce.{after, any_stands, stands}
use Rattle.audit_rules.proofs.Lists.{any_mapped}

pub positions_total : IsTotalOrder position_cmp
positions_total = on_total position_in nat_cmp_total

or_twice : (a b c : Bool) → (a || (b || c)) ≡ (b || (a || c))
or_twice true true c = refl
or_twice true false c = refl
or_twice false true c = refl
or_twice false false c = refl

-- a row that passes stands among them
pub any_seen : (q : PlacedRow → Bool) (rows : List PlacedVersion) → list_any q (seen (sorted table_cmp rows)) ≡ list_any q (seen rows)
any_seen q rows =
    any_mapped row_of q (sorted table_cmp rows)
    ∙ sorted_is table_cmp (λ x b. q (row_of x) || b) (λ l. list_any (λ x. q (row_of x)) l) (λ x xs. refl) (λ x y b gt. or_twice (q (row_of y)) (q (row_of x)) b) rows
    ∙ sym (any_mapped row_of q rows)

pub any_in_force_sorted : (p : PlacedRow → Bool) (place : EventPlace) (rows : List PlacedVersion)
    → list_any p (in_force 0 place (seen (sorted table_cmp rows))) ≡ list_any p (in_force 0 place (seen rows))
any_in_force_sorted p place rows =
    any_stands p place (seen (sorted table_cmp rows))
    ∙ ap (λ (q : PlacedRow → Bool). list_any q (seen (sorted table_cmp rows)))
    (λ i r. stands_before r.place place && (p r && not (any_seen (after place r) rows i)))
    ∙ any_seen (stands p place (seen rows)) rows
    ∙ sym (any_stands p place (seen rows))

-- names are new beside the sorted rows if they are beside the rows
names_sorted : (rows : List PlacedVersion) (r : PlacedRow) → names_are_new (seen (sorted table_cmp rows)) r ≡ names_are_new (seen rows) r
names_sorted rows r =
    ap (λ b. not (repeats (names_of_table r)) && not (has_one_of (all_names (tables_def ∷ columns_def ∷ [])) r) && not b)
    (any_in_force_sorted (λ b. has_one_of (names_of_table b) r) r.place rows)

pub all_names_sorted : (rows : List PlacedVersion) (own : List PlacedRow)
    → list_all (names_are_new (seen (sorted table_cmp rows))) own ≡ list_all (names_are_new (seen rows)) own
all_names_sorted rows own = ap (λ (q : PlacedRow → Bool). list_all q own) (λ i r. names_sorted rows r i)
