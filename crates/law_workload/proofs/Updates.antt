-- What UPDATE of a row does to the versions of its table.
use Rattle.std.proofs.Common.{◌≡◌, ◌<◌, ◌^◌, ◌+◌, ℕ, true, List, [], ◌∷◌, ◌++◌, Some, None, Ok, refl, codes, arith}
use Rattle.std.specs.Prelude.{pos}
use Rattle.std.proofs.lemmas.Bool.{lt-ltb}
use Rattle.std.specs.declared.cmp.Ordering.TheVariants.{Equal}
use Rattle.sql_value.specs.declared.expr.Expr.TheVariants.{Lit, Col}
use Rattle.sql_value.specs.declared.expr.Op.TheVariants as op
use Rattle.sql_value.specs.Order.{value_cmp}
use Rattle.sql_value.specs.Tree.{literal, column, binary, tree}
use Rattle.sql_value.proofs.Numbers.{raised_none}
use Rattle.sql_scalar.proofs.OrderLaws as order
use Rattle.sql_value.proofs.Trees.{of_literal, of_column, of_binary}
use Rattle.sql_types.specs.declared.table.TableDef.{TableDef}
use Rattle.sql_types.specs.declared.version.Version.{Version}
use Rattle.spec_model.specs.Changes.{Starts, Ends, kept, row_after_set, versions_matched, row_changes}
use Rattle.spec_model.specs.Evaluation.{meaning_of}
use Rattle.spec_model.specs.Keys.{key_places, of_key, live_by_key_at}
use Rattle.spec_model.specs.Numbers.{sum_of}
use Rattle.spec_model.specs.Parts.{start_columns, base_row}
use Rattle.spec_model.specs.Rows.{EventId, number, stored_row}
use Rattle.spec_model.specs.Where.{holds, key_fixed}
use Rattle.law_workload.specs.Statements.{row_with, one_more, of_row, changed_row}
use Rattle.law_workload.proofs.Inserts.{columns, as_int, as_bigint}

pub same_number : (n : ℕ) → value_cmp (number n) (number n) ≡ Equal
same_number n = (order.equal (number n) (number n) (omega arith) (omega arith)).1 refl

pub tree_of_row : (row : ℕ) → tree (of_row row) ≡ binary op.Eq (column (codes "id")) (literal (number row))
tree_of_row row = rw (of_binary op.Eq (Col (codes "id")) (Lit (number row)), of_column (codes "id"), of_literal (number row)) refl

pub tree_of_more : tree one_more ≡ binary op.Add (column (codes "v")) (literal (number 1))
tree_of_more = rw (of_binary op.Add (Col (codes "v")) (Lit (number 1)), of_column (codes "v"), of_literal (number 1)) refl

key_is_fixed : (row : ℕ) → row < 2 ^ 31 → key_fixed columns (Some (of_row row)) ≡ Some (number row ∷ [])
unfolding key_fixed key_places
key_is_fixed row few = rw (tree_of_row row, as_int row few, same_number row) refl

-- the version of the row, as an event started it
abbrev pub row_version : ℕ → ℕ → EventId → Version
row_version row value start = record { values = stored_row columns (row_with row value); start = start; end = None }

taken : (row value : ℕ) (start : EventId) → holds (columns ++ start_columns) (Some (of_row row)) (base_row columns (row_version row value start)) ≡ Ok true
unfolding holds meaning_of
taken row value start = rw (tree_of_row row, same_number row) refl

one_matched : (V : List Version) (row value : ℕ) (start : EventId) → row < 2 ^ 31 → of_key columns (number row ∷ []) V ≡ row_version row value start ∷ []
    → versions_matched columns (Some (of_row row)) V ≡ Ok (row_version row value start ∷ [])
unfolding versions_matched live_by_key_at
one_matched V row value start few one = rw (key_is_fixed row few, one, taken row value start) refl

one_added : (value : ℕ) → value < 2 ^ 62 → sum_of (pos value) 0 (pos 1) 0 ≡ Ok (number (value + 1))
unfolding sum_of
one_added value few =
    rw (raised_none (pos value), raised_none (pos 1), lt-ltb value (10 ^ 38) (omega (arith, few)), lt-ltb (value + 1) (10 ^ 38) (omega (arith, few))) refl

row_after : (row value : ℕ) (start : EventId) → value < 2 ^ 62 → row_after_set columns ((codes "v", one_more) ∷ []) (row_version row value start) ≡ Ok (row_with row (value + 1))
unfolding row_after_set meaning_of kept
row_after row value start few = rw (tree_of_more, one_added value few, as_bigint (value + 1) (omega (arith, few))) refl

-- the version's end, and the start of what takes its place
pub update_changes : (def : TableDef) (table : ℕ) (V : List Version) (row value : ℕ) (start : EventId) → def.columns ≡ columns → row < 2 ^ 31 → value < 2 ^ 62
    → of_key columns (number row ∷ []) V ≡ row_version row value start ∷ []
    → row_changes def V (changed_row table row) ≡ Ok (Ends start ∷ Starts (stored_row columns (row_with row (value + 1))) ∷ [], 1)
unfolding row_changes
update_changes def table V row value start are few also one = rw (are, one_matched V row value start few one, row_after row value start also) refl
