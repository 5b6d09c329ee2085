-- The rows of a table that stand, with their places and without.
use Rattle.std.proofs.Common.{◌≡◌, ℕ, zero, suc, ℤ, refl, Bool, true, false, List, [], ◌∷◌, map}
use Rattle.std.specs.Prelude.{if◌then◌else◌}
use Rattle.std.specs.List.{AllByRecursion, filter}
use Rattle.sql_types.specs.declared.entry.TxEntry.{TxEntry}
use Rattle.sql_types.specs.declared.image.TableRows.{TableRows}
use Rattle.sql_types.specs.declared.version.Version.{Version}
use Rattle.spec_model.specs.Rows.{Row, values_of}
use Rattle.law_catalog_rows.specs.Encoded.{about, is_about}
use Rattle.spec_rules.specs.Places.{PlacedRow, placed}
use Rattle.spec_rules.specs.Rows.{is_about_table}
use Rattle.spec_verify.specs.Definitions.{base_in, base_rows}

pub base_is : (ts : List TableRows) (k : ℕ) → base_rows ts k ≡ map values_of (base_in ts k)
base_is [] k = refl
base_is (rows ∷ more) zero = refl
base_is (rows ∷ more) (suc k) = base_is more k

-- those about a table
abbrev placed_about : List TxEntry → ℤ → List Version → List PlacedRow
placed_about entries t vs = filter (is_about_table t) (map (placed entries) vs)

pub rows_without_places : (P : Row → Type 0) (entries : List TxEntry) (t : ℤ) (vs : List Version) → AllByRecursion (λ (r : PlacedRow). P r.row) (placed_about entries t vs)
    → AllByRecursion P (about t (map values_of vs))
rows_without_places P entries t [] h = tt
rows_without_places P entries t (v ∷ vs) h = here (is_about t (values_of v)) h (λ f. rows_without_places P entries t vs f)
  where
    here : (b : Bool) → AllByRecursion (λ (r : PlacedRow). P r.row) (if b then placed entries v ∷ placed_about entries t vs else placed_about entries t vs)
        → (AllByRecursion (λ (r : PlacedRow). P r.row) (placed_about entries t vs) → AllByRecursion P (about t (map values_of vs)))
        → AllByRecursion P (if b then values_of v ∷ about t (map values_of vs) else about t (map values_of vs))
    here true f more = (f.0, more f.1)
    here false f more = more f

pub rows_with_places : (P : Row → Type 0) (entries : List TxEntry) (t : ℤ) (vs : List Version) → AllByRecursion P (about t (map values_of vs))
    → AllByRecursion (λ (r : PlacedRow). P r.row) (placed_about entries t vs)
rows_with_places P entries t [] h = tt
rows_with_places P entries t (v ∷ vs) h = here (is_about t (values_of v)) h (λ f. rows_with_places P entries t vs f)
  where
    here : (b : Bool) → AllByRecursion P (if b then values_of v ∷ about t (map values_of vs) else about t (map values_of vs))
        → (AllByRecursion P (about t (map values_of vs)) → AllByRecursion (λ (r : PlacedRow). P r.row) (placed_about entries t vs))
        → AllByRecursion (λ (r : PlacedRow). P r.row) (if b then placed entries v ∷ placed_about entries t vs else placed_about entries t vs)
    here true f more = (f.0, more f.1)
    here false f more = more f
