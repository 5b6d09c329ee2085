-- What is counted of versions stays as it is when they are filled.
use Rattle.std.proofs.Common.{◌≡◌, ◌∙◌, ◌+◌, ℕ, Bool, true, false, List, [], ◌∷◌, Option, Some, None, length, map, refl, sym, ap, ap₂}
use Rattle.std.proofs.lemmas.List.{length-map}
use Rattle.std.proofs.lemmas.List.Sums.{sum_by-cons}
use Rattle.std.specs.Prelude.{if◌then◌else◌, is_none, is_some}
use Rattle.std.specs.List.{filter}
use Rattle.sql_value.specs.declared.column.ColumnDef.{ColumnDef}
use Rattle.sql_types.specs.declared.version.TypedValue.{TypedValue}
use Rattle.sql_types.specs.declared.version.Version.{Version}
use Rattle.spec_model.specs.Rows.{EventId, filled_stored, live, value_or_null, values_of}
use Rattle.format_image.specs.Rows.{filled_version}
use Rattle.law_workload.specs.Tables.{history, second, total}

same_second : (cs : List ColumnDef) (values : List (Option TypedValue)) → second (map value_or_null (filled_stored cs values)) ≡ second (map value_or_null values)
same_second [] values = refl
same_second (c ∷ []) [] = refl
same_second (c ∷ d ∷ ds) [] = refl
same_second (c ∷ []) (v ∷ []) = refl
same_second (c ∷ d ∷ ds) (v ∷ []) = refl
same_second (c ∷ []) (v ∷ w ∷ ws) = refl
same_second (c ∷ d ∷ ds) (v ∷ w ∷ ws) = refl

module _ (columns : List ColumnDef) where
  abbrev filled : Version → Version
  filled v = filled_version columns v

  those_filled : (test : Option EventId → Bool) (vs : List Version) → filter (λ v. test v.end) (map filled vs) ≡ map filled (filter (λ v. test v.end) vs)
  those_filled test [] = refl
  those_filled test (v ∷ vs) = here (test v.end) (those_filled test vs)
    where
      here : (b : Bool) → filter (λ v. test v.end) (map filled vs) ≡ map filled (filter (λ v. test v.end) vs)
          → (if b then filled v ∷ filter (λ v. test v.end) (map filled vs) else filter (λ v. test v.end) (map filled vs)) ≡ map filled (if b then v ∷ filter (λ v. test v.end) vs else filter (λ v. test v.end) vs)
      here true e = ap (λ (ws : List Version). filled v ∷ ws) e
      here false e = e

  pub as_many_live : (vs : List Version) → length (live (map filled vs)) ≡ length (live vs)
  as_many_live vs = ap length (those_filled (λ e. is_none e) vs) ∙ length-map (live vs) filled

  pub as_many_ended : (vs : List Version) → length (history (map filled vs)) ≡ length (history vs)
  as_many_ended vs = ap length (those_filled (λ e. is_some e) vs) ∙ length-map (history vs) filled

  abbrev amount : Version → ℕ
  amount v = second (values_of v)

  same_amounts : (vs : List Version) → total (map filled vs) ≡ total vs
  same_amounts [] = refl
  same_amounts (v ∷ vs) =
      sum_by-cons (λ m. m) (amount (filled v)) (map amount (map filled vs))
      ∙ ap₂ (λ (a b : ℕ). a + b) (same_second columns v.values) (same_amounts vs)
      ∙ sym (sum_by-cons (λ m. m) (amount v) (map amount vs))

  pub same_total : (vs : List Version) → total (live (map filled vs)) ≡ total (live vs)
  same_total vs = ap total (those_filled (λ e. is_none e) vs) ∙ same_amounts (live vs)
