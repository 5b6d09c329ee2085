-- Rows that fit their columns.
use Rattle.std.specs.Prelude.{◌≡◌, ◌≢◌, true, List, [], ◌∷◌, Option, Some, None}
use Rattle.sql_value.specs.declared.value.Value.TheVariants.{Null}
use Rattle.sql_value.specs.declared.column.ColumnDef.{ColumnDef}
use Rattle.sql_value.specs.Stored.{is_stored}
use Rattle.sql_types.specs.declared.version.TypedValue.{TypedValue}

-- NULL where the column may be NULL, and else a value of the column's type that the type stores
abbrev pub FitsColumn : ColumnDef → Option TypedValue → Type 0
FitsColumn c None = c.nullable ≡ true
FitsColumn c (Some t) = (t.ty ≡ c.ty) × (t.value ≢ Null) × (is_stored t.value c.ty ≡ true)

-- column by column, and nothing more
abbrev pub Fits : List ColumnDef → List (Option TypedValue) → Type 0
Fits [] [] = Unit {0}
Fits (c ∷ cs) (v ∷ vs) = FitsColumn c v × Fits cs vs
Fits _ _ = ⊥

-- as far as it has values, and the columns behind these may be NULL
abbrev pub FitsSoFar : List ColumnDef → List (Option TypedValue) → Type 0
FitsSoFar [] [] = Unit {0}
FitsSoFar [] (v ∷ vs) = ⊥
FitsSoFar (c ∷ cs) [] = (c.nullable ≡ true) × FitsSoFar cs []
FitsSoFar (c ∷ cs) (v ∷ vs) = FitsColumn c v × FitsSoFar cs vs
