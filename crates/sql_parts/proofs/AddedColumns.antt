-- The declared columns, and those that a part adds.
use Rattle.std.proofs.Common.{◌≡◌, ◌+◌, ◌<◌, ◌∙◌, ℕ, suc, zero, ap, sym, List, [], ◌∷◌, ◌++◌, map, length, get_or, slice_get, Bor, Some, arith}
use Rattle.std.specs.Str.{bytes_eq}
use Rattle.std.specs.Prelude.{option_and_then, option_map, position}
use Rattle.sql_value.specs.declared.sql_type.SqlType.{SqlType}
use Rattle.sql_value.specs.declared.column.ColumnDef.{ColumnDef}
use Rattle.spec_model.specs.Columns.{place_of, column_of}
use Rattle.spec_model.specs.Lists.{or_else}
use Rattle.spec_model.specs.Parts.{added_column}
use Rattle.sql_parts.proofs.Positions.{position_both, position_map, item_both}

pub place_of_both : (declared more : List ColumnDef) (name : List ℕ)
    → place_of (declared ++ more) name ≡ or_else (place_of declared name) (option_map (λ n. length declared + n) (place_of more name))
place_of_both declared more name = position_both (λ c. bytes_eq c.name name) declared more

pub column_of_both : (declared more : List ColumnDef) (name : List ℕ)
    → column_of (declared ++ more) name ≡ or_else (column_of declared name) (column_of more name)
column_of_both declared more name = item_both (λ c. bytes_eq c.name name) declared more

-- ---- by the names and types that are added

abbrev as_columns : List (Bor (List ℕ) × SqlType) → List ColumnDef
as_columns more = map (λ a. added_column a.0.now a.1) more

pub place_in_added : (more : List (Bor (List ℕ) × SqlType)) (name : List ℕ) → place_of (as_columns more) name ≡ position (λ a. bytes_eq a.0.now name) more
place_in_added more name = position_map (λ c. bytes_eq c.name name) (λ a. added_column a.0.now a.1) more

at_place : (more : List (Bor (List ℕ) × SqlType)) (place : ℕ) (a : Bor (List ℕ) × SqlType) → place < length more → a ≡ get_or more place a → slice_get (as_columns more) place ≡ Some (added_column a.0.now a.1)
at_place [] place a inside is = absurd (omega (arith, inside))
at_place (b ∷ more) zero a inside is = ap (λ x. Some (added_column x.0.now x.1)) (sym is)
at_place (b ∷ more) (suc place) a inside is = at_place more place a (omega (arith, inside)) is

pub type_in_added : (more : List (Bor (List ℕ) × SqlType)) (name : List ℕ) (place : ℕ) (a : Bor (List ℕ) × SqlType)
    → Some place ≡ place_of (as_columns more) name → place < length more → a ≡ get_or more place a
    → Some a.1 ≡ option_map (λ c. c.ty) (column_of (as_columns more) name)
type_in_added more name place a found inside is =
    ap (option_map (λ c. c.ty)) (sym (at_place more place a inside is) ∙ ap (option_and_then (slice_get (as_columns more))) found)
