-- Where each version fits its table, the rows of the system's tables are about tables whose numbers are small.
use Rattle.std.proofs.Common.{◌≡◌, ◌^◌, arith, refl, subst, ℤ, true, List, [], ◌∷◌, ◌++◌, map, flat_map, Option, Some, None}
use Rattle.std.specs.Prelude.{FitsSigned, IfSome, MatchOption, pos, negsuc, ◌<◌}
use Rattle.std.proofs.lemmas.Bool.{and_parts, ltb-true}
use Rattle.std.proofs.lemmas.List.{map-append}
use Rattle.std.specs.Int.{w64}
use Rattle.std.specs.List.{AllByRecursion}
use Rattle.sql_value.specs.declared.column.ColumnDef.{ColumnDef}
use Rattle.sql_value.specs.declared.sql_type.SqlType.{SqlType}
use Rattle.sql_value.specs.declared.sql_type.SqlType.TheVariants.{Int}
use Rattle.sql_value.specs.declared.value.Value.{Value}
use Rattle.sql_value.specs.declared.value.Value.TheVariants.{Null, Num, Text, Bytes, Date}
use Rattle.sql_value.specs.Stored.{is_stored, in_bits}
use Rattle.sql_types.specs.declared.image.Image.{Image}
use Rattle.sql_types.specs.declared.image.TableRows.{TableRows}
use Rattle.sql_types.specs.declared.version.Table.{Table}
use Rattle.sql_types.specs.declared.version.TypedValue.{TypedValue}
use Rattle.sql_types.specs.declared.version.Version.{Version}
use Rattle.spec_model.specs.Rows.{Row, value_or_null}
use Rattle.spec_model.specs.SystemTables.{tables_def, columns_def}
use Rattle.format_image.specs.ImageBytes.{IsImage, AreTables}
use Rattle.format_image.specs.Tables.{table_in, tables_with, defs_in}
use Rattle.law_catalog_rows.specs.Differs.{table_of}
use Rattle.spec_verify.specs.Sentences.{VersionHolds, TableVersion, versions_of_image}
use Rattle.spec_verify.specs.Versions.{has_columns, version_fault}
use Rattle.spec_verify.proofs.ToldVersions.{versions_told}
use Rattle.spec_verify.proofs.EncodedSo.{all_rest as all_back, all_front}
use Rattle.audit_definitions.specs.DefinitionRows.{HasSmallId, base_in}

abbrev IsSmall : ℤ → Type 0
IsSmall n = FitsSigned w64 n

int_small : (v : ℤ) → in_bits 31 v ≡ true → IsSmall v
int_small (pos n) e = let lt : n < 2 ^ 31 = ltb-true _ _ e in record { sfits = omega arith }
int_small (negsuc n) e = let lt : n < 2 ^ 31 = ltb-true _ _ e in record { sfits = omega arith }

small_value : (x : Value) (rest : Row) → is_stored x Int ≡ true → IfSome (table_of (x ∷ rest)) IsSmall
unfolding is_stored
small_value Null rest e = tt
small_value (Num s n) rest e = int_small n (and_parts _ _ (and_parts _ _ e).1).1
small_value (Text t) rest e = tt
small_value (Bytes b) rest e = tt
small_value (Date d) rest e = tt

small_row : (c : ColumnDef) (cs : List ColumnDef) (values : List (Option TypedValue)) → c.ty ≡ Int → has_columns (c ∷ cs) values ≡ true
    → IfSome (table_of (map value_or_null values)) IsSmall
small_row c cs [] ty e = tt
small_row c cs (None ∷ vs) ty e = tt
small_row c cs (Some t ∷ vs) ty e =
    let of_column = (and_parts _ _ e).0 in
    let stored : is_stored t.value c.ty ≡ true = (and_parts _ _ of_column).1 in
    small_value t.value (map value_or_null vs) (subst (λ (y : SqlType). is_stored t.value y ≡ true) ty stored)

abbrev in_table : Table → Version → TableVersion
in_table t v = (t, v)

-- of a table whose first column is INT
small_rows : (i : Image) (t : Table) (c : ColumnDef) (cs : List ColumnDef) (vs : List Version) → t.def.columns ≡ c ∷ cs → c.ty ≡ Int
    → AllByRecursion (VersionHolds i) (map (in_table t) vs) → AllByRecursion HasSmallId vs
small_rows i t c cs [] is ty a = tt
small_rows i t c cs (v ∷ vs) is ty a =
    (small_row c cs v.values ty (subst (λ (columns : List ColumnDef). has_columns columns v.values ≡ true) is a.0.columns), small_rows i t c cs vs is ty a.1)

base_map : (t : Table) (xs ys : List Version) → map (in_table t) (xs ++ ys) ≡ map (in_table t) xs ++ map (in_table t) ys
base_map t xs ys = map-append (in_table t) xs ys

none_holds : {A : Type 0} (P : Type 0) (Q : A → Type 0) (p : Option A) → p ≡ None → MatchOption p P Q → P
none_holds P Q None e h = h
none_holds P Q (Some x) e h = cc

all_hold : (i : Image) → version_fault i ≡ None → AllByRecursion (VersionHolds i) (versions_of_image i)
all_hold i none = none_holds _ _ (version_fault i) none (versions_told i)

-- the base rows of the two tables of the system
pub small_first : (i : Image) → IsImage i → version_fault i ≡ None → AllByRecursion HasSmallId (base_in i.tables 0)
small_first i is none = here i.tables (all_hold i none) is.tables
  where
    here : (rows : List TableRows) → AllByRecursion (VersionHolds i) (flat_map (λ (t : Table). map (in_table t) t.versions) (tables_with (defs_in i) rows)) → AreTables (defs_in i) rows → AllByRecursion HasSmallId (base_in rows 0)
    here [] a t = absurd t
    here (rows ∷ more) a t =
        let table = table_in tables_def rows in
        let hold = all_front (VersionHolds i) (map (in_table table) (rows.base ++ rows.history)) _ a in
        let base = all_front (VersionHolds i) (map (in_table table) rows.base) (map (in_table table) rows.history) (subst (AllByRecursion (VersionHolds i)) (base_map table rows.base rows.history) hold) in
        small_rows i table _ _ rows.base refl refl base

pub small_second : (i : Image) → IsImage i → version_fault i ≡ None → AllByRecursion HasSmallId (base_in i.tables 1)
small_second i is none = here i.tables (all_hold i none) is.tables
  where
    here : (rows : List TableRows) → AllByRecursion (VersionHolds i) (flat_map (λ (t : Table). map (in_table t) t.versions) (tables_with (defs_in i) rows)) → AreTables (defs_in i) rows → AllByRecursion HasSmallId (base_in rows 1)
    here [] a t = absurd t
    here (rows ∷ []) a t = absurd t.1
    here (rows ∷ others ∷ more) a t =
        let first = table_in tables_def rows in
        let table = table_in columns_def others in
        let behind = all_back (VersionHolds i) (map (in_table first) (rows.base ++ rows.history)) _ a in
        let hold = all_front (VersionHolds i) (map (in_table table) (others.base ++ others.history)) _ behind in
        let base = all_front (VersionHolds i) (map (in_table table) others.base) (map (in_table table) others.history) (subst (AllByRecursion (VersionHolds i)) (base_map table others.base others.history) hold) in
        small_rows i table _ _ others.base refl refl base
