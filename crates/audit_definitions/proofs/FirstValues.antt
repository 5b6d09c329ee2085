-- What is said of a row by its first value.
use Rattle.std.proofs.Common.{◌≡◌, refl, ℕ, ℤ, [], ◌∷◌}
use Rattle.sql_value.specs.declared.value.Value.TheVariants.{Null, Num, Text, Bytes, Date}
use Rattle.spec_model.specs.Rows.{Row}
use Rattle.law_catalog_rows.specs.Differs.{table_of}
use Rattle.law_catalog_rows.specs.IsEncodableDef.{is_before}
use Rattle.law_catalog_rows.specs.Encoded.{is_about}
use Rattle.audit_definitions.specs.Numbers.{about_number, before_number}

pub about_of : (id : ℤ) (row : Row) → is_about id row ≡ about_number id (table_of row)
about_of id [] = refl
about_of id (Null ∷ more) = refl
about_of id (Num s n ∷ more) = refl
about_of id (Text t ∷ more) = refl
about_of id (Bytes b ∷ more) = refl
about_of id (Date d ∷ more) = refl

pub before_of : (id : ℕ) (row : Row) → is_before id row ≡ before_number id (table_of row)
before_of id [] = refl
before_of id (Null ∷ more) = refl
before_of id (Num s n ∷ more) = refl
before_of id (Text t ∷ more) = refl
before_of id (Bytes b ∷ more) = refl
before_of id (Date d ∷ more) = refl
