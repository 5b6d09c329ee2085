-- Where the definitions are not exactly those that the rows of the two system tables spell. Rows whose first value is
-- no number are about no table and are passed over, other numbers that are missing count as 0, and values are compared
-- up to their scale: that each value is one of its column, with the column's scale, is a rule on rows, which comes
-- before this one. So does the rule that no two rows have one key, by which no two are about one thing and have one
-- change.
use Rattle.std.specs.Prelude.{ℤ, pos, ◌==◌, ◌≡◌, ◌&&◌, not, Bool, List, [], ◌∷◌, ◌++◌, map, length, Option, Some, None}
use Rattle.std.specs.List.{list_any, list_all, filter, filter_map}
use Rattle.std.specs.Ordering.{int_cmp, int_eq}
use Rattle.sql_value.specs.declared.value.Value.TheVariants.{Num}
use Rattle.sql_types.specs.declared.table.TableDef.{TableDef}
use Rattle.spec_model.specs.Rows.{Row}
use Rattle.spec_model.specs.Keys.{same_key}
use Rattle.spec_model.specs.Catalog.{Defs, Tables, defs_of}
use Rattle.law_catalog_rows.specs.Latest.{latest, latest_said}
use Rattle.law_catalog_rows.specs.Least.{least}
use Rattle.law_catalog_rows.specs.Changes.{changes_are_right, items_follow}
use Rattle.law_catalog_rows.specs.Encoded.{live_rows, latest_table_row, latest_item_rows, about}
use Rattle.law_catalog_rows.specs.IsEncodableDef.{is_encodable_def, has_new_names}

-- the same rows, in any order, where no two of the second are equal; rows are equal whose values compare as
-- equal, so 1 and 1.0 are one value here
abbrev pub are_rows : List Row → List Row → Bool
are_rows rows wanted = length rows == length wanted && list_all (λ w. list_any (same_key w) rows) wanted

abbrev pub table_of : Row → Option ℤ
table_of (Num s n ∷ values) = Some n
table_of _ = None

-- of the rows about a table, in both system tables, those that count say this definition, and all changes keep to
-- their rules
abbrev pub encode_def : List Row → List Row → TableDef → Bool
encode_def tables items def =
    are_rows (latest_said 0 tables) (latest_table_row def ∷ [])
    && are_rows (latest_said 1 items) (latest_item_rows def)
    && changes_are_right tables items && items_follow items

module _ (first second : List Row) (defs : Defs) where
  -- the rows about its table spell this definition
  abbrev pub is_encoded : TableDef → Bool
  is_encoded def =
      encode_def (about (pos def.id) first) (about (pos def.id) second) def
      && is_encodable_def def && has_new_names (latest 0 first) def

  -- of the definitions none with this id is spelled
  abbrev pub is_wrong : ℤ → Bool
  is_wrong id = not (list_any (λ d. int_eq (pos d.id) id && is_encoded d) defs)

  -- each table that a row is about, and each that is defined
  abbrev pub all_ids : List ℤ
  all_ids = filter_map table_of first ++ (filter_map table_of second ++ map (λ d. pos d.id) defs)

  -- the least of these tables for which no definition is spelled
  unfoldable pub encoding_fault : Option ℤ
  encoding_fault = least int_cmp (filter is_wrong all_ids)

-- no fault is found: not in the rows that stand in the system tables, nor in the definitions of all others
abbrev pub EncodingHolds : Tables → Type 0
EncodingHolds (first ∷ second ∷ users) =
    encoding_fault (live_rows first.versions) (live_rows second.versions) (defs_of users) ≡ None
EncodingHolds _ = ⊥
