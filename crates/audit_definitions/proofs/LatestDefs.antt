-- A definition that the rows say that count, by those that were found.
use Rattle.std.proofs.Common.{◌≡◌, ℕ, refl, sym, ap, ap₂, ◌∙◌, Bool, true, false, List, [], ◌∷◌, length, map}
use Rattle.std.proofs.lemmas.List.{length-map}
use Rattle.std.proofs.lemmas.List.Sorted.{list_any-IsPermutation}
use Rattle.std.specs.List.{list_all, list_any}
use Rattle.std.specs.Prelude.{◌&&◌, ◌==◌, not}
use Rattle.sql_types.specs.declared.table.TableDef.{TableDef}
use Rattle.spec_model.specs.Catalog.{Defs}
use Rattle.spec_model.specs.Create.{all_names}
use Rattle.spec_model.specs.Keys.{same_key}
use Rattle.spec_model.specs.Rows.{Row}
use Rattle.spec_model.specs.SystemTables.{tables_def, columns_def}
use Rattle.law_catalog_rows.specs.Changes.{changes_are_right, follows, items_follow}
use Rattle.law_catalog_rows.specs.Differs.{are_rows, encode_def, is_encoded}
use Rattle.law_catalog_rows.specs.Encoded.{latest_table_row, latest_item_rows}
use Rattle.law_catalog_rows.specs.IsEncodableDef.{is_before, share_name, names_in, is_encodable_def, has_new_names}
use Rattle.law_catalog_rows.specs.Latest.{latest, without_change, latest_said}
use Rattle.audit_definitions.specs.DefinitionRows.{is_said, are_said, say_def, encodes}
use Rattle.audit_definitions.specs.LatestRows.{latest_of}
use Rattle.audit_definitions.proofs.LatestRows.{same_rows, said_permuted, list_all_permuted}

any_map : (k : ℕ) (row : Row) (rows : List Row) → list_any (same_key row) (map (without_change k) rows) ≡ is_said k rows row
any_map k row [] = refl
any_map k row (r ∷ rs) = rw (any_map k row rs) refl

all_said_so : (k : ℕ) (rows wanted : List Row) → list_all (λ w. list_any (same_key w) (map (without_change k) rows)) wanted ≡ list_all (is_said k rows) wanted
all_said_so k rows [] = refl
all_said_so k rows (w ∷ ws) = rw (any_map k w rows, all_said_so k rows ws) refl

pub said_are : (k : ℕ) (rows wanted : List Row) → are_said k (latest_of k rows) wanted ≡ are_rows (latest_said k rows) wanted
said_are k rows wanted =
    sym (said_permuted k rows wanted
    ∙ ap₂ (λ (n : ℕ) (b : Bool). n == length wanted && b) (length-map (latest_of k rows) (without_change k)) (all_said_so k (latest_of k rows) wanted))

pub follow_are : (items : List Row) → list_all (follows items) (latest_of 1 items) ≡ items_follow items
follow_are items = sym (list_all_permuted (follows items) (latest 1 items) (latest_of 1 items) (same_rows 1 items))

-- of tables and items those that count, as they were found
pub said_so : (tables items : List Row) (def : TableDef)
    → say_def (latest_of 0 tables) items (latest_of 1 items) def
    ≡ (are_rows (latest_said 0 tables) (latest_table_row def ∷ []) && are_rows (latest_said 1 items) (latest_item_rows def) && items_follow items)
said_so tables items def =
    ap₂ (λ (a b : Bool). a && b)
    (ap₂ (λ (a b : Bool). a && b) (said_are 0 tables (latest_table_row def ∷ [])) (said_are 1 items (latest_item_rows def)))
    (follow_are items)

middle : (a b c d : Bool) → (a && b && d) ≡ true → c ≡ (a && b && c && d)
middle true true c true e = both c
  where
    both : (c : Bool) → c ≡ (c && true)
    both true = refl
    both false = refl
middle true true c false e = cc
middle true false c d e = cc
middle false b c d e = cc

not_all : (a b c d : Bool) → (a && b && d) ≡ false → false ≡ (a && b && c && d)
not_all true true true true e = cc
not_all true true true false e = refl
not_all true true false d e = refl
not_all true false c d e = refl
not_all false b c d e = refl

module _ (tables items : List Row) (def : TableDef) (latest_tables latest_items : List Row) (t : latest_tables ≡ latest_of 0 tables) (i : latest_items ≡ latest_of 1 items) where
  said_here : say_def latest_tables items latest_items def ≡ (are_rows (latest_said 0 tables) (latest_table_row def ∷ []) && are_rows (latest_said 1 items) (latest_item_rows def) && items_follow items)
  said_here = ap₂ (λ (xs ys : List Row). say_def xs items ys def) t i ∙ said_so tables items def

  pub encoded_where : (said right : Bool) → said ≡ say_def latest_tables items latest_items def → said ≡ true → right ≡ changes_are_right tables items → right ≡ encode_def tables items def
  encoded_where said right s holds r =
      r ∙ middle (are_rows (latest_said 0 tables) (latest_table_row def ∷ [])) (are_rows (latest_said 1 items) (latest_item_rows def)) (changes_are_right tables items) (items_follow items)
      (sym said_here ∙ sym s ∙ holds)

  pub not_encoded : (said : Bool) → said ≡ say_def latest_tables items latest_items def → said ≡ false → false ≡ encode_def tables items def
  not_encoded said s fails =
      not_all (are_rows (latest_said 0 tables) (latest_table_row def ∷ [])) (are_rows (latest_said 1 items) (latest_item_rows def)) (changes_are_right tables items) (items_follow items)
      (sym said_here ∙ sym s ∙ fails)

pub names_are : (first : List Row) (def : TableDef) → has_new_names (latest_of 0 first) def ≡ has_new_names (latest 0 first) def
names_are first def =
    ap (λ (b : Bool). not (share_name (all_names (tables_def ∷ columns_def ∷ [])) def) && not b)
    (sym (list_any-IsPermutation (λ row. is_before def.id row && share_name (names_in row) def) (latest 0 first) (latest_of 0 first) (same_rows 0 first)))

-- where the definition breaks its own rules, nothing is asked of the rows
pub no_rules : (first second : List Row) (defs : Defs) (def : TableDef) → is_encodable_def def ≡ false → false ≡ is_encoded first second defs def
no_rules first second defs def e = here (encodes first second def)
  where
    here : (b : Bool) → false ≡ (b && is_encodable_def def && has_new_names (latest 0 first) def)
    here true = rw e refl
    here false = refl

-- its names are taken
pub no_names : (first second : List Row) (defs : Defs) (def : TableDef) (named : List Row) → named ≡ latest_of 0 first → has_new_names named def ≡ false → false ≡ is_encoded first second defs def
no_names first second defs def named n e = here (encodes first second def) (is_encodable_def def)
  where
    taken : has_new_names (latest 0 first) def ≡ false
    taken = sym (ap (λ (rows : List Row). has_new_names rows def) n ∙ names_are first def) ∙ e

    here : (b c : Bool) → false ≡ (b && c && has_new_names (latest 0 first) def)
    here true true = sym taken
    here true false = refl
    here false c = refl

pub encoded_is : (first second : List Row) (defs : Defs) (def : TableDef) (named : List Row) (own : Bool)
    → is_encodable_def def ≡ true → named ≡ latest_of 0 first → has_new_names named def ≡ true → own ≡ encodes first second def
    → own ≡ is_encoded first second defs def
encoded_is first second defs def named own rules n e o = o ∙ here (encodes first second def)
  where
    new : has_new_names (latest 0 first) def ≡ true
    new = sym (ap (λ (rows : List Row). has_new_names rows def) n ∙ names_are first def) ∙ e

    here : (b : Bool) → b ≡ (b && is_encodable_def def && has_new_names (latest 0 first) def)
    here true = rw (rules, new) refl
    here false = refl
