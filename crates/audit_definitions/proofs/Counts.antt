-- How many rows a definition has, index by index.
use Rattle.std.proofs.Common.{◌≡◌, ◌<◌, ◌≤◌, ◌+◌, ◌-◌, ◌==◌, ℕ, Bool, false, arith, refl, sym, ap, ◌∙◌, List, [], ◌∷◌, length, length-append, map, drop, get_or, inl, inr}
use Rattle.std.proofs.lemmas.Bool.{cases_Bool, eqb-true, eqb-false, eq-eqb, ne_eqb}
use Rattle.std.proofs.lemmas.List.{length-map}
use Rattle.sql_types.specs.declared.table.IndexDef.{IndexDef}
use Rattle.sql_types.specs.declared.table.TableDef.{TableDef}
use Rattle.spec_model.specs.Lists.{numbered}
use Rattle.spec_model.specs.SystemTables.{index_row, index_rows}
use Rattle.law_catalog_rows.specs.Encoded.{latest_column_row, latest_item_rows, rows_of_indexes}
use Rattle.audit_definitions.proofs.Walks.{from_here}

length_numbered : {A : Type 0} (n : ℕ) (xs : List A) → length (numbered n xs) ≡ length xs
length_numbered n [] = refl
length_numbered n (x ∷ xs) = omega (arith, length_numbered (n + 1) xs)

parts : (id g : ℕ) (i : IndexDef) → length (index_rows id g i) ≡ length i.ordinals
unfolding index_rows
parts id g i = length-map (numbered 1 i.ordinals) (index_row id g i.name) ∙ length_numbered 1 i.ordinals

pub items : (def : TableDef) → length (latest_item_rows def) ≡ length def.columns + length (rows_of_indexes def.id 1 def.indexes)
unfolding latest_item_rows
items def =
    length-append (map (latest_column_row def) (numbered 1 def.columns)) (rows_of_indexes def.id 1 def.indexes)
    ∙ ap (λ n. n + length (rows_of_indexes def.id 1 def.indexes)) (length-map (numbered 1 def.columns) (latest_column_row def) ∙ length_numbered 1 def.columns)

pub one_index : (id g : ℕ) (i : IndexDef) (is : List IndexDef) → length (rows_of_indexes id g (i ∷ is)) ≡ length i.ordinals + length (rows_of_indexes id (g + 1) is)
one_index id g i is =
    length-append (index_rows id g i) (rows_of_indexes id (g + 1) is) ∙ ap (λ n. n + length (rows_of_indexes id (g + 1) is)) (parts id g i)

-- of two sums with one part in common the other parts decide
pub same_rest : (m n a b : ℕ) → m ≤ a → a - m ≡ b → (a == m + n) ≡ (b == n)
same_rest m n a b le is = elim (cases_Bool (b == n)) [
  | inl same ↦ (let e : b ≡ n = eqb-true b n same in eq-eqb a (m + n) (omega (arith, le, is, e)) ∙ sym same)
  | inr other ↦ ne_eqb a (m + n) (λ e. eqb-false b n other (omega (arith, le, is, e))) ∙ sym other
]

pub too_few : (m n a : ℕ) → a < m → false ≡ (a == m + n)
too_few m n a lt = sym (ne_eqb a (m + n) (λ e. omega (arith, lt, e)))

module _ (def : TableDef) (k : ℕ) (i : IndexDef) (here : k < length def.indexes) (is : i ≡ get_or def.indexes k i) where
  rest_is : length (rows_of_indexes def.id (k + 1) (drop k def.indexes)) ≡ length i.ordinals + length (rows_of_indexes def.id (k + 1 + 1) (drop (k + 1) def.indexes))
  rest_is =
      ap (λ l. length (rows_of_indexes def.id (k + 1) l)) (from_here def.indexes k i here)
      ∙ ap (λ x. length (rows_of_indexes def.id (k + 1) (x ∷ drop (k + 1) def.indexes))) (sym is)
      ∙ one_index def.id (k + 1) i (drop (k + 1) def.indexes)

  pub left_more : (left less : ℕ) (b : Bool) → (left == length (rows_of_indexes def.id (k + 1) (drop k def.indexes))) ≡ b
      → length i.ordinals ≤ left → left - length i.ordinals ≡ less → (less == length (rows_of_indexes def.id (k + 1 + 1) (drop (k + 1) def.indexes))) ≡ b
  left_more left less b e le is_less =
      sym (same_rest (length i.ordinals) (length (rows_of_indexes def.id (k + 1 + 1) (drop (k + 1) def.indexes))) left less le is_less)
      ∙ ap (λ n. left == n) (sym rest_is) ∙ e

  pub left_few : (left : ℕ) (b : Bool) → (left == length (rows_of_indexes def.id (k + 1) (drop k def.indexes))) ≡ b → left < length i.ordinals → false ≡ b
  left_few left b e lt =
      too_few (length i.ordinals) (length (rows_of_indexes def.id (k + 1 + 1) (drop (k + 1) def.indexes))) left lt ∙ ap (λ n. left == n) (sym rest_is) ∙ e
