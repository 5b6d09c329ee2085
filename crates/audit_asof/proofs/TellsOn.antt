-- Telling goes on by one item.
use Rattle.std.proofs.Common.{◌≡◌, ◌<◌, ◌+◌, ℕ, sym, ap, ◌∙◌, List, [], ◌∷◌, ◌++◌, length, drop, get_or, append_assoc}
use Rattle.std.proofs.lemmas.List.Elements.{filter_map-append}
use Rattle.sql_value.specs.declared.column.ColumnDef.{ColumnDef}
use Rattle.spec_model.specs.Lists.{numbered}
use Rattle.spec_model.specs.Rows.{Row}
use Rattle.spec_asof.specs.DefTold.{column_told}
use Rattle.audit_definitions.proofs.Walks.{from_here}
use Rattle.audit_asof.specs.Told.{columns_from}

-- what is told of items, the first of which has this number, where that of each stands by itself
module _ {A B : Type 0} (told : ℕ → List A → List B) (apart : (n : ℕ) (x : A) (xs : List A) → told n (x ∷ xs) ≡ told n (x ∷ []) ++ told (n + 1) xs) where
  goes_on : (xs : List A) (k : ℕ) (x : A) (before after all : List B) → k < length xs → x ≡ get_or xs k x
      → after ≡ before ++ told (k + 1) (x ∷ []) → before ++ told (k + 1) (drop k xs) ≡ all
      → after ++ told (k + 1 + 1) (drop (k + 1) xs) ≡ all
  goes_on xs k x before after all lt is more so =
      let rest : List B = told (k + 1 + 1) (drop (k + 1) xs) in
      ap (λ (bs : List B). bs ++ rest) more
      ∙ append_assoc before (told (k + 1) (x ∷ [])) rest
      ∙ ap (λ (bs : List B). before ++ bs) (sym (apart (k + 1) x (drop (k + 1) xs)))
      ∙ ap (λ (y : A). before ++ told (k + 1) (y ∷ drop (k + 1) xs)) is
      ∙ ap (λ (ys : List A). before ++ told (k + 1) ys) (sym (from_here xs k x lt))
      ∙ so

pub columns_go_on : (rows : List Row) (xs : List ColumnDef) (k : ℕ) (x : ColumnDef) (before after all : List ColumnDef) → k < length xs → x ≡ get_or xs k x
    → after ≡ before ++ columns_from rows (k + 1) (x ∷ []) → before ++ columns_from rows (k + 1) (drop k xs) ≡ all
    → after ++ columns_from rows (k + 1 + 1) (drop (k + 1) xs) ≡ all
columns_go_on rows = goes_on (columns_from rows) (λ n x xs. filter_map-append (column_told rows) ((n, x) ∷ []) (numbered (n + 1) xs))
