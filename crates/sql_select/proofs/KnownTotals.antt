-- Sums of columns that were worked out.
use Rattle.std.proofs.Common.{◌≡◌, ◌∙◌, ◌<◌, ◌++◌, ℕ, sym, ap, subst, true, List, [], ◌∷◌, Ok, Option, length, get_or, map}
use Rattle.std.proofs.lemmas.List.Elements.{All-get_or, All-push, All-same}
use Rattle.sql_value.specs.declared.value.Value.{Value}
use Rattle.spec_model.specs.Rows.{Row}
use Rattle.spec_model.specs.Query.{total, value_in}
use Rattle.sql_select.specs.SortKeys.{same_place}
use Rattle.sql_select.specs.Totals.{AreTotals}
use Rattle.sql_select.proofs.RepeatedKeys.{one_place}

-- one of the totals is that at its place
pub known : (rows : List Row) (totals : List (Option ℕ × Value)) (place : Option ℕ) (i : ℕ) (t : Option ℕ × Value) → i < length totals
    → t ≡ get_or totals i t → same_place t.0 place ≡ true → AreTotals rows totals → total (map (value_in place) rows) ≡ Ok t.1
known rows totals place i t lt is same are =
    ap (λ p. total (map (value_in p) rows)) (sym (one_place t.0 place same))
    ∙ subst (λ x. total (map (value_in x.0) rows) ≡ Ok x.1) (sym is) (All-get_or (λ x. total (map (value_in x.0) rows) ≡ Ok x.1) totals i t lt are)

-- with one more at the end
pub one_more : (rows : List Row) (totals more : List (Option ℕ × Value)) (place : Option ℕ) (sum : Value) → AreTotals rows totals
    → total (map (value_in place) rows) ≡ Ok sum → more ≡ totals ++ (place, sum) ∷ [] → AreTotals rows more
one_more rows totals more place sum are of is =
    All-same (λ x. total (map (value_in x.0) rows) ≡ Ok x.1) more (totals ++ (place, sum) ∷ []) is
    (All-push (λ x. total (map (value_in x.0) rows) ≡ Ok x.1) totals (place, sum) are of)
