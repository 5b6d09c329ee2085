-- What is left of two lists that are gone through side by side, where one of them has ended.
use Rattle.std.proofs.Common.{◌≡◌, suc, List, [], ◌∷◌, ◌++◌, map, length, refl, sym, ap, subst, ◌∙◌, arith, Ok, Err}
use Rattle.spec_model.specs.Refusals.{Checked, and_then}
use Rattle.spec_model.specs.Lists.{checked_map}
use Rattle.std.proofs.lemmas.List.{append-nil, length-map}
use Rattle.std.specs.List.{zip}
use Rattle.spec_model.specs.Rows.{Row, stored_row}
use Rattle.sql_value.specs.declared.column.ColumnDef.{ColumnDef}

pub first_ended : {A B : Type 0} (xs : List A) (ys : List B) → length xs ≡ 0 → zip xs ys ≡ []
first_ended [] ys h = refl
first_ended (x ∷ xs) ys h = absurd (omega (arith, h))

pub second_ended : {A B : Type 0} (xs : List A) (ys : List B) → length ys ≡ 0 → zip xs ys ≡ []
second_ended [] [] h = refl
second_ended (x ∷ xs) [] h = refl
second_ended xs (y ∷ ys) h = absurd (omega (arith, h))

pub no_columns : (columns : List ColumnDef) (row : Row) → length columns ≡ 0 → stored_row columns row ≡ []
no_columns [] row h = refl
no_columns (c ∷ cs) row h = absurd (omega (arith, h))

pub no_values : (columns : List ColumnDef) (row : Row) → length row ≡ 0 → stored_row columns row ≡ []
no_values [] [] h = refl
no_values (c ∷ cs) [] h = refl
no_values columns (v ∷ vs) h = absurd (omega (arith, h))

pub all_done : {A : Type 0} (done rest whole : List A) → rest ≡ [] → done ++ rest ≡ whole → done ≡ whole
all_done done rest whole none same = sym (append-nil done) ∙ ap (λ l. done ++ l) (sym none) ∙ same

pub no_pairs : {A B C : Type 0} (f : A → B) (xs : List A) (ys : List C) → length xs ≡ 0 → zip (map f xs) ys ≡ []
no_pairs f [] ys h = refl
no_pairs f (x ∷ xs) ys h = absurd (omega (arith, h))

pairs_step : {A B : Type 0} (x : A) (xs : List A) (r : Checked B) (rs : Checked (List B)) (ys : List B)
    → ((zs : List B) → rs ≡ Ok zs → length (zip xs zs) ≡ length xs)
    → and_then r (λ y. and_then rs (λ zs. Ok (y ∷ zs))) ≡ Ok ys → length (zip (x ∷ xs) ys) ≡ length (x ∷ xs)
pairs_step x xs (Ok y) (Ok zs) ys more same =
    let found : y ∷ zs ≡ ys = cc in
    subst (λ l. length (zip (x ∷ xs) l) ≡ length (x ∷ xs)) found (ap suc (more zs refl))
pairs_step x xs (Ok y) (Err e) ys more same = cc
pairs_step x xs (Err e) rs ys more same = cc

-- what one after another gives, each with what it was made of
pub as_many_pairs : {A B : Type 0} (f : A → Checked B) (xs : List A) (ys : List B) → checked_map f xs ≡ Ok ys → length (zip xs ys) ≡ length xs
as_many_pairs f [] ys same = refl
as_many_pairs f (x ∷ xs) ys same = pairs_step x xs (f x) (checked_map f xs) ys (as_many_pairs f xs) same

pub pairs_of_each : {A B C : Type 0} (seen : A → B) (f : B → Checked C) (xs : List A) (ys : List C) → checked_map f (map seen xs) ≡ Ok ys → length (zip (map seen xs) ys) ≡ length xs
pairs_of_each seen f xs ys same = as_many_pairs f (map seen xs) ys same ∙ length-map xs seen
