-- One after another, until one is refused.
use Rattle.std.proofs.Common.{◌≡◌, refl, ap, ◌∙◌, sym, Bool, true, false, cond, List, [], ◌∷◌, ◌++◌, Ok, Err}
use Rattle.std.proofs.lemmas.List.{append_assoc, append-nil}
use Rattle.spec_model.specs.Refusals.{Checked, and_then}
use Rattle.spec_model.specs.Lists.{checked_map, checked_filter}
use Rattle.sql_parts.specs.InTurn.{map_after, filter_after}

-- ---- what was done so far, in front of what the rest gives

abbrev behind : {A : Type 0} → List A → Checked (List A) → Checked (List A)
behind done rest = and_then rest (λ ys. Ok (done ++ ys))

behind-one : {A : Type 0} (done : List A) (y : A) (rest : Checked (List A)) → behind done (and_then rest (λ ys. Ok (y ∷ ys))) ≡ behind (done ++ y ∷ []) rest
behind-one done y (Ok ys) = ap Ok (sym (append_assoc done (y ∷ []) ys))
behind-one done y (Err e) = refl

map_one : {A B : Type 0} (f : A → Checked B) (done : List B) (xs : List A) (r : Checked B)
    → ((ys : List B) → map_after f ys xs ≡ behind ys (checked_map f xs))
    → and_then r (λ y. map_after f (done ++ y ∷ []) xs) ≡ behind done (and_then r (λ y. and_then (checked_map f xs) (λ ys. Ok (y ∷ ys))))
map_one f done xs (Ok y) more = more (done ++ y ∷ []) ∙ sym (behind-one done y (checked_map f xs))
map_one f done xs (Err e) more = refl

map_after_is : {A B : Type 0} (f : A → Checked B) (xs : List A) (done : List B) → map_after f done xs ≡ behind done (checked_map f xs)
map_after_is f [] done = ap Ok (sym (append-nil done))
map_after_is f (x ∷ xs) done = map_one f done xs (f x) (map_after_is f xs)

behind-nil : {A : Type 0} (rest : Checked (List A)) → behind [] rest ≡ rest
behind-nil (Ok ys) = refl
behind-nil (Err e) = refl

pub map_after_none : {A B : Type 0} (f : A → Checked B) (xs : List A) → map_after f [] xs ≡ checked_map f xs
map_after_none f xs = map_after_is f xs [] ∙ behind-nil (checked_map f xs)

pub map_after_done : {A B : Type 0} (f : A → Checked B) (done : List B) (rest : List A) (whole : Checked (List B)) → rest ≡ [] → map_after f done rest ≡ whole → whole ≡ Ok done
map_after_done f done rest whole none same = sym same ∙ ap (map_after f done) none

-- ---- those that pass

behind-all : {A : Type 0} (done : List A) (rest : Checked (List A)) → behind done (and_then rest (λ ys. Ok ys)) ≡ behind done rest
behind-all done (Ok ys) = refl
behind-all done (Err e) = refl

filter_one : {A : Type 0} (test : A → Checked Bool) (done : List A) (x : A) (xs : List A) (r : Checked Bool)
    → ((ys : List A) → filter_after test ys xs ≡ behind ys (checked_filter test xs))
    → and_then r (λ b. filter_after test (cond b (done ++ x ∷ []) done) xs) ≡ behind done (and_then r (λ b. and_then (checked_filter test xs) (λ ys. Ok (cond b (x ∷ ys) ys))))
filter_one test done x xs (Ok true) more = more (done ++ x ∷ []) ∙ sym (behind-one done x (checked_filter test xs))
filter_one test done x xs (Ok false) more = more done ∙ sym (behind-all done (checked_filter test xs))
filter_one test done x xs (Err e) more = refl

filter_after_is : {A : Type 0} (test : A → Checked Bool) (xs : List A) (done : List A) → filter_after test done xs ≡ behind done (checked_filter test xs)
filter_after_is test [] done = ap Ok (sym (append-nil done))
filter_after_is test (x ∷ xs) done = filter_one test done x xs (test x) (filter_after_is test xs)

pub filter_after_none : {A : Type 0} (test : A → Checked Bool) (xs : List A) → filter_after test [] xs ≡ checked_filter test xs
filter_after_none test xs = filter_after_is test xs [] ∙ behind-nil (checked_filter test xs)

-- where each passes, all do
pub all_pass : {A : Type 0} (xs : List A) → checked_filter (λ x. Ok true) xs ≡ Ok xs
all_pass [] = refl
all_pass (x ∷ xs) = ap (λ r. and_then r (λ ys. Ok (x ∷ ys))) (all_pass xs)
