-- Words on lists: sorting, going through one item after another until one is refused, names, numbers.
use Rattle.std.specs.Prelude.{ℕ, ◌+◌, ◌==◌, ◌&&◌, ◌||◌, nat_lt, nat_le, not, max, Bool, true, false, if◌then◌else◌, List, [], ◌∷◌, map, Option, Some, None, Ok}
use Rattle.std.specs.List.{list_any, filter}
use Rattle.std.specs.Str.{bytes_eq}
use Rattle.std.specs.declared.cmp.Ordering.{Ordering}
use Rattle.std.specs.Ordering.{is_gt}
use Rattle.spec_model.specs.Refusals.{Checked, and_then}

-- ---- order

-- x before the first that isn't less
abbrev pub inserted : {A : Type 0} → (A → A → Ordering) → A → List A → List A
inserted cmp x [] = x ∷ []
inserted cmp x (y ∷ ys) = if is_gt (cmp x y) then y ∷ inserted cmp x ys else x ∷ y ∷ ys

-- in rising order; what is equal keeps its order
abbrev pub sorted : {A : Type 0} → (A → A → Ordering) → List A → List A
sorted cmp [] = []
sorted cmp (x ∷ xs) = inserted cmp x (sorted cmp xs)

-- ---- one after another, until one is refused

-- what f gives for each
abbrev pub checked_map : {A B : Type 0} → (A → Checked B) → List A → Checked (List B)
checked_map f [] = Ok []
checked_map f (x ∷ xs) = and_then (f x) (λ y. and_then (checked_map f xs) (λ ys. Ok (y ∷ ys)))

-- those that pass
abbrev pub checked_filter : {A : Type 0} → (A → Checked Bool) → List A → Checked (List A)
checked_filter test [] = Ok []
checked_filter test (x ∷ xs) =
    and_then (test x) (λ b. and_then (checked_filter test xs) (λ ys. Ok (if b then x ∷ ys else ys)))

-- what f makes of all, each with what was made of those before it
abbrev pub checked_fold : {A B : Type 0} → (B → A → Checked B) → B → List A → Checked B
checked_fold f b [] = Ok b
checked_fold f b (x ∷ xs) = and_then (f b x) (λ c. checked_fold f c xs)

-- ---- optional items

abbrev pub in_front : {A : Type 0} → Option A → Option (List A) → Option (List A)
in_front (Some x) (Some xs) = Some (x ∷ xs)
in_front _ _ = None

-- all of them, where none is missing
abbrev pub all_some : {A : Type 0} → List (Option A) → Option (List A)
all_some [] = Some []
all_some (x ∷ xs) = in_front x (all_some xs)

-- the first that is there
abbrev pub or_else : {A : Type 0} → Option A → Option A → Option A
or_else (Some x) y = Some x
or_else None y = y

-- ---- names

-- the name is one of these
abbrev pub has_name : List (List ℕ) → List ℕ → Bool
has_name names name = list_any (λ n. bytes_eq n name) names

-- some name stands twice
abbrev pub repeats : List (List ℕ) → Bool
repeats [] = false
repeats (n ∷ ns) = has_name ns n || repeats ns

-- ---- numbers

-- with their numbers, counted from this one
abbrev pub numbered : {A : Type 0} → ℕ → List A → List (ℕ × A)
numbered n [] = []
numbered n (x ∷ xs) = (n, x) ∷ numbered (n + 1) xs

-- the number is one of these
abbrev pub is_among : List ℕ → ℕ → Bool
is_among numbers n = list_any (λ m. m == n) numbers

-- all but those whose numbers, counted from 1, are among these
abbrev pub without : {A : Type 0} → List ℕ → List A → List A
without [] xs = xs
without (n ∷ ns) xs = map (λ p. p.1) (filter (λ p. not (is_among (n ∷ ns) p.0)) (numbered 1 xs))

-- the greatest of them, 0 where there are none
abbrev pub greatest : List ℕ → ℕ
greatest [] = 0
greatest (n ∷ ns) = max n (greatest ns)

-- the numbers are above this one, rise strictly, and none is above the limit
abbrev pub rise_within : ℕ → ℕ → List ℕ → Bool
rise_within last limit [] = true
rise_within last limit (n ∷ ns) = nat_lt last n && nat_le n limit && rise_within n limit ns
