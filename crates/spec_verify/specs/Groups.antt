-- What is found by groups: at the first element where some group finds something, the least that is found
-- there.
use Rattle.std.specs.Prelude.{ℕ, List, Option, Some, None}
use Rattle.std.specs.declared.cmp.Ordering.{Ordering}
use Rattle.std.specs.Ordering.{nat_cmp, ordering_then}
use Rattle.spec_verify.specs.First.{first}

-- a place in a list, and what is found there
abbrev pub Found : Type 0 → Type 0
Found B = ℕ × B

abbrev pub found_at : {B : Type 0} → ℕ → Option B → Option (Found B)
found_at k None = None
found_at k (Some b) = Some (k, b)

-- with the place of the element where it is found
abbrev pub first_found : {A B : Type 0} → (ℕ → A → Option B) → List A → Option (Found B)
first_found found xs = first (λ k x. found_at k (found k x)) xs

-- by place, and then by what is found
abbrev pub found_cmp : {B : Type 0} → (B → B → Ordering) → Found B → Found B → Ordering
found_cmp cmp a b = ordering_then (nat_cmp a.0 b.0) (cmp a.1 b.1)
