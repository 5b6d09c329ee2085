-- The least of some elements, by an order. Of equal ones it is the first.
use Rattle.std.specs.Prelude.{if◌then◌else◌, List, [], ◌∷◌, Option, Some, None}
use Rattle.std.specs.declared.cmp.Ordering.{Ordering}
use Rattle.std.specs.Ordering.{is_gt}

abbrev pub lesser : {A : Type 0} → (A → A → Ordering) → Option A → A → Option A
lesser cmp None x = Some x
lesser cmp (Some best) x = if is_gt (cmp best x) then Some x else Some best

-- the least of these and of one known before
abbrev pub least_from : {A : Type 0} → (A → A → Ordering) → Option A → List A → Option A
least_from cmp best [] = best
least_from cmp best (x ∷ xs) = least_from cmp (lesser cmp best x) xs

-- the least of these
abbrev pub least : {A : Type 0} → (A → A → Ordering) → List A → Option A
least cmp xs = least_from cmp None xs

-- the lesser of two that may be missing
abbrev pub lesser_of : {A : Type 0} → (A → A → Ordering) → Option A → Option A → Option A
lesser_of cmp a None = a
lesser_of cmp a (Some x) = lesser cmp a x
