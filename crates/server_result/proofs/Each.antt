-- What is so of each element of a list: by its places, and from the front.
use Rattle.std.proofs.Common.{◌<◌, ℕ, zero, suc, List, [], ◌∷◌, length, arith}
use Rattle.std.specs.List.{All, slice_index_or}
use Rattle.spec_history.specs.Lists.{Each}

pub each_from_all : {A : Type 0} (P : A → Type 0) (xs : List A) → All P xs → Each P xs
each_from_all P [] all = tt
each_from_all P (x ∷ xs) all = (all 0 x (omega arith), each_from_all P xs (λ k d less. all (suc k) d (omega (arith, less))))

each_at : {A : Type 0} (P : A → Type 0) (xs : List A) (k : ℕ) (d : A) → Each P xs → k < length xs → P (slice_index_or xs k d)
each_at P [] k d e less = absurd (omega (arith, less))
each_at P (x ∷ xs) zero d e less = e.0
each_at P (x ∷ xs) (suc k) d e less = each_at P xs k d e.1 (omega (arith, less))

pub all_from_each : {A : Type 0} (P : A → Type 0) (xs : List A) → Each P xs → All P xs
all_from_each P xs e k d less = each_at P xs k d e less
