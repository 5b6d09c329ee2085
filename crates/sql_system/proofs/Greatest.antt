-- The greatest of numbers, in parts.
use Rattle.std.proofs.Common.{◌≡◌, ◌∙◌, ap, sym, ℕ, List, [], ◌∷◌, ◌++◌, arith}
use Rattle.std.proofs.lemmas.Grind.{common_steps}
use Rattle.std.specs.Prelude.{max}
use Rattle.spec_model.specs.Lists.{greatest}

pub of_three : (a b c : ℕ) → max (max a b) c ≡ max a (max b c)
of_three a b c = grind (arith, common_steps)

pub of_none : (a : ℕ) → max 0 a ≡ a
of_none a = grind (arith, common_steps)

-- of two lists
pub of_both : (xs ys : List ℕ) → greatest (xs ++ ys) ≡ max (greatest xs) (greatest ys)
of_both [] ys = sym (of_none (greatest ys))
of_both (x ∷ xs) ys = ap (max x) (of_both xs ys) ∙ sym (of_three x (greatest xs) (greatest ys))
