-- The set of names behind one of a list.
use Rattle.std.specs.Prelude.{ℕ, Bool, List}
use Rattle.std.specs.Borrow.{Bor}
use Rattle.std.specs.BTreeSet.{BTreeSet, contains_by}
use Rattle.std.specs.Cmp.Lexicographic.{slice_cmp}
use Rattle.std.specs.Ordering.{nat_cmp}

-- whether a name is in the set
abbrev pub has : BTreeSet (Bor (List ℕ)) → List ℕ → Bool
has names name = contains_by (λ n. slice_cmp nat_cmp name n.now) names
