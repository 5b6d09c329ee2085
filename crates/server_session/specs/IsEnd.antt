-- The end of a transaction, as the laws on visits have it.
use Rattle.std.specs.Prelude.{ℕ, ◌≡◌, Option, Some, None}
use Rattle.sql_types.specs.declared.end_line.EndLine.{EndLine}
use Rattle.sql_types.specs.declared.end_line.EndLine.TheVariants.{Committed, Ended}
use Rattle.spec_history.specs.Transactions as fixed
use Rattle.spec_history.specs.Transactions.{unfixed, committed, ended}

-- the line is that of this end of the transaction with this id
abbrev pub IsEnd : ℕ → Option EndLine → fixed.End → Type 0
IsEnd id None unfixed = Unit {0}
IsEnd id (Some (Committed i place)) (committed n) = (i ≡ id) × (place ≡ n)
IsEnd id (Some (Ended i after)) (ended n back) = (i ≡ id) × (after ≡ n)
IsEnd id _ _ = ⊥
