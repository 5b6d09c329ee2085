-- What contracts see of starts in pieces.
use Rattle.std.specs.Prelude.{ℕ, List}
use Rattle.spec_model.specs.Rows.{EventId}

-- the starts, one behind the other, and how many the pieces that there are can hold
pub record ReservedOrder : Type 0 where
  pub list : List EventId
  pub room : ℕ
