-- Steps that one seat takes while all others are between statements.
use Rattle.std.specs.Prelude.{ℕ, ◌≡◌, ◌≢◌, List}
use mathlib.Core.Option.{some}
use lib.ListN.{get_elem?}
use Rattle.spec_protocol.specs.Seats.{Role, between, session, SeatState}

-- no session stands inside a statement, or at its end
abbrev pub IsInactive : Role → Type 0
IsInactive (session x) = x.place ≡ between
IsInactive _ = Unit {0}

-- so it is at all seats but this one
abbrev pub InactiveExcept : List SeatState → ℕ → Type 0
InactiveExcept seats j = (k : ℕ) (s : SeatState) → k ≢ j → get_elem? seats k ≡ some s → IsInactive s.role
