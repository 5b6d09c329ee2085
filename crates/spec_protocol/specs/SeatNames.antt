-- The names of the sessions of seats.
use Rattle.std.specs.Prelude.{ℕ, ◌≡◌, ◌≢◌, ◌++◌, List, [], ◌∷◌, map}
use mathlib.Core.Option.{some}
use lib.ListN.{get_elem?}
use Rattle.spec_history.specs.Lists.{Text, In}
use Rattle.spec_protocol.specs.Seats.{Role, session, SeatState}

abbrev pub session_names : Role → List Text
session_names (session x) = x.transcript.session ∷ []
session_names _ = []

-- of a seat's sessions, those that are over and the one that runs
abbrev pub names_of : SeatState → List Text
names_of s = map (λ w. w.transcript.session) s.written ++ session_names s.role

-- no other seat has a session of the name of one of seat j
abbrev pub OthersDiffer : List SeatState → ℕ → Type 0
OthersDiffer seats j = (k : ℕ) (s t : SeatState) (name : Text) → k ≢ j → get_elem? seats k ≡ some s
    → get_elem? seats j ≡ some t → In name (names_of s) → In name (names_of t) → ⊥
