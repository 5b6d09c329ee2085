-- Where a run begins: with a journal that was there before, or with none.
use Rattle.std.specs.Prelude.{ℕ, ◌≡◌, true}
use Rattle.base_types.specs.Moment.{is_moment}
use Rattle.base_types.specs.SessionName.{is_session_name}
use Rattle.spec_history.specs.Lists.{Each, Text}
use Rattle.spec_protocol.specs.SeatNames.{names_of}
use Rattle.spec_protocol.specs.Server.{Server}
use Rattle.spec_protocol.specs.TranscriptsAgree.{moments_of}
use Rattle.law_behind.specs.Past.{Past}
use Rattle.law_going_on.specs.Start.{Start}

-- A server starts with this past, and names and moments that its past's seat has are such.
pub record RunStart (v : Server) (database : Text) (size : ℕ) (past : Past) : Type 0 where
  pub begins : Start v database size
  pub of_past : begins.past ≡ past
  pub names : Each (λ name. is_session_name name ≡ true) (names_of begins.seat)
  pub moments : Each (λ time. is_moment time ≡ true) (moments_of begins.seat)
