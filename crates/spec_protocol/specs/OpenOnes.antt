-- The open and unreleased transactions of seats, and the statements in which their seats stand.
use Rattle.std.specs.Prelude.{ℕ, ◌≡◌, ◌++◌, List, [], ◌∷◌, map, Option, Some, None}
use mathlib.Core.Option.{some}
use lib.ListN.{get_elem?}
use Rattle.sql_types.specs.declared.reply.Reply.TheVariants.{Made, Back}
use Rattle.spec_model.specs.Journals.{Line}
use Rattle.spec_model.specs.Replies.{reply_text}
use Rattle.spec_model.specs.Catalog.{Tables}
use Rattle.spec_model.specs.Script.{ScriptEnd, script}
use Rattle.spec_history.specs.Lists.{Text}
use Rattle.spec_protocol.specs.Server.{Server}
use Rattle.spec_protocol.specs.Seats.{OpenTransaction, StatementProgress, made, going_back, replied, SessionStatus, between, inside, leaving, Session, session, SeatState}

-- seat j is a session's, and this is its open or unreleased transaction
pub record HasOpen (seats : List SeatState) (j : ℕ) (x : Session) (o : OpenTransaction) : Type 0 where
  pub seat : SeatState
  pub there : get_elem? seats j ≡ some seat
  pub role : seat.role ≡ session x
  pub open_one : x.open_one ≡ Some o

-- the statement in which a place is
abbrev pub text_at : SessionStatus → Option Text
text_at between = None
text_at (inside text stage) = Some text
text_at leaving = None

-- what counts as the last of the script while it is under way: a CREATE INDEX that made its rows, the way
-- back to a savepoint, and a transaction of its own that did all that it does
abbrev pub last_line : Text → StatementProgress → List Line
last_line text (made def indexed) = (text, reply_text Made) ∷ []
last_line text (going_back seq cells) = (text, reply_text Back) ∷ []
last_line text (replied reply) = (text, reply_text reply) ∷ []
last_line text _ = []

abbrev pub lines_at : SessionStatus → List Line
lines_at (inside text stage) = last_line text stage
lines_at _ = []

-- the script of a transaction, with the statement under way where it counts
abbrev pub script_so_far : Session → OpenTransaction → List Line
script_so_far x o = o.script ++ lines_at x.place

abbrev pub texts_so_far : Session → OpenTransaction → List Text
texts_so_far x o = map (λ l. l.0) (script_so_far x o)

-- what the script comes to over these tables
abbrev pub script_end : Server → Tables → Session → OpenTransaction → ScriptEnd
script_end v tables x o = script v.reads o.explicit tables o.id (texts_so_far x o)
