-- A script that is run again: what its statements come to from where it is, and where the kept replies end to
-- agree.
use Rattle.std.specs.Prelude.{ℕ, ◌≡◌, ◌≢◌, List, map, take, slice_get, Some}
use Rattle.sql_types.specs.declared.reply.Reply.{Reply}
use Rattle.spec_model.specs.Journals.{Line}
use Rattle.spec_model.specs.Replies.{reply_text}
use Rattle.spec_model.specs.Script.{Reading, ScriptEnd, script_from}
use Rattle.sql_reference.specs.Machine.{Running}

-- what these statements come to in a script that is begun
abbrev pub goes_on : Reading → Running → List Line → ScriptEnd
goes_on reads x lines = script_from reads x.explicit x.tx x.state (map (λ l. l.0) lines)

-- the statement is the first whose kept text isn't that of its reply
pub record IsFirst (statement : ℕ) (lines : List Line) (replies : List Reply) : Type 0 where
  pub before : map (λ l. l.1) (take statement lines) ≡ map reply_text (take statement replies)
  pub line : Line
  pub line_is : slice_get lines statement ≡ Some line
  pub reply : Reply
  pub reply_is : slice_get replies statement ≡ Some reply
  pub differs : line.1 ≢ reply_text reply
