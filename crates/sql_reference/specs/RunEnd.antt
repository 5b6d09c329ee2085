-- What running an item of a journal again comes to.
use Rattle.std.specs.Prelude.{ℕ, ◌+◌, if◌then◌else◌, List, [], ◌∷◌, map, length, Option, Some, None}
use Rattle.std.specs.Str.{bytes_eq}
use Rattle.sql_types.specs.declared.event.Event.{Event}
use Rattle.sql_types.specs.declared.journal.JournalItem.{JournalItem}
use Rattle.sql_types.specs.declared.journal.JournalItem.TheVariants.{Tx, Close}
use Rattle.sql_types.specs.declared.reply.Reply.{Reply}
use Rattle.spec_model.specs.Catalog.{Tables}
use Rattle.spec_model.specs.Replies.{reply_text}
use Rattle.spec_model.specs.Script.{Reading, ScriptEnd, script}
use Rattle.spec_model.specs.Journals.{Line}
use Rattle.spec_model.specs.Events.{all_events}
use Rattle.sql_reference.specs.declared.serial_machine.ReplayAgreement.{ReplayAgreement}
use Rattle.sql_reference.specs.declared.serial_machine.ReplayAgreement.TheVariants.{Agrees, Differs}

-- the first statement, counted from n, whose kept reply isn't this one
abbrev pub first_difference : ℕ → List Line → List Reply → Option ℕ
first_difference n [] replies = None
first_difference n (line ∷ lines) [] = Some n
first_difference n (line ∷ lines) (reply ∷ replies) =
    if bytes_eq line.1 (reply_text reply) then first_difference (n + 1) lines replies else Some n

-- where the replies agree and no event is left, the script's length
abbrev pub left_by : ℕ → List Event → ReplayAgreement
left_by count [] = Differs count
left_by count (e ∷ es) = Agrees

abbrev pub ends_so : ℕ → Option ℕ → List Event → ReplayAgreement
ends_so count (Some statement) events = Differs statement
ends_so count None events = left_by count events

abbrev pub judged : ℕ → List Line → ScriptEnd → ReplayAgreement
judged id lines o = ends_so (length lines) (first_difference 0 lines o.replies) (all_events id o.state.tables)

module _ (reads : Reading) where
  unfoldable pub run_end : Tables → JournalItem → ReplayAgreement
  run_end tables (Tx id session time explicit lines) =
      judged id lines (script reads explicit tables id (map (λ l. l.0) lines))
  run_end tables (Close k) = Agrees
