-- What a statement's visit of a catalog or a table's cell makes of its transaction.
use Rattle.std.specs.Prelude.{ℕ, ◌==◌, ◌++◌, nat_le, Bool, true, false, if◌then◌else◌, List, [], ◌∷◌, map, Some, None, Ok, Err}
use Rattle.std.specs.List.{filter}
use Rattle.sql_value.specs.declared.refusal.Refusal.TheVariants.{Locked, NoMemory}
use Rattle.sql_types.specs.declared.event.Event.{Event}
use Rattle.sql_types.specs.declared.reply.Reply.{Reply}
use Rattle.sql_types.specs.declared.reply.Reply.TheVariants as reply
use Rattle.sql_types.specs.declared.lock.LockRequest.{LockRequest}
use Rattle.sql_types.specs.declared.version.Version.{Version}
use Rattle.spec_model.specs.Journals.{Line}
use Rattle.spec_model.specs.Refusals.{Checked}
use Rattle.spec_model.specs.Rows.{Row}
use Rattle.spec_model.specs.Replies.{reply_text}
use Rattle.spec_history.specs.Lists.{Text}
use Rattle.spec_protocol.specs.Server.{Server}
use Rattle.sql_types.specs.declared.lock.Hold.{Hold}
use Rattle.spec_protocol.specs.Seats.{Tree, OpenTransaction, StatementProgress, replied, answering, refused, SeatState}
use Rattle.spec_protocol.specs.EventsIn.{events_in}
use Rattle.spec_protocol.specs.Moves.{InStatement, then_at}
use Rattle.spec_model.specs.InTheWay.{Conflict, first_conflict}
use Rattle.std.proofs.Common.{◌≡◌}
use Rattle.law_blocks.specs.Leaf.{event_bytes}

-- ---- trees

-- the leaves of these events come at the end of the tree of their table
abbrev pub grown : ℕ → List Event → List Tree → List Tree
grown id es [] = record { table = id; leaves = map event_bytes es } ∷ []
grown id es (t ∷ ts) = if t.table == id then record {
  table = id;
  leaves = t.leaves
      ++ map event_bytes es;
} ∷ ts else t ∷ grown id es ts

-- the transaction's events from this number on
abbrev pub events_from : ℕ → ℕ → ℕ → List Version → List Event
events_from tx seq id versions = filter (λ e. nat_le seq e.seq) (events_in tx id versions)

-- ---- replies

abbrev pub with_line : Bool → Line → List Line → List Line
with_line true line lines = lines ++ line ∷ []
with_line false line lines = lines

-- the statement belongs to the script from now on; a transaction of its own says it with its end
abbrev pub with_reply : Text → Reply → OpenTransaction → OpenTransaction
with_reply text r o =
    record {
      id = o.id;
      explicit = o.explicit;
      script = with_line o.explicit (text, reply_text r) o.script;
      seq = o.seq;
      trees = o.trees;
      open_savepoints = o.open_savepoints;
      end = o.end;
      visited = o.visited;
      released = o.released;
    }

abbrev pub stage_after : Bool → Reply → StatementProgress
stage_after true r = answering r None
stage_after false r = replied r

-- the seat after a statement did all that it does, with this transaction
abbrev pub done : {v : Server} → (s : SeatState) → InStatement v s → OpenTransaction → Reply → SeatState
done s p o r = then_at s p (Some (with_reply p.text r o)) (stage_after o.explicit r)

abbrev pub rows_reply : Checked (List Row) → Reply
rows_reply (Ok rows) = reply.Rows rows
rows_reply (Err e) = reply.Refused e

-- ---- what stops a statement in a cell

-- a lock of another transaction is in the way, and the least holder is named, or there is no memory; one that
-- took the catalog's lock is to give it back
abbrev pub stage_refused : Bool → Reply → StatementProgress
stage_refused true r = refused r
stage_refused false r = answering r None

pub data Stopped (holds : List Hold) (id : ℕ) (requests : List LockRequest) : Reply → Type 0 where
  blocked : (c : Conflict) → first_conflict holds id requests ≡ Some c
      → Stopped holds id requests (reply.Refused (Locked c.0.0))
  no_memory : Stopped holds id requests (reply.Refused NoMemory)
