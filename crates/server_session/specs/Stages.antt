-- At which stage a statement stands next.
use Rattle.std.specs.Prelude.{Bool, true, false, None}
use Rattle.sql_value.specs.declared.refusal.Refusal.{Refusal}
use Rattle.sql_types.specs.declared.reply.Reply.{Reply}
use Rattle.sql_types.specs.declared.reply.Reply.TheVariants as reply
use Rattle.server_session.specs.declared.stage.Stage.{Stage}
use Rattle.server_session.specs.declared.stage.Stage.TheVariants.{Replied, GivingBack, Answering}

-- its reply is certain, and belongs to the script of the transaction
abbrev pub said : Reply → Stage
said r = Answering (record { reply = r; said = true; def = None })

-- its reply is certain, and doesn't come to the script of a transaction, or not any more
abbrev pub unsaid : Reply → Stage
unsaid r = Answering (record { reply = r; said = false; def = None })

-- once it did all that it does: in a transaction that BEGIN opened its reply is certain and belongs to the
-- script, one of its own still ends
abbrev pub done_stage : Bool → Reply → Stage
done_stage true r = said r
done_stage false r = Replied r

-- it is refused, and nothing of it is done
abbrev pub stopped_stage : Refusal → Stage
stopped_stage e = unsaid (reply.Refused e)

-- likewise behind the catalog's lock; with true, it gives the lock back
abbrev pub stopped_behind_lock : Bool → Refusal → Stage
stopped_behind_lock true e = GivingBack e
stopped_behind_lock false e = stopped_stage e
