-- How far a statement came with an id.
use Rattle.std.specs.Prelude.{ℕ, Bool, true, false}
use Rattle.sql_types.specs.declared.reply.Reply.TheVariants as reply
use Rattle.server_session.specs.Stages.{unsaid}
use Rattle.server_session.specs.declared.stage.Stage.{Stage}
use Rattle.server_session.specs.declared.stage.Stage.TheVariants.{Looking}

-- BEGIN is answered its id, and a table statement goes on
abbrev pub assigned_id_stage : Bool → ℕ → Stage
assigned_id_stage true id = unsaid (reply.Begun id)
assigned_id_stage false id = Looking
