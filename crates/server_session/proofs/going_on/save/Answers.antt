use Rattle.std.proofs.Common.{refl}
use Rattle.server_session.specs.Course.{save_answer}
use Rattle.server_session.proofs.Savepoints.{saved}
use Rattle.server_session.proofs.going_on.save.Goals as goal

pub returns-clause-saves : goal.returns-clause-saves
returns-clause-saves g c = let said = c.save-saved in
    (save_answer said.result, c.save_stage.ensures, saved g.H.Hash32.digest c.args.name.now c.args.running.now.context said.new.self _ said.result said.ensures.ok said.ensures.full said.ensures.room said.ensures.err refl)
