use Rattle.server_engine.proofs.LastAnswers.{last_written, same_behind}
use Rattle.server_engine.proofs.session.Session.write_last.Goals as goal

pub returns-clause-entries : goal.returns-clause-entries
returns-clause-entries g c = last_written c.args.self.now c.write_answer.new.self c.write_end.new.self c.write_end.result c.write_answer.ensures.same
    c.in_ok-write_answer.ensures.entries c.write_end.ensures.entries

pub returns-clause-err : goal.returns-clause-err
returns-clause-err g c = same_behind c.args.self.now c.write_answer.new.self c.write_end.new.self c.write_end.result c.write_answer.ensures.same
    c.write_end.ensures.err
