use Rattle.std.proofs.Common.{None, Some}
use Rattle.spec_history.specs.Inputs.{sessions_in}
use Rattle.spec_syntax.specs.Text.{statement_of}
use Rattle.format_lines.specs.Sessions.{sessions_of}
use Rattle.cli_commands.specs.PastCells.{past_seen}
use Rattle.law_commands.specs.Runs.{input_of, lines_of}
use Rattle.law_commands.proofs.Fits.{issued, of_run, of_run_behind, some_meaning, where_told}
use Rattle.law_commands.proofs.digests.digests_that_were_put_can_be_read.Goals as goal

pub returns-clause-step : goal.returns-clause-step
returns-clause-step g c = λ h how clock ended save input old new taken_old taken_new ran.
    let came = ran.came in
    let o = ran.output in
    let meaning = some_meaning h (c.histories_may_hash_so.ensures h statement_of) c.statements_have_such_a_meaning.ensures in
    let keeps = c.saved_files_keep_the_headline.ensures.step h how clock ran.said o came in
    let agree = of_run meaning.0 o.journal.database (sessions_in (lines_of ran.said) (sessions_of ran.said)) None came.run.X o.journal.items o.digests (keeps.1.replies_given meaning.0 meaning.1) in
    let are = issued h (sessions_in (lines_of ran.said) (sessions_of ran.said)) None came.run.X o meaning agree ran.saved.digests ran.saved.journal_is_encodable ran.saved.file ran.saved.digests_read_back in
    where_told (λ bytes said. c.digest_files_can_be_read.ensures.lines meaning.0 o.journal.database bytes ran.said o.journal.items o.digests ran.saved.digests
    (record { within = said.0; read = said.1 }) are) input ran.within

pub returns-clause-run : goal.returns-clause-run
returns-clause-run g c = λ h how clock ended save input old new taken_old taken_new ran.
    let came = ran.came in
    let o = ran.output in
    let meaning = some_meaning h (c.histories_may_hash_so.ensures h statement_of) c.statements_have_such_a_meaning.ensures in
    let keeps = c.saved_files_keep_the_headline.ensures.run h how clock ran.said o came in
    let agree = of_run meaning.0 o.journal.database (input_of ran.said) (Some 0) came.left.X o.journal.items o.digests (keeps.1.replies_given meaning.0 meaning.1) in
    let are = issued h (input_of ran.said) (Some 0) came.left.X o meaning agree ran.saved.digests ran.saved.journal_is_encodable ran.saved.file ran.saved.digests_read_back in
    where_told (λ bytes said. c.digest_files_can_be_read.ensures.sections meaning.0 o.journal.database bytes ran.said o.journal.items o.digests ran.saved.digests
    (record { within = said.0; read = said.1 }) are) input ran.within

pub returns-clause-step_behind : goal.returns-clause-step_behind
returns-clause-step_behind g c = λ h how clock J ended save input old new taken_old taken_new ran.
    let came = ran.came in
    let o = ran.output in
    let meaning = some_meaning h (c.histories_may_hash_so.ensures h statement_of) c.statements_have_such_a_meaning.ensures in
    let keeps = c.saved_files_keep_the_headline.ensures.step_behind h how clock J ran.said o came in
    let agree = of_run_behind meaning.0 o.journal.database (sessions_in (lines_of ran.said) (sessions_of ran.said)) None came.run.X o.journal.items o.digests (past_seen came.past) (keeps.1.replies_given meaning.0 meaning.1) in
    let are = issued h (sessions_in (lines_of ran.said) (sessions_of ran.said)) None came.run.X o meaning agree ran.saved.digests ran.saved.journal_is_encodable ran.saved.file ran.saved.digests_read_back in
    where_told (λ bytes said. c.digest_files_can_be_read.ensures.lines meaning.0 o.journal.database bytes ran.said o.journal.items o.digests ran.saved.digests
    (record { within = said.0; read = said.1 }) are) input ran.within

pub returns-clause-run_behind : goal.returns-clause-run_behind
returns-clause-run_behind g c = λ h how clock J ended save input old new taken_old taken_new ran.
    let came = ran.came in
    let o = ran.output in
    let meaning = some_meaning h (c.histories_may_hash_so.ensures h statement_of) c.statements_have_such_a_meaning.ensures in
    let keeps = c.saved_files_keep_the_headline.ensures.run_behind h how clock J ran.said o came in
    let agree = of_run_behind meaning.0 o.journal.database (input_of ran.said) (Some 0) came.left.X o.journal.items o.digests (past_seen came.past) (keeps.1.replies_given meaning.0 meaning.1) in
    let are = issued h (input_of ran.said) (Some 0) came.left.X o meaning agree ran.saved.digests ran.saved.journal_is_encodable ran.saved.file ran.saved.digests_read_back in
    where_told (λ bytes said. c.digest_files_can_be_read.ensures.sections meaning.0 o.journal.database bytes ran.said o.journal.items o.digests ran.saved.digests
    (record { within = said.0; read = said.1 }) are) input ran.within
