use Rattle.std.proofs.Common.{None, Some, refl, ap, ◌∙◌}
use Rattle.format_lines.specs.Sessions.{sessions_of}
use Rattle.spec_history.specs.Inputs.{sessions_in}
use Rattle.spec_syntax.specs.Text.{statement_of}
use Rattle.law_headline.specs.Before.{InOneOrder, InOrderOfLines}
use Rattle.law_headline.specs.BeforeBehind.{InOneOrderBehind, InOrderOfLinesBehind}
use Rattle.cli_commands.specs.PastCells.{past_seen}
use Rattle.cli_commands.specs.Status.TheVariants.{Done}
use Rattle.law_commands.specs.Runs.{input_of, lines_of}
use Rattle.law_commands.proofs.Compared.{extract_says}
use Rattle.law_commands.proofs.Fits.{all_held, of_run, of_run_behind, some_meaning}
use Rattle.law_commands.proofs.Judged.{verify_says}
use Rattle.law_commands.proofs.Put.{accept_the_past, accepted, accepted_behind, exhibits, next_day, same_image}
use Rattle.law_commands.proofs.commands.what_was_saved_is_accepted.Goals as goal

pub returns-clause-step : goal.returns-clause-step
returns-clause-step g c = λ h how clock save input old new taken_old taken_new ran.
    let came = ran.came in
    let o = ran.output in
    let meaning = some_meaning h (c.histories_may_hash_so.ensures h statement_of) c.statements_have_such_a_meaning.ensures in
    let keeps = c.saved_files_keep_the_headline.ensures.step h how clock ran.said o came in
    let agree = of_run meaning.0 o.journal.database (sessions_in (lines_of ran.said) (sessions_of ran.said)) None came.run.X o.journal.items o.digests (keeps.1.replies_given meaning.0 meaning.1) in
    let are = accepted h (sessions_in (lines_of ran.said) (sessions_of ran.said)) None (InOrderOfLines how.block_size (lines_of ran.said) came.run.X o.journal.items) came.run.X o keeps.1 in
    let closed = all_held h (sessions_in (lines_of ran.said) (sessions_of ran.said)) None came.run.X o meaning agree in
    let stand = ran.saved.are_in_vault refl in
    exhibits h o new save ran.saved.digests input are closed (ap (λ J. J.version) came.is.journal ∙ came.came.version) keeps.0 stand ran.saved.digests_read_back ran.saved.journal_is_encodable
    (c.digests_that_were_put_can_be_read.ensures.step h how clock Done save input (Some old) (Some new) taken_old taken_new ran)

pub returns-clause-run : goal.returns-clause-run
returns-clause-run g c = λ h how clock save input old new taken_old taken_new ran.
    let came = ran.came in
    let o = ran.output in
    let meaning = some_meaning h (c.histories_may_hash_so.ensures h statement_of) c.statements_have_such_a_meaning.ensures in
    let keeps = c.saved_files_keep_the_headline.ensures.run h how clock ran.said o came in
    let agree = of_run meaning.0 o.journal.database (input_of ran.said) (Some 0) came.left.X o.journal.items o.digests (keeps.1.replies_given meaning.0 meaning.1) in
    let are = accepted h (input_of ran.said) (Some 0) (InOneOrder came.left.X o.journal.items) came.left.X o keeps.1 in
    let closed = all_held h (input_of ran.said) (Some 0) came.left.X o meaning agree in
    let stand = ran.saved.are_in_vault refl in
    exhibits h o new save ran.saved.digests input are closed (ap (λ J. J.version) came.is.journal ∙ came.came.version) keeps.0 stand ran.saved.digests_read_back ran.saved.journal_is_encodable
    (c.digests_that_were_put_can_be_read.ensures.run h how clock Done save input (Some old) (Some new) taken_old taken_new ran)

pub returns-clause-step_behind : goal.returns-clause-step_behind
returns-clause-step_behind g c = λ h how clock J save input old new taken_old taken_new ran.
    let came = ran.came in
    let o = ran.output in
    let meaning = some_meaning h (c.histories_may_hash_so.ensures h statement_of) c.statements_have_such_a_meaning.ensures in
    let keeps = c.saved_files_keep_the_headline.ensures.step_behind h how clock J ran.said o came in
    let agree = of_run_behind meaning.0 o.journal.database (sessions_in (lines_of ran.said) (sessions_of ran.said)) None came.run.X o.journal.items o.digests (past_seen came.past) (keeps.1.replies_given meaning.0 meaning.1) in
    let are = accepted_behind h (sessions_in (lines_of ran.said) (sessions_of ran.said)) None (InOrderOfLinesBehind how.block_size (past_seen came.past) (lines_of ran.said) came.run.X o.journal.items) came.run.X o (past_seen came.past) keeps.1 in
    let closed = all_held h (sessions_in (lines_of ran.said) (sessions_of ran.said)) None came.run.X o meaning agree in
    let stand = ran.saved.are_in_vault refl in (
      exhibits h o new save ran.saved.digests input are closed (ap (λ J. J.version) came.is.journal ∙ came.came.version) keeps.0 stand ran.saved.digests_read_back ran.saved.journal_is_encodable
          (c.digests_that_were_put_can_be_read.ensures.step_behind h how clock J Done save input (Some old) (Some new) taken_old taken_new ran),
      accept_the_past h o new save ran.saved.digests J came.continues stand,
    )

pub returns-clause-run_behind : goal.returns-clause-run_behind
returns-clause-run_behind g c = λ h how clock J save input old new taken_old taken_new ran.
    let came = ran.came in
    let o = ran.output in
    let meaning = some_meaning h (c.histories_may_hash_so.ensures h statement_of) c.statements_have_such_a_meaning.ensures in
    let keeps = c.saved_files_keep_the_headline.ensures.run_behind h how clock J ran.said o came in
    let agree = of_run_behind meaning.0 o.journal.database (input_of ran.said) (Some 0) came.left.X o.journal.items o.digests (past_seen came.past) (keeps.1.replies_given meaning.0 meaning.1) in
    let are = accepted_behind h (input_of ran.said) (Some 0) (InOneOrderBehind (past_seen came.past) came.left.X o.journal.items) came.left.X o (past_seen came.past) keeps.1 in
    let closed = all_held h (input_of ran.said) (Some 0) came.left.X o meaning agree in
    let stand = ran.saved.are_in_vault refl in (
      exhibits h o new save ran.saved.digests input are closed (ap (λ J. J.version) came.is.journal ∙ came.came.version) keeps.0 stand ran.saved.digests_read_back ran.saved.journal_is_encodable
          (c.digests_that_were_put_can_be_read.ensures.run_behind h how clock J Done save input (Some old) (Some new) taken_old taken_new ran),
      accept_the_past h o new save ran.saved.digests J came.continues stand,
    )

pub returns-clause-replay : goal.returns-clause-replay
returns-clause-replay g c = λ h journal save old new puts fits name digests holds closed. record {
  image_is = record { there = puts.put; fits = fits };
  digests_are = holds;
  accepted = puts.accepted digests closed;
}

pub returns-clause-next_day : goal.returns-clause-next_day
returns-clause-next_day g c = λ h save input o file names J bytes x.
    next_day c.equal_bytes_are_of_equal_journals.ensures.equal h save input o file names x J bytes

pub returns-clause-same_image : goal.returns-clause-same_image
returns-clause-same_image g c = λ h save again input o file names after taken_old taken_new x.
    same_image c.equal_bytes_are_of_equal_journals.ensures.equal h save input o file names x again after taken_old taken_new

pub returns-clause-verify : goal.returns-clause-verify
returns-clause-verify g c = λ h names image digests bytes held status vault vault_then sink sink_then x tells ends.
    verify_says h names image digests bytes held x status _ _ _ _ tells ends

pub returns-clause-extract : goal.returns-clause-extract
returns-clause-extract g c = λ h names honest suspect digests bytes other held status vault vault_then sink sink_then x y accepted tells ends.
    extract_says h names honest suspect digests bytes other held x y accepted status _ _ _ _ tells ends
