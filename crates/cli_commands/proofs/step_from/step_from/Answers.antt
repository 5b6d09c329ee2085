use Rattle.std.proofs.Common.{Option, ap, ◌∙◌, subst}
use Rattle.base_io.specs.Count.{Rises}
use Rattle.base_io.specs.Store.{Names}
use Rattle.cli_audit.proofs.CallLemmas.{since_none}
use Rattle.cli_audit.proofs.PastLemmas.{run_gets}
use Rattle.cli_commands.specs.Answer.{Saves}
use Rattle.cli_commands.specs.Input.{line_form}
use Rattle.cli_commands.proofs.StartLemmas.{came_so, cause_behind, is_behind_input, ran_behind, read_behind, reads_behind, started_under, writes_lacking}
use Rattle.cli_commands.proofs.step_from.step_from.Goals as goal

-- no run starts

pub returns-in-Err-clause-writes : goal.returns-in-Err-clause-writes
returns-in-Err-clause-writes g c = since_none _ _ (writes_lacking c.args.journal.now _ _ _ _ c.in-Err.status c.in-Err.ensures.lacks)

-- one does

pub returns-clause-cause : goal.returns-clause-cause
returns-clause-cause g c =
    cause_behind line_form c.args.journal.now _ _ c.in-Ok.both.1.items _ _ _ _ (started_under _ _ _ _ _ _ c.in-Ok.ensures.starts) c.in-Ok.ensures.came
    (λ r. subst (λ n. Rises n (g.V.Vault.faults c.run_and_save.new.vault)) c.in-Ok.ensures.calm.1 r)
    c.run_and_save.result (rw c.deref.ensures.value at c.run_and_save.ensures.cause)

pub returns-clause-read : goal.returns-clause-read
returns-clause-read g c =
    read_behind c.run_and_save.result (is_behind_input line_form c.run_and_save.result _ _ _ c.run_and_save.ensures.cause) _ _ c.in-Ok.both.1.items
    c.in-Ok.ensures.came c.in-Ok.ensures.within c.in-Ok.ensures.rest

pub returns-clause-reads : goal.returns-clause-reads
returns-clause-reads g c =
    reads_behind c.run_and_save.result (is_behind_input line_form c.run_and_save.result _ _ _ c.run_and_save.ensures.cause) _ _ c.in-Ok.ensures.all_reads

pub returns-clause-calls : goal.returns-clause-calls
returns-clause-calls g c =
    run_gets _ _ _ 1 c.run_and_save.result (is_behind_input line_form c.run_and_save.result _ _ _ c.run_and_save.ensures.cause) c.in-Ok.ensures.gave c.run_and_save.ensures.puts

pub returns-clause-ran : goal.returns-clause-ran
returns-clause-ran g c =
    let under = c.in-Ok.ensures.starts in
    let same = c.start_and_read.ensures.same in
    ran_behind c.run_and_save.result (is_behind_input line_form c.run_and_save.result _ _ _ c.run_and_save.ensures.cause) _ _ _ _
    (λ ran. record {
      J = under.J;
      bytes = under.bytes;
      is_in_vault = under.is_in_vault;
      spelled = under.spelled;
      such = record {
        said = ran.said;
        output = ran.output;
        within = came_so _ c.in-Ok.both.1.items _ c.in-Ok.ensures.came (rw c.deref.ensures.value at ran.within);
        came = ran.came;
        saved = subst (λ (n : Option Names). Saves c.run_and_save.result c.args.save.now ran.output n (g.V.Vault.names c.run_and_save.new.vault) (g.K.Sink.taken c.args.sink.now) (g.K.Sink.taken c.run_and_save.new.sink)) same ran.saved;
      };
    })
    (λ idle. (ap g.V.Vault.names idle.0 ∙ same, idle.1))
    (c.run_and_save.ensures.ran under.J under.such)
