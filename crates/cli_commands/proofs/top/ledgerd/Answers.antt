use Rattle.std.proofs.Common.{rules, ◌≡◌, Some, None, map}
use Rattle.std.specs.String.{string_bytes}
use Rattle.cli_audit.proofs.CallLemmas.{since_none}
use Rattle.cli_words.specs.Commands.{Step, Run, command_of}
use Rattle.cli_words.specs.Views.{settings_view}
use Rattle.cli_commands.proofs.TopLemmas.{no_calls, of_run, of_run_from, of_step, of_step_from}
use Rattle.cli_commands.proofs.top.ledgerd.Goals as goal

pub returns-in-Err-clause-calls : goal.returns-in-Err-clause-calls
returns-in-Err-clause-calls g c = since_none _ _ (no_calls _)

pub returns-in-Step-default-None-default-clause-ran : goal.returns-in-Step-default-None-default-clause-ran
returns-in-Step-default-None-default-clause-ran g c =
    let said : command_of (map string_bytes c.args.words.now) ≡ Some (Step c.in-Step-default-None-default.save.now None (settings_view c.in-Step-default-None-default.settings)) = search rules in
    of_step _ c.in-Step-default-None-default.save.now (settings_view c.in-Step-default-None-default.settings) _ said c.step.ensures.ran

pub returns-in-Step-default-Some-default-clause-ran_behind : goal.returns-in-Step-default-Some-default-clause-ran_behind
returns-in-Step-default-Some-default-clause-ran_behind g c =
    let said : command_of (map string_bytes c.args.words.now) ≡ Some (Step c.in-Step-default-Some-default.save.now (Some c.in-Step-default-Some-default.journal.now) (settings_view c.in-Step-default-Some-default.settings)) = search rules in
    of_step_from _ c.in-Step-default-Some-default.save.now c.in-Step-default-Some-default.journal.now (settings_view c.in-Step-default-Some-default.settings) _ said c.step_from.ensures.ran

pub returns-in-Run-default-None-default-clause-ran_all : goal.returns-in-Run-default-None-default-clause-ran_all
returns-in-Run-default-None-default-clause-ran_all g c =
    let said : command_of (map string_bytes c.args.words.now) ≡ Some (Run c.in-Run-default-None-default.save.now None (settings_view c.in-Run-default-None-default.settings)) = search rules in
    of_run _ c.in-Run-default-None-default.save.now (settings_view c.in-Run-default-None-default.settings) _ said c.run_side_by_side.ensures.ran

pub returns-in-Run-default-Some-default-clause-ran_all_behind : goal.returns-in-Run-default-Some-default-clause-ran_all_behind
returns-in-Run-default-Some-default-clause-ran_all_behind g c =
    let said : command_of (map string_bytes c.args.words.now) ≡ Some (Run c.in-Run-default-Some-default.save.now (Some c.in-Run-default-Some-default.journal.now) (settings_view c.in-Run-default-Some-default.settings)) = search rules in
    of_run_from _ c.in-Run-default-Some-default.save.now c.in-Run-default-Some-default.journal.now (settings_view c.in-Run-default-Some-default.settings) _ said c.run_from.ensures.ran
