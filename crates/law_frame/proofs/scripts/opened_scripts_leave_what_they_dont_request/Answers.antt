use Rattle.law_frame.proofs.LeftScripts.{script_leaves_key, script_leaves_table}
use Rattle.law_frame.proofs.scripts.opened_scripts_leave_what_they_dont_request.Goals as goal

pub returns : goal.returns
returns c = record {
  keys = λ reads T tx id key texts sound h. script_leaves_key tx T id key reads texts sound h;
  tables = λ reads T tx id texts h. script_leaves_table tx T id reads texts h;
}
