use Rattle.server_run.proofs.Named.{setup_named}
use Rattle.server_run.proofs.whole.run_setup.Goals as goal

pub session_job-requires-clause-name : goal.session_job-requires-clause-name
session_job-requires-clause-name g c κs within = setup_named
