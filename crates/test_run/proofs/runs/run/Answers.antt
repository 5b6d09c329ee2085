use Rattle.std.proofs.Common.{refl}
use Rattle.base_types.specs.DatabaseName.{is_database_name}
use Rattle.test_run.proofs.runs.run.Goals as goal

pub run_all-requires-clause-database : goal.run_all-requires-clause-database
unfolding is_database_name
run_all-requires-clause-database g c κs within = refl
