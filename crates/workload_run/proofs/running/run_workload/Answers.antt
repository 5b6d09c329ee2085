use Rattle.workload_run.proofs.running.run_workload.Goals as goal

pub returns : goal.returns
returns g c =
    let e = c.in_ok-run_and_count.ensures in
    (e.0, e.1, e.2, e.3, e.6, e.7)
