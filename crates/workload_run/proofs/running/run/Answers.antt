use Rattle.std.proofs.Common.{◌≡◌, ◌∙◌, List, IfOk, codes, subst}
use Rattle.sql_types.specs.declared.digest.Digest.{Digest}
use Rattle.format_sections.specs.RunSections.{RunSections, run_sections_view}
use Rattle.server_run.specs.CameTo.{CameTo, IsClosed, IsOf, and_digests}
use Rattle.server_run.specs.Agreed.{RunResult}
use Rattle.workload_run.proofs.RunSectionsFit.{apart, database_is_named, few, named}
use Rattle.workload_run.proofs.running.run.Goals as goal

pub run_and_close-requires-clause-database : goal.run_and_close-requires-clause-database
run_and_close-requires-clause-database g c κs within = database_is_named

pub run_and_close-requires-clause-names : goal.run_and_close-requires-clause-names
run_and_close-requires-clause-names g c κs within = named (run_sections_view c.in_ok-all_sections.all_sections) c.args.rows (c.in_ok-all_sections.ensures ∙ c.in_ok-texts.ensures)

pub run_and_close-requires-clause-apart : goal.run_and_close-requires-clause-apart
run_and_close-requires-clause-apart g c κs within = apart (run_sections_view c.in_ok-all_sections.all_sections) c.args.rows (c.in_ok-all_sections.ensures ∙ c.in_ok-texts.ensures)

pub run_and_close-requires-clause-few : goal.run_and_close-requires-clause-few
run_and_close-requires-clause-few g c κs within =
    few (run_sections_view c.in_ok-all_sections.all_sections) c.args.rows (c.in_ok-all_sections.ensures ∙ c.in_ok-texts.ensures) c.requires (λ table n. c.statements_law.ensures.count table n)

pub returns : goal.returns
returns g c =
    let h = g.H.Hash32.digest c.args.hasher in
    subst (λ (p : RunSections). IfOk c.run_and_close.result (λ ran. (left : RunResult) × (more : List Digest) × CameTo h (codes "LedgerDB") 100 (λ at. at ≡ 0) p left × IsClosed h (λ at. at ≡ 0) left more × IsOf h p (and_digests left more) ran))
    (c.in_ok-all_sections.ensures ∙ c.in_ok-texts.ensures) c.run_and_close.ensures
