use Rattle.std.proofs.Common.{◌≡◌, ℕ, List, arith, refl, sym, subst}
use Rattle.spec_model.specs.LegalJournals.{IsLegalJournal}
use Rattle.spec_syntax.specs.Text.{statement_of}
use Rattle.format_sections.specs.RunSections.{run_sections_view}
use Rattle.format_sections.specs.declared.all_sections.RunSections.{RunSections}
use Rattle.law_server.proofs.Servers.{some_server}
use Rattle.server_result.specs.Moments.{IsMoment, said_with}
use Rattle.law_behind.specs.Past.{Past}
use Rattle.law_concurrent.proofs.Said.{came_so}
use Rattle.server_thread.specs.ServedDatabase.{ServedDatabase}
use Rattle.server_thread.specs.Starts.{past_in}
use Rattle.server_run.specs.CameTo.{input_of}
use Rattle.server_result.specs.declared.ran.RunOutcome.{RunOutcome}
use Rattle.server_ending.specs.Closing.{HasLedger, StandBeside, StillStand}
use Rattle.server_run.specs.FinishedRun.{HasFinished}
use Rattle.server_thread.specs.Seated.{texts_in}
use Rattle.server_ending.specs.declared.finished.FinishedRun.{FinishedRun}
use Rattle.server_ending.proofs.Closings.{has_ledger}
use Rattle.server_run.proofs.Issued.{Laws}
use Rattle.server_run.proofs.Leaves.{cells_stand, is_closed, is_with_digests, joined_so, left_of}
use Rattle.server_run.proofs.Sizes.{are_runnable, few_sessions, size_is}
use Rattle.server_run.proofs.WholeRun.{finished_with}
use Rattle.server_run.proofs.running.run_and_close_behind.Goals as goal

pub run_over-requires-clause-runnable : goal.run_over-requires-clause-runnable
run_over-requires-clause-runnable g c κs within = are_runnable c.args.all_sections.now c.requires.few c.requires.names

pub run_over-requires-clause-numbers : goal.run_over-requires-clause-numbers
run_over-requires-clause-numbers g c κs within =
    let all_sections = c.args.all_sections.now in
    let all = size_is all_sections in let sessions = few_sessions all_sections.sessions.items in let few = c.requires.few in omega (arith, all, sessions, few)

-- the run of the plan on some server, and the cells and seats that it left
abbrev served : (h : List ℕ → List ℕ) (database : List ℕ) (size : ℕ) (past : Past) → ServedDatabase
served h database size past = record { server = (some_server h statement_of).0; database = database; size = size; past = past }

beside : (h : List ℕ → List ℕ) (database : List ℕ) (size : ℕ) (past : Past) (says : ℕ → Type 0) (all_sections : RunSections) (f : FinishedRun) (fin : HasFinished (served h database size past) says (texts_in all_sections.setup.items) all_sections.sessions.items f)
    → StandBeside h f.cells.items (served h database size past) fin.seats fin.j fin.s
beside h database size past says all_sections f fin = record { serves = (some_server h statement_of).1; stands = fin.stands; there = fin.there }

pub close_all-requires-after_bounds : goal.close_all-requires-after_bounds
close_all-requires-after_bounds g c κs within =
    let h = g.H.Hash32.digest c.args.hasher in
    let database = c.args.how.database.now in
    let size = c.args.how.block_size in
    let past = past_in c.args.cells.items in
    let says = said_with c.args.how.clock (g.C.Clock.says c.args.clock.now) in
    let fin = c.in_ok-finished.ensures in
    record {
      d = served h database size past;
      seats = fin.seats;
      j = fin.j;
      s = fin.s;
      stand = beside h database size past says c.args.all_sections.now c.in_ok-finished.finished fin;
    }

-- ---- the ledger is closed

module _ (h : List ℕ → List ℕ) (database : List ℕ) (size : ℕ) (past : Past) (says : ℕ → Type 0) (all_sections : RunSections) (f g : FinishedRun)
    (fin : HasFinished (served h database size past) says (texts_in all_sections.setup.items) all_sections.sessions.items f)
    (setup : g.setup ≡ f.setup) (ends : g.ends ≡ f.ends) (still : StillStand h f.cells.items g.cells.items) where
  then_beside : StandBeside h g.cells.items (served h database size past) fin.seats fin.j fin.s
  then_beside = still (served h database size past) fin.seats fin.j fin.s (beside h database size past says all_sections f fin)

  then_finished : HasFinished (served h database size past) says (texts_in all_sections.setup.items) all_sections.sessions.items g
  then_finished = finished_with (served h database size past) says (texts_in all_sections.setup.items) all_sections.sessions.items f g fin setup ends then_beside.stands

  then_ledger : HasLedger h g.cells.items
  then_ledger = has_ledger h g.cells.items (served h database size past) fin.seats fin.j fin.s then_beside

pub left_closed-requires-clause-stand : goal.left_closed-requires-clause-stand
left_closed-requires-clause-stand g c κs within =
    let h = g.H.Hash32.digest c.args.hasher in
    let database = c.args.how.database.now in
    let size = c.args.how.block_size in
    let past = past_in c.args.cells.items in
    let says = said_with c.args.how.clock (g.C.Clock.says c.args.clock.now) in
    let all_sections = c.args.all_sections.now in
    let f = c.in_ok-finished.finished in
    let closed : FinishedRun = record { cells = c.close_all.new.cells; setup = f.setup; ends = f.ends } in
    cells_stand h ((g.met.H.Hash32 g.world.𝓛 g.world.𝓜 g.world.𝓡 ((λ s x. x), (λ x. x), (λ x. x), λ x. x)).sized c.args.hasher)
    says all_sections (served h database size past) (some_server h statement_of).1 closed
    (then_finished h database size past says all_sections f closed c.in_ok-finished.ensures refl refl c.in_ok-close_all.ensures.stand)

pub left_closed-requires-clause-keeps : goal.left_closed-requires-clause-keeps
left_closed-requires-clause-keeps g c κs within =
    let h = g.H.Hash32.digest c.args.hasher in
    let f = c.in_ok-finished.finished in
    let closed : FinishedRun = record { cells = c.close_all.new.cells; setup = f.setup; ends = f.ends } in
    then_ledger h c.args.how.database.now c.args.how.block_size (past_in c.args.cells.items) (said_with c.args.how.clock (g.C.Clock.says c.args.clock.now)) c.args.all_sections.now f closed
    c.in_ok-finished.ensures refl refl c.in_ok-close_all.ensures.stand

pub returns : goal.returns
returns g c =
    let h = g.H.Hash32.digest c.args.hasher in
    let sized = (g.met.H.Hash32 g.world.𝓛 g.world.𝓜 g.world.𝓡 ((λ s x. x), (λ x. x), (λ x. x), λ x. x)).sized c.args.hasher in
    let database = c.args.how.database.now in
    let size = c.args.how.block_size in
    let past = past_in c.args.cells.items in
    let says = said_with c.args.how.clock (g.C.Clock.says c.args.clock.now) in
    let all_sections = c.args.all_sections.now in
    let f = c.in_ok-finished.finished in
    let closed : FinishedRun = record { cells = c.close_all.new.cells; setup = f.setup; ends = f.ends } in
    let fin = then_finished h database size past says all_sections f closed c.in_ok-finished.ensures refl refl c.in_ok-close_all.ensures.stand in
    let d = served h database size past in
    let serves = (some_server h statement_of).1 in
    let i = c.in_ok-ran.ensures in
    let issued = c.issued_digests_are_of_the_journal.ensures in
    let laws : Laws = record {
      meaning = issued.meaning;
      digest = issued.digest;
      are_held = c.digests_are_held_where_their_blocks_are_closed.ensures.agreed;
      verify = c.images_of_legal_journals_verify.ensures.whole;
    } in
    let joined = joined_so h sized says all_sections d serves closed fin i.before i.saved c.requires.database c.requires.names c.requires.apart in
    let left = left_of h sized says all_sections d serves closed fin i.before in
    let came = came_so h database size past (IsMoment says) (input_of (run_sections_view all_sections)) left joined c.runs_side_by_side_behind_a_past_agree.ensures.behind in
    let none = c.in_ok-close_all.ensures.none in
    let made = c.moment-made.result in
    let said = c.moment-made.ensures.said in (
      left,
      i.more,
      came,
      is_closed h sized says all_sections d serves closed fin i.before i.saved laws none made said i.more i.after i.issued came,
      is_with_digests h sized says all_sections d serves closed fin i.before i.saved laws none made said i.more i.after i.issued came (record { encodable = c.images_of_cuts_are_encodable.ensures; serially = c.snapshots_are_of_serial_runs.ensures.each }) c.in_ok-ran.ran i.is
          (c.is_encodable.ensures statement_of (subst (λ (r : RunOutcome). IsLegalJournal statement_of r.journal) (sym i.is) came.legal)),
    )
