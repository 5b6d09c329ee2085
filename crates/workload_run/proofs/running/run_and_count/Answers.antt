use Rattle.std.proofs.Common.{◌≡◌, ap, arith, map, subst}
use Rattle.spec_syntax.specs.Text.{statement_of}
use Rattle.server_result.specs.Moments.{IsMoment}
use Rattle.server_run.specs.Held.{held}
use Rattle.workload_run.specs.Reports.{expected, TellsOfImage}
use Rattle.workload_run.proofs.Telling.{Laws, as_expected, tells_of}
use Rattle.workload_run.proofs.running.run_and_count.Goals as goal

pub returns : goal.returns
returns g c =
    let h = g.H.Hash32.digest c.args.hasher in
    let read = c.texts_are_read.ensures in
    let end = c.turns_come_to_one_end.ensures in
    let laws : Laws = record {
      reads = record { create = read.create; insert = read.insert; update = read.update };
      turns = c.runs_of_the_workload_take_turns.ensures;
      tables = end.tables;
      order = end.order;
    } in
    let written = c.readings_of_the_grammar_give_written.ensures.written statement_of c.readings_of_the_grammar_give_written.ensures.parser in
    let ran = c.in_ok-ran.ensures in
    let counts = rw c.in-Some.is at c.in_ok-report.ensures.counts in
    let all : c.in-Some.report.transactions ≡ (expected c.args.rows).transactions = omega (arith, c.if-report-statement_count.false, c.statement_count.ensures) in
    let told = subst (λ ds. TellsOfImage h counts.image ds c.in-Some.report) (ap (map held) ran.4.digests) counts.tells in (
      ran.0,
      ran.1,
      ran.2,
      ran.3,
      ran.4,
      counts,
      tells_of laws written c.legal_images_are_encodable.ensures h c.args.rows c.requires (IsMoment (λ at. at ≡ 0)) ran.0 ran.2 ran.1 ran.3.accepted ran.4.has_room c.in_ok-ran.ran.image ran.4.image counts.image counts.is_image counts.bytes c.in-Some.report told all,
      as_expected laws written c.legal_images_are_encodable.ensures h c.args.rows c.requires (IsMoment (λ at. at ≡ 0)) ran.0 ran.2 ran.1 ran.3.accepted ran.4.has_room c.in_ok-ran.ran.image ran.4.image counts.image counts.is_image counts.bytes c.in-Some.report told all,
    )
