use Rattle.std.proofs.Common.{ap, ◌∙◌, rules}
use Rattle.sql_types.specs.declared.reply.Reply.{Reply}
use Rattle.server_session.specs.Stages.{unsaid}
use Rattle.server_visit_ledger.specs.LedgerMoves.{moved}
use Rattle.server_session.specs.declared.stage.ControlPoint.TheVariants.{Inside}
use Rattle.server_visit_ledger.proofs.Ledger.{keeps_there}
use Rattle.server_visit_ledger.proofs.LedgerIssues.{issues_it}
use Rattle.server_visit_ledger.proofs.ledger_issue.issue_digest.Goals as goal

pub digest-issued-requires : goal.digest-issued-requires
digest-issued-requires g c = (search rules, (search rules, keeps_there g.H.Hash32.digest c.args.seat.now c.args.ledger.now c.requires.among))

pub returns : goal.returns
returns g c = issues_it g.H.Hash32.digest c.args.seat.now c.answer_unsaid.new.seat c.args.ledger.now c.digest-issued.new.self c.requires.work c.digest-issued.result c.requires.few
    c.digest-issued.ensures.ok c.digest-issued.ensures.no_block c.digest-issued.ensures.unchanged (c.digest-issued.ensures.kept c.requires.few) c.digest-issued.ensures.hash
    (c.answer_unsaid.ensures ∙ ap (λ (r : Reply). moved c.args.seat.now c.args.seat.now.running (Inside (unsaid r))) c.digest_reply.ensures) c.requires.among
