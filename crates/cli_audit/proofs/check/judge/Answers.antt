use Rattle.cli_audit.proofs.CheckLemmas.{judged_on, lacks_check}
use Rattle.cli_audit.proofs.check.judge.Goals as goal

pub returns-clause-checked : goal.returns-clause-checked
returns-clause-checked g c =
    judged_on c.args.bytes.now c.args.digests.now c.in_ok-receipt.receipt c.in_ok-receipt.ensures.spelled (g.H.Hash32.digest c.args.h) c.judge_receipt-answer.result c.judge_receipt-answer.ensures.checked

pub returns-clause-lacks : goal.returns-clause-lacks
returns-clause-lacks g c =
    lacks_check c.args.bytes.now c.args.digests.now c.in_ok-receipt.receipt c.in_ok-receipt.ensures.spelled c.judge_receipt-answer.result c.judge_receipt-answer.ensures.refused
