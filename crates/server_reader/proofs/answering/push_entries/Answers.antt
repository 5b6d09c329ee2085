use Rattle.std.proofs.Common.{map, subst}
use Rattle.std.proofs.lemmas.List.{take_all}
use Rattle.server_reader.specs.Answered.{AreRepliesBehind}
use Rattle.server_reader.proofs.Replies.{none_yet, one_more, one_text_more}
use Rattle.server_reader.proofs.answering.push_entries.Goals as goal

pub loop-text-init : goal.loop-text-init
loop-text-init c = none_yet c.args.opened.now c.args.name.now c.args.entries.now

pub loop-text-preserved : goal.loop-text-preserved
loop-text-preserved c =
    one_more c.args.opened.now c.args.name.now _ _ c.args.entries.now _ _ _ c.answer_over-reply.result c.in_ok-entry.entry
    c.loop-text.invariant c.answer_over-reply.ensures c.in_ok-entry.ensures c.in_ok-push.ensures.ok
    (one_text_more c.args.texts.now c.loop-text.text-index _ c.loop-text-test.true)

pub returns : goal.returns
returns c =
    subst (λ texts. AreRepliesBehind c.args.opened.now c.args.name.now (map (λ t. t.now) texts) c.args.entries.now c.loop-text.entries)
    (take_all c.loop-text.text-index c.args.texts.now c.loop-text-test.false) c.loop-text.invariant
