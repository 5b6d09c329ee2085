use Rattle.std.proofs.Common.{◌++◌, ◌∙◌, List, Option, map, ap, ap₂, sym, subst}
use Rattle.spec_history.specs.EndSeen.{line_seen}
use Rattle.spec_history.specs.Lists.{Text}
use Rattle.spec_history.specs.Transcripts.{Entry}
use Rattle.format_transcript.specs.TranscriptText.{entry_text}
use Rattle.server_session.specs.Steps.{last_entries}
use Rattle.server_session.specs.declared.answer.LastAnswer.{LastAnswer}
use Rattle.server_engine.specs.Written.{IsApart, answer_entries, apart_from}
use Rattle.server_engine.proofs.LastAnswers.{is_apart, same_apart}
use Rattle.server_engine.proofs.session.Session.finish.Goals as goal

pub returns-clause-shown : goal.returns-clause-shown
returns-clause-shown g c =
    let y = c.args.self.now in
    let z = c.finish-said.new.self in
    let last = c.apart_from.ensures ∙ ap (λ (l : Option LastAnswer). apart_from l c.finish-said.result) c.take.ensures.value in
    ap₂ (λ (n : Text) (es : List Entry). (y.entries ++ map (entry_text n) es) ++ map (entry_text n) (last_entries (line_seen y.last))) c.finish-said.ensures.name
    (ap (λ (l : Option LastAnswer). answer_entries l z.running) last ∙ same_apart y.answer c.finish-said.result y.seat.running z.running c.finish-said.ensures.said)

pub returns-clause-apart : goal.returns-clause-apart
returns-clause-apart g c = subst IsApart (sym c.apart_from.ensures) (is_apart _ c.finish-said.result)
