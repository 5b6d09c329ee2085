use Rattle.std.proofs.Common.{List, map, refl, ap₂}
use Rattle.spec_history.specs.Lists.{Text}
use Rattle.spec_history.specs.Transcripts.{Entry}
use Rattle.format_transcript.specs.TranscriptText.{entry_text}
use Rattle.server_engine.proofs.LastAnswers.{answer_has}
use Rattle.server_engine.proofs.session.Session.answer.Goals as goal

pub returns : goal.returns
returns g c =
    let e = c.end_statement.ensures in record {
      answered = e.answered;
      between = e.between;
      started = e.started;
      name = e.name;
      entries = refl;
      answer = ap₂ (λ (n : Text) (es : List Entry). map (entry_text n) es) e.name e.left;
      lies = answer_has c.args.self.now.seat c.end_statement.result c.end_statement.new.self.running c.requires.answers e.left;
      last = refl;
      images = refl;
    }
