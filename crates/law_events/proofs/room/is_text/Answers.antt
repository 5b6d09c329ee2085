use Rattle.law_events.proofs.Texts.{utf8_text}
use Rattle.law_events.proofs.room.is_text.Goals as goal

pub returns-in-Text : goal.returns-in-Text
returns-in-Text c = rw c.in-Text.is (utf8_text _ c.as_str.ensures.utf8)
