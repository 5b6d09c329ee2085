-- The texts of a transcript that gains an entry.
use Rattle.std.proofs.Common.{◌≡◌, ap, List, [], ◌∷◌, ◌++◌, map, refl}
use Rattle.spec_history.specs.Lists.{Text}
use Rattle.spec_history.specs.Transcripts.{Entry}
use Rattle.format_transcript.specs.TranscriptText.{entry_text}
use Rattle.server_engine.specs.Standing.{entry_texts}

-- with these entries besides
pub text_more : (name : Text) (entries more : List Entry) → entry_texts (record { session = name; entries = entries ++ more }) ≡ entry_texts (record { session = name; entries = entries }) ++ map (entry_text name) more
text_more name [] more = refl
text_more name (e ∷ entries) more = ap (λ (texts : List Text). entry_text name e ∷ texts) (text_more name entries more)
