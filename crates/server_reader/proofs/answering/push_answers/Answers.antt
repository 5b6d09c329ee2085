use Rattle.std.proofs.Common.{◌≡◌, ℕ, List, IfSome, map, subst}
use Rattle.sql_types.specs.declared.image.Image.{Image}
use Rattle.format_image.specs.ImageBytes.{IsImage, IsSpellingOf}
use Rattle.server_reader.specs.Answered.{whole_database}
use Rattle.server_reader.proofs.Replies.{are_answered}
use Rattle.server_reader.proofs.answering.push_answers.Goals as goal

pub returns : goal.returns
returns c =
    are_answered c.open_whole-opened.result c.args.name.now (map (λ t. t.now) c.args.texts.now) c.args.entries.now c.push_entries.new.entries c.args.images.now
    c.in-Some.field-0-1.now c.in-Some.kept.now c.in-Some.ensures
    (subst (λ (bytes : List ℕ). IfSome c.open_whole-opened.result (λ tables. (i : Image) → IsImage i → IsSpellingOf bytes i → tables ≡ whole_database i)) c.bytes.ensures c.open_whole-opened.ensures)
    c.in_ok-push_entries.ensures
