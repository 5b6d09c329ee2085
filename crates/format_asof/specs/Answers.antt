-- Answers, as they are written.
use Rattle.std.specs.Prelude.{ℕ, List, [], ◌∷◌, ◌++◌, codes, flat_map}
use Rattle.sql_types.specs.declared.reply.Reply.TheVariants as reply
use Rattle.format_reply.specs.Shown.{indented, shown_lines}
use Rattle.spec_asof.specs.declared.reply.AsOfReply.{AsOfReply}
use Rattle.spec_asof.specs.declared.reply.AsOfReply.TheVariants.{Rows, Refused, NotSelect}

-- the lines of rows or of a refusal, as a transcript has them; a statement that is no SELECT is E21
abbrev pub answer_lines : AsOfReply → List (List ℕ)
answer_lines (Rows rows) = shown_lines (reply.Rows rows)
answer_lines (Refused e) = shown_lines (reply.Refused e)
answer_lines NotSelect = codes "E21" ∷ []

-- the text, and behind it the lines of its answer
abbrev pub answer_text : List ℕ → AsOfReply → List ℕ
answer_text text answer = (text ++ 10 ∷ []) ++ flat_map indented (answer_lines answer)
