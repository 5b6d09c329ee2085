-- The lines of a reply as transcripts and answers show them: a value in a row has no line of its own.
use Rattle.std.specs.Prelude.{ℕ, Bool, true, ◌==◌, ◌||◌, if◌then◌else◌, List, [], ◌∷◌, ◌++◌, codes, flat_map, length, map}
use Rattle.sql_types.specs.declared.reply.Reply.{Reply}
use Rattle.sql_types.specs.declared.reply.Reply.TheVariants.{Rows}
use Rattle.spec_model.specs.Replies.{count_line, reply_lines, row_line}
use Rattle.spec_model.specs.Rows.{Row}

-- LF, CR and `\` are written as `\n`, `\r` and `\\`
abbrev pub escaped_byte : ℕ → List ℕ
escaped_byte b =
    if b == 10 then 92 ∷ 110 ∷ [] else if b == 13 then 92 ∷ 114 ∷ [] else if b == 92 then 92 ∷ 92 ∷ [] else b ∷ []

unfoldable pub escaped : List ℕ → List ℕ
escaped line = flat_map escaped_byte line

-- the text of a row, escaped or as journals keep it
abbrev pub row_text : Bool → Row → List ℕ
row_text escapes row = if escapes then escaped (row_line row) else row_line row

-- the lines of a reply, those of rows escaped or as journals keep them
abbrev pub lines_in : Bool → Reply → List (List ℕ)
lines_in escapes (Rows rows) = map (row_text escapes) rows ++ count_line (length rows) ∷ []
lines_in escapes reply = reply_lines reply

-- the lines of a reply as they are shown
abbrev pub shown_lines : Reply → List (List ℕ)
shown_lines reply = lines_in true reply

-- behind two blanks, and ended by LF
abbrev pub indented : List ℕ → List ℕ
indented line = codes "  " ++ line ++ 10 ∷ []

-- ---- reading back

abbrev pub is_line_end : ℕ → Bool
is_line_end b = b == 10 || b == 13

-- what a byte behind `\` stands for
abbrev pub behind_backslash : ℕ → ℕ
behind_backslash b = if b == 110 then 10 else if b == 114 then 13 else b

-- the line of which this is the escaped form
abbrev pub unescaped : List ℕ → List ℕ
unescaped [] = []
unescaped (b ∷ []) = b ∷ []
unescaped (b ∷ c ∷ rest) = if b == 92 then behind_backslash c ∷ unescaped rest else b ∷ unescaped (c ∷ rest)
