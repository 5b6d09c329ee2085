-- The text of a reply: its lines, each ended by LF.
use Rattle.std.specs.Prelude.{ℕ, ◌+◌, ◌/◌, ◌%◌, List, [], ◌∷◌, ◌++◌, map, flat_map, length, codes}
use Rattle.std.specs.List.{join_with_byte}
use Rattle.std.specs.Fmt.{decimal}
use Rattle.hex.specs.Hex.{encode_upper}
use Rattle.sql_value.specs.declared.refusal.Refusal.{Refusal}
use Rattle.sql_value.specs.declared.refusal.Refusal.TheVariants.{Locked}
use Rattle.sql_value.specs.Refusal.{code_of}
use Rattle.sql_value.specs.Printed.{printed}
use Rattle.sql_types.specs.declared.reply.Reply.{Reply}
use Rattle.sql_types.specs.declared.reply.Reply.TheVariants as r
use Rattle.spec_model.specs.Rows.{Row}

-- the values, joined by vertical bars
abbrev pub row_line : Row → List ℕ
row_line row = join_with_byte 124 (map printed row)

-- E and two digits
abbrev pub code_line : ℕ → List ℕ
code_line code = 69 ∷ (48 + code / 10) ∷ (48 + code % 10) ∷ []

-- E20 names who holds the lock
abbrev pub refusal_line : Refusal → List ℕ
refusal_line (Locked holder) = codes "E20 " ++ decimal holder
refusal_line e = code_line (code_of e)

abbrev pub count_line : ℕ → List ℕ
count_line n = decimal n ++ codes " rows"

unfoldable pub reply_lines : Reply → List (List ℕ)
reply_lines (r.Begun id) = (codes "begun " ++ decimal id) ∷ []
reply_lines (r.Changed n) = count_line n ∷ []
reply_lines (r.Rows rows) = map row_line rows ++ count_line (length rows) ∷ []
reply_lines r.Made = codes "made" ∷ []
reply_lines r.Saved = codes "saved" ∷ []
reply_lines r.Back = codes "back" ∷ []
reply_lines (r.Digest block hash) =
    (codes "digest " ++ decimal block ++ codes " 0x" ++ encode_upper hash) ∷ []
reply_lines (r.Image items) = (codes "image " ++ decimal items) ∷ []
reply_lines r.NoOutput = []
reply_lines (r.Refused e) = refusal_line e ∷ []

unfoldable pub reply_text : Reply → List ℕ
reply_text reply = flat_map (λ line. line ++ 10 ∷ []) (reply_lines reply)
