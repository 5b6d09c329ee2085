-- Laws on the lines of rows.
use Rattle.std.proofs.Common.{Bool, false, refl, ◌≡◌, sym, ap, ◌∙◌, List, [], ◌∷◌, ◌++◌, map, append-nil, append_assoc, ℕ, ◌≤◌, length, get_or, drop, arith}
use Rattle.std.specs.Prelude.{flat_map}
use Rattle.sql_value.specs.declared.value.Value.{Value}
use Rattle.sql_value.specs.Printed.{printed}
use Rattle.sql_types.specs.declared.reply.Reply.{Reply}
use Rattle.sql_types.specs.declared.reply.Reply.TheVariants as r
use Rattle.spec_model.specs.Rows.{Row}
use Rattle.spec_model.specs.Replies.{reply_lines, row_line}
use Rattle.format_reply.specs.Lines.{behind_bars, line_of, lines_of}
use Rattle.format_reply.specs.Shown.{lines_in, row_text}

-- the first value, and the others behind bars
joined : (v : Value) (vs : List Value) → printed v ++ behind_bars vs ≡ row_line (v ∷ vs)
joined v [] = append-nil (printed v)
joined v (w ∷ ws) = ap (λ l. printed v ++ 124 ∷ l) (joined w ws)

pub joined_parts : (row : Row) (first : Value) → 1 ≤ length row → first ≡ get_or row 0 first → printed first ++ behind_bars (drop 1 row) ≡ row_line row
joined_parts [] first some is = absurd (omega arith)
joined_parts (v ∷ vs) first some is = ap (λ w. printed w ++ behind_bars vs) is ∙ joined v vs

pub counted : (indent : List ℕ) (escapes : Bool) (rows : List Row) (last : List ℕ)
    → flat_map (λ line. indent ++ line ++ 10 ∷ []) (map (row_text escapes) rows ++ last ∷ []) ≡ lines_of indent escapes rows ++ (indent ++ last ++ 10 ∷ [])
unfolding line_of
counted indent escapes [] last = append-nil (indent ++ last ++ 10 ∷ [])
counted indent escapes (r ∷ rs) last =
    ap (λ l. (indent ++ row_text escapes r ++ 10 ∷ []) ++ l) (counted indent escapes rs last)
    ∙ sym (append_assoc (indent ++ row_text escapes r ++ 10 ∷ []) (lines_of indent escapes rs) (indent ++ last ++ 10 ∷ []))

-- without escapes they are those of the reply
pub kept_lines : (reply : Reply) → lines_in false reply ≡ reply_lines reply
unfolding reply_lines
kept_lines (r.Begun id) = refl
kept_lines (r.Changed n) = refl
kept_lines (r.Rows rows) = refl
kept_lines r.Made = refl
kept_lines r.Saved = refl
kept_lines r.Back = refl
kept_lines (r.Digest block hash) = refl
kept_lines (r.Image items) = refl
kept_lines r.NoOutput = refl
kept_lines (r.Refused e) = refl
