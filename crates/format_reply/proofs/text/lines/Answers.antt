use Rattle.std.proofs.Common.{◌≡◌, ◌∙◌, ◌++◌, ◌∷◌, [], subst, append_assoc, append-nil, IfOk, string_bytes, length}
use Rattle.spec_model.specs.Replies.{reply_lines, count_line}
use Rattle.format_reply.specs.Lines.{lines_of}
use Rattle.format_reply.proofs.Lines.{counted}
use Rattle.format_reply.proofs.text.lines.Goals as goal

pub returns-in_ok-format-in-Begun : goal.returns-in_ok-format-in-Begun
unfolding reply_lines
returns-in_ok-format-in-Begun c = rw c.in-Begun.is (c.in_ok-format-in-Begun.ensures.ok ∙ simp (append_assoc, append-nil))

pub returns-in_ok-format-in-Changed : goal.returns-in_ok-format-in-Changed
unfolding reply_lines
returns-in_ok-format-in-Changed c = rw c.in-Changed.is (c.in_ok-format-in-Changed.ensures.ok ∙ simp (append_assoc, append-nil))

pub returns-in_ok-format-in-Image : goal.returns-in_ok-format-in-Image
unfolding reply_lines
returns-in_ok-format-in-Image c = rw c.in-Image.is (c.in_ok-format-in-Image.ensures.ok ∙ simp (append_assoc, append-nil))

pub returns-in-Rows : goal.returns-in-Rows
unfolding reply_lines
returns-in-Rows c =
    let indent = c.args.indent.now in
    let escapes = c.args.escapes in
    let rows = c.in-Rows.rows in
    rw (c.in-Rows.is, counted indent escapes rows (count_line (length rows)))
    (subst (λ rows. IfOk c.rows_with_count.result (λ text. string_bytes text ≡ lines_of indent escapes rows ++ (indent ++ count_line (length rows) ++ 10 ∷ []))) c.as_slice.ensures c.rows_with_count.ensures)
