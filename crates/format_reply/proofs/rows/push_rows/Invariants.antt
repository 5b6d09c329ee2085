use Rattle.std.proofs.Common.{◌≡◌, ◌++◌, drop, string_bytes}
use Rattle.format_reply.specs.Lines.{lines_of}
use Rattle.format_reply.proofs.rows.push_rows.Given as goal

abbrev pub invariant-loop-row : goal.invariant-loop-row
invariant-loop-row l =
    string_bytes l.text ++ lines_of l.form.indent.now l.form.escapes (drop l.row-index l.rows)
    ≡ string_bytes l.fn.text ++ lines_of l.form.indent.now l.form.escapes l.rows
