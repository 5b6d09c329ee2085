use Rattle.format_reply.proofs.Escapes.{alike, back, one_line}
use Rattle.format_reply.proofs.laws.shown_rows_are_read_back.Goals as goal

pub returns : goal.returns
returns c = record { one_line = one_line; back = back; alike = alike }
