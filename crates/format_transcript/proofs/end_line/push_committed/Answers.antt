use Rattle.std.proofs.Common.{◌∙◌, ◌++◌, ap, append_assoc, string_bytes}
use Rattle.format_transcript.proofs.end_line.push_committed.Goals as goal

pub returns : goal.returns
returns c = c.in_ok-write.ensures.bytes ∙ ap (λ l. string_bytes c.args.transcript.now ++ l) (simp append_assoc)
