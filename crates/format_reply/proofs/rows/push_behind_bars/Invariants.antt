use Rattle.std.proofs.Common.{◌≡◌, ◌++◌, drop, string_bytes}
use Rattle.format_reply.specs.Lines.{behind_bars}
use Rattle.format_reply.proofs.rows.push_behind_bars.Given as goal

abbrev pub invariant-loop-value : goal.invariant-loop-value
invariant-loop-value l = string_bytes l.text ++ behind_bars (drop l.value-index l.values) ≡ string_bytes l.fn.text ++ behind_bars l.values
