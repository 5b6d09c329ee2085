use Rattle.std.proofs.Common.{◌≡◌, ◌++◌, drop}
use Rattle.format_reply.specs.Shown.{escaped}
use Rattle.format_reply.proofs.escape.escaped_bytes.Given as goal

abbrev pub invariant-loop-byte : goal.invariant-loop-byte
invariant-loop-byte l = l.escaped.items ++ escaped (drop l.byte-index l.text) ≡ escaped l.text
