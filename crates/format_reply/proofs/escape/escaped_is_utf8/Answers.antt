use Rattle.std.proofs.Common.{IsUtf8, subst}
use Rattle.format_reply.proofs.Escapes.{escaped_utf8}
use Rattle.format_reply.proofs.escape.escaped_is_utf8.Goals as goal

pub returns : goal.returns
returns c = escaped_utf8 c.args.text.now (subst IsUtf8 c.as_bytes.ensures.value c.as_bytes.ensures.utf8)
