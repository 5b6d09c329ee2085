use Rattle.std.proofs.Common.{rules}
use Rattle.format_image.proofs.ProperNames.{history_utf8}
use Rattle.format_image.proofs.read_definitions.named_at.Goals as goal

pub of-requires : goal.of-requires
of-requires c = history_utf8 c.in_ok-kind.kind c.in_ok-history.history.now (search rules)
