use Rattle.std.proofs.Common.{rules}
use Rattle.format_image.proofs.ProperNames.{proper_utf8}
use Rattle.format_image.proofs.read_definitions.name_at.Goals as goal

pub of-requires : goal.of-requires
of-requires c = proper_utf8 c.in_ok-name.name.now (search rules)
