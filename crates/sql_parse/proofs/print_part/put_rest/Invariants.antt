use Rattle.std.proofs.Common.{◌≡◌, length}
use Rattle.spec_syntax.specs.Page.{write}
use Rattle.spec_syntax.specs.Printed as part
use Rattle.sql_parse.proofs.print_part.put_rest.Given as goal

abbrev pub invariant-loop-item : goal.invariant-loop-item
invariant-loop-item g l = write l.fn.page (part.rest_listed g.T.Print.tokens l.fn.items) ≡ write l.page (part.rest_listed g.T.Print.tokens l.rest)

abbrev pub decreases-loop-item : goal.decreases-loop-item
decreases-loop-item g l = length l.rest
