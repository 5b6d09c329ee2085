use Rattle.std.proofs.Common.{◌≡◌, drop}
use Rattle.audit_extract.specs.Each.{last_from}
use Rattle.audit_extract.proofs.each.last_from.Given as goal

-- the last one so far stands for those behind it
abbrev pub invariant-loop-digest : goal.invariant-loop-digest
invariant-loop-digest l = last_from l.last (drop l.digest-index l.rest) ≡ last_from l.first l.rest
