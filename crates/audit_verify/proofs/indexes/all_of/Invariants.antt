use Rattle.std.proofs.Common.{◌≡◌, map, take}
use Rattle.audit_verify.proofs.indexes.all_of.Given as goal

abbrev pub invariant-loop-version : goal.invariant-loop-version
invariant-loop-version l = map (λ v. v.now) l.found.items ≡ take l.version-index l.versions
