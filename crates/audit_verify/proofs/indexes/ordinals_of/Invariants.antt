use Rattle.std.proofs.Common.{◌≡◌, ◌++◌, suc, map, take}
use Rattle.audit_verify.proofs.indexes.ordinals_of.Given as goal

abbrev pub invariant-loop-ordinal : goal.invariant-loop-ordinal
invariant-loop-ordinal l = l.ordinals.items ≡ take l.ordinal-index l.index.ordinals

abbrev pub invariant-loop-place : goal.invariant-loop-place
invariant-loop-place l = l.ordinals.items ≡ l.index.ordinals ++ map suc (take l.place-index l.key)
