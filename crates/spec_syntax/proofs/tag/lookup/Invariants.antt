use Rattle.std.proofs.Common.{◌≡◌, length, map}
use Rattle.spec_syntax.specs.Tags.{lookup}
use Rattle.spec_syntax.proofs.tag.lookup.Given as goal

abbrev pub invariant-loop-table : goal.invariant-loop-table
invariant-loop-table l = lookup (map (λ k. (k.0.now, k.1)) l.table) l.word l.other ≡ lookup (map (λ k. (k.0.now, k.1)) l.initial.table) l.word l.other

abbrev pub decreases-loop-table : goal.decreases-loop-table
decreases-loop-table l = length l.table
