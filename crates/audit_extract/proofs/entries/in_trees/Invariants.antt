use Rattle.std.proofs.Common.{length}
use Rattle.std.specs.List.{AllByRecursion}
use Rattle.audit_extract.specs.Leaves.{HasRoots, SameTrees}
use Rattle.audit_extract.proofs.entries.in_trees.Given as goal

abbrev pub invariant-loop-rest : goal.invariant-loop-rest
invariant-loop-rest g l = record {
  roots_a : AllByRecursion (HasRoots (g.H.Hash32.digest l.fn.h) l.a) l.rest;
  roots_b : AllByRecursion (HasRoots (g.H.Hash32.digest l.fn.h) l.b) l.rest;
  whole : AllByRecursion (SameTrees l.a l.b) l.rest → AllByRecursion (SameTrees l.a l.b) l.entries;
  part : AllByRecursion (SameTrees l.a l.b) l.entries → AllByRecursion (SameTrees l.a l.b) l.rest;
}

abbrev pub decreases-loop-rest : goal.decreases-loop-rest
decreases-loop-rest g l = length l.rest
