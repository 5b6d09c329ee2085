use Rattle.std.proofs.Common.{length}
use Rattle.std.specs.List.{AllByRecursion}
use Rattle.audit_extract.specs.Leaves.{IsRooted, SameTree}
use Rattle.audit_extract.proofs.entries.in_tables.Given as goal

abbrev pub invariant-loop-rest : goal.invariant-loop-rest
invariant-loop-rest g l = record {
  roots_a : AllByRecursion (IsRooted (g.H.Hash32.digest l.fn.h) l.a l.tx) l.rest;
  roots_b : AllByRecursion (IsRooted (g.H.Hash32.digest l.fn.h) l.b l.tx) l.rest;
  whole : AllByRecursion (SameTree l.a l.b l.tx) l.rest → AllByRecursion (SameTree l.a l.b l.tx) l.roots;
  part : AllByRecursion (SameTree l.a l.b l.tx) l.roots → AllByRecursion (SameTree l.a l.b l.tx) l.rest;
}

abbrev pub decreases-loop-rest : goal.decreases-loop-rest
decreases-loop-rest g l = length l.rest
