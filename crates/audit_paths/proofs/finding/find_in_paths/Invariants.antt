use Rattle.audit_paths.proofs.Descending.{Sought}
use Rattle.audit_paths.proofs.Lower.{Ways}
use Rattle.audit_paths.proofs.finding.find_in_paths.Given as goal

abbrev pub invariant-halves : goal.invariant-halves
invariant-halves g l =
    Sought (g.H.Hash32.digest l.fn.h) l.place l.count l.a_leaf l.a_path l.b_leaf l.b_path
    × Ways (g.H.Hash32.digest l.fn.h) l.fn.place l.fn.count l.a_leaf l.fn.a.1.now l.b_leaf l.fn.b.1.now l.place l.count l.a_path l.b_path

abbrev pub decreases-halves : goal.decreases-halves
decreases-halves g l = l.count
