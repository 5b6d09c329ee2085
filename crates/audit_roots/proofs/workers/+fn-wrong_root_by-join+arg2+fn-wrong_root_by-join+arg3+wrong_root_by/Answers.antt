use Rattle.std.proofs.Common.{rules, arith, refl, ◌+◌, ◌-◌, map}
use Rattle.audit_roots.specs.ImageTable.{table_of}
use Rattle.audit_roots.proofs.WrongRoots.{wrong_in_both}
use Rattle.audit_roots.proofs.workers.+fn-wrong_root_by-join+arg2+fn-wrong_root_by-join+arg3+wrong_root_by.Goals as goal

pub returns : goal.returns
returns g t c =
    let front = c.clamp-front.result in
    wrong_in_both (g.H.Hash32.digest c.args.hasher) (map table_of c.args.tables.now) c.args.marks.now c.args.entries.now
    c.args.from front (c.args.count - front) (c.args.from + front) c.args.count
    c.in_ok-first.field-0 c.in_ok-second.field-0 c.first_root.result (search rules) (search rules) c.first_root.ensures
    (omega (arith, c.requires.within, c.clamp-front.ensures, c.if-count-le1.false)) refl (omega (arith, c.clamp-front.ensures, c.if-count-le1.false))
