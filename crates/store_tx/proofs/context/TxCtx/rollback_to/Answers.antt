use Rattle.std.proofs.Common.{◌-◌, List, take, Ok, refl, sym, ap, subst, arith, rules}
use Rattle.base_merkle.specs.declared.frontier.FrontierMark.{FrontierMark}
use Rattle.spec_protocol.specs.Answering.{savepoints_from}
use Rattle.spec_protocol.specs.Seats.{OpenSavepoint}
use Rattle.store_tx.specs.Trees.{tables_of, mark_of, IsMark}
use Rattle.store_tx.specs.Represents.{RepresentSavepoints}
use Rattle.store_tx.specs.declared.savepoint.Savepoint.{Savepoint}
use Rattle.store_tx.proofs.Trees.{open_by_tables}
use Rattle.store_tx.proofs.Represented.{went_back, some_kept}
use Rattle.store_tx.proofs.context.TxCtx.rollback_to.Goals as goal

pub returns-clause-back : goal.returns-clause-back
returns-clause-back g c = λ h o f fs r e.
    let hash = g.H.Hash32.digest h in
    let tables = tables_of c.args.self.now.trees.items in
    let keep = subst (λ (ss : List Savepoint). RepresentSavepoints hash tables ss o.open_savepoints → RepresentSavepoints hash tables (take c.kept_by-kept.result ss) (savepoints_from c.args.name.now o.open_savepoints))
    c.deref.ensures.value (c.kept_by-kept.ensures.kept hash tables o.open_savepoints) r.open_savepoints in
    let w = went_back g.H.Hash32.digest h c.args.self.now _ o f fs c.index-savepoint.result.now c.kept_by-kept.result (c.kept_by-kept.result - 1)
    (record { hasher = refl; id = refl; explicit = refl }) (omega (arith, c.if-kept-eq0.false)) (search rules) c.truncate.ensures.items c.index-savepoint.ensures refl
    (λ id leaves before k l. c.restore_all.ensures.leaves id leaves before k
    (subst (λ (ms : List FrontierMark). IsMark (g.H.Hash32.digest c.args.self.now.hasher) (mark_of id tables ms) before) (sym c.deref-2.ensures.value) l))
    c.restore_all.ensures.tables (subst (λ (l : List OpenSavepoint). RepresentSavepoints hash tables (take c.kept_by-kept.result c.args.self.now.savepoints.items) l) e keep) r in
    (ap Ok w.0, w.1)

pub returns-clause-none : goal.returns-clause-none
returns-clause-none g c = λ h o r e.
    let hash = g.H.Hash32.digest h in
    let tables = tables_of c.args.self.now.trees.items in
    let keep = subst (λ (ss : List Savepoint). RepresentSavepoints hash tables ss o.open_savepoints → RepresentSavepoints hash tables (take c.kept_by-kept.result ss) (savepoints_from c.args.name.now o.open_savepoints))
    c.deref.ensures.value (c.kept_by-kept.ensures.kept hash tables o.open_savepoints) r.open_savepoints in
    absurd (some_kept g.H.Hash32.digest h tables c.args.self.now.savepoints.items c.kept_by-kept.result (omega (arith, c.if-kept-eq0.false)) (search rules)
    (subst (λ (l : List OpenSavepoint). RepresentSavepoints hash tables (take c.kept_by-kept.result c.args.self.now.savepoints.items) l) e keep))

pub returns-clause-open : goal.returns-clause-open
returns-clause-open g c = λ id f. open_by_tables id c.args.self.now.trees.items c.restore_all.new.trees.items f.0 c.restore_all.ensures.tables f.1
