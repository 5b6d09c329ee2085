use Rattle.std.proofs.Common.{◌≡◌, ◌-◌, true, false, sym, ◌∙◌, subst, arith}
use Rattle.std.specs.Prelude.{bytes_eq}
use Rattle.store_tx.specs.declared.savepoint.Savepoint.{Savepoint}
use Rattle.store_tx.proofs.OpenSavepoints.{start_passed, found_there, passed_more, none_named}
use Rattle.store_tx.proofs.savepoint.kept_by.Goals as goal

pub loop-kept-init : goal.loop-kept-init
loop-kept-init c = (omega arith, start_passed c.args.name.now c.args.savepoints.now)

pub returns-then-is_named-clause-kept : goal.returns-then-is_named-clause-kept
returns-then-is_named-clause-kept c = found_there c.args.name.now c.args.savepoints.now c.args.savepoints.now c.loop-kept.kept (c.loop-kept.kept - 1) c.index-savepoints-kept.result
    (omega (arith, c.loop-kept-test.true)) c.loop-kept.invariant.0
    (subst (λ (s : Savepoint). bytes_eq s.name c.args.name.now ≡ true) c.index-savepoints-kept.is (sym c.is_named.ensures ∙ c.if-is_named.true))
    c.loop-kept.invariant.1

pub loop-kept-preserved : goal.loop-kept-preserved
loop-kept-preserved c = (
  omega (arith, c.loop-kept.invariant.0),
  passed_more c.args.name.now c.args.savepoints.now c.args.savepoints.now c.loop-kept.kept (c.loop-kept.kept - 1) c.index-savepoints-kept.result
      (omega (arith, c.loop-kept-test.true)) c.loop-kept.invariant.0
      (subst (λ (s : Savepoint). bytes_eq s.name c.args.name.now ≡ false) c.index-savepoints-kept.is (sym c.is_named.ensures ∙ c.if-is_named.false))
      c.loop-kept.invariant.1,
)

pub returns-clause-kept : goal.returns-clause-kept
returns-clause-kept c = none_named c.args.name.now c.args.savepoints.now c.args.savepoints.now c.loop-kept.kept (omega (arith, c.loop-kept-test.false)) c.loop-kept.invariant.1
