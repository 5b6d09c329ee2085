use Rattle.std.proofs.Common.{◌<◌, ◌∙◌, sym, subst, ap, suc, ◌++◌, ◌∷◌, take, drop, length, arith}
use Rattle.std.proofs.lemmas.List.{take-append-drop, length-take, take_all}
use Rattle.std.proofs.Math.Seq.{drop-cons}
use Rattle.spec_syntax.specs.Text.{statement_of}
use Rattle.audit_replay.specs.GoesOn.{NoneEndsInside}
use Rattle.audit_replay.proofs.past.may_go_on.Goals as goal

pub returns-in-Some-clause-err : goal.returns-in-Some-clause-err
returns-in-Some-clause-err c =
    let items = c.args.items.now in
    let n = c.loop-place.place in
    let within : n < length items = omega (arith, c.loop-place-test.true) in (
      take n items,
      c.index-items-place.result,
      drop (suc n) items,
      sym (take-append-drop n items)
          ∙ ap (λ l. take n items ++ l) (drop-cons items n c.index-items-place.result within ∙ ap (λ i. i ∷ drop (suc n) items) (sym c.index-items-place.is)),
      omega (arith, length-take n items, within),
      c.loop-place.invariant,
      sym c.in_ok-statement.ensures ∙ c.in-Some.is,
    )

pub returns-clause-ok : goal.returns-clause-ok
returns-clause-ok c =
    let items = c.args.items.now in
    subst (NoneEndsInside statement_of) (take_all c.loop-place.place items (omega (arith, c.loop-place-test.false))) c.loop-place.invariant
