use Rattle.std.proofs.Common.{◌≡◌, ◌<◌, ap, ◌∙◌, sym, subst, suc, ◌++◌, ◌∷◌, take, drop, length, arith}
use Rattle.std.proofs.lemmas.List.{take-append-drop, length-take, take_all}
use Rattle.std.proofs.Math.Seq.{drop-cons}
use Rattle.spec_syntax.specs.Text.{reading_of}
use Rattle.sql_reference.specs.Machine.{Machine}
use Rattle.audit_replay.specs.Reached.{Reached}
use Rattle.audit_replay.proofs.Steps.{first_reached, follows_at}
use Rattle.audit_replay.proofs.running.run_again.Goals as goal

pub loop-place-init : goal.loop-place-init
loop-place-init g c =
    first_reached (reading_of c.args.version) _ c.in_ok-serial_machine.serial_machine c.new-ledger_chain.result c.in_ok-serial_machine.ensures.tables c.in_ok-serial_machine.ensures.order c.new-ledger_chain.ensures

pub run_item-requires-clause-follows : goal.run_item-requires-clause-follows
run_item-requires-clause-follows g c κs within =
    let items = c.args.items.now in
    follows_at items (take c.loop-place.place items) c.index-items-place.result (drop (suc c.loop-place.place) items) c.requires
    (sym (take-append-drop c.loop-place.place items)
    ∙ ap (λ l. take c.loop-place.place items ++ l)
    (drop-cons items c.loop-place.place c.index-items-place.result (omega (arith, c.loop-place-test.true))
    ∙ ap (λ i. i ∷ drop (suc c.loop-place.place) items) (sym c.index-items-place.is)))

pub returns-in-Differs-clause-differs : goal.returns-in-Differs-clause-differs
returns-in-Differs-clause-differs g c =
    let items = c.args.items.now in
    let within : c.loop-place.place < length items = omega (arith, c.loop-place-test.true) in (
      take c.loop-place.place items,
      c.index-items-place.result,
      drop (suc c.loop-place.place) items,
      sym (take-append-drop c.loop-place.place items)
          ∙ ap (λ l. take c.loop-place.place items ++ l)
          (drop-cons items c.loop-place.place c.index-items-place.result within
          ∙ ap (λ i. i ∷ drop (suc c.loop-place.place) items) (sym c.index-items-place.is)),
      omega (arith, length-take c.loop-place.place items, within),
      c.loop-place.invariant.legal,
      sym c.in_ok-end.ensures.end ∙ c.in-Differs.is,
    )

pub returns-clause-leads : goal.returns-clause-leads
returns-clause-leads g c =
    let items = c.args.items.now in
    let h = g.H.Hash32.digest c.args.h in
    let reads = reading_of c.args.version in
    let all : take c.loop-place.place items ≡ items = take_all c.loop-place.place items (omega (arith, c.loop-place-test.false)) in
    let reached : Reached h reads items c.loop-place.serial_machine c.loop-place.ledger_chain =
    subst (λ l. Reached h reads l c.loop-place.serial_machine c.loop-place.ledger_chain) all c.loop-place.invariant in
    record {
      legal = reached.legal;
      tables = c.into_tables.ensures ∙ ap (λ (m : Machine). m.tables) reached.machine;
      ledger = reached.ledger;
      hash = reached.hash;
    }
