use Rattle.std.proofs.Common.{ap, ◌∙◌, ◌++◌, sym, subst, length}
use Rattle.std.specs.Prelude.{◌==◌}
use Rattle.std.specs.List.{AllByRecursion}
use Rattle.law_events.specs.Room.{FitsLeaf}
use Rattle.audit_replay.proofs.Roots.{all_fit, no_root, one_root}
use Rattle.audit_replay.proofs.entry.add_root.Goals as goal

pub returns-then-has_none : goal.returns-then-has_none
returns-then-has_none g c =
    no_root (g.H.Hash32.digest c.args.h) c.args.id c.args.table.now c.args.roots.now.items
    (ap (λ es. length es == 0) (sym (c.deref.ensures.value ∙ c.in_ok-events.ensures)) ∙ sym c.has_none.ensures ∙ c.if-has_none.true)

pub root_of-requires-clause-leaves : goal.root_of-requires-clause-leaves
root_of-requires-clause-leaves g c κs within =
    rw c.deref-3.ensures.value
    (all_fit c.in_ok-events.events.items
    (subst (AllByRecursion FitsLeaf) (sym c.in_ok-events.ensures) c.requires.leaves.0)
    (rw c.deref-2.ensures.value at c.have_room.ensures))

pub returns : goal.returns
returns g c =
    (rw (c.in_ok-root_of.ensures, c.deref-3.ensures.value, c.in_ok-events.ensures) at c.in_ok-push.ensures.items)
    ∙ ap (λ l. c.args.roots.now.items ++ l)
    (sym (one_root (g.H.Hash32.digest c.args.h) c.args.id c.args.table.now
    (ap (λ es. length es == 0) (sym (c.deref.ensures.value ∙ c.in_ok-events.ensures)) ∙ sym c.has_none.ensures ∙ c.if-has_none.false)))
