use Rattle.std.proofs.Common.{rules, ◌<◌, ◌∙◌, sym, drop, length, get_or}
use Rattle.std.proofs.lemmas.List.{get_or_default}
use Rattle.std.specs.List.{AllByRecursion, remove}
use Rattle.store_table.specs.Kept.{HasCapacity, IsOf}
use Rattle.store_table.specs.declared.index.Index.{Index}
use Rattle.store_table.proofs.Passing.{passing_first, passing_step, put_back, same_length}
use Rattle.store_table.proofs.index.take_start_from_all.Goals as goal

pub loop-index-init : goal.loop-index-init
loop-index-init c =
    passing_first (λ (i : Index). i.ordinals) (IsOf c.args.key.now (remove c.args.versions.now c.args.place)) (IsOf c.args.key.now c.args.versions.now)
    c.args.indexes.now.items c.deref_mut-index-items.result.now c.deref_mut-index-items.ensures.value
    c.requires.order

pub loop-index-preserved : goal.loop-index-preserved
loop-index-preserved c =
    let items = c.loop-index.index-items in
    let at = c.loop-index.index-index in
    let inside : at < length items = search rules in
    let x = get_or items at c.index-item.result in
    passing_step (λ (i : Index). i.ordinals) (IsOf c.args.key.now (remove c.args.versions.now c.args.place)) (IsOf c.args.key.now c.args.versions.now)
    _ items at c.loop-index.invariant x c.take_start.new.index inside (get_or_default items at c.index-item.result x inside)
    c.take_start.ensures.order c.take_start.ensures.ordinals c.take_start.ensures.room

pub returns-clause-room : goal.returns-clause-room
returns-clause-room c = λ n h.
    put_back (AllByRecursion (HasCapacity n)) c.args.indexes.now.len c.loop-index.index-items (drop (length c.loop-index.index-items) c.args.indexes.now.items)
    (c.args.indexes.now.ok.0 ∙ sym (same_length (λ (i : Index). i.ordinals) c.args.indexes.now.items c.loop-index.index-items c.loop-index.invariant.same))
    (c.loop-index.invariant.room n h)
