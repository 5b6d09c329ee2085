use Rattle.std.proofs.Common.{rules, ◌≡◌, ◌<◌, ◌∙◌, sym, drop, length, map, get_or, List}
use Rattle.std.proofs.lemmas.List.{get_or_default}
use Rattle.std.specs.Prelude.{slice_set}
use Rattle.std.specs.List.{AllByRecursion}
use Rattle.store_table.specs.Kept.{HasCapacity, index_seen}
use Rattle.store_table.specs.declared.index.Index.{Index}
use Rattle.store_table.proofs.Passing.{passing_step, put_back, same_length, same_step, room_step}
use Rattle.store_table.proofs.index.reserve_indexes.Goals as goal

pub loop-index-preserved : goal.loop-index-preserved
loop-index-preserved c =
    let items = c.loop-index.index-items in
    let at = c.loop-index.index-index in
    let inside : at < length items = search rules in
    let x = get_or items at c.index-item.result in
    passing_step index_seen (HasCapacity c.args.count) (λ (i : Index). Unit {0}) _ items at c.loop-index.invariant x c.reserve_index.new.index inside
    (get_or_default items at c.index-item.result x inside) c.in_ok-reserve_index.ensures.ok c.reserve_index.ensures.same c.reserve_index.ensures.room

pub returns-clause-room : goal.returns-clause-room
returns-clause-room c = λ n h.
    put_back (AllByRecursion (HasCapacity n)) c.args.indexes.now.len c.loop-index.index-items (drop (length c.loop-index.index-items) c.args.indexes.now.items)
    (c.args.indexes.now.ok.0 ∙ sym (same_length index_seen c.args.indexes.now.items c.loop-index.index-items c.loop-index.invariant.same))
    (c.loop-index.invariant.room n h)

pub returns-in_err-reserve_index-clause-same : goal.returns-in_err-reserve_index-clause-same
returns-in_err-reserve_index-clause-same c =
    let was = c.args.indexes.now.items in
    let items = c.loop-index.index-items in
    let at = c.loop-index.index-index in
    let y = c.reserve_index.new.index in
    let inside : at < length items = search rules in
    let x = get_or items at c.index-item.result in
    let same = same_step index_seen (HasCapacity c.args.count) (λ (i : Index). Unit {0}) was items at c.loop-index.invariant x y inside (get_or_default items at c.index-item.result x inside) c.reserve_index.ensures.same in
    put_back (λ (l : List Index). map index_seen l ≡ map index_seen was) c.args.indexes.now.len (slice_set items at y) (drop (length (slice_set items at y)) was)
    (c.args.indexes.now.ok.0 ∙ sym (same_length index_seen was (slice_set items at y) same)) same

pub returns-in_err-reserve_index-clause-room : goal.returns-in_err-reserve_index-clause-room
returns-in_err-reserve_index-clause-room c = λ n h.
    let was = c.args.indexes.now.items in
    let items = c.loop-index.index-items in
    let at = c.loop-index.index-index in
    let y = c.reserve_index.new.index in
    let inside : at < length items = search rules in
    let x = get_or items at c.index-item.result in
    let is = get_or_default items at c.index-item.result x inside in
    let same = same_step index_seen (HasCapacity c.args.count) (λ (i : Index). Unit {0}) was items at c.loop-index.invariant x y inside is c.reserve_index.ensures.same in
    put_back (AllByRecursion (HasCapacity n)) c.args.indexes.now.len (slice_set items at y) (drop (length (slice_set items at y)) was)
    (c.args.indexes.now.ok.0 ∙ sym (same_length index_seen was (slice_set items at y) same))
    (room_step index_seen (HasCapacity c.args.count) (λ (i : Index). Unit {0}) was items at c.loop-index.invariant x y inside is c.reserve_index.ensures.room n h)
