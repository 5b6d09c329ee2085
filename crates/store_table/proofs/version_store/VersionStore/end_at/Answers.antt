use Rattle.std.proofs.Common.{arith, ◌≡◌, ◌+◌, ◌<◌, ap, sym, refl, subst, ◌∙◌, length, get_or, List, ℕ}
use Rattle.std.proofs.lemmas.List.{get_or_default, length-set}
use Rattle.std.specs.Prelude.{slice_set}
use Rattle.std.specs.List.{remove}
use Rattle.sql_types.specs.declared.version.Version.{Version}
use Rattle.spec_model.specs.Lists.{inserted}
use Rattle.spec_model.specs.Rows.{with_end}
use Rattle.store_table.specs.declared.orders.Orders.{Orders}
use Rattle.store_table.specs.Ends.{ending, ending_cmp, endings_of}
use Rattle.store_table.specs.Kept.{AreOf}
use Rattle.store_table.specs.Stored.{ReservedTable}
use Rattle.store_table.proofs.Rooms.{endings_room, less_room}
use Rattle.store_table.proofs.Steps.{ended_kept, told}
use Rattle.store_table.proofs.version_store.VersionStore.end_at.Goals as goal

pub add_ending-requires-clause-sorted : goal.add_ending-requires-clause-sorted
add_ending-requires-clause-sorted c = (endings_of (remove c.deref-2.result.now c.args.place), c.take_version.ensures.are.ends)

pub add_ending-requires-clause-room : goal.add_ending-requires-clause-room
add_ending-requires-clause-room c =
    let s = c.self.inside in
    let vs = s.versions.items in
    let inside : c.args.place < length vs = subst (λ (t : ReservedTable). c.args.place < length t.stored.versions) (sym c.self.view_is) c.requires in
    let long = ap length c.deref-2.ensures.value in
    let less = endings_room c.deref-2.result.now c.args.place c.take_version.new.orders.ends.items (omega (arith, inside, long)) c.take_version.ensures.are.ends in
    let room = c.take_version.ensures.room (length vs + s.room) c.self.invariant.2 in
    omega (arith, less, long, room.for_ends)

pub invariant_of-self : goal.invariant_of-self
invariant_of-self c =
    let s = c.self.inside in
    let vs = s.versions.items in
    let p = c.take_version.new.orders in
    let r = c.index_mut.result.now in
    let is = c.index_mut.ensures.value in
    let inside : c.args.place < length vs = subst (λ (t : ReservedTable). c.args.place < length t.stored.versions) (sym c.self.view_is) c.requires in
    let are : AreOf s.key.items (remove vs c.args.place) p =
    subst (λ (k : List ℕ). AreOf k (remove vs c.args.place) p) c.deref.ensures.value
    (subst (λ (l : List Version). AreOf c.deref.result.now (remove l c.args.place) p) c.deref-2.ensures.value c.take_version.ensures.are) in
    let one : c.index.result.now ≡ r = c.index.ensures ∙ get_or_default vs c.args.place c.index.result.now r inside ∙ sym is in
    let q : Orders = record { key_order = p.key_order; ends = c.add_ending.new.ends; indexes = p.indexes } in
    let ends = c.add_ending.ensures.items ∙ ap (λ (w : Version). inserted ending_cmp (ending c.args.at w.start) p.ends.items) one in
    let kept = ended_kept s.key.items vs c.args.place r inside is s.orders c.self.invariant.0 c.args.at p q are refl refl ends in
    let len = length-set vs c.args.place (with_end c.args.at r) in
    let room = c.take_version.ensures.room (length vs + s.room) c.self.invariant.2 in (
      kept,
      omega (arith, len, c.self.invariant.1),
      less_room _ (length vs + s.room) q (omega (arith, len)) (record { for_keys = room.for_keys; for_ends = omega (arith, room.for_ends, c.add_ending.ensures.room); for_indexes = room.for_indexes }),
    )

pub returns-clause-stored : goal.returns-clause-stored
returns-clause-stored c = λ d.
    let s = c.self.inside in
    let vs = s.versions.items in
    let p = c.take_version.new.orders in
    let r = c.index_mut.result.now in
    let is = c.index_mut.ensures.value in
    let inside : c.args.place < length vs = subst (λ (t : ReservedTable). c.args.place < length t.stored.versions) (sym c.self.view_is) c.requires in
    let are : AreOf s.key.items (remove vs c.args.place) p =
    subst (λ (k : List ℕ). AreOf k (remove vs c.args.place) p) c.deref.ensures.value
    (subst (λ (l : List Version). AreOf c.deref.result.now (remove l c.args.place) p) c.deref-2.ensures.value c.take_version.ensures.are) in
    let one : c.index.result.now ≡ r = c.index.ensures ∙ get_or_default vs c.args.place c.index.result.now r inside ∙ sym is in
    let q : Orders = record { key_order = p.key_order; ends = c.add_ending.new.ends; indexes = p.indexes } in
    let ends = c.add_ending.ensures.items ∙ ap (λ (w : Version). inserted ending_cmp (ending c.args.at w.start) p.ends.items) one in
    let kept = ended_kept s.key.items vs c.args.place r inside is s.orders c.self.invariant.0 c.args.at p q are refl refl ends in
    told s.key.items vs (slice_set vs c.args.place (with_end c.args.at r)) s.orders q c.args.self.now.stored (ap (λ (t : ReservedTable). t.stored) c.self.view_is)
    kept c.take_version.ensures.ordinals (λ (l : List Version). slice_set l c.args.place (with_end c.args.at (get_or l c.args.place d)))
    (ap (λ (w : Version). slice_set vs c.args.place (with_end c.args.at w)) (is ∙ get_or_default vs c.args.place r d inside))
