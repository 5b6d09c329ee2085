use Rattle.std.proofs.Common.{arith, ◌≡◌, ◌+◌, ◌<◌, ap, sym, subst, ◌∙◌, length, get_or, List, ℕ, Some}
use Rattle.std.proofs.lemmas.List.{get_or_default, length-set}
use Rattle.std.specs.Prelude.{slice_set}
use Rattle.std.specs.List.{HoldsAt, remove}
use Rattle.sql_types.specs.declared.version.Version.{Version}
use Rattle.spec_model.specs.Rows.{live}
use Rattle.store_table.specs.Kept.{AreOf, IsKept, IndexesAreOf, IndexesAreWith}
use Rattle.store_table.specs.Stored.{ReservedTable}
use Rattle.store_table.specs.Undoing.{without_end}
use Rattle.store_table.proofs.Moves.{indexes_back}
use Rattle.store_table.proofs.Rooms.{less_room, live_fewer}
use Rattle.store_table.proofs.Steps.{reopened_kept, told}
use Rattle.store_table.proofs.version_store.VersionStore.reopen.Goals as goal

pub add_live-requires-clause-are_indexed : goal.add_live-requires-clause-are_indexed
add_live-requires-clause-are_indexed c =
    let s = c.self.inside in
    let vs = s.versions.items in
    let p = c.take_version.new.orders in
    let v = c.index.result.now in
    let is = c.index.ensures in
    let inside : c.args.place < length vs = subst (λ (t : ReservedTable). c.args.place < length t.stored.versions) (sym c.self.view_is) c.requires.within in
    let end = c.requires.ended.0 in
    let all_ended : HoldsAt (λ w. w.end ≡ Some end) vs c.args.place = subst (λ (t : ReservedTable). HoldsAt (λ w. w.end ≡ Some end) t.stored.versions c.args.place) (sym c.self.view_is) c.requires.ended.1 in
    let ended : v.end ≡ Some end = ap (λ (w : Version). w.end) is ∙ all_ended v in
    let are : AreOf s.key.items (remove vs c.args.place) p =
    subst (λ (k : List ℕ). AreOf k (remove vs c.args.place) p) c.deref.ensures.value
    (subst (λ (l : List Version). AreOf c.deref.result.now (remove l c.args.place) p) c.deref-2.ensures.value c.take_version.ensures.are) in
    subst (λ (k : List ℕ). IndexesAreOf k c.deref-4.result.now p) (sym c.deref-3.ensures.value)
    (subst (λ (l : List Version). IndexesAreOf s.key.items l p) (sym c.deref-4.ensures.value)
    (indexes_back vs c.args.place v inside is s.key.items end p ended are.are_indexed))

pub add_live-requires-clause-room : goal.add_live-requires-clause-room
add_live-requires-clause-room c =
    let s = c.self.inside in
    let vs = s.versions.items in
    let p = c.take_version.new.orders in
    let v = c.index.result.now in
    let is = c.index.ensures in
    let inside : c.args.place < length vs = subst (λ (t : ReservedTable). c.args.place < length t.stored.versions) (sym c.self.view_is) c.requires.within in
    let end = c.requires.ended.0 in
    let all_ended : HoldsAt (λ w. w.end ≡ Some end) vs c.args.place = subst (λ (t : ReservedTable). HoldsAt (λ w. w.end ≡ Some end) t.stored.versions c.args.place) (sym c.self.view_is) c.requires.ended.1 in
    let ended : v.end ≡ Some end = ap (λ (w : Version). w.end) is ∙ all_ended v in
    let are : AreOf s.key.items (remove vs c.args.place) p =
    subst (λ (k : List ℕ). AreOf k (remove vs c.args.place) p) c.deref.ensures.value
    (subst (λ (l : List Version). AreOf c.deref.result.now (remove l c.args.place) p) c.deref-2.ensures.value c.take_version.ensures.are) in
    let fewer = live_fewer vs c.args.place end inside all_ended in
    let same = ap (λ (l : List Version). length (live l)) c.deref-4.ensures.value in
    less_room _ _ p (omega (arith, fewer, same)) (c.take_version.ensures.room (length vs + s.room) c.self.invariant.2)

pub invariant_of-self : goal.invariant_of-self
invariant_of-self c =
    let s = c.self.inside in
    let vs = s.versions.items in
    let p = c.take_version.new.orders in
    let v = c.index.result.now in
    let is = c.index.ensures in
    let inside : c.args.place < length vs = subst (λ (t : ReservedTable). c.args.place < length t.stored.versions) (sym c.self.view_is) c.requires.within in
    let end = c.requires.ended.0 in
    let all_ended : HoldsAt (λ w. w.end ≡ Some end) vs c.args.place = subst (λ (t : ReservedTable). HoldsAt (λ w. w.end ≡ Some end) t.stored.versions c.args.place) (sym c.self.view_is) c.requires.ended.1 in
    let ended : v.end ≡ Some end = ap (λ (w : Version). w.end) is ∙ all_ended v in
    let are : AreOf s.key.items (remove vs c.args.place) p =
    subst (λ (k : List ℕ). AreOf k (remove vs c.args.place) p) c.deref.ensures.value
    (subst (λ (l : List Version). AreOf c.deref.result.now (remove l c.args.place) p) c.deref-2.ensures.value c.take_version.ensures.are) in
    let q = c.add_live.new.orders in
    let r = c.index_mut.result.now in
    let one : v ≡ r = is ∙ get_or_default vs c.args.place v r inside ∙ sym c.index_mut.ensures.value in
    let are_indexed : IndexesAreWith s.key.items v vs q =
    subst (λ (k : List ℕ). IndexesAreWith k v vs q) c.deref-3.ensures.value
    (subst (λ (l : List Version). IndexesAreWith c.deref-3.result.now v l q) c.deref-4.ensures.value c.add_live.ensures.are_indexed) in
    let kept_v = reopened_kept s.key.items vs c.args.place v inside is s.orders c.self.invariant.0 end p q ended are are_indexed (ap (λ e. e.items) c.add_live.ensures.ends) in
    let kept = subst (λ (w : Version). IsKept s.key.items (slice_set vs c.args.place (without_end w)) q) one kept_v in
    let len = length-set vs c.args.place (without_end r) in (
      kept,
      omega (arith, len, c.self.invariant.1),
      less_room _ (length vs + s.room) q (omega (arith, len)) (c.add_live.ensures.room (length vs + s.room) (c.take_version.ensures.room (length vs + s.room) c.self.invariant.2)),
    )

pub returns-clause-stored : goal.returns-clause-stored
returns-clause-stored c = λ d.
    let s = c.self.inside in
    let vs = s.versions.items in
    let p = c.take_version.new.orders in
    let v = c.index.result.now in
    let is = c.index.ensures in
    let inside : c.args.place < length vs = subst (λ (t : ReservedTable). c.args.place < length t.stored.versions) (sym c.self.view_is) c.requires.within in
    let end = c.requires.ended.0 in
    let all_ended : HoldsAt (λ w. w.end ≡ Some end) vs c.args.place = subst (λ (t : ReservedTable). HoldsAt (λ w. w.end ≡ Some end) t.stored.versions c.args.place) (sym c.self.view_is) c.requires.ended.1 in
    let ended : v.end ≡ Some end = ap (λ (w : Version). w.end) is ∙ all_ended v in
    let are : AreOf s.key.items (remove vs c.args.place) p =
    subst (λ (k : List ℕ). AreOf k (remove vs c.args.place) p) c.deref.ensures.value
    (subst (λ (l : List Version). AreOf c.deref.result.now (remove l c.args.place) p) c.deref-2.ensures.value c.take_version.ensures.are) in
    let q = c.add_live.new.orders in
    let r = c.index_mut.result.now in
    let one : v ≡ r = is ∙ get_or_default vs c.args.place v r inside ∙ sym c.index_mut.ensures.value in
    let are_indexed : IndexesAreWith s.key.items v vs q =
    subst (λ (k : List ℕ). IndexesAreWith k v vs q) c.deref-3.ensures.value
    (subst (λ (l : List Version). IndexesAreWith c.deref-3.result.now v l q) c.deref-4.ensures.value c.add_live.ensures.are_indexed) in
    let kept_v = reopened_kept s.key.items vs c.args.place v inside is s.orders c.self.invariant.0 end p q ended are are_indexed (ap (λ e. e.items) c.add_live.ensures.ends) in
    let kept = subst (λ (w : Version). IsKept s.key.items (slice_set vs c.args.place (without_end w)) q) one kept_v in
    told s.key.items vs (slice_set vs c.args.place (without_end r)) s.orders q c.args.self.now.stored (ap (λ (t : ReservedTable). t.stored) c.self.view_is)
    kept (c.add_live.ensures.ordinals ∙ c.take_version.ensures.ordinals) (λ (l : List Version). slice_set l c.args.place (without_end (get_or l c.args.place d)))
    (ap (λ (w : Version). slice_set vs c.args.place (without_end w)) (c.index_mut.ensures.value ∙ get_or_default vs c.args.place r d inside))
