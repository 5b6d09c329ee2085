use Rattle.std.proofs.Common.{◌≡◌, ◌==◌, ◌<◌, ◌++◌, ◌∙◌, ℕ, List, get_or, length, take, drop, rules, sym, ap, not, map}
use Rattle.std.specs.List.{filter}
use Rattle.std.proofs.lemmas.Fn.{filter_same}
use Rattle.std.proofs.lemmas.List.{length-map}
use Rattle.spec_model.specs.Holds.{is_foreign, released}
use Rattle.store_locks.specs.Index.{stays, staying}
use Rattle.store_locks.proofs.Kept.{kept_released, kept_within, whole}
use Rattle.store_locks.proofs.list.LockList.release.Goals as goal

pub move_places-requires : goal.move_places-requires
move_places-requires c =
    let old = c.self.inside in
    let foreign = stays (is_foreign c.args.tx) old.holds.items in
    let places : c.retain.new.self.items ≡ filter foreign old.places.items =
    filter_same _ foreign _ (λ x b f call. search rules) _ _ c.retain.ensures.filtered in
    let value : c.deref_mut.result.now ≡ old.moved.items = c.deref_mut.ensures.value in
    let len : length c.note_moves.new.moved ≡ length old.moved.items = c.note_moves.ensures.len ∙ ap length value in
    let moved : c.deref-2.result.now ≡ c.note_moves.new.moved =
    c.deref-2.ensures.value ∙ whole old.moved.len c.note_moves.new.moved old.moved.items len (sym c.deref_mut.ensures.len ∙ ap length value) in
    rw (c.deref_mut-2.ensures.value, places)
    (kept_within old.holds.items old.places.items old.moved.items old.holders.items c.self.invariant foreign (length c.deref-2.result.now) (ap length moved ∙ len))

pub invariant_of-self : goal.invariant_of-self
invariant_of-self c =
    let old = c.self.inside in
    let tx = c.args.tx in
    let foreign = stays (is_foreign tx) old.holds.items in
    let at = λ (p : ℕ). get_or c.note_moves.new.moved p 0 in
    let places : c.retain.new.self.items ≡ filter foreign old.places.items =
    filter_same _ foreign _ (λ x b f call. search rules) _ _ c.retain.ensures.filtered in
    let holds : c.retain-2.new.self.items ≡ filter (is_foreign tx) old.holds.items =
    filter_same _ (is_foreign tx) _ (λ x b f call. search rules) _ _ c.retain-2.ensures.filtered in
    let holders : c.retain-3.new.self.items ≡ filter (λ holder. not (holder == tx)) old.holders.items =
    filter_same _ (λ holder. not (holder == tx)) _ (λ x b f call. search rules) _ _ c.retain-3.ensures.filtered in
    let value : c.deref_mut.result.now ≡ old.moved.items = c.deref_mut.ensures.value in
    let len : length c.note_moves.new.moved ≡ length old.moved.items = c.note_moves.ensures.len ∙ ap length value in
    let over : take old.moved.len (c.note_moves.new.moved ++ drop (length c.note_moves.new.moved) old.moved.items) ≡ c.note_moves.new.moved =
    whole old.moved.len c.note_moves.new.moved old.moved.items len (sym c.deref_mut.ensures.len ∙ ap length value) in
    let moved : c.deref-2.result.now ≡ c.note_moves.new.moved = c.deref-2.ensures.value ∙ over in
    let value2 : c.deref_mut-2.result.now ≡ c.retain.new.self.items = c.deref_mut-2.ensures.value in
    let mapped : c.move_places.new.places ≡ map at c.retain.new.self.items =
    c.move_places.ensures ∙ (ap (λ (m : List ℕ). map (λ p. get_or m p 0) c.deref_mut-2.result.now) moved ∙ ap (map at) value2) in
    let len2 : length c.move_places.new.places ≡ length c.retain.new.self.items = ap length mapped ∙ length-map c.retain.new.self.items at in
    let over2 : take c.retain.new.self.len (c.move_places.new.places ++ drop (length c.move_places.new.places) c.retain.new.self.items) ≡ c.move_places.new.places =
    whole c.retain.new.self.len c.move_places.new.places c.retain.new.self.items len2 (sym c.deref_mut-2.ensures.len ∙ ap length value2) in
    let moves : (p : ℕ) → p < length old.holds.items → at p ≡ staying (is_foreign tx) old.holds.items p = rw (← c.deref.ensures.value) c.note_moves.ensures.moves in
    rw (holds, over, over2, holders, mapped, places)
    (kept_released old.holds.items old.places.items old.moved.items old.holders.items c.self.invariant tx at c.note_moves.new.moved moves len)

pub returns : goal.returns
unfolding released
returns c = rw (← c.self.view_is) (filter_same _ (is_foreign c.args.tx) _ (λ x b f call. search rules) _ _ c.retain-2.ensures.filtered)
