use Rattle.std.proofs.Common.{◌≡◌, ◌==◌, ◌<◌, ◌≤◌, ◌++◌, ◌∷◌, [], ◌∙◌, ℕ, List, true, false, get_or, length, rules, sym, ap}
use Rattle.std.specs.List.{insert, list_any}
use Rattle.store_locks.specs.Index.{item_is_before}
use Rattle.store_locks.proofs.Kept.{kept_more, known_comes, known_stays}
use Rattle.store_locks.proofs.list.LockList.add.Goals as goal

pub invariant_of-self-then-not-known : goal.invariant_of-self-then-not-known
invariant_of-self-then-not-known c =
    let old = c.self.inside in
    let h = c.args.hold in
    let at = c.first_at-at.result in
    let len : c.len-place.result ≡ length old.holds.items = search rules in
    let holds : c.push.new.self.items ≡ old.holds.items ++ h ∷ [] = c.in_ok-push.ensures.items in
    let kept : c.reserve.new.self.items ≡ old.places.items = search rules in
    let places : c.insert.new.self.items ≡ insert old.places.items at (length old.holds.items) = search rules in
    let holders : c.push-then-not-known.new.self.items ≡ old.holders.items ++ h.tx ∷ [] = search rules in
    let room : length old.holds.items < length c.make_room.new.moved.items = search rules in
    let bound : at ≤ length old.places.items = search rules in
    let before : (k : ℕ) → k < at → item_is_before old.holds.items h.request.item (get_or old.places.items k 0) ≡ true =
    rw (← c.deref.ensures.value, ← c.deref-2.ensures.value) c.first_at-at.ensures.before in
    let behind : (k : ℕ) → at ≤ k → k < length old.places.items → item_is_before old.holds.items h.request.item (get_or old.places.items k 0) ≡ false =
    rw (← c.deref.ensures.value, ← c.deref-2.ensures.value) c.first_at-at.ensures.behind in
    rw (holds, places, holders)
    (kept_more old.holds.items old.places.items old.moved.items old.holders.items c.self.invariant h at c.make_room.new.moved.items (old.holders.items ++ h.tx ∷ []) room bound before behind
    (known_comes old.holds.items old.places.items old.moved.items old.holders.items c.self.invariant h))

pub invariant_of-self-else-not-known : goal.invariant_of-self-else-not-known
invariant_of-self-else-not-known c =
    let old = c.self.inside in
    let h = c.args.hold in
    let at = c.first_at-at.result in
    let len : c.len-place.result ≡ length old.holds.items = search rules in
    let holds : c.push.new.self.items ≡ old.holds.items ++ h ∷ [] = c.in_ok-push.ensures.items in
    let kept : c.reserve.new.self.items ≡ old.places.items = search rules in
    let places : c.insert.new.self.items ≡ insert old.places.items at (length old.holds.items) = search rules in
    let holders : c.reserve-2.new.self.items ≡ old.holders.items = search rules in
    let room : length old.holds.items < length c.make_room.new.moved.items = search rules in
    let bound : at ≤ length old.places.items = search rules in
    let known : list_any (λ holder. holder == h.tx) old.holders.items ≡ true =
    ap (λ (who : List ℕ). list_any (λ holder. holder == h.tx) who) (sym c.deref-3.ensures.value) ∙ (sym c.is_known-known.ensures ∙ c.if-not-known.false) in
    let before : (k : ℕ) → k < at → item_is_before old.holds.items h.request.item (get_or old.places.items k 0) ≡ true =
    rw (← c.deref.ensures.value, ← c.deref-2.ensures.value) c.first_at-at.ensures.before in
    let behind : (k : ℕ) → at ≤ k → k < length old.places.items → item_is_before old.holds.items h.request.item (get_or old.places.items k 0) ≡ false =
    rw (← c.deref.ensures.value, ← c.deref-2.ensures.value) c.first_at-at.ensures.behind in
    rw (holds, places, holders)
    (kept_more old.holds.items old.places.items old.moved.items old.holders.items c.self.invariant h at c.make_room.new.moved.items old.holders.items room bound before behind
    (known_stays old.holds.items old.places.items old.moved.items old.holders.items c.self.invariant h known))
