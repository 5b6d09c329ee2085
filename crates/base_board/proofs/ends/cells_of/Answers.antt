use Rattle.std.proofs.Common.{◌≡◌, ℕ, ◌<◌, [], ◌∷◌, ◌++◌, length, Some, refl, sym, ap, ◌∙◌, subst, arith, add-one}
use mathlib.Core.List.{map-append}
use lib.ListN.{get_elem?}
use mathlib.Core.Option.{some}
use Rattle.std.specs.Prelude.{IsSome}
use Rattle.std.specs.Slots.{slots_items, slots_filled, slots_len, slots_counts}
use Rattle.base_board.proofs.Closes.{some_at, take_next, still_full, now_empty}
use Rattle.base_board.proofs.ends.cells_of.Goals as goal

pub unwrap-requires : goal.unwrap-requires
unwrap-requires g c = let inv = c.loop-i.invariant in let h = some_at (slots_items c.loop-i.closed.slots) c.requires.home.0 c.loop-i.i c.take.result (inv.0 ∙ c.requires.home.1) c.take.ensures.value in
    subst IsSome (sym h.1) refl

pub loop-i-preserved : goal.loop-i-preserved
loop-i-preserved g c = let inv = c.loop-i.invariant in let others = c.take.ensures.others in let i : ℕ = c.loop-i.i in let test : i < c.slot_count-count.result = c.loop-i-test.true in (
  others.0 ∙ inv.0,
  others.2 ∙ inv.1,
  rw (c.push_reserved.ensures.items, add-one) (map-append Some c.loop-i.cells.items (c.unwrap.result ∷ []) ∙ ap (λ l. l ++ Some c.unwrap.result ∷ []) inv.2
      ∙ sym (take_next (slots_items c.args.closed.slots) i (Some c.unwrap.result) (subst (λ l. get_elem? l i ≡ some (Some c.unwrap.result)) inv.0 (c.take.ensures.value ∙ ap some c.unwrap.ensures)))),
  still_full (slots_filled c.loop-i.closed.slots) (slots_filled c.take.new.self.slots) i (slots_len c.loop-i.closed.slots) (slots_len c.take.new.self.slots) others.1 others.2 inv.3,
  now_empty (slots_filled c.loop-i.closed.slots) (slots_filled c.take.new.self.slots) i others.1 (let count : c.slot_count-count.result ≡ slots_len c.args.closed.slots = c.slot_count-count.ensures in let len : slots_len c.loop-i.closed.slots ≡ length (slots_filled c.loop-i.closed.slots) = (slots_counts c.loop-i.closed.slots).1 in let same : slots_len c.loop-i.closed.slots ≡ slots_len c.args.closed.slots = inv.1 in omega arith) inv.4,
  (let l = c.push_reserved.ensures.len in let m = inv.5 in omega arith),
  (let l = c.push_reserved.ensures.capacity in let m = inv.6 in omega arith),
)
