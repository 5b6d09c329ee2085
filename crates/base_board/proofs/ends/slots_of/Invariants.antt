use Rattle.std.proofs.Common.{◌≡◌, ◌+◌, ◌≤◌, ◌++◌, map, Some, vec_len, vec_capacity}
use Rattle.base_board.proofs.ends.slots_of.Given as goal

abbrev pub invariant-loop-i : goal.invariant-loop-i
invariant-loop-i g l =
    (l.slots.items ++ map Some l.cells.items ≡ map Some l.initial.cells.items) × (vec_len l.cells + l._i ≡ l.count) × (vec_len l.slots ≡ l._i)
    × (l.count ≤ vec_capacity l.slots) × (vec_capacity l.cells ≡ vec_capacity l.initial.cells)
