use Rattle.std.proofs.Common.{◌≡◌, ◌<◌, ◌≤◌, ℕ, length, get_or}
use Rattle.spec_model.specs.Holds.{is_foreign}
use Rattle.store_locks.specs.Index.{staying}
use Rattle.store_locks.proofs.index.note_moves.Given as goal

abbrev pub invariant-loop-place : goal.invariant-loop-place
invariant-loop-place l = record {
  kept : l.kept ≡ staying (is_foreign l.tx) l.holds l.place;
  bound : l.kept ≤ l.place;
  len : length l.moved ≡ length l.fn.moved;
  moves : (p : ℕ) → p < l.place → get_or l.moved p 0 ≡ staying (is_foreign l.tx) l.holds p;
}
