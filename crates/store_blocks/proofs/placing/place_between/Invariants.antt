use Rattle.std.proofs.Common.{◌≡◌, ◌++◌, ◌-◌, ◌≤◌, take, drop}
use Rattle.spec_ledger.specs.Entries.{placed}
use Rattle.store_blocks.proofs.placing.place_between.Given as goal

abbrev pub invariant-loop-place : goal.invariant-loop-place
invariant-loop-place l =
    (l.fn.from ≤ l.place)
    × (l.entries.items ≡ take l.fn.from l.fn.entries.items
    ++ (placed l.fn.block 0 (take (l.place - l.fn.from) (drop l.fn.from l.fn.entries.items)) ++ drop l.place l.fn.entries.items))
