use Rattle.std.proofs.Common.{◌≡◌, ◌≤◌, ◌+◌, ◌<◌, ◌^◌, length}
use Rattle.std.specs.List.{AllByRecursion}
use Rattle.spec_model.specs.Changes.{changed_all}
use Rattle.spec_model.specs.Runs.{MadeBefore}
use Rattle.store_catalog.proofs.rows.carry_out.Given as goal

abbrev pub invariant-loop-change : goal.invariant-loop-change
invariant-loop-change l = record {
  numbers : l.number + length l.change-iterator.rest.items < 2 ^ 63;
  room : length l.change-iterator.rest.items ≤ l.rows.room;
  before : AllByRecursion (MadeBefore l.tx l.number) l.rows.stored.versions;
  left : changed_all l.tx l.number l.change-iterator.rest.items l.rows.stored.versions ≡ changed_all l.tx l.seq l.fn.changes l.fn.rows.stored.versions;
}
