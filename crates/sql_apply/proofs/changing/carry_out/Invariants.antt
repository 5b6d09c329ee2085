use Rattle.std.proofs.Common.{◌≡◌, ◌+◌, ◌<◌, ◌^◌, length}
use Rattle.spec_model.specs.Changes.{changed_all}
use Rattle.sql_apply.proofs.Steps.{AreBefore}
use Rattle.sql_apply.proofs.changing.carry_out.Given as goal

abbrev pub invariant-loop-change : goal.invariant-loop-change
invariant-loop-change l = record {
  room : l.number + length l.change-iterator.rest.items < 2 ^ 64;
  are_before : AreBefore l.tx l.number l.versions.items;
  left : changed_all l.tx l.number l.change-iterator.rest.items l.versions.items ≡ changed_all l.tx l.seq l.fn.changes l.fn.versions.items;
}
