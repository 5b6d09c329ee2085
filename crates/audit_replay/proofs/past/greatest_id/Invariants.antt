use Rattle.std.proofs.Common.{◌≡◌, drop}
use Rattle.std.specs.Prelude.{max}
use Rattle.spec_model.specs.Lists.{greatest}
use Rattle.spec_history.specs.Journals.{ids_of}
use Rattle.audit_replay.proofs.past.greatest_id.Given as goal

abbrev pub invariant-loop-item : goal.invariant-loop-item
invariant-loop-item l = max l.most (greatest (ids_of (drop l.item-index l.items))) ≡ greatest (ids_of l.items)
