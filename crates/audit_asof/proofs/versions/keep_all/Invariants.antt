use Rattle.std.proofs.Common.{◌≡◌, ◌++◌, flat_map}
use Rattle.spec_model.specs.Lists.{is_among}
use Rattle.audit_asof.specs.Kept.{kept_by}
use Rattle.audit_asof.proofs.versions.keep_all.Given as goal

abbrev pub invariant-loop-version : goal.invariant-loop-version
invariant-loop-version l =
    l.kept.items ++ flat_map (kept_by (is_among l.txs)) l.version-iterator.rest.items
    ≡ l.fn.kept.items ++ flat_map (kept_by (is_among l.txs)) l.fn.versions
