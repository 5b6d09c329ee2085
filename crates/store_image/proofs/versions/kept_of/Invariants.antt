use Rattle.std.proofs.Common.{◌≡◌, ◌++◌, drop, flat_map}
use Rattle.store_image.specs.Known.{has_in, kept_by}
use Rattle.store_image.proofs.versions.kept_of.Given as goal

abbrev pub invariant-loop-version : goal.invariant-loop-version
invariant-loop-version l = l.kept.items ++ flat_map (kept_by (has_in l.known)) (drop l.version-index l.versions) ≡ flat_map (kept_by (has_in l.known)) l.versions
