use Rattle.std.proofs.Common.{◌≡◌, [], drop}
use Rattle.serde_json.specs.View.{items_view}
use Rattle.format_digest.specs.Reading as spec
use Rattle.format_digest.proofs.reading.each_held.Given as goal

abbrev pub invariant-loop-index : goal.invariant-loop-index
invariant-loop-index l =
    spec.each_held l.index l.list (items_view (drop l.index l.values))
    ≡ spec.each_held 0 [] (items_view l.values)
