use Rattle.std.proofs.Common.{◌≡◌, ◌++◌, suc, take, map}
use Rattle.format_image.specs.Rows.{stored_at}
use Rattle.format_image_rows.proofs.indexes.add_places.Given as goal

abbrev pub invariant-loop-place : goal.invariant-loop-place
invariant-loop-place l = l.row.items ≡ l.fn.row.items ++ map (λ n. stored_at l.version.values (suc n)) (take l.place-index l.places)
