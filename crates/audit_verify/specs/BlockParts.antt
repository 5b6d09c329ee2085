-- So many blocks of an image, from one place on: the first that is not that of its entries.
use Rattle.std.specs.Prelude.{ℕ, List, take, drop, Option}
use Rattle.sql_types.specs.declared.entry.BlockRecord.{BlockRecord}
use Rattle.sql_types.specs.declared.image.Image.{Image}
use Rattle.spec_verify.specs.declared.place.Place.{Place}
use Rattle.spec_verify.specs.declared.place.Place.TheVariants as at
use Rattle.spec_verify.specs.Blocks.{block_holds}
use Rattle.spec_verify.specs.First.{unless, first_from}

abbrev pub faulty_block : (List ℕ → List ℕ) → Image → ℕ → ℕ → Option Place
faulty_block h i from count =
    first_from (λ (b : ℕ) (r : BlockRecord). unless (block_holds h i b r) (at.Block b)) from (take count (drop from i.blocks))
