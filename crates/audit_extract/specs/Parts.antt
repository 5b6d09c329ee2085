-- The blocks that a digest of block b covers.
use Rattle.std.specs.Prelude.{ℕ, ◌+◌, List, take}
use Rattle.sql_types.specs.declared.entry.BlockRecord.{BlockRecord}
use Rattle.sql_types.specs.declared.image.Image.{Image}

-- blocks 0 to b
abbrev pub blocks_to : Image → ℕ → List BlockRecord
blocks_to i b = take (b + 1) i.blocks
