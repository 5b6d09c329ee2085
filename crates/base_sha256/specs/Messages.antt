-- Messages of two pieces.
use Rattle.std.specs.Prelude.{ℕ, List, ◌++◌}
use Rattle.std.specs.List.{All}
use Rattle.base_sha256.specs.Blocks.{HasBlocks}
use Rattle.base_sha256.specs.declared.message.Message.{Message}

-- the bytes of a message
abbrev pub bytes_of : Message → List ℕ
bytes_of m = m.head.now ++ m.rest.now

-- each of the messages has n blocks
abbrev pub AllHaveBlocks : List Message → ℕ → Type 0
AllHaveBlocks messages n = All (λ m. HasBlocks (bytes_of m) n) messages
