-- What is taken as given of a server: how texts are read, and how bytes are hashed.
use Rattle.std.specs.Prelude.{ℕ, ◌≡◌, List}
use Rattle.sql_types.specs.declared.journal.JournalItem.{JournalItem}
use Rattle.spec_model.specs.Script.{Reading}
use Rattle.spec_history.specs.Lists.{Text}
use Rattle.spec_history.specs.Meaning.{Meaning}
use Rattle.spec_history.specs.Real.{Hashing, IsReal}
use Rattle.law_blocks.specs.Ledger.{block_hash}
use Rattle.format_image.specs.Image.{image_of}
use Rattle.format_image.specs.ImageBytes.{image_bytes}

pub record Server : Type 0 where
  -- the statement that a text is, if it is one
  pub reads : Reading
  -- the hash of bytes
  pub hash : Text → Text
  -- the hash of each block of a journal: that of the ledger of the journal
  pub hashing : Hashing
  pub hashes : (J : List JournalItem) (b : ℕ) → hashing.hash J b ≡ block_hash hash reads J b
  -- the meaning of statements, with these
  pub meaning : Meaning
  pub real : IsReal reads hashing meaning

-- the bytes of the image that it keeps of this database's journal
unfoldable pub journal_image : Server → Text → List JournalItem → Text
journal_image v database J = image_bytes (image_of v.hash v.reads database J)
