-- The image of a whole journal.
use Rattle.std.specs.Prelude.{ℕ, List, length}
use Rattle.sql_types.specs.declared.journal.TheConstants.{JOURNAL_VERSION}
use Rattle.sql_types.specs.declared.journal.Journal.{Journal}
use Rattle.sql_types.specs.declared.journal.JournalItem.{JournalItem}
use Rattle.spec_history.specs.Lists.{Text}
use Rattle.spec_syntax.specs.Text.{statement_of}
use Rattle.format_image.specs.Image.{image_of}
use Rattle.format_image.specs.ImageBytes.{image_bytes}
use Rattle.spec_protocol.specs.Seats.{KeptImage}

-- the journal of a database with these items
abbrev pub journal_of : Text → List JournalItem → Journal
journal_of database items = record { version = JOURNAL_VERSION; database = database; items = items }

-- the bytes of the image to which a journal leads
abbrev pub last_image_bytes : (List ℕ → List ℕ) → Journal → List ℕ
last_image_bytes h J = image_bytes (image_of h statement_of J.database J.items)

-- that of all its items
abbrev pub last_image : (List ℕ → List ℕ) → Journal → KeptImage
last_image h J = (length J.items, last_image_bytes h J)
