-- What the words after the program's name say.
use Rattle.std.specs.Prelude.{ℕ, ◌≡◌, ◌≤◌, Bool, true, false, ◌||◌, ◌&&◌, is_some, List, [], ◌∷◌, codes, Option, Some, None, IfSome, if◌then◌else◌, bytes_eq, find, option_map, drop}
use Rattle.std.specs.List.{list_any}
use Rattle.base_types.specs.DatabaseName.{is_database_name}
use Rattle.base_types.specs.declared.moment.TheConstants.{MAX_TICKS}
use Rattle.cli_words.specs.declared.forms.TheConstants.{MAX_TX, MAX_TABLE, MAX_EVENT}
use Rattle.cli_words.specs.declared.part.Part.{Part}
use Rattle.cli_words.specs.declared.part.Part.TheVariants as shown
use Rattle.cli_words.specs.declared.subcommand.Subcommand.{Subcommand}
use Rattle.cli_words.specs.declared.subcommand.Subcommand.TheVariants as which
use Rattle.cli_words.specs.Forms.{file_name, save_name, database_name, number_in, or_default, if_given}
use Rattle.cli_words.specs.Line.{Text, Use, uses_of, ◌>>=◌}
use Rattle.cli_words.specs.Subcommands.{named, operands_of, options_of}

-- how statements are run
pub record Settings : Type 0 where
  -- the most transactions of a block
  pub block_size : ℕ
  -- the moment that each statement has, where one is given
  pub clock : Option ℕ
  pub database : Text

-- they have their ranges and their form
pub record AreInRange (how : Settings) : Type 0 where
  pub least : 1 ≤ how.block_size
  pub most : how.block_size ≤ 100000
  pub clock : IfSome how.clock (λ ticks. ticks ≤ MAX_TICKS)
  pub database : is_database_name how.database ≡ true

pub data Command : Type 0 where
  -- the name that the files are saved under, and that of the journal that the database goes on from, where one is
  -- given
  Step : Text → Option Text → Settings → Command
  Run : Text → Option Text → Settings → Command
  -- the name of an image, that of digests, where it is given, how many workers look, and whether it is said what the
  -- digests cover
  Verify : Text → Option Text → ℕ → Bool → Command
  -- the names of an honest image, of one that is suspected, and of digests
  Extract : Text → Text → Text → Command
  -- the name of a journal, and the name that its image is saved under
  Replay : Text → Text → Command
  -- the name of an image, and the name that it is saved under in the newest version
  Upgrade : Text → Text → Command
  Gen : ℕ → Command
  -- the names of an image and of digests, the id of a transaction, what of it is shown, and the name its receipt is
  -- saved under
  Receipt : Text → Text → ℕ → Part → Text → Command
  -- the names of an image and of digests, and the name that their chain is saved under
  Join : Text → Text → Text → Command
  -- the names of a receipt and of digests
  Check : Text → Text → Command
  -- the name of an image, how many of its transactions count, and the name of digests, where they are given
  AsOf : Text → ℕ → Option Text → Command
  -- help on one command, or on all
  Help : Option Subcommand → Command
  Version : Command

-- so has what of a transaction is shown
abbrev pub IsPartInRange : Part → Type 0
IsPartInRange shown.Entry = Unit {0}
IsPartInRange (shown.Table id) = (1 ≤ id) × (id ≤ MAX_TABLE)
IsPartInRange (shown.Event id number) = (1 ≤ id) × (id ≤ MAX_TABLE) × (number ≤ MAX_EVENT)

-- its values have their ranges
abbrev pub IsInRange : Command → Type 0
IsInRange (Step save journal how) = AreInRange how
IsInRange (Run save journal how) = AreInRange how
IsInRange (Verify image digests workers covers) = (1 ≤ workers) × (workers ≤ 16)
IsInRange (Gen count) = (1 ≤ count) × (count ≤ 10000)
IsInRange (Receipt image digests tx part save) = (1 ≤ tx) × (tx ≤ MAX_TX) × IsPartInRange part
IsInRange (AsOf image n digests) = n ≤ MAX_TX
IsInRange _ = Unit {0}

-- what was given under a name
abbrev pub given : List Use → Text → Option Text
given uses name = option_map (λ u. u.1) (find (λ u. bytes_eq u.0 name) uses)

-- `[--block-size N] [--clock T] [--database D]`
unfoldable pub settings : (Text → Option Text) → Option Settings
settings value =
    or_default 100000 (number_in 1 100000) (value (codes "block-size")) >>= λ size.
    if_given (number_in 0 MAX_TICKS) (value (codes "clock")) >>= λ clock.
    or_default (codes "LedgerDB") database_name (value (codes "database")) >>= λ database.
    Some (record { block_size = size; clock = clock; database = database })

-- `[--from JOURNAL]`: the journal says the name of the database, so that `--database` isn't given beside it
unfoldable pub past_journal : (Text → Option Text) → Option (Option Text)
past_journal value =
    if_given file_name (value (codes "from")) >>= λ journal.
    if is_some journal && is_some (value (codes "database")) then None else Some journal

-- an event is shown of a table alone
abbrev pub part_from : Option ℕ → Option ℕ → Option Part
part_from None None = Some shown.Entry
part_from (Some id) None = Some (shown.Table id)
part_from (Some id) (Some number) = Some (shown.Event id number)
part_from None (Some number) = None

-- `[--table ID [--event NUMBER]]`
unfoldable pub part : (Text → Option Text) → Option Part
part value =
    if_given (number_in 1 MAX_TABLE) (value (codes "table")) >>= λ table.
    if_given (number_in 0 MAX_EVENT) (value (codes "event")) >>= λ event.
    part_from table event

-- what the values under the names of its operands and options say; none where one of them lacks its form
unfoldable pub meaning_of : Subcommand → (Text → Option Text) → Option Command
meaning_of which.Step value = value (codes "save") >>= save_name >>= λ save.
    past_journal value >>= λ journal. settings value >>= λ how. Some (Step save journal how)
meaning_of which.Run value = value (codes "save") >>= save_name >>= λ save.
    past_journal value >>= λ journal. settings value >>= λ how. Some (Run save journal how)
meaning_of which.Verify value = value (codes "IMAGE") >>= file_name >>= λ image.
    if_given file_name (value (codes "DIGESTS")) >>= λ digests.
    or_default 1 (number_in 1 16) (value (codes "workers")) >>= λ workers.
    Some (Verify image digests workers false)
meaning_of which.Extract value = value (codes "HONEST") >>= file_name >>= λ honest.
    value (codes "SUSPECT") >>= file_name >>= λ suspect.
    value (codes "DIGESTS") >>= file_name >>= λ digests.
    Some (Extract honest suspect digests)
meaning_of which.Replay value = value (codes "JOURNAL") >>= file_name >>= λ journal.
    value (codes "save") >>= save_name >>= λ save.
    Some (Replay journal save)
meaning_of which.Upgrade value = value (codes "IMAGE") >>= file_name >>= λ image.
    value (codes "save") >>= save_name >>= λ save.
    Some (Upgrade image save)
meaning_of which.Gen value = value (codes "COUNT") >>= number_in 1 10000 >>= λ count.
    Some (Gen count)
meaning_of which.Receipt value = value (codes "IMAGE") >>= file_name >>= λ image.
    value (codes "DIGESTS") >>= file_name >>= λ digests.
    value (codes "TX") >>= number_in 1 MAX_TX >>= λ tx.
    part value >>= λ shows.
    value (codes "save") >>= save_name >>= λ save.
    Some (Receipt image digests tx shows save)
meaning_of which.Join value = value (codes "IMAGE") >>= file_name >>= λ image.
    value (codes "DIGESTS") >>= file_name >>= λ digests.
    value (codes "save") >>= save_name >>= λ save.
    Some (Join image digests save)
meaning_of which.Check value = value (codes "RECEIPT") >>= file_name >>= λ receipt.
    value (codes "DIGESTS") >>= file_name >>= λ digests.
    Some (Check receipt digests)
meaning_of which.AsOf value = value (codes "IMAGE") >>= file_name >>= λ image.
    value (codes "N") >>= number_in 0 MAX_TX >>= λ n.
    if_given file_name (value (codes "digests")) >>= λ digests.
    Some (AsOf image n digests)

abbrev pub has_dashes : List Text → Bool
has_dashes words = list_any (λ w. bytes_eq w (codes "--")) words

-- what words say: options as `--name value` or `--name=value`, each at most once, and operands, in any order; no word
-- is `--`
unfoldable pub plain_of : Subcommand → List Text → Option Command
plain_of which words = if has_dashes words then None
    else uses_of (options_of which) (operands_of which) words >>= λ uses. meaning_of which (given uses)

-- the first word is `--coverage`
abbrev pub asks_coverage : List Text → Bool
asks_coverage [] = false
asks_coverage (word ∷ words) = bytes_eq word (codes "--coverage")

-- the command says what the digests cover; `verify` alone does
abbrev pub covering : Command → Option Command
covering (Verify image digests workers covers) = Some (Verify image digests workers true)
covering command = None

-- what the words behind a command say; `--coverage` stands before all others
unfoldable pub arguments_of : Subcommand → List Text → Option Command
arguments_of which words =
    if asks_coverage words then plain_of which (drop 1 words) >>= covering else plain_of which words

-- the words ask for help and nothing else
abbrev pub asks_help : List Text → Bool
asks_help (word ∷ []) = bytes_eq word (codes "--help") || bytes_eq word (codes "-h")
asks_help words = false

-- what a word says that stands alone
unfoldable pub alone : Text → Option Command
alone word =
    if asks_help (word ∷ []) || bytes_eq word (codes "help") then Some (Help None)
    else if bytes_eq word (codes "--version") || bytes_eq word (codes "-V") then Some Version
    else None

-- `help` and the name of a command
abbrev pub help_on : Text → Text → Option Command
help_on word name =
    if bytes_eq word (codes "help") then (named name >>= λ which. Some (Help (Some which))) else None

-- what words say the first of which names no command
abbrev pub others : Text → List Text → Option Command
others word [] = alone word
others word (name ∷ []) = help_on word name
others word words = None

abbrev pub behind : Option Subcommand → Text → List Text → Option Command
behind (Some which) word words =
    if asks_help words then Some (Help (Some which)) else arguments_of which words
behind None word words = others word words

-- the command that the words say; none where they have no command's form
unfoldable pub command_of : List Text → Option Command
command_of [] = None
command_of (word ∷ words) = behind (named word) word words
