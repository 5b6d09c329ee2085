-- Files that are put one after another, and what a vault has then.
use Rattle.std.specs.Prelude.{◌≡◌, ◌<◌, length, ℕ, List, [], ◌∷◌, ◌++◌, codes, map, take, drop, if◌then◌else◌, bytes_eq, Option, Some, None}
use Rattle.base_io.specs.Store.{NameContent, Bytes, Open, Names}
use Rattle.base_io.specs.declared.vault.VaultErr.{VaultErr}
use Rattle.base_io.specs.declared.vault.VaultErr.TheVariants.{Failed}
use Rattle.sql_types.specs.declared.journal.Journal.{Journal}
use Rattle.format_journal.specs.Journal.{journal_bytes}
use Rattle.cli_audit.specs.declared.files.File.{File}

-- what stands under each name after these were left there in turn: the last one left under a name counts
abbrev pub names_after : List (List ℕ × NameContent) → Names → Names
names_after [] names = names
names_after (left ∷ more) names =
    names_after more (λ name. if bytes_eq name left.0 then left.1 else names name)

-- a vault that tells what it has changed by just these
abbrev pub TellsLeft : List (List ℕ × NameContent) → Option Names → Option Names → Type 0
TellsLeft left None after = Unit {0}
TellsLeft left (Some old) None = ⊥
TellsLeft left (Some old) (Some new) = (name : List ℕ) → new name ≡ names_after left old name

-- a file that was put
abbrev pub put_held : File → List ℕ × NameContent
put_held file = (file.name, Bytes file.bytes)

-- a file whose put failed: what its name has nobody can tell
abbrev pub is_open : File → List ℕ × NameContent
is_open file = (file.name, Open)

-- the first k files stand
abbrev pub FirstArePut : List File → ℕ → Option Names → Option Names → Type 0
FirstArePut files k old new = TellsLeft (map put_held (take k files)) old new

-- the put of some file failed: those before it stand, its name is open, and no other was put
abbrev pub StopsOpen : List File → Option Names → Option Names → Type 0
StopsOpen files old new =
    (k : ℕ) × (file : File) × (rest : List File) × (drop k files ≡ file ∷ rest)
    × TellsLeft (map put_held (take k files) ++ is_open file ∷ []) old new

-- where putting the files stopped, by the vault's answer
abbrev pub StopsBy : VaultErr → List File → Option Names → Option Names → Type 0
StopsBy Failed files old new = StopsOpen files old new
StopsBy _ files old new = (k : ℕ) × (k < length files) × FirstArePut files k old new

-- a vault that tells what it has tells that these bytes stand under the name
abbrev pub TellsHeld : Option Names → Option Names → List ℕ → List ℕ → Type 0
TellsHeld None after name bytes = Unit {0}
TellsHeld (Some old) None name bytes = ⊥
TellsHeld (Some old) (Some new) name bytes = new name ≡ Bytes bytes

-- ---- files that more than one command puts

-- NAME.img has the image of all
abbrev pub image_name : List ℕ → List ℕ
image_name save = save ++ codes ".img"

abbrev pub image_file : List ℕ → List ℕ → File
image_file save bytes = record { name = image_name save; bytes = bytes }

-- NAME.journal has the journal
abbrev pub journal_name : List ℕ → List ℕ
journal_name save = save ++ codes ".journal"

abbrev pub journal_file : List ℕ → Journal → File
journal_file save journal = record { name = journal_name save; bytes = journal_bytes journal }
