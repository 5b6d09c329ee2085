-- The words behind a command, taken apart: options with their values, and operands.
use Rattle.std.specs.Prelude.{◌≡◌, ◌+◌, ℕ, Bool, true, false, drop, List, [], ◌∷◌, ◌++◌, Some, None, slice_get, flat_map}
use Rattle.clap.specs.Lexer.{long_of}
use Rattle.cli_words.specs.Commands.{Command, asks_coverage, covering, given, has_dashes, meaning_of}
use Rattle.cli_words.specs.Line.{Text, Use, is_among, is_short, is_used}
use Rattle.cli_words.specs.Subcommands.{operands_of, options_of}
use Rattle.cli_words.specs.declared.subcommand.Subcommand.{Subcommand}

pub data Argument : Type 0 where
  -- an option and its value in two words, `--name` and `value`
  two : Text → Text → Argument
  -- an option and its value in one word, `--name=value`
  one : Text → Text → Argument
  -- a word by itself
  operand : Text → Argument

abbrev pub spelled : Argument → List Text
spelled (two name value) = (45 ∷ 45 ∷ name) ∷ value ∷ []
spelled (one name value) = (45 ∷ 45 ∷ (name ++ 61 ∷ value)) ∷ []
spelled (operand value) = value ∷ []

abbrev pub spelled_out : List Argument → List Text
spelled_out = flat_map spelled

-- the word begins as no option does: with two hyphens and a letter, or with one and a letter
abbrev pub IsValueWord : Text → Type 0
IsValueWord word = (long_of word ≡ None) × (is_short word ≡ false)

-- The arguments give these uses, after those `before`, and operands from the number `at` on. Each option is
-- one of those that may stand there, each operand has a name by its number, and no name comes twice.
abbrev pub Give : List Text → List Text → List Use → ℕ → List Argument → List Use → Type 0
Give options operands before at [] all = all ≡ before
Give options operands before at (two name value ∷ rest) all =
    (is_among options name ≡ true) × IsValueWord value × (is_used before name ≡ false)
    × Give options operands (before ++ (name, value) ∷ []) at rest all
Give options operands before at (one name value ∷ rest) all =
    (is_among options name ≡ true) × (is_used before name ≡ false)
    × Give options operands (before ++ (name, value) ∷ []) at rest all
Give options operands before at (operand value ∷ rest) all =
    IsValueWord value × ((name : Text) × (slice_get operands at ≡ Some name) × (is_used before name ≡ false)
    × Give options operands (before ++ (name, value) ∷ []) (at + 1) rest all)

-- the words spell arguments of this command, and what these give under their names means this
pub record SaysPlain (which : Subcommand) (words : List Text) (command : Command) : Type 0 where
  pub arguments : List Argument
  pub uses : List Use
  pub spelling : words ≡ spelled_out arguments
  pub no_dashes : has_dashes words ≡ false
  pub give : Give (options_of which) (operands_of which) [] 0 arguments uses
  pub meaning : meaning_of which (given uses) ≡ Some command

-- the same, by whether `--coverage` stands before them
abbrev pub SaysBy : Bool → Subcommand → List Text → Command → Type 0
SaysBy true which words command =
    (plain : Command) × SaysPlain which (drop 1 words) plain × (covering plain ≡ Some command)
SaysBy false which words command = SaysPlain which words command

abbrev pub Says : Subcommand → List Text → Command → Type 0
Says which words command = SaysBy (asks_coverage words) which words command
