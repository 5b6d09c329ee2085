-- The commands, as clap sees them.
use Rattle.std.specs.Prelude.{◌≢◌, ◌≡◌, ◌+◌, ℕ, List, [], ◌∷◌, ◌++◌, map, Option, Some, None, true}
use Rattle.std.specs.List.{fold}
use Rattle.cli_words.specs.Line.{Text, Use}
use Rattle.cli_words.specs.Commands.{given}
use Rattle.cli_words.specs.Subcommands.{name_of, operands_of, options_of}
use Rattle.cli_words.specs.declared.subcommand.Subcommand.{Subcommand}
use Rattle.clap.specs.Words.{App, Rule, Shape, new_app, new_rule, with_rule, found_of, first_value, fault_of, matches_of, rows_of}
use Rattle.clap.specs.Simple.{new_shape}
use Rattle.clap.specs.declared.parser.matches.ArgMatches.{ArgMatches}
use Rattle.clap.specs.declared.builder.action.ArgAction.TheVariants.{Set}
use Rattle.clap.specs.declared.builder.value_parser.ValueParser.TheVariants as vp

abbrev pub option_rule : Text → Rule
option_rule name = record (new_rule name) { long = Some name }

abbrev pub no_help : App → App
no_help a = record a { top = record a.top { disable_help_flag = true } }

-- a command with operands and then options
abbrev pub with_operand : App → Text → App
with_operand a name = with_rule a (new_rule name)

abbrev pub with_option : App → Text → App
with_option a name = with_rule a (option_rule name)

abbrev pub app_with : Text → List Text → List Text → App
app_with name operands options =
    fold with_option (fold with_operand (no_help (new_app name)) operands) options

abbrev pub app_for : Subcommand → App
app_for which = app_with (name_of which) (operands_of which) (options_of which)

-- what clap makes of the words: its matches, or none exactly where it has a fault to tell
abbrev pub Matched : App → List Text → Option ArgMatches → Type 0
Matched app words (Some m) = (fault_of app words ≡ []) × (rows_of (found_of m) ≡ matches_of app words)
Matched app words None = fault_of app words ≢ []

-- what clap finds is what the words give
abbrev pub Finds : Option (List Use) → Option ArgMatches → Type 0
Finds (Some uses) (Some m) = (t : Text) → first_value (found_of m) t ≡ given uses t
Finds None None = Unit {0}
Finds uses found = ⊥

-- ---- what clap makes of them when it builds them

abbrev pub full : Rule → Rule
full a = record a {
  action = Some Set;
  range = Some (record { start_inclusive = 1; end_inclusive = 1 });
  parser = Some vp.String;
}

abbrev pub full_operand : Text → ℕ → Rule
full_operand name place = record (full (new_rule name)) { index = Some place }

abbrev pub full_option : Text → Rule
full_option name = full (option_rule name)

abbrev pub operand_rules : List Text → ℕ → List Rule
operand_rules [] place = []
operand_rules (name ∷ names) place = full_operand name place ∷ operand_rules names (place + 1)

abbrev pub line_rules : List Text → List Text → List Rule
line_rules options operands = operand_rules operands 1 ++ map full_option options

abbrev pub line_shape : Text → List Text → List Text → Shape
line_shape name options operands = record (new_shape name) {
  rules = line_rules options operands;
  disable_help_flag = true;
  disable_help_subcommand = true;
  is_built = true;
}
