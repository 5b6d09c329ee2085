-- What a CREATE TABLE says of the ledger: a rule of the grammar for each definition.
use Rattle.std.specs.Prelude.{ℕ, Bool, true, false, if◌then◌else◌, List, Option, Some, None}
use denote.Enum.Bare.{sameb}
use Rattle.sql_value.specs.declared.column.TableKind.{TableKind}
use Rattle.sql_value.specs.declared.column.TableKind.TheVariants.{AppendOnly, Updatable}
use Rattle.spec_syntax.specs.declared.tag.Tag.TheVariants as t
use Rattle.spec_syntax.specs.contracts.word.OptionName.{the_type}
use Rattle.spec_syntax.specs.declared.word.OptionName.{OptionName}
use Rattle.spec_syntax.specs.declared.word.OptionName.TheVariants as option
use Rattle.spec_syntax.specs.declared.ledger.Ledger.{Ledger}
use Rattle.spec_syntax.specs.declared.ledger.Choices.{Choices}
use Rattle.spec_syntax.specs.declared.ledger.Choice.{Choice}
use Rattle.spec_syntax.specs.declared.ledger.Choice.TheVariants as choice
use Rattle.spec_syntax.specs.Input.{Parser, ◌>>=◌, ◌>>◌, ◌<$>◌, pure, refuse, required, eat, expect, fold}
use Rattle.spec_syntax.specs.Expr.{name}
use Rattle.spec_syntax.specs.Words.{option_word}

unfoldable pub same_option : OptionName → OptionName → Bool
same_option = sameb the_type

-- the word of this option
unfoldable pub the_option : OptionName → Parser (Unit {0})
the_option wanted = option_word >>= (λ found. if same_option found wanted then pure tt else refuse)

abbrev pub choice_by : OptionName → Parser Choice
choice_by option.AppendOnly = expect t.Equal >> expect t.On >> pure choice.AppendOnly
choice_by option.LedgerView = expect t.Equal >> choice.View <$> name
choice_by _ = refuse

-- APPEND_ONLY '=' ON | LEDGER_VIEW '=' name
unfoldable pub one_choice : Parser Choice
one_choice = option_word >>= choice_by

abbrev pub with_view : Bool → Option (List ℕ) → List ℕ → Option Choices
with_view append_only (Some old) view = None
with_view append_only None view = Some (record { append_only = append_only; view = Some view })

-- each is chosen at most once
abbrev pub with_choice : Choices → Choice → Option Choices
with_choice found choice.AppendOnly =
    if found.append_only then None else Some (record { append_only = true; view = found.view })
with_choice found (choice.View view) = with_view found.append_only found.view view

unfoldable pub choice_step : Choices → Parser Choices
choice_step found = do
  chosen ← one_choice
  required (with_choice found chosen)

abbrev pub choices : Choices → Parser Choices
choices = fold choice_step

abbrev pub no_choices : Choices
no_choices = record { append_only = false; view = None }

-- '=' ON ['(' choice {',' choice} ')']
unfoldable pub chosen : Parser Choices
chosen = do
  expect t.Equal
  expect t.On
  open_ ← eat t.Open
  if open_ then (do found ← choices no_choices; expect t.Close; pure found) else pure no_choices

-- '=' ON ['(' HISTORY_TABLE '=' name ')']
unfoldable pub versions : Parser (Option (List ℕ))
versions = do
  expect t.Equal
  expect t.On
  open_ ← eat t.Open
  if open_
      then (do the_option option.HistoryTable; expect t.Equal; n ← name; expect t.Close; pure (Some n))
      else pure None

-- a table with versions is no append-only one
abbrev pub updatable : Option (List ℕ) → Choices → Option Ledger
updatable old found =
    if found.append_only then None else Some (record { kind = Updatable; history = old; view = found.view })

abbrev pub kind_of : Bool → TableKind
kind_of append_only = if append_only then AppendOnly else Updatable

abbrev pub alone : Choices → Ledger
alone found = record { kind = kind_of found.append_only; history = None; view = found.view }

abbrev pub ledger_by : OptionName → Parser Ledger
ledger_by option.SystemVersioning = do
  old ← versions
  expect t.Comma
  the_option option.Ledger
  found ← chosen
  required (updatable old found)
ledger_by option.Ledger = do
  found ← chosen
  comma ← eat t.Comma
  if comma
      then (do the_option option.SystemVersioning; old ← versions; required (updatable old found))
      else pure (alone found)
ledger_by _ = refuse

-- SYSTEM_VERSIONING versions ',' LEDGER choices | LEDGER choices [',' SYSTEM_VERSIONING versions]
unfoldable pub ledger : Parser Ledger
ledger = option_word >>= ledger_by

-- [WITH '(' ledger ')'], without which a table is updatable
unfoldable pub ledger_part : Parser Ledger
ledger_part = do
  with_ ← eat t.With
  if with_ then (do expect t.Open; found ← ledger; expect t.Close; pure found) else pure (alone no_choices)
