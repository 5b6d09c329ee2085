use Rattle.std.proofs.Common.{◌≡◌, Bool, true, false, List, [], Option, Some, None, is_some, refl, sym, ap, subst, arith, true≢false}
use Rattle.std.specs.Prelude.{if◌then◌else◌, drop}
use Rattle.cli_words.specs.Arguments.{Says, SaysBy, SaysPlain, spelled_out}
use Rattle.cli_words.specs.Commands.{Command, asks_coverage, covering, given, has_dashes, meaning_of, plain_of, arguments_of}
use Rattle.cli_words.specs.Line.{Text, Use, nothing, is_among, uses_of, ◌>>=◌}
use Rattle.cli_words.specs.Subcommands.{operands_of, options_of}
use Rattle.cli_words.specs.declared.subcommand.Subcommand.{Subcommand}
use Rattle.cli_words.specs.declared.subcommand.Subcommand.TheVariants.{Step, Run, Verify, Extract, Replay, Upgrade, Gen, Receipt, Join, Check, AsOf}
use Rattle.cli_words.proofs.Spelled.{AreNames, IsOptionName, each_name, complete, sound}

option_names : (which : Subcommand) → AreNames (options_of which)
option_names Step = ((omega arith, refl), ((omega arith, refl), ((omega arith, refl), ((omega arith, refl), ((omega arith, refl), tt)))))
option_names Run = ((omega arith, refl), ((omega arith, refl), ((omega arith, refl), ((omega arith, refl), ((omega arith, refl), tt)))))
option_names Verify = ((omega arith, refl), tt)
option_names Extract = tt
option_names Replay = ((omega arith, refl), tt)
option_names Upgrade = ((omega arith, refl), tt)
option_names Gen = tt
option_names Receipt = ((omega arith, refl), ((omega arith, refl), ((omega arith, refl), tt)))
option_names Join = ((omega arith, refl), tt)
option_names Check = tt
option_names AsOf = ((omega arith, refl), tt)

names : (which : Subcommand) (n : Text) → is_among (options_of which) n ≡ true → IsOptionName n
names which = each_name (options_of which) (option_names which)

accepted_plain : (which : Subcommand) (words : List Text) (command : Command) → SaysPlain which words command → plain_of which words ≡ Some command
unfolding plain_of
accepted_plain which words command says =
    let read : uses_of (options_of which) (operands_of which) (spelled_out says.arguments) ≡ Some says.uses =
    complete (options_of which) (operands_of which) (names which) says.arguments [] [] says.uses nothing 0 refl says.give in
    let same : uses_of (options_of which) (operands_of which) words ≡ Some says.uses =
    subst (λ (w : List Text). uses_of (options_of which) (operands_of which) w ≡ Some says.uses) (sym says.spelling) read in
    rw (says.no_dashes, same) says.meaning

no_answer : {X : Type 0} (x : X) → None ≡ Some x → ⊥
no_answer x e = true≢false (sym (ap is_some e))

spelled_plain : (which : Subcommand) (words : List Text) (command : Command) → plain_of which words ≡ Some command → SaysPlain which words command
unfolding plain_of
spelled_plain which words command e = on_dashes (has_dashes words) refl e
  where
    on_uses : has_dashes words ≡ false → (o : Option (List Use)) → uses_of (options_of which) (operands_of which) words ≡ o
        → (o >>= λ uses. meaning_of which (given uses)) ≡ Some command → SaysPlain which words command
    on_uses none None read f = absurd (no_answer command f)
    on_uses none (Some uses) read f =
        let s = sound (options_of which) (operands_of which) (names which) words [] nothing 0 uses read in
        record { arguments = s.0; uses = uses; spelling = s.1; no_dashes = none; give = s.2; meaning = f }

    on_dashes : (b : Bool) → has_dashes words ≡ b
        → (if b then None else (uses_of (options_of which) (operands_of which) words >>= λ uses. meaning_of which (given uses))) ≡ Some command
        → SaysPlain which words command
    on_dashes true some f = absurd (no_answer command f)
    on_dashes false none f = on_uses none (uses_of (options_of which) (operands_of which) words) refl f

-- ---- with `--coverage` before them, or without it

pub accepted : (which : Subcommand) (words : List Text) (command : Command) → Says which words command → arguments_of which words ≡ Some command
unfolding arguments_of
accepted which words command says = by (asks_coverage words) says
  where
    by : (b : Bool) → SaysBy b which words command → (if b then plain_of which (drop 1 words) >>= covering else plain_of which words) ≡ Some command
    by true says = rw (accepted_plain which (drop 1 words) says.0 says.1) says.2
    by false says = accepted_plain which words command says

pub spelled_words : (which : Subcommand) (words : List Text) (command : Command) → arguments_of which words ≡ Some command → Says which words command
unfolding arguments_of
spelled_words which words command e = by (asks_coverage words) e
  where
    on_plain : (o : Option Command) → plain_of which (drop 1 words) ≡ o → (o >>= covering) ≡ Some command → SaysBy true which words command
    on_plain None read f = absurd (no_answer command f)
    on_plain (Some plain) read f = (plain, spelled_plain which (drop 1 words) plain read, f)

    by : (b : Bool) → (if b then plain_of which (drop 1 words) >>= covering else plain_of which words) ≡ Some command → SaysBy b which words command
    by true f = on_plain (plain_of which (drop 1 words)) refl f
    by false f = spelled_plain which words command f
