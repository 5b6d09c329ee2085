use Rattle.std.proofs.Common.{ap, ◌≡◌, ◌∙◌}
use Rattle.std.proofs.lemmas.Result.{IfOk-weaker}
use Rattle.clap.specs.Words.{app_of, new_app, is_simple_and_free}
use Rattle.clap.specs.Simple.{app_of_fields}
use Rattle.cli_words.specs.Shapes.{no_help, with_operand, with_option}
use Rattle.cli_words.specs.Subcommands.{name_of}
use Rattle.cli_words.proofs.Adding.{added}
use Rattle.cli_words.proofs.End.{simple}
use Rattle.cli_words.proofs.line.command_for.Goals as goal

pub returns-clause-app : goal.returns-clause-app
returns-clause-app c =
    let start : app_of c.disable_help_flag-command.result ≡ no_help (new_app (name_of c.args.which)) =
    ap app_of_fields c.disable_help_flag-command.ensures ∙ ap no_help (c.new.ensures.app ∙ ap new_app c.name.ensures) in
    let first = c.in_ok-command.ensures ∙ added with_operand (λ name. name.now) _ _ _ _ start c.operands.ensures in
    IfOk-weaker c.with_options.result _ _ (λ k h. h ∙ added with_option (λ name. name.now) _ _ _ _ first c.options.ensures) c.with_options.ensures

pub returns-clause-simple : goal.returns-clause-simple
returns-clause-simple c =
    IfOk-weaker c.with_options.result _ _ (λ k e. ap is_simple_and_free e ∙ simple c.args.which) (returns-clause-app c)
