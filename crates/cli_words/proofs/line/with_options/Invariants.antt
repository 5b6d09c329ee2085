use Rattle.std.proofs.Common.{◌≡◌, take}
use Rattle.std.specs.List.{fold}
use Rattle.clap.specs.Words.{app_of}
use Rattle.cli_words.specs.Shapes.{with_option}
use Rattle.cli_words.proofs.line.with_options.Given as goal

abbrev pub invariant-loop-name : goal.invariant-loop-name
invariant-loop-name l = app_of l.command ≡ fold (λ a name. with_option a name.now) (app_of l.initial.command) (take l.name-index l.names)
