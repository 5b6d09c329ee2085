use Rattle.clap.specs.Words.{app_of}
use Rattle.cli_words.specs.Shapes.{with_option}
use Rattle.cli_words.proofs.Adding.{one_more}
use Rattle.cli_words.proofs.line.with_options.Goals as goal

pub loop-name-preserved : goal.loop-name-preserved
loop-name-preserved c = one_more with_option (λ name. name.now) (app_of c.args.command) (app_of c.loop-name.command) (app_of c.in_ok-command.command)
    c.args.names.now c.loop-name.name-index _ c.loop-name-test.true c.in_ok-command.ensures c.loop-name.invariant
