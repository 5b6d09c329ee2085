use Rattle.std.proofs.Common.{map, string_bytes, subst}
use Rattle.std.proofs.lemmas.Result.{IfOk-weaker}
use Rattle.clap.specs.Words.{App}
use Rattle.cli_words.specs.Shapes.{Matched}
use Rattle.cli_words.proofs.Meant.{found}
use Rattle.cli_words.proofs.line.read_line.Goals as goal

pub returns : goal.returns
returns c =
    let W = map string_bytes c.args.words.now in
    IfOk-weaker c.matched.result _ _ (λ o m. found c.args.which W o c.requires (subst (λ (a : App). Matched a W o) c.in_ok-command.ensures.app m)) c.matched.ensures
