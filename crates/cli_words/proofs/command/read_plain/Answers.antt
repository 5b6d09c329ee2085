use Rattle.std.proofs.Common.{◌∙◌, sym, subst, map, drop, string_bytes, Option}
use Rattle.clap.specs.declared.parser.matches.ArgMatches.{ArgMatches}
use Rattle.cli_words.specs.Line.{uses_of}
use Rattle.cli_words.specs.Shapes.{Finds}
use Rattle.cli_words.specs.Subcommands.{operands_of, options_of}
use Rattle.cli_words.proofs.Meant.{arguments_found, arguments_none, arguments_dashes, dashes_are}
use Rattle.cli_words.proofs.command.read_plain.Goals as goal

pub read_line-requires : goal.read_line-requires
read_line-requires c = dashes_are c.args.words.now ∙ sym c.has_dashes.ensures ∙ c.if-has_dashes.false

pub returns-then-has_dashes : goal.returns-then-has_dashes
returns-then-has_dashes c = arguments_dashes c.args.which _ (dashes_are c.args.words.now ∙ sym c.has_dashes.ensures ∙ c.if-has_dashes.true)

pub returns-in-Some : goal.returns-in-Some
returns-in-Some c =
    let W = drop 1 (map string_bytes c.args.words.now) in
    let finds = subst (λ (o : Option ArgMatches). Finds (uses_of (options_of c.args.which) (operands_of c.args.which) W) o) c.in-Some.is c.in_ok-matches.ensures in
    c.meaning_of-meaning.ensures ∙ arguments_found c.args.which W c.in-Some.matches (dashes_are c.args.words.now ∙ sym c.has_dashes.ensures ∙ c.if-has_dashes.false) finds

pub returns-in-None : goal.returns-in-None
returns-in-None c =
    let W = drop 1 (map string_bytes c.args.words.now) in
    let finds = subst (λ (o : Option ArgMatches). Finds (uses_of (options_of c.args.which) (operands_of c.args.which) W) o) c.in-None.is c.in_ok-matches.ensures in
    arguments_none c.args.which W (dashes_are c.args.words.now ∙ sym c.has_dashes.ensures ∙ c.if-has_dashes.false) finds
