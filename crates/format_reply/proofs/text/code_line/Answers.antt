use Rattle.std.proofs.Common.{◌∙◌, ◌∷◌, [], ◌/◌, ◌%◌, sym, append_assoc, arith}
use Rattle.std.proofs.lemmas.Fmt.{decimal_digit}
use Rattle.sql_value.specs.Refusal.{code_of}
use Rattle.spec_model.specs.Replies.{code_line}
use Rattle.format_reply.proofs.Codes.{code_small}
use Rattle.format_reply.proofs.text.code_line.Goals as goal

pub returns : goal.returns
returns c =
    let code = code_of c.args.refusal in
    let small = code_small c.args.refusal in
    (rw (c.code-code.ensures, decimal_digit (code / 10) (omega (arith, small)), decimal_digit (code % 10) (omega arith)) at c.in_ok-format.ensures.ok)
    ∙ sym (append_assoc c.args.indent.now (code_line code) (10 ∷ []))
