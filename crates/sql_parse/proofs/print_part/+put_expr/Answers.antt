use Rattle.std.proofs.Common.{rules, ◌≡◌, ◌∙◌, ap}
use Rattle.sql_value.specs.Tree.{tree, minus, not, is_null, binary}
use Rattle.sql_value.proofs.Trees.{of_minus, of_not, of_is_null, of_binary}
use Rattle.sql_parse.proofs.Pages.{write_append}
use Rattle.sql_parse.proofs.print_part.+put_expr.Goals as goal

pub returns-in_ok-put_expr-in-Neg : goal.returns-in_ok-put_expr-in-Neg
returns-in_ok-put_expr-in-Neg t c =
    let e : tree c.args.e.now ≡ minus (tree c.in-Neg.a) = ap tree c.in-Neg.is ∙ of_minus c.in-Neg.a in
    search (rules, e, write_append)

pub returns-in_ok-put_expr-in-Not : goal.returns-in_ok-put_expr-in-Not
returns-in_ok-put_expr-in-Not t c =
    let e : tree c.args.e.now ≡ not (tree c.in-Not.a) = ap tree c.in-Not.is ∙ of_not c.in-Not.a in
    search (rules, e, write_append)

pub returns-in_ok-put_null-in-IsNull : goal.returns-in_ok-put_null-in-IsNull
returns-in_ok-put_null-in-IsNull t c =
    let e : tree c.args.e.now ≡ is_null (tree c.in-IsNull.of) c.in-IsNull.negated = ap tree c.in-IsNull.is ∙ of_is_null c.in-IsNull.of c.in-IsNull.negated in
    search (rules, e, write_append)

pub returns-in_ok-put_expr-in-Bin-2 : goal.returns-in_ok-put_expr-in-Bin-2
returns-in_ok-put_expr-in-Bin-2 t c =
    let e : tree c.args.e.now ≡ binary c.in-Bin.op (tree c.in-Bin.a) (tree c.in-Bin.b) = ap tree c.in-Bin.is ∙ of_binary c.in-Bin.op c.in-Bin.a c.in-Bin.b in
    search (rules, e, write_append)
