use Rattle.std.proofs.Common.{◌∙◌, ◌++◌, ◌∷◌, [], ℕ, List, map, string_bytes, ap, ap₂, sym, arith}
use Rattle.std.proofs.lemmas.List.{map_push}
use Rattle.workload_generator.proofs.Numbers.{all_taken, one_more}
use Rattle.workload_generator.proofs.workload.statements_of.Goals as goal

pub loop-n-preserved : goal.loop-n-preserved
loop-n-preserved c =
    ap (map string_bytes) c.in_ok-push.ensures.items
    ∙ map_push string_bytes c.loop-n.texts.items c.in_ok-nth_text.field-0
    ∙ ap₂ (λ (xs : List (List ℕ)) (x : List ℕ). xs ++ x ∷ []) c.loop-n.invariant c.in_ok-nth_text.ensures
    ∙ sym (one_more c.args.table c.args.rows c.loop-n.n (omega (arith, c.loop-n-test.true, c.statement_count-count.ensures)))

pub returns : goal.returns
returns c = c.loop-n.invariant ∙ all_taken c.args.table c.args.rows c.loop-n.n (omega (arith, c.loop-n-test.false, c.statement_count-count.ensures))
