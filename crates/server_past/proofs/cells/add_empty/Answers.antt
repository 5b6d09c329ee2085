use Rattle.std.proofs.Common.{◌≡◌, ◌++◌, ◌∷◌, [], ◌-◌, ◌+◌, suc, List, ap, ◌∙◌, append_assoc, arith}
use Rattle.server_session.specs.KeptCell.{KeptCell, rows_seen}
use Rattle.server_engine.specs.FirstCells.{all_empty, empty_kept}
use Rattle.server_past.proofs.PastCells.{one_empty}
use Rattle.server_past.proofs.cells.add_empty.Goals as goal

pub loop-id-preserved : goal.loop-id-preserved
loop-id-preserved c =
    let old = c.args.cells.now.items in
    let from = c.args.from in
    let id = c.loop-id.id in
    let more : suc (id - from) ≡ id + 1 - from = omega (arith, c.loop-id.auto.id) in
    c.in_ok-push.ensures.items
    ∙ ap (λ (x : KeptCell). c.loop-id.cells.items ++ x ∷ []) (c.of_rows.ensures ∙ ap rows_seen c.new.ensures)
    ∙ ap (λ (l : List KeptCell). l ++ empty_kept id ∷ []) c.loop-id.invariant
    ∙ append_assoc old (all_empty (id - from) from) (empty_kept id ∷ [])
    ∙ ap (λ (l : List KeptCell). old ++ l) (one_empty (id - from) from id (omega (arith, c.loop-id.auto.id)) ∙ ap (λ n. all_empty n from) more)
