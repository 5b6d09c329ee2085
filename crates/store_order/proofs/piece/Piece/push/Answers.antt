use Rattle.std.proofs.Common.{◌∙◌, ap, take}
use Rattle.std.specs.List.{insert}
use Rattle.std.proofs.lemmas.List.Edits.{insert_end}
use Rattle.store_order.proofs.piece.Piece.push.Goals as goal

pub returns : goal.returns
returns c =
    let xs = c.args.self.now in
    c.insert.ensures.list ∙ ap (λ n. take 512 (insert xs n c.args.start)) c.len-end.ensures ∙ ap (take 512) (insert_end xs c.args.start)
