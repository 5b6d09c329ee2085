use Rattle.std.proofs.Common.{ap, ◌∙◌}
use Rattle.std.specs.List.{slice_get}
use Rattle.sql_change.specs.KeyOrder.{has_key_of, is_there, passes}
use Rattle.sql_change.proofs.KeyOrder.{among}
use Rattle.sql_change.proofs.among.KeptRows.has_key_of.Goals as goal

pub returns : goal.returns
returns c =
    let columns = c.args.table.now.columns in
    let rows = c.args.self.now.rows in
    let row = c.args.row.now in
    let order = c.args.self.now.by_key.items in
    let test = passes (has_key_of columns row) rows in
    c.has_key_at_rank.ensures
    ∙ ap (λ xs. is_there test (slice_get xs c.args.place)) c.deref.ensures.value
    ∙ ap (λ n. is_there test (slice_get order n)) c.requires.here
    ∙ among columns rows row order c.requires.in_order
