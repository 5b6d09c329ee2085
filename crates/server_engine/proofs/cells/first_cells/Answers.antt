use Rattle.std.proofs.Common.{◌≡◌, ◌-◌, ◌∷◌, ◌++◌, [], ap, ◌∙◌, arith}
use Rattle.spec_ledger.specs.Blocks.{no_hash}
use Rattle.spec_protocol.specs.Cells.{first_catalog, first_ledger}
use Rattle.server_session.specs.KeptCell.{KeptCell, catalog_seen, rows_seen}
use Rattle.server_visits.specs.LedgerSeen.{ledger_seen}
use Rattle.server_engine.specs.FirstCells.{all_empty}
use Rattle.server_engine.proofs.FirstCells.{next_empty}
use Rattle.server_engine.proofs.cells.first_cells.Goals as goal

pub returns : goal.returns
returns c =
    let e : c.loop-id.id - 3 ≡ 32 = omega (arith, c.loop-id.auto.id-end, c.loop-id-test.false, c.loop-id.auto.id) in
    c.loop-id.invariant ∙ ap (λ n. catalog_seen first_catalog
    ∷ ledger_seen (record { cell = first_ledger c.args.database c.args.block_size; hash = no_hash }) ∷ all_empty n 3) e

pub loop-id-preserved : goal.loop-id-preserved
loop-id-preserved c = c.in_ok-push-3.ensures.items
    ∙ ap (λ (x : KeptCell). c.loop-id.cells.items ++ x ∷ []) (c.of_rows.ensures ∙ ap rows_seen c.new-in-loop-id.ensures)
    ∙ next_empty c.loop-id.cells.items (catalog_seen first_catalog)
    (ledger_seen (record { cell = first_ledger c.args.database c.args.block_size; hash = no_hash })) c.loop-id.id
    (omega (arith, c.loop-id.auto.id)) c.loop-id.invariant
