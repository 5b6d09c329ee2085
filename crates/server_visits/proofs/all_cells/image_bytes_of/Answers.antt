use Rattle.std.proofs.lemmas.Result.{on_ok_weaker}
use Rattle.server_visits.proofs.ImagesOfCells.{is_catalog, is_ledger, journal_has_room, leads_there}
use Rattle.server_visits.proofs.all_cells.image_bytes_of.Goals as goal

pub image_bytes_of_cells-requires : goal.image_bytes_of_cells-requires
image_bytes_of_cells-requires c =
    let all = c.args.cells.now in
    let st = c.requires.together.stands in
    let catalog = c.catalog_among-catalog.result.now in
    let ledger = c.ledger_among.result.now.cell in (
      c.requires.hash,
      leads_there all c.requires catalog ledger
          (is_catalog all st.catalog st.ledger st.are_cells catalog c.catalog_among-catalog.ensures)
          (is_ledger all st.catalog st.ledger st.are_cells ledger c.ledger_among.ensures),
    )

pub returns-clause-room : goal.returns-clause-room
returns-clause-room c = λ stand.
    let all = c.args.cells.now in
    let st = stand.together.stands in
    let catalog = c.catalog_among-catalog.result.now in
    let ledger = c.ledger_among.result.now.cell in
    on_ok_weaker c.image_bytes_of_cells.result (journal_has_room all stand ledger c.ledger_among.ensures)
    (c.image_bytes_of_cells.ensures.room stand.hash
    (leads_there all stand catalog ledger
    (is_catalog all st.catalog st.ledger st.are_cells catalog c.catalog_among-catalog.ensures)
    (is_ledger all st.catalog st.ledger st.are_cells ledger c.ledger_among.ensures)))
