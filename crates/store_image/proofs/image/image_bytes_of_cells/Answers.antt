use Rattle.std.proofs.Common.{arith, refl}
use Rattle.spec_syntax.specs.Text.{statement_of}
use Rattle.store_image.proofs.Encoded.{has_room, is_encodable}
use Rattle.store_image.proofs.image.image_bytes_of_cells.Goals as goal

pub write_image-requires : goal.write_image-requires
write_image-requires g c =
    let cells = c.args.cells.now in
    let ledger = c.args.ledger.now.cell in
    let reading = c.readings_of_the_grammar_give_written.ensures in
    is_encodable c.requires.0 (g.C.ShownCells.cells cells) (g.C.ShownCells.catalog cells) ledger c.requires.1
    c.in_ok-tables.tables.items c.in_ok-tables.ensures.tables c.blocks-blocks.result.now
    c.entries-entries.result.now c.blocks-blocks.ensures c.entries-entries.ensures
    (omega (arith, c.blocks-blocks.type_inv.0)) (omega (arith, c.entries-entries.type_inv.0))
    (c.if-not-has_forms.ensures.database refl) (c.if-not-has_forms.ensures.items refl) c.in_ok-tables.ensures.room
    c.in_ok-image.image c.in_ok-image.ensures
    (λ room. c.legal_images_are_encodable.ensures c.requires.0 statement_of ledger.database ledger.items
    (reading.written statement_of reading.parser) c.requires.1.legal room)

pub returns-clause-room : goal.returns-clause-room
returns-clause-room g c = λ h leads.
    let cells = c.args.cells.now in
    has_room h (g.C.ShownCells.cells cells) (g.C.ShownCells.catalog cells) c.args.ledger.now.cell leads
    c.in_ok-tables.tables.items c.in_ok-tables.ensures.tables c.blocks-blocks.result.now
    c.entries-entries.result.now c.blocks-blocks.ensures c.entries-entries.ensures
    (omega (arith, c.blocks-blocks.type_inv.0)) (omega (arith, c.entries-entries.type_inv.0))
    (c.if-not-has_forms.ensures.database refl) (c.if-not-has_forms.ensures.items refl) c.in_ok-tables.ensures.room
