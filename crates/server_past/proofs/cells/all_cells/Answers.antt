use Rattle.std.proofs.Common.{sym, subst}
use Rattle.spec_syntax.specs.Text.{statement_of}
use Rattle.server_past.specs.Ready.{AreReady}
use Rattle.server_past.proofs.Ready.{are_ready, is_counted}
use Rattle.server_past.proofs.cells.all_cells.Goals as goal

pub going_on-ledger-requires : goal.going_on-ledger-requires
going_on-ledger-requires c =
    let leads = c.requires.leads.2 in
    is_counted c.requires.leads.0 statement_of c.args.past.items.items c.args.block_size c.args.past.next c.args.past.ledger_chain.ledger
    leads.led.legal c.requires.some c.requires.most leads.most leads.led.ledger

pub cells_of-requires : goal.cells_of-requires
cells_of-requires c =
    let leads = c.requires.leads.2 in
    subst AreReady (sym leads.led.tables) (are_ready statement_of c.args.past.items.items leads.led.legal)
