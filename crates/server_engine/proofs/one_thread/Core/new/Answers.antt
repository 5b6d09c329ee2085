use Rattle.std.proofs.Common.{List, sym, subst}
use Rattle.law_behind.specs.Past.{no_past}
use Rattle.server_session.specs.KeptCell.{KeptCell}
use Rattle.server_engine.specs.Starts.{StartsBehind}
use Rattle.server_engine.proofs.one_thread.Core.new.Goals as goal

pub returns : goal.returns
returns g c =
    let h = g.H.Hash32.digest c.args.hasher in
    let database = c.args.database in
    let size = c.args.block_size in
    c.over.ensures database size no_past (subst (λ (cells : List KeptCell). StartsBehind h database size no_past cells) (sym c.in_ok-cells.ensures)
    (c.runs_start.ensures.with_none h database size c.requires.some c.requires.most))
