use Rattle.std.proofs.Common.{List, sym, ap, subst}
use Rattle.server_session.specs.KeptCell.{KeptCell}
use Rattle.server_engine.specs.Starts.{Starts, past_in}
use Rattle.server_past.proofs.cells.past_cells.Goals as goal

pub returns-clause-starts : goal.returns-clause-starts
returns-clause-starts c = λ h J leads.
    subst (λ (cells : List KeptCell). Starts h c.args.past.database c.args.block_size cells) (sym (c.in_ok-cells.ensures h J leads))
    (c.runs_start_behind_a_past.ensures h c.args.block_size J c.args.past c.requires.some c.requires.most leads)

pub returns-clause-behind : goal.returns-clause-behind
returns-clause-behind c = ap past_in (c.in_ok-cells.ensures c.requires.leads.0 c.requires.leads.1 c.requires.leads.2)
