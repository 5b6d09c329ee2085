use Rattle.std.proofs.Common.{List, ℕ, subst, sym}
use Rattle.server_step.specs.Starts.{Starts}
use Rattle.cli_commands.proofs.start.start_of.Goals as goal

pub returns : goal.returns
returns c h J leads = record {
  past = c.args.past;
  leads = leads;
  of = c.in_ok-database.ensures;
  starts = subst (λ (d : List ℕ). Starts h d c.args.block_size c.in_ok-cells.cells.items) (sym c.in_ok-database.ensures) (c.in_ok-cells.ensures.starts h J leads);
  behind = c.in_ok-cells.ensures.behind;
}
