-- The ledger's cell among cells that stand together.
use Rattle.std.proofs.Common.{◌≡◌, ◌<◌, ◌∙◌, List, length, sym, subst, arith}
use Rattle.std.proofs.lemmas.List.{length-map}
use mathlib.Core.Option.{some, some-injective}
use lib.ListN.{get_elem?}
use Rattle.spec_protocol.specs.Cells.{Ledger, ledger_at}
use Rattle.server_engine.specs.Full.{IsLedger}
use Rattle.server_engine.specs.Images.{CellsStand}
use Rattle.server_session.specs.KeptCell.{KeptCell}
use Rattle.server_engine.proofs.Pairs.{seen_at}

module _ (cells : List KeptCell) (stand : CellsStand cells) where
  pub ledger_within : ledger_at < length cells
  ledger_within = let e = stand.together.stands.are_cells.count in let f = length-map cells (λ (c : KeptCell). c.cell) in omega (arith, e, f)

  pub second_is_ledger : (x : KeptCell) → get_elem? cells ledger_at ≡ some x → IsLedger x.cell
  second_is_ledger x here = subst IsLedger
      (some-injective (Ledger stand.together.stands.ledger) x.cell (sym stand.together.stands.are_cells.has_ledger ∙ seen_at (λ (c : KeptCell). c.cell) cells ledger_at x here)) tt
