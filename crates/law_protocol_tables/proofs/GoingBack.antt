-- The visits that undo, in their own form.
use Rattle.std.proofs.Common.{◌≡◌, ℕ, ◌∷◌, List, set, Some, sym, ap, ◌∙◌, subst}
use mathlib.Core.Option.{some}
use lib.ListN.{get_elem?}
use Rattle.spec_history.specs.Lists.{In}
use Rattle.spec_protocol.specs.Server.{Server}
use Rattle.spec_protocol.specs.Cells.{TableCell, Cell, Rows, cell_of}
use Rattle.spec_protocol.specs.Seats.{going_back, inside, SeatState}
use Rattle.spec_protocol.specs.Moves.{releasing, at_place, sits}
use Rattle.spec_protocol.specs.UndoVisits.{UndoesTo, ReleasesTable}
use Rattle.spec_protocol.specs.StandTogether.{History, Stands}
use Rattle.law_protocol_steps.proofs.TakesInTable.{table_place, cell_at}
use Rattle.law_protocol_tables.proofs.UndoesStand.{undoes_stand}
use Rattle.law_protocol_tables.proofs.ReleasesStand.{releases_stand}

module _ (v : Server) (cells : List Cell) (seats : List SeatState) {history : History} (S : Stands v history cells seats) (j : ℕ) (s : SeatState) (there : get_elem? seats j ≡ some s) (i : ℕ) (c d : TableCell) (t : SeatState) (out : get_elem? cells i ≡ some (Rows c)) where
  here : cell_of c.id ≡ i
  here = cell_at i c (table_place cells S.catalog S.ledger i c S.are_cells out)

  -- on the way back to a savepoint, a table's cell
  pub undoes_to : UndoesTo v c s d t → Stands v history (set cells i (Rows d)) (set seats j t)
  undoes_to L = subst (λ (u : SeatState). Stands v history (set cells i (Rows d)) (set seats j u)) (sym L.seat)
      (undoes_stand v cells seats S j s L.at.stands.x L.o L.at.stands.text L.seq L.rest i c d (record {
        there = there;
        role = L.at.stands.role;
        open_one = L.at.open_one;
        unfixed = L.at.unfixed;
        place = L.at.stands.place ∙ ap (inside L.at.stands.text) (L.goes ∙ ap (λ (n : ℕ). going_back L.seq (n ∷ L.rest)) here);
        out = out;
        cell = L.cell;
      }))

  -- after the end, a table's cell
  pub releases_table : ReleasesTable c s d t → Stands v history (set cells i (Rows d)) (set seats j t)
  releases_table L = subst (λ (u : SeatState). Stands v history (set cells i (Rows d)) (set seats j u)) (sym (L.seat ∙ ap (λ (n : ℕ). sits s (at_place (Some (releasing n L.o)) L.x.place L.x)) here))
      (releases_stand v cells seats S j s L.x L.o i c d (record {
        there = there;
        role = L.at.role;
        open_one = L.at.open_one;
        fixed = L.at.fixed;
        out = out;
        visited = subst (λ (n : ℕ). In n L.o.visited) here L.at.visited;
        not_yet = λ h. L.at.not_yet (subst (λ (n : ℕ). In n L.o.released) (sym here) h);
        cell = L.cell;
      }))
