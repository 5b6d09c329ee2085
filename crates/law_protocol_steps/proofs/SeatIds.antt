-- One id is one seat's, and one whose end isn't fixed isn't in the journal.
use Rattle.std.proofs.Common.{◌≡◌, ◌≢◌, ℕ, List, false, ⊎_elim}
use Rattle.law_protocol_steps.proofs.Ids as ids
use Rattle.law_protocol_steps.proofs.OfCells.{in_journal}
use Rattle.spec_protocol.specs.Cells.{Cell}
use Rattle.spec_protocol.specs.OpenOnes.{HasOpen}
use Rattle.spec_protocol.specs.Seats.{OpenTransaction, SeatState, Session}
use Rattle.spec_protocol.specs.Server.{Server}
use Rattle.spec_protocol.specs.StandTogether.{History, Stands}
use Rattle.std.proofs.lemmas.Bool.{cases_eq}
use Rattle.law_protocol_steps.proofs.Ids.{has_not}
use Rattle.spec_history.specs.Transactions.{unfixed}

module _ (v : Server) (cells : List Cell) (seats : List SeatState) {history : History} (S : Stands v history cells seats) where
  pub one_seat : (j k : ℕ) (x y : Session) (o p : OpenTransaction) → HasOpen seats j x o → HasOpen seats k y p → o.id ≡ p.id → j ≡ k
  one_seat j k x y o p h g e = ⊎_elim (λ (same : j ≡ k). same) (λ (ne : j ≢ k). absurd (ids.differ v history S.ledger seats S.transcripts_agree j k x y o p ne h g e)) (cases_eq j k)

  pub outside : (j : ℕ) (x : Session) (o : OpenTransaction) (n : ℕ) → HasOpen seats j x o → o.end ≡ unfixed → in_journal S.ledger.items (o.id, n) ≡ false
  outside j x o n h e = has_not o.id S.ledger.items (ids.outside v history S.ledger seats S.transcripts_agree j x o h e)
