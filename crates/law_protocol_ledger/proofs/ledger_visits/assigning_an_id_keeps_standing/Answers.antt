use Rattle.std.proofs.Common.{◌≡◌, ℕ, [], ◌∷◌, sym, subst}
use Rattle.std.specs.Prelude.{slice_set}
use mathlib.Core.Option.{some}
use lib.ListN.{get_elem?}
use Rattle.spec_protocol.specs.Cells.{Ledger}
use Rattle.spec_history.specs.Acts.{assigns_id}
use Rattle.spec_protocol.specs.StandTogether.{StandsAfter}
use Rattle.law_protocol_steps.proofs.LedgerVisit.{lies_there}
use Rattle.law_protocol_steps.proofs.AssignsId.{assigns_id_stands}
use Rattle.law_protocol_ledger.proofs.ledger_visits.assigning_an_id_keeps_standing.Goals as goal

pub returns : goal.returns
returns g = λ v history cells seats st i j s there explicit c d t here w. let e = lies_there cells st.catalog st.ledger c st.are_cells i here in
    subst (λ (n : ℕ). StandsAfter v j history (assigns_id c.next explicit ∷ []) (slice_set cells n (Ledger d)) (slice_set seats j t)) (sym e) (assigns_id_stands v cells seats st j s there explicit c d t (subst (λ (n : ℕ). get_elem? cells n ≡ some (Ledger c)) e here) w)
