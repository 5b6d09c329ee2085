use Rattle.std.proofs.Common.{◌≡◌, ◌++◌, ℕ, [], ◌∷◌, sym, subst}
use Rattle.std.specs.Prelude.{slice_set}
use mathlib.Core.Option.{some}
use lib.ListN.{get_elem?}
use Rattle.spec_protocol.specs.Cells.{Ledger, pending_in}
use Rattle.spec_model.specs.Journals.{tx_count}
use Rattle.spec_history.specs.Acts.{issues, lacks}
use Rattle.spec_protocol.specs.ActsOf.{closings}
use Rattle.spec_protocol.specs.StandTogether.{StandsAfter}
use Rattle.law_protocol_steps.proofs.LedgerVisit.{lies_there}
use Rattle.law_protocol_changes.proofs.DigestsStand.{issues_stand, lacks_stand}
use Rattle.law_protocol_ledger.proofs.ledger_visits.digests_keep_standing.Goals as goal

pub returns : goal.returns
returns g = record {
  issues = λ v history cells seats st i j s there moment c d t here w. let e = lies_there cells st.catalog st.ledger c st.are_cells i here in
      subst (λ (n : ℕ). StandsAfter v j (history ++ closings v (pending_in c) c) (issues w.digest (tx_count c.items) ∷ []) (slice_set cells n (Ledger d)) (slice_set seats j t)) (sym e) (issues_stand v cells seats st j s there moment c d t (subst (λ (n : ℕ). get_elem? cells n ≡ some (Ledger c)) e here) w);
  lacks = λ v history cells seats st i j s there c d t here w same. let e = lies_there cells st.catalog st.ledger c st.are_cells i here in
      subst (λ (n : ℕ). StandsAfter v j history (lacks ∷ []) (slice_set cells n (Ledger d)) (slice_set seats j t)) (sym e) (lacks_stand v cells seats st j s there c d t (subst (λ (n : ℕ). get_elem? cells n ≡ some (Ledger c)) e here) w same);
}
