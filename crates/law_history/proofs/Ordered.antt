-- A history of one statement after another keeps step order.
use Rattle.std.proofs.Common.{◌≡◌, ℕ, ◌<◌, List, [], ◌∷◌, ◌++◌, length, Option, None, refl, sym, ap, ◌∙◌, subst, ⊎_elim}
use Rattle.sql_types.specs.declared.journal.JournalItem.{JournalItem}
use Rattle.spec_history.specs.Lists.{Text}
use Rattle.spec_history.specs.Inputs.{InputSession}
use Rattle.spec_history.specs.Meaning.{Meaning}
use Rattle.spec_history.specs.Transcripts.{Transcript}
use Rattle.spec_history.specs.Facts.{Fact, facts}
use Rattle.spec_history.specs.StepOrder.{Counted, ItemsInOrder, IsStepOrder}
use Rattle.spec_history.specs.Acts.{Act, of, all_shown}
use Rattle.spec_history.specs.Worlds.{first, run}
use Rattle.spec_history.specs.Guards.{Good}
use Rattle.spec_history.specs.Histories.{IsWhole, OneAtATime, rows_of, lines_of, EndsComeLast, pending, ClosesInStep}
use Rattle.law_history.proofs.Order.{counted}
use Rattle.law_history.proofs.Lines.{rows_answer}
use Rattle.law_history.proofs.Items.{items_are, items_run}
use Rattle.law_history.proofs.Rows.{entries_are, rows_show}
use Rattle.spec_history.proofs.Refused.{below_or_nil}
use Rattle.law_history.proofs.Agreed.{of_at, there_at, told_of}

nil_right : (xs ys : List Fact) → xs ++ ys ≡ [] → ys ≡ []
nil_right [] ys e = e
nil_right (x ∷ xs) ys e = cc

module _ (q : Meaning) (db : Text) (es : List Act) (g : Good q db first es) (input : List InputSession) (setup : Option ℕ) (X : List Transcript) (whole : IsWhole input setup X es) where
  all_shown_by : (t : ℕ) → ((run first es).at t).so_far.pending ≡ []
  all_shown_by t = ⊎_elim
      (λ (l : t < length X). (of_at q db es g input setup X whole t _ (there_at q db es g input setup X whole t l)).rest.shown)
      (λ (none : of t es ≡ []). nil_right (facts q None ((run first es).at t).so_far.entries) ((run first es).at t).so_far.pending ((told_of q db es g input setup X whole t).shows ∙ ap all_shown none))
      (below_or_nil t (length X) es whole.all)

  pub keeps_order : (N : ℕ) → OneAtATime first es → EndsComeLast first es → ClosesInStep N (pending 0) es → IsStepOrder q N (lines_of first es) X (run first es).items (rows_of es)
  keeps_order N alone ends in_step = record {
    lines_answered = rows_answer q db X (run first es) (there_at q db es g input setup X whole) (λ t l. (of_at q db es g input setup X whole t _ (there_at q db es g input setup X whole t l)).rest.idle) first es None g refl whole.all alone ends (λ t. refl);
    entries = λ i x h. sym (entries_are i first es) ∙ sym (ap (λ (y : Transcript). y.entries) (of_at q db es g input setup X whole i x h).is);
    counted = subst (Counted (run first es).items 1 0) (rows_show q db first es (λ s. None) [] g alone (λ t. refl) (0, refl, λ t ne. refl) all_shown_by) (counted q db first es g tt);
    items = subst (λ (z : List JournalItem × List Fact). ItemsInOrder N 0 0 z.0 z.1) (λ k. (sym (items_are first es) k, rows_show q db first es (λ s. None) [] g alone (λ t. refl) (0, refl, λ t ne. refl) all_shown_by k)) (items_run q db N (pending 0) first es g in_step);
  }
