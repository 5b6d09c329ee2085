-- A history of one statement after another that goes on from a journal keeps step order behind it.
use Rattle.std.proofs.Common.{◌≡◌, ℕ, ◌<◌, List, [], ◌∷◌, ◌++◌, length, Option, None, refl, sym, ap, ◌∙◌, subst, ⊎_elim}
use Rattle.sql_types.specs.declared.journal.JournalItem.{JournalItem}
use Rattle.spec_model.specs.Journals.{tx_count}
use Rattle.spec_history.specs.Lists.{Text}
use Rattle.spec_history.specs.Inputs.{InputLine, InputSession}
use Rattle.spec_history.specs.Meaning.{Meaning}
use Rattle.spec_history.specs.Transcripts.{Transcript}
use Rattle.spec_history.specs.Facts.{Fact, facts}
use Rattle.spec_history.specs.StepOrder.{Counted, ItemsInOrder, RowsInOrder, rows_facts}
use Rattle.spec_history.specs.Acts.{Act, of, all_shown}
use Rattle.spec_history.specs.ByLocks.{LocksDecide}
use Rattle.spec_history.specs.Worlds.{World, first, run}
use Rattle.spec_history.specs.Guards.{Good}
use Rattle.spec_history.specs.Histories.{IsWhole, OneAtATime, rows_of, lines_of, EndsComeLast, pending, ClosesInStep}
use Rattle.law_history.proofs.Order.{counted, facts_in}
use Rattle.law_history.proofs.Lines.{rows_answer}
use Rattle.law_history.proofs.Items.{items_run}
use Rattle.law_history.proofs.Rows.{entries_are, rows_show}
use Rattle.spec_history.proofs.Refused.{below_or_nil}
use Rattle.law_behind.specs.OrderBehind.{IsStepOrderBehind, StepOrderBehind}
use Rattle.law_behind.specs.Past.{IsPast, Past, behind, unclosed}
use Rattle.law_behind.proofs.Agreed.{of_at, there_at, told_of}
use Rattle.law_behind.proofs.ByLocks.{exact_refusals}
use Rattle.law_behind.proofs.Legal.{new_ones}
use Rattle.law_behind.proofs.Sessions.{alone_at, ends_at, lines_at}

nil_right : (xs ys : List Fact) → xs ++ ys ≡ [] → ys ≡ []
nil_right [] ys e = e
nil_right (x ∷ xs) ys e = cc

module _ (q : Meaning) (db : Text) (past : Past) (is : IsPast q past) (es : List Act) (g : Good q db (behind past) es) (input : List InputSession) (setup : Option ℕ) (X : List Transcript) (whole : IsWhole input setup X es) where
  abbrev W : World
  W = run (behind past) es

  all_shown_by : (t : ℕ) → (W.at t).so_far.pending ≡ []
  all_shown_by t = ⊎_elim
      (λ (l : t < length X). (of_at q db past is es g input setup X whole t _ (there_at q db past is es g input setup X whole t l)).rest.shown)
      (λ (none : of t es ≡ []). nil_right (facts q None (W.at t).so_far.entries) (W.at t).so_far.pending ((told_of q db past is es g input setup X whole t).shows ∙ ap all_shown none))
      (below_or_nil t (length X) es whole.all)

  module _ (N : ℕ) (alone : OneAtATime first es) (ends : EndsComeLast first es) (in_step : ClosesInStep N (pending (unclosed past.items)) es) where
    alone_behind : OneAtATime (behind past) es
    alone_behind = alone_at first (behind past) refl es alone

    rows_are : facts_in es ≡ rows_facts q (λ s. None) (rows_of es)
    rows_are = rows_show q db (behind past) es (λ s. None) [] g alone_behind (λ t. refl) (0, refl, λ t ne. refl) all_shown_by

    answered : RowsInOrder X (lines_of (behind past) es) (rows_of es)
    answered = rows_answer q db X W (there_at q db past is es g input setup X whole) (λ t l. (of_at q db past is es g input setup X whole t _ (there_at q db past is es g input setup X whole t l)).rest.idle) (behind past) es None g refl whole.all alone_behind
        (ends_at first (behind past) refl es ends) (λ t. refl)

    order : IsStepOrderBehind q N past (lines_of first es) X W.items (rows_of es)
    order = record {
      lines_answered = subst (λ (lines : List InputLine). RowsInOrder X lines (rows_of es)) (lines_at (behind past) first refl es) answered;
      entries = λ i x h. sym (entries_are i (behind past) es) ∙ sym (ap (λ (y : Transcript). y.entries) (of_at q db past is es g input setup X whole i x h).is);
      counted = subst (Counted W.items past.next (tx_count past.items)) rows_are (counted q db (behind past) es g is.legal.closings);
      items = subst (λ (z : List JournalItem × List Fact). ItemsInOrder N (unclosed past.items) (length past.items) z.0 z.1) (λ k. (sym (new_ones past es) k, rows_are k)) (items_run q db N (pending (unclosed past.items)) (behind past) es g in_step);
    }

    pub keeps_order : LocksDecide q (length X) (behind past) es → StepOrderBehind q N past (lines_of first es) X W.items
    keeps_order by_locks = record {
      rows = rows_of es;
      order = order;
      lock_refusals = exact_refusals q db past (length X) es g alone_behind by_locks;
    }
