-- How a transcript goes on where a lock is in the way.
use Rattle.std.proofs.Common.{◌≡◌, ℕ, Bool, true, false, List, [], ◌∷◌, ◌++◌, Some, None, refl, sym, ap, ◌∙◌}
use Rattle.std.specs.Prelude.{if◌then◌else◌}
use Rattle.sql_value.specs.declared.refusal.Refusal.TheVariants.{Locked}
use Rattle.sql_types.specs.declared.reply.Reply.TheVariants as reply
use Rattle.spec_history.specs.Lists.{Text}
use Rattle.spec_history.specs.Meaning.{Meaning}
use Rattle.spec_history.specs.Transcripts.{Kind, rows, kind_of}
use Rattle.spec_history.specs.Facts.{Fact, began, met}
use Rattle.spec_history.specs.Transactions.{unfixed}
use Rattle.spec_protocol.specs.TranscriptsSoFar.{end_shown, is_begin, image_in, shown_inside, shown_alone, shown_with, Fits}
use Rattle.spec_protocol.specs.Doing.{stage_refused}
use Rattle.spec_protocol.specs.Seats.{OpenTransaction, StatementProgress, answering, refused, inside}
use Rattle.law_protocol_steps.proofs.TranscriptProgress.{GoesAt, fits_if, if_fits, at_opened}
use Rattle.law_protocol_steps.proofs.InPlaces.{NoControl, within, controlled_inside, fits_own}

locked_plain : (holder : ℕ) → NoControl (reply.Refused (Locked holder))
locked_plain holder = record { not_syntax_error = λ e. cc; not_no_transaction = λ e. cc; not_already_in = λ e. cc; not_forbidden_in = λ e. cc }

module _ (q : Meaning) where
  -- a lock is in the way of a statement of rows, in a transaction that BEGIN opened and in one of its own
  pub at_met : (n : ℕ) (text : Text) (holder : ℕ) (o : OpenTransaction) (stage : StatementProgress) (fresh : Bool) → o.explicit ≡ true → o.end ≡ unfixed → kind_of (q.reads text) ≡ rows → shown_inside q (kind_of (q.reads text)) text stage ≡ [] → is_begin stage ≡ false → image_in stage ≡ 0
      → GoesAt q n (inside text stage) (Some o) (inside text (stage_refused fresh (reply.Refused (Locked holder)))) (Some o) (met text holder ∷ [])
  at_met n text holder o stage true explicit open_end kind nothing not_begin none = at_opened q n text o o stage (refused (reply.Refused (Locked holder))) (met text holder ∷ []) explicit open_end refl explicit open_end nothing not_begin none
      (ap (λ (k : Kind). shown_inside q k text (refused (reply.Refused (Locked holder)))) kind) refl refl (within q n text (reply.Refused (Locked holder)) o.id rows None kind refl (controlled_inside n (reply.Refused (Locked holder)) (locked_plain holder) o.id rows refl refl) tt)
  at_met n text holder o stage false explicit open_end kind nothing not_begin none = at_opened q n text o o stage (answering (reply.Refused (Locked holder)) None) (met text holder ∷ []) explicit open_end refl explicit open_end nothing not_begin none
      (ap (λ (k : Kind). shown_inside q k text (answering (reply.Refused (Locked holder)) None)) kind) refl refl (within q n text (reply.Refused (Locked holder)) o.id rows None kind refl (controlled_inside n (reply.Refused (Locked holder)) (locked_plain holder) o.id rows refl refl) tt)

  pub at_own_met : (n : ℕ) (text : Text) (holder : ℕ) (o : OpenTransaction) (stage : StatementProgress) (fresh : Bool) → o.explicit ≡ false → o.end ≡ unfixed → shown_alone q text stage ≡ [] → image_in stage ≡ 0 → Fits q n (inside text stage) (Some o)
      → GoesAt q n (inside text stage) (Some o) (inside text (stage_refused fresh (reply.Refused (Locked holder)))) (Some o) (met text holder ∷ [])
  at_own_met n text holder o stage true own open_end nothing none f = let g = fits_if q n text stage o false own f in record {
    shown = (λ i. (shown_with q (own i) o.id text stage ++ end_shown (open_end i)) ++ met text holder ∷ []) ∙ ap (λ (l : List Fact). ((began o.id false ∷ l) ++ []) ++ met text holder ∷ []) nothing ∙ (λ i. shown_with q (sym own i) o.id text (refused (reply.Refused (Locked holder))) ++ end_shown (sym open_end i));
    before = (λ i. if own i then (if is_begin stage then None else Some o.id) else None) ∙ (λ i. if sym own i then (if is_begin (refused (reply.Refused (Locked holder))) then None else Some o.id) else None);
    images = none;
    fits = if_fits q n text (refused (reply.Refused (Locked holder))) o false own (g.0, fits_own n (reply.Refused (Locked holder)) (locked_plain holder) q text o.end g.0 refl refl);
  }
  at_own_met n text holder o stage false own open_end nothing none f = let g = fits_if q n text stage o false own f in record {
    shown = (λ i. (shown_with q (own i) o.id text stage ++ end_shown (open_end i)) ++ met text holder ∷ []) ∙ ap (λ (l : List Fact). ((began o.id false ∷ l) ++ []) ++ met text holder ∷ []) nothing ∙ (λ i. shown_with q (sym own i) o.id text (answering (reply.Refused (Locked holder)) None) ++ end_shown (sym open_end i));
    before = (λ i. if own i then (if is_begin stage then None else Some o.id) else None) ∙ (λ i. if sym own i then (if is_begin (answering (reply.Refused (Locked holder)) None) then None else Some o.id) else None);
    images = none;
    fits = if_fits q n text (answering (reply.Refused (Locked holder)) None) o false own (g.0, fits_own n (reply.Refused (Locked holder)) (locked_plain holder) q text o.end g.0 refl refl);
  }
