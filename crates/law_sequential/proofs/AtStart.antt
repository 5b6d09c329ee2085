-- At a start nothing is new in the journal.
use Rattle.std.proofs.Common.{◌≡◌, ℕ, List, [], ◌∷◌, ◌++◌, drop, length, refl, sym, ap, subst, ◌∙◌, append-nil}
use Rattle.sql_types.specs.declared.digest.Digest.{Digest}
use Rattle.sql_types.specs.declared.journal.JournalItem.{JournalItem}
use Rattle.spec_history.specs.Lists.{Each, Text}
use Rattle.spec_protocol.specs.AllowedVisit.{first_seat}
use Rattle.spec_protocol.specs.Server.{Server}
use Rattle.spec_protocol.specs.TranscriptsAgree.{IsMoment}
use Rattle.law_behind.specs.Past.{Past}
use Rattle.law_moments.specs.AddedInTime.{AddedInTime}
use Rattle.law_sequential.specs.RunStart.{RunStart}

pub none_added : {v : Server} {database : Text} {size : ℕ} {past : Past} (start : RunStart v database size past)
    → AddedInTime past.items (first_seat start.begins.cells ∷ []) start.begins.stands.ledger
none_added {past = past} start = record {
  added = [];
  are = sym start.begins.stands.transcripts_agree.items ∙ sym start.begins.over.items ∙ ap (λ (p : Past). p.items) start.of_past ∙ sym (append-nil past.items);
  closings = tt;
  times = tt;
  made = subst (λ (gs : List Digest). Each (λ d. IsMoment (first_seat start.begins.cells ∷ []) d.made) gs) (start.begins.over.issued ∙ start.begins.stands.transcripts_agree.issued) tt;
}

-- what comes behind the first items
pub since_front : (P K : List JournalItem) → drop (length P) (P ++ K) ≡ K
since_front [] K = refl
since_front (i ∷ P) K = since_front P K
