-- What a run of many sessions comes to that ran together.
use Rattle.std.specs.Prelude.{ℕ, ◌≡◌, ◌≤◌, ◌^◌, true, List, map, Some}
use Rattle.base_types.specs.DatabaseName.{is_database_name}
use Rattle.base_types.specs.Moment.{is_moment}
use Rattle.base_types.specs.SessionName.{is_session_name}
use Rattle.spec_model.specs.LegalJournals.{IsLegalJournal}
use Rattle.spec_history.specs.Agree.{Agree}
use Rattle.spec_history.specs.Inputs.{InputSession}
use Rattle.spec_history.specs.Journals.{times}
use Rattle.spec_history.specs.Lists.{Each, Some_of, In}
use Rattle.spec_history.specs.Transcripts.{Transcript, statements}
use Rattle.law_order.specs.OneOrder.{HaveOneOrder}
use Rattle.spec_protocol.specs.AtTheEnd.{HasItsImages}
use Rattle.spec_protocol.specs.Cells.{LedgerCell}
use Rattle.spec_protocol.specs.JournalForms.{journal_in}
use Rattle.spec_protocol.specs.Seats.{Written}
use Rattle.spec_protocol.specs.Server.{Server}
use Rattle.law_moments.specs.AddedInTime.{FitsBlock}
use Rattle.law_kept_images.specs.Wrote.{transcripts_in}

abbrev pub names_in : List Transcript → List (List ℕ)
names_in X = map (λ x. x.session) X

-- what an input has of the session of a transcript
abbrev pub session_in : Transcript → InputSession
session_in x = record { name = x.session; texts = statements x.entries }

-- a moment at which one of these sessions committed or was issued a digest
abbrev pub IsMomentOf : List Written → ℕ → Type 0
IsMomentOf written time = Some_of (λ w. In time w.moments) written

-- names and moments have their forms, and 8 bytes can tell each id
pub record AreFormed (ledger : LedgerCell) (written : List Written) : Type 0 where
  pub database : is_database_name ledger.database ≡ true
  pub ids : ledger.next ≤ 2 ^ 63
  pub names : Each (λ w. is_session_name w.transcript.session ≡ true) written
  pub moments : Each (λ w. Each (λ time. is_moment time ≡ true) w.moments) written

-- The transcripts, the images that were kept and the ledger's cell are those of a run in which the first
-- session was over before all others began, and these ran side by side.
pub record RanTogether (v : Server) (written : List Written) (ledger : LedgerCell) : Type 0 where
  -- they agree by all rules, with the first session as `setup`
  pub agree : Agree v.meaning ledger.database (map session_in (transcripts_in written)) (Some 0)
      (transcripts_in written) ledger.items ledger.issued
  -- all that they show stands in one order
  pub in_order : HaveOneOrder v.meaning (Some 0) (transcripts_in written) ledger.items
  -- the images are those that the transcripts show, with the bytes of so many items of the journal
  pub images : Each (HasItsImages v ledger) written
  -- the times of transactions, and those at which digests were made, are moments of the sessions
  pub times : Each (IsMomentOf written) (times ledger.items)
  pub made : Each (λ d. IsMomentOf written d.made) ledger.issued
  -- each closing is at most the block size
  pub closings : Each (FitsBlock ledger.block_size) ledger.items
  -- the journal is a legal one, where all is well formed
  pub legal : AreFormed ledger written → IsLegalJournal v.reads (journal_in ledger)
