-- What a run of many sessions comes to that ran together behind a past.
use Rattle.std.specs.Prelude.{List, map, Some}
use Rattle.spec_model.specs.LegalJournals.{IsLegalJournal}
use Rattle.spec_history.specs.Journals.{times}
use Rattle.spec_history.specs.Lists.{Each}
use Rattle.spec_protocol.specs.AtTheEnd.{HasItsImages}
use Rattle.spec_protocol.specs.Cells.{LedgerCell}
use Rattle.spec_protocol.specs.JournalForms.{journal_in}
use Rattle.spec_protocol.specs.Seats.{Written}
use Rattle.spec_protocol.specs.Server.{Server}
use Rattle.law_moments.specs.AddedInTime.{FitsBlock}
use Rattle.law_behind.specs.AgreeBehind.{AgreeBehind}
use Rattle.law_behind.specs.OrderBehind.{HaveOneOrderBehind}
use Rattle.law_behind.specs.Past.{Past, since}
use Rattle.law_kept_images.specs.Wrote.{transcripts_in}
use Rattle.law_concurrent.specs.Together.{AreFormed, IsMomentOf, session_in}

-- The transcripts, the images that were kept and the ledger's cell are those of a run behind this past in which the
-- first session was over before all others began, and these ran side by side.
pub record RanTogetherBehind (v : Server) (past : Past) (written : List Written) (ledger : LedgerCell) : Type 0 where
  -- they agree by all rules, with the first session as `setup`
  pub agree : AgreeBehind v.meaning ledger.database past (map session_in (transcripts_in written)) (Some 0)
      (transcripts_in written) ledger.items ledger.issued
  -- all that they show stands in one order
  pub in_order : HaveOneOrderBehind v.meaning past (Some 0) (transcripts_in written) ledger.items
  -- the images are those that the transcripts show, with the bytes of so many items of the journal
  pub images : Each (HasItsImages v ledger) written
  -- the times of new transactions, and those at which digests were made, are moments of the sessions
  pub times : Each (IsMomentOf written) (times (since past ledger.items))
  pub made : Each (λ d. IsMomentOf written d.made) ledger.issued
  -- each new closing is at most the block size
  pub closings : Each (FitsBlock ledger.block_size) (since past ledger.items)
  -- the journal is a legal one, where all is well formed
  pub legal : AreFormed ledger written → IsLegalJournal v.reads (journal_in ledger)
