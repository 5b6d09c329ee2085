-- What `gen` writes of the workload's run.
use Rattle.std.specs.Prelude.{ℕ, ◌≡◌, List, [], ◌∷◌, ◌++◌, codes, Option}
use Rattle.std.specs.Fmt.{decimal}
use Rattle.base_io.specs.Outside.{TellsTaken}
use Rattle.workload_generator.specs.Workload.{workload_sections}
use Rattle.sql_types.specs.declared.digest.Digest.{Digest}
use Rattle.workload_run.specs.CameTo.{CameTo, IsClosed}
use Rattle.workload_run.specs.Agreed.{RunResult}
use Rattle.workload_run.specs.Reports.{expected, TellsOf}
use Rattle.workload_run.specs.declared.report.Report.{Report}
use Rattle.cli_audit.specs.declared.status.Status.{Status}
use Rattle.cli_audit.specs.declared.status.Status.TheVariants.{Done, SinkFault}
use Rattle.cli_audit.specs.Transfer.{TellsPart}
use Rattle.cli_audit.specs.Verify.{verdict_text}

-- a word and a number
abbrev pub figure : List ℕ → ℕ → List ℕ
figure word n = word ++ decimal n ++ 10 ∷ []

-- the lines of what is counted
abbrev pub counts_text : Report → List ℕ
counts_text r = figure (codes "transactions ") r.transactions ++ figure (codes "rows ") r.rows
    ++ figure (codes "history ") r.history

-- all its lines
abbrev pub report_text : Report → List ℕ
report_text r = counts_text r ++ figure (codes "sum ") r.sum ++ codes "verify " ++ verdict_text r.verdict

-- The workload on so many rows of each table was run, its sessions side by side, on a database `LedgerDB` whose
-- blocks have at most 100 transactions, at moment 0, and the ledger was closed behind it; the text tells of what
-- is left of it, with all digests, and it is what is expected, however the turns of the threads fell.
pub record WasRun (h : List ℕ → List ℕ) (rows : ℕ) (text : List ℕ) : Type 0 where
  pub left : RunResult
  pub came : CameTo h (codes "LedgerDB") 100 (λ at. at ≡ 0) (workload_sections rows) left
  pub more : List Digest
  pub closed : IsClosed h (λ at. at ≡ 0) left more
  pub report : Report
  pub tells : TellsOf h left.J (left.G ++ more) report
  pub so : report ≡ expected rows
  pub is : text ≡ report_text report

-- what the sink took of the text
abbrev pub HasGenerated : Status → (List ℕ → List ℕ) → ℕ → Option (List ℕ) → Option (List ℕ) → Type 0
HasGenerated Done h rows old new = (text : List ℕ) × WasRun h rows text × TellsTaken old new text
HasGenerated SinkFault h rows old new = (text : List ℕ) × WasRun h rows text × TellsPart old new text
HasGenerated _ h rows old new = ⊥
