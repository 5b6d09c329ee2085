-- What is told of a run of the workload.
use Rattle.std.specs.Prelude.{ℕ, ◌≡◌, ◌+◌, ◌*◌, ◌/◌, List, length, map}
use Rattle.sql_types.specs.declared.digest.Digest.{Digest}
use Rattle.sql_types.specs.declared.digest.HeldDigest.{HeldDigest}
use Rattle.sql_types.specs.declared.image.Image.{Image}
use Rattle.sql_types.specs.declared.journal.Journal.{Journal}
use Rattle.spec_model.specs.Journals.{tx_count}
use Rattle.spec_syntax.specs.Text.{statement_of}
use Rattle.format_image.specs.Image.{image_of}
use Rattle.format_image.specs.ImageBytes.{IsImage, IsSpellingOf}
use Rattle.spec_verify.specs.declared.place.Verdict.TheVariants.{Yes}
use Rattle.spec_verify.specs.Bytes.{verdict_of}
use Rattle.spec_verify.specs.Verdict.{image_verdict}
use Rattle.server_result.specs.declared.ran.RunOutcome.{RunOutcome}
use Rattle.server_run.specs.Held.{held}
use Rattle.server_run.specs.Agreed.{last_image_bytes}
use Rattle.law_workload.specs.Turns.{inserted_total}
use Rattle.workload_run.specs.Figures.{amount, history_count, row_count, user_tables}
use Rattle.workload_run.specs.declared.report.Report.{Report}

-- the image to which a journal leads
abbrev pub image_in : (List ℕ → List ℕ) → Journal → Image
image_in h J = image_of h statement_of J.database J.items

-- it tells of the journal, and of its image: what is counted there, and the verdict with these digests
pub record TellsOf (h : List ℕ → List ℕ) (J : Journal) (digests : List Digest) (r : Report) : Type 0 where
  pub transactions : r.transactions ≡ tx_count J.items
  pub rows : r.rows ≡ row_count (user_tables (image_in h J))
  pub history : r.history ≡ history_count (user_tables (image_in h J))
  pub sum : r.sum ≡ amount (user_tables (image_in h J))
  pub verdict : r.verdict ≡ verdict_of h (map held digests) (last_image_bytes h J)

-- it tells of an image, and of the verdict with what is held of digests
pub record TellsOfImage (h : List ℕ → List ℕ) (image : Image) (digests : List HeldDigest) (r : Report)
    : Type 0 where
  pub transactions : r.transactions ≡ length image.entries
  pub rows : r.rows ≡ row_count (user_tables image)
  pub history : r.history ≡ history_count (user_tables image)
  pub sum : r.sum ≡ amount (user_tables image)
  pub verdict : r.verdict ≡ image_verdict h image digests

-- it tells of the image whose bytes a run left, and of the verdict on it with all digests of the run
pub record Counts (h : List ℕ → List ℕ) (ran : RunOutcome) (r : Report) : Type 0 where
  pub image : Image
  pub is_image : IsImage image
  pub bytes : IsSpellingOf ran.image image
  pub tells : TellsOfImage h image (map held ran.digests) r

-- what a run left as its image is the bytes of none
abbrev pub HasNoImage : RunOutcome → Type 0
HasNoImage ran = (image : Image) → IsImage image → IsSpellingOf ran.image image → ⊥

-- the sum of what the rows of all four tables were inserted with
abbrev pub inserted_in_all : ℕ → ℕ
inserted_in_all rows =
    inserted_total 1 rows + inserted_total 2 rows + inserted_total 3 rows + inserted_total 4 rows

-- what a run on so many rows of each table tells, however its sessions' turns fall: each table has its rows, and
-- a row of history for each tenth, to which 1 was added
abbrev pub expected : ℕ → Report
expected rows =
    record {
      transactions = 4 + 4 * rows + 4 * (rows / 10);
      rows = 4 * rows;
      history = 4 * (rows / 10);
      sum = inserted_in_all rows + 4 * (rows / 10);
      verdict = Yes;
    }
