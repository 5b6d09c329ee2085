-- A run of the workload in which each statement is committed tells what is expected.
use Rattle.std.proofs.Common.{◌≡◌, ◌∙◌, ◌≤◌, ◌+◌, ◌++◌, ◌*◌, ◌/◌, ℕ, List, [], ◌∷◌, codes, map, Some, inl, refl, sym, ap, subst}
use Rattle.std.specs.List.{AllByRecursion}
use Rattle.sql_types.specs.declared.digest.Digest.{Digest}
use Rattle.sql_types.specs.declared.image.Image.{Image}
use Rattle.sql_types.specs.declared.journal.Journal.{Journal}
use Rattle.sql_types.specs.declared.journal.JournalItem.{JournalItem}
use Rattle.sql_types.specs.declared.version.Table.{Table}
use Rattle.spec_model.specs.Journals.{IsLegal, serial, tx_count}
use Rattle.spec_model.specs.LegalJournals.{IsLegalJournal}
use Rattle.sql_types.specs.JournalRules.{ItemRules}
use Rattle.spec_model.specs.Script.{Reading}
use Rattle.spec_history.specs.Agree.{Agree}
use Rattle.spec_history.specs.Lists.{Text}
use Rattle.spec_history.specs.Meaning.{Meaning}
use Rattle.spec_history.specs.Transcripts.{Transcript}
use Rattle.spec_syntax.specs.Text.{statement_of}
use Rattle.law_catalog_rows.specs.Written.{ReadsWritten}
use Rattle.law_blocks.proofs.Counting.{entries_counted}
use Rattle.format_image.specs.Image.{image_of}
use Rattle.format_image.specs.ImageBytes.{IsImage, IsSpellingOf}
use Rattle.format_image.proofs.ImageExact.{only_of}
use Rattle.law_image.specs.Room.{FitsImageFormat}
use Rattle.spec_verify.specs.declared.place.Verdict.{Verdict}
use Rattle.spec_verify.specs.declared.place.Verdict.TheVariants.{Yes}
use Rattle.spec_verify.specs.Bytes.{verdict_of}
use Rattle.spec_verify.proofs.Judged.{of_image}
use Rattle.server_run.specs.Held.{held}
use Rattle.server_run.specs.Agreed.{CameTo, RunResult, last_image_bytes}
use Rattle.server_run.specs.SessionOutput.{IsMeaning}
use Rattle.server_run.proofs.SessionOutput.{some_meaning}
use Rattle.workload_generator.specs.Workload.{create_text, insert_text, update_text, session_texts, setup_texts}
use Rattle.law_workload.specs.Tables.{Shows}
use Rattle.law_workload.specs.Turns.{inserted_total, ReadsTexts, Turns}
use Rattle.law_workload.specs.Input.{workload_input}
use Rattle.workload_run.specs.Figures.{amount, history_count, row_count, user_tables}
use Rattle.workload_run.specs.Reports.{expected, image_in, inserted_in_all, TellsOf, TellsOfImage}
use Rattle.workload_run.specs.declared.report.Report.{Report}
use Rattle.workload_run.proofs.FourTables.{Are, counted_are}

-- the laws on the workload
pub record Laws : Type 0 where
  pub reads : ReadsTexts statement_of
  pub turns : (q : Meaning) (database : Text) (rows : ℕ) (X : List Transcript) (items : List JournalItem) (G : List Digest) → ReadsTexts q.reads → rows ≤ 1000000
      → AllByRecursion ItemRules items → Agree q database (workload_input rows) (Some 0) X items G
      → tx_count items ≡ 4 + 4 * rows + 4 * (rows / 10)
      → Turns setup_texts (session_texts 1 rows) (session_texts 2 rows) (session_texts 3 rows) (session_texts 4 rows) items
  pub tables : (reads : Reading) (rows : ℕ) (items : List JournalItem) → ReadsTexts reads → rows ≤ 1000000
      → Turns setup_texts (session_texts 1 rows) (session_texts 2 rows) (session_texts 3 rows) (session_texts 4 rows) items → IsLegal reads items
      → (table : ℕ) → 1 ≤ table → table ≤ 4 → Shows (serial reads items) table rows (rows / 10) (inserted_total table rows + rows / 10)
  pub order : (reads : Reading) (rows : ℕ) (items : List JournalItem) → ReadsTexts reads → rows ≤ 1000000
      → Turns setup_texts (session_texts 1 rows) (session_texts 2 rows) (session_texts 3 rows) (session_texts 4 rows) items → IsLegal reads items
      → map (λ (t : Table). t.def.id) (serial reads items) ≡ 1 ∷ 2 ∷ 3 ∷ 4 ∷ 5 ∷ 6 ∷ []

-- a meaning reads the texts as the grammar does
meaning_reads : (h : List ℕ → List ℕ) (q : Meaning) → IsMeaning h statement_of q → ReadsTexts statement_of → ReadsTexts q.reads
meaning_reads h q m r = record {
  create = λ table some four. m.real.reading (create_text table) ∙ r.create table some four;
  insert = λ table row some four few. m.real.reading (insert_text table row) ∙ r.insert table row some four few;
  update = λ table row some four few. m.real.reading (update_text table row) ∙ r.update table row some four few;
}

same_report : (a b : Report) → a.transactions ≡ b.transactions → a.rows ≡ b.rows → a.history ≡ b.history → a.sum ≡ b.sum → a.verdict ≡ b.verdict → a ≡ b
same_report a b t r h s v =
    ap (λ (n : ℕ). record { transactions = n; rows = a.rows; history = a.history; sum = a.sum; verdict = a.verdict }) t
    ∙ ap (λ (n : ℕ). record { transactions = b.transactions; rows = n; history = a.history; sum = a.sum; verdict = a.verdict }) r
    ∙ ap (λ (n : ℕ). record { transactions = b.transactions; rows = b.rows; history = n; sum = a.sum; verdict = a.verdict }) h
    ∙ ap (λ (n : ℕ). record { transactions = b.transactions; rows = b.rows; history = b.history; sum = n; verdict = a.verdict }) s
    ∙ ap (λ (x : Verdict). record { transactions = b.transactions; rows = b.rows; history = b.history; sum = b.sum; verdict = x }) v

-- bytes are those of one image alone
bytes_of_one : (bytes : List ℕ) (i j : Image) → IsImage i → IsImage j → IsSpellingOf bytes i → IsSpellingOf bytes j → i ≡ j
bytes_of_one bytes i j a b s t = some_same i j (sym (only_of bytes i a s) ∙ only_of bytes j b t)
  where
    some_same : (x y : Image) → Some x ≡ Some y → x ≡ y
    some_same x y f = cc

-- the workload's journal, with as many transactions as there are statements
module _ (laws : Laws) (h : List ℕ → List ℕ) (rows : ℕ) (few : rows ≤ 1000000) (X : List Transcript) (J : Journal) (G : List Digest)
    (agree : (q : Meaning) → IsMeaning h statement_of q → Agree q J.database (workload_input rows) (Some 0) X J.items G)
    (legal : IsLegalJournal statement_of J) (all : tx_count J.items ≡ 4 + 4 * rows + 4 * (rows / 10)) where
  taken : Turns setup_texts (session_texts 1 rows) (session_texts 2 rows) (session_texts 3 rows) (session_texts 4 rows) J.items
  taken = let m = some_meaning h statement_of in
      laws.turns m.0 J.database rows X J.items G (meaning_reads h m.0 m.1 laws.reads) few legal.items (agree m.0 m.1) all

  counted : Are (serial statement_of J.items) rows
  counted = counted_are (serial statement_of J.items) rows (laws.order statement_of rows J.items laws.reads few taken legal.legal)
      (laws.tables statement_of rows J.items laws.reads few taken legal.legal)

  pub rows_are : row_count (user_tables (image_in h J)) ≡ 4 * rows
  unfolding image_of
  rows_are = counted.rows

  pub history_is : history_count (user_tables (image_in h J)) ≡ 4 * (rows / 10)
  unfolding image_of
  history_is = counted.changed

  pub sum_is : amount (user_tables (image_in h J)) ≡ inserted_in_all rows + 4 * (rows / 10)
  unfolding image_of
  sum_is = counted.sum_is

-- so it tells what is expected
module _ (laws : Laws) (written : ReadsWritten statement_of)
    (spelled : (h : List ℕ → List ℕ) (reads : Reading) (database : List ℕ) (items : List JournalItem) → ReadsWritten reads → IsLegal reads items
    → FitsImageFormat h reads database items → IsImage (image_of h reads database items))
    (h : List ℕ → List ℕ) (rows : ℕ) (few : rows ≤ 1000000) (is_said : ℕ → Type 0) (left : RunResult) (came : CameTo h (codes "LedgerDB") 100 is_said (workload_input rows) left)
    (more : List Digest) (yes : verdict_of h (map held (left.G ++ more)) (last_image_bytes h left.J) ≡ Yes)
    (room : FitsImageFormat h statement_of left.J.database left.J.items)
    (bytes : List ℕ) (is : bytes ≡ last_image_bytes h left.J) (image : Image) (is_image : IsImage image) (read : IsSpellingOf bytes image)
    (r : Report) (tells : TellsOfImage h image (map held (left.G ++ more)) r) (all : r.transactions ≡ (expected rows).transactions) where
  J : Journal
  J = left.J

  its_image : IsImage (image_in h left.J)
  its_image = spelled h statement_of left.J.database left.J.items written came.legal.legal room

  same : image ≡ image_in h left.J
  same = bytes_of_one bytes image (image_in h left.J) is_image its_image read (inl is)

  here : TellsOfImage h (image_in h left.J) (map held (left.G ++ more)) r
  here = subst (λ (i : Image). TellsOfImage h i (map held (left.G ++ more)) r) same tells

  entries_are : r.transactions ≡ tx_count left.J.items
  unfolding image_of
  entries_are = here.transactions ∙ entries_counted h statement_of left.J.items

  verdict_is : r.verdict ≡ verdict_of h (map held (left.G ++ more)) (last_image_bytes h left.J)
  verdict_is = here.verdict ∙ sym (of_image h (map held (left.G ++ more)) (image_in h left.J) its_image)

  pub tells_of : TellsOf h left.J (left.G ++ more) r
  tells_of = record { transactions = entries_are; rows = here.rows; history = here.history; sum = here.sum; verdict = verdict_is }

  agree_so : (q : Meaning) → IsMeaning h statement_of q → Agree q left.J.database (workload_input rows) (Some 0) left.X left.J.items left.G
  agree_so q m = subst (λ (d : Text). Agree q d (workload_input rows) (Some 0) left.X left.J.items left.G) (sym came.of_database) (came.agree q m)

  committed : tx_count left.J.items ≡ 4 + 4 * rows + 4 * (rows / 10)
  committed = sym entries_are ∙ all

  pub as_expected : r ≡ expected rows
  as_expected = same_report r (expected rows) all
      (here.rows ∙ rows_are laws h rows few left.X left.J left.G agree_so came.legal committed)
      (here.history ∙ history_is laws h rows few left.X left.J left.G agree_so came.legal committed)
      (here.sum ∙ sum_is laws h rows few left.X left.J left.G agree_so came.legal committed)
      (verdict_is ∙ yes)
