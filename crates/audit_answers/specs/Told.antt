-- What texts come to over an image that is verified first.
use Rattle.std.specs.Prelude.{◌≡◌, ◌≤◌, ◌<◌, ℕ, List, flat_map, length, string_bytes, Result, Ok, Err}
use Rattle.sql_types.specs.declared.digest.HeldDigest.{HeldDigest}
use Rattle.sql_types.specs.declared.image.Image.{Image}
use Rattle.spec_model.specs.Catalog.{Tables}
use Rattle.spec_syntax.specs.Text.{statement_of}
use Rattle.spec_verify.specs.declared.place.Verdict.{Verdict}
use Rattle.spec_verify.specs.declared.place.Verdict.TheVariants.{Yes}
use Rattle.spec_verify.specs.Bytes.{verdict_of}
use Rattle.spec_asof.specs.Answer.{answer_of}
use Rattle.spec_asof.specs.DatabaseAt.{database_at}
use Rattle.format_asof.specs.Answers.{answer_text}
use Rattle.audit_answers.specs.declared.answering.Answers.{Answers}
use Rattle.audit_answers.specs.declared.answering.Answers.TheVariants.{Refused, Written}
use Rattle.audit_answers.specs.declared.coverage.Coverage.{Coverage}
use Rattle.audit_answers.specs.Covers.{IsAccepted, coverage_of}

-- the image that some bytes are, which is accepted, or the verdict on them, which isn't Yes
abbrev pub IsTried : (List ℕ → List ℕ) → List HeldDigest → List ℕ → Result Image Verdict → Type 0
IsTried h held bytes (Ok i) = IsAccepted h held bytes i
IsTried h held bytes (Err verdict) = (verdict ≡ Yes → ⊥) × (verdict ≡ verdict_of h held bytes)

-- each text, and behind it the lines of its answer over these tables
abbrev pub answers_text : Tables → List (List ℕ) → List ℕ
answers_text tables texts = flat_map (λ text. answer_text text (answer_of tables (statement_of text))) texts

-- this is written of the texts over an accepted image behind its first n transactions, which it has, and the digests
-- cover this of it
pub record IsWritten (h : List ℕ → List ℕ) (held : List HeldDigest) (bytes : List ℕ) (n : ℕ)
    (texts : List (List ℕ)) (written : List ℕ) (coverage : Coverage) : Type 0 where
  pub i : Image
  pub accepted : IsAccepted h held bytes i
  pub within : n ≤ length i.entries
  pub is : written ≡ answers_text (database_at i n) texts
  pub covers : coverage ≡ coverage_of i held

-- the verdict, which isn't Yes, or what is written of the texts
abbrev pub AreAnswers : (List ℕ → List ℕ) → List HeldDigest → List ℕ → ℕ → List (List ℕ) → Answers → Type 0
AreAnswers h held bytes n texts (Refused verdict) = (verdict ≡ Yes → ⊥) × (verdict ≡ verdict_of h held bytes)
AreAnswers h held bytes n texts (Written text coverage) = IsWritten h held bytes n texts (string_bytes text) coverage

-- an accepted image has so many entries, which are fewer
pub record IsTooFar (h : List ℕ → List ℕ) (held : List HeldDigest) (bytes : List ℕ) (n entries : ℕ) : Type 0 where
  pub i : Image
  pub accepted : IsAccepted h held bytes i
  pub count : entries ≡ length i.entries
  pub far : entries < n
