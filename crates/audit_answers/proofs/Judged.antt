-- What is judged of bytes.
use Rattle.std.proofs.Common.{◌≡◌, ◌∙◌, ℕ, List, Result, Ok, Err, IfOk, sym}
use Rattle.sql_types.specs.declared.digest.HeldDigest.{HeldDigest}
use Rattle.sql_types.specs.declared.image.Image.{Image}
use Rattle.format_image.specs.ImageBytes.{IsImage, IsSpellingOf}
use Rattle.spec_verify.proofs.Judged.{of_spelling}
use Rattle.audit_answers.specs.declared.coverage.Judgement.{Judgement}
use Rattle.audit_answers.specs.declared.coverage.Judgement.TheVariants.{Accepted, Refused}
use Rattle.audit_answers.specs.Covers.{IsImageJudged, IsJudged}

module _ (h : List ℕ → List ℕ) (held : List HeldDigest) (bytes : List ℕ) (i : Image) (is : IsImage i) (spelling : IsSpellingOf bytes i) where
  of_image : (found : Judgement) → IsImageJudged h held i found → IsJudged h held bytes found
  of_image (Accepted coverage) j = record { i = i; accepted = (is, spelling, j.0); verdict = of_spelling h held bytes i is spelling ∙ j.0; is = j.1 }
  of_image (Refused verdict) j = (j.0, j.1 ∙ sym (of_spelling h held bytes i is spelling))

  pub ok_of_image : {E : Type 0} (result : Result Judgement E) → IfOk result (IsImageJudged h held i) → IfOk result (IsJudged h held bytes)
  ok_of_image (Ok found) j = of_image found j
  ok_of_image (Err e) j = tt
