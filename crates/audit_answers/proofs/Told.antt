-- What an accepted image tells.
use Rattle.std.proofs.Common.{◌≡◌, ◌≤◌, ◌<◌, ℕ, List, length, Ok}
use Rattle.sql_types.specs.declared.digest.HeldDigest.{HeldDigest}
use Rattle.sql_types.specs.declared.image.Image.{Image}
use Rattle.spec_asof.specs.DatabaseAt.{database_at}
use Rattle.audit_answers.specs.declared.coverage.Coverage.{Coverage}
use Rattle.audit_answers.specs.Covers.{coverage_of}
use Rattle.audit_answers.specs.Told.{IsTried, IsTooFar, IsWritten, answers_text}

pub are_written : (h : List ℕ → List ℕ) (held : List HeldDigest) (bytes : List ℕ) (n : ℕ) (texts : List (List ℕ)) (written : List ℕ) (coverage : Coverage) (i : Image)
    → IsTried h held bytes (Ok i) → (n ≤ length i.entries) × (written ≡ answers_text (database_at i n) texts) → coverage ≡ coverage_of i held → IsWritten h held bytes n texts written coverage
are_written h held bytes n texts written coverage i tried is covers = record { i = i; accepted = tried; within = is.0; is = is.1; covers = covers }

pub is_far : (h : List ℕ → List ℕ) (held : List HeldDigest) (bytes : List ℕ) (n entries : ℕ) (i : Image)
    → IsTried h held bytes (Ok i) → (entries ≡ length i.entries) × (entries < n) → IsTooFar h held bytes n entries
is_far h held bytes n entries i tried is = record { i = i; accepted = tried; count = is.0; far = is.1 }
