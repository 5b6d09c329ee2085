-- What `extract` says of an exhibit and another image that is accepted with its digests.
use Rattle.std.proofs.Common.{◌≡◌, ◌∙◌, ℕ, List, [], Option, Some, None, refl, sym, ap, subst, ⊎_elim}
use Rattle.std.specs.Prelude.{Ok}
use Rattle.base_io.specs.Outside.{TellsTaken}
use Rattle.base_io.specs.Store.{Names}
use Rattle.sql_types.specs.declared.digest.HeldDigest.{HeldDigest}
use Rattle.format_digest.specs.Reading.{IsRead}
use Rattle.spec_verify.specs.declared.place.Verdict.TheVariants.{Yes}
use Rattle.spec_verify.specs.Bytes.{verdict_of}
use Rattle.audit_extract.specs.declared.found.ImageComparison.{ImageComparison}
use Rattle.audit_extract.specs.declared.found.ImageComparison.TheVariants.{Same, Collision}
use Rattle.cli_commands.specs.Status.{Status}
use Rattle.cli_commands.specs.Status.TheVariants.{Done, No, Words, Limit, SourceFault, SinkFault, VaultFault, Missing, Digests, Journal, Form, Memory, NotImage, NoEntry, Receipt, TooFar, NoDigestHeld}
use Rattle.cli_commands.specs.Extract.{AreCompared, ExtractCause, Extracts, HoldsNoDigests, IsFoundWith, LacksExhibits, finding_status, finding_text}
use Rattle.cli_commands.specs.Names.{digests_limit, image_limit}
use Rattle.cli_commands.specs.Transfer.{TellsPart}
use Rattle.cli_commands.specs.Coverage.{Coverage}
use Rattle.cli_commands.specs.Covers.{coverage_of, newest_block}
use Rattle.cli_commands.specs.Subject.{done_by}
use Rattle.cli_commands.specs.Verify.{AreRefused, SaidOrIdle}
use Rattle.cli_commands.proofs.ExtractLemmas.{compared_of_accepted, compared_status, compared_text}
use Rattle.law_commands.specs.Calls.{Faults, EndsExtract, SaysSameOrCollision, SaysWhatIsFound, comparison_text}
use Rattle.law_commands.specs.Exhibits.{HoldsImage, IsExhibit}
use Rattle.law_commands.proofs.Judged.{by_none, by_some, not_refused}
use Rattle.law_commands.proofs.Reading.{found_in, not_missing, not_too_long, read_once}

-- the text of a comparison, and what its status says
text_is : (outcome : ImageComparison) (coverage : Coverage) → compared_text outcome coverage ≡ comparison_text outcome
text_is Same coverage = refl
text_is (Collision c) coverage = refl

is_same : (outcome : ImageComparison) (coverage : Coverage) → (compared_status outcome coverage ≡ No → ⊥) → outcome ≡ Same
is_same Same coverage e = refl
is_same (Collision c) coverage e = absurd (e refl)

never_no : (newest : Option ℕ) → done_by newest ≡ No → ⊥
never_no None e = cc
never_no (Some block) e = cc

isnt_same : (outcome : ImageComparison) (coverage : Coverage) → compared_status outcome coverage ≡ No → outcome ≡ Same → ⊥
isnt_same Same coverage e same = never_no coverage.newest e
isnt_same (Collision c) coverage e same = cc

-- the status of a call that isn't No tells whether there is a digest
none_of : (outcome : ImageComparison) (coverage : Coverage) (held : List HeldDigest) → coverage.newest ≡ newest_block held → compared_status outcome coverage ≡ NoDigestHeld → held ≡ []
none_of Same coverage held newest e = by_none held coverage.newest newest e
none_of (Collision c) coverage held newest e = cc

some_of : (outcome : ImageComparison) (coverage : Coverage) (held : List HeldDigest) → coverage.newest ≡ newest_block held → compared_status outcome coverage ≡ Done → held ≡ [] → ⊥
some_of Same coverage held newest e = by_some held coverage.newest newest e
some_of (Collision c) coverage held newest e = cc

module _ (h : List ℕ → List ℕ) (names : Names) (honest suspect digests bytes other : List ℕ) (held : List HeldDigest)
    (x : IsExhibit h names honest digests bytes held) (y : HoldsImage names suspect other) (accepted : verdict_of h held other ≡ Yes) where
  compared : (covers : Option Coverage) (status : Status) (old new : Option (List ℕ)) (s : Extracts status h honest suspect digests covers (Some names) old new)
      → (outcome : ImageComparison) × (coverage : Coverage) × (both : AreCompared h held bytes other outcome) × (coverage ≡ coverage_of both.suspect held)
      × (finding_text s.finding ≡ compared_text outcome coverage) × (finding_status s.finding ≡ compared_status outcome coverage)
  compared covers status old new s =
      let j = s.is_found in
      let same = found_in names honest bytes image_limit j.a x.image_is.there j.are_in_vault.0 in
      let second = found_in names suspect other image_limit j.b y.there j.are_in_vault.1.0 in
      let file = found_in names digests x.digests_are.file digests_limit j.file x.digests_are.there j.are_in_vault.1.1 in
      let read = subst (λ (f : List ℕ). IsRead f (Ok j.on.0)) file j.on.1 in
      let one = read_once x.digests_are.file j.on.0 held read x.digests_are.read in
      compared_of_accepted h held bytes other x.accepted accepted s.finding
      (subst (λ (ds : List HeldDigest). IsFoundWith h ds bytes other s.finding) one
      (subst (λ (a : List ℕ). IsFoundWith h j.on.0 a other s.finding) same
      (subst (λ (b : List ℕ). IsFoundWith h j.on.0 j.a b s.finding) second j.on.2)))

  within : LacksExhibits Limit honest suspect digests (Some names) → ⊥
  within lacks = ⊎_elim
      (λ l. not_too_long names honest bytes image_limit x.image_is.there x.image_is.fits l)
      (λ more. ⊎_elim
      (λ l. not_too_long names suspect other image_limit y.there y.fits l.2)
      (λ l. not_too_long names digests x.digests_are.file digests_limit x.digests_are.there x.digests_are.fits l.3)
      more)
      lacks

  stands : (which : ℕ) → LacksExhibits (Missing which) honest suspect digests (Some names) → ⊥
  stands which lacks = ⊎_elim
      (λ l. not_missing names honest bytes x.image_is.there l.1)
      (λ more. ⊎_elim
      (λ l. not_missing names suspect other y.there l.2.1)
      (λ l. not_missing names digests x.digests_are.file x.digests_are.there l.3.1)
      more)
      lacks

  is_file : (index : Option ℕ) → HoldsNoDigests (Digests index) honest suspect digests (Some names) → ⊥
  is_file index none =
      let file = found_in names digests x.digests_are.file digests_limit none.file x.digests_are.there none.are_in_vault.1.1 in
      not_refused x.digests_are.file held index x.digests_are.read (subst (λ (f : List ℕ). AreRefused (Digests index) f) file none.refused)

  abbrev Found : Status → Option (List ℕ) → Option (List ℕ) → Type 0
  Found status old new = SaysWhatIsFound h held bytes other status old new

  found_same : (covers : Option Coverage) (old new : Option (List ℕ)) → Extracts Done h honest suspect digests covers (Some names) old new → (held ≡ [] → ⊥) × Found Done old new
  found_same covers old new s =
      let j = compared covers Done old new s in
      let done : compared_status j.0 j.1 ≡ Done = sym j.5 ∙ s.told.0 in (
        some_of j.0 j.1 held (ap (λ (c : Coverage). c.newest) j.3) done,
        record {
          found = j.0;
          compared = j.2;
          told = (is_same j.0 j.1 (λ e. (let both : Done ≡ No = sym done ∙ e in cc)), subst (TellsTaken old new) (j.4 ∙ text_is j.0 j.1) s.told.1);
        },
      )

  found_without : (covers : Option Coverage) (old new : Option (List ℕ)) → Extracts NoDigestHeld h honest suspect digests covers (Some names) old new → (held ≡ []) × Found NoDigestHeld old new
  found_without covers old new s =
      let j = compared covers NoDigestHeld old new s in
      let done : compared_status j.0 j.1 ≡ NoDigestHeld = sym j.5 ∙ s.told.0 in (
        none_of j.0 j.1 held (ap (λ (c : Coverage). c.newest) j.3) done,
        record {
          found = j.0;
          compared = j.2;
          told = (is_same j.0 j.1 (λ e. (let both : NoDigestHeld ≡ No = sym done ∙ e in cc)), subst (TellsTaken old new) (j.4 ∙ text_is j.0 j.1) s.told.1);
        },
      )

  found_other : (covers : Option Coverage) (old new : Option (List ℕ)) → Extracts No h honest suspect digests covers (Some names) old new → Found No old new
  found_other covers old new s =
      let j = compared covers No old new s in
      record {
        found = j.0;
        compared = j.2;
        told = (isnt_same j.0 j.1 (sym j.5 ∙ s.told.0), subst (TellsTaken old new) (j.4 ∙ text_is j.0 j.1) s.told.1);
      }

  found_partly : (covers : Option Coverage) (old new : Option (List ℕ)) → Extracts SinkFault h honest suspect digests covers (Some names) old new → Found SinkFault old new
  found_partly covers old new s =
      let j = compared covers SinkFault old new s in
      record { found = j.0; compared = j.2; told = subst (TellsPart old new) (j.4 ∙ text_is j.0 j.1) s.told }

  pub says_which : (covers : Option Coverage) (status : Status) (f : Faults) (old new : Option (List ℕ)) → ExtractCause status h honest suspect digests (Some names) f.vault f.sink
      → SaidOrIdle status (Extracts status h honest suspect digests covers (Some names) old new) f.idle → SaysSameOrCollision h held bytes other status f old new
  says_which covers Done f old new cause s = found_same covers old new s
  says_which covers NoDigestHeld f old new cause s = found_without covers old new s
  says_which covers No f old new cause s = found_other covers old new s
  says_which covers SinkFault f old new cause s = (cause, found_partly covers old new s)
  says_which covers VaultFault f old new cause s = (cause, s)
  says_which covers Memory f old new cause s = s
  says_which covers Limit f old new cause s = within cause
  says_which covers (Missing which) f old new cause s = stands which cause
  says_which covers (Digests index) f old new cause s = is_file index cause
  says_which covers Words f old new cause s = cause
  says_which covers SourceFault f old new cause s = cause
  says_which covers (Journal at) f old new cause s = cause
  says_which covers (Form line) f old new cause s = cause
  says_which covers NoEntry f old new cause s = cause
  says_which covers NotImage f old new cause s = cause
  says_which covers Receipt f old new cause s = cause
  says_which covers (TooFar entries) f old new cause s = cause

pub extract_says : (h : List ℕ → List ℕ) (names : Names) (honest suspect digests bytes other : List ℕ) (held : List HeldDigest) → IsExhibit h names honest digests bytes held
    → HoldsImage names suspect other → verdict_of h held other ≡ Yes
    → (status : Status) (f : Faults) (old new : Option (List ℕ)) (told : Option Names) → told ≡ Some names → EndsExtract h honest suspect digests told f status old new
    → SaysSameOrCollision h held bytes other status f old new
extract_says h names honest suspect digests bytes other held x y accepted status f old new told tells ends =
    let e = subst (λ (o : Option Names). EndsExtract h honest suspect digests o f status old new) tells ends in
    says_which h names honest suspect digests bytes other held x y accepted e.covers status f old new e.cause e.says
