-- What `verify` says of an exhibit.
use Rattle.std.proofs.Common.{◌≡◌, ◌∙◌, ℕ, List, [], ◌∷◌, Option, Some, None, ap, refl, subst, ⊎_elim, false}
use Rattle.std.specs.Prelude.{Ok}
use Rattle.base_io.specs.Outside.{TellsTaken}
use Rattle.base_io.specs.Store.{Names}
use Rattle.sql_types.specs.declared.digest.HeldDigest.{HeldDigest}
use Rattle.format_digest.specs.Reading.{IsRead}
use Rattle.spec_verify.specs.declared.place.Verdict.TheVariants.{Yes}
use Rattle.spec_verify.specs.Bytes.{verdict_of}
use Rattle.cli_commands.specs.Status.{Status}
use Rattle.cli_commands.specs.Status.TheVariants.{Done, No, Words, Limit, SourceFault, SinkFault, VaultFault, Missing, Digests, Journal, Form, Memory, NotImage, NoEntry, Receipt, TooFar, NoDigestHeld}
use Rattle.cli_commands.specs.Names.{digests_limit, image_limit}
use Rattle.cli_commands.specs.Transfer.{TellsPart}
use Rattle.cli_commands.specs.Subject.{AreSubject, FileIsRefused, done_by}
use Rattle.cli_commands.specs.Verified.{HasRefusedFile, IsJudgedOn, IsVerified, SaysVerdict, VerifyCause, judgement_status, judgement_text}
use Rattle.cli_commands.specs.Verify.{AreRefused, LacksEvidence, SaidOrIdle, verdict_text}
use Rattle.cli_commands.specs.Coverage.{Coverage}
use Rattle.cli_commands.specs.Judgement.{Judgement}
use Rattle.cli_commands.specs.Judgement.TheVariants.{Accepted, Refused}
use Rattle.cli_commands.specs.Covers.{IsCovered, IsJudged, newest_block}
use Rattle.law_commands.specs.Calls.{Faults, EndsVerify, SaysYes}
use Rattle.law_commands.specs.Exhibits.{IsExhibit}
use Rattle.law_commands.proofs.Reading.{found_in, not_bad, not_missing, not_too_long, not_unreadable, read_once}

-- a file of digests isn't refused
pub not_refused : (file : List ℕ) (held : List HeldDigest) (index : Option ℕ) → IsRead file (Ok held) → AreRefused (Digests index) file → ⊥
not_refused file held None read refused = not_unreadable file held read refused
not_refused file held (Some index) read refused = not_bad file held index read refused

-- how a call ends tells whether there is a digest

pub by_none : (ds : List HeldDigest) (newest : Option ℕ) → newest ≡ newest_block ds → done_by newest ≡ NoDigestHeld → ds ≡ []
by_none [] newest same e = refl
by_none (d ∷ ds) newest same e = let done = ap done_by same in cc

pub by_some : (ds : List HeldDigest) (newest : Option ℕ) → newest ≡ newest_block ds → done_by newest ≡ Done → ds ≡ [] → ⊥
by_some [] newest same e none = let done = ap done_by same in cc
by_some (d ∷ ds) newest same e none = cc

module _ (h : List ℕ → List ℕ) (names : Names) (image digests bytes : List ℕ) (held : List HeldDigest) (x : IsExhibit h names image digests bytes held) where
  -- what is judged of the exhibit: it is accepted, and the digests cover so much
  judged_under : (judgement : Judgement) (under : List ℕ) (file : Option (List ℕ)) → AreSubject image (Some digests) names under file → IsJudgedOn h under file judgement → IsJudged h held bytes judgement
  judged_under judgement under None are on = absurd are
  judged_under judgement under (Some f) are on =
      let same = found_in names image bytes image_limit under x.image_is.there are.0 in
      let file = found_in names digests x.digests_are.file digests_limit f x.digests_are.there are.1 in
      let read = subst (λ (f : List ℕ). IsRead f (Ok on.0)) file on.1 in
      let one = read_once x.digests_are.file on.0 held read x.digests_are.read in
      subst (λ (ds : List HeldDigest). IsJudged h ds bytes judgement) one (subst (λ (b : List ℕ). IsJudged h on.0 b judgement) same on.2)

  judged : (judgement : Judgement) → IsVerified h image (Some digests) (Some names) judgement → IsJudged h held bytes judgement
  judged judgement v = judged_under judgement v.bytes v.file v.are_in_vault v.on

  -- so the line is Yes
  text_yes : (judgement : Judgement) → IsJudged h held bytes judgement → judgement_text false judgement ≡ verdict_text Yes
  text_yes (Accepted coverage) j = refl
  text_yes (Refused verdict) j = absurd (j.0 (j.1 ∙ x.accepted))

  not_no : (judgement : Judgement) → IsJudged h held bytes judgement → judgement_status (Some digests) judgement ≡ No → ⊥
  not_no (Accepted coverage) j e = by (newest_block held) (coverage.newest) (ap (λ (c : Coverage). c.newest) j.is) e
    where
      by : (a b : Option ℕ) → b ≡ a → done_by b ≡ No → ⊥
      by a None same e = cc
      by a (Some n) same e = cc
  not_no (Refused verdict) j e = j.0 (j.1 ∙ x.accepted)

  none_held : (judgement : Judgement) → IsJudged h held bytes judgement → judgement_status (Some digests) judgement ≡ NoDigestHeld → held ≡ []
  none_held (Accepted coverage) j e = by_none held coverage.newest (ap (λ (c : Coverage). c.newest) j.is) e
  none_held (Refused verdict) j e = absurd (j.0 (j.1 ∙ x.accepted))

  some_held : (judgement : Judgement) → IsJudged h held bytes judgement → judgement_status (Some digests) judgement ≡ Done → held ≡ [] → ⊥
  some_held (Accepted coverage) j e = by_some held coverage.newest (ap (λ (c : Coverage). c.newest) j.is) e
  some_held (Refused verdict) j e = absurd (j.0 (j.1 ∙ x.accepted))

  within : LacksEvidence Limit image digests (Some names) → ⊥
  within lacks = ⊎_elim
      (λ l. not_too_long names image bytes image_limit x.image_is.there x.image_is.fits l)
      (λ l. not_too_long names digests x.digests_are.file digests_limit x.digests_are.there x.digests_are.fits l.2)
      lacks

  stands : (which : ℕ) → LacksEvidence (Missing which) image digests (Some names) → ⊥
  stands which lacks = ⊎_elim
      (λ l. not_missing names image bytes x.image_is.there l.1)
      (λ l. not_missing names digests x.digests_are.file x.digests_are.there l.2.1)
      lacks

  file_is : (index : Option ℕ) (under : List ℕ) (file : Option (List ℕ)) → AreSubject image (Some digests) names under file → FileIsRefused (Digests index) file → ⊥
  file_is index under None are refused = refused
  file_is index under (Some f) are refused =
      let file = found_in names digests x.digests_are.file digests_limit f x.digests_are.there are.1 in
      not_refused x.digests_are.file held index x.digests_are.read (subst (λ (f : List ℕ). AreRefused (Digests index) f) file refused)

  is_file : (index : Option ℕ) → HasRefusedFile (Digests index) image (Some digests) (Some names) → ⊥
  is_file index none = file_is index none.bytes none.file none.are_in_vault none.refused

  pub says_yes : (covers : Option Coverage) (status : Status) (f : Faults) (old new : Option (List ℕ)) → VerifyCause status h image (Some digests) (Some names) f.vault f.sink
      → SaidOrIdle status (SaysVerdict status h image (Some digests) false covers (Some names) old new) f.idle → SaysYes held status f old new
  says_yes covers Done f old new cause s =
      let j = judged s.judgement s.verified in
      (some_held s.judgement j s.said.0, subst (TellsTaken old new) (text_yes s.judgement j) s.said.1)
  says_yes covers NoDigestHeld f old new cause s =
      let j = judged s.judgement s.verified in
      (none_held s.judgement j s.said.0, subst (TellsTaken old new) (text_yes s.judgement j) s.said.1)
  says_yes covers No f old new cause s = not_no s.judgement (judged s.judgement s.verified) s.said.0
  says_yes covers SinkFault f old new cause s = (cause, subst (TellsPart old new) (text_yes s.judgement (judged s.judgement s.verified)) s.said)
  says_yes covers VaultFault f old new cause s = (cause, s)
  says_yes covers Memory f old new cause s = s
  says_yes covers Limit f old new cause s = within cause
  says_yes covers (Missing which) f old new cause s = stands which cause
  says_yes covers (Digests index) f old new cause s = is_file index cause
  says_yes covers Words f old new cause s = cause
  says_yes covers SourceFault f old new cause s = cause
  says_yes covers (Journal at) f old new cause s = cause
  says_yes covers (Form line) f old new cause s = cause
  says_yes covers NoEntry f old new cause s = cause
  says_yes covers NotImage f old new cause s = cause
  says_yes covers Receipt f old new cause s = cause
  says_yes covers (TooFar entries) f old new cause s = cause

pub verify_says : (h : List ℕ → List ℕ) (names : Names) (image digests bytes : List ℕ) (held : List HeldDigest) → IsExhibit h names image digests bytes held
    → (status : Status) (f : Faults) (old new : Option (List ℕ)) (told : Option Names) → told ≡ Some names → EndsVerify h image digests told f status old new
    → SaysYes held status f old new
verify_says h names image digests bytes held x status f old new told tells ends =
    let e = subst (λ (o : Option Names). EndsVerify h image digests o f status old new) tells ends in
    says_yes h names image digests bytes held x e.covers status f old new e.cause e.says
