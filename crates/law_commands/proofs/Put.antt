-- What a run saved stands in the vault, and is accepted.
use Rattle.std.proofs.Common.{◌≡◌, ◌∙◌, ◌≤◌, ◌++◌, ℕ, List, [], ◌∷◌, length, map, Option, None, Some, ap, refl, sym, subst}
use Rattle.std.specs.Prelude.{IfNone, OnSome, Ok}
use Rattle.base_io.specs.Store.{Names, Bytes}
use Rattle.sql_types.specs.declared.digest.Digest.{Digest}
use Rattle.sql_types.specs.declared.digest.HeldDigest.{HeldDigest}
use Rattle.sql_types.specs.declared.journal.Journal.{Journal}
use Rattle.sql_types.specs.declared.journal.JournalItem.{JournalItem}
use Rattle.sql_types.specs.declared.journal.TheConstants.{JOURNAL_VERSION}
use Rattle.spec_history.specs.Facts.{Fact}
use Rattle.spec_history.specs.Inputs.{InputSession}
use Rattle.spec_history.specs.Lists.{Each}
use Rattle.spec_history.specs.Meaning.{Meaning}
use Rattle.spec_history.specs.Transcripts.{Transcript}
use Rattle.spec_history.proofs.Trace.{each_weaker}
use Rattle.spec_syntax.specs.Text.{statement_of}
use Rattle.spec_protocol.specs.Seats.{KeptImage}
use Rattle.spec_verify.specs.declared.place.Verdict.TheVariants.{Yes}
use Rattle.spec_verify.specs.Bytes.{verdict_of}
use Rattle.format_digest.specs.Reading.{IsRead}
use Rattle.format_journal.specs.Journal.{journal_bytes}
use Rattle.format_journal.specs.Rules.{IsJournal}
use Rattle.law_behind.specs.Past.{Past}
use Rattle.law_headline.specs.Accepted.{IsAccepted, IsOfCut}
use Rattle.law_headline.specs.Held.{held, AllHeld}
use Rattle.law_headline.specs.LastImage.{last_image, last_image_bytes}
use Rattle.server_result.specs.declared.ran.RunOutcome.{RunOutcome as Output}
use Rattle.law_headline.specs.Headline.{Headline, IsSaved}
use Rattle.law_headline.specs.HeadlineBehind.{HeadlineBehind, IsSavedBehind}
use Rattle.cli_commands.specs.File.{File}
use Rattle.cli_commands.specs.GoesOn.{Continues, IsAcceptedWith}
use Rattle.cli_commands.specs.Replay.{IsSpelled, IsUnderName, SavesReplay, replayed_files, replayed_image}
use Rattle.cli_commands.specs.Files.{image_file, image_name, journal_file, journal_name}
use Rattle.cli_commands.specs.Run.{cut_file, digests_file, saved_files}
use Rattle.cli_commands.specs.Names.{digests_limit, image_limit}
use Rattle.cli_commands.specs.Status.TheVariants.{Done}
use Rattle.cli_commands.proofs.ReplayLemmas.{image_is_present}
use Rattle.law_commands.specs.Exhibits.{AcceptThePast, AreDigestsOf, AreExhibits, held_of}
use Rattle.law_commands.specs.Runs.{saved_of}
use Rattle.law_commands.proofs.Fits.{held_later}
use Rattle.law_commands.proofs.Reading.{found_in}
use Rattle.law_commands.proofs.Lists.{each_back, each_front, each_made, each_made_or, each_of}

-- ---- the headline of what is saved

-- what holds of images, a journal and digests holds of what was saved of them
pub moved : (P : List KeptImage → Journal → List Digest → Type 0) (images : List KeptImage) (J : Journal) (G : List Digest) (o : Output) → o.images ≡ images → o.journal ≡ J → o.digests ≡ G
    → P images J G → P o.images o.journal o.digests
moved P images J G o same_images same_journal same_digests x =
    subst (λ (K : Journal). P o.images K o.digests) (sym same_journal)
    (subst (λ (D : List Digest). P o.images J D) (sym same_digests)
    (subst (λ (ks : List KeptImage). P ks J G) (sym same_images) x))

-- each image is accepted with any digests of its blocks, and that of the whole journal with all
pub record AreAccepted (h : List ℕ → List ℕ) (o : Output) : Type 0 where
  pub each : Each (IsAccepted h o.journal.database o.journal.items o.digests) o.images
  pub last : verdict_of h (map held o.digests) (last_image_bytes h o.journal) ≡ Yes

module _ (h : List ℕ → List ℕ) (input : List InputSession) (setup : Option ℕ) (Order : Meaning → List Fact → Type 0) (X : List Transcript) (o : Output) where
  abbrev Accepted : KeptImage → Type 0
  Accepted k = IsAccepted h o.journal.database o.journal.items o.digests k

  pub accepted : Headline h input setup Order (saved_of X o) → AreAccepted h o
  accepted x = record {
    each = each_weaker (IsSaved h o.journal o.digests) Accepted
        (λ k saved digests closed. ap (verdict_of h (map held digests)) saved.of_its_part.bytes ∙ (saved.bound digests closed).yes)
        o.images (each_front (IsSaved h o.journal o.digests) o.images (last_image h o.journal ∷ []) x.every_image);
    last = x.all_digests.yes;
  }

  pub accepted_behind : (past : Past) → HeadlineBehind h past input setup Order (saved_of X o) → AreAccepted h o
  accepted_behind past x =
      let IsKept : KeptImage → Type 0 = IsSavedBehind h o.journal past o.digests in
      record {
        each = each_weaker IsKept Accepted
            (λ k saved digests closed. ap (verdict_of h (map held digests)) saved.of_its_part.bytes
            ∙ (saved.bound (map held digests) (each_made_or _ (IsOfCut o.journal.items k.0 o.digests) held digests closed)).yes)
            o.images (each_front IsKept o.images (last_image h o.journal ∷ []) x.every_image);
        last = x.all_digests.yes;
      }

-- ---- what stands

module _ (h : List ℕ → List ℕ) (o : Output) (names : Names) (save : List ℕ) (file : List ℕ) where
  abbrev Stands : File → Type 0
  Stands f = names f.name ≡ Bytes f.bytes

  abbrev cut_files : List File
  cut_files = map (cut_file save) o.images

  abbrev last_files : List File
  last_files = image_file save o.image ∷ digests_file save file ∷ journal_file save o.journal ∷ []

  within : (input : Option (List ℕ)) → OnSome input (length file ≤ digests_limit) → IfNone input (length file ≤ digests_limit) → length file ≤ digests_limit
  within None told_fits fits = fits
  within (Some bytes) told_fits fits = told_fits

  pub exhibits : (told : Option (List ℕ)) → AreAccepted h o → AreDigestsOf h o.journal (held_of o)
      → o.journal.version ≡ JOURNAL_VERSION → o.image ≡ last_image_bytes h o.journal → Each Stands (saved_files save o file) → IsRead file (Ok (map held o.digests)) → IsJournal o.journal
      → OnSome told (length file ≤ digests_limit) → AreExhibits h names save told o file
  exhibits told are all_held version image stand read spelling told_fits =
      let first : Each Stands cut_files = each_front Stands cut_files last_files stand in
      let last : Each Stands last_files = each_back Stands cut_files last_files stand in
      record {
        fits = told_fits;
        whole = λ image_fits file_fits. record {
          image_is = record { there = last.0; fits = image_fits };
          digests_are = record { file = file; there = last.1.0; fits = within told told_fits file_fits; read = read };
          accepted = ap (verdict_of h (map held o.digests)) image ∙ are.last;
        };
        kept = λ k is fits name digests holds closed. record {
          image_is = record { there = each_made Stands (cut_file save) o.images k first is; fits = fits };
          digests_are = holds;
          accepted = each_of (IsAccepted h o.journal.database o.journal.items o.digests) o.images k are.each is digests closed;
        };
        journal = record { there = last.1.1.0; spelling = spelling };
        version = version;
        image = image;
        closed = all_held;
      }

  -- with the digests of the journal from which it went on
  pub accept_the_past : (J : Journal) → Continues h J o → Each Stands (saved_files save o file) → AcceptThePast h names save J o
  accept_the_past J on stand =
      let first : Each Stands cut_files = each_front Stands cut_files last_files stand in
      let last : Each Stands last_files = each_back Stands cut_files last_files stand in
      record {
        whole = λ fits name digests holds closed.
            record { image_is = record { there = last.0; fits = fits }; digests_are = holds; accepted = on.accepted.0 digests closed };
        kept = λ k is fits name digests holds closed. record {
          image_is = record { there = each_made Stands (cut_file save) o.images k first is; fits = fits };
          digests_are = holds;
          accepted = each_made (IsAcceptedWith h J) (λ (k : KeptImage). k.1) o.images k on.accepted.1 is digests closed;
        };
        stay = λ digests closed. subst (λ (D : List ℕ). AllHeld h statement_of D o.journal.items digests) (sym on.database)
            (subst (λ (K : List JournalItem). AllHeld h statement_of J.database K digests) (sym on.begins) (held_later h J.database J.items on.new digests closed));
      }

-- ---- the journal that a run saved

-- the law that is used
abbrev pub HaveEqualBytes : Type 0
HaveEqualBytes = (i j : Journal) → IsJournal i → IsJournal j → journal_bytes i ≡ journal_bytes j → i ≡ j

module _ (equal : HaveEqualBytes) (h : List ℕ → List ℕ) (save : List ℕ) (input : Option (List ℕ)) (o : Output) (file : List ℕ) (names : Names) (x : AreExhibits h names save input o file) where
  -- it is what stands under its name
  same_journal : (J : Journal) (bytes : List ℕ) → IsUnderName (journal_name save) (Some names) bytes → IsSpelled J bytes → J ≡ o.journal
  same_journal J bytes there spelled =
      let found = found_in names (journal_name save) (journal_bytes o.journal) image_limit bytes x.journal.there there in
      equal J o.journal spelled.0 x.journal.spelling (sym spelled.1 ∙ found)

  -- so the digests are of its blocks
  pub next_day : (J : Journal) (bytes : List ℕ) → IsUnderName (journal_name save) (Some names) bytes → IsSpelled J bytes
      → (J ≡ o.journal) × AreDigestsOf h J (held_of o)
  next_day J bytes there spelled =
      let same = same_journal J bytes there spelled in
      (same, subst (λ (K : Journal). AreDigestsOf h K (held_of o)) (sym same) x.closed)

  -- and what is made of it again is the image that was saved
  pub same_image : (again : List ℕ) (after : Names) (taken_old taken_new : Option (List ℕ))
      → SavesReplay Done h (journal_name save) again (Some names) (Some after) taken_old taken_new → after (image_name again) ≡ Bytes o.image
  same_image again after taken_old taken_new s =
      let J = s.read.J in
      let same = same_journal J s.read.bytes s.read.is_in_vault s.read.spelled in
      let put = image_is_present again (replayed_image h J) (journal_bytes J) (replayed_files h again J) (Some names) (Some after) refl s.put in
      let in_version = ap (λ (n : ℕ). replayed_image h (record { version = n; database = o.journal.database; items = o.journal.items })) x.version in
      put ∙ ap (λ (K : Journal). Bytes (replayed_image h K)) same ∙ ap (λ (b : List ℕ). Bytes b) (in_version ∙ sym x.image)
