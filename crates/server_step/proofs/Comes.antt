-- What a core left is a run of the statements that were asked of it.
use Rattle.std.proofs.Common.{◌≡◌, ℕ, true, List, [], ◌∷◌, map, length, refl, sym, ap, ap₂, ◌∙◌, subst}
use Rattle.std.specs.List.{list_any, IsDistinct, AllByRecursion, All}
use Rattle.std.specs.Str.{bytes_eq}
use Rattle.base_types.specs.DatabaseName.{is_database_name}
use Rattle.base_types.specs.Moment.{is_moment}
use Rattle.base_types.specs.SessionName.{is_session_name}
use Rattle.sql_types.specs.declared.journal.TheConstants.{JOURNAL_VERSION}
use Rattle.sql_types.specs.declared.digest.Digest.{Digest}
use Rattle.sql_types.specs.declared.journal.Journal.{Journal}
use Rattle.sql_types.specs.declared.journal.JournalItem.{JournalItem}
use Rattle.spec_model.specs.LegalJournals.{IsLegalJournal}
use Rattle.spec_model.specs.Script.{Reading}
use Rattle.spec_history.specs.Agree.{AreStatements}
use Rattle.spec_history.specs.Inputs.{InputLine, sessions_in}
use Rattle.spec_history.specs.Journals as journals
use Rattle.spec_history.specs.Lists.{Text, Each, In}
use Rattle.spec_history.specs.Transcripts.{Transcript}
use Rattle.spec_history.proofs.Trace.{each_weaker}
use Rattle.format_image.specs.Image.{image_of_cut}
use Rattle.format_image.specs.ImageBytes.{image_bytes}
use Rattle.law_image.specs.Room.{FitsImageFormat}
use Rattle.spec_syntax.specs.Text.{statement_of}
use Rattle.spec_verify.specs.declared.place.Verdict.TheVariants.{Yes}
use Rattle.spec_verify.specs.Bytes.{verdict_of}
use Rattle.law_kept_images.specs.Held.{held}
use Rattle.format_lines.specs.Line.{Statement}
use Rattle.format_lines.specs.Sessions.{sessions_of}
use Rattle.spec_protocol.specs.Reordered.{NamesApart}
use Rattle.spec_protocol.specs.Seats.{KeptImage}
use Rattle.spec_protocol.specs.Server.{Server}
use Rattle.spec_protocol.specs.Serves.{Serves}
use Rattle.server_engine.proofs.SameNames.{names_apart}
use Rattle.server_engine.specs.OutcomeBehind.{HasEndedBehind, RunAgreesBehind}
use Rattle.server_engine.specs.SessionOutput.{IsImageOf}
use Rattle.server_engine.proofs.SessionOutput.{some_meaning}
use Rattle.law_behind.specs.Past.{Past, since}
use Rattle.law_kept_images.specs.AcceptedBehind.{IsAcceptedBehind}
use Rattle.server_engine.specs.declared.parts.Parts.{Parts}
use Rattle.law_kept_images.specs.LastImage.{journal_of, last_image, last_image_bytes}
use Rattle.law_kept_images.proofs.Accepts.{each_in}
use Rattle.server_result.specs.Images.{with_each}
use Rattle.server_result.specs.Moments.{IsMoment}
use Rattle.server_result.proofs.Kept.{are_kept, each_of_all}
use Rattle.server_result.proofs.Made.{moment_is}
use Rattle.server_result.proofs.Each.{each_from_all}
use Rattle.server_step.specs.CameBehind.{CameToBehind}
use Rattle.server_step.specs.Lines.{lines_of}
use Rattle.server_step.specs.Numbers.{number_of, numbers_of}
use Rattle.server_step.specs.RunOutcome.{HasRun, run_left}
use Rattle.server_step.specs.Woven.{woven}
use Rattle.server_step.specs.Written.{AreWritten}
use Rattle.server_step.proofs.Steps.{push}
use Rattle.server_step.proofs.OneList.{are_written}

-- ---- the laws that are used

abbrev pub RunsAgree : Type 0
RunsAgree = (h : List ℕ → List ℕ) (reads : Reading) (database : Text) (size : ℕ) (past : Past) (names : List Text) (lines : List InputLine) (moments : List ℕ) (X : List Transcript) (images : List (List KeptImage)) (J : List JournalItem) (G : List Digest)
    → map (λ x. x.session) X ≡ names → NamesApart names → ((v : Server) → Serves h reads v → HasEndedBehind v database size past names lines moments X images J G)
    → RunAgreesBehind h reads database size past names lines X images J G

abbrev pub JournalsAreLegal : Type 0
JournalsAreLegal = (v : Server) (database : Text) (size : ℕ) (past : Past) (names : List Text) (lines : List InputLine) (moments : List ℕ) (X : List Transcript) (images : List (List KeptImage)) (J : List JournalItem) (G : List Digest)
    → HasEndedBehind v database size past names lines moments X images J G → map (λ x. x.session) X ≡ names → is_database_name database ≡ true
    → Each (λ name. is_session_name name ≡ true) names → Each (λ time. is_moment time ≡ true) moments → IsLegalJournal v.reads (record { version = JOURNAL_VERSION; database = database; items = J })

abbrev pub TimesAreTheirs : Type 0
TimesAreTheirs = (v : Server) (database : Text) (size : ℕ) (past : Past) (names : List Text) (lines : List InputLine) (moments : List ℕ) (X : List Transcript) (images : List (List KeptImage)) (J : List JournalItem) (G : List Digest)
    → HasEndedBehind v database size past names lines moments X images J G → Each (λ time. In time moments) (journals.times (since past J)) × Each (λ d. In d.made moments) G

abbrev pub KeptAreAccepted : Type 0
KeptAreAccepted = (h : List ℕ → List ℕ) (database : Text) (size : ℕ) (past : Past) (names : List Text) (lines : List InputLine) (X : List Transcript) (images : List (List KeptImage)) (J : List JournalItem) (G : List Digest)
    → RunAgreesBehind h statement_of database size past names lines X images J G → IsLegalJournal statement_of (record { version = JOURNAL_VERSION; database = database; items = J }) → FitsImageFormat h statement_of database J
    → Each (λ kept. Each (IsAcceptedBehind h database past J G) kept) images

abbrev pub WholeIsAccepted : Type 0
WholeIsAccepted = (h : List ℕ → List ℕ) (database : Text) (size : ℕ) (past : Past) (names : List Text) (lines : List InputLine) (X : List Transcript) (images : List (List KeptImage)) (J : List JournalItem) (G : List Digest)
    → RunAgreesBehind h statement_of database size past names lines X images J G → IsLegalJournal statement_of (record { version = JOURNAL_VERSION; database = database; items = J }) → FitsImageFormat h statement_of database J
    → IsAcceptedBehind h database past J G (last_image h (journal_of database J))

abbrev pub AllAreAccepted : Type 0
AllAreAccepted = (h : List ℕ → List ℕ) (database : Text) (size : ℕ) (past : Past) (names : List Text) (lines : List InputLine) (X : List Transcript) (images : List (List KeptImage)) (J : List JournalItem) (G : List Digest)
    → RunAgreesBehind h statement_of database size past names lines X images J G → IsLegalJournal statement_of (record { version = JOURNAL_VERSION; database = database; items = J }) → FitsImageFormat h statement_of database J
    → verdict_of h (map held G) (last_image_bytes h (journal_of database J)) ≡ Yes

abbrev pub IsServed : Type 0
IsServed = (h : List ℕ → List ℕ) (reads : Reading) → (v : Server) × Serves h reads v

abbrev pub SessionsAreNamed : Type 0
SessionsAreNamed = (ss : List Statement) → All (λ s. list_any (bytes_eq s.session) (sessions_of ss) ≡ true) ss

abbrev pub SessionsDiffer : Type 0
SessionsDiffer = (ss : List Statement) → IsDistinct bytes_eq (sessions_of ss)

-- ---- lines

numbers_are : (names : List Text) (ss : List Statement) → map (λ line. number_of names line.session) (lines_of ss) ≡ numbers_of names ss
numbers_are names [] = refl
numbers_are names (s ∷ ss) = ap (λ ns. number_of names s.session ∷ ns) (numbers_are names ss)

named_lines : (names : List Text) (ss : List Statement) → AllByRecursion (λ s. list_any (bytes_eq s.session) names ≡ true) ss → Each (λ line. list_any (bytes_eq line.session) names ≡ true) (lines_of ss)
named_lines names [] e = tt
named_lines names (s ∷ ss) e = (e.0, named_lines names ss e.1)

-- ---- all

module _ {H : Type 0} (agree : RunsAgree) (legal : JournalsAreLegal) (theirs : TimesAreTheirs) (kept : KeptAreAccepted) (whole : WholeIsAccepted) (all : AllAreAccepted) (served : IsServed) (differ : SessionsDiffer) (named : SessionsAreNamed) where
  module _ (h : List ℕ → List ℕ) (past : Past) (database : Text) (size : ℕ) (says : ℕ → Type 0) (statements : List Statement) (p : Parts H) (x : HasRun h past database size says statements p) where
    abbrev names : List Text
    names = sessions_of statements

    abbrev X : List Transcript
    X = x.left.transcripts

    abbrev images : List (List KeptImage)
    images = map (λ y. y.images) p.sessions.items

    abbrev J : List JournalItem
    J = p.journal.items

    abbrev v : Server
    v = (served h statement_of).0

    abbrev serves : Serves h statement_of v
    serves = (served h statement_of).1

    they_agree : RunAgreesBehind h statement_of database size past names (lines_of statements) X images J p.digests
    they_agree = agree h statement_of database size past names (lines_of statements) x.times X images J p.digests x.left.names (names_apart names (differ statements)) x.left.ended

    is_legal : IsLegalJournal statement_of (record { version = JOURNAL_VERSION; database = database; items = J })
    is_legal = subst (λ (reads : Reading). IsLegalJournal reads (record { version = JOURNAL_VERSION; database = database; items = J })) serves.reading
        (legal v database size past names (lines_of statements) x.times X images J p.digests (x.left.ended v serves) x.left.names x.database_is_named x.sessions_are_named
        (each_weaker (IsMoment says) (λ time. is_moment time ≡ true) (moment_is says) x.times x.moments))

    the_journal : record { version = JOURNAL_VERSION; database = database; items = J } ≡ p.journal
    the_journal = ap₂ (λ (v : ℕ) (d : Text). record { version = v; database = d; items = J }) (sym x.left.version) (sym x.left.database)

    in_time : Each (λ time. In time x.times) (journals.times (since past J)) × Each (λ d. In d.made x.times) p.digests
    in_time = theirs v database size past names (lines_of statements) x.times X images J p.digests (x.left.ended v serves)

    are_written_so : AreWritten X (lines_of statements) (woven (numbers_of names statements) (map (λ y. y.entries) X))
    are_written_so =
        let m = some_meaning h statement_of in
        let are = ((they_agree).agree m.0 m.1).statements_are_answered in
        let written = are_written X (lines_of statements)
        (subst NamesApart (sym x.left.names) (names_apart names (differ statements)))
        (subst (λ (ns : List Text). Each (λ line. list_any (bytes_eq line.session) ns ≡ true) (lines_of statements)) (sym x.left.names) (named_lines names statements (each_from_all (λ s. list_any (bytes_eq s.session) names ≡ true) statements (named statements))))
        (subst (λ (ns : List Text). AreStatements (sessions_in (lines_of statements) ns) X) (sym x.left.names) are) in
        subst (λ (is : List ℕ). AreWritten X (lines_of statements) (woven is (map (λ y. y.entries) X)))
        (ap (λ (ns : List Text). map (λ line. number_of ns line.session) (lines_of statements)) x.left.names ∙ numbers_are names statements) written

    abbrev bytes : ℕ → Text
    bytes items = image_bytes (image_of_cut h statement_of database J items)

    each_has : Each (λ ks. Each (λ k. k.1 ≡ bytes k.0) ks) images
    each_has = each_weaker (λ ks. Each (IsImageOf h statement_of database J) ks) (λ ks. Each (λ k. k.1 ≡ bytes k.0) ks)
        (λ ks. each_weaker (IsImageOf h statement_of database J) (λ k. k.1 ≡ bytes k.0) (λ k is. is.bytes) ks) images (they_agree).are_images

    last_accepted : IsAcceptedBehind h database past J p.digests (last_image h p.journal)
    last_accepted = subst (λ (j : Journal). IsAcceptedBehind h database past J p.digests (last_image h j)) the_journal
        (whole h database size past names (lines_of statements) X images J p.digests they_agree is_legal x.left.room)

    all_so : verdict_of h (map held p.digests) (last_image_bytes h p.journal) ≡ Yes
    all_so = subst (λ (j : Journal). verdict_of h (map held p.digests) (last_image_bytes h j) ≡ Yes) the_journal
        (all h database size past names (lines_of statements) X images J p.digests they_agree is_legal x.left.room)

    pub comes_to : CameToBehind h database size past says statements (run_left statements X p)
    comes_to = record {
      agrees = they_agree;
      version = x.left.version;
      legal = subst (λ (j : Journal). IsLegalJournal statement_of j) the_journal is_legal;
      of_database = x.left.database;
      times = each_weaker (λ time. In time x.times) (IsMoment says) (λ time i. each_in (IsMoment says) x.times time x.moments i) (journals.times (since past J)) (in_time).0;
      made = each_weaker (λ (d : Digest). In d.made x.times) (λ d. IsMoment says d.made) (λ d i. each_in (IsMoment says) x.times d.made x.moments i) p.digests (in_time).1;
      written = are_written_so;
      saved = are_kept bytes images each_has;
      accepted = push (IsAcceptedBehind h database past J p.digests) (with_each images) (last_image h p.journal)
          (each_of_all (IsAcceptedBehind h database past J p.digests) images (kept h database size past names (lines_of statements) X images J p.digests they_agree is_legal x.left.room)) last_accepted;
      all_accepted = all_so;
    }
