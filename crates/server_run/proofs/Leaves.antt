-- What is saved of threads that have ended is that of a run of their plan.
use Rattle.std.proofs.Common.{◌≡◌, ◌∙◌, ℕ, true, List, [], ◌∷◌, ◌++◌, codes, length, map, refl, sym, ap, ap₂, subst, subst₂}
use Rattle.std.specs.List.{All, AllByRecursion, IsDistinct}
use Rattle.std.specs.Str.{bytes_eq}
use Rattle.base_types.specs.DatabaseName.{is_database_name}
use Rattle.base_types.specs.SessionName.{is_session_name}
use Rattle.sql_types.specs.declared.digest.Digest.{Digest}
use Rattle.sql_types.specs.declared.journal.Journal.{Journal}
use Rattle.sql_types.specs.declared.journal.JournalItem.{JournalItem}
use Rattle.spec_model.specs.Journals.{closed, cut, serial, tx_count}
use Rattle.spec_model.specs.LegalJournals.{IsLegalJournal}
use Rattle.spec_history.specs.Inputs.{InputSession}
use Rattle.spec_history.specs.Journals.{times}
use Rattle.spec_history.specs.Lists.{Text, Each}
use Rattle.spec_history.proofs.Trace.{each_weaker}
use Rattle.format_image.specs.Image.{image_of, image_of_cut}
use Rattle.format_image.specs.ImageBytes.{image_bytes, IsImage}
use Rattle.law_image.specs.Room.{FitsImageFormat}
use Rattle.format_journal.specs.Rules.{IsJournal}
use Rattle.format_digest.specs.Writing.{HasMoments}
use Rattle.spec_syntax.specs.Text.{statement_of}
use Rattle.format_sections.specs.RunSections.{run_sections_view, section_view, session_names, statements_run}
use Rattle.format_sections.specs.declared.all_sections.RunSections.{RunSections}
use Rattle.format_sections.specs.declared.section.Section.{Section}
use Rattle.spec_protocol.specs.Cells.{Cell, LedgerCell, pending_in}
use Rattle.spec_protocol.specs.LedgerIsLegal.{LedgerIsLegal}
use Rattle.spec_protocol.specs.JournalForms.{journal_in}
use Rattle.spec_protocol.specs.Reordered.{NamesApart}
use Rattle.spec_protocol.specs.Seats.{KeptImage, Written}
use Rattle.spec_protocol.specs.StandTogether.{History, Stands}
use Rattle.spec_protocol.specs.Serves.{Serves}
use Rattle.server_ending.proofs.SameNames.{names_apart}
use Rattle.server_ending.specs.SessionOutput.{IsImageOf}
use Rattle.server_ending.specs.Wrote.{transcripts_in}
use Rattle.server_ending.proofs.SessionOutput.{some_meaning}
use Rattle.server_ending.specs.Images.{CellsStand}
use Rattle.server_ending.proofs.ImagesOfCells.{bytes_are_the_journals}
use Rattle.server_thread.specs.Laws.{one_ledger}
use Rattle.server_thread.specs.ServedDatabase.{IsOf as IsOfDatabase, ServedDatabase}
use Rattle.law_snapshots.specs.Answered.{AreAnsweredOver, whole_database}
use Rattle.server_result.specs.Images.{AreKept, with_each}
use Rattle.server_result.specs.Moments.{IsMoment}
use Rattle.server_result.specs.declared.ran.RunOutcome.{RunOutcome}
use Rattle.server_result.proofs.Kept.{are_kept}
use Rattle.server_result.proofs.LegalTimes.{AnyTime, at_any_time, legal_times, made_at_any_time}
use Rattle.server_result.proofs.Made.{have_moments, moment_is}
use Rattle.server_result.proofs.Each.{each_from_all}
use Rattle.law_concurrent.specs.CameTo.{RunResult, last_image_bytes}
use Rattle.law_concurrent.specs.CameToBehind.{CameToBehind}
use Rattle.law_concurrent.specs.JoinedBehind.{HasJoinedBehind}
use Rattle.law_concurrent.specs.Threads.{session_in}
use Rattle.spec_verify.specs.declared.place.Verdict.TheVariants.{Yes}
use Rattle.spec_verify.specs.Bytes.{verdict_of}
use Rattle.law_concurrent.specs.Held.{held}
use Rattle.server_ending.specs.Standing.{pending_found}
use Rattle.server_run.specs.CameTo.{AllAnswered, AreLast, IsClosed, IsOf, and_digests, input_of, sections_of, session_of, texts_with}
use Rattle.server_ending.specs.Closing.{IssuesLast, pending_there}
use Rattle.server_run.specs.FinishedRun.{HasFinished, setup_name}
use Rattle.server_ending.specs.Saved.{HasSaved, with_digests}
use Rattle.server_thread.specs.Seated.{texts_in}
use Rattle.server_run.specs.AllWrote.{AreWritten}
use Rattle.server_thread.specs.Wrote.{IsWritten}
use Rattle.server_ending.specs.declared.finished.FinishedRun.{FinishedRun}
use Rattle.server_thread.specs.SessionEnd.{SessionEnd}
use Rattle.server_run.proofs.Issued.{Laws, accepted_with, all_have_moments, all_in_blocks, are_last}
use Rattle.server_run.proofs.Named.{setup_named}
use Rattle.server_run.proofs.Readers.{all_answered, answers_in, none_answered, run_text}

-- ---- what sessions wrote

module _ (says : ℕ → Type 0) where
  input_is : (name : Text) (texts : List Text) (e : SessionEnd) (w : Written) → IsWritten says name texts e w → session_in w.transcript ≡ record { name = name; texts = texts }
  input_is name texts e w is = ap₂ (λ (n : Text) (ts : List Text). record { name = n; texts = ts }) is.session is.texts

  inputs_are : (ps : List Section) (es : List SessionEnd) (ws : List Written) → AreWritten says ps es ws → map session_in (transcripts_in ws) ≡ map session_of (map section_view ps)
  inputs_are [] [] [] a = refl
  inputs_are [] [] (w ∷ ws) a = absurd a
  inputs_are [] (e ∷ es) ws a = absurd a
  inputs_are (p ∷ ps) [] ws a = absurd a
  inputs_are (p ∷ ps) (e ∷ es) [] a = absurd a
  inputs_are (p ∷ ps) (e ∷ es) (w ∷ ws) a = ap₂ (λ (x : InputSession) (xs : List InputSession). x ∷ xs) (input_is p.name.now (statements_run (section_view p)) a.0.left w a.0.is) (inputs_are ps es ws a.1)

  images_are : (ps : List Section) (es : List SessionEnd) (ws : List Written) → AreWritten says ps es ws → map (λ e. e.images) es ≡ map (λ w. w.images) ws
  images_are [] [] [] a = refl
  images_are [] [] (w ∷ ws) a = absurd a
  images_are [] (e ∷ es) ws a = absurd a
  images_are (p ∷ ps) [] ws a = absurd a
  images_are (p ∷ ps) (e ∷ es) [] a = absurd a
  images_are (p ∷ ps) (e ∷ es) (w ∷ ws) a = ap₂ (λ (x : List KeptImage) (xs : List (List KeptImage)). x ∷ xs) (a.0.images ∙ a.0.is.images) (images_are ps es ws a.1)

  moments_are : (ps : List Section) (es : List SessionEnd) (ws : List Written) → AreWritten says ps es ws → Each (λ w. Each (IsMoment says) w.moments) ws
  moments_are [] [] [] a = tt
  moments_are [] [] (w ∷ ws) a = absurd a
  moments_are [] (e ∷ es) ws a = absurd a
  moments_are (p ∷ ps) [] ws a = absurd a
  moments_are (p ∷ ps) (e ∷ es) [] a = absurd a
  moments_are (p ∷ ps) (e ∷ es) (w ∷ ws) a = (a.0.is.moments, moments_are ps es ws a.1)

-- ---- all

-- the laws that images of cuts have a spelling, and that what is answered over them is answered over serial runs
pub record SnapshotLaws : Type 0 where
  pub encodable : (h : List ℕ → List ℕ) (j : Journal) (m : ℕ) → IsLegalJournal statement_of j → FitsImageFormat h statement_of j.database j.items
      → IsImage (image_of_cut h statement_of j.database j.items m)
  pub serially : (h : List ℕ → List ℕ) (j : Journal) (m : ℕ) (name : Text) (texts entries : List Text) → IsLegalJournal statement_of j
      → AreAnsweredOver (whole_database (image_of_cut h statement_of j.database j.items m)) name texts entries
      → AreAnsweredOver (serial statement_of (cut j.items m)) name texts entries

module _ (h : List ℕ → List ℕ) (sized : (bytes : List ℕ) → length (h bytes) ≡ 32) (says : ℕ → Type 0) (all_sections : RunSections)
    (d : ServedDatabase) (serves : Serves h statement_of d.server) (f : FinishedRun) (fin : HasFinished d says (texts_in all_sections.setup.items) all_sections.sessions.items f) where
  abbrev cells : List Cell
  cells = map (λ c. c.cell) f.cells.items

  pub cells_stand : CellsStand f.cells.items
  cells_stand = record { hash = h; sized = sized; v = d.server; serves = serves; seats = fin.stands.start.begins.seat ∷ fin.seats; together = fin.stands.together }

  abbrev all : List Written
  all = fin.first ∷ fin.rest

  abbrev pub left_of : RunOutcome → RunResult
  left_of r = record { X = transcripts_in all; kept = map (λ w. w.images) all; J = r.journal; G = r.digests }

  -- what it comes to behind its past
  abbrev pub Came : RunOutcome → Type 0
  Came r = CameToBehind h d.database d.size d.past (IsMoment says) (input_of (run_sections_view all_sections)) (left_of r)

  module _ (r : RunOutcome) (saved : HasSaved f r) where
    abbrev st : Stands d.server fin.stands.together.history cells (fin.stands.start.begins.seat ∷ fin.seats)
    st = fin.stands.together.stands

    abbrev l : LedgerCell
    l = saved.ledger

    same_ledger : st.ledger ≡ l
    same_ledger = one_ledger cells st.ledger l st.are_cells.has_ledger saved.there

    of : IsOfDatabase d l
    of = fin.stands.of l saved.there

    the_journal : r.journal ≡ journal_in l
    the_journal = ap₂ (λ (name : Text) (items : List JournalItem). record { version = r.journal.version; database = name; items = items }) saved.database saved.items
        ∙ ap (λ (version : ℕ). record { version = version; database = l.database; items = l.items }) saved.version

    room : FitsImageFormat h statement_of d.database l.items
    unfolding cells_stand
    room = subst (λ (name : Text). FitsImageFormat h statement_of name l.items) of.database
        (subst (λ (k : LedgerCell). FitsImageFormat h statement_of k.database k.items) same_ledger (saved.room cells_stand st.catalog st.ledger st.are_cells))

    pub joined_so : is_database_name d.database ≡ true → All (λ name. is_session_name name ≡ true) (session_names (run_sections_view all_sections)) → IsDistinct bytes_eq (codes "setup" ∷ session_names (run_sections_view all_sections))
        → HasJoinedBehind h d.database d.size d.past (IsMoment says) (input_of (run_sections_view all_sections)) (left_of r)
    joined_so named names apart = record {
      v = d.server;
      serves = serves;
      start = fin.stands.start;
      cells = cells;
      first = fin.first;
      others = fin.rest;
      joined = record {
        events = fin.stands.events;
        seats = fin.seats;
        stands = subst (λ (hs : History). Stands d.server hs cells (fin.stands.start.begins.seat ∷ fin.seats)) fin.stands.since st;
        added = fin.stands.added;
        j = fin.j;
        s = fin.s;
        there = fin.there;
        rests = fin.rests;
        wrote = fin.wrote;
        others = fin.others;
      };
      knew = fin.knew;
      ledger = l;
      there = saved.there;
      of_database = of.database;
      of_size = of.block_size;
      input_is = ap₂ (λ (x : InputSession) (xs : List InputSession). x ∷ xs) (input_is says setup_name (texts_in all_sections.setup.items) f.setup fin.first fin.setup_is) (inputs_are says all_sections.sessions.items f.ends.items fin.rest fin.are);
      apart = subst NamesApart (sym (names_in all_sections)) (names_apart (codes "setup" ∷ session_names (run_sections_view all_sections)) apart);
      database_is_named = named;
      sessions_are_named = (setup_named, each_named all_sections (each_from_all (λ name. is_session_name name ≡ true) (session_names (run_sections_view all_sections)) names));
      moments = (fin.setup_is.moments, moments_are says all_sections.sessions.items f.ends.items fin.rest fin.are);
      are_moments = moment_is says;
      ids = saved.ids;
      room = room;
      transcripts = refl;
      kept = refl;
      journal = the_journal;
      digests = saved.digests;
    }
      where
        names_of : (ps : List Section) → map (λ s. s.name) (map session_of (map section_view ps)) ≡ map (λ s. s.name) (map section_view ps)
        names_of [] = refl
        names_of (p ∷ ps) = ap (λ (ns : List Text). p.name.now ∷ ns) (names_of ps)

        names_in : (p : RunSections) → map (λ s. s.name) (input_of (run_sections_view p)) ≡ codes "setup" ∷ session_names (run_sections_view p)
        names_in p = ap (λ (ns : List Text). codes "setup" ∷ ns) (names_of p.sessions.items)

        named_by : (ps : List Section) → Each (λ name. is_session_name name ≡ true) (map (λ s. s.name) (map section_view ps)) → Each (λ s. is_session_name s.name ≡ true) (map session_of (map section_view ps))
        named_by [] e = tt
        named_by (p ∷ ps) e = (e.0, named_by ps e.1)

        each_named : (p : RunSections) → Each (λ name. is_session_name name ≡ true) (session_names (run_sections_view p)) → Each (λ s. is_session_name s.name ≡ true) (map session_of (run_sections_view p).sessions)
        each_named p e = named_by p.sessions.items e

    -- ---- what is saved

    abbrev answers : List (List Text)
    answers = [] ∷ answers_in says all_sections.sessions.items f.ends.items fin.rest fin.are

    text_is : r.transcript ≡ texts_with (transcripts_in all) answers
    text_is = saved.transcript ∙ run_text says (texts_in all_sections.setup.items) f.setup fin.first fin.setup_is all_sections.sessions.items f.ends.items fin.rest fin.are

    images_of_all : r.images ≡ with_each (map (λ w. w.images) all)
    images_of_all = saved.images ∙ ap₂ (λ (x : List KeptImage) (xs : List (List KeptImage)). with_each (x ∷ xs)) fin.setup_is.images (images_are says all_sections.sessions.items f.ends.items fin.rest fin.are)

    image_is : r.image ≡ last_image_bytes h r.journal
    image_is = bytes_are_the_journals h d.server serves fin.stands.together.history (fin.stands.start.begins.seat ∷ fin.seats) f.cells.items st r.image saved.bytes
        ∙ ap (λ (k : LedgerCell). image_bytes (image_of h statement_of k.database k.items)) same_ledger
        ∙ ap (λ (J : Journal). last_image_bytes h J) (sym the_journal)

    abbrev bytes_at : ℕ → Text
    bytes_at items = image_bytes (image_of_cut h statement_of d.database r.journal.items items)

    each_has : (kept : List (List KeptImage)) → Each (λ ks. Each (IsImageOf h statement_of d.database r.journal.items) ks) kept → Each (λ ks. Each (λ k. k.1 ≡ bytes_at k.0) ks) kept
    each_has = each_weaker (λ ks. Each (IsImageOf h statement_of d.database r.journal.items) ks) (λ ks. Each (λ k. k.1 ≡ bytes_at k.0) ks) (λ ks. each_weaker (IsImageOf h statement_of d.database r.journal.items) (λ k. k.1 ≡ bytes_at k.0) (λ k is. is.bytes) ks)

    journal_room : FitsImageFormat h statement_of r.journal.database r.journal.items
    unfolding cells_stand
    journal_room = subst (λ (J : Journal). FitsImageFormat h statement_of J.database J.items) (sym the_journal)
        (subst (λ (k : LedgerCell). FitsImageFormat h statement_of k.database k.items) same_ledger (saved.room cells_stand st.catalog st.ledger st.are_cells))

    answered : SnapshotLaws → (came : Came r)
        → AllAnswered r.journal (sections_of (run_sections_view all_sections)) (map (λ w. w.images) all) answers
    answered laws came =
        let J = r.journal in
        let encodable : (m : ℕ) → IsImage (image_of_cut h statement_of J.database J.items m) = λ m. laws.encodable h J m came.legal journal_room in
        let serially = λ (m : ℕ) (name : Text) (texts entries : List Text). laws.serially h J m name texts entries came.legal in
        let of_all = subst (λ (name : Text). Each (λ ks. Each (IsImageOf h statement_of name J.items) ks) (map (λ w. w.images) all)) (sym came.of_database) came.are_images in (
          none_answered says h J encodable serially setup_name (texts_in all_sections.setup.items) fin.first.images,
          all_answered says h J encodable serially all_sections.sessions.items f.ends.items fin.rest fin.are of_all.1,
        )

    pub is_of : SnapshotLaws → Came r → IsJournal r.journal
        → IsOf h (run_sections_view all_sections) (left_of r) r
    is_of law came spelled = record {
      answers = answers;
      answered = answered law came;
      transcript = text_is;
      images = subst (AreKept (map (λ w. w.images) all)) (sym images_of_all) (are_kept bytes_at (map (λ w. w.images) all) (each_has (map (λ w. w.images) all) came.are_images));
      image = image_is;
      journal = refl;
      digests = refl;
      journal_is_encodable = spelled;
      has_room = journal_room;
      digests_have_moments = let m = some_meaning h statement_of in
          have_moments m.0 d.database r.journal.items AnyTime r.digests (legal_times r.journal.items came.legal.items) (made_at_any_time says r.digests came.made) (came.agree m.0 m.1).digests_are_the_journals.each;
    }

    -- ---- behind which the ledger is closed

    legal_cell : LedgerIsLegal d.server l
    legal_cell = subst (LedgerIsLegal d.server) same_ledger st.ledger_is_legal

    module _ (laws : Laws) (none : pending_there f.cells.items ≡ 0) (made : ℕ) (said : IsMoment says made) (more : List Digest) (after : LedgerCell) (issued : IssuesLast h made l more after)
        (came : Came r) where
      none_there : pending_in l ≡ 0
      none_there = sym (ap pending_found saved.there) ∙ none

      cell_room : FitsImageFormat h statement_of l.database l.items
      cell_room = subst (λ (J : Journal). FitsImageFormat h statement_of J.database J.items) the_journal journal_room

      pub is_closed : IsClosed h says (left_of r) more
      is_closed = record {
        all = subst (λ (J : Journal). closed J.items ≡ tx_count J.items) (sym the_journal) (all_in_blocks laws h d.server serves l legal_cell none_there);
        last = subst (λ (J : Journal). AreLast h says J more) (sym the_journal) (are_last laws h d.server serves l legal_cell none_there made more after issued says said);
        accepted = subst₂ (λ (G : List Digest) (J : Journal). verdict_of h (map held (G ++ more)) (last_image_bytes h J) ≡ Yes) (sym saved.digests) (sym the_journal)
            (accepted_with laws h d.server serves l legal_cell none_there made more after issued (subst (IsLegalJournal statement_of) the_journal came.legal) cell_room);
      }

      pub is_with_digests : SnapshotLaws → (t : RunOutcome) → t ≡ with_digests r (r.digests ++ more) → IsJournal t.journal
          → IsOf h (run_sections_view all_sections) (and_digests (left_of r) more) t
      is_with_digests law t is spelled = subst (IsOf h (run_sections_view all_sections) (and_digests (left_of r) more)) (sym is)
          (record {
            answers = base.answers;
            answered = base.answered;
            transcript = base.transcript;
            images = base.images;
            image = base.image;
            journal = refl;
            digests = refl;
            journal_is_encodable = base.journal_is_encodable;
            has_room = base.has_room;
            digests_have_moments = subst (λ (G : List Digest). AllByRecursion HasMoments (G ++ more)) (sym saved.digests)
                (all_have_moments laws h d.server serves l legal_cell none_there made more after issued AnyTime (at_any_time says made said)
                (subst (λ (J : Journal). Each (IsMoment AnyTime) (times J.items)) the_journal (legal_times r.journal.items came.legal.items))
                (subst (Each (λ g. IsMoment AnyTime g.made)) saved.digests (made_at_any_time says r.digests came.made)));
          })
        where
          base : IsOf h (run_sections_view all_sections) (left_of r) r
          base = is_of law came (subst (λ (u : RunOutcome). IsJournal u.journal) is spelled)
