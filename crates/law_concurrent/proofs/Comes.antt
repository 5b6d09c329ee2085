-- What threads left is a run of the input.
use Rattle.std.proofs.Common.{◌≡◌, ◌↔◌, ◌⊎◌, ◌<◌, ◌≤◌, ◌^◌, ℕ, true, List, [], ◌∷◌, ◌++◌, length, length-append, map, Option, Some, inr, ⊎_elim, refl, sym, ap, ap₂, subst, subst₂, ◌∙◌, arith}
use Rattle.std.proofs.lemmas.List.{take_all}
use mathlib.Core.Option.{some, some-injective}
use lib.ListN.{get_elem?}
use Rattle.base_types.specs.DatabaseName.{is_database_name}
use Rattle.base_types.specs.Moment.{is_moment}
use Rattle.base_types.specs.SessionName.{is_session_name}
use Rattle.sql_types.specs.declared.digest.Digest.{Digest}
use Rattle.sql_types.specs.declared.digest.HeldDigest.{HeldDigest}
use Rattle.sql_types.specs.declared.journal.Journal.{Journal}
use Rattle.sql_types.specs.declared.journal.JournalItem.{JournalItem}
use Rattle.spec_model.specs.Journals.{cut}
use Rattle.spec_model.specs.LegalJournals.{IsLegalJournal}
use Rattle.spec_model.specs.Script.{Reading}
use Rattle.spec_history.specs.Agree.{ShowsHash}
use Rattle.spec_history.specs.Digests.{IsDigest}
use Rattle.spec_history.specs.Facts.{image, facts_of}
use Rattle.spec_history.specs.Inputs.{InputSession}
use Rattle.spec_history.specs.Journals.{blocks, times}
use Rattle.spec_history.specs.Lists.{Text, Each, Some_of, In}
use Rattle.spec_history.specs.Meaning.{Meaning}
use Rattle.spec_history.specs.Real.{IsReal}
use Rattle.spec_history.specs.Transcripts.{Transcript}
use Rattle.spec_history.proofs.Trace.{each_weaker}
use Rattle.law_order.specs.OneOrder.{HaveOneOrder, SessionFact}
use Rattle.format_image.specs.Image.{image_of_cut}
use Rattle.format_image.specs.ImageBytes.{image_bytes}
use Rattle.law_kept_images.specs.Room.{FitsImageFormat}
use Rattle.spec_ledger.specs.Ledger.{block_hash}
use Rattle.spec_syntax.specs.Text.{statement_of}
use Rattle.spec_verify.specs.declared.place.Verdict.TheVariants.{Yes}
use Rattle.spec_verify.specs.Bytes.{verdict_of}
use Rattle.law_kept_images.specs.Held.{AllHeld, IsHeld, held}
use Rattle.spec_protocol.specs.Cells.{Cell, Ledger, LedgerCell, ledger_at}
use Rattle.spec_protocol.specs.LedgerIsLegal.{IsOfCell}
use Rattle.spec_protocol.specs.Reordered.{NamesApart}
use Rattle.spec_protocol.specs.JournalForms.{journal_in}
use Rattle.spec_protocol.specs.Seats.{KeptImage, SeatState, Written}
use Rattle.spec_protocol.specs.Server.{Server}
use Rattle.spec_protocol.specs.Serves.{Serves}
use Rattle.spec_protocol.specs.StandTogether.{History, Stands}
use Rattle.law_protocol_steps.proofs.AfterSet.{all_at, each_at}
use Rattle.law_moments.specs.AddedInTime.{FitsBlock}
use Rattle.law_behind.specs.AgreeBehind.{AgreeBehind}
use Rattle.law_behind.specs.OrderBehind.{AreInOneOrderBehind, HaveOneOrderBehind}
use Rattle.law_behind.specs.Past.{Past, no_past, since}
use Rattle.law_kept_images.specs.RunStart.{RunStart}
use Rattle.law_kept_images.proofs.SessionOutput.{AgreesWithout}
use Rattle.law_kept_images.specs.AcceptedBehind.{IsAcceptedBehind, IsHeldOfPast, IsHeldOfRun}
use Rattle.law_kept_images.specs.SessionOutput.{IsImageOf, IsMeaning}
use Rattle.law_kept_images.specs.Wrote.{transcripts_in}
use Rattle.law_kept_images.specs.Accepted.{IsAccepted, IsOfCut}
use Rattle.law_concurrent.specs.Joined.{IsJoined, KnewThatOver}
use Rattle.law_concurrent.specs.JoinedBehind.{IsJoinedBehind, HasJoinedBehind}
use Rattle.law_concurrent.specs.Together.{AreFormed, IsMomentOf, RanTogether, names_in, session_in}
use Rattle.law_concurrent.specs.TogetherBehind.{RanTogetherBehind}
use Rattle.law_kept_images.specs.LastImage.{journal_of, last_image}
use Rattle.law_kept_images.proofs.WithPast.{IsWhole, all_have, both_each, each_held, held_of_past}
use Rattle.law_concurrent.specs.CameTo.{CameTo, RunResult}
use Rattle.law_concurrent.specs.CameToBehind.{CameToBehind}
use Rattle.law_concurrent.specs.InOrder.{RanInOneOrder, digests_shown}
use Rattle.law_concurrent.specs.InOrderBehind.{IsAcceptedBehindPast, RanInOneOrderBehind}
use Rattle.law_concurrent.specs.Threads.{HasJoined}
use Rattle.law_concurrent.proofs.DigestsBefore.{along, held_before}
use Rattle.law_concurrent.proofs.Images.{all_images, all_shown, whole_image}
use Rattle.law_concurrent.proofs.Meets.{same_ledger}
use Rattle.law_concurrent.proofs.Orders.{by_other, without_past}
use Rattle.law_concurrent.proofs.Sessions.{are_named, is_said, names_are}

-- ---- the laws that are used

abbrev pub JoinedAgree : Type 0
JoinedAgree = (v : Server) (cells : List Cell) (w : Written) (ws : List Written) → IsJoined v cells (w ∷ ws) → KnewThatOver w ws → NamesApart (names_in (transcripts_in (w ∷ ws)))
    → (ledger : LedgerCell) → get_elem? cells ledger_at ≡ some (Ledger ledger) → RanTogether v (w ∷ ws) ledger

abbrev pub JoinedAgreeBehind : Type 0
JoinedAgreeBehind = (v : Server) (database : Text) (size : ℕ) (past : Past) (start : RunStart v database size past) (cells : List Cell) (w : Written) (ws : List Written) → IsJoinedBehind start cells (w ∷ ws) → KnewThatOver w ws → NamesApart (names_in (transcripts_in (w ∷ ws)))
    → (ledger : LedgerCell) → get_elem? cells ledger_at ≡ some (Ledger ledger) → RanTogetherBehind v past (w ∷ ws) ledger

abbrev pub MeaningsAgree : Type 0
MeaningsAgree = (h : List ℕ → List ℕ) (reads : Reading) (q r : Meaning) → IsMeaning h reads q → IsMeaning h reads r
    → (database : Text) (past : Past) (input : List InputSession) (setup : Option ℕ) (X : List Transcript) (J : List JournalItem) (G : List Digest) → AgreeBehind q database past input setup X J G → AgreeBehind r database past input setup X J G

abbrev pub MeaningsShow : Type 0
MeaningsShow = (h : List ℕ → List ℕ) (reads : Reading) (q r : Meaning) → IsMeaning h reads q → IsMeaning h reads r → (x : Transcript) → facts_of q x ≡ facts_of r x

abbrev pub ImagesVerify : Type 0
ImagesVerify = (h : List ℕ → List ℕ) (j : Journal) (m : ℕ) (digests : List HeldDigest) → IsLegalJournal statement_of j → FitsImageFormat h statement_of j.database j.items
    → AllHeld h statement_of j.database (cut j.items m) digests → verdict_of h digests (image_bytes (image_of_cut h statement_of j.database j.items m)) ≡ Yes

abbrev pub DigestsAreHeld : Type 0
DigestsAreHeld = (h : List ℕ → List ℕ) (reads : Reading) (q : Meaning) (database : Text) (items : List JournalItem) (m : ℕ) (d : Digest)
    → ((J : List JournalItem) (b : ℕ) → q.block_hash J b ≡ block_hash h reads J b) → IsDigest q database items d → d.block < blocks (cut items m) → IsHeld h reads database (cut items m) (held d)

kept_is : (P : KeptImage → Type 0) (kept : List (List KeptImage)) (k : KeptImage) → Each (λ ks. Each P ks) kept → Some_of (In k) kept → P k
kept_is P [] k h i = absurd i
kept_is P (ks ∷ kept) k h i = ⊎_elim (λ (j : In k ks). each_at P ks k h.0 j) (λ j. kept_is P kept k h.1 j) i

-- ---- what is left

abbrev left_of : List Transcript → List (List KeptImage) → Journal → List Digest → RunResult
left_of X kept J G = record { X = X; kept = kept; J = J; G = G }

-- What is left of a run of this input behind this past, whose sessions ran together, however their seats were joined.
pub record IsLeft (h : List ℕ → List ℕ) (database : Text) (size : ℕ) (past : Past) (IsSaid : ℕ → Type 0) (input : List InputSession) (r : RunResult) : Type 0 where
  pub v : Server
  pub serves : Serves h statement_of v
  pub first : Written
  pub others : List Written
  pub ledger : LedgerCell
  pub together : RanTogetherBehind v past (first ∷ others) ledger
  pub of_cell : Each (IsOfCell v ledger) ledger.issued
  pub of_database : ledger.database ≡ database
  pub of_size : ledger.block_size ≡ size
  pub input_is : map session_in (transcripts_in (first ∷ others)) ≡ input
  pub database_is_named : is_database_name database ≡ true
  pub sessions_are_named : Each (λ s. is_session_name s.name ≡ true) input
  pub moments : Each (λ w. Each IsSaid w.moments) (first ∷ others)
  pub are_moments : (time : ℕ) → IsSaid time → is_moment time ≡ true
  pub ids : ledger.next ≤ 2 ^ 63
  pub room : FitsImageFormat h statement_of database ledger.items
  pub transcripts : r.X ≡ transcripts_in (first ∷ others)
  pub kept : r.kept ≡ map (λ w. w.images) (first ∷ others)
  pub journal : r.J ≡ journal_in ledger
  pub digests : r.G ≡ ledger.issued

module _ (meanings_agree : MeaningsAgree) (meanings_show : MeaningsShow) (verify : ImagesVerify) (are_held : DigestsAreHeld) where
  module _ (h : List ℕ → List ℕ) (database : Text) (size : ℕ) (past : Past) (IsSaid : ℕ → Type 0) (input : List InputSession) (r : RunResult) (x : IsLeft h database size past IsSaid input r) where
    abbrev v : Server
    v = x.v

    abbrev l : LedgerCell
    l = x.ledger

    abbrev written : List Written
    written = x.first ∷ x.others

    abbrev X : List Transcript
    X = transcripts_in written

    abbrev J : List JournalItem
    J = l.items

    abbrev G : List Digest
    G = l.issued

    -- ---- agreement

    abbrev together : RanTogetherBehind v past written l
    together = x.together

    meaning : IsMeaning h statement_of v.meaning
    meaning = record {
      hashing = v.hashing;
      real = subst (λ (reads : Reading). IsReal reads v.hashing v.meaning) x.serves.reading v.real;
      hashes = λ K b. v.hashes K b ∙ ap₂ (λ (g : List ℕ → List ℕ) (reads : Reading). block_hash g reads K b) x.serves.hash x.serves.reading;
    }

    agree : AgreeBehind v.meaning database past input (Some 0) X J G
    agree = subst₂ (λ (d : Text) (i : List InputSession). AgreeBehind v.meaning d past i (Some 0) X J G) x.of_database x.input_is together.agree

    -- ---- the journal

    formed : AreFormed l written
    formed = record {
      database = subst (λ (d : Text). is_database_name d ≡ true) (sym x.of_database) x.database_is_named;
      ids = x.ids;
      names = are_named written (subst (λ (i : List InputSession). Each (λ s. is_session_name s.name ≡ true) i) (sym x.input_is) x.sessions_are_named);
      moments = each_weaker (λ (w : Written). Each IsSaid w.moments) (λ w. Each (λ time. is_moment time ≡ true) w.moments) (λ w said. each_weaker IsSaid (λ time. is_moment time ≡ true) x.are_moments w.moments said) written x.moments;
    }

    legal : IsLegalJournal statement_of (journal_of database J)
    legal = subst₂ (λ (reads : Reading) (d : Text). IsLegalJournal reads (journal_of d J)) x.serves.reading x.of_database (together.legal formed)

    said : (time : ℕ) → IsMomentOf written time → IsSaid time
    said time m = is_said IsSaid written x.moments time m

    -- ---- digests

    abbrev of_cell : Each (IsOfCell v l) G
    of_cell = x.of_cell

    one_held : (m : ℕ) (d : Digest) → IsOfCut J m G d → IsHeld h statement_of database (cut J m) (held d)
    one_held m d is = are_held h statement_of v.meaning database J m d (λ K b. meaning.real.block_hash K b ∙ meaning.hashes K b)
        (subst (λ (name : Text). IsDigest v.meaning name J d) x.of_database (each_at (IsOfCell v l) G d of_cell is.0).is) is.1

    all_closed : Each (IsOfCut J (length J) G) G
    all_closed = all_at (IsOfCut J (length J) G) G (λ d i. (i, subst (λ (K : List JournalItem). d.block < blocks K) (sym (take_all (length J) J (omega arith))) (each_at (IsOfCell v l) G d of_cell i).closed))

    -- ---- images

    begun : J ≡ past.items ++ since past J
    begun = agree.journal_goes_on.begins

    accepted : (k : KeptImage) → IsWhole h database past J k → IsAcceptedBehind h database past J G k
    accepted k is digests all = ap (verdict_of h digests) is.0.bytes
        ∙ verify h (journal_of database J) k.0 digests legal x.room (each_held h database past J G k.0 begun is.1 (one_held k.0) digests all)

    abbrev images : List (List KeptImage)
    images = map (λ w. w.images) written

    are_images : Each (λ kept. Each (IsImageOf h statement_of database J) kept) images
    are_images = all_images h statement_of database v x.serves l x.of_database written together.images

    are_whole : Each (λ kept. Each (IsWhole h database past J) kept) images
    are_whole = both_each (IsImageOf h statement_of database J) (λ k. length past.items ≤ k.0) images are_images
        (all_have v.meaning (length past.items) images X (all_shown v l v.meaning (λ y. refl) written together.images) agree.past_counts.images)

    last_is_whole : IsWhole h database past J (last_image h (journal_of database J))
    last_is_whole = (whole_image h statement_of database J, (let n = length-append past.items (since past J) in let e : length J ≡ length (past.items ++ since past J) = ap length begun in omega (arith, n, e)))

    last_accepted : IsAcceptedBehind h database past J G (last_image h (journal_of database J))
    last_accepted = accepted (last_image h (journal_of database J)) last_is_whole

    all_of_run : (H : List Digest) → Each (IsOfCut J (length J) G) H → Each (λ d. IsHeldOfPast h database past d ⊎ IsHeldOfRun J (length J) G d) (map held H)
    all_of_run [] e = tt
    all_of_run (d ∷ H) e = (inr (d, e.0, refl), all_of_run H e.1)

    -- ---- in one order

    all_hashed : (order : List SessionFact) → AreInOneOrderBehind v.meaning past (Some 0) X J order → Each (λ f. ShowsHash v.meaning J f.1) order
    all_hashed order is = along v.meaning past (Some 0) X J order is (ShowsHash v.meaning J) agree.digests_are_the_journals.shown

    its_image : (k : KeptImage) → Some_of (In k) images → IsWhole h database past J k
    its_image k i = kept_is (IsWhole h database past J) images k are_whole i

    abbrev IsBefore : List SessionFact → HeldDigest → Type 0
    IsBefore earlier d = In d (digests_shown database earlier)

    behind : (order earlier later : List SessionFact) (name : Text) (k : KeptImage) → AreInOneOrderBehind v.meaning past (Some 0) X J order → Some_of (In k) images → order ≡ earlier ++ (name, image k.0) ∷ later → IsAcceptedBehindPast h database past earlier k
    behind order earlier later name k is i e digests all = ap (verdict_of h digests) (its_image k i).0.bytes ∙ verify h (journal_of database J) k.0 digests legal x.room
        (each_weaker (λ (d : HeldDigest). IsHeldOfPast h database past d ⊎ IsBefore earlier d) (IsHeld h statement_of database (cut J k.0))
        (λ d n. ⊎_elim
        (λ (p : IsHeldOfPast h database past d). held_of_past h database past J k.0 begun (its_image k i).1 d p)
        (λ (p : IsBefore earlier d). each_at (IsHeld h statement_of database (cut J k.0)) (digests_shown database earlier) d
        (held_before h statement_of v.meaning database J k.0 (λ K b. meaning.real.block_hash K b ∙ meaning.hashes K b) order earlier later name e (all_hashed order is) is.images) p) n) digests all)

    in_order : RanInOneOrderBehind h v.meaning database past X images J
    in_order = record {
      order = together.in_order.order;
      is = together.in_order.is;
      accepted = λ earlier later name k i e. behind together.in_order.order earlier later name k together.in_order.is i e;
    }

    in_order_by : (q : Meaning) → IsMeaning h statement_of q → RanInOneOrderBehind h q database past X images J
    in_order_by q m = record {
      order = in_order.order;
      is = by_other v.meaning q (meanings_show h statement_of v.meaning q meaning m) past 0 X J in_order.order in_order.is;
      accepted = in_order.accepted;
    }

    came_to : CameToBehind h database size past IsSaid input (left_of X images (journal_of database J) G)
    came_to = record {
      agree = λ q m. meanings_agree h statement_of v.meaning q meaning m database past input (Some 0) X J G agree;
      in_order = in_order_by;
      version = refl;
      legal = legal;
      of_database = refl;
      closings = subst (λ (n : ℕ). Each (FitsBlock n) (since past J)) x.of_size together.closings;
      times = each_weaker (IsMomentOf written) IsSaid said (times (since past J)) together.times;
      made = each_weaker (λ (d : Digest). IsMomentOf written d.made) (λ d. IsSaid d.made) (λ d m. said d.made m) G together.made;
      shown = λ q m. all_shown v l q (meanings_show h statement_of v.meaning q meaning m) written together.images;
      are_images = are_images;
      accepted = each_weaker (λ (kept : List KeptImage). Each (IsWhole h database past J) kept) (λ kept. Each (IsAcceptedBehind h database past J G) kept)
          (λ kept e. each_weaker (IsWhole h database past J) (IsAcceptedBehind h database past J G) accepted kept e) images are_whole;
      last_accepted = last_accepted;
      all_accepted = last_accepted (map held G) (all_of_run G all_closed);
    }

    -- ---- and that is left

    same_journal : journal_of database J ≡ r.J
    same_journal = ap (λ (d : Text). journal_of d J) (sym x.of_database) ∙ sym x.journal

    same_left : left_of X images (journal_of database J) G ≡ r
    same_left = ap₂ (λ (Y : List Transcript) (kept : List (List KeptImage)). left_of Y kept (journal_of database J) G) (sym x.transcripts) (sym x.kept)
        ∙ ap₂ (λ (j : Journal) (H : List Digest). left_of r.X r.kept j H) same_journal (sym x.digests)

    pub comes_to : CameToBehind h database size past IsSaid input r
    comes_to = subst (CameToBehind h database size past IsSaid input) same_left came_to

-- ---- seats that were joined

abbrev names_apart : (input : List InputSession) (X : List Transcript) → map session_in X ≡ input → NamesApart (map (λ s. s.name) input) → NamesApart (names_in X)
names_apart input X is apart = subst NamesApart (ap (λ (i : List InputSession). map (λ s. s.name) i) (sym is) ∙ names_are X) apart

digests_of : (v : Server) (history : History) (cells : List Cell) (seats : List SeatState) → Stands v history cells seats → (l : LedgerCell) → get_elem? cells ledger_at ≡ some (Ledger l) → Each (IsOfCell v l) l.issued
digests_of v history cells seats st l there = subst (λ (c : LedgerCell). Each (IsOfCell v c) c.issued) (same_ledger st.ledger l (some-injective (Ledger st.ledger) (Ledger l) (sym st.are_cells.has_ledger ∙ there))) st.ledger_is_legal.digests

module _ (h : List ℕ → List ℕ) (database : Text) (size : ℕ) (IsSaid : ℕ → Type 0) (input : List InputSession) (r : RunResult) where
  pub left_behind : JoinedAgreeBehind → (past : Past) → HasJoinedBehind h database size past IsSaid input r → IsLeft h database size past IsSaid input r
  left_behind joined_agree past x = record {
    v = x.v;
    serves = x.serves;
    first = x.first;
    others = x.others;
    ledger = x.ledger;
    together = joined_agree x.v database size past x.start x.cells x.first x.others x.joined x.knew (names_apart input (transcripts_in (x.first ∷ x.others)) x.input_is x.apart) x.ledger x.there;
    of_cell = digests_of x.v (x.start.begins.history ++ x.joined.events) x.cells (x.start.begins.seat ∷ x.joined.seats) x.joined.stands x.ledger x.there;
    of_database = x.of_database;
    of_size = x.of_size;
    input_is = x.input_is;
    database_is_named = x.database_is_named;
    sessions_are_named = x.sessions_are_named;
    moments = x.moments;
    are_moments = x.are_moments;
    ids = x.ids;
    room = x.room;
    transcripts = x.transcripts;
    kept = x.kept;
    journal = x.journal;
    digests = x.digests;
  }

-- ---- without a past

-- the law that is used beside the one on agreement
abbrev pub InOrderWithout : Type 0
InOrderWithout = (q : Meaning) (setup : Option ℕ) (X : List Transcript) (J : List JournalItem) → HaveOneOrderBehind q no_past setup X J ↔ HaveOneOrder q setup X J

together_first : AgreesWithout → InOrderWithout → (v : Server) (written : List Written) (l : LedgerCell) → RanTogether v written l → RanTogetherBehind v no_past written l
together_first agrees in_order v written l t = record {
  agree = (agrees v.meaning l.database (map session_in (transcripts_in written)) (Some 0) (transcripts_in written) l.items l.issued).1 t.agree;
  in_order = (in_order v.meaning (Some 0) (transcripts_in written) l.items).1 t.in_order;
  images = t.images;
  times = t.times;
  made = t.made;
  closings = t.closings;
  legal = t.legal;
}

pub left_first : JoinedAgree → AgreesWithout → InOrderWithout → (h : List ℕ → List ℕ) (database : Text) (size : ℕ) (IsSaid : ℕ → Type 0) (input : List InputSession) (r : RunResult) → HasJoined h database size IsSaid input r → IsLeft h database size no_past IsSaid input r
left_first joined_agree agrees in_order h database size IsSaid input r x = record {
  v = x.v;
  serves = x.serves;
  first = x.first;
  others = x.others;
  ledger = x.ledger;
  together = together_first agrees in_order x.v (x.first ∷ x.others) x.ledger
      (joined_agree x.v x.cells x.first x.others x.joined x.knew (names_apart input (transcripts_in (x.first ∷ x.others)) x.input_is x.apart) x.ledger x.there);
  of_cell = digests_of x.v x.joined.together.history x.cells x.joined.seats x.joined.together.stands x.ledger x.there;
  of_database = x.of_database;
  of_size = x.of_size;
  input_is = x.input_is;
  database_is_named = x.database_is_named;
  sessions_are_named = x.sessions_are_named;
  moments = x.moments;
  are_moments = x.are_moments;
  ids = x.ids;
  room = x.room;
  transcripts = x.transcripts;
  kept = x.kept;
  journal = x.journal;
  digests = x.digests;
}

module _ (h : List ℕ → List ℕ) (database : Text) (J : List JournalItem) (G : List Digest) where
  of_run : (n : ℕ) (digests : List Digest) → Each (IsOfCut J n G) digests → Each (λ d. IsHeldOfPast h database no_past d ⊎ IsHeldOfRun J n G d) (map held digests)
  of_run n [] e = tt
  of_run n (d ∷ ds) e = (inr (d, e.0, refl), of_run n ds e.1)

  accepted_first : (k : KeptImage) → IsAcceptedBehind h database no_past J G k → IsAccepted h database J G k
  accepted_first k a digests e = a (map held digests) (of_run k.0 digests e)

first_in_order : (h : List ℕ → List ℕ) (q : Meaning) (database : Text) (X : List Transcript) (kept : List (List KeptImage)) (J : List JournalItem) → RanInOneOrderBehind h q database no_past X kept J → RanInOneOrder h q database X kept J
first_in_order h q database X kept J o = record {
  order = o.order;
  is = without_past q (Some 0) X J o.order o.is;
  accepted = λ earlier later name k i e digests all. o.accepted earlier later name k i e digests
      (each_weaker (λ (d : HeldDigest). In d (digests_shown database earlier)) (λ d. IsHeldOfPast h database no_past d ⊎ In d (digests_shown database earlier)) (λ d n. inr n) digests all);
}

pub came_to_first : AgreesWithout → (h : List ℕ → List ℕ) (database : Text) (size : ℕ) (IsSaid : ℕ → Type 0) (input : List InputSession) (r : RunResult) → CameToBehind h database size no_past IsSaid input r → CameTo h database size IsSaid input r
came_to_first without h database size IsSaid input r c = record {
  agree = λ q m. (without q database input (Some 0) r.X r.J.items r.G).0 (c.agree q m);
  in_order = λ q m. first_in_order h q database r.X r.kept r.J.items (c.in_order q m);
  version = c.version;
  legal = c.legal;
  of_database = c.of_database;
  closings = c.closings;
  times = c.times;
  made = c.made;
  shown = c.shown;
  are_images = c.are_images;
  accepted = each_weaker (λ (kept : List KeptImage). Each (IsAcceptedBehind h database no_past r.J.items r.G) kept) (λ kept. Each (IsAccepted h database r.J.items r.G) kept)
      (λ kept e. each_weaker (IsAcceptedBehind h database no_past r.J.items r.G) (IsAccepted h database r.J.items r.G) (accepted_first h database r.J.items r.G) kept e) r.kept c.accepted;
  last_accepted = accepted_first h database r.J.items r.G (last_image h r.J) c.last_accepted;
  all_accepted = c.all_accepted;
}
