-- What a course comes to, by every meaning that statements have; and the forms of its journal.
use Rattle.std.proofs.Common.{◌≡◌, ◌↔◌, ◌≤◌, ◌^◌, ℕ, zero, suc, true, List, [], ◌∷◌, ◌++◌, drop, length, map, flat_map, Option, None, refl, sym, ap, ap₂, subst, subst₂, ◌∙◌, append-nil, ⊎_elim}
use mathlib.Core.Option.{some, some-injective}
use lib.ListN.{get_elem?}
use Rattle.base_types.specs.DatabaseName.{is_database_name}
use Rattle.base_types.specs.Moment.{is_moment}
use Rattle.base_types.specs.SessionName.{is_session_name}
use Rattle.sql_types.specs.declared.journal.TheConstants.{JOURNAL_VERSION}
use Rattle.sql_types.specs.declared.digest.Digest.{Digest}
use Rattle.sql_types.specs.declared.journal.Journal.{Journal}
use Rattle.sql_types.specs.declared.journal.JournalItem.{JournalItem}
use Rattle.spec_model.specs.Journals.{cut}
use Rattle.spec_model.specs.LegalJournals.{IsLegalJournal}
use Rattle.spec_model.specs.Script.{Reading}
use Rattle.spec_history.specs.Agree.{Agree}
use Rattle.spec_history.specs.ExactRefusals.{StepOrder}
use Rattle.spec_history.specs.Facts.{facts_of}
use Rattle.spec_history.specs.Inputs.{InputLine, InputSession, sessions_in}
use Rattle.spec_history.specs.Journals.{times}
use Rattle.spec_history.specs.Lists.{Text, Each, At, In}
use Rattle.spec_history.specs.Meaning.{Meaning}
use Rattle.spec_history.specs.Transcripts.{Transcript}
use Rattle.spec_history.proofs.Real.{real, is_real}
use Rattle.spec_history.proofs.Trace.{each_append, each_weaker}
use Rattle.spec_protocol.specs.Image.{image_of}
use Rattle.spec_protocol.specs.ImageBytes.{image_bytes}
use Rattle.spec_protocol.proofs.Staying.{hashing}
use Rattle.spec_protocol.specs.AtTheEnd.{HasItsImages, image_items}
use Rattle.spec_protocol.specs.AllowedVisit.{first_seat}
use Rattle.spec_protocol.specs.Cells.{Cell, Ledger, LedgerCell, ledger_at}
use Rattle.spec_protocol.specs.JournalForms.{journal_in}
use Rattle.spec_protocol.specs.Reordered.{NamesApart}
use Rattle.spec_protocol.specs.SeatNames.{names_of, session_names}
use Rattle.spec_protocol.specs.Seats.{KeptImage, Written, Role, session, SeatState, IsAtRest}
use Rattle.spec_protocol.specs.Server.{Server, journal_image}
use Rattle.spec_protocol.specs.StandTogether.{Stands}
use Rattle.spec_protocol.specs.Steps.{Steps}
use Rattle.spec_protocol.specs.TranscriptsAgree.{IsImage, IsMoment, moments_of, session_moments}
use Rattle.law_protocol.proofs.JournalKept.{legal_journal}
use Rattle.spec_protocol.specs.Serves.{Serves}
use Rattle.law_sequential.specs.OutcomeBehind.{OutcomeBehind, HasEndedBehind, RunAgreesBehind}
use Rattle.law_behind.specs.AgreeBehind.{AgreeBehind}
use Rattle.law_behind.specs.OrderBehind.{StepOrderBehind}
use Rattle.law_behind.specs.Past.{Past, no_past, since as since_past}
use Rattle.law_going_on.specs.Start.{Start}
use Rattle.law_moments.specs.AddedInTime.{AddedInTime}
use Rattle.law_sequential.specs.SessionOutput.{IsMeaning, IsImageOf, RunAgrees}
use Rattle.law_sequential.specs.Wrote.{Wrote, transcripts_in}
use Rattle.law_sequential.proofs.AtStart.{none_added, since_front}
use Rattle.law_sequential.proofs.Goes.{cell_same}
use Rattle.law_sequential.proofs.GoesBehind.{since, ledger_is}
use Rattle.law_sequential.proofs.Over.{AgreesBehind, outcome_is, wrote_there}
use Rattle.law_sequential.proofs.SameNames.{names_in}

-- ---- for each meaning there is a server

server_of : (h : List ℕ → List ℕ) (reads : Reading) (q : Meaning) → IsMeaning h reads q → Server
server_of h reads q m = record { reads = reads; hash = h; hashing = m.hashing; hashes = m.hashes; meaning = q; real = m.real }

serves : (h : List ℕ → List ℕ) (reads : Reading) (q : Meaning) (m : IsMeaning h reads q) → Serves h reads (server_of h reads q m)
unfolding server_of
serves h reads q m = record { reading = refl; hash = refl }

same_meaning : (h : List ℕ → List ℕ) (reads : Reading) (q : Meaning) (m : IsMeaning h reads q) → (server_of h reads q m).meaning ≡ q
unfolding server_of
same_meaning h reads q m = refl

-- and there is a meaning
pub some_meaning : (h : List ℕ → List ℕ) (reads : Reading) → (q : Meaning) × IsMeaning h reads q
unfolding hashing
some_meaning h reads = (real reads (hashing h reads), record { hashing = hashing h reads; real = is_real reads (hashing h reads); hashes = λ J b. refl })

-- ---- images

module _ (h : List ℕ → List ℕ) (reads : Reading) (database : Text) where
  bytes_of : (v : Server) → Serves h reads v → (J : List JournalItem) → journal_image v database J ≡ image_bytes (image_of h reads database J)
  unfolding journal_image
  bytes_of v s J = ap₂ (λ (g : List ℕ → List ℕ) (rd : Reading). image_bytes (image_of g rd database J)) s.hash s.reading

  one_image : (v : Server) → Serves h reads v → (l : LedgerCell) → l.database ≡ database → (k : KeptImage) → IsImage v l k → IsImageOf h reads database l.items k
  one_image v s l db k i = record { within = i.within; bytes = i.bytes ∙ ap (λ (d : Text). journal_image v d (cut l.items k.0)) db ∙ bytes_of v s (cut l.items k.0) }

  these_images : (v : Server) → Serves h reads v → (l : LedgerCell) → l.database ≡ database → (ks : List KeptImage) → Each (IsImage v l) ks → Each (IsImageOf h reads database l.items) ks
  these_images v s l db [] e = tt
  these_images v s l db (k ∷ ks) e = (one_image v s l db k e.0, these_images v s l db ks e.1)

  all_images : (v : Server) → Serves h reads v → (l : LedgerCell) → l.database ≡ database → (ws : List Written) → Each (HasItsImages v l) ws → Each (λ kept. Each (IsImageOf h reads database l.items) kept) (map (λ w. w.images) ws)
  all_images v s l db [] e = tt
  all_images v s l db (w ∷ ws) e = (these_images v s l db w.images e.0.each, all_images v s l db ws e.1)

all_shown : (v : Server) (l : LedgerCell) (ws : List Written) → Each (HasItsImages v l) ws → map (λ kept. map (λ k. k.0) kept) (map (λ w. w.images) ws) ≡ map (λ x. flat_map image_items (facts_of v.meaning x)) (transcripts_in ws)
all_shown v l [] e = refl
all_shown v l (w ∷ ws) e = ap₂ (λ (n : List ℕ) (ns : List (List ℕ)). n ∷ ns) e.0.shown (all_shown v l ws e.1)

-- ---- what each server came to

module _ {v : Server} {database : Text} {size : ℕ} {past : Past} {names : List Text} {lines : List InputLine} {moments : List ℕ} {X : List Transcript} {images : List (List KeptImage)} {J : List JournalItem} {G : List Digest}
    (e : HasEndedBehind v database size past names lines moments X images J G) where
  abbrev l : LedgerCell
  l = e.sequential_run.ledger

  same_database : l.database ≡ database
  same_database = ap (λ (c : LedgerCell). c.database) (ledger_is e.sequential_run) ∙ (since e.sequential_run).same_database

  pub came_to : AgreesBehind → names_in X ≡ names → NamesApart names → OutcomeBehind v database size past names lines e.written l
  came_to agrees_behind named apart = outcome_is agrees_behind e.seats e.sequential_run e.written e.wrote (ap names_in e.transcripts ∙ named) apart e.below

  agreed : OutcomeBehind v database size past names lines e.written l → AgreeBehind v.meaning database past (sessions_in lines names) None X J G
  agreed o = subst₂ (λ (Y : List Transcript) (H : List Digest). AgreeBehind v.meaning database past (sessions_in lines names) None Y J H) e.transcripts e.issued
      (subst (λ (K : List JournalItem). AgreeBehind v.meaning database past (sessions_in lines names) None (transcripts_in e.written) K l.issued) e.items o.agree)

  ordered : OutcomeBehind v database size past names lines e.written l → StepOrderBehind v.meaning size past lines X J
  ordered o = subst₂ (λ (Y : List Transcript) (K : List JournalItem). StepOrderBehind v.meaning size past lines Y K) e.transcripts e.items o.in_order

  their_images : OutcomeBehind v database size past names lines e.written l → map (λ kept. map (λ k. k.0) kept) images ≡ map (λ x. flat_map image_items (facts_of v.meaning x)) X
  their_images o = ap (λ (kept : List (List KeptImage)). map (λ ks. map (λ k. k.0) ks) kept) (sym e.kept) ∙ all_shown v l e.written o.images
      ∙ ap (λ (Y : List Transcript). map (λ x. flat_map image_items (facts_of v.meaning x)) Y) e.transcripts

  image_bytes_are : (h : List ℕ → List ℕ) (reads : Reading) → Serves h reads v → OutcomeBehind v database size past names lines e.written l → Each (λ kept. Each (IsImageOf h reads database J) kept) images
  image_bytes_are h reads s o = subst₂ (λ (K : List JournalItem) (kept : List (List KeptImage)). Each (λ ks. Each (IsImageOf h reads database K) ks) kept) e.items e.kept (all_images h reads database v s l same_database e.written o.images)

module _ (agrees_behind : AgreesBehind) (h : List ℕ → List ℕ) (reads : Reading) (database : Text) (size : ℕ) (past : Past) (names : List Text) (lines : List InputLine) (moments : List ℕ) (X : List Transcript) (images : List (List KeptImage)) (J : List JournalItem) (G : List Digest)
    (named : names_in X ≡ names) (apart : NamesApart names) (ended : (v : Server) → Serves h reads v → HasEndedBehind v database size past names lines moments X images J G) where
  abbrev by_meaning : (q : Meaning) (m : IsMeaning h reads q) → HasEndedBehind (server_of h reads q m) database size past names lines moments X images J G
  by_meaning q m = ended (server_of h reads q m) (serves h reads q m)

  pub run_agrees_behind : RunAgreesBehind h reads database size past names lines X images J G
  run_agrees_behind = record {
    agree = λ q m. subst (λ (p : Meaning). AgreeBehind p database past (sessions_in lines names) None X J G) (same_meaning h reads q m) (agreed (by_meaning q m) (came_to (by_meaning q m) agrees_behind named apart));
    in_order = λ q m. subst (λ (p : Meaning). StepOrderBehind p size past lines X J) (same_meaning h reads q m) (ordered (by_meaning q m) (came_to (by_meaning q m) agrees_behind named apart));
    shown = λ q m. subst (λ (p : Meaning). map (λ kept. map (λ k. k.0) kept) images ≡ map (λ x. flat_map image_items (facts_of p x)) X) (same_meaning h reads q m) (their_images (by_meaning q m) (came_to (by_meaning q m) agrees_behind named apart));
    are_images = let q = some_meaning h reads in image_bytes_are (by_meaning q.0 q.1) h reads (serves h reads q.0 q.1) (came_to (by_meaning q.0 q.1) agrees_behind named apart);
  }

-- ---- without a past

-- the laws that are used
abbrev pub AgreesWithout : Type 0
AgreesWithout = (q : Meaning) (database : Text) (input : List InputSession) (setup : Option ℕ) (X : List Transcript) (J : List JournalItem) (G : List Digest)
    → AgreeBehind q database no_past input setup X J G ↔ Agree q database input setup X J G

abbrev pub InOrderWithout : Type 0
InOrderWithout = (q : Meaning) (N : ℕ) (lines : List InputLine) (X : List Transcript) (J : List JournalItem) → StepOrderBehind q N no_past lines X J ↔ StepOrder q N lines X J

pub run_agrees : AgreesWithout → InOrderWithout → (h : List ℕ → List ℕ) (reads : Reading) (database : Text) (size : ℕ) (names : List Text) (lines : List InputLine) (X : List Transcript) (images : List (List KeptImage)) (J : List JournalItem) (G : List Digest)
    → RunAgreesBehind h reads database size no_past names lines X images J G → RunAgrees h reads database size names lines X images J G
run_agrees agrees in_order h reads database size names lines X images J G run = record {
  agree = λ q m. (agrees q database (sessions_in lines names) None X J G).0 (run.agree q m);
  in_order = λ q m. (in_order q size lines X J).0 (run.in_order q m);
  shown = run.shown;
  are_images = run.are_images;
}

pub run_agrees_back : AgreesWithout → InOrderWithout → (h : List ℕ → List ℕ) (reads : Reading) (database : Text) (size : ℕ) (names : List Text) (lines : List InputLine) (X : List Transcript) (images : List (List KeptImage)) (J : List JournalItem) (G : List Digest)
    → RunAgrees h reads database size names lines X images J G → RunAgreesBehind h reads database size no_past names lines X images J G
run_agrees_back agrees in_order h reads database size names lines X images J G run = record {
  agree = λ q m. (agrees q database (sessions_in lines names) None X J G).1 (run.agree q m);
  in_order = λ q m. (in_order q size lines X J).1 (run.in_order q m);
  shown = run.shown;
  are_images = run.are_images;
}

-- ---- names and moments of seats

rests_nameless : (r : Role) → IsAtRest r → session_names r ≡ []
rests_nameless (session x) h = absurd h
rests_nameless r h = refl

rests_timeless : (r : Role) → IsAtRest r → session_moments r ≡ []
rests_timeless (session x) h = absurd h
rests_timeless r h = refl

mapped : {A B : Type 0} (f : A → B) (Q : B → Type 0) (xs : List A) → Each (λ x. Q (f x)) xs → Each Q (map f xs)
mapped f Q [] h = tt
mapped f Q (x ∷ xs) h = (h.0, mapped f Q xs h.1)

flattened : {A B : Type 0} (f : A → List B) (Q : B → Type 0) (xs : List A) → Each (λ x. Each Q (f x)) xs → Each Q (flat_map f xs)
flattened f Q [] h = tt
flattened f Q (x ∷ xs) h = each_append Q (f x) (flat_map f xs) h.0 (flattened f Q xs h.1)

each_in : {A : Type 0} (Q : A → Type 0) (xs : List A) (x : A) → Each Q xs → In x xs → Q x
each_in Q [] x h i = absurd i
each_in Q (y ∷ ys) x h i = ⊎_elim (λ (e : y ≡ x). subst Q e h.0) (λ k. each_in Q ys x h.1 k) i

seat_names : (Q : Text → Type 0) (s : SeatState) → IsAtRest s.role → Each (λ w. Q w.transcript.session) s.written → Each Q (names_of s)
seat_names Q s rests h = subst (Each Q) (sym (ap (λ (ns : List Text). map (λ w. w.transcript.session) s.written ++ ns) (rests_nameless s.role rests) ∙ append-nil _)) (mapped (λ w. w.transcript.session) Q s.written h)

seat_moments : (Q : ℕ → Type 0) (s : SeatState) → IsAtRest s.role → Each (λ w. Each Q w.moments) s.written → Each Q (moments_of s)
seat_moments Q s rests h = subst (Each Q) (sym (ap (λ (ns : List ℕ). flat_map (λ x. x.moments) s.written ++ ns) (rests_timeless s.role rests) ∙ append-nil _)) (flattened (λ w. w.moments) Q s.written h)

-- what holds of all that was written holds of what each seat wrote
record SeatHas (R : Written → Type 0) (s : SeatState) : Type 0 where
  rests : IsAtRest s.role
  each : Each R s.written

at_each : (R : Written → Type 0) (ws : List Written) (k : ℕ) (w : Written) → Each R ws → At ws k w → R w
at_each R [] k w h a = absurd a
at_each R (u ∷ us) zero w h a = subst R a h.0
at_each R (u ∷ us) (suc k) w h a = at_each R us k w h.1 a

every_seat : (R : Written → Type 0) (seats : List SeatState) (written : List Written) (wrote : Wrote seats written) → Each R written → (j : ℕ) (s : SeatState) → get_elem? seats j ≡ some s → SeatHas R s
every_seat R seats written wrote h j s there = by j (subst (λ (us : List SeatState). get_elem? us j ≡ some s) wrote.are there)
  where
    by : (i : ℕ) → get_elem? (wrote.parent ∷ wrote.others) i ≡ some s → SeatHas R s
    by zero e = let same : wrote.parent ≡ s = some-injective wrote.parent s e in record {
      rests = subst (λ (u : SeatState). IsAtRest u.role) same wrote.rests;
      each = subst (Each R) (sym wrote.none ∙ ap (λ (u : SeatState). u.written) same) tt;
    }
    by (suc k) e = let w = wrote_there wrote.others written wrote.each k s e in record {
      rests = w.is.rests;
      each = subst (Each R) (sym w.is.wrote) (at_each R written k w.one h w.at, tt);
    }

-- ---- the journal's forms, and its times

-- the law that is used
abbrev pub AddsInTime : Type 0
AddsInTime = (v : Server) (past : List JournalItem) (cells then_cells : List Cell) (seats then_seats : List SeatState) → Steps v cells seats then_cells then_seats
    → (l : LedgerCell) → get_elem? cells ledger_at ≡ some (Ledger l) → AddedInTime past seats l
    → (m : LedgerCell) × (get_elem? then_cells ledger_at ≡ some (Ledger m)) × AddedInTime past then_seats m

named_so : (Q : Text → Type 0) (ws : List Written) → Each Q (names_in (transcripts_in ws)) → Each (λ w. Q w.transcript.session) ws
named_so Q [] h = tt
named_so Q (w ∷ ws) h = (h.0, named_so Q ws h.1)

module _ {v : Server} {database : Text} {size : ℕ} {past : Past} {names : List Text} {lines : List InputLine} {moments : List ℕ} {X : List Transcript} {images : List (List KeptImage)} {J : List JournalItem} {G : List Digest}
    (e : HasEndedBehind v database size past names lines moments X images J G) where
  abbrev IsTime : ℕ → Type 0
  IsTime time = In time moments

  abbrev begins : Start v database size
  begins = e.start.begins

  abbrev seats : List SeatState
  seats = begins.seat ∷ e.seats

  abbrev st : Stands v (begins.history ++ (since e.sequential_run).events) e.cells seats
  st = (since e.sequential_run).stands

  its_moments : (j : ℕ) (s : SeatState) → get_elem? e.seats j ≡ some s → Each IsTime (moments_of s)
  its_moments j s there = let h = every_seat (λ w. Each IsTime w.moments) e.seats e.written e.wrote e.in_time j s there in seat_moments IsTime s h.rests h.each

  is_time : (time : ℕ) → IsMoment e.seats time → IsTime time
  is_time time m = each_in IsTime (moments_of m.seat) time (its_moments m.j m.seat m.there) m.is

  -- what is new

  module _ (adds : AddsInTime) where
    abbrev then_added : (m : LedgerCell) × (get_elem? e.cells ledger_at ≡ some (Ledger m)) × AddedInTime past.items e.seats m
    then_added = adds v past.items begins.cells e.cells (first_seat begins.cells ∷ []) e.seats e.sequential_run.steps begins.stands.ledger begins.stands.are_cells.has_ledger (none_added e.start)

    in_time : AddedInTime past.items e.seats e.sequential_run.ledger
    in_time = subst (AddedInTime past.items e.seats) (cell_same then_added.0 e.sequential_run.ledger (sym then_added.1 ∙ e.sequential_run.there)) then_added.2

    pub times_are : Each IsTime (times (since_past past J))
    times_are = subst (λ (K : List JournalItem). Each IsTime (times K)) (sym (since_front past.items in_time.added) ∙ ap (drop (length past.items)) (sym in_time.are ∙ e.items))
        (each_weaker (IsMoment e.seats) IsTime is_time (times in_time.added) in_time.times)

    pub made_are : Each (λ d. IsTime d.made) G
    made_are = subst (λ (H : List Digest). Each (λ d. IsTime d.made) H) e.issued (each_weaker (λ d. IsMoment e.seats d.made) (λ d. IsTime d.made) (λ d m. is_time d.made m) e.sequential_run.ledger.issued in_time.made)

  -- the journal's forms

  abbrev IsName : Text → Type 0
  IsName name = is_session_name name ≡ true

  all_names : Each IsName names → names_in X ≡ names → (j : ℕ) (s : SeatState) → get_elem? seats j ≡ some s → Each IsName (names_of s)
  all_names good named zero s there = subst (λ (u : SeatState). Each IsName (names_of u)) (some-injective begins.seat s there) e.start.names
  all_names good named (suc j) s there = let h = every_seat (λ w. IsName w.transcript.session) e.seats e.written e.wrote
      (named_so IsName e.written (subst (Each IsName) (sym (ap names_in e.transcripts ∙ named)) good)) j s there in
      seat_names IsName s h.rests h.each

  all_moments : Each (λ time. is_moment time ≡ true) moments → (j : ℕ) (s : SeatState) → get_elem? seats j ≡ some s → Each (λ time. is_moment time ≡ true) (moments_of s)
  all_moments good zero s there = subst (λ (u : SeatState). Each (λ time. is_moment time ≡ true) (moments_of u)) (some-injective begins.seat s there) e.start.moments
  all_moments good (suc j) s there = each_weaker IsTime (λ t. is_moment t ≡ true) (λ t i. each_in (λ m. is_moment m ≡ true) moments t good i) (moments_of s) (its_moments j s there)

  pub is_legal : (reads : Reading) → v.reads ≡ reads → names_in X ≡ names → is_database_name database ≡ true → Each IsName names → Each (λ time. is_moment time ≡ true) moments
      → IsLegalJournal reads (record { version = JOURNAL_VERSION; database = database; items = J })
  is_legal reads reading named db good time = subst₂ (λ (rd : Reading) (j : Journal). IsLegalJournal rd j) reading same_journal (legal_journal v (begins.history ++ (since e.sequential_run).events) e.cells seats st (record {
    database = subst (λ (d : Text). is_database_name d ≡ true) (sym (since e.sequential_run).same_database) db;
    ids = subst (λ (c : LedgerCell). c.next ≤ 2 ^ 63) (ledger_is e.sequential_run) e.ids;
    names = all_names good named;
    moments = all_moments time;
  }))
    where
      same_journal : journal_in st.ledger ≡ record { version = JOURNAL_VERSION; database = database; items = J }
      same_journal = ap₂ (λ (d : Text) (K : List JournalItem). record { version = JOURNAL_VERSION; database = d; items = K }) (since e.sequential_run).same_database (ap (λ (c : LedgerCell). c.items) (sym (ledger_is e.sequential_run)) ∙ e.items)
