-- The transcripts of the past agree, told from the journal's items.
use Rattle.std.proofs.Common.{◌≡◌, ◌≢◌, ℕ, zero, suc, ◌+◌, ◌<◌, ◌≤◌, List, [], ◌∷◌, ◌++◌, flat_map, None, refl, sym, ap, ◌∙◌, subst, ⊎_elim, inl, inr, arith, append-nil}
use Rattle.std.proofs.lemmas.Bool.{cases_lt}
use mathlib.Core.Option.{some, none}
use lib.ListN.{get_elem?}
use Rattle.sql_types.specs.declared.journal.JournalItem.{JournalItem}
use Rattle.sql_types.specs.declared.journal.JournalItem.TheVariants.{Tx, Close}
use Rattle.spec_model.specs.Journals.{IsLegal, tx_count}
use Rattle.spec_history.specs.Acts.{SessionAct, starts, takes, assigns_id, looks, says, fails, meets, commits, ends, releases_locks, issues, keeps, lacks, answers, stops, Act, of, marked}
use Rattle.spec_history.specs.Facts.{Shows}
use Rattle.spec_history.specs.Guards.{Good}
use Rattle.spec_history.specs.Journals.{times}
use Rattle.spec_history.specs.Lists.{Text, Each, In}
use Rattle.spec_history.specs.Serial.{Differ}
use Rattle.spec_history.specs.Sessions.{transcript_of}
use Rattle.spec_history.specs.Worlds.{World, first, run}
use Rattle.spec_history.proofs.Trace.{each_weaker, marks_to}
use Rattle.spec_protocol.specs.Cells.{LedgerCell}
use Rattle.spec_protocol.specs.OpenOnes.{HasOpen}
use Rattle.spec_protocol.specs.Parts.{IsPast, Numbers, Past, all_of}
use Rattle.spec_protocol.specs.Seats.{OpenTransaction, Role, Session, SeatState, Written, idle_seat, session}
use Rattle.spec_protocol.specs.Server.{Server}
use Rattle.spec_protocol.specs.TranscriptsAgree.{AreImages, ImagesOfPast, IsMoment, MarksWithin, SeatAgrees, TranscriptsAgree, image_of, moments_of}
use Rattle.law_retold.specs.Retold.{AreWords, CanBeRetold, KeepsNone, LeadsTo, Words, retold}
use Rattle.law_continued.specs.Continued.{ledger_with, past_seat, written_from}
use Rattle.law_continued.proofs.Told.{good as its_good, to as its_end}

-- ---- numbers

abbrev numbers : ℕ → ℕ → List ℕ
numbers n zero = []
numbers n (suc k) = n ∷ numbers (suc n) k

each_number : (P : ℕ → Type 0) (n k : ℕ) → ((i : ℕ) → n ≤ i → i < n + k → P i) → Each P (numbers n k)
each_number P n zero f = tt
each_number P n (suc k) f = (f n (omega arith) (omega arith), each_number P (suc n) k (λ i l m. f i (omega (arith, l)) (omega (arith, m))))

all_differ : (n k : ℕ) → Differ (numbers n k)
all_differ n zero = tt
all_differ n (suc k) = (each_number (λ i. n ≢ i) (suc n) k (λ i l m e. omega (arith, l, e)), all_differ (suc n) k)

is_among : (n k i : ℕ) → n ≤ i → i < n + k → In i (numbers n k)
is_among n zero i l m = absurd (omega (arith, l, m))
is_among n (suc k) i l m = ⊎_elim (λ (e : n < i). inr (is_among (suc n) k i (omega (arith, e)) (omega (arith, m)))) (λ e. inl (let same : n ≡ i = omega (arith, e, l) in same)) (cases_lt n i)

-- ---- no image is kept

shows_no_image : (a : SessionAct) → KeepsNone a → image_of a ≡ []
shows_no_image (starts name) h = refl
shows_no_image (takes text) h = refl
shows_no_image (assigns_id id explicit) h = refl
shows_no_image (looks text table) h = refl
shows_no_image (says line) h = refl
shows_no_image (fails text) h = refl
shows_no_image (meets text holder) h = refl
shows_no_image (commits time place) h = refl
shows_no_image (ends n back) h = refl
shows_no_image releases_locks h = refl
shows_no_image (issues d mark) h = refl
shows_no_image (keeps items mark) h = absurd h
shows_no_image lacks h = refl
shows_no_image (answers entry) h = refl
shows_no_image stops h = refl

no_images : (xs : List SessionAct) → Each KeepsNone xs → flat_map image_of xs ≡ []
no_images [] h = refl
no_images (a ∷ xs) h = ap (λ (l : List ℕ). l ++ flat_map image_of xs) (shows_no_image a h.0) ∙ no_images xs h.1

in_first : (t : ℕ) (xs ys : List ℕ) → In t xs → In t (xs ++ ys)
in_first t [] ys i = absurd i
in_first t (x ∷ xs) ys i = ⊎_elim (λ (e : x ≡ t). inl e) (λ (k : In t xs). inr (in_first t xs ys k)) i

each_in : (P : ℕ → Type 0) (xs : List ℕ) → ((x : ℕ) → In x xs → P x) → Each P xs
each_in P [] f = tt
each_in P (x ∷ xs) f = (f x (inl refl), each_in P xs (λ y i. f y (inr i)))

abbrev NoSession : Role → Type 0
NoSession (session x) = ⊥
NoSession _ = Unit {0}

module _ (v : Server) (c : Words) (database : Text) (size : ℕ) (J : List JournalItem) (count : ℕ) (words : 1 ≤ count → AreWords v.reads c) (legal : IsLegal v.reads J) (may : Each (CanBeRetold v.reads count) J) where
  abbrev h : List Act
  h = retold v.reads c J count

  abbrev W : World
  W = run first h

  abbrev ledger : LedgerCell
  ledger = ledger_with v database size J count

  abbrev past : SeatState
  past = past_seat v c J count

  abbrev seat : SeatState
  seat = idle_seat database size 0 []

  good : Good v.meaning database first h
  good = its_good v c database J count words legal may

  to : LeadsTo c J count h
  to = its_end v c database J count words legal may

  -- ---- the seat of the past

  abbrev of_past : Numbers
  of_past = record { past = numbers 0 count; now = None }

  all_same : all_of of_past ≡ numbers 0 count
  all_same = append-nil (numbers 0 count)

  one_past : (n : ℕ) → n < count → (moments : List ℕ) → IsPast h n (record { transcript = transcript_of (W.at n); images = []; moments = moments; earlier = [] })
  one_past n l moments = record { over = to.over n l; is = refl; earlier = tt }

  all_past : (moments : List ℕ) (n k : ℕ) → n + k ≤ count → Past h (numbers n k) (written_from W moments n k)
  all_past moments n zero l = tt
  all_past moments n (suc k) l = (one_past n (omega (arith, l)) moments, all_past moments (suc n) k (omega (arith, l)))

  kept_none : (n : ℕ) → AreImages v ledger (of n h) []
  kept_none n = record { shown = sym (no_images (of n h) (to.keeps_none n)); each = tt }

  all_images : (moments : List ℕ) (n k : ℕ) → ImagesOfPast v h ledger (numbers n k) (written_from W moments n k)
  all_images moments n zero = tt
  all_images moments n (suc k) = (kept_none n, all_images moments (suc n) k)

  least : (m : ℕ) → 0 ≤ m
  least m = omega arith

  few_marks : (n : ℕ) → MarksWithin v h ledger past n
  few_marks n = subst (λ (K : List JournalItem). Shows marked (λ m. (0 ≤ m) × (m ≤ tx_count K)) (of n h)) to.items
      (each_weaker (λ a. Each (λ m. m ≤ tx_count W.items) (marked a)) (λ a. Each (λ m. (0 ≤ m) × (m ≤ tx_count W.items)) (marked a))
      (λ a k. each_weaker (λ m. m ≤ tx_count W.items) (λ m. (0 ≤ m) × (m ≤ tx_count W.items)) (λ m l. (least m, l)) (marked a) k)
      (of n h) (marks_to v.meaning database n first h good))

  past_agrees : SeatAgrees v h ledger of_past past
  past_agrees = record {
    sessions = record {
      differ = subst Differ (sym all_same) (all_differ 0 count);
      past = all_past (times J) 0 count (omega arith);
      now = tt;
      earlier = tt;
    };
    database = λ p. cc;
    block_size = λ p. cc;
    marks = subst (Each (MarksWithin v h ledger past)) (sym all_same) (each_number (MarksWithin v h ledger past) 0 count (λ n l m. few_marks n));
    greatest = (least (tx_count J), (let e : tx_count J ≤ tx_count J = omega arith in e));
    past_images = all_images (times J) 0 count;
    images = tt;
  }

  -- ---- the idle seat

  abbrev no_sessions : Numbers
  no_sessions = record { past = []; now = None }

  seat_agrees : SeatAgrees v h ledger no_sessions seat
  seat_agrees = record {
    sessions = record { differ = tt; past = tt; now = tt; earlier = tt };
    database = λ p. refl;
    block_size = λ p. refl;
    marks = tt;
    greatest = (least 0, least (tx_count J));
    past_images = tt;
    images = tt;
  }

  -- ---- both

  abbrev pub seats : List SeatState
  seats = past ∷ seat ∷ []

  abbrev numbers_at : ℕ → Numbers
  numbers_at zero = of_past
  numbers_at (suc j) = no_sessions

  abbrev AgreesIf : ℕ → mathlib.Core.Option.Option SeatState → Type 0
  AgreesIf j none = Unit {0}
  AgreesIf j (some s) = SeatAgrees v h ledger (numbers_at j) s

  agrees_at : (j : ℕ) → AgreesIf j (get_elem? seats j)
  agrees_at zero = past_agrees
  agrees_at (suc zero) = seat_agrees
  agrees_at (suc (suc j)) = tt

  own_at : (j : ℕ) → Each (λ n. 0 ≡ j) (all_of (numbers_at j))
  own_at zero = subst (Each (λ n. 0 ≡ 0)) (sym all_same) (each_number (λ n. 0 ≡ 0) 0 count (λ n l m. refl))
  own_at (suc j) = tt

  -- ---- moments

  no_times : (k : ℕ) (K : List JournalItem) → k ≡ 0 → Each (CanBeRetold v.reads k) K → times K ≡ []
  no_times k [] e m = refl
  no_times k (Tx id name time explicit lines ∷ K) e m = absurd (let some = m.0.some in let most = m.0.most in omega (arith, e, some, most))
  no_times k (Close n ∷ K) e m = no_times k K e m.1

  module _ (k : ℕ) (W' : World) where
    moments_there : (ms : List ℕ) (t : ℕ) → In t ms → In t (flat_map (λ (x : Written). x.moments) (written_from W' ms 0 (suc k)) ++ [])
    moments_there ms t i = in_first t (flat_map (λ (x : Written). x.moments) (written_from W' ms 0 (suc k))) []
        (in_first t ms (flat_map (λ (x : Written). x.moments) (written_from W' ms 1 k)) i)

  moment_of : (k : ℕ) → k ≡ count → (t : ℕ) → In t (times J) → In t (moments_of past)
  moment_of zero e t i = absurd (subst (In t) (no_times count J (sym e) may) i)
  moment_of (suc k) e t i = subst (λ (n : ℕ). In t (flat_map (λ (x : Written). x.moments) (written_from W (times J) 0 n) ++ [])) e (moments_there k W (times J) t i)

  are_moments : Each (IsMoment seats) (times J)
  are_moments = each_in (IsMoment seats) (times J) (λ t i. record { j = 0; seat = past; there = refl; is = moment_of count refl t i })

  pub transcripts : TranscriptsAgree v h ledger seats
  transcripts = record {
    good = good;
    items = to.items;
    next = to.next;
    issued = to.issued;
    of_seat = numbers_at;
    agree = λ j s e. subst (AgreesIf j) e (agrees_at j);
    owner = λ n. 0;
    own = λ j s e. own_at j;
    count = count;
    all = λ n l. (past, refl, subst (In n) (sym all_same) (is_among 0 count n (omega arith) (omega (arith, l))));
    no_others = λ n l. to.no_others n l;
    times = are_moments;
    made = tt;
  }

-- nobody has a transaction
module _ (v : Server) (c : Words) (database : Text) (size : ℕ) (J : List JournalItem) (count : ℕ) where
  abbrev IsIdle : mathlib.Core.Option.Option SeatState → Type 0
  IsIdle none = Unit {0}
  IsIdle (some s) = NoSession s.role

  idle_at : (j : ℕ) → IsIdle (get_elem? (past_seat v c J count ∷ idle_seat database size 0 [] ∷ []) j)
  idle_at zero = tt
  idle_at (suc zero) = tt
  idle_at (suc (suc j)) = tt

  pub none_open : (j : ℕ) (x : Session) (o : OpenTransaction) → HasOpen (past_seat v c J count ∷ idle_seat database size 0 [] ∷ []) j x o → ⊥
  none_open j x o o_has = subst NoSession o_has.role (subst IsIdle o_has.there (idle_at j))
