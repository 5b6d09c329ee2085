-- Acts more of the session at a seat, one after another: what they owe, and that the transcripts agree then. Between two of them nothing is asked.
use Rattle.std.proofs.Common.{◌≡◌, ◌≢◌, ℕ, ◌+◌, ◌≤◌, false, List, [], ◌∷◌, ◌++◌, map, flat_map, length, Option, Some, None, slice_set, refl, sym, ap, ◌∙◌, subst, inl, ⊎_elim, append_assoc, append-nil, length-append, arith}
use Rattle.std.proofs.lemmas.Bool.{ne_eqb, eq-eqb, cases_eq}
use Rattle.std.proofs.lemmas.Grind.{flat_map-append}
use Rattle.std.proofs.lemmas.List.{take-append-le}
use Rattle.std.specs.Prelude.{◌==◌}
use mathlib.Core.Option.{some, some-injective}
use lib.ListN.{get_elem?}
use Rattle.sql_types.specs.declared.journal.JournalItem.{JournalItem}
use Rattle.spec_model.specs.Journals.{tx_count, cut}
use Rattle.spec_history.specs.Lists.{Text, Each, In}
use Rattle.spec_history.specs.Journals.{times}
use Rattle.spec_history.specs.Meaning.{Meaning}
use Rattle.spec_history.specs.Facts.{Shows}
use Rattle.spec_history.specs.Serial.{Differ}
use Rattle.spec_history.specs.Transcripts.{Transcript}
use Rattle.spec_history.specs.Transactions.{listed}
use Rattle.spec_history.specs.Digests.{Digest}
use Rattle.spec_history.specs.Acts.{SessionAct, Act, by, of, marked}
use Rattle.spec_history.specs.Sessions.{SessionState, unborn, runs, gone, fresh, acted, transcript_of}
use Rattle.spec_history.specs.Worlds.{World, first, step, run, items_by, ids_by, issued_by}
use Rattle.spec_history.specs.Guards.{IsEnabled, Good}
use Rattle.spec_history.proofs.Cuts.{run_append, of_append, good_append}
use Rattle.spec_history.proofs.Trace.{each_append, each_weaker, count_append}
use Rattle.spec_history.proofs.Settles.{in_right}
use Rattle.spec_history.proofs.Setup.{silent}
use Rattle.spec_history.proofs.Grows.{times_append}
use Rattle.spec_protocol.specs.Server.{Server, journal_image}
use Rattle.spec_protocol.specs.Cells.{LedgerCell}
use Rattle.spec_protocol.specs.Seats.{KeptImage, Session, Written, Role, idle, session, builder, SeatState}
use Rattle.spec_protocol.specs.Parts.{Numbers, all_of, IsNow, BeganAfter, IsOver, WasOver, Past, Now, Sessions}
use Rattle.spec_protocol.specs.TranscriptsAgree.{moments_of, IsMoment, image_of, IsImage, AreImages, ImagesOfPast, ImagesNow, MarksWithin, SeatAgrees, TranscriptsAgree}
use Rattle.law_protocol_steps.proofs.Ids.{each_in}
use Rattle.spec_protocol.proofs.Places.{at_set, set_here, set_else}

-- ---- histories

module _ (q : Meaning) (db : Text) where
  pub good_snoc : (w : World) (es : List Act) (e : Act) → Good q db w es → IsEnabled q db (run w es) e → Good q db w (es ++ e ∷ [])
  good_snoc w [] e g k = (k, tt)
  good_snoc w (f ∷ fs) e g k = (g.0, good_snoc (step w f) fs e g.1 k)

  pub good_more : (w : World) (es fs : List Act) → Good q db w es → Good q db (run w es) fs → Good q db w (es ++ fs)
  good_more w [] fs g k = k
  good_more w (e ∷ es) fs g k = (g.0, good_more (step w e) es fs g.1 k)

-- ---- the acts of one session

abbrev pub by_each : ℕ → List SessionAct → List Act
by_each n anonymous_acts = map (by n) anonymous_acts

abbrev pub acted_all : SessionState → List SessionAct → SessionState
acted_all x [] = x
acted_all x (a ∷ anonymous_acts) = acted_all (acted x a) anonymous_acts

pub run_else : (n : ℕ) (w : World) (anonymous_acts : List SessionAct) (m : ℕ) → m ≢ n → (run w (by_each n anonymous_acts)).at m ≡ w.at m
run_else n w [] m ne = refl
run_else n w (a ∷ anonymous_acts) m ne = run_else n (step w (by n a)) anonymous_acts m ne ∙ (rw (ne_eqb m n ne) refl)

pub run_now : (n : ℕ) (w : World) (anonymous_acts : List SessionAct) → (run w (by_each n anonymous_acts)).at n ≡ acted_all (w.at n) anonymous_acts
run_now n w [] = refl
run_now n w (a ∷ anonymous_acts) = run_now n (step w (by n a)) anonymous_acts ∙ ap (λ (x : SessionState). acted_all x anonymous_acts) (rw (eq-eqb n n refl) refl)

pub none_of : (n : ℕ) (anonymous_acts : List SessionAct) (m : ℕ) → m ≢ n → of m (by_each n anonymous_acts) ≡ []
none_of n [] m ne = refl
none_of n (a ∷ anonymous_acts) m ne = let e : (n == m) ≡ false = ne_eqb n m (λ x. ne (sym x)) in rw e (none_of n anonymous_acts m ne)

pub all_of_them : (n : ℕ) (anonymous_acts : List SessionAct) → of n (by_each n anonymous_acts) ≡ anonymous_acts
all_of_them n [] = refl
all_of_them n (a ∷ anonymous_acts) = rw (eq-eqb n n refl) (ap (λ (l : List SessionAct). a ∷ l) (all_of_them n anonymous_acts))

-- ---- images

pub image_stays : (v : Server) (c d : LedgerCell) (K : List JournalItem) (k : KeptImage) → d.database ≡ c.database → d.items ≡ c.items ++ K → IsImage v c k → IsImage v d k
image_stays v c d K k db items i = record {
  within = let e : length d.items ≡ length (c.items ++ K) = ap (λ (J : List JournalItem). length J) items in omega (arith, e, length-append c.items K, i.within);
  bytes = i.bytes ∙ (λ n. journal_image v (sym db n) (cut c.items k.0)) ∙ ap (λ (J : List JournalItem). journal_image v d.database J) (sym (ap (λ (J : List JournalItem). cut J k.0) items ∙ take-append-le k.0 c.items K i.within));
}

pub images_stay_each : (v : Server) (c d : LedgerCell) (K : List JournalItem) (images : List KeptImage) → d.database ≡ c.database → d.items ≡ c.items ++ K → Each (IsImage v c) images → Each (IsImage v d) images
images_stay_each v c d K images db items e = each_weaker (IsImage v c) (IsImage v d) (λ k. image_stays v c d K k db items) images e

pub images_stay : (v : Server) (c d : LedgerCell) (K : List JournalItem) (acts : List SessionAct) (images : List KeptImage) → d.database ≡ c.database → d.items ≡ c.items ++ K → AreImages v c acts images → AreImages v d acts images
images_stay v c d K acts images db items i = record { shown = i.shown; each = images_stay_each v c d K images db items i.each }

-- ---- acts more of session n

module _ (q : Meaning) (db : Text) (h : List Act) (good : Good q db first h) (n : ℕ) (anonymous_acts : List SessionAct) (alive : ((run first h).at n).phase ≡ gone → ⊥) where
  abbrev more : List Act
  more = h ++ by_each n anonymous_acts

  pub world_more : run first more ≡ run (run first h) (by_each n anonymous_acts)
  world_more = run_append first h (by_each n anonymous_acts)

  pub else_same : (m : ℕ) → m ≢ n → (run first more).at m ≡ (run first h).at m
  else_same m ne = ap (λ w. w.at m) world_more ∙ run_else n (run first h) anonymous_acts m ne

  pub now_acted : (run first more).at n ≡ acted_all ((run first h).at n) anonymous_acts
  now_acted = ap (λ w. w.at n) world_more ∙ run_now n (run first h) anonymous_acts

  pub of_else : (m : ℕ) → m ≢ n → of m more ≡ of m h
  of_else m ne = of_append m h (by_each n anonymous_acts) ∙ ap (λ (l : List SessionAct). of m h ++ l) (none_of n anonymous_acts m ne) ∙ append-nil (of m h)

  pub of_now : of n more ≡ of n h ++ anonymous_acts
  of_now = of_append n h (by_each n anonymous_acts) ∙ ap (λ (l : List SessionAct). of n h ++ l) (all_of_them n anonymous_acts)

  -- a session that is over isn't this one
  pub not_gone : (m : ℕ) → ((run first h).at m).phase ≡ gone → m ≢ n
  not_gone m e same = alive (ap (λ (i : ℕ). ((run first h).at i).phase) (sym same) ∙ e)

  pub over_stays : (x : Transcript) → IsOver h x → IsOver more x
  over_stays x o = let same = else_same o.number (not_gone o.number o.over) in record { number = o.number; over = ap (λ (y : SessionState). y.phase) same ∙ o.over; is = ap transcript_of same ∙ o.is }

  pub began_gone : (m k : ℕ) → BeganAfter h m k → ((run first h).at m).phase ≡ gone
  began_gone m k b = let two = good_append q db first b.before b.after (subst (Good q db first) b.is good) in
      ap (λ (es : List Act). ((run first es).at m).phase) b.is ∙ ap (λ (w : World). (w.at m).phase) (run_append first b.before b.after) ∙ (silent q db m (run first b.before) b.after b.over two.1).1

  pub was_over_stays : (k : ℕ) (x : Transcript) → WasOver h k x → WasOver more k x
  was_over_stays k x o = record {
    number = o.number;
    before = record { before = o.before.before; after = o.before.after ++ by_each n anonymous_acts; is = ap (λ (es : List Act). es ++ by_each n anonymous_acts) o.before.is ∙ append_assoc o.before.before o.before.after (by_each n anonymous_acts); over = o.before.over; none = o.before.none };
    is = ap transcript_of (else_same o.number (not_gone o.number (began_gone o.number k o.before))) ∙ o.is;
  }

  pub each_was_over : (k : ℕ) (xs : List Transcript) → Each (WasOver h k) xs → Each (WasOver more k) xs
  each_was_over k = each_weaker (WasOver h k) (WasOver more k) (was_over_stays k)

  pub past_stays : (ns : List ℕ) (xs : List Written) → Each (λ m. m ≢ n) ns → Past h ns xs → Past more ns xs
  past_stays [] [] ne p = p
  past_stays [] (x ∷ xs) ne p = absurd p
  past_stays (m ∷ ns) [] ne p = absurd p
  past_stays (m ∷ ns) (x ∷ xs) ne p = let same = else_same m ne.0 in
      (record { over = ap (λ (y : SessionState). y.phase) same ∙ p.0.over; is = ap transcript_of same ∙ p.0.is; earlier = each_was_over m x.earlier p.0.earlier }, past_stays ns xs ne.1 p.1)

  now_stays : (p : Meaning) (o : Option ℕ) (r : Role) → Each (λ m. m ≢ n) (listed o) → Now h p o r → Now more p o r
  now_stays p (Some m) (session x) ne z = (subst (λ (y : SessionState). IsNow p y x) (sym (else_same m ne.0)) z.0, each_was_over m x.earlier z.1)
  now_stays p (Some m) idle ne z = absurd z
  now_stays p (Some m) builder ne z = absurd z
  now_stays p None (session x) ne z = absurd z
  now_stays p None idle ne z = tt
  now_stays p None builder ne z = tt

  pub left_part : (xs ys : List ℕ) → Each (λ m. m ≢ n) (xs ++ ys) → Each (λ m. m ≢ n) xs × Each (λ m. m ≢ n) ys
  left_part [] ys e = (tt, e)
  left_part (x ∷ xs) ys e = let r = left_part xs ys e.1 in ((e.0, r.0), r.1)

  pub sessions_stay : (w : Meaning) (m : Numbers) (s : SeatState) → Each (λ i. i ≢ n) (all_of m) → Sessions h w m s → Sessions more w m s
  sessions_stay w m s ne p = let parts = left_part m.past (listed m.now) ne in record {
    differ = p.differ;
    past = past_stays m.past s.written parts.0 p.past;
    now = now_stays w m.now s.role parts.1 p.now;
    earlier = each_weaker (IsOver h) (IsOver more) over_stays s.earlier p.earlier;
  }

  -- ---- images and marks

  module _ (v : Server) (c d : LedgerCell) (K : List JournalItem) (database : d.database ≡ c.database) (items : d.items ≡ c.items ++ K) where
    pub past_images_stay : (ns : List ℕ) (xs : List Written) → Each (λ m. m ≢ n) ns → ImagesOfPast v h c ns xs → ImagesOfPast v more d ns xs
    past_images_stay [] xs ne p = tt
    past_images_stay (m ∷ ns) [] ne p = tt
    past_images_stay (m ∷ ns) (x ∷ xs) ne p = (subst (λ (l : List SessionAct). AreImages v d l x.images) (sym (of_else m ne.0)) (images_stay v c d K (of m h) x.images database items p.0), past_images_stay ns xs ne.1 p.1)

    images_now_stay : (o : Option ℕ) (r : Role) → Each (λ m. m ≢ n) (listed o) → ImagesNow v h c o r → ImagesNow v more d o r
    images_now_stay (Some m) (session x) ne p = subst (λ (l : List SessionAct). AreImages v d l x.images) (sym (of_else m ne.0)) (images_stay v c d K (of m h) x.images database items p)
    images_now_stay (Some m) idle ne p = tt
    images_now_stay (Some m) builder ne p = tt
    images_now_stay None r ne p = tt

    pub marks_stay : (s : SeatState) (ns : List ℕ) → Each (λ m. m ≢ n) ns → Each (MarksWithin v h c s) ns → Each (MarksWithin v more d s) ns
    marks_stay s [] ne p = tt
    marks_stay s (m ∷ ns) ne p = (subst (Shows marked (λ i. (s.least ≤ i) × (i ≤ s.greatest))) (sym (of_else m ne.0)) p.0, marks_stay s ns ne.1 p.1)

    -- another seat
    pub seat_stays : (m : Numbers) (s : SeatState) → d.block_size ≡ c.block_size → tx_count c.items ≤ tx_count d.items → Each (λ i. i ≢ n) (all_of m) → SeatAgrees v h c m s → SeatAgrees v more d m s
    seat_stays m s size more_items ne p = let parts = left_part m.past (listed m.now) ne in record {
      sessions = sessions_stay v.meaning m s ne p.sessions;
      database = λ e. p.database e ∙ sym database;
      block_size = λ e. p.block_size e ∙ sym size;
      marks = marks_stay s (all_of m) ne p.marks;
      greatest = (p.greatest.0, let l = p.greatest.1 in omega arith);
      past_images = past_images_stay m.past s.written parts.0 p.past_images;
      images = images_now_stay m.now s.role parts.1 p.images;
    }

-- ---- the whole

pub differ_front : (ns : List ℕ) (n : ℕ) → Differ (ns ++ n ∷ []) → Each (λ m. m ≢ n) ns
differ_front [] n d = tt
differ_front (m ∷ ns) n d = (last_of ns d.0, differ_front ns n d.1)
  where
    last_of : (xs : List ℕ) → Each (λ k. m ≢ k) (xs ++ n ∷ []) → m ≢ n
    last_of [] e = e.0
    last_of (x ∷ xs) e = last_of xs e.1

-- the acts of the session that runs at seat s, which turns into t, as the ledger's cell c into d
pub record ActsAll (v : Server) (h : List Act) (n : ℕ) (anonymous_acts : List SessionAct) (c d : LedgerCell) (s t : SeatState) : Type 0 where
  pub ok : Good v.meaning c.database (run first h) (by_each n anonymous_acts)
  -- what they add to the journal, to the ids drawn and to the digests
  pub K : List JournalItem
  pub ids : ℕ
  pub G : List Digest
  pub adds_items : (run (run first h) (by_each n anonymous_acts)).items ≡ (run first h).items ++ K
  pub adds_ids : (run (run first h) (by_each n anonymous_acts)).next ≡ (run first h).next + ids
  pub adds_digests : (run (run first h) (by_each n anonymous_acts)).issued ≡ (run first h).issued ++ G
  pub items : d.items ≡ c.items ++ K
  pub next : d.next ≡ c.next + ids
  pub issued : d.issued ≡ c.issued ++ G
  pub same_database : d.database ≡ c.database
  pub same_size : d.block_size ≡ c.block_size
  -- the session then, with those that it knows were over before it began
  pub x : Session
  pub y : Session
  pub was : s.role ≡ session x
  pub role : t.role ≡ session y
  pub same_name : y.earlier ≡ x.earlier
  pub now : IsNow v.meaning (acted_all ((run first h).at n) anonymous_acts) y
  -- what the seat keeps
  pub same_present : t.present ≡ s.present
  pub seat_database : t.database ≡ s.database
  pub seat_size : t.block_size ≡ s.block_size
  pub same_written : t.written ≡ s.written
  pub same_earlier : t.earlier ≡ s.earlier
  pub same_least : t.least ≡ s.least
  pub more_marks : s.greatest ≤ t.greatest
  pub greatest : t.greatest ≤ tx_count d.items
  pub marks : Shows marked (λ m. (s.least ≤ m) × (m ≤ t.greatest)) anonymous_acts
  pub images : map (λ k. k.0) y.images ≡ map (λ k. k.0) x.images ++ flat_map image_of anonymous_acts
  pub each_image : Each (IsImage v c) x.images → Each (IsImage v d) y.images
  -- moments of its commits and digests
  pub moments : (time : ℕ) → In time (moments_of s) → In time (moments_of t)
  pub times : Each (λ time. In time (moments_of t)) (times K)
  pub made : Each (λ g. In g.made (moments_of t)) G

module _ (v : Server) (h : List Act) (c d : LedgerCell) (seats : List SeatState) (agree : TranscriptsAgree v h c seats) (j : ℕ) (s t : SeatState) (there : get_elem? seats j ≡ some s) (n : ℕ) (anonymous_acts : List SessionAct) (number : (agree.of_seat j).now ≡ Some n)
    (acts : ActsAll v h n anonymous_acts c d s t) where
  abbrev after : List SeatState
  after = slice_set seats j t

  abbrev longer : List Act
  longer = h ++ by_each n anonymous_acts

  own_now : Now h v.meaning (Some n) (session acts.x)
  own_now = subst (λ (o : Option ℕ). Now h v.meaning o (session acts.x)) number (subst (Now h v.meaning (agree.of_seat j).now) acts.was (agree.agree j s there).sessions.now)

  runs_now : ((run first h).at n).phase ≡ runs
  runs_now = own_now.0.running

  alive : ((run first h).at n).phase ≡ gone → ⊥
  alive e = let f : runs ≡ gone = sym runs_now ∙ e in cc

  past_differ : Each (λ m. m ≢ n) (agree.of_seat j).past
  past_differ = differ_front (agree.of_seat j).past n (subst (λ (o : Option ℕ). Differ ((agree.of_seat j).past ++ listed o)) number (agree.agree j s there).sessions.differ)

  among : In n (all_of (agree.of_seat j))
  among = subst (λ (o : Option ℕ). In n ((agree.of_seat j).past ++ listed o)) (sym number) (in_right n (agree.of_seat j).past (n ∷ []) (inl refl))

  owned : agree.owner n ≡ j
  owned = each_in (λ m. agree.owner m ≡ j) (all_of (agree.of_seat j)) n (agree.own j s there) among

  not_of : (k : ℕ) (u : SeatState) → k ≢ j → get_elem? seats k ≡ some u → Each (λ m. m ≢ n) (all_of (agree.of_seat k))
  not_of k u ne e = each_weaker (λ m. agree.owner m ≡ k) (λ m. m ≢ n) (λ m o same. ne (sym o ∙ ap agree.owner same ∙ owned)) (all_of (agree.of_seat k)) (agree.own k u e)

  more_items : tx_count c.items ≤ tx_count d.items
  more_items = let e : tx_count d.items ≡ tx_count (c.items ++ acts.K) = ap tx_count acts.items in omega (arith, e, count_append c.items acts.K)

  abbrev m : Numbers
  m = agree.of_seat j

  was_good : Good v.meaning c.database first h
  was_good = agree.good

  was : SeatAgrees v h c m s
  was = agree.agree j s there

  abbrev Within : ℕ → Type 0
  Within i = (t.least ≤ i) × (i ≤ t.greatest)

  wider : (i : ℕ) → (s.least ≤ i) × (i ≤ s.greatest) → Within i
  wider i e = let l = acts.same_least in let g = acts.more_marks in let a = e.0 in let b = e.1 in (omega arith, omega arith)

  wider_marks : (xs : List SessionAct) → Shows marked (λ i. (s.least ≤ i) × (i ≤ s.greatest)) xs → Shows marked Within xs
  wider_marks = each_weaker (λ b. Each (λ i. (s.least ≤ i) × (i ≤ s.greatest)) (marked b)) (λ b. Each Within (marked b)) (λ b. each_weaker (λ i. (s.least ≤ i) × (i ≤ s.greatest)) Within wider (marked b))

  past_marks : (ns : List ℕ) → Each (λ i. i ≢ n) ns → Each (MarksWithin v h c s) ns → Each (MarksWithin v longer d t) ns
  past_marks [] ne e = tt
  past_marks (i ∷ ns) ne e = (subst (Shows marked Within) (sym (of_else v.meaning c.database h was_good n anonymous_acts alive i ne.0)) (wider_marks (of i h) e.0), past_marks ns ne.1 e.1)

  left_of : (xs ys : List ℕ) → Each (MarksWithin v h c s) (xs ++ ys) → Each (MarksWithin v h c s) xs
  left_of [] ys e = tt
  left_of (x ∷ xs) ys e = (e.0, left_of xs ys e.1)

  new_marks : Shows marked Within anonymous_acts
  new_marks = each_weaker (λ b. Each (λ i. (s.least ≤ i) × (i ≤ t.greatest)) (marked b)) (λ b. Each Within (marked b))
      (λ b. each_weaker (λ i. (s.least ≤ i) × (i ≤ t.greatest)) Within (λ i e. let l = acts.same_least in let f = e.0 in (omega arith, e.1)) (marked b)) anonymous_acts acts.marks

  now_marks : Shows marked Within (of n longer)
  now_marks = subst (Shows marked Within) (sym (of_now v.meaning c.database h was_good n anonymous_acts alive))
      (each_append (λ b. Each Within (marked b)) (of n h) anonymous_acts (wider_marks (of n h) (each_in (MarksWithin v h c s) (all_of m) n was.marks among)) new_marks)

  own_images : AreImages v c (of n h) acts.x.images
  own_images = subst (λ (o : Option ℕ). ImagesNow v h c o (session acts.x)) number (subst (ImagesNow v h c m.now) acts.was was.images)

  now_images : AreImages v d (of n longer) acts.y.images
  now_images = record {
    shown = acts.images ∙ ap (λ (l : List ℕ). l ++ flat_map image_of anonymous_acts) own_images.shown ∙ sym (flat_map-append image_of (of n h) anonymous_acts) ∙ ap (flat_map image_of) (sym (of_now v.meaning c.database h was_good n anonymous_acts alive));
    each = acts.each_image own_images.each;
  }

  seat_then : SeatAgrees v longer d m t
  seat_then = record {
    sessions = record {
      differ = was.sessions.differ;
      past = subst (Past longer m.past) (sym acts.same_written) (past_stays v.meaning c.database h was_good n anonymous_acts alive m.past s.written past_differ was.sessions.past);
      now = subst (λ (o : Option ℕ). Now longer v.meaning o t.role) (sym number) (subst (Now longer v.meaning (Some n)) (sym acts.role) (
        subst (λ (z : SessionState). IsNow v.meaning z acts.y) (sym (now_acted v.meaning c.database h was_good n anonymous_acts alive)) acts.now,
        subst (Each (WasOver longer n)) (sym acts.same_name) (each_was_over v.meaning c.database h was_good n anonymous_acts alive n acts.x.earlier own_now.1),
      ));
      earlier = subst (Each (IsOver longer)) (sym acts.same_earlier) (each_weaker (IsOver h) (IsOver longer) (over_stays v.meaning c.database h was_good n anonymous_acts alive) s.earlier was.sessions.earlier);
    };
    database = λ e. acts.seat_database ∙ was.database (sym acts.same_present ∙ e) ∙ sym acts.same_database;
    block_size = λ e. acts.seat_size ∙ was.block_size (sym acts.same_present ∙ e) ∙ sym acts.same_size;
    marks = subst (λ (o : Option ℕ). Each (MarksWithin v longer d t) (m.past ++ listed o)) (sym number) (each_append (MarksWithin v longer d t) m.past (n ∷ []) (past_marks m.past past_differ (left_of m.past (listed m.now) was.marks)) (now_marks, tt));
    greatest = (let l = was.greatest.0 in let e = acts.same_least in let g = acts.more_marks in omega arith, acts.greatest);
    past_images = subst (ImagesOfPast v longer d m.past) (sym acts.same_written) (past_images_stay v.meaning c.database h was_good n anonymous_acts alive v c d acts.K acts.same_database acts.items m.past s.written past_differ was.past_images);
    images = subst (λ (o : Option ℕ). ImagesNow v longer d o t.role) (sym number) (subst (ImagesNow v longer d (Some n)) (sym acts.role) now_images);
  }

  all_seats : (k : ℕ) (u : SeatState) → get_elem? after k ≡ some u → SeatAgrees v longer d (agree.of_seat k) u
  all_seats k u e = ⊎_elim
      (λ (f : (k ≡ j) × (t ≡ u)). subst (λ (w : SeatState). SeatAgrees v longer d (agree.of_seat k) w) f.1 (subst (λ (i : ℕ). SeatAgrees v longer d (agree.of_seat i) t) (sym f.0) seat_then))
      (λ (f : (k ≢ j) × (get_elem? seats k ≡ some u)). seat_stays v.meaning c.database h was_good n anonymous_acts alive v c d acts.K acts.same_database acts.items (agree.of_seat k) u acts.same_size more_items (not_of k u f.0 f.1) (agree.agree k u f.1))
      (at_set seats j k t u e)

  all_own : (k : ℕ) (u : SeatState) → get_elem? after k ≡ some u → Each (λ i. agree.owner i ≡ k) (all_of (agree.of_seat k))
  all_own k u e = ⊎_elim
      (λ (f : (k ≡ j) × (t ≡ u)). subst (λ (l : ℕ). Each (λ i. agree.owner i ≡ l) (all_of (agree.of_seat l))) (sym f.0) (agree.own j s there))
      (λ (f : (k ≢ j) × (get_elem? seats k ≡ some u)). agree.own k u f.1)
      (at_set seats j k t u e)

  still_there : (k : ℕ) (u : SeatState) → get_elem? seats k ≡ some u → (w : SeatState) × (get_elem? after k ≡ some w)
  still_there k u e = ⊎_elim
      (λ (f : k ≡ j). (t, ap (get_elem? after) f ∙ set_here seats j t s there))
      (λ (f : k ≢ j). (u, set_else seats j k t f ∙ e))
      (cases_eq k j)

  moment_stays : (time : ℕ) → IsMoment seats time → IsMoment after time
  moment_stays time e = ⊎_elim
      (λ (f : e.j ≡ j). record { j = j; seat = t; there = set_here seats j t s there; is = acts.moments time (subst (λ (u : SeatState). In time (moments_of u)) (some-injective e.seat s (sym e.there ∙ ap (get_elem? seats) f ∙ there)) e.is) })
      (λ (f : e.j ≢ j). record { j = e.j; seat = e.seat; there = set_else seats j e.j t f ∙ e.there; is = e.is })
      (cases_eq e.j j)

  new_moment : (time : ℕ) → In time (moments_of t) → IsMoment after time
  new_moment time e = record { j = j; seat = t; there = set_here seats j t s there; is = e }

  pub all_agree_then : TranscriptsAgree v longer d after
  all_agree_then = record {
    good = subst (λ (db : Text). Good v.meaning db first longer) (sym acts.same_database) (good_more v.meaning c.database first h (by_each n anonymous_acts) was_good acts.ok);
    items = ap (λ (w : World). w.items) world ∙ acts.adds_items ∙ ap (λ (l : List JournalItem). l ++ acts.K) agree.items ∙ sym acts.items;
    next = ap (λ (w : World). w.next) world ∙ acts.adds_ids ∙ ap (λ (i : ℕ). i + acts.ids) agree.next ∙ sym acts.next;
    issued = ap (λ (w : World). w.issued) world ∙ acts.adds_digests ∙ ap (λ (l : List Digest). l ++ acts.G) agree.issued ∙ sym acts.issued;
    of_seat = agree.of_seat;
    agree = all_seats;
    owner = agree.owner;
    own = all_own;
    count = agree.count;
    all = λ i l. let old = agree.all i l in let w = still_there (agree.owner i) old.0 old.1 in (w.0, w.1, old.2);
    no_others = λ i l. let old = agree.no_others i l in let ne = not_fresh i old.0 in (else_same v.meaning c.database h was_good n anonymous_acts alive i ne ∙ old.0, of_else v.meaning c.database h was_good n anonymous_acts alive i ne ∙ old.1);
    times = subst (Each (IsMoment after)) (sym (ap times acts.items ∙ times_append c.items acts.K))
        (each_append (IsMoment after) (times c.items) (times acts.K) (each_weaker (IsMoment seats) (IsMoment after) moment_stays (times c.items) agree.times)
        (each_weaker (λ time. In time (moments_of t)) (IsMoment after) new_moment (times acts.K) acts.times));
    made = subst (Each (λ g. IsMoment after g.made)) (sym acts.issued)
        (each_append (λ g. IsMoment after g.made) c.issued acts.G (each_weaker (λ g. IsMoment seats g.made) (λ g. IsMoment after g.made) (λ g. moment_stays g.made) c.issued agree.made)
        (each_weaker (λ g. In g.made (moments_of t)) (λ g. IsMoment after g.made) (λ g. new_moment g.made) acts.G acts.made));
  }
    where
      world : run first longer ≡ run (run first h) (by_each n anonymous_acts)
      world = run_append first h (by_each n anonymous_acts)

      not_fresh : (i : ℕ) → (run first h).at i ≡ fresh → i ≢ n
      not_fresh i e same = let r : ((run first h).at i).phase ≡ runs = ap (λ (k : ℕ). ((run first h).at k).phase) same ∙ runs_now in let f : ((run first h).at i).phase ≡ unborn = ap (λ (z : SessionState). z.phase) e in cc

  -- whose part is whose stays
  pub same_parts : all_agree_then.of_seat ≡ agree.of_seat
  unfolding all_agree_then
  same_parts = refl

  -- who acts is the seat's
  pub owner_is : all_agree_then.owner n ≡ j
  unfolding all_agree_then
  owner_is = owned

-- ---- one act

-- the act a of the session that runs at seat s, which turns into t, as the ledger's cell c into d
pub record Acts (v : Server) (h : List Act) (n : ℕ) (a : SessionAct) (c d : LedgerCell) (s t : SeatState) : Type 0 where
  pub ok : IsEnabled v.meaning c.database (run first h) (by n a)
  pub items : d.items ≡ c.items ++ items_by ((run first h).at n) a
  pub next : d.next ≡ c.next + ids_by a
  pub issued : d.issued ≡ c.issued ++ issued_by a
  pub same_database : d.database ≡ c.database
  pub same_size : d.block_size ≡ c.block_size
  -- the session then, with those that it knows were over before it began
  pub x : Session
  pub y : Session
  pub was : s.role ≡ session x
  pub role : t.role ≡ session y
  pub same_name : y.earlier ≡ x.earlier
  pub now : IsNow v.meaning (acted ((run first h).at n) a) y
  -- what the seat keeps
  pub same_present : t.present ≡ s.present
  pub seat_database : t.database ≡ s.database
  pub seat_size : t.block_size ≡ s.block_size
  pub same_written : t.written ≡ s.written
  pub same_earlier : t.earlier ≡ s.earlier
  pub same_least : t.least ≡ s.least
  pub more_marks : s.greatest ≤ t.greatest
  pub greatest : t.greatest ≤ tx_count d.items
  pub marks : Each (λ m. (s.least ≤ m) × (m ≤ t.greatest)) (marked a)
  pub images : map (λ k. k.0) y.images ≡ map (λ k. k.0) x.images ++ image_of a
  pub each_image : Each (IsImage v c) x.images → Each (IsImage v d) y.images
  -- moments of its commits and digests
  pub moments : (time : ℕ) → In time (moments_of s) → In time (moments_of t)
  pub times : Each (λ time. In time (moments_of t)) (times (items_by ((run first h).at n) a))
  pub made : Each (λ g. In g.made (moments_of t)) (issued_by a)

pub agrees_then : (v : Server) (h : List Act) (c d : LedgerCell) (seats : List SeatState) (agree : TranscriptsAgree v h c seats) (j : ℕ) (s t : SeatState) → get_elem? seats j ≡ some s → (n : ℕ) (a : SessionAct) → (agree.of_seat j).now ≡ Some n
    → Acts v h n a c d s t → TranscriptsAgree v (h ++ by n a ∷ []) d (slice_set seats j t)
agrees_then v h c d seats agree j s t there n a number acts = all_agree_then v h c d seats agree j s t there n (a ∷ []) number (record {
  ok = (acts.ok, tt);
  K = items_by ((run first h).at n) a;
  ids = ids_by a;
  G = issued_by a;
  adds_items = refl;
  adds_ids = refl;
  adds_digests = refl;
  items = acts.items;
  next = acts.next;
  issued = acts.issued;
  same_database = acts.same_database;
  same_size = acts.same_size;
  x = acts.x;
  y = acts.y;
  was = acts.was;
  role = acts.role;
  same_name = acts.same_name;
  now = acts.now;
  same_present = acts.same_present;
  seat_database = acts.seat_database;
  seat_size = acts.seat_size;
  same_written = acts.same_written;
  same_earlier = acts.same_earlier;
  same_least = acts.same_least;
  more_marks = acts.more_marks;
  greatest = acts.greatest;
  marks = (acts.marks, tt);
  images = acts.images ∙ ap (λ (l : List ℕ). map (λ k. k.0) acts.x.images ++ l) (sym (append-nil (image_of a)));
  each_image = acts.each_image;
  moments = acts.moments;
  times = acts.times;
  made = acts.made;
})

pub agrees_parts : (v : Server) (h : List Act) (c d : LedgerCell) (seats : List SeatState) (agree : TranscriptsAgree v h c seats) (j : ℕ) (s t : SeatState) (there : get_elem? seats j ≡ some s) (n : ℕ) (a : SessionAct) (number : (agree.of_seat j).now ≡ Some n)
    (acts : Acts v h n a c d s t) → (agrees_then v h c d seats agree j s t there n a number acts).of_seat ≡ agree.of_seat
unfolding agrees_then all_agree_then
agrees_parts v h c d seats agree j s t there n a number acts = refl

pub agrees_owner : (v : Server) (h : List Act) (c d : LedgerCell) (seats : List SeatState) (agree : TranscriptsAgree v h c seats) (j : ℕ) (s t : SeatState) (there : get_elem? seats j ≡ some s) (n : ℕ) (a : SessionAct) (number : (agree.of_seat j).now ≡ Some n)
    (acts : Acts v h n a c d s t) → (agrees_then v h c d seats agree j s t there n a number acts).owner n ≡ j
unfolding agrees_then
agrees_owner v h c d seats agree j s t there n a number acts = owner_is v h c d seats agree j s t there n (a ∷ []) number _
