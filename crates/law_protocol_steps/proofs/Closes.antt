-- The visit in which a block is closed.
use Rattle.std.proofs.Common.{◌≡◌, ℕ, zero, suc, ◌≤◌, List, [], ◌∷◌, ◌++◌, Option, Some, None, slice_set, refl, sym, ap, ◌∙◌, subst, subst₂, append-nil, append_assoc, arith, Bool, true, false, leb-true, leb-false}
use Rattle.std.specs.Prelude.{◌==◌, ◌||◌, if◌then◌else◌, nat_le}
use mathlib.Core.Option.{some}
use lib.ListN.{get_elem?}
use Rattle.sql_types.specs.declared.journal.JournalItem.{JournalItem}
use Rattle.sql_types.specs.declared.journal.JournalItem.TheVariants.{Tx, Close}
use Rattle.spec_model.specs.Catalog.{Tables}
use Rattle.spec_model.specs.Journals.{tx_count, closed, upto, serial_from, after_item}
use Rattle.spec_model.specs.Script.{Reading}
use Rattle.spec_model.specs.SystemTables.{first_tables}
use Rattle.spec_history.specs.Lists.{Each}
use Rattle.spec_history.specs.Journals.{times}
use Rattle.spec_history.specs.Facts.{Shows}
use Rattle.spec_history.specs.Transcripts.{Transcript}
use Rattle.spec_history.specs.Digests.{Digest}
use Rattle.spec_history.specs.Acts.{SessionAct, Act, closes, of, marked}
use Rattle.spec_history.specs.Sessions.{SessionState, transcript_of}
use Rattle.spec_history.specs.Worlds.{World, first, step, run}
use Rattle.spec_history.proofs.Cuts.{run_append, of_append}
use Rattle.spec_history.proofs.Trace.{each_weaker, count_append}
use Rattle.spec_history.proofs.Grows.{blocks_append, digest_stays, times_append}
use Rattle.spec_protocol.specs.Server.{Server}
use Rattle.spec_protocol.specs.Cells.{LedgerCell, Cell, Ledger, ledger_at, pending_in}
use Rattle.spec_protocol.specs.Contents.{Contents, Known, contents, known, has_id}
use Rattle.spec_protocol.specs.Seats.{KeptImage, Written, Role, idle, session, builder, SeatState}
use Rattle.spec_protocol.specs.LedgerIsLegal.{IsOfCell, LedgerIsLegal}
use Rattle.spec_protocol.specs.LedgerVisits.{closed_by, next_block, Closes}
use Rattle.spec_protocol.specs.Parts.{Numbers, all_of, IsNow, IsOver, WasOver, Past, Now}
use Rattle.spec_protocol.specs.TranscriptsAgree.{IsMoment, AreImages, ImagesOfPast, ImagesNow, MarksWithin, SeatAgrees, TranscriptsAgree}
use Rattle.spec_protocol.specs.TablesAreSerial.{TablesAreSerial}
use Rattle.spec_protocol.specs.OpenScripts.{OpenScripts}
use Rattle.spec_protocol.specs.LocksCover.{LocksCover}
use Rattle.spec_protocol.specs.LocksAgree.{LocksAgree}
use Rattle.spec_protocol.specs.TreesAreOfEvents.{TreesAreOfEvents}
use Rattle.spec_protocol.specs.StandTogether.{History, Stands}
use Rattle.law_protocol_steps.proofs.JournalMore.{legal_more, serial_more}
use Rattle.law_protocol_steps.proofs.LedgerKept.{same_contents, are_cells}
use Rattle.law_protocol_steps.proofs.LedgerVisit.{the_ledger}
use Rattle.law_protocol_steps.proofs.OneMore.{good_snoc, images_stay}
use Rattle.spec_protocol.proofs.Places.{set_same}
use Rattle.spec_protocol.specs.RowsAgree.{RowsAgree}
use Rattle.spec_protocol.specs.Ledger as of_journal
use Rattle.spec_protocol.proofs.Adding.{one_more}
use Rattle.spec_protocol.proofs.LedgerNumbers.{pending_are}

-- ---- the journal says the same

module _ (n : ℕ) where
  same_ids : (J : List JournalItem) (id : ℕ) → has_id (J ++ Close n ∷ []) id ≡ has_id J id
  same_ids [] id = refl
  same_ids (Tx a b d e f ∷ is) id = λ i. (a == id) || same_ids is id i
  same_ids (Close m ∷ is) id = same_ids is id

  module _ (reads : Reading) where
    same_first : (T : Tables) (J : List JournalItem) (m : ℕ) → serial_from reads T (upto (J ++ Close n ∷ []) m) ≡ serial_from reads T (upto J m)
    unfolding serial_from
    same_first T [] zero = refl
    same_first T [] (suc m) = none_more m
      where
        none_more : (m : ℕ) → serial_from reads T (upto [] (suc m)) ≡ T
        none_more m = refl
    same_first T (Tx a b d e f ∷ is) zero = refl
    same_first T (Tx a b d e f ∷ is) (suc m) = same_first (after_item reads T (Tx a b d e f)) is m
    same_first T (Close k ∷ is) zero = refl
    same_first T (Close k ∷ is) (suc m) = same_first T is (suc m)

    pub closing_says : (J : List JournalItem) → known reads (J ++ Close n ∷ []) ≡ known reads J
    closing_says J = λ i. record { tables = serial_more reads J (Close n) i; after = λ m. same_first first_tables J m i; has = λ id. same_ids J id i }

-- ---- the ledger

module _ (v : Server) (c : LedgerCell) (n : ℕ) (least : 1 ≤ n) (fits : n ≤ c.block_size) (pending : n ≤ pending_in c) where
  abbrev d : LedgerCell
  d = closed_by v.hash n c

  digest_of : (g : Digest) → IsOfCell v c g → IsOfCell v d g
  digest_of g e = record { closed = omega (arith, blocks_append c.items (Close n ∷ []), e.closed); is = digest_stays v.meaning c.database c.items (Close n ∷ []) g e.closed e.is }

  pub closing_is_legal : LedgerIsLegal v c → LedgerIsLegal v d
  closing_is_legal l = record {
    legal = legal_more v.reads c.items (Close n) l.legal (least, (let a = l.most_size in omega arith), (let a = pending_are v c l in omega arith));
    chain = ap (of_journal.closes v.hash n) l.chain ∙ sym (one_more v.hash v.reads c.items (Close n));
    digests = each_weaker (IsOfCell v c) (IsOfCell v d) digest_of c.issued l.digests;
    some_size = l.some_size;
    most_size = l.most_size;
  }

  -- ---- the history

  module _ (h : List Act) where
    abbrev more : List Act
    more = h ++ closes n ∷ []

    world_more : run first more ≡ step (run first h) (closes n)
    world_more = run_append first h (closes n ∷ [])

    same_at : (m : ℕ) → (run first more).at m ≡ (run first h).at m
    same_at m = ap (λ (w : World). w.at m) world_more

    same_of : (m : ℕ) → of m more ≡ of m h
    same_of m = of_append m h (closes n ∷ []) ∙ append-nil (of m h)

    over_stays : (x : Transcript) → IsOver h x → IsOver more x
    over_stays x o = record { number = o.number; over = ap (λ (y : SessionState). y.phase) (same_at o.number) ∙ o.over; is = ap transcript_of (same_at o.number) ∙ o.is }

    was_over : (k : ℕ) (x : Transcript) → WasOver h k x → WasOver more k x
    was_over k x o = record {
      number = o.number;
      before = record { before = o.before.before; after = o.before.after ++ closes n ∷ []; is = ap (λ (es : List Act). es ++ closes n ∷ []) o.before.is ∙ append_assoc o.before.before o.before.after (closes n ∷ []); over = o.before.over; none = o.before.none };
      is = ap transcript_of (same_at o.number) ∙ o.is;
    }

    past : (ns : List ℕ) (xs : List Written) → Past h ns xs → Past more ns xs
    past [] [] p = p
    past [] (x ∷ xs) p = absurd p
    past (m ∷ ns) [] p = absurd p
    past (m ∷ ns) (x ∷ xs) p = (record { over = ap (λ (y : SessionState). y.phase) (same_at m) ∙ p.0.over; is = ap transcript_of (same_at m) ∙ p.0.is; earlier = each_weaker (WasOver h m) (WasOver more m) (was_over m) x.earlier p.0.earlier }, past ns xs p.1)

    now : (o : Option ℕ) (r : Role) → Now h v.meaning o r → Now more v.meaning o r
    now (Some m) (session x) p = (subst (λ (y : SessionState). IsNow v.meaning y x) (sym (same_at m)) p.0, each_weaker (WasOver h m) (WasOver more m) (was_over m) x.earlier p.1)
    now (Some m) idle p = absurd p
    now (Some m) builder p = absurd p
    now None (session x) p = absurd p
    now None idle p = tt
    now None builder p = tt

    kept_images : (m : ℕ) (images : List KeptImage) → AreImages v c (of m h) images → AreImages v d (of m more) images
    kept_images m images p = subst (λ (l : List SessionAct). AreImages v d l images) (sym (same_of m)) (images_stay v c d (Close n ∷ []) (of m h) images refl refl p)

    past_images : (ns : List ℕ) (xs : List Written) → ImagesOfPast v h c ns xs → ImagesOfPast v more d ns xs
    past_images [] xs p = tt
    past_images (m ∷ ns) [] p = tt
    past_images (m ∷ ns) (x ∷ xs) p = (kept_images m x.images p.0, past_images ns xs p.1)

    images_now : (o : Option ℕ) (r : Role) → ImagesNow v h c o r → ImagesNow v more d o r
    images_now (Some m) (session x) p = kept_images m x.images p
    images_now (Some m) idle p = tt
    images_now (Some m) builder p = tt
    images_now None r p = tt

    seat_stays : (m : Numbers) (s : SeatState) → SeatAgrees v h c m s → SeatAgrees v more d m s
    seat_stays m s p = record {
      sessions = record { differ = p.sessions.differ; past = past m.past s.written p.sessions.past; now = now m.now s.role p.sessions.now; earlier = each_weaker (IsOver h) (IsOver more) over_stays s.earlier p.sessions.earlier };
      database = p.database;
      block_size = p.block_size;
      marks = each_weaker (MarksWithin v h c s) (MarksWithin v more d s) (λ i q. subst (Shows marked (λ m. (s.least ≤ m) × (m ≤ s.greatest))) (sym (same_of i)) q) (all_of m) p.marks;
      greatest = (p.greatest.0, (let l = p.greatest.1 in omega (arith, count_append c.items (Close n ∷ []))));
      past_images = past_images m.past s.written p.past_images;
      images = images_now m.now s.role p.images;
    }

    pub closing_agrees : (seats : List SeatState) → LedgerIsLegal v c → TranscriptsAgree v h c seats → TranscriptsAgree v more d seats
    closing_agrees seats l agree = record {
      good = good_snoc v.meaning c.database first h (closes n) agree.good (least, (let a = l.most_size in omega arith), (let a = pending_are v c l in let e = agree.items in omega (arith, ap closed e, ap tx_count e)));
      items = ap (λ (w : World). w.items) world_more ∙ ap (λ (J : List JournalItem). J ++ Close n ∷ []) agree.items;
      next = ap (λ (w : World). w.next) world_more ∙ agree.next;
      issued = ap (λ (w : World). w.issued) world_more ∙ agree.issued;
      of_seat = agree.of_seat;
      agree = λ j s e. seat_stays (agree.of_seat j) s (agree.agree j s e);
      owner = agree.owner;
      own = agree.own;
      count = agree.count;
      all = agree.all;
      no_others = λ i e. (same_at i ∙ (agree.no_others i e).0, same_of i ∙ (agree.no_others i e).1);
      times = subst (Each (IsMoment seats)) (sym (times_append c.items (Close n ∷ []) ∙ append-nil (times c.items))) agree.times;
      made = agree.made;
    }

-- ---- all

module _ (v : Server) (cells : List Cell) (seats : List SeatState) {history : History} (st : Stands v history cells seats) (n : ℕ) (least : 1 ≤ n) (fits : n ≤ st.ledger.block_size) (pending : n ≤ pending_in st.ledger) where
  abbrev then_cells : List Cell
  then_cells = slice_set cells ledger_at (Ledger (closed_by v.hash n st.ledger))

  over : (P : Contents → Known → Type 0) → P (contents cells) (known v.reads st.ledger.items) → P (contents then_cells) (known v.reads (st.ledger.items ++ Close n ∷ []))
  over P p = subst₂ P (sym (same_contents cells st.ledger (closed_by v.hash n st.ledger) st.are_cells.has_ledger)) (sym (closing_says n v.reads st.ledger.items)) p

  pub close_stands : Stands v (history ++ closes n ∷ []) then_cells seats
  close_stands = record {
    catalog = st.catalog;
    ledger = closed_by v.hash n st.ledger;
    are_cells = are_cells cells st.ledger (closed_by v.hash n st.ledger) st.are_cells.has_ledger st.catalog st.ledger st.are_cells;
    ledger_is_legal = closing_is_legal v st.ledger n least fits pending st.ledger_is_legal;
    tables_are_serial = over (λ c k. TablesAreSerial v c k st.catalog.defs st.catalog.creator seats) st.tables_are_serial;
    rows_agree = over (λ c k. RowsAgree v c k seats) st.rows_agree;
    open_scripts = over (λ c k. OpenScripts v c k seats) st.open_scripts;
    locks_cover = over (λ c k. LocksCover v c k seats) st.locks_cover;
    locks_agree = over (λ c k. LocksAgree c seats) st.locks_agree;
    trees_are_of_events = over (λ c k. TreesAreOfEvents v c k seats) st.trees_are_of_events;
    transcripts_agree = closing_agrees v st.ledger n least fits pending history seats st.ledger_is_legal st.transcripts_agree;
  }

-- what the next block takes is some, fits and is pending
block_within : (c : LedgerCell) (b : Bool) → nat_le c.block_size (pending_in c) ≡ b → 1 ≤ c.block_size → 1 ≤ pending_in c
    → let k : ℕ = if b then c.block_size else pending_in c in (1 ≤ k) × (k ≤ c.block_size) × (k ≤ pending_in c)
block_within c true e size least = (size, omega arith, leb-true c.block_size (pending_in c) e)
block_within c false e size least = (least, (let l = leb-false c.block_size (pending_in c) e in omega arith), omega arith)

pub next_within : (c : LedgerCell) → 1 ≤ c.block_size → 1 ≤ pending_in c → (1 ≤ next_block c) × (next_block c ≤ c.block_size) × (next_block c ≤ pending_in c)
next_within c = block_within c (nat_le c.block_size (pending_in c)) refl

-- Closing a block keeps cells and seats standing together.
pub closes_stand : (v : Server) (cells : List Cell) (seats : List SeatState) {history : History} → Stands v history cells seats → (j : ℕ) (s : SeatState) → get_elem? seats j ≡ some s
    → (n : ℕ) (c d : LedgerCell) (t : SeatState) → get_elem? cells ledger_at ≡ some (Ledger c) → Closes v n c d → t ≡ s
    → Stands v (history ++ closes n ∷ []) (slice_set cells ledger_at (Ledger d)) (slice_set seats j t)
closes_stand v cells seats {history} st j s there n c d t here visit same = from (subst (λ (e : LedgerCell). Closes v n e d) (the_ledger cells st.catalog st.ledger c st.are_cells here) visit)
  where
    from : Closes v n st.ledger d → Stands v (history ++ closes n ∷ []) (slice_set cells ledger_at (Ledger d)) (slice_set seats j t)
    from w = subst₂ (λ (e : LedgerCell) (us : List SeatState). Stands v (history ++ closes n ∷ []) (slice_set cells ledger_at (Ledger e)) us) (sym w.cell) (sym (set_same seats j s there) ∙ ap (λ (u : SeatState). slice_set seats j u) (sym same))
        (let k = subst (λ (m : ℕ). (1 ≤ m) × (m ≤ st.ledger.block_size) × (m ≤ pending_in st.ledger)) (sym w.all) (next_within st.ledger st.ledger_is_legal.some_size w.some) in close_stands v cells seats st n k.0 k.1 k.2)
