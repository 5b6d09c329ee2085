-- A statement that changed the rows of a table's cell: scripts and locks stand as before, with it.
use Rattle.law_protocol_steps.proofs.Ids.{in_transaction}
use Rattle.law_protocol_steps.proofs.ActedFor.{StandsBy, by_number}
use Rattle.law_protocol_changes.proofs.SaidThere.{rows_replied}
use Rattle.std.proofs.Common.{◌≡◌, ◌≢◌, ◌⊎◌, ℕ, suc, ◌+◌, ◌≤◌, Bool, true, false, List, [], ◌∷◌, ◌++◌, map, length, set, Option, Some, None, refl, sym, ap, ◌∙◌, subst, inl, inr, ⊎_elim, arith, append-nil}
use Rattle.std.proofs.lemmas.Bool.{cases_eq, ne_eqb, eq-eqb}
use Rattle.std.specs.Prelude.{◌==◌, ◌&&◌, ◌||◌, not, if◌then◌else◌}
use Rattle.std.specs.List.{AllByRecursion, filter, list_any}
use mathlib.Core.Option.{some}
use lib.ListN.{get_elem?}
use Rattle.sql_value.specs.declared.column.ColumnDef.{ColumnDef}
use Rattle.sql_types.specs.declared.journal.JournalItem.{JournalItem}
use Rattle.sql_types.specs.declared.journal.JournalItem.TheVariants.{Tx, Close}
use Rattle.sql_types.specs.declared.lock.Item.{Item}
use Rattle.sql_types.specs.declared.lock.Mode.TheVariants.{X}
use Rattle.sql_types.specs.declared.lock.Item.TheVariants as item
use Rattle.sql_types.specs.declared.lock.LockRequest.{LockRequest}
use Rattle.sql_types.specs.declared.reply.Reply.TheVariants as reply
use Rattle.sql_types.specs.declared.statement.Stmt.{Stmt}
use Rattle.sql_types.specs.declared.statement.Stmt.TheVariants as stmt
use Rattle.sql_types.specs.declared.statement.RowStmt.{RowStmt}
use Rattle.sql_types.specs.declared.table.TableDef.{TableDef}
use Rattle.sql_types.specs.declared.version.Version.{Version}
use Rattle.spec_model.specs.Rows.{EventId}
use Rattle.spec_model.specs.Keys.{Key, key_places, of_key, same_key, version_key}
use Rattle.spec_model.specs.Catalog.{Defs, NamedPart, Tables, defs_of, versions_of}
use Rattle.spec_model.specs.Changes.{Change}
use Rattle.spec_model.specs.Checks.{row_statement_check}
use Rattle.spec_model.specs.Journals.{Line, IsOther, serial, upto}
use Rattle.spec_model.specs.Locks.{whole, catalog_request, cell_requests, row_requests, row_cell_requests}
use Rattle.spec_model.specs.Agreement.{columns_at}
use Rattle.spec_model.specs.Reach.{is_exclusive, has_key, lets_change}
use Rattle.spec_model.specs.Replies.{reply_text}
use Rattle.spec_model.specs.Runs.{Rising, MadeBefore, EndsBefore}
use Rattle.spec_model.specs.Script.{ScriptEnd}
use Rattle.spec_model.specs.ScriptRequests.{text_requests}
use Rattle.spec_model.specs.Undo.{versions_undone}
use Rattle.law_frame.proofs.Alls.{all_filter}
use Rattle.law_frame.proofs.AtTable.{before_at}
use Rattle.law_frame.proofs.LegalSound.{legal_sound}
use Rattle.law_frame.proofs.OtherTransactions.{others_sound}
use Rattle.law_frame.proofs.SameKeys.{same_key_as, same_itself}
use Rattle.spec_history.specs.Lists.{Text, Each, In}
use Rattle.spec_history.specs.Journals.{ids_of}
use Rattle.spec_history.specs.Refusals.{EndsAt}
use Rattle.spec_history.specs.Transactions.{End, unfixed}
use Rattle.spec_history.proofs.Trace.{each_append, each_weaker}
use Rattle.spec_protocol.specs.Server.{Server}
use Rattle.sql_types.specs.declared.lock.Hold.{Hold}
use Rattle.spec_protocol.specs.Cells.{Creator, Index, TableCell, Cell, Rows, holds_at, versions_at, catalog_at, cell_of, AreCells}
use Rattle.spec_protocol.specs.Seats.{OpenTransaction, made, SessionStatus, inside, Session, SeatState, found}
use Rattle.spec_protocol.specs.OpenOnes.{HasOpen, text_at, script_so_far, texts_so_far, script_end}
use Rattle.spec_protocol.specs.OpenScripts.{counted}
use Rattle.spec_protocol.specs.Moves.{sits}
use Rattle.spec_protocol.specs.TableVisits.{reordered}
use Rattle.spec_protocol.specs.Doing.{stage_after, with_line}
use Rattle.spec_protocol.specs.TablesAreSerial.{IsCarried, def_at, ordinals_of, IsAdding}
use Rattle.law_protocol_changes.proofs.CommittedRows.{committed_undone}
use Rattle.spec_model.specs.ChangeSets.{change_set, defined}
use Rattle.spec_model.specs.Reach.{creates}
use Rattle.spec_protocol.specs.RequestsIn.{of_catalog, of_cell, requests_at, requests_in, Holds}
use Rattle.spec_protocol.specs.LocksCover.{KeepsLocks, Belongs, HasIntent, LookedFirst, IsDropping}
use Rattle.spec_protocol.specs.StandTogether.{History, Stands}
use Rattle.law_protocol_steps.proofs.AfterSet.{set_here, set_else, each_at, all_at}
use Rattle.law_protocol_steps.proofs.CellsAfter.{held_here, table_changed}
use Rattle.law_protocol_steps.proofs.SeatsAfter.{one_session, open_here, open_else, each_open, kept_open}
use Rattle.law_protocol_changes.proofs.ChangedRows.{touched_agree, all_rising, all_untouched, keys_follow, was_in, of_its_key, rising_filter, undone_of_key, rising_undone, undone_untouched, IsCounted, all_count, some_undone, counted_is}
use Rattle.law_protocol_steps.proofs.SeatIds.{one_seat, outside}
use Rattle.law_protocol_steps.proofs.Excluded.{HasX, HasNoX, has_x_or_not}
use Rattle.law_protocol_steps.proofs.RowsFor.{sound, script_left}
use Rattle.law_protocol_steps.proofs.Takes.{tables_now}
use Rattle.law_protocol_changes.proofs.ChangesAt as ch
use Rattle.law_protocol_steps.proofs.OfCells.{LookedAt, AreDefinitions, AreIndexes, Creates, EndLiesUnder, GoesBack, HasItsTrees, HasLock, HasLooked, HoldsInCatalog, IsGotAt, IsIndexed, IsOfItsScript, IsUnderLocks, IsUnderWay, LiesUnder, LocksAgree, LocksCover, OpenScripts, SeatHas, StandsAs, RequestsNone, committed, in_journal, looked_now, looked_so, table_there}
use Rattle.spec_protocol.specs.Contents.{HasAlone, contents, table_found}
use Rattle.law_protocol_steps.proofs.VisitActs.{done_act}
use Rattle.law_protocol_steps.proofs.GotMore.{got_at_more}
use Rattle.spec_history.specs.Transcripts.{kind_of}
use Rattle.spec_model.specs.Touched.{touched}
use Rattle.law_protocol_changes.proofs.Apart.{x_apart}
use Rattle.spec_protocol.specs.ActsOf.{done_acts}

-- ---- equal keys

reach_same : (a b : Key) (x : Item) → same_key a b ≡ true → has_key a x ≡ true → has_key b x ≡ true
reach_same a b item.Whole e h = refl
reach_same a b (item.Key k) e h = same_key_as k a b h ∙ e

lets_same : (a b : Key) (w : LockRequest) → same_key a b ≡ true → lets_change a w ≡ true → lets_change b w ≡ true
lets_same a b w e h = by (is_exclusive w.mode) (has_key a w.item) h (λ k. reach_same a b w.item e k)
  where
    by : (p q : Bool) → (p && q) ≡ true → (q ≡ true → has_key b w.item ≡ true) → (p && has_key b w.item) ≡ true
    by true q f g = g f
    by false q f g = cc

pub passes : {A : Type 0} (p : A → Bool) (x : A) (xs : List A) → In x (filter p xs) → p x ≡ true
passes p x [] i = absurd i
passes p x (y ∷ ys) i = by (p y) refl i (passes p x ys)
  where
    by : (b : Bool) → p y ≡ b → In x (if b then y ∷ filter p ys else filter p ys) → (In x (filter p ys) → p x ≡ true) → p x ≡ true
    by true f k rest = ⊎_elim (λ (q : y ≡ x). ap p (sym q) ∙ f) (λ (q : In x (filter p ys)). rest q) k
    by false f k rest = rest k

all_in : {A : Type 0} (P : A → Type 0) (xs : List A) → ((x : A) → In x xs → P x) → AllByRecursion P xs
all_in P [] h = tt
all_in P (y ∷ ys) h = (h y (inl refl), all_in P ys (λ x i. h x (inr i)))

pub at_in : {A : Type 0} (P : A → Type 0) (xs : List A) (x : A) → AllByRecursion P xs → In x xs → P x
at_in P [] x h i = absurd i
at_in P (y ∷ ys) x h i = ⊎_elim (λ (e : y ≡ x). subst P e h.0) (λ (k : In x ys). at_in P ys x h.1 k) i

twice : {A : Type 0} (p : A → Bool) (xs : List A) → filter p (filter p xs) ≡ filter p xs
twice p [] = refl
twice p (x ∷ xs) = by (p x) refl (twice p xs)
  where
    by : (b : Bool) → p x ≡ b → filter p (filter p xs) ≡ filter p xs → filter p (if b then x ∷ filter p xs else filter p xs) ≡ (if b then x ∷ filter p xs else filter p xs)
    by true e h = rw e (ap (λ l. x ∷ l) h)
    by false e h = h

pub absent_others : (items : List JournalItem) (id : ℕ) → list_any (λ n. n == id) (ids_of items) ≡ false → AllByRecursion (IsOther id) items
absent_others [] id h = tt
absent_others (Tx own session time explicit lines ∷ is) id h = by (own == id) refl h (absent_others is id)
  where
    by : (b : Bool) → (own == id) ≡ b → (b || list_any (λ n. n == id) (ids_of is)) ≡ false → (list_any (λ n. n == id) (ids_of is) ≡ false → AllByRecursion (IsOther id) is) → (own ≢ id) × AllByRecursion (IsOther id) is
    by true f g rest = cc
    by false f g rest = ((λ e. let z : (own == id) ≡ true = eq-eqb own id e in cc), rest g)
absent_others (Close k ∷ is) id h = (tt, absent_others is id h)

-- ---- rows without an event of a transaction

module _ (v : Server) (cells : List Cell) (seats : List SeatState) {history : History} (S : Stands v history cells seats) (id : ℕ) (l : 1 ≤ id) (key : Key) (tx : ℕ) (out : (n : ℕ) → in_journal S.ledger.items (tx, n) ≡ false) (free : HasNoX (holds_at cells (cell_of id)) tx key) where
  abbrev cols : List ColumnDef
  cols = columns_at (defs_of (tables_now S)) id

  not_under : (w : Version) (e : EventId) → same_key (version_key cols w) key ≡ true → (in_journal S.ledger.items e ≡ false → LiesUnder cells (tables_now S) id w e) → e.0 ≡ tx → ⊥
  not_under w e k u m =
      let lies = u (ap (λ (n : ℕ). in_journal S.ledger.items (n, e.1)) m ∙ out e.1) in
      let yes : lets_change key lies.hold.request ≡ true = lets_same (version_key cols w) key lies.hold.request k lies.reaches in
      let no_one : lets_change key lies.hold.request ≡ false = free lies.hold lies.has (lies.mine ∙ m) in cc

  end_not : (w : Version) (o : Option EventId) → same_key (version_key cols w) key ≡ true → EndLiesUnder v cells S.ledger id w o → EndsBefore tx 0 o
  end_not w None k u = tt
  end_not w (Some e) k u = λ m. absurd (not_under w e k u m)

  one_not : (w : Version) → In w (of_key cols key (versions_at cells id)) → MadeBefore tx 0 w
  one_not w i =
      let under = each_at (IsUnderLocks v cells S.ledger id) (versions_at cells id) w (S.locks_cover.under id l) (was_in (λ u. same_key (version_key cols u) key) w (versions_at cells id) i) in
      let k = passes (λ u. same_key (version_key cols u) key) w (versions_at cells id) i in
      record { start = λ m. absurd (not_under w w.start k under.start m); end = end_not w w.end k under.end }

  -- who has no X on a key made no event there
  pub untouched : AllByRecursion (MadeBefore tx 0) (of_key cols key (versions_at cells id))
  untouched = all_in (MadeBefore tx 0) (of_key cols key (versions_at cells id)) one_not

module _ (v : Server) (cells : List Cell) (seats : List SeatState) {history : History} (S : Stands v history cells seats) (j : ℕ) (s : SeatState) (x : Session) (o : OpenTransaction) (text : Text) (named : NamedPart) (fresh : Bool)
    (i : ℕ) (c : TableCell) (row : RowStmt) (changes : List Change) (count : ℕ) (K : ch.Changing v cells seats S j s x o text named fresh i c row changes count) where
  abbrev T : Tables
  T = tables_now S

  abbrev columns : List ColumnDef
  columns = columns_at (defs_of T) c.id

  abbrev V' : List Version
  V' = ch.rows_then v cells seats S j s x o text named fresh i c row changes count K

  abbrev W' : List Version
  W' = ch.W_then v cells seats S j s x o text named fresh i c row changes count K

  abbrev p : OpenTransaction
  p = ch.open_then v cells seats S j s x o text named fresh i c row changes count K

  abbrev y : Session
  y = ch.session_then v cells seats S j s x o text named fresh i c row changes count K

  abbrev C' : List Cell
  C' = ch.cells_then v cells seats S j s x o text named fresh i c row changes count K

  abbrev seats' : List SeatState
  seats' = ch.seats_then v cells seats S j s x o text named fresh i c row changes count K

  open_j : HasOpen seats j x o
  open_j = ch.has_open v cells seats S j s x o text named fresh i c row changes count K

  one_le : 1 ≤ c.id
  one_le = let u = ch.user v cells seats S j s x o text named fresh i c row changes count K in omega arith

  mine_out : (n : ℕ) → in_journal S.ledger.items (o.id, n) ≡ false
  mine_out n = outside v cells seats S j x o n open_j K.unfixed

  rows_were : versions_at cells c.id ≡ c.versions
  rows_were = ch.rows_were v cells seats S j s x o text named fresh i c row changes count K

  -- ---- the events of this transaction

  key_seen : (key : Key) → (of_key columns key V' ≡ of_key columns key W') ⊎ (AllByRecursion (MadeBefore o.id 0) (of_key columns key V') × AllByRecursion (MadeBefore o.id 0) (of_key columns key W'))
  key_seen key = by (has_x_or_not (holds_at cells (cell_of c.id)) o.id key)
    where
      by : HasX (holds_at cells (cell_of c.id)) o.id key ⊎ HasNoX (holds_at cells (cell_of c.id)) o.id key → (of_key columns key V' ≡ of_key columns key W') ⊎ (AllByRecursion (MadeBefore o.id 0) (of_key columns key V') × AllByRecursion (MadeBefore o.id 0) (of_key columns key W'))
      by (inl k) = inl (ch.owned v cells seats S j s x o text named fresh i c row changes count K key k.hold k.has k.mine k.reaches)
      by (inr free) = inr (
        subst (AllByRecursion (MadeBefore o.id 0)) (ap (of_key columns key) rows_were ∙ sym (ch.left v cells seats S j s x o text named fresh i c row changes count K key free)) (untouched v cells seats S c.id one_le key o.id mine_out free),
        subst (AllByRecursion (MadeBefore o.id 0))
            (sym (ch.left_in_script v cells seats S j s x o text named fresh i c row changes count K key free ∙ script_left v cells seats S j x o open_j K.unfixed (ch.whole_script v cells seats S j s x o text named fresh i c row changes count K) c.id one_le key free))
            (all_filter (MadeBefore o.id 0) (λ (w : Version). same_key (version_key columns w) key) (versions_of T c.id) (before_at o.id 0 c.id T (sound v cells seats S j x o open_j K.unfixed).each)),
      )

  V_rising' : Rising V'
  V_rising' = all_rising o.id o.seq changes c.versions (ch.V_before v cells seats S j s x o text named fresh i c row changes count K) (ch.V_rising v cells seats S j s x o text named fresh i c row changes count K)

  W_rising' : Rising W'
  W_rising' = all_rising o.id o.seq changes _ (ch.W_before v cells seats S j s x o text named fresh i c row changes count K) (ch.W_rising v cells seats S j s x o text named fresh i c row changes count K)

  abbrev seen : List Cell → Session → OpenTransaction → ℕ → List Version
  seen cs z r id = touched r.id (counted r.id id z.place (versions_at cs id))

  seen_here : (id : ℕ) → 1 ≤ id → seen C' y p id ≡ touched o.id (versions_of (script_end v T y p).state.tables id)
  seen_here = ch.by_table v cells seats S j s x o text named fresh i c row changes count K (λ id. seen C' y p id ≡ touched o.id (versions_of (script_end v T y p).state.tables id))
      (ap (touched o.id) (ch.counts_then v cells seats S j s x o text named fresh i c row changes count K o.id c.id _ ∙ ch.rows_are v cells seats S j s x o text named fresh i c row changes count K)
      ∙ touched_agree o.id columns V' W' V_rising' W_rising' key_seen ∙ ap (touched o.id) (sym (ch.script_rows v cells seats S j s x o text named fresh i c row changes count K)))
      (λ id l ne. ap (touched o.id) (ch.counts_then v cells seats S j s x o text named fresh i c row changes count K o.id id _ ∙ ch.rows_elsewhere v cells seats S j s x o text named fresh i c row changes count K id ne ∙ sym (ch.no_count v cells seats S j s x o text named fresh i c row changes count K id _))
      ∙ (S.open_scripts j x o open_j K.unfixed).versions id l
      ∙ ap (touched o.id) (sym (ch.script_elsewhere v cells seats S j s x o text named fresh i c row changes count K id (ch.not_this v cells seats S j s x o text named fresh i c row changes count K id ne))))

  map_more : {A : Type 0} (f : A → Text) (ls : List A) (l : A) → map f (ls ++ l ∷ []) ≡ map f ls ++ f l ∷ []
  map_more f [] l = refl
  map_more f (k ∷ ls) l = ap (λ (ts : List Text). f k ∷ ts) (map_more f ls l)

  script_here : IsOfItsScript v C' T y p
  script_here = let was = S.open_scripts j x o open_j K.unfixed in record {
    replies = ap (map (λ (l : Line). l.1)) (ch.script_then v cells seats S j s x o text named fresh i c row changes count K) ∙ map_more (λ (l : Line). l.1) (script_so_far x o) (text, reply_text (reply.Changed count))
        ∙ ap (λ (ts : List Text). ts ++ reply_text (reply.Changed count) ∷ []) was.replies ∙ sym (map_more reply_text (script_end v T x o).replies (reply.Changed count))
        ∙ ap (λ (e : ScriptEnd). map reply_text e.replies) (sym (ch.ends_so v cells seats S j s x o text named fresh i c row changes count K));
    versions = seen_here;
    alone = λ e. ap (λ (b : Bool). with_line b (text, reply_text (reply.Changed count)) o.script) e ∙ (S.open_scripts j x o open_j K.unfixed).alone e;
    counter = ap (λ (n : ℕ). n + length changes) was.counter ∙ ap (λ (e : ScriptEnd). e.state.seq) (sym (ch.ends_so v cells seats S j s x o text named fresh i c row changes count K));
  }

  -- ---- the events of another one

  module _ (n : ℕ) (z : Session) (r : OpenTransaction) (ne : n ≢ j) (has : HasOpen seats n z r) (unfixed_too : r.end ≡ unfixed) where
    differs : r.id ≢ o.id
    differs e = ne (one_seat v cells seats S n j z x r o has open_j e)

    theirs_out : (m : ℕ) → in_journal S.ledger.items (r.id, m) ≡ false
    theirs_out m = outside v cells seats S n z r m has unfixed_too

    other_free : (key : Key) → HasX (holds_at cells (cell_of c.id)) o.id key → HasNoX (holds_at cells (cell_of c.id)) r.id key
    other_free key k h has_h m = by (lets_change key h.request) refl
      where
        by : (b : Bool) → lets_change key h.request ≡ b → b ≡ false
        by true e = absurd (x_apart v cells seats S (cell_of c.id) key k.hold h k.has has_h (λ q. differs (sym m ∙ q ∙ k.mine)) k.reaches e)
        by false e = refl

    before_here : (key : Key) → HasX (holds_at cells (cell_of c.id)) o.id key → AllByRecursion (MadeBefore r.id 0) (of_key columns key c.versions)
    before_here key k = subst (λ (vs : List Version). AllByRecursion (MadeBefore r.id 0) (of_key columns key vs)) rows_were (untouched v cells seats S c.id one_le key r.id theirs_out (other_free key k))

    after_here : (key : Key) → HasX (holds_at cells (cell_of c.id)) o.id key → AllByRecursion (MadeBefore r.id 0) (of_key columns key V')
    after_here key k =
        let versions_were = ch.V_before v cells seats S j s x o text named fresh i c row changes count K in
        let rising_before = ch.V_rising v cells seats S j s x o text named fresh i c row changes count K in
        subst (AllByRecursion (MadeBefore r.id 0))
        (sym (keys_follow o.id columns key o.seq changes c.versions (of_key columns key c.versions) versions_were (all_filter (MadeBefore o.id o.seq) (λ (w : Version). same_key (version_key columns w) key) c.versions versions_were) rising_before (rising_filter (λ (w : Version). same_key (version_key columns w) key) c.versions rising_before) (sym (twice (λ (w : Version). same_key (version_key columns w) key) c.versions))))
        (all_filter (MadeBefore r.id 0) (λ (w : Version). same_key (version_key columns w) key) _ (all_untouched o.id r.id 0 (λ e. differs (sym e)) o.seq changes (of_key columns key c.versions) (before_here key k)))

    their_keys : (f : List Version → List Version) → ((vs : List Version) → AllByRecursion (MadeBefore r.id 0) vs → AllByRecursion (MadeBefore r.id 0) (f vs)) → (key : Key)
        → (f (of_key columns key V') ≡ f (of_key columns key c.versions)) ⊎ (AllByRecursion (MadeBefore r.id 0) (f (of_key columns key V')) × AllByRecursion (MadeBefore r.id 0) (f (of_key columns key c.versions)))
    their_keys f keeps key = by (has_x_or_not (holds_at cells (cell_of c.id)) o.id key)
      where
        by : HasX (holds_at cells (cell_of c.id)) o.id key ⊎ HasNoX (holds_at cells (cell_of c.id)) o.id key
            → (f (of_key columns key V') ≡ f (of_key columns key c.versions)) ⊎ (AllByRecursion (MadeBefore r.id 0) (f (of_key columns key V')) × AllByRecursion (MadeBefore r.id 0) (f (of_key columns key c.versions)))
        by (inl k) = inr (keeps _ (after_here key k), keeps _ (before_here key k))
        by (inr free) = inl (ap f (ch.left v cells seats S j s x o text named fresh i c row changes count K key free))

    their_seen : touched r.id (counted r.id c.id z.place V') ≡ touched r.id (counted r.id c.id z.place c.versions)
    their_seen = by (counted_is r.id c.id z.place)
      where
        rising_before : Rising c.versions
        rising_before = ch.V_rising v cells seats S j s x o text named fresh i c row changes count K

        by : IsCounted r.id c.id z.place → touched r.id (counted r.id c.id z.place V') ≡ touched r.id (counted r.id c.id z.place c.versions)
        by (all_count same) = ap (touched r.id) (same V') ∙ touched_agree r.id columns V' c.versions V_rising' rising_before (λ key. their_keys (λ vs. vs) (λ vs h. h) key) ∙ ap (touched r.id) (sym (same c.versions))
        by (some_undone seq goes same) = ap (touched r.id) (same V')
            ∙ touched_agree r.id columns (versions_undone r.id seq V') (versions_undone r.id seq c.versions) (rising_undone r.id seq V' V_rising') (rising_undone r.id seq c.versions rising_before)
            (λ key. turned key (their_keys (versions_undone r.id seq) (undone_untouched r.id r.id seq 0) key))
            ∙ ap (touched r.id) (sym (same c.versions))
          where
            turned : (key : Key) → (versions_undone r.id seq (of_key columns key V') ≡ versions_undone r.id seq (of_key columns key c.versions)) ⊎ (AllByRecursion (MadeBefore r.id 0) (versions_undone r.id seq (of_key columns key V')) × AllByRecursion (MadeBefore r.id 0) (versions_undone r.id seq (of_key columns key c.versions)))
                → (of_key columns key (versions_undone r.id seq V') ≡ of_key columns key (versions_undone r.id seq c.versions)) ⊎ (AllByRecursion (MadeBefore r.id 0) (of_key columns key (versions_undone r.id seq V')) × AllByRecursion (MadeBefore r.id 0) (of_key columns key (versions_undone r.id seq c.versions)))
            turned key (inl e) = inl (sym (undone_of_key columns key r.id seq V') ∙ e ∙ undone_of_key columns key r.id seq c.versions)
            turned key (inr h) = inr (subst (AllByRecursion (MadeBefore r.id 0)) (undone_of_key columns key r.id seq V') h.0, subst (AllByRecursion (MadeBefore r.id 0)) (undone_of_key columns key r.id seq c.versions) h.1)

    pub seen_stays : (id : ℕ) → 1 ≤ id → seen C' z r id ≡ seen cells z r id
    seen_stays = ch.by_table v cells seats S j s x o text named fresh i c row changes count K (λ id. seen C' z r id ≡ seen cells z r id)
        (ap (λ (vs : List Version). touched r.id (counted r.id c.id z.place vs)) (ch.rows_are v cells seats S j s x o text named fresh i c row changes count K) ∙ their_seen ∙ ap (λ (vs : List Version). touched r.id (counted r.id c.id z.place vs)) (sym rows_were))
        (λ id l d. ap (λ (vs : List Version). touched r.id (counted r.id id z.place vs)) (ch.rows_elsewhere v cells seats S j s x o text named fresh i c row changes count K id d))

  pub scripts : OpenScripts v C' S.ledger seats'
  scripts = each_open seats j (sits s y) x o y p (ch.goes v cells seats S j s x o text named fresh i c row changes count K) (λ n z r. r.end ≡ unfixed → IsOfItsScript v C' T z r)
      (λ e. script_here)
      (λ n z r ne h e. let was = S.open_scripts n z r h e in record { replies = was.replies; versions = λ id l. seen_stays n z r ne h e id l ∙ was.versions id l; counter = was.counter; alone = was.alone })

  -- ---- locks

  abbrev D : Defs
  D = defs_of T

  held_same : (n : ℕ) → holds_at C' n ≡ holds_at cells n
  held_same = ch.same_holds v cells seats S j s x o text named fresh i c row changes count K

  lock_was : (n id : ℕ) → HasLock C' n id → HasLock cells n id
  lock_was n id l = record { hold = l.hold; has = subst (In l.hold) (held_same n) l.has; mine = l.mine }

  lock_is : (n id : ℕ) → HasLock cells n id → HasLock C' n id
  lock_is n id l = record { hold = l.hold; has = subst (In l.hold) (sym (held_same n)) l.has; mine = l.mine }

  open_now : HasOpen seats' j y p
  open_now = open_here seats j (sits s y) x o y p (ch.goes v cells seats S j s x o text named fresh i c row changes count K)

  text_here : text_at x.place ≡ Some text
  text_here = ap text_at K.place

  -- what was a statement of it still is one
  belongs_then : (n : ℕ) (h : Hold) → Belongs seats n h → Belongs seats' n h
  belongs_then n h b = ⊎_elim
      (λ (e : b.j ≡ j).
      let same = one_session seats j b.x x b.o o (subst (λ (m : ℕ). HasOpen seats m b.x b.o) e b.has) open_j in
      record {
        j = j;
        x = y;
        o = p;
        has = open_now;
        mine = ap (λ (q : OpenTransaction). q.id) (sym same.1) ∙ b.mine;
        only = λ m z r g q. only m z r g q ∙ e;
        visited = subst (λ (q : OpenTransaction). In n q.visited) same.1 b.visited;
        unreleased = λ q. b.unreleased (subst (λ (u : OpenTransaction). In n u.released) (sym same.1) q);
      })
      (λ (ne : b.j ≢ j). record { j = b.j; x = b.x; o = b.o; has = open_else seats j (sits s y) x o y p (ch.goes v cells seats S j s x o text named fresh i c row changes count K) b.j b.x b.o ne b.has; mine = b.mine; only = only; visited = b.visited; unreleased = b.unreleased })
      (cases_eq b.j j)
    where
      only : (m : ℕ) (z : Session) (r : OpenTransaction) → HasOpen seats' m z r → r.id ≡ h.tx → m ≡ b.j
      only = kept_open seats j (sits s y) x o y p (ch.goes v cells seats S j s x o text named fresh i c row changes count K) (λ m z r. r.id ≡ h.tx → m ≡ b.j) (λ was e. was e) b.only

  -- ---- the wants of the statement

  requests_are : requests_in v D o.explicit i text ≡ row_requests named.0 row
  unfolding cell_requests
  requests_are = ap (λ (q : Option Stmt). requests_at i (text_requests D o.explicit q)) K.is
      ∙ ap (λ (b : Bool). (if b then of_catalog (catalog_request o.explicit (stmt.Change row)) else []) ++ of_cell i (row_cell_requests row (row_statement_check D row))) (ne_eqb i catalog_at (λ e. let q = (ch.at v cells seats S j s x o text named fresh i c row changes count K).is in omega arith))
      ∙ ap (λ q. of_cell i (row_cell_requests row q)) K.checked
      ∙ ap (λ (b : Bool). if b then row_requests named.0 row else []) (eq-eqb (cell_of named.0.id) i (ap cell_of K.here ∙ ch.here v cells seats S j s x o text named fresh i c row changes count K))

  nowhere_else : (n : ℕ) → n ≢ catalog_at → n ≢ i → requests_in v D o.explicit n text ≡ []
  unfolding cell_requests
  nowhere_else n nc ni = ap (λ (q : Option Stmt). requests_at n (text_requests D o.explicit q)) K.is
      ∙ ap (λ (b : Bool). (if b then of_catalog (catalog_request o.explicit (stmt.Change row)) else []) ++ of_cell n (row_cell_requests row (row_statement_check D row))) (ne_eqb n catalog_at nc)
      ∙ ap (λ q. of_cell n (row_cell_requests row q)) K.checked
      ∙ ap (λ (b : Bool). if b then row_requests named.0 row else []) (ne_eqb (cell_of named.0.id) n (λ e. ni (sym e ∙ ap cell_of K.here ∙ ch.here v cells seats S j s x o text named fresh i c row changes count K)))

  in_catalog_alone : requests_in v D o.explicit catalog_at text ≡ of_catalog (text_requests D o.explicit (v.reads text)).catalog
  unfolding cell_requests
  in_catalog_alone = ap (λ (q : Option Stmt). requests_at catalog_at (text_requests D o.explicit q)) K.is
      ∙ ap (λ q. of_catalog (catalog_request o.explicit (stmt.Change row)) ++ of_cell catalog_at (row_cell_requests row q)) K.checked
      ∙ ap (λ (b : Bool). of_catalog (catalog_request o.explicit (stmt.Change row)) ++ (if b then row_requests named.0 row else [])) (ne_eqb (cell_of named.0.id) catalog_at (λ e. let q = (ch.at v cells seats S j s x o text named fresh i c row changes count K).is in let z : catalog_at ≡ i = sym e ∙ ap cell_of K.here ∙ ch.here v cells seats S j s x o text named fresh i c row changes count K in omega (arith, q, z)))
      ∙ append-nil _ ∙ sym (ap (λ (q : Option Stmt). of_catalog (text_requests D o.explicit q).catalog) K.is)

  line_held : (n : ℕ) → Each (Holds (holds_at cells n) o.id) (requests_in v D o.explicit n text)
  line_held n = ⊎_elim
      (λ (e : n ≡ catalog_at). subst (λ (m : ℕ). Each (Holds (holds_at cells m) o.id) (requests_in v D o.explicit m text)) (sym e) (subst (Each (Holds (holds_at cells catalog_at) o.id)) (sym in_catalog_alone) ((looked_now v cells T o x.place (S.locks_cover.looked j x o open_j K.unfixed) (subst HasLooked (sym K.place) tt)).requests text text_here)))
      (λ (nc : n ≢ catalog_at). ⊎_elim
      (λ (e : n ≡ i). subst (λ (m : ℕ). Each (Holds (holds_at cells m) o.id) (requests_in v D o.explicit m text)) (sym e)
      (subst (Each (Holds (holds_at cells i) o.id)) (sym requests_are) (subst (λ (hs : List Hold). Each (Holds hs o.id) (row_requests named.0 row)) (sym (held_here cells i (Rows c) (Rows c) K.out)) K.held)))
      (λ (ni : n ≢ i). subst (Each (Holds (holds_at cells n) o.id)) (sym (nowhere_else n nc ni)) tt)
      (cases_eq n i))
      (cases_eq n catalog_at)

  cover_here : (n : ℕ) → KeepsLocks p n → Each (λ l. Each (Holds (holds_at C' n) p.id) (requests_in v D p.explicit n l.0)) (script_so_far y p)
  cover_here n u = subst (Each (λ l. Each (Holds (holds_at C' n) o.id) (requests_in v D o.explicit n l.0))) (sym (ch.script_then v cells seats S j s x o text named fresh i c row changes count K))
      (subst (λ (hs : List Hold). Each (λ l. Each (Holds hs o.id) (requests_in v D o.explicit n l.0)) (script_so_far x o ++ (text, reply_text (reply.Changed count)) ∷ [])) (sym (held_same n))
      (each_append (λ (l : Line). Each (Holds (holds_at cells n) o.id) (requests_in v D o.explicit n l.0)) (script_so_far x o) ((text, reply_text (reply.Changed count)) ∷ []) (S.locks_cover.cover j x o open_j n u) (line_held n, tt)))

  -- ---- what isn't committed

  under_was : (id : ℕ) (w : Version) (e : EventId) → LiesUnder cells T id w e → LiesUnder C' T id w e
  under_was id w e u = record { hold = u.hold; has = subst (In u.hold) (sym (held_same (cell_of id))) u.has; mine = u.mine; reaches = u.reaches }

  end_was : (id : ℕ) (w : Version) (e : Option EventId) → EndLiesUnder v cells S.ledger id w e → EndLiesUnder v C' S.ledger id w e
  end_was id w None u = tt
  end_was id w (Some e) u = λ q. under_was id w e (u q)

  versions_was : (id : ℕ) (w : Version) → IsUnderLocks v cells S.ledger id w → IsUnderLocks v C' S.ledger id w
  versions_was id w u = record { start = λ q. under_was id w w.start (u.start q); end = end_was id w w.end u.end }

  -- the script's tables have events of the journal's transactions and of this one alone
  not_theirs : (tx : ℕ) → tx ≢ o.id → in_journal S.ledger.items (tx, 0) ≡ false → AllByRecursion (MadeBefore tx 0) W'
  not_theirs tx ne f = subst (AllByRecursion (MadeBefore tx 0)) (ch.script_rows v cells seats S j s x o text named fresh i c row changes count K)
      (before_at tx 0 c.id (script_end v T y p).state.tables
      (others_sound o.id tx 0 (λ e. ne (sym e)) v.reads o.explicit T (texts_so_far y p) (sound v cells seats S j x o open_j K.unfixed) (legal_sound v.reads S.ledger.items tx S.ledger_is_legal.legal (absent_others S.ledger.items tx f))).each)

  module _ (w : Version) (k : HasX (holds_at cells (cell_of c.id)) o.id (version_key columns w)) (there : In w W') where
    mine_under : (e : EventId) → ((tx : ℕ) → tx ≢ o.id → MadeBefore tx 0 w → tx ≡ e.0 → ⊥) → in_journal S.ledger.items e ≡ false → LiesUnder C' T c.id w e
    mine_under e no_one f = ⊎_elim
        (λ (m : e.0 ≡ o.id). record { hold = k.hold; has = subst (In k.hold) (sym (held_same (cell_of c.id))) k.has; mine = k.mine ∙ sym m; reaches = k.reaches })
        (λ (ne : e.0 ≢ o.id). absurd (no_one e.0 ne (at_in (MadeBefore e.0 0) W' w (not_theirs e.0 ne f) there) refl))
        (cases_eq e.0 o.id)

    end_by : (e : Option EventId) → ((tx : ℕ) → MadeBefore tx 0 w → EndsBefore tx 0 e) → EndLiesUnder v C' S.ledger c.id w e
    end_by None h = tt
    end_by (Some e) h = mine_under e (λ tx ne m q. let z = h tx m (sym q) in omega arith)

    its_under : IsUnderLocks v C' S.ledger c.id w
    its_under = record { start = mine_under w.start (λ tx ne m q. let z = m.start (sym q) in omega arith); end = end_by w.end (λ tx m. m.end) }

  one_under : (w : Version) → In w V' → IsUnderLocks v C' S.ledger c.id w
  one_under w there = by (has_x_or_not (holds_at cells (cell_of c.id)) o.id (version_key columns w))
    where
      by : HasX (holds_at cells (cell_of c.id)) o.id (version_key columns w) ⊎ HasNoX (holds_at cells (cell_of c.id)) o.id (version_key columns w) → IsUnderLocks v C' S.ledger c.id w
      by (inl k) = its_under w k (was_in (λ u. same_key (version_key columns u) (version_key columns w)) w W'
          (subst (In w) (ch.owned v cells seats S j s x o text named fresh i c row changes count K (version_key columns w) k.hold k.has k.mine k.reaches) (of_its_key columns w V' there)))
      by (inr free) = versions_was c.id w (each_at (IsUnderLocks v cells S.ledger c.id) (versions_at cells c.id) w (S.locks_cover.under c.id one_le)
          (subst (In w) (sym rows_were) (was_in (λ u. same_key (version_key columns u) (version_key columns w)) w c.versions
          (subst (In w) (ch.left v cells seats S j s x o text named fresh i c row changes count K (version_key columns w) free) (of_its_key columns w V' there)))))

  under_then : (id : ℕ) → 1 ≤ id → Each (IsUnderLocks v C' S.ledger id) (versions_at C' id)
  under_then = ch.by_table v cells seats S j s x o text named fresh i c row changes count K (λ id. Each (IsUnderLocks v C' S.ledger id) (versions_at C' id))
      (subst (Each (IsUnderLocks v C' S.ledger c.id)) (sym (ch.rows_are v cells seats S j s x o text named fresh i c row changes count K)) (all_at (IsUnderLocks v C' S.ledger c.id) V' one_under))
      (λ id l ne. subst (Each (IsUnderLocks v C' S.ledger id)) (sym (ch.rows_elsewhere v cells seats S j s x o text named fresh i c row changes count K id ne))
      (each_weaker (IsUnderLocks v cells S.ledger id) (IsUnderLocks v C' S.ledger id) (versions_was id) (versions_at cells id) (S.locks_cover.under id l)))

  -- ---- all of it

  looked_not : (b : Bool) → HasLooked (inside text (stage_after b (reply.Changed count))) → ⊥
  looked_not true h = h
  looked_not false h = h

  first_not : (b : Bool) → LookedFirst (inside text (stage_after b (reply.Changed count))) → ⊥
  first_not true h = h
  first_not false h = h

  not_dropping : (b : Bool) → IsDropping (inside text (stage_after b (reply.Changed count))) p → ⊥
  not_dropping true h = h
  not_dropping false h = h

  got_nothing : (q b : Bool) → IsGotAt v C' T o.id q (inside text (stage_after b (reply.Changed count)))
  got_nothing q true = tt
  got_nothing q false = rows_replied T (v.reads text) (ap kind_of K.is)

  looked_still : (place : SessionStatus) (r : OpenTransaction) → HoldsInCatalog v cells T place r → HoldsInCatalog v C' T place r
  looked_still place r h = record { lock = lock_is catalog_at r.id h.lock; requests = λ u e. subst (λ (hs : List Hold). Each (Holds hs r.id) (of_catalog (text_requests D r.explicit (v.reads u)).catalog)) (sym (held_same catalog_at)) (h.requests u e) }

  pub covered : LocksCover v C' S.ledger seats'
  covered = let g = ch.goes v cells seats S j s x o text named fresh i c row changes count K in record {
    belong = λ n h has. belongs_then n h (S.locks_cover.belong n h (subst (In h) (held_same n) has));
    unreleased = kept_open seats j (sits s y) x o y p g (λ n z r. r.end ≡ unfixed → r.released ≡ []) (λ was. was) S.locks_cover.unreleased;
    intents = λ n h has m. subst (λ (hs : List Hold). HasIntent hs h) (sym (held_same n)) (S.locks_cover.intents n h (subst (In h) (held_same n) has) m);
    looked = each_open seats j (sits s y) x o y p g (λ n z r. r.end ≡ unfixed → LookedAt v C' T z.place r) (λ e. looked_so v C' T p y.place (λ h. absurd (looked_not o.explicit h))) (λ n z r ne h e. looked_so v C' T r z.place (λ l. looked_still z.place r (looked_now v cells T r z.place (S.locks_cover.looked n z r h e) l)));
    on_whole = λ h has. S.locks_cover.on_whole h (subst (In h) (held_same catalog_at) has);
    looked_first = each_open seats j (sits s y) x o y p g (λ n z r. r.end ≡ unfixed → LookedFirst z.place → RequestsNone v C' T r) (λ e h. absurd (first_not o.explicit h))
        (λ n z r ne h e f. let was = S.locks_cover.looked_first n z r h e f in record { before = was.before; shares = λ h has m. was.shares h (subst (In h) (held_same catalog_at) has) m; elsewhere = λ m l. was.elsewhere m (lock_was (suc m) r.id l) });
    cover = each_open seats j (sits s y) x o y p g (λ n z r. (m : ℕ) → KeepsLocks r m → Each (λ l. Each (Holds (holds_at C' m) r.id) (requests_in v D r.explicit m l.0)) (script_so_far z r)) cover_here
        (λ n z r ne h m u. subst (λ (hs : List Hold). Each (λ l. Each (Holds hs r.id) (requests_in v D r.explicit m l.0)) (script_so_far z r)) (sym (held_same m)) (S.locks_cover.cover n z r h m u));
    catalog = λ n id l. lock_is catalog_at id (S.locks_cover.catalog n id (lock_was (suc n) id l));
    definitions = λ n z r m h e l. each_open seats j (sits s y) x o y p g (λ n z r. (m : ℕ) → EndsAt r.end m → HasLock C' catalog_at r.id → D ≡ defs_of (serial v.reads (upto S.ledger.items m)))
        (λ m e l. absurd (subst (λ (u : End). EndsAt u m) K.unfixed e))
        (λ n z r ne h m e l. S.locks_cover.definitions n z r m h e (lock_was catalog_at r.id l)) n z r h m e l;
    got = each_open seats j (sits s y) x o y p g (λ n z r. HasLock C' catalog_at r.id → IsGotAt v C' T r.id (not (in_journal S.ledger.items (r.id, 0))) z.place) (λ l. got_nothing (not (in_journal S.ledger.items (o.id, 0))) o.explicit)
        (λ n z r ne h l. got_at_more v T (HasAlone (contents cells) r.id) (HasAlone (contents C') r.id) (not (in_journal S.ledger.items (r.id, 0))) (subst (In _) (sym (held_same catalog_at))) z.place (S.locks_cover.got n z r h (lock_was catalog_at r.id l)));
    dropping = each_open seats j (sits s y) x o y p g (λ n z r. IsDropping z.place r → In (record { tx = r.id; request = whole X }) (holds_at C' catalog_at)) (λ d. absurd (not_dropping o.explicit d))
        (λ n z r ne h d. subst (In _) (sym (held_same catalog_at)) (S.locks_cover.dropping n z r h d));
    under = under_then;
  }

  pub agree : LocksAgree C' seats'
  agree m n k a b ne f g = S.locks_agree m n k a b ne (had m n a f) (had m k b g)
    where
      had : (m n : ℕ) (h : Hold) → SeatHas C' seats' m n h → SeatHas cells seats m n h
      had m n h q = each_open seats j (sits s y) x o y p (ch.goes v cells seats S j s x o text named fresh i c row changes count K) (λ n z r. r.id ≡ h.tx → SeatHas cells seats m n h)
          (λ e. record { x = x; o = o; open_one = open_j; lock = subst (In h) (held_same m) q.lock; mine = e })
          (λ n z r d u e. record { x = z; o = r; open_one = u; lock = subst (In h) (held_same m) q.lock; mine = e })
          n q.x q.o q.open_one q.mine

  -- ---- tables

  commits_same : committed S.ledger.items V' ≡ committed S.ledger.items c.versions
  commits_same = committed_undone S.ledger.items o.id (mine_out 0) V'
      ∙ ap (committed S.ledger.items) (ch.undo v cells seats S j s x o text named fresh i c row changes count K)
      ∙ sym (committed_undone S.ledger.items o.id (mine_out 0) c.versions)

  not_creating : (z : Session) (st : Stmt) → (k : Creates v cells seats S.ledger z st) → k.j ≢ j
  not_creating z st k e =
      let alike = one_session seats j z x k.o o (subst (λ (n : ℕ). HasOpen seats n z k.o) e k.has) open_j in
      let texts : Some k.text ≡ Some text = sym k.stands ∙ ap (λ (u : Session). text_at u.place) alike.0 ∙ text_here in
      let same : k.text ≡ text = cc in
      let stmts : Some st ≡ Some (stmt.Change row) = sym k.is ∙ ap v.reads same ∙ K.is in
      let one : st ≡ stmt.Change row = cc in
      let z : creates (stmt.Change row) ≡ true = ap creates (sym one) ∙ k.creates in cc

  creates_then : (z : Session) (st : Stmt) → Creates v cells seats S.ledger z st → Creates v C' seats' S.ledger z st
  creates_then z st k = record {
    j = k.j;
    o = k.o;
    has = open_else seats j (sits s y) x o y p (ch.goes v cells seats S j s x o text named fresh i c row changes count K) k.j z k.o (not_creating z st k) k.has;
    own = k.own;
    outside = k.outside;
    text = k.text;
    stands = k.stands;
    is = k.is;
    creates = k.creates;
    acted = k.acted;
    exclusive = subst (In _) (sym (held_same catalog_at)) k.exclusive;
  }

  definitions_then : AreDefinitions v C' seats' S.ledger S.catalog.defs S.catalog.creator
  unfolding creates_then
  definitions_then = ⊎_elim (λ (e : S.catalog.defs ≡ defs_of T). inl e)
      (λ (u : IsUnderWay v cells seats S.ledger S.catalog.defs S.catalog.creator). inr (record { x = u.x; stmt = u.stmt; by = creates_then u.x u.stmt u.by; has_creator = u.has_creator; is = u.is })) S.tables_are_serial.definitions

  creator_then : (k : Creator) → S.catalog.creator ≡ Some k → GoesBack v C' S.ledger k
  creator_then k e = let was = S.tables_are_serial.goes_back k e in record { exclusive = subst (In _) (sym (held_same catalog_at)) was.exclusive; before = was.before }

  ordinals_kept : (key : List ℕ) (vs : List Version) (xs : List Index) → map (λ q. q.ordinals) (map (reordered key vs) xs) ≡ map (λ q. q.ordinals) xs
  ordinals_kept key vs [] = refl
  ordinals_kept key vs (x ∷ xs) = ap (λ (l : List (List ℕ)). x.ordinals ∷ l) (ordinals_kept key vs xs)

  indexed_else : (place : SessionStatus) → IsIndexed cells place → IsIndexed C' place
  indexed_else (inside at (made def true)) h = λ n cell f m. let e = table_there (get_elem? C' n) cell f in ⊎_elim
      (λ (q : n ≡ i). let found_it : some (Rows (ch.cell_then v cells seats S j s x o text named fresh i c row changes count K)) ≡ some (Rows cell) = sym (set_here cells i (Rows c) _ K.out) ∙ ap (get_elem? C') (sym q) ∙ e in
      let same : ch.cell_then v cells seats S j s x o text named fresh i c row changes count K ≡ cell = cc in
      subst (λ (d : TableCell). d.id ≡ def.id → map (λ q. q.ordinals) d.indexes ≡ ordinals_of def.indexes) same (λ k. ordinals_kept (key_places named.0.columns) V' c.indexes ∙ h i c (ap table_found K.out) k) m)
      (λ (ne : n ≢ i). h n cell (ap table_found (sym (set_else cells i n _ ne) ∙ e)) m)
      (cases_eq n i)
  indexed_else (inside at (made def false)) h = tt
  indexed_else place h = tt

  indexed_here : (b : Bool) → IsIndexed C' (inside text (stage_after b (reply.Changed count)))
  indexed_here true = tt
  indexed_here false = tt

  pub indexes_then : (def : TableDef) (indexes : List (List ℕ)) → AreIndexes v cells seats S.ledger def indexes → AreIndexes v C' seats' S.ledger def indexes
  unfolding creates_then
  indexes_then def indexes d = ⊎_elim (λ (e : indexes ≡ ordinals_of def.indexes). inl e)
      (λ (k : (z : Session) × (st : Stmt) × (after : TableDef) × (by : Creates v cells seats S.ledger z st) × (def_at (defs_of (defined (change_set T st).definition T)) def.id ≡ Some after) × (indexes ≡ ordinals_of after.indexes) × IsAdding z.place by.o after (cell_of def.id)). inr (k.0, k.1, k.2, creates_then k.0 k.1 k.3, k.4, k.5, k.6)) d

  stands_else : (cell : TableCell) (def : Option TableDef) → StandsAs v cells seats S.ledger cell def → StandsAs v C' seats' S.ledger cell def
  stands_else cell None h = h
  stands_else cell (Some def) h = record { key = h.key; fit = h.fit; in_key_order = h.in_key_order; keys_differ = h.keys_differ; projections = h.projections; indexes = indexes_then def (map (λ q. q.ordinals) cell.indexes) h.indexes }

  -- what is left to be shown: that the table's cell stands as its definition says, and what is known of the trees
  module _ (stands : StandsAs v C' seats' S.ledger (ch.cell_then v cells seats S j s x o text named fresh i c row changes count K) (def_at D c.id)) (trees : (n : ℕ) (z : Session) (r : OpenTransaction) → HasOpen seats' n z r → r.end ≡ unfixed → HasItsTrees v C' S.ledger z r) where
    at_cells : (n : ℕ) (cell : TableCell) → get_elem? C' n ≡ some (Rows cell) → StandsAs v C' seats' S.ledger cell (def_at D cell.id)
    at_cells n cell e = ⊎_elim
        (λ (q : n ≡ i). let found_it : some (Rows (ch.cell_then v cells seats S j s x o text named fresh i c row changes count K)) ≡ some (Rows cell) = sym (set_here cells i (Rows c) _ K.out) ∙ ap (get_elem? C') (sym q) ∙ e in
        let same : ch.cell_then v cells seats S j s x o text named fresh i c row changes count K ≡ cell = cc in subst (λ (d : TableCell). StandsAs v C' seats' S.ledger d (def_at D d.id)) same stands)
        (λ (ne : n ≢ i). stands_else cell (def_at D cell.id) (S.tables_are_serial.tables n cell (ap table_found (sym (set_else cells i n _ ne) ∙ e))))
        (cases_eq n i)

    are_cells : AreCells C' S.catalog S.ledger
    are_cells = let a = ch.at v cells seats S j s x o text named fresh i c row changes count K in
        subst (λ (m : ℕ). AreCells (set cells m (Rows (ch.cell_then v cells seats S j s x o text named fresh i c row changes count K))) S.catalog S.ledger) (sym a.is) (table_changed cells S.catalog S.ledger a.n c _ (ap (get_elem? cells) (sym a.is) ∙ K.out) refl S.are_cells)

    pub changes_there : StandsBy v j history o.id o.explicit (done_acts o.explicit text true (reply.Changed count)) C' seats'
    changes_there = let said = done_act v cells seats S j s K.there x K.role o K.open_one K.unfixed text (found (Some named) fresh) K.place refl (λ id ws. refl) true (λ a h. h) refl (λ k. refl) refl refl
        (reply.Changed count) (record { not_syntax_error = λ e. cc; not_no_transaction = λ e. cc; not_already_in = λ e. cc; not_forbidden_in = λ e. cc }) refl refl refl refl refl refl p refl refl refl refl (λ e. ap kind_of (v.real.reading text ∙ K.is)) in record {
          session = said.session;
          of = by_number v.meaning history (S.transcripts_agree.of_seat j) x o (in_transaction v history S.ledger seats S.transcripts_agree j x o (record { seat = s; there = K.there; role = K.role; open_one = K.open_one })) said.session said.is;
          stands = record {
            catalog = S.catalog;
            ledger = S.ledger;
            are_cells = are_cells;
            ledger_is_legal = S.ledger_is_legal;
            tables_are_serial = record {
              definitions = definitions_then;
              goes_back = creator_then;
              carried = each_open seats j (sits s y) x o y p (ch.goes v cells seats S j s x o text named fresh i c row changes count K) (λ n z r. r.end ≡ unfixed → IsCarried S.catalog.defs T (script_end v T z r).state.tables)
                  (λ e. inr (ch.then_defs v cells seats S j s x o text named fresh i c row changes count K)) (λ n z r ne h e. S.tables_are_serial.carried n z r h e);
              indexed = each_open seats j (sits s y) x o y p (ch.goes v cells seats S j s x o text named fresh i c row changes count K) (λ n z r. r.end ≡ unfixed → IsIndexed C' z.place)
                  (λ e. indexed_here o.explicit) (λ n z r ne h e. indexed_else z.place (S.tables_are_serial.indexed n z r h e));
              versions = ch.by_table v cells seats S j s x o text named fresh i c row changes count K (λ id. committed S.ledger.items (versions_at C' id) ≡ versions_of T id)
                  (ap (committed S.ledger.items) (ch.rows_are v cells seats S j s x o text named fresh i c row changes count K) ∙ commits_same ∙ ap (committed S.ledger.items) (sym rows_were) ∙ S.tables_are_serial.versions c.id one_le)
                  (λ id l ne. ap (committed S.ledger.items) (ch.rows_elsewhere v cells seats S j s x o text named fresh i c row changes count K id ne) ∙ S.tables_are_serial.versions id l);
              tables = λ n cell e. at_cells n cell (table_there (get_elem? C' n) cell e);
            };
            rows_agree = ch.rows_agree v cells seats S j s x o text named fresh i c row changes count K;
            open_scripts = scripts;
            locks_cover = covered;
            locks_agree = agree;
            trees_are_of_events = trees;
            transcripts_agree = said.agree;
          };
          mine = said.own;
        }
