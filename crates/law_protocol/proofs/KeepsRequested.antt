-- Each visit, each step that a seat takes by itself, a split and a join keep that locks in the catalog are wanted.
use Rattle.std.proofs.Common.{◌≡◌, ◌≢◌, ◌⊎◌, ℕ, Bool, true, false, cond, List, [], ◌∷◌, ◌++◌, Option, Some, None, set, slice_set, refl, sym, ap, ◌∙◌, subst, inl, inr, ⊎_elim}
use Rattle.std.specs.Prelude.{◌==◌, ◌||◌, not}
use Rattle.std.specs.List.{filter}
use Rattle.std.proofs.lemmas.Bool.{eq-eqb, eqb-true}
use mathlib.Core.Option.{some}
use lib.ListN.{get_elem?}
use Rattle.sql_value.specs.declared.refusal.Refusal.{Refusal}
use Rattle.sql_value.specs.declared.refusal.Refusal.TheVariants.{NoMemory}
use Rattle.sql_types.specs.declared.lock.Hold.{Hold}
use Rattle.sql_types.specs.declared.lock.Mode.TheVariants.{S}
use Rattle.sql_types.specs.declared.lock.LockRequest.{LockRequest}
use Rattle.sql_types.specs.declared.reply.Reply.{Reply}
use Rattle.sql_types.specs.declared.reply.Reply.TheVariants as reply
use Rattle.sql_types.specs.declared.statement.Stmt.{Stmt}
use Rattle.sql_types.specs.declared.statement.Stmt.TheVariants as stmt
use Rattle.spec_model.specs.Catalog.{NamedPart}
use Rattle.spec_model.specs.Holds.{holds_after, holds_any, released}
use Rattle.spec_model.specs.Journals.{Line}
use Rattle.spec_model.specs.Locks.{catalog_request}
use Rattle.spec_history.specs.Lists.{Text, In, Some_of}
use Rattle.spec_history.specs.Real.{requests_catalog}
use Rattle.spec_history.specs.Transactions.{unfixed, committed, ended}
use Rattle.spec_protocol.specs.Alone.{Alone}
use Rattle.spec_protocol.specs.Alone as alone
use Rattle.spec_protocol.specs.Answering.{refused_by_check}
use Rattle.spec_protocol.specs.Cells.{CatalogCell, LedgerCell, Cell, Catalog, Ledger, Rows, TableCell, catalog_at, holds_at, holds_found}
use Rattle.spec_protocol.specs.Contents.{Contents, contents}
use Rattle.spec_protocol.specs.Doing.{done, stage_refused, with_line}
use Rattle.spec_protocol.specs.Moves.{InOpenTransaction, at_place, then_at, visiting}
use Rattle.spec_protocol.specs.LocksAreRequested.{LocksAreRequested, RequestsCatalog}
use Rattle.spec_protocol.specs.LocksCover.{HasLock, LookedFirst}
use Rattle.spec_protocol.specs.OpenOnes.{HasOpen}
use Rattle.spec_protocol.specs.Seats.{OpenTransaction, StatementProgress, begun, found, going_back, inside, Role, idle, session, builder, kept, split, Session, SeatState}
use Rattle.spec_protocol.specs.Server.{Server}
use Rattle.spec_protocol.specs.StandTogether.{History, Stands}
use Rattle.spec_protocol.specs.Visits.{Visit, assign_id, look, read_system, create_table, create_index, alter_table, refuse_create, stop_in_catalog, change, refuse_change, read, stop_in_table, add_index, undo_to, commit, read_point, release, release_catalog, give_back, close, issue, lack_block, keep, nothing, Happens}
use Rattle.law_protocol_steps.proofs.AfterSet.{set_here, set_else, set_same}
use Rattle.law_protocol_steps.proofs.CatalogThere.{catalog_held, catalog_there}
use Rattle.law_protocol_steps.proofs.AssignsId.{at_own, no_lock}
use Rattle.law_protocol_steps.proofs.Ids.{differ}
use Rattle.law_protocol_steps.proofs.LedgerVisit.{lies_there, the_ledger}
use Rattle.law_protocol_steps.proofs.OpenSeats.{Own, owns_none, was_open}
use Rattle.law_protocol_ledger.proofs.Splits.{back}
use Rattle.law_protocol_steps.proofs.Taken.{taken_comes}
use Rattle.law_protocol_tables.proofs.VisitsAsked.{were_held}
use Rattle.spec_protocol.specs.CatalogVisits.{Looks}
use Rattle.spec_model.specs.Catalog.{find_part}

-- ---- scripts

module _ (v : Server) where
  abbrev LockRequests : Line → Type 0
  LockRequests l = requests_catalog true (v.reads l.0) ≡ Some S

  wanted_left : (xs ys : List Line) → Some_of LockRequests xs → Some_of LockRequests (xs ++ ys)
  wanted_left [] ys h = absurd h
  wanted_left (x ∷ xs) ys (inl p) = inl p
  wanted_left (x ∷ xs) ys (inr h) = inr (wanted_left xs ys h)

  wanted_last : (xs : List Line) (l : Line) → LockRequests l → Some_of LockRequests (xs ++ l ∷ [])
  wanted_last [] l p = inl p
  wanted_last (x ∷ xs) l p = inr (wanted_last xs l p)

  line_stays : (b : Bool) (l : Line) (xs : List Line) → Some_of LockRequests xs → Some_of LockRequests (with_line b l xs)
  line_stays true l xs h = wanted_left xs (l ∷ []) h
  line_stays false l xs h = h

  line_requests : (b : Bool) (l : Line) (xs : List Line) → b ≡ true → LockRequests l → Some_of LockRequests (with_line b l xs)
  line_requests true l xs e p = wanted_last xs l p
  line_requests false l xs e p = cc

-- what is checked before any row wants S in the catalog
checked_shares : (named : Option NamedPart) (d : Stmt) (e : Refusal) → refused_by_check named d ≡ Some e → catalog_request true d ≡ Some S
checked_shares named (stmt.Change row) e h = refl
checked_shares named (stmt.Select q) e h = refl
checked_shares named (stmt.Create c) e h = cc
checked_shares named (stmt.Index c) e h = cc
checked_shares named (stmt.Alter a) e h = cc
checked_shares named (stmt.Drop name) e h = cc
checked_shares named stmt.Begin e h = cc
checked_shares named stmt.Commit e h = cc
checked_shares named (stmt.Save name) e h = cc
checked_shares named (stmt.Rollback name) e h = cc
checked_shares named stmt.Digest e h = cc
checked_shares named stmt.Image e h = cc

reads_requests : (v : Server) (text : Text) (d : Stmt) → v.reads text ≡ Some d → catalog_request true d ≡ Some S → requests_catalog true (v.reads text) ≡ Some S
reads_requests v text d e h = ap (requests_catalog true) e ∙ h

-- ---- who held something here

record HasAny (hs : List Hold) (id : ℕ) : Type 0 where
  hold : Hold
  has : In hold hs
  mine : hold.tx ≡ id

at_head : (id : ℕ) (h : Hold) (hs : List Hold) (b : Bool) → (h.tx == id) ≡ b → (b ≡ false → HasAny hs id) → HasAny (h ∷ hs) id
at_head id h hs true e later = record { hold = h; has = inl refl; mine = eqb-true h.tx id e }
at_head id h hs false e later = let w = later refl in record { hold = w.hold; has = inr w.has; mine = w.mine }

any_held : (id : ℕ) (hs : List Hold) → holds_any hs id ≡ true → HasAny hs id
unfolding holds_any
any_held id [] e = cc
any_held id (h ∷ hs) e = at_head id h hs (h.tx == id) refl (λ f. any_held id hs (ap (λ (c : Bool). c || holds_any hs id) (sym f) ∙ e))

none_left : (test : Hold → Bool) (b : Bool) (h lock : Hold) (hs : List Hold) → test h ≡ b → (In lock (filter test hs) → test lock ≡ true) → In lock (cond b (h ∷ filter test hs) (filter test hs)) → test lock ≡ true
none_left test true h lock hs e later (inl same) = ap test (sym same) ∙ e
none_left test true h lock hs e later (inr i) = later i
none_left test false h lock hs e later i = later i

passed : (test : Hold → Bool) (hs : List Hold) (lock : Hold) → In lock (filter test hs) → test lock ≡ true
passed test [] lock i = absurd i
passed test (h ∷ hs) lock i = none_left test (test h) h lock hs refl (passed test hs lock) i

-- who has released a cell has no lock there
released_none : (hs : List Hold) (id : ℕ) (lock : Hold) → In lock (released hs id) → lock.tx ≢ id
unfolding released
released_none hs id lock i same = let e : not (lock.tx == id) ≡ true = passed _ hs lock i in let f : (lock.tx == id) ≡ true = eq-eqb lock.tx id same in let z : not true ≡ true = ap not (sym f) ∙ e in cc

not_session : (r : Role) (x : Session) → (r ≡ idle) ⊎ (r ≡ builder) → r ≡ session x → ⊥
not_session r x (inl e) f = let z : idle ≡ session x = sym e ∙ f in cc
not_session r x (inr e) f = let z : builder ≡ session x = sym e ∙ f in cc

module _ (v : Server) (cells : List Cell) (seats : List SeatState) {history : History} (st : Stands v history cells seats) (wanted : LocksAreRequested v (contents cells) seats) (j : ℕ) (s : SeatState) (there : get_elem? seats j ≡ some s) where
  abbrev c : Contents
  c = contents cells

  -- whoever else has a lock in the catalog had it
  abbrev OthersHad : Contents → Type 0
  OthersHad d = (k : ℕ) (y : Session) (p : OpenTransaction) → k ≢ j → HasOpen seats k y p → HasLock d catalog_at p.id → HasLock c catalog_at p.id

  module _ (d : Contents) (had : OthersHad d) (t : SeatState) where
    each_wanted : ((y : Session) (p : OpenTransaction) → Own t y p → p.explicit ≡ true → p.end ≡ unfixed → HasLock d catalog_at p.id → RequestsCatalog v y p) → LocksAreRequested v d (slice_set seats j t)
    each_wanted own k y p open_one explicit open_end lock = ⊎_elim
        (λ (e : (k ≡ j) × Own t y p). own y p e.1 explicit open_end lock)
        (λ (e : (k ≢ j) × HasOpen seats k y p). wanted k y p e.1 explicit open_end (had k y p e.0 e.1 lock))
        (was_open seats j s t there k y p open_one)

    -- no session runs there
    pub none_runs : (t.role ≡ idle) ⊎ (t.role ≡ builder) → LocksAreRequested v d (slice_set seats j t)
    none_runs e = each_wanted (λ y p own. absurd (not_session t.role y e own.role))

    module _ (y : Session) (role : t.role ≡ session y) where
      -- it has no transaction
      pub none_open : y.open_one ≡ None → LocksAreRequested v d (slice_set seats j t)
      none_open free = each_wanted (λ z p own. absurd (owns_none t y role free z p own))

      module _ (p : OpenTransaction) (one : y.open_one ≡ Some p) where
        -- it has this one
        pub has_open : (p.explicit ≡ true → p.end ≡ unfixed → HasLock d catalog_at p.id → RequestsCatalog v y p) → LocksAreRequested v d (slice_set seats j t)
        has_open its = each_wanted (λ z q own. at_own t y p (λ x o. o.explicit ≡ true → o.end ≡ unfixed → HasLock d catalog_at o.id → RequestsCatalog v x o) role one its z q own)

        -- which is the one that it had, with a script that is no shorter
        pub goes_on : (x : Session) (was_role : s.role ≡ session x) (o : OpenTransaction) (was_one : x.open_one ≡ Some o) → p.explicit ≡ o.explicit → p.end ≡ o.end → (HasLock d catalog_at p.id → HasLock c catalog_at o.id)
            → (Some_of (LockRequests v) o.script → Some_of (LockRequests v) p.script) → (p.explicit ≡ true → LookedFirst x.place → RequestsCatalog v y p) → LocksAreRequested v d (slice_set seats j t)
        goes_on x was_role o was_one same_opened same_end lock_had longer looked = has_open (λ explicit open_end lock. ⊎_elim
            (λ (h : Some_of (LockRequests v) o.script). inl (longer h))
            (λ (h : LookedFirst x.place). looked explicit h)
            (wanted j x o (record { seat = s; there = there; role = was_role; open_one = was_one }) (sym same_opened ∙ explicit) (sym same_end ∙ open_end) (lock_had lock)))

  -- ---- what it does by itself

  still_had : OthersHad c
  still_had k y p ne has lock = lock

  place_of : (o : OpenTransaction) (at : InOpenTransaction v s o) (stage : StatementProgress) → at.stands.stage ≡ stage → at.stands.x.place ≡ inside at.stands.text stage
  place_of o at stage e = at.stands.place ∙ ap (inside at.stands.text) e

  taken_up : (t : SeatState) (y : Session) (role : t.role ≡ session y) (x : Session) (was_role : s.role ≡ session x) (one : y.open_one ≡ x.open_one) → (LookedFirst x.place → ⊥) → (z : Option OpenTransaction) → x.open_one ≡ z → LocksAreRequested v c (slice_set seats j t)
  taken_up t y role x was_role one never None e = none_open c still_had t y role (one ∙ e)
  taken_up t y role x was_role one never (Some o) e = goes_on c still_had t y role o (one ∙ e) x was_role o e refl refl (λ l. l) (λ h. h) (λ explicit f. absurd (never f))

  abbrev After : SeatState → Type 0
  After t = LocksAreRequested v c (slice_set seats j t)

  -- a statement is done, or refused, that isn't the first to look in the catalog
  done_there : (o p : OpenTransaction) (at : InOpenTransaction v s o) (r : Reply) (stage : StatementProgress) → at.stands.stage ≡ stage → (LookedFirst (inside at.stands.text stage) → ⊥) → p.explicit ≡ o.explicit → p.end ≡ o.end → p.id ≡ o.id → p.script ≡ o.script → After (done s at.stands p r)
  done_there o p at r stage e never explicit open_end id script = goes_on c still_had (done s at.stands p r) _ refl _ refl at.stands.x at.stands.role o at.open_one explicit open_end
      (λ l. subst (HasLock c catalog_at) id l)
      (λ h. line_stays v p.explicit _ p.script (subst (Some_of (LockRequests v)) (sym script) h))
      (λ q f. absurd (never (subst LookedFirst (place_of o at stage e) f)))

  -- it is stopped in its table's cell
  stops : (fresh : Bool) (o : OpenTransaction) (at : InOpenTransaction v s o) (named : Option NamedPart) → at.stands.stage ≡ found named fresh → (r : Reply) → After (then_at s at.stands (Some o) (stage_refused fresh r))
  stops true o at named stage r = goes_on c still_had _ _ refl o refl at.stands.x at.stands.role o at.open_one refl refl (λ l. l) (λ h. h) (λ q f. inr tt)
  stops false o at named stage r = goes_on c still_had _ _ refl o refl at.stands.x at.stands.role o at.open_one refl refl (λ l. l) (λ h. h) (λ q f. absurd (subst LookedFirst (place_of o at (found named false) stage) f))

  pub alone_requested : (t : SeatState) → Alone v s t → After t
  alone_requested _ (alone.begins name present role) = none_open c still_had _ _ refl refl
  alone_requested _ (alone.builds present role) = none_runs c still_had _ (inr refl)
  alone_requested _ (alone.rests role) = none_runs c still_had _ (inl refl)
  alone_requested _ (alone.takes x text at goes) = taken_up _ _ refl x at.role refl (λ f. subst LookedFirst at.here f) x.open_one refl
  alone_requested _ (alone.leaves x o at one open_end explicit) = goes_on c still_had _ _ refl o refl x at.role o one refl refl (λ l. l) (λ h. h) (λ q f. absurd (subst LookedFirst at.here f))
  alone_requested _ (alone.stops x at free) = none_runs c still_had _ (inl refl)
  alone_requested _ (alone.refused_in x o text e at one open_end explicit is) = goes_on c still_had _ _ refl _ refl x at.role o one refl refl (λ l. l) (λ h. wanted_left v o.script _ h) (λ q f. absurd (subst LookedFirst at.here f))
  alone_requested _ (alone.refused_out x text e at free is) = none_open c still_had _ _ refl refl
  alone_requested _ (alone.refused_checked o at named fresh e stage is) = has_open c still_had _ _ refl _ refl
      (λ explicit open_end lock. inl (line_requests v o.explicit _ o.script explicit (reads_requests v at.stands.text at.stands.stmt at.stands.is (checked_shares named at.stands.stmt e is))))
  alone_requested _ (alone.no_memory x text at open_end) = taken_up _ _ refl x at.role refl (λ f. subst LookedFirst at.here f) x.open_one refl
  alone_requested _ (alone.no_memory_then o at named fresh stage) = stops fresh o at named stage (reply.Refused NoMemory)
  alone_requested _ (alone.saves o at name stage explicit is few) = done_there o _ at reply.Saved begun stage (λ f. f) refl refl refl refl
  alone_requested _ (alone.has_too_many o at name stage explicit is full) = done_there o o at _ begun stage (λ f. f) refl refl refl refl
  alone_requested _ (alone.goes_back o at name f fs stage explicit is there_is) = goes_on c still_had _ _ refl _ refl at.stands.x at.stands.role o at.open_one refl refl (λ l. l) (λ h. h) (λ q g. absurd (subst LookedFirst (place_of o at begun stage) g))
  alone_requested _ (alone.has_no_savepoint o at name stage explicit is gone) = done_there o o at _ begun stage (λ f. f) refl refl refl refl
  alone_requested _ (alone.is_back o at seq stage) = done_there o o at reply.Back (going_back seq []) stage (λ f. f) refl refl refl refl
  alone_requested _ (alone.answers x text r at goes) = taken_up _ _ refl x at.role refl (λ f. subst LookedFirst at.here f) x.open_one refl
  alone_requested _ (alone.answers_end x o text r def line at one is released) = none_open c still_had _ _ refl refl
  alone_requested _ (alone.has_left x o line at one is released) = none_runs c still_had _ (inl refl)

  -- ---- the cells

  abbrev Cells : ℕ → Cell → Contents
  Cells i d = contents (set cells i d)

  -- another cell than the catalog's changed
  elsewhere : (i : ℕ) (d : Cell) → catalog_at ≢ i → (id : ℕ) → HasLock (Cells i d) catalog_at id → HasLock c catalog_at id
  elsewhere i d ne id l = record { hold = l.hold; has = subst (In l.hold) (ap holds_found (set_else cells i catalog_at d ne)) l.has; mine = l.mine }

  in_ledger : (i : ℕ) (a : LedgerCell) → get_elem? cells i ≡ some (Ledger a) → catalog_at ≢ i
  in_ledger i a e same = let f : some (Catalog st.catalog) ≡ some (Ledger a) = sym st.are_cells.has_catalog ∙ ap (get_elem? cells) same ∙ e in cc

  in_rows : (i : ℕ) (a : TableCell) → get_elem? cells i ≡ some (Rows a) → catalog_at ≢ i
  in_rows i a e same = let f : some (Catalog st.catalog) ≡ some (Rows a) = sym st.are_cells.has_catalog ∙ ap (get_elem? cells) same ∙ e in cc

  in_catalog : (i : ℕ) (a : CatalogCell) → get_elem? cells i ≡ some (Catalog a) → i ≡ catalog_at
  in_catalog i a e = catalog_there cells st.catalog a st.ledger st.are_cells i e

  ledger_is : (i : ℕ) (a : LedgerCell) → get_elem? cells i ≡ some (Ledger a) → a ≡ st.ledger
  ledger_is i a e = the_ledger cells st.catalog st.ledger a st.are_cells (subst (λ (n : ℕ). get_elem? cells n ≡ some (Ledger a)) (lies_there cells st.catalog st.ledger a st.are_cells i e) e)

  -- the catalog's cell changed
  module _ (i : ℕ) (a b : CatalogCell) (e : get_elem? cells i ≡ some (Catalog a)) where
    there_now : holds_at (set cells i (Catalog b)) catalog_at ≡ b.holds
    there_now = ap (holds_at (set cells i (Catalog b))) (sym (in_catalog i a e)) ∙ ap holds_found (set_here cells i (Catalog a) (Catalog b) e)

    there_before : holds_at cells catalog_at ≡ a.holds
    there_before = ap (holds_at cells) (sym (in_catalog i a e)) ∙ ap holds_found e

    lock_now : (id : ℕ) (l : HasLock (Cells i (Catalog b)) catalog_at id) → In l.hold b.holds
    lock_now id l = subst (In l.hold) there_now l.has

    lock_before : (id : ℕ) (h : Hold) → h.tx ≡ id → In h a.holds → HasLock c catalog_at id
    lock_before id h mine has = record { hold = h; has = subst (In h) (sym there_before) has; mine = mine }

    -- it gained no lock
    fewer : ((h : Hold) → In h b.holds → In h a.holds) → (id : ℕ) → HasLock (Cells i (Catalog b)) catalog_at id → HasLock c catalog_at id
    fewer f id l = lock_before id l.hold l.mine (f l.hold (lock_now id l))

    -- it gained locks of this seat's transaction
    others_had : (x : Session) (o : OpenTransaction) (has : HasOpen seats j x o) (ws : List LockRequest) → b.holds ≡ holds_after a.holds o.id ws → OthersHad (Cells i (Catalog b))
    others_had x o has ws takes k y p ne open_one l = ⊎_elim
        (λ (h : In l.hold a.holds). lock_before p.id l.hold l.mine h)
        (λ (h : (l.hold.tx ≡ o.id) × In l.hold.request ws). absurd (differ v history st.ledger seats st.transcripts_agree k j y x p o ne open_one has (sym l.mine ∙ h.0)))
        (taken_comes o.id ws a.holds l.hold (subst (In l.hold) takes (lock_now p.id l)))

  -- ---- visits

  abbrev Then : ℕ → Cell → SeatState → Type 0
  Then i d t = LocksAreRequested v (Cells i d) (slice_set seats j t)

  mine : (o : OpenTransaction) (at : InOpenTransaction v s o) → HasOpen seats j at.stands.x o
  mine o at = record { seat = s; there = there; role = at.stands.role; open_one = at.open_one }

  role_is : (t u : SeatState) → t ≡ u → t.role ≡ u.role
  role_is t u e = ap (λ (z : SeatState). z.role) e

  -- a transaction of its own
  not_opened : (o : OpenTransaction) {A : Type 0} → o.explicit ≡ false → o.explicit ≡ true → A
  not_opened o own explicit = let z : false ≡ true = sym own ∙ explicit in cc

  -- the seat as it was
  same_seat : (i : ℕ) (d : Cell) (t : SeatState) → OthersHad (Cells i d) → ((id : ℕ) → HasLock (Cells i d) catalog_at id → HasLock c catalog_at id) → t ≡ s → Then i d t
  same_seat i d t had fewer e k y p open_one explicit open_end lock = wanted k y p (subst (λ (us : List SeatState). HasOpen us k y p) (ap (slice_set seats j) e ∙ set_same seats j s there) open_one) explicit open_end (fewer p.id lock)

  looked_up : (i : ℕ) (a b : CatalogCell) (t : SeatState) (e : get_elem? cells i ≡ some (Catalog a)) → Looks v a s b t → Then i (Catalog b) t
  looked_up i a b t e h = has_open (Cells i (Catalog b)) (others_had i a b e h.at.stands.x h.o (mine h.o h.at) _ (ap (λ (z : CatalogCell). z.holds) h.cell)) t _ (role_is t _ h.seat) _ refl
      (λ explicit open_end lock. by (holds_any a.holds h.o.id) refl explicit open_end)
    where
      named : Option NamedPart
      named = find_part a.defs h.name

      by : (b : Bool) → holds_any a.holds h.o.id ≡ b → h.o.explicit ≡ true → h.o.end ≡ unfixed → RequestsCatalog v (at_place (Some (visiting catalog_at h.o)) (inside h.at.stands.text (found (find_part a.defs h.name) (not (holds_any a.holds h.o.id)))) h.at.stands.x) (visiting catalog_at h.o)
      by false f explicit open_end = inr (subst (λ (b : Bool). LookedFirst (inside h.at.stands.text (found (find_part a.defs h.name) (not b)))) (sym f) tt)
      by true f explicit open_end = let w = any_held h.o.id a.holds f in ⊎_elim
          (λ (k : Some_of (LockRequests v) h.o.script). inl k)
          (λ (k : LookedFirst h.at.stands.x.place). absurd (subst LookedFirst (place_of h.o h.at begun h.at_begin) k))
          (wanted j h.at.stands.x h.o (mine h.o h.at) explicit open_end (lock_before i a b e h.o.id w.hold w.mine w.has))

  -- a statement of rows is done in its table's cell
  rows_done : (i : ℕ) (a b : TableCell) (t : SeatState) → get_elem? cells i ≡ some (Rows a) → (o p : OpenTransaction) (at : InOpenTransaction v s o) (r : Reply) → catalog_request true at.stands.stmt ≡ Some S → t ≡ done s at.stands p r → Then i (Rows b) t
  rows_done i a b t e o p at r shares is = has_open (Cells i (Rows b)) (λ k y q ne has lock. elsewhere i (Rows b) (in_rows i a e) q.id lock) t _ (role_is t _ is) _ refl
      (λ explicit open_end lock. inl (line_requests v p.explicit _ p.script explicit (reads_requests v at.stands.text at.stands.stmt at.stands.is shares)))

  -- the cell stays
  abbrev Same : ℕ → Cell → SeatState → Type 0
  Same i d t = get_elem? cells i ≡ some d → After t → Then i d t

  cell_stays : (i : ℕ) (d : Cell) (t : SeatState) → Same i d t
  cell_stays i d t e w = subst (λ (cs : List Cell). LocksAreRequested v (contents cs) (slice_set seats j t)) (sym (set_same cells i d e)) w

  -- a cell other than the catalog's changed, and the seat turned
  turned : (i : ℕ) (d : Cell) (t : SeatState) → catalog_at ≢ i → After t → Then i d t
  turned i d t ne w k y p open_one explicit open_end lock = w k y p open_one explicit open_end (elsewhere i d ne p.id lock)

  -- a transaction whose end is fixed
  fixed_then : (d : Contents) → OthersHad d → (t : SeatState) (y : Session) → t.role ≡ session y → (p : OpenTransaction) → y.open_one ≡ Some p → (p.end ≡ unfixed → ⊥) → LocksAreRequested v d (slice_set seats j t)
  fixed_then d had t y role p one fixed = has_open d had t y role p one (λ explicit open_end lock. absurd (fixed open_end))

  not_committed : (n : ℕ) → committed n ≡ unfixed → ⊥
  not_committed n e = cc

  not_ended : (n : ℕ) (back : Bool) → ended n back ≡ unfixed → ⊥
  not_ended n back e = cc

  pub visit_requested : (out : List (ℕ × Cell)) (visit : Visit) (i : ℕ) (a b : Cell) (t : SeatState) → get_elem? cells i ≡ some a → Happens v out visit a s b t → Then i b t
  visit_requested out (assign_id explicit) i (Ledger a) (Ledger b) t e h = turned i (Ledger b) t (in_ledger i a e)
      (has_open c still_had t _ (role_is t _ h.seat) _ refl (λ q open_end lock. absurd (no_lock v cells seats st catalog_at lock.hold lock.has (lock.mine ∙ ap (λ (l : LedgerCell). l.next) (ledger_is i a e)))))
  visit_requested out look i (Catalog a) (Catalog b) t e h = looked_up i a b t e h
  visit_requested out read_system i (Catalog a) (Catalog b) t e h = has_open (Cells i (Catalog b)) (others_had i a b e h.at.stands.x h.o (mine h.o h.at) _ (ap (λ (z : CatalogCell). z.holds) h.cell)) t _ (role_is t _ h.seat) _ refl
      (λ explicit open_end lock. inl (line_requests v h.o.explicit _ h.o.script explicit (reads_requests v h.at.stands.text h.at.stands.stmt h.at.stands.is (ap (catalog_request true) h.selects))))
  visit_requested out create_table i (Catalog a) (Catalog b) t e h = has_open (Cells i (Catalog b)) (others_had i a b e h.at.stands.x h.o (mine h.o h.at) _ (ap (λ (z : CatalogCell). z.holds) h.cell)) t _ (role_is t _ h.seat) _ refl (λ explicit open_end lock. not_opened h.o h.alone explicit)
  visit_requested out create_index i (Catalog a) (Catalog b) t e h = has_open (Cells i (Catalog b)) (others_had i a b e h.at.stands.x h.o (mine h.o h.at) _ (ap (λ (z : CatalogCell). z.holds) h.cell)) t _ (role_is t _ h.seat) _ refl (λ explicit open_end lock. not_opened h.o h.alone explicit)
  visit_requested out alter_table i (Catalog a) (Catalog b) t e h = has_open (Cells i (Catalog b)) (others_had i a b e h.at.stands.x h.o (mine h.o h.at) _ (ap (λ (z : CatalogCell). z.holds) h.cell)) t _ (role_is t _ h.seat) _ refl (λ explicit open_end lock. not_opened h.o h.alone explicit)
  visit_requested out refuse_create i (Catalog a) (Catalog b) t e h = has_open (Cells i (Catalog b)) (others_had i a b e h.at.stands.x h.o (mine h.o h.at) _ (ap (λ (z : CatalogCell). z.holds) h.cell)) t _ (role_is t _ h.seat) _ refl (λ explicit open_end lock. not_opened h.o h.alone explicit)
  visit_requested out stop_in_catalog i (Catalog a) (Catalog b) t e h = cell_stays i (Catalog b) t (e ∙ ap (λ (z : CatalogCell). some (Catalog z)) (sym h.1))
      (goes_on c still_had t _ (role_is t _ h.0.seat) _ refl h.0.at.stands.x h.0.at.stands.role h.0.o h.0.at.open_one refl refl (λ l. l) (λ k. k) (λ q f. absurd (subst LookedFirst (place_of h.0.o h.0.at begun h.0.at_begin) f)))
  visit_requested out change i (Rows a) (Rows b) t e h = rows_done i a b t e h.o _ h.at.at _ (ap (catalog_request true) h.is) h.seat
  visit_requested out refuse_change i (Rows a) (Rows b) t e h = rows_done i a b t e h.o _ h.at.at _ (ap (catalog_request true) h.is) h.seat
  visit_requested out read i (Rows a) (Rows b) t e h = rows_done i a b t e h.o _ h.at.at _ (ap (catalog_request true) h.is) h.seat
  visit_requested out stop_in_table i (Rows a) (Rows b) t e h = turned i (Rows b) t (in_rows i a e) (subst After (sym h.0.seat) (stops h.0.fresh h.0.o h.0.at.at (Some h.0.named) h.0.at.at_found h.0.r))
  visit_requested out add_index i (Rows a) (Rows b) t e h = turned i (Rows b) t (in_rows i a e)
      (goes_on c still_had t _ (role_is t _ h.seat) _ refl h.at.stands.x h.at.stands.role h.o h.at.open_one refl refl (λ l. l) (λ k. k) (λ q f. absurd (subst LookedFirst (place_of h.o h.at _ h.at_made) f)))
  visit_requested out undo_to i (Rows a) (Rows b) t e h = turned i (Rows b) t (in_rows i a e)
      (goes_on c still_had t _ (role_is t _ h.seat) _ refl h.at.stands.x h.at.stands.role h.o h.at.open_one refl refl (λ l. l) (λ k. k) (λ q f. absurd (subst LookedFirst (place_of h.o h.at _ h.goes) f)))
  visit_requested out (commit time) i (Ledger a) (Ledger b) t e h = turned i (Ledger b) t (in_ledger i a e) (fixed_then c still_had t _ (role_is t _ h.seat) _ refl (not_committed _))
  visit_requested out read_point i (Ledger a) (Ledger b) t e h = turned i (Ledger b) t (in_ledger i a e) (fixed_then c still_had t _ (role_is t _ h.0.seat) _ refl (not_ended _ h.0.back))
  visit_requested out release i (Rows a) (Rows b) t e h = turned i (Rows b) t (in_rows i a e) (fixed_then c still_had t _ (role_is t _ h.seat) _ refl h.at.fixed)
  visit_requested out release_catalog i (Catalog a) (Catalog b) t e h = fixed_then (Cells i (Catalog b))
      (λ k y p ne has lock. fewer i a b e (λ l has. were_held a.holds h.o.id l (subst (In l) (ap (λ (z : CatalogCell). z.holds) h.cell ∙ catalog_held h.o.end h.o.id a) has)) p.id lock) t _ (role_is t _ h.seat) _ refl h.at.fixed
  visit_requested out give_back i (Catalog a) (Catalog b) t e h = has_open (Cells i (Catalog b))
      (λ k y p ne has lock. fewer i a b e (λ l has. were_held a.holds h.o.id l (subst (λ (z : CatalogCell). In l z.holds) h.cell has)) p.id lock) t _ (role_is t _ h.seat) _ refl
      (λ explicit open_end lock. absurd (released_none a.holds h.o.id lock.hold (subst (In lock.hold) (ap (λ (z : CatalogCell). z.holds) h.cell) (lock_now i a b e h.o.id lock)) lock.mine))
  visit_requested out (close k) i (Ledger a) (Ledger b) t e h = same_seat i (Ledger b) t (λ n y p ne has lock. elsewhere i (Ledger b) (in_ledger i a e) p.id lock) (elsewhere i (Ledger b) (in_ledger i a e)) h.1
  visit_requested out (issue moment) i (Ledger a) (Ledger b) t e h = turned i (Ledger b) t (in_ledger i a e) (none_open c still_had t _ (role_is t _ h.seat) refl)
  visit_requested out lack_block i (Ledger a) (Ledger b) t e h = turned i (Ledger b) t (in_ledger i a e) (none_open c still_had t _ (role_is t _ h.0.seat) refl)
  visit_requested out keep i a b t e h = cell_stays i b t (e ∙ ap some (sym h.1)) (none_open c still_had t _ (role_is t _ h.0.seat) refl)
  visit_requested out nothing i a b t e h = cell_stays i b t (e ∙ ap some (sym h.0)) (subst After (sym h.1) (subst (LocksAreRequested v c) (sym (set_same seats j s there)) wanted))
  visit_requested out visit i a b t e h = absurd h

-- ---- a split and a join

pub same_requested : (v : Server) (c : Contents) (seats then_seats : List SeatState) → ((k : ℕ) (y : Session) (p : OpenTransaction) → HasOpen then_seats k y p → HasOpen seats k y p) → LocksAreRequested v c seats → LocksAreRequested v c then_seats
same_requested v c seats then_seats back wanted k y p has = wanted k y p (back k y p has)

pub split_requested : (v : Server) (cells : List Cell) (seats : List SeatState) {history : History} (st : Stands v history cells seats) (j : ℕ) (s : SeatState) (there : get_elem? seats j ≡ some s) (n : ℕ) → LocksAreRequested v (contents cells) seats → LocksAreRequested v (contents cells) (slice_set seats j (kept s n) ++ split s n ∷ [])
split_requested v cells seats st j s there n wanted = subst (λ (us : List SeatState). LocksAreRequested v (contents cells) (us ++ split s n ∷ [])) (sym (set_same seats j s there)) (same_requested v (contents cells) seats (seats ++ split s n ∷ []) (back v cells seats st j s there n) wanted)
