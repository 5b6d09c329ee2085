-- A statement that meets a lock clashes with a statement of the holder, over the definitions over which the history asks for it.
use Rattle.std.proofs.Common.{◌≡◌, ◌≢◌, ℕ, zero, suc, Bool, true, false, List, [], ◌∷◌, map, Option, Some, None, refl, sym, ap, ap₂, ◌∙◌, subst, subst₂, inl, inr, ⊎_elim, arith}
use Rattle.std.proofs.lemmas.Bool.{cases_eq, eq-eqb, eqb-true, or_right}
use Rattle.std.specs.Prelude.{◌==◌, ◌-◌, ◌&&◌, ◌||◌, if◌then◌else◌}
use Rattle.std.specs.List.{list_any}
use Rattle.sql_types.specs.declared.journal.JournalItem.{JournalItem}
use Rattle.sql_types.specs.declared.journal.JournalItem.TheVariants.{Tx, Close}
use Rattle.sql_types.specs.declared.lock.Hold.{Hold}
use Rattle.sql_types.specs.declared.lock.Mode.{Mode}
use Rattle.sql_types.specs.declared.lock.LockRequest.{LockRequest}
use Rattle.spec_model.specs.Catalog.{Defs, Tables, defs_of}
use Rattle.spec_model.specs.Journals.{after_item, serial, serial_from, upto}
use Rattle.spec_model.specs.Locks.{CellRequests, catalog_clash, cells_clash, same_item, requests_conflict}
use Rattle.spec_history.specs.Lists.{Text, Some_of, In}
use Rattle.spec_history.specs.Real.{requests_catalog, requests_cell}
use Rattle.spec_history.specs.Acts.{Act}
use Rattle.spec_history.specs.Refusals.{EndsAt, Clashes}
use Rattle.spec_history.specs.Serial as history
use Rattle.spec_history.specs.Transactions.{End, unfixed, committed, ended}
use Rattle.spec_history.specs.Sessions.{SessionTransaction}
use Rattle.spec_history.specs.Worlds.{World, first, run}
use Rattle.spec_history.specs.Guards.{Meets, tables_at_end}
use Rattle.spec_protocol.specs.Server.{Server}
use Rattle.spec_protocol.specs.Cells.{LedgerCell, catalog_at, cell_of}
use Rattle.spec_protocol.specs.Contents.{Contents, known}
use Rattle.spec_protocol.specs.Seats.{OpenTransaction, Session, SeatState}
use Rattle.spec_protocol.specs.OpenOnes.{HasOpen}
use Rattle.spec_protocol.specs.RequestsIn.{of_catalog, of_cell}
use Rattle.spec_protocol.specs.LocksCover.{Belongs, HasLock, LocksCover}
use Rattle.spec_protocol.specs.LocksWereAsked.{IsRequested, IsAskedFor, LocksWereAsked}
use Rattle.spec_protocol.specs.TranscriptsAgree.{TranscriptsAgree}
use Rattle.law_protocol_steps.proofs.Ids.{InTransaction, in_transaction, apart}
use Rattle.law_protocol_steps.proofs.JournalMore.{same_serial}

-- ---- the tables after so many transactions are those of the model

module _ (v : Server) where
  up_items : (T : Tables) (n : ℕ) (items : List JournalItem) → history.after_tx v.meaning T n items ≡ serial_from v.reads T (upto items n)
  unfolding serial_from
  up_items T zero [] = refl
  up_items T (suc n) [] = refl
  up_items T zero (Tx id session time explicit lines ∷ is) = refl
  up_items T (suc n) (Tx id session time explicit lines ∷ is) = ap (λ (U : Tables). history.after_tx v.meaning U n is) (v.real.after explicit T id (map (λ l. l.0) lines)) ∙ up_items (after_item v.reads T (Tx id session time explicit lines)) n is
  up_items T zero (Close k ∷ is) = up_items T zero is
  up_items T (suc n) (Close k ∷ is) = up_items T (suc n) is

  pub same_upto : (n : ℕ) (items : List JournalItem) → history.after_tx v.meaning v.meaning.first n items ≡ serial v.reads (upto items n)
  same_upto n items = ap (λ (T : Tables). history.after_tx v.meaning T n items) v.real.first ∙ up_items _ n items

-- ---- two wants that conflict

some_in : {A : Type 0} (P : A → Type 0) (x : A) (xs : List A) → In x xs → P x → Some_of P xs
some_in P x [] i p = absurd i
some_in P x (y ∷ ys) i p = ⊎_elim (λ (e : y ≡ x). inl (subst P (sym e) p)) (λ (k : In x ys). inr (some_in P x ys k p)) i

any_in : (test : LockRequest → Bool) (w : LockRequest) (ws : List LockRequest) → In w ws → test w ≡ true → list_any test ws ≡ true
any_in test w [] i e = absurd i
any_in test w (u ∷ us) i e = ⊎_elim (λ (q : u ≡ w). ap (λ (b : Bool). b || list_any test us) (ap test q ∙ e)) (λ (k : In w us). ap (λ (b : Bool). test u || b) (any_in test w us k e) ∙ or_right (test u) true refl) i

-- the table whose cell this is
table_at : (id i : ℕ) → cell_of id ≡ suc i → id ≡ suc (suc i)
table_at id i e = by (id == 1) (id == 2) refl refl
  where
    by : (b d : Bool) → (id == 1) ≡ b → (id == 2) ≡ d → id ≡ suc (suc i)
    by true d f g = absurd (let z : 0 ≡ suc i = ap (λ (q : Bool). if q then 0 else (if id == 2 then 0 else id - 1)) (sym f) ∙ e in omega arith)
    by false true f g = absurd (let z : 0 ≡ suc i = ap (λ (q : Bool). if q then 0 else id - 1) (sym g) ∙ ap (λ (q : Bool). if q then 0 else (if id == 2 then 0 else id - 1)) (sym f) ∙ e in omega arith)
    by false false f g = let z : id - 1 ≡ suc i = ap (λ (q : Bool). if q then 0 else id - 1) (sym g) ∙ ap (λ (q : Bool). if q then 0 else (if id == 2 then 0 else id - 1)) (sym f) ∙ e in omega arith

pub wanted_there : (i : ℕ) (c : ℕ × List LockRequest) (w : LockRequest) → In w (of_cell (suc i) (Some c)) → (c.0 ≡ suc (suc i)) × In w c.1
wanted_there i c w h = by (cell_of c.0 == suc i) refl h
  where
    by : (b : Bool) → (cell_of c.0 == suc i) ≡ b → In w (if b then c.1 else []) → (c.0 ≡ suc (suc i)) × In w c.1
    by true f k = (table_at c.0 i (eqb-true (cell_of c.0) (suc i) f), k)
    by false f k = absurd k

module _ (w u : LockRequest) (conflicts : requests_conflict w u ≡ true) where
  in_catalog : (m n : Option Mode) → In w (of_catalog m) → In u (of_catalog n) → catalog_clash m n ≡ true
  unfolding same_item
  in_catalog None n h k = absurd h
  in_catalog (Some m) None h k = absurd k
  in_catalog (Some m) (Some n) (inl e) (inl f) = subst₂ (λ (a b : LockRequest). requests_conflict a b ≡ true) (sym e) (sym f) conflicts
  in_catalog (Some m) (Some n) (inr e) k = absurd e
  in_catalog (Some m) (Some n) (inl e) (inr f) = absurd f

  in_table : (i : ℕ) (c d : CellRequests) → In w (of_cell (suc i) c) → In u (of_cell (suc i) d) → cells_clash c d ≡ true
  in_table i None d h k = absurd h
  in_table i (Some c) None h k = absurd k
  in_table i (Some c) (Some d) h k = let m = wanted_there i c w h in let n = wanted_there i d u k in
      ap₂ (λ (q r : Bool). q && r) (eq-eqb c.0 d.0 (m.0 ∙ sym n.0)) (any_in (λ z. list_any (requests_conflict z) d.1) w c.1 m.1 (any_in (requests_conflict w) u d.1 n.1 conflicts))

  -- their statements clash
  pub clash_there : (v : Server) (defs : Defs) (o p : Bool) (text : Text) (a : Text × Bool) (i : ℕ) → IsRequested v defs o i (text, true) w → IsRequested v defs p i a u → Clashes v.meaning defs o text p a
  clash_there v defs o p text a zero h k = inl (v.real.in_catalog o p text a.0 ∙ in_catalog (requests_catalog o (v.reads text)) (requests_catalog p (v.reads a.0)) h k)
  clash_there v defs o p text a (suc i) h k = inr (k.0, v.real.in_table defs o p text a.0 ∙ in_table i (requests_cell defs (v.reads text)) (requests_cell defs (v.reads a.0)) h.1 k.1)

-- ---- what the history asks for

module _ (v : Server) (h : List Act) (ledger : LedgerCell) (c : Contents) (seats : List SeatState) (agree : TranscriptsAgree v h ledger seats)
    (cover : LocksCover v c (known v.reads ledger.items) seats) (were_asked : LocksWereAsked v h c (known v.reads ledger.items)) where
  abbrev W : World
  W = run first h

  abbrev D : Defs
  D = defs_of (serial v.reads ledger.items)

  -- the seat whose transaction has the lock, and that this is what asked for it
  module _ (i : ℕ) (lock : Hold) (has : In lock (c.holds i)) where
    pub theirs : Belongs seats i lock
    theirs = cover.belong i lock has

    pub b : InTransaction v.meaning h (agree.of_seat theirs.j) theirs.x theirs.o
    b = in_transaction v h ledger seats agree theirs.j theirs.x theirs.o theirs.has

    pub was : IsAskedFor v W.at D i lock
    was = were_asked i lock has

    pub one_session : was.asked.session ≡ b.runs.number
    one_session = ⊎_elim (λ (e : was.asked.session ≡ b.runs.number). e)
        (λ (ne : was.asked.session ≢ b.runs.number). absurd ((apart v h ledger seats agree).apart was.asked.session b.runs.number was.asked.transaction b.transaction ne was.asked.has b.has (was.asked.is ∙ sym theirs.mine ∙ sym b.is.id)))
        (cases_eq was.asked.session b.runs.number)

    pub one_transaction : was.asked.transaction ≡ b.transaction
    one_transaction = let e : Some was.asked.transaction ≡ Some b.transaction = sym was.asked.has ∙ ap (λ (n : ℕ). (W.at n).transaction) one_session ∙ b.has in cc

    holder_lock : (n : ℕ) → i ≡ n → HasLock c catalog_at theirs.o.id
    holder_lock zero e = record { hold = lock; has = subst (λ (n : ℕ). In lock (c.holds n)) e has; mine = sym theirs.mine }
    holder_lock (suc n) e = cover.catalog n theirs.o.id (record { hold = lock; has = subst (λ (n : ℕ). In lock (c.holds n)) e has; mine = sym theirs.mine })

    pub now : defs_of (history.serial v.meaning v.meaning.first W.items) ≡ D
    now = ap (λ (items : List JournalItem). defs_of (history.serial v.meaning v.meaning.first items)) agree.items ∙ ap defs_of (same_serial v.reads v.hashing v.meaning v.real ledger.items)

    later : (m : ℕ) → EndsAt theirs.o.end m → defs_of (history.after_tx v.meaning v.meaning.first m W.items) ≡ D
    later m e = ap (λ (items : List JournalItem). defs_of (history.after_tx v.meaning v.meaning.first m items)) agree.items ∙ ap defs_of (same_upto v m ledger.items) ∙ sym (cover.definitions theirs.j theirs.x theirs.o m theirs.has e (holder_lock i refl))

    -- the definitions over which the clash stands are those of the journal
    tables_at_end_over : (e : End) → theirs.o.end ≡ e → v.meaning.defs (tables_at_end v.meaning W.items e) ≡ D
    tables_at_end_over unfixed q = v.real.defs _ ∙ now
    tables_at_end_over (committed m) q = v.real.defs _ ∙ later m (subst (λ (e : End). EndsAt e m) (sym q) refl)
    tables_at_end_over (ended m back) q = v.real.defs _ ∙ later m (subst (λ (e : End). EndsAt e m) (sym q) refl)

    pub over_theirs : v.meaning.defs (tables_at_end v.meaning W.items was.asked.transaction.fixed) ≡ D
    over_theirs = ap (λ (d : SessionTransaction). v.meaning.defs (tables_at_end v.meaning W.items d.fixed)) one_transaction ∙ ap (λ (e : End). v.meaning.defs (tables_at_end v.meaning W.items e)) b.is.end ∙ tables_at_end_over theirs.o.end refl

    -- a statement of an open transaction whose want conflicts with it
    module _ (j : ℕ) (x : Session) (o : OpenTransaction) (mine : HasOpen seats j x o) (open_end : o.end ≡ unfixed) (foreign : lock.tx ≢ o.id)
        (text : Text) (w : LockRequest) (wanted : IsRequested v D o.explicit i (text, true) w) (conflicts : requests_conflict w lock.request ≡ true) where
      abbrev d : InTransaction v.meaning h (agree.of_seat j) x o
      d = in_transaction v h ledger seats agree j x o mine

      differs : was.asked.session ≢ d.runs.number
      differs e = let same : Some was.asked.transaction ≡ Some d.transaction = sym was.asked.has ∙ ap (λ (n : ℕ). (W.at n).transaction) e ∙ d.has in
          let one : was.asked.transaction ≡ d.transaction = cc in foreign (sym was.asked.is ∙ ap (λ (z : SessionTransaction). z.id) one ∙ d.is.id)

      clashes : Clashes v.meaning (v.meaning.defs (tables_at_end v.meaning W.items was.asked.transaction.fixed)) d.transaction.explicit text was.asked.transaction.explicit was.statement
      clashes = subst (λ (ds : Defs). Clashes v.meaning ds d.transaction.explicit text was.asked.transaction.explicit was.statement) (sym over_theirs)
          (subst₂ (λ (p q : Bool). Clashes v.meaning D p text q was.statement) (sym d.is.explicit) (sym was.asked.by_begin)
          (clash_there w lock.request conflicts v D o.explicit was.explicit text was.statement i wanted was.wanted))

      pub meets_it : Meets v.meaning W d.runs.number text lock.tx
      meets_it = record {
        mine = d.transaction;
        stands = record { runs = d.runs.now.running; has = d.has; unfixed = d.is.end ∙ open_end };
        other = was.asked.session;
        differs = differs;
        theirs = was.asked.transaction;
        has = was.asked.has;
        is = was.asked.is;
        clash = some_in (Clashes v.meaning (v.meaning.defs (tables_at_end v.meaning W.items was.asked.transaction.fixed)) d.transaction.explicit text was.asked.transaction.explicit) was.statement was.asked.transaction.asked was.asked.asked clashes;
      }
