-- A transaction whose end is fixed undoes what it did in a table's cell, unless it is committed, and gives its locks there up: the rows
-- agree key by key.
use Rattle.std.proofs.Common.{◌≡◌, ◌≢◌, ◌⊎◌, ℕ, ◌≤◌, Bool, true, false, List, set, Some, refl, sym, ap, ◌∙◌, subst, inl, inr, ⊎_elim, arith}
use Rattle.std.proofs.lemmas.Bool.{cases_eq, eq-eqb, ne_eqb}
use Rattle.std.specs.Prelude.{◌==◌, not}
use Rattle.std.specs.List.{AllByRecursion}
use mathlib.Core.Option.{some}
use lib.ListN.{get_elem?}
use Rattle.sql_value.specs.declared.column.ColumnDef.{ColumnDef}
use Rattle.sql_types.specs.declared.version.Version.{Version}
use Rattle.spec_model.specs.Keys.{Key, of_key}
use Rattle.spec_model.specs.Catalog.{Tables, defs_of, versions_of}
use Rattle.spec_model.specs.Agreement.{columns_at}
use Rattle.spec_model.specs.Reach.{lets_change}
use Rattle.spec_model.specs.Runs.{Rising, MadeBefore}
use Rattle.spec_model.specs.Undo.{versions_undone}
use Rattle.law_frame.proofs.UndoneVersions.{nothing_undone}
use Rattle.spec_history.specs.Lists.{In}
use Rattle.spec_history.specs.Transactions.{unfixed}
use Rattle.spec_protocol.specs.Server.{Server}
use Rattle.sql_types.specs.declared.lock.Hold.{Hold}
use Rattle.spec_protocol.specs.Cells.{TableCell, Cell, Rows, holds_at, versions_at, cell_of}
use Rattle.spec_protocol.specs.Seats.{OpenTransaction, SessionStatus, Session, session, SeatState}
use Rattle.spec_protocol.specs.OpenOnes.{HasOpen, script_end}
use Rattle.spec_protocol.specs.OpenScripts.{counted}
use Rattle.spec_protocol.specs.Moves.{releasing, at_place, sits}
use Rattle.spec_protocol.specs.RowsAgree.{GoesBackTo, IsExplicitAt}
use Rattle.spec_protocol.specs.StandTogether.{History, Stands}
use Rattle.law_protocol_steps.proofs.SeatsAfter.{Goes, each_open}
use Rattle.law_protocol_steps.proofs.CellsAfter.{held_here, holds_here, holds_else, versions_here, were_here, versions_else}
use Rattle.law_protocol_changes.proofs.ChangedRows.{in_passed, was_in, undone_of_key, rising_undone, undone_untouched, IsCounted, all_count, some_undone, counted_is, undone_before}
use Rattle.law_protocol_steps.proofs.Excluded.{HasX, HasNoX, has_x_or_not}
use Rattle.law_protocol_changes.proofs.ChangesAt.{user_cell}
use Rattle.law_protocol_changes.proofs.ChangeKeeps.{untouched, passes}
use Rattle.law_protocol_steps.proofs.Takes.{tables_now}
use Rattle.law_protocol_steps.proofs.TakesInTable.{IsAtPlace, table_place, cell_at, users}
use Rattle.law_protocol_steps.proofs.OfCells.{IsFree, RowsAgree, in_journal}
use Rattle.law_protocol_changes.proofs.Apart.{x_apart}
use Rattle.law_protocol_steps.proofs.Ids.{others}
use Rattle.spec_model.specs.Holds.{released}
use Rattle.law_protocol_steps.proofs.Taken.{released_is}

-- what is left of the versions, by whether the transaction is committed
abbrev pub left_by : Bool → ℕ → List Version → List Version
left_by true tx vs = vs
left_by false tx vs = versions_undone tx 0 vs

pub record ReleasesTableLocks (v : Server) (cells : List Cell) (seats : List SeatState) {history : History} (S : Stands v history cells seats) (j : ℕ) (s : SeatState) (x : Session) (o : OpenTransaction) (i : ℕ) (c d : TableCell) (placed : Bool) : Type 0 where
  pub there : get_elem? seats j ≡ some s
  pub role : s.role ≡ session x
  pub open_one : x.open_one ≡ Some o
  pub fixed : o.end ≢ unfixed
  pub out : get_elem? cells i ≡ some (Rows c)
  -- whether it is committed, that is, in the journal
  pub is_placed : (n : ℕ) → in_journal S.ledger.items (o.id, n) ≡ placed
  pub versions : d.versions ≡ left_by placed o.id c.versions
  pub holds : d.holds ≡ released c.holds o.id

module _ (v : Server) (cells : List Cell) (seats : List SeatState) {history : History} (S : Stands v history cells seats) (j : ℕ) (s : SeatState) (x : Session) (o : OpenTransaction) (i : ℕ) (c d : TableCell) (placed : Bool) (K : ReleasesTableLocks v cells seats S j s x o i c d placed) where
  abbrev pub T : Tables
  T = tables_now S

  abbrev pub columns : List ColumnDef
  columns = columns_at (defs_of T) c.id

  abbrev pub p : OpenTransaction
  p = releasing i o

  abbrev pub y : Session
  y = at_place (Some p) x.place x

  abbrev pub C' : List Cell
  C' = set cells i (Rows d)

  abbrev pub seats' : List SeatState
  seats' = set seats j (sits s y)

  pub has_open : HasOpen seats j x o
  has_open = record { seat = s; there = K.there; role = K.role; open_one = K.open_one }

  pub goes : Goes seats j (sits s y) x o y p
  goes = record { before = has_open; role = refl; open_one = refl }

  pub at : IsAtPlace i c
  at = table_place cells S.catalog S.ledger i c S.are_cells K.out

  pub here : cell_of c.id ≡ i
  here = cell_at i c at

  pub user : 3 ≤ c.id
  user = let e = at.id in omega arith

  pub one_le : 1 ≤ c.id
  one_le = let u = user in omega arith

  pub only_id : (id : ℕ) → 1 ≤ id → cell_of id ≡ i → id ≡ c.id
  only_id id l e = let far = users id at.n l (e ∙ at.is) in let one = sym (user_cell id far) ∙ e ∙ sym here ∙ user_cell c.id user in omega arith

  pub by_table : (P : ℕ → Type 0) → P c.id → ((id : ℕ) → 1 ≤ id → cell_of id ≢ i → P id) → (id : ℕ) → 1 ≤ id → P id
  by_table P this others id l = ⊎_elim (λ (e : cell_of id ≡ i). subst P (sym (only_id id l e)) this) (λ (ne : cell_of id ≢ i). others id l ne) (cases_eq (cell_of id) i)

  pub rows_were : versions_at cells c.id ≡ c.versions
  rows_were = were_here cells i (Rows c) (Rows d) K.out c.id here

  pub rows_are : versions_at C' c.id ≡ left_by placed o.id c.versions
  rows_are = versions_here cells i (Rows c) (Rows d) K.out c.id here ∙ K.versions

  pub rows_else : (id : ℕ) → cell_of id ≢ i → versions_at C' id ≡ versions_at cells id
  rows_else = versions_else cells i (Rows c) (Rows d) K.out

  -- ---- locks: those of others stay, its own in this cell go

  pub was_held : (n : ℕ) (h : Hold) → In h (holds_at C' n) → In h (holds_at cells n)
  was_held n h has = ⊎_elim
      (λ (e : n ≡ i). subst (λ (m : ℕ). In h (holds_at cells m)) (sym e) (subst (In h) (sym (held_here cells i (Rows c) (Rows d) K.out))
      (was_in (λ g. not (g.tx == o.id)) h c.holds (subst (In h) (holds_here cells i (Rows c) (Rows d) K.out ∙ (K.holds ∙ released_is c.holds o.id)) (subst (λ (m : ℕ). In h (holds_at C' m)) e has)))))
      (λ (ne : n ≢ i). subst (In h) (holds_else cells i (Rows c) (Rows d) K.out n ne) has)
      (cases_eq n i)

  pub is_held : (n : ℕ) (h : Hold) → h.tx ≢ o.id → In h (holds_at cells n) → In h (holds_at C' n)
  is_held n h ne has = ⊎_elim
      (λ (e : n ≡ i). subst (λ (m : ℕ). In h (holds_at C' m)) (sym e) (subst (In h) (sym (holds_here cells i (Rows c) (Rows d) K.out ∙ (K.holds ∙ released_is c.holds o.id)))
      (in_passed (λ g. not (g.tx == o.id)) h c.holds (subst (In h) (held_here cells i (Rows c) (Rows d) K.out) (subst (λ (m : ℕ). In h (holds_at cells m)) e has)) (ap not (ne_eqb h.tx o.id ne)))))
      (λ (nd : n ≢ i). subst (In h) (sym (holds_else cells i (Rows c) (Rows d) K.out n nd)) has)
      (cases_eq n i)

  -- ---- the rows of a key

  -- where it has no X it left nothing to undo
  pub kept : (b : Bool) → ((n : ℕ) → in_journal S.ledger.items (o.id, n) ≡ b) → (key : Key) → HasNoX (holds_at cells (cell_of c.id)) o.id key → of_key columns key (left_by b o.id c.versions) ≡ of_key columns key c.versions
  kept true e key free = refl
  kept false e key free = sym (undone_of_key columns key o.id 0 c.versions)
      ∙ nothing_undone o.id 0 (of_key columns key c.versions) (subst (λ (vs : List Version). AllByRecursion (MadeBefore o.id 0) (of_key columns key vs)) rows_were (untouched v cells seats S c.id one_le key o.id e free))

  pub kept_key : (key : Key) → HasNoX (holds_at cells (cell_of c.id)) o.id key → of_key columns key (versions_at C' c.id) ≡ of_key columns key (versions_at cells c.id)
  kept_key key free = ap (of_key columns key) rows_are ∙ kept placed K.is_placed key free ∙ ap (of_key columns key) (sym rows_were)

  -- and where it has, they are as the journal leads to them
  pub given : (b : Bool) → ((n : ℕ) → in_journal S.ledger.items (o.id, n) ≡ b) → (key : Key) → HasX (holds_at cells (cell_of c.id)) o.id key → of_key columns key (left_by b o.id (versions_at cells c.id)) ≡ of_key columns key (versions_of T c.id)
  given true e key k = S.rows_agree.free c.id key one_le all_placed
    where
      all_placed : IsFree (holds_at cells (cell_of c.id)) S.ledger key
      all_placed h has reach = ⊎_elim (λ (m : h.tx ≡ o.id). ap (λ (n : ℕ). in_journal S.ledger.items (n, 0)) m ∙ e 0)
          (λ (ne : h.tx ≢ o.id). absurd (x_apart v cells seats S (cell_of c.id) key k.hold h k.has has (λ q. ne (q ∙ k.mine)) k.reaches reach)) (cases_eq h.tx o.id)
  given false e key k = sym (undone_of_key columns key o.id 0 (versions_at cells c.id))
      ∙ ap (λ (n : ℕ). versions_undone n 0 (of_key columns key (versions_at cells c.id))) (sym k.mine)
      ∙ S.rows_agree.undone c.id key one_le k.hold k.has (ap (λ (n : ℕ). in_journal S.ledger.items (n, 0)) k.mine ∙ e 0) k.reaches

  pub free_here : (key : Key) → IsFree (holds_at C' (cell_of c.id)) S.ledger key → of_key columns key (versions_at C' c.id) ≡ of_key columns key (versions_of T c.id)
  free_here key f = by (has_x_or_not (holds_at cells (cell_of c.id)) o.id key)
    where
      before_too : HasNoX (holds_at cells (cell_of c.id)) o.id key → IsFree (holds_at cells (cell_of c.id)) S.ledger key
      before_too free h has reach = ⊎_elim (λ (m : h.tx ≡ o.id). absurd (let z : lets_change key h.request ≡ false = free h has m in cc)) (λ (ne : h.tx ≢ o.id). f h (is_held (cell_of c.id) h ne has) reach) (cases_eq h.tx o.id)

      by : HasX (holds_at cells (cell_of c.id)) o.id key ⊎ HasNoX (holds_at cells (cell_of c.id)) o.id key → of_key columns key (versions_at C' c.id) ≡ of_key columns key (versions_of T c.id)
      by (inl k) = ap (of_key columns key) (rows_are ∙ ap (left_by placed o.id) (sym rows_were)) ∙ given placed K.is_placed key k
      by (inr free) = kept_key key free ∙ S.rows_agree.free c.id key one_le (before_too free)

  -- who still has X there isn't this one
  pub none_besides : (key : Key) (h : Hold) → In h (holds_at C' (cell_of c.id)) → h.tx ≢ o.id → lets_change key h.request ≡ true → HasNoX (holds_at cells (cell_of c.id)) o.id key
  none_besides key h has ne reach g k m = by (lets_change key g.request) refl
    where
      by : (b : Bool) → lets_change key g.request ≡ b → b ≡ false
      by true e = absurd (x_apart v cells seats S (cell_of c.id) key g h k (was_held (cell_of c.id) h has) (λ q. ne (q ∙ m)) e reach)
      by false e = refl

  pub not_mine : (h : Hold) → In h (holds_at C' (cell_of c.id)) → h.tx ≢ o.id
  not_mine h has m = let z : not (h.tx == o.id) ≡ true = passes (λ g. not (g.tx == o.id)) h c.holds (subst (In h) (holds_here cells i (Rows c) (Rows d) K.out ∙ (K.holds ∙ released_is c.holds o.id)) (subst (λ (n : ℕ). In h (holds_at C' n)) here has)) in
      let q : not (h.tx == o.id) ≡ false = ap not (eq-eqb h.tx o.id m) in cc

  pub key_else : (id : ℕ) (key : Key) (q : List Version → List Version) → cell_of id ≢ i → q (of_key (columns_at (defs_of T) id) key (versions_at C' id)) ≡ q (of_key (columns_at (defs_of T) id) key (versions_at cells id))
  key_else id key q ne = ap (λ (vs : List Version). q (of_key (columns_at (defs_of T) id) key vs)) (rows_else id ne)

  pub same_holds_else : (id : ℕ) (key : Key) → cell_of id ≢ i → IsFree (holds_at C' (cell_of id)) S.ledger key → IsFree (holds_at cells (cell_of id)) S.ledger key
  same_holds_else id key ne f h has reach = f h (subst (In h) (sym (holds_else cells i (Rows c) (Rows d) K.out (cell_of id) ne)) has) reach

  pub rising_left : (b : Bool) → Rising c.versions → Rising (left_by b o.id c.versions)
  rising_left true r = r
  rising_left false r = rising_undone o.id 0 c.versions r

  pub still_before : (b : Bool) (tx n id : ℕ) (place : SessionStatus) → IsCounted tx id place → GoesBackTo place n → AllByRecursion (MadeBefore tx n) (counted tx id place c.versions) → AllByRecursion (MadeBefore tx n) (counted tx id place (left_by b o.id c.versions))
  still_before true tx n id place k back h = h
  still_before false tx n id place (all_count same) back h = subst (AllByRecursion (MadeBefore tx n)) (sym (same _)) (undone_untouched tx o.id 0 n c.versions (subst (AllByRecursion (MadeBefore tx n)) (same _) h))
  still_before false tx n id place (some_undone seq to same) back h = subst (AllByRecursion (MadeBefore tx n)) (sym (same _)) (subst (λ (m : ℕ). AllByRecursion (MadeBefore tx m) (versions_undone tx seq (versions_undone o.id 0 c.versions))) (to n back) (undone_before tx seq _))

  pub rows_agree : RowsAgree v C' S.ledger seats'
  rows_agree = record {
    free = λ id key l. by_table (λ id. IsFree (holds_at C' (cell_of id)) S.ledger key → of_key (columns_at (defs_of T) id) key (versions_at C' id) ≡ of_key (columns_at (defs_of T) id) key (versions_of T id))
        (free_here key) (λ id l ne f. key_else id key (λ vs. vs) ne ∙ S.rows_agree.free id key l (same_holds_else id key ne f)) id l;
    own = each_open seats j (sits s y) x o y p goes
        (λ n z r. r.end ≡ unfixed → (id : ℕ) (key : Key) → 1 ≤ id → (h : Hold) → In h (holds_at C' (cell_of id)) → h.tx ≡ r.id → lets_change key h.request ≡ true
        → counted r.id id z.place (of_key (columns_at (defs_of T) id) key (versions_at C' id)) ≡ of_key (columns_at (defs_of T) id) key (versions_of (script_end v T z r).state.tables id))
        (λ e. absurd (K.fixed e))
        (λ n z r ne g e id key l. by_table (λ id. (h : Hold) → In h (holds_at C' (cell_of id)) → h.tx ≡ r.id → lets_change key h.request ≡ true
        → counted r.id id z.place (of_key (columns_at (defs_of T) id) key (versions_at C' id)) ≡ of_key (columns_at (defs_of T) id) key (versions_of (script_end v T z r).state.tables id))
        (λ h has m reach. ap (counted r.id c.id z.place) (kept_key key (none_besides key h has (not_mine h has) reach)) ∙ S.rows_agree.own n z r g e c.id key one_le h (was_held (cell_of c.id) h has) m reach)
        (λ id l q h has m reach. key_else id key (counted r.id id z.place) q ∙ S.rows_agree.own n z r g e id key l h (was_held (cell_of id) h has) m reach) id l);
    undone = λ id key l. by_table (λ id. (h : Hold) → In h (holds_at C' (cell_of id)) → in_journal S.ledger.items (h.tx, 0) ≡ false → lets_change key h.request ≡ true
        → versions_undone h.tx 0 (of_key (columns_at (defs_of T) id) key (versions_at C' id)) ≡ of_key (columns_at (defs_of T) id) key (versions_of T id))
        (λ h has u reach. ap (versions_undone h.tx 0) (kept_key key (none_besides key h has (not_mine h has) reach)) ∙ S.rows_agree.undone c.id key one_le h (was_held (cell_of c.id) h has) u reach)
        (λ id l q h has u reach. key_else id key (versions_undone h.tx 0) q ∙ S.rows_agree.undone id key l h (was_held (cell_of id) h has) u reach) id l;
    rising = by_table (λ id. Rising (versions_at C' id)) (subst Rising (sym rows_are) (rising_left placed (subst Rising rows_were (S.rows_agree.rising c.id one_le)))) (λ id l ne. subst Rising (sym (rows_else id ne)) (S.rows_agree.rising id l));
    back = each_open seats j (sits s y) x o y p goes (λ n z r. GoesBackTo z.place r.seq) (S.rows_agree.back j x o has_open) (λ n z r ne g. S.rows_agree.back n z r g);
    explicit = each_open seats j (sits s y) x o y p goes (λ n z r. IsExplicitAt z.place r.explicit) (S.rows_agree.explicit j x o has_open) (λ n z r ne g. S.rows_agree.explicit n z r g);
    before = each_open seats j (sits s y) x o y p goes
        (λ n z r. r.end ≡ unfixed → (id : ℕ) → 1 ≤ id → AllByRecursion (MadeBefore r.id r.seq) (counted r.id id z.place (versions_at C' id)))
        (λ e. absurd (K.fixed e))
        (λ n z r ne g e. by_table (λ id. AllByRecursion (MadeBefore r.id r.seq) (counted r.id id z.place (versions_at C' id)))
        (subst (λ (vs : List Version). AllByRecursion (MadeBefore r.id r.seq) (counted r.id c.id z.place vs)) (sym rows_are) (still_before placed r.id r.seq c.id z.place (counted_is r.id c.id z.place) (S.rows_agree.back n z r g)
        (subst (λ (vs : List Version). AllByRecursion (MadeBefore r.id r.seq) (counted r.id c.id z.place vs)) rows_were (S.rows_agree.before n z r g e c.id one_le))))
        (λ id l q. subst (λ (vs : List Version). AllByRecursion (MadeBefore r.id r.seq) (counted r.id id z.place vs)) (sym (rows_else id q)) (S.rows_agree.before n z r g e id l)));
  }
