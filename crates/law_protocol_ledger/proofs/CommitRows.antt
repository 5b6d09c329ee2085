-- A commit leaves rows in agreement, where its script changes no definitions: each key is as the transaction made it or as it was.
use Rattle.std.proofs.Common.{◌≡◌, ◌≢◌, Bool, List, None, Option, Some, [], ap, arith, false, inl, inr, refl, subst, sym, true, ℕ, ◌∙◌, ◌∷◌, ◌≤◌, ◌⊎◌, ⊎_elim}
use Rattle.sql_types.specs.declared.statement.Stmt.TheVariants as s
use Rattle.sql_types.specs.declared.lock.Hold.{Hold}
use Rattle.spec_protocol.specs.Cells.{Cell, catalog_at, cell_of}
use Rattle.spec_protocol.specs.Contents.{Contents, HasAlone, Known, contents, known}
use Rattle.law_frame.proofs.UndoneWhole.{CreatesNot, undone_at}
use Rattle.spec_model.specs.Catalog.{Defs, Tables, defs_of, versions_of}
use Rattle.spec_history.specs.Lists.{Each, In, Text}
use Rattle.law_protocol_steps.proofs.Excluded.{HasNoX, HasX, has_x_or_not}
use Rattle.spec_protocol.specs.OpenOnes.{HasOpen, script_end, texts_so_far}
use Rattle.spec_protocol.specs.RequestsIn.{Holds, of_cell, requests_at, requests_in}
use Rattle.spec_protocol.specs.RowsAgree.{IsFree, RowsAgree, key_rows}
use Rattle.law_frame.proofs.SameEnds.{IsShort}
use Rattle.spec_model.specs.Keys.{Key, of_key, same_key, version_key}
use Rattle.spec_protocol.specs.Seats.{OpenTransaction, SeatState, Session}
use Rattle.spec_model.specs.Runs.{Rising, Sound}
use Rattle.spec_protocol.specs.Server.{Server}
use Rattle.spec_protocol.specs.StandTogether.{History, Stands}
use Rattle.sql_types.specs.declared.statement.Stmt.{Stmt}
use Rattle.sql_types.specs.declared.version.Version.{Version}
use Rattle.sql_types.specs.declared.lock.LockRequest.{LockRequest}
use Rattle.sql_types.specs.declared.lock.Item.TheVariants.{Whole}
use Rattle.law_protocol_steps.proofs.Ids.{below, differ, others}
use Rattle.std.proofs.lemmas.Bool.{cases_eq}
use Rattle.spec_model.specs.Locks.{cell_requests, whole}
use Rattle.spec_model.specs.Agreement.{columns_at, requests_of}
use Rattle.spec_protocol.specs.OpenScripts.{counted}
use Rattle.spec_model.specs.Reach.{creates, lets_change}
use Rattle.law_frame.proofs.SameTouched.{filter_both}
use Rattle.law_protocol_steps.proofs.OthersScripts.{is_short, locked, sound_for}
use Rattle.spec_model.specs.Touched.{is_touched, touched}
use Rattle.law_protocol_steps.proofs.ScriptLeaves.{kept_and_undone, key_left, none_requested_by}
use Rattle.law_frame.proofs.LegalSound.{legal_sound}
use Rattle.law_protocol_changes.proofs.Apart.{none_besides}
use Rattle.law_protocol_steps.proofs.AssignsId.{others_in_journal}
use Rattle.law_frame.proofs.OtherTransactions.{others_sound}
use Rattle.law_frame.proofs.AtTable.{rising_at}
use Rattle.law_protocol_changes.proofs.ChangedRows.{rising_filter, undone_of_key}
use Rattle.law_protocol_ledger.proofs.CommittedMore.{same_by_undo}
use Rattle.law_protocol_steps.proofs.OthersScripts.{same_end}
use Rattle.spec_model.specs.ScriptRequests.{text_requests}
use Rattle.spec_model.specs.Undo.{undone, versions_undone}
use Rattle.spec_history.specs.Transactions.{unfixed}
use Rattle.law_protocol_steps.proofs.Taken.{whole_alone}
use Rattle.sql_types.specs.declared.lock.Mode.TheVariants.{X}

module _ (v : Server) (cells : List Cell) (seats : List SeatState) {history : History} (st : Stands v history cells seats) (j : ℕ) (x : Session) (o : OpenTransaction) (has : HasOpen seats j x o) (open_end : o.end ≡ unfixed)
    (counts : (id : ℕ) (ws : List Version) → counted o.id id x.place ws ≡ ws)
    (nobody_alone : (i : ℕ) (z : Session) (u : OpenTransaction) → i ≢ j → HasOpen seats i z u → HasAlone (contents cells) u.id → ⊥) where
  abbrev c : Contents
  c = contents cells

  abbrev k : Known
  k = known v.reads st.ledger.items

  abbrev T : Tables
  T = k.tables

  abbrev left : Tables
  left = (script_end v T x o).state.tables

  -- ---- who has no X on a key leaves it

  module _ (i : ℕ) (z : Session) (u : OpenTransaction) (has_u : HasOpen seats i z u) (open_u : u.end ≡ unfixed) where
    short : u.explicit ≡ false → IsShort v.reads u.id (texts_so_far z u)
    short = is_short v z u (st.open_scripts i z u has_u open_u).alone

    pub leaves_key : (id : ℕ) (key : Key) → HasNoX (c.holds (cell_of id)) u.id key → key_rows T id key (versions_of (script_end v T z u).state.tables id) ≡ key_rows T id key (versions_of T id)
    leaves_key id key free = key_left v.reads T u.id (sound_for v cells seats st i z u has_u open_u) id key u.explicit (texts_so_far z u) short
        (none_requested_by c.holds u.id id key free v (defs_of T) u.explicit (texts_so_far z u) (locked v cells seats st i z u has_u open_u))

  -- ---- nobody else creates

  hold_is : (h : Hold) (id : ℕ) → h.tx ≡ id → h.request.item ≡ Whole → h.request.mode ≡ X → h ≡ record { tx = id; request = whole X }
  hold_is h id a b m = λ n. record { tx = a n; request = record { item = b n; mode = m n } }

  stmt_not : (i : ℕ) (z : Session) (u : OpenTransaction) → i ≢ j → HasOpen seats i z u → (stmt : Stmt) → u.explicit ≡ false → Each (Holds (c.holds catalog_at) u.id) (requests_at catalog_at (requests_of (defs_of T) u.explicit stmt)) → creates stmt ≡ false
  stmt_not i z u ne has_u stmt own h = by_request (creates stmt) refl (subst (λ b. Each (Holds (c.holds catalog_at) u.id) (requests_at catalog_at (requests_of (defs_of T) b stmt))) own h)
    where
      alone : (ws : List LockRequest) → Each (Holds (c.holds catalog_at) u.id) (whole X ∷ ws) → ⊥
      alone ws g = nobody_alone i z u ne has_u (subst (λ l. In l (c.holds catalog_at)) (hold_is g.0.hold u.id g.0.mine (whole_alone g.0.hold.request.item g.0.item) g.0.mode) g.0.has)

      by_stmt : (d : Stmt) → creates d ≡ true → Each (Holds (c.holds catalog_at) u.id) (requests_at catalog_at (requests_of (defs_of T) false d)) → ⊥
      by_stmt (s.Create d) e g = alone (of_cell catalog_at (cell_requests (defs_of T) (s.Create d))) g
      by_stmt (s.Index d) e g = alone (of_cell catalog_at (cell_requests (defs_of T) (s.Index d))) g
      by_stmt (s.Alter a) e g = alone (of_cell catalog_at (cell_requests (defs_of T) (s.Alter a))) g
      by_stmt (s.Drop name) e g = alone (of_cell catalog_at (cell_requests (defs_of T) (s.Drop name))) g
      by_stmt d e g = cc

      by_request : (b : Bool) → creates stmt ≡ b → Each (Holds (c.holds catalog_at) u.id) (requests_at catalog_at (requests_of (defs_of T) false stmt)) → creates stmt ≡ false
      by_request false e g = e
      by_request true e g = absurd (by_stmt stmt e g)

  module _ (i : ℕ) (z : Session) (u : OpenTransaction) (ne : i ≢ j) (has_u : HasOpen seats i z u) (open_u : u.end ≡ unfixed) where
    module _ (S : Tables) (sound : Sound u.id 0 S) where
      text_not : (t : Option Stmt) → u.explicit ≡ false → Each (Holds (c.holds catalog_at) u.id) (requests_at catalog_at (text_requests (defs_of T) u.explicit t)) → CreatesNot v.reads S u.id sound t
      text_not None own h = tt
      text_not (Some stmt) own h = stmt_not i z u ne has_u stmt own h

      texts_not : u.explicit ≡ false → (ts : List Text) → Each (λ t. Each (Holds (c.holds catalog_at) u.id) (requests_in v (defs_of T) u.explicit catalog_at t)) ts → Each (λ t. CreatesNot v.reads S u.id sound (v.reads t)) ts
      texts_not own [] h = tt
      texts_not own (t ∷ ts) h = (text_not (v.reads t) own h.0, texts_not own ts h.1)

      -- so its script keeps the definitions, and undone as a whole leaves the tables, over any that are sound for it
      pub undone_end : (defs_of (script_end v S z u).state.tables ≡ defs_of S) × (undone u.id 0 (script_end v S z u).state.tables ≡ S)
      undone_end = kept_and_undone v.reads S u.id sound u.explicit (texts_so_far z u) (short i z u has_u open_u) (λ own. texts_not own (texts_so_far z u) (locked v cells seats st i z u has_u open_u catalog_at))

    differ_ids : o.id ≢ u.id
    differ_ids = differ v history st.ledger seats st.transcripts_agree j i x z o u (λ e. ne (sym e)) has has_u

    sound_t : Sound u.id 0 T
    sound_t = sound_for v cells seats st i z u has_u open_u

    pub sound_left : Sound u.id 0 left
    sound_left = others_sound o.id u.id 0 differ_ids v.reads o.explicit T (texts_so_far x o) (sound_for v cells seats st j x o has open_end) sound_t

    -- where it has X, the committed transaction has none
    free_of : (id : ℕ) (key : Key) (h : Hold) → In h (c.holds (cell_of id)) → h.tx ≡ u.id → lets_change key h.request ≡ true → HasNoX (c.holds (cell_of id)) o.id key
    free_of id key h is mine reach = none_besides v cells seats st (cell_of id) o.id key h is (λ e. differ_ids (sym e ∙ mine)) reach

    abbrev over_t : Tables
    over_t = (script_end v T z u).state.tables

    abbrev over_left : Tables
    over_left = (script_end v left z u).state.tables

    -- a third transaction, that hasn't begun, for the order of versions
    next_sound : Sound st.ledger.next 0 T
    next_sound = legal_sound v.reads st.ledger.items st.ledger.next st.ledger_is_legal.legal (others st.ledger.next st.ledger.items (others_in_journal v cells seats st))

    not_next : (i : ℕ) (z : Session) (u : OpenTransaction) → HasOpen seats i z u → u.id ≢ st.ledger.next
    not_next i z u w e = let l = below v history st.ledger seats st.transcripts_agree i z u w in absurd (omega arith)

    rising_t : (id : ℕ) → Rising (versions_of over_t id)
    rising_t id = rising_at st.ledger.next 0 id over_t (others_sound u.id st.ledger.next 0 (not_next i z u has_u) v.reads u.explicit T (texts_so_far z u) sound_t next_sound).each

    rising_left : (id : ℕ) → Rising (versions_of over_left id)
    rising_left id = rising_at st.ledger.next 0 id over_left (others_sound u.id st.ledger.next 0 (not_next i z u has_u) v.reads u.explicit left (texts_so_far z u) sound_left
        (others_sound o.id st.ledger.next 0 (not_next j x o has) v.reads o.explicit T (texts_so_far x o) (sound_for v cells seats st j x o has open_end) next_sound)).each

    abbrev rows : ℕ → Key → List Version → List Version
    rows id key vs = key_rows T id key vs

    touched_rows : (id : ℕ) (key : Key) (V : List Version) → touched u.id (rows id key V) ≡ rows id key (touched u.id V)
    touched_rows id key V = sym (filter_both (λ w. same_key (version_key (columns_at (defs_of T) id) w) key) (is_touched u.id) V)

    undone_rows : (S : Tables) (id : ℕ) (key : Key) → undone u.id 0 (script_end v S z u).state.tables ≡ S → versions_undone u.id 0 (rows id key (versions_of (script_end v S z u).state.tables id)) ≡ rows id key (versions_of S id)
    undone_rows S id key e = undone_of_key (columns_at (defs_of T) id) key u.id 0 (versions_of (script_end v S z u).state.tables id)
        ∙ ap (rows id key) (sym (undone_at u.id 0 (script_end v S z u).state.tables id) ∙ ap (λ (U : Tables). versions_of U id) e)

    -- the rows on which it has X are as its script made them
    pub same_rows : (id : ℕ) (key : Key) (h : Hold) → In h (c.holds (cell_of id)) → h.tx ≡ u.id → lets_change key h.request ≡ true → rows id key (versions_of over_t id) ≡ rows id key (versions_of over_left id)
    same_rows id key h is mine reach = same_by_undo u.id (rows id key (versions_of over_t id)) (rows id key (versions_of over_left id))
        (rising_filter (λ w. same_key (version_key (columns_at (defs_of T) id) w) key) (versions_of over_t id) (rising_t id))
        (rising_filter (λ w. same_key (version_key (columns_at (defs_of T) id) w) key) (versions_of over_left id) (rising_left id))
        (touched_rows id key (versions_of over_t id) ∙ ap (rows id key) ((same_end v cells seats st j x o has open_end i z u ne has_u open_u).mine id) ∙ sym (touched_rows id key (versions_of over_left id)))
        (undone_rows T id key (undone_end T sound_t).1 ∙ sym (leaves_key j x o has open_end id key (free_of id key h is mine reach)) ∙ sym (undone_rows left id key (undone_end left sound_left).1))

  -- ---- all

  module _ (m : ℕ → Bool) (own_there : m o.id ≡ true) (others_there : (n : ℕ) → n ≢ o.id → m n ≡ k.has n) (defs : defs_of left ≡ defs_of T) (then_seats : List SeatState) (then_after : ℕ → Tables)
      (opens : (i : ℕ) (z : Session) (u : OpenTransaction) → HasOpen then_seats i z u → u.end ≡ unfixed → (i ≢ j) × HasOpen seats i z u) where
    abbrev after : Known
    after = record { tables = left; after = then_after; has = m }

    -- keys are by the same columns
    over : (P : Defs → Type 0) → P (defs_of T) → P (defs_of left)
    over P p = subst P (sym defs) p

    not_there : (h : Hold) → m h.tx ≡ false → (h.tx ≢ o.id) × (k.has h.tx ≡ false)
    not_there h e = let ne : h.tx ≢ o.id = λ same. (let no : true ≡ false = sym own_there ∙ ap m (sym same) ∙ e in cc) in (ne, sym (others_there h.tx ne) ∙ e)

    free_then : (id : ℕ) (key : Key) → 1 ≤ id → IsFree (c.holds (cell_of id)) m key → key_rows T id key (c.versions id) ≡ key_rows T id key (versions_of left id)
    free_then id key l f = by (has_x_or_not (c.holds (cell_of id)) o.id key)
      where
        was_free : HasNoX (c.holds (cell_of id)) o.id key → IsFree (c.holds (cell_of id)) k.has key
        was_free none h is reach = ⊎_elim
            (λ (e : h.tx ≡ o.id). let no : true ≡ false = sym reach ∙ none h is e in cc)
            (λ (ne : h.tx ≢ o.id). sym (others_there h.tx ne) ∙ f h is reach)
            (cases_eq h.tx o.id)

        by : HasX (c.holds (cell_of id)) o.id key ⊎ HasNoX (c.holds (cell_of id)) o.id key → key_rows T id key (c.versions id) ≡ key_rows T id key (versions_of left id)
        by (inl w) = sym (counts id (key_rows T id key (c.versions id))) ∙ st.rows_agree.own j x o has open_end id key l w.hold w.has w.mine w.reaches
        by (inr none) = st.rows_agree.free id key l (was_free none) ∙ sym (leaves_key j x o has open_end id key none)

    undone_then : (id : ℕ) (key : Key) → 1 ≤ id → (h : Hold) → In h (c.holds (cell_of id)) → m h.tx ≡ false → lets_change key h.request ≡ true → versions_undone h.tx 0 (key_rows T id key (c.versions id)) ≡ key_rows T id key (versions_of left id)
    undone_then id key l h is e reach = let n = not_there h e in st.rows_agree.undone id key l h is n.1 reach
        ∙ sym (leaves_key j x o has open_end id key (none_besides v cells seats st (cell_of id) o.id key h is n.0 reach))

    own_then : (i : ℕ) (z : Session) (u : OpenTransaction) → HasOpen then_seats i z u → u.end ≡ unfixed → (id : ℕ) (key : Key) → 1 ≤ id → (h : Hold) → In h (c.holds (cell_of id)) → h.tx ≡ u.id → lets_change key h.request ≡ true
        → counted u.id id z.place (key_rows T id key (c.versions id)) ≡ key_rows T id key (versions_of (script_end v left z u).state.tables id)
    own_then i z u w e id key l h is mine reach = let was = opens i z u w e in st.rows_agree.own i z u was.1 e id key l h is mine reach ∙ same_rows i z u was.0 was.1 e id key h is mine reach

    pub rows_then : RowsAgree v c k then_seats → RowsAgree v c after then_seats
    rows_then r = record {
      free = λ id key l f. over (λ ds. of_key (columns_at ds id) key (c.versions id) ≡ of_key (columns_at ds id) key (versions_of left id)) (free_then id key l f);
      own = λ i z u w e id key l h is mine reach. over (λ ds. counted u.id id z.place (of_key (columns_at ds id) key (c.versions id)) ≡ of_key (columns_at ds id) key (versions_of (script_end v left z u).state.tables id)) (own_then i z u w e id key l h is mine reach);
      undone = λ id key l h is e reach. over (λ ds. versions_undone h.tx 0 (of_key (columns_at ds id) key (c.versions id)) ≡ of_key (columns_at ds id) key (versions_of left id)) (undone_then id key l h is e reach);
      rising = r.rising;
      back = r.back;
      explicit = r.explicit;
      before = r.before;
    }
