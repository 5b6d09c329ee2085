-- What a seat's transaction finds in a table is what its script has there, where nobody else has X on it.
use Rattle.std.proofs.Common.{◌≡◌, ◌≢◌, ◌⊎◌, ℕ, ◌≤◌, Bool, true, false, List, [], ◌∷◌, map, refl, sym, ap, ◌∙◌, subst, inl, inr, ⊎_elim}
use Rattle.std.proofs.lemmas.Bool.{cases_eq}
use Rattle.std.specs.List.{AllByRecursion}
use Rattle.sql_value.specs.declared.column.ColumnDef.{ColumnDef}
use Rattle.sql_types.specs.declared.lock.Mode.{Mode}
use Rattle.sql_types.specs.declared.lock.Mode.TheVariants as mode
use Rattle.sql_types.specs.declared.lock.Item.{Item}
use Rattle.sql_types.specs.declared.lock.Item.TheVariants as item
use Rattle.sql_types.specs.declared.lock.LockRequest.{LockRequest}
use Rattle.sql_types.specs.declared.version.Version.{Version}
use Rattle.spec_model.specs.Keys.{Key, of_key}
use Rattle.spec_model.specs.Catalog.{Tables, defs_of, versions_of}
use Rattle.spec_model.specs.Journals.{Line, IsOther}
use Rattle.spec_model.specs.Agreement.{AgreeOn, AgreeOnAll, columns_at}
use Rattle.spec_model.specs.Reach.{lets_change, has_key}
use Rattle.spec_model.specs.Runs.{Rising, Sound}
use Rattle.spec_model.specs.Script.{script}
use Rattle.law_frame.proofs.AtTable.{rising_at}
use Rattle.law_frame.proofs.ByKeys.{by_keys}
use Rattle.law_frame.proofs.Definitions.{nothing_done}
use Rattle.law_frame.proofs.NoClash.{Relies}
use Rattle.law_frame.proofs.SameKeys.{same_itself}
use Rattle.law_frame.proofs.UndoneScripts.{script_sound}
use Rattle.spec_history.specs.Lists.{Text, In}
use Rattle.spec_history.specs.Transactions.{unfixed}
use Rattle.spec_protocol.specs.Server.{Server}
use Rattle.sql_types.specs.declared.lock.Hold.{Hold}
use Rattle.spec_protocol.specs.Cells.{Cell, holds_at, versions_at, cell_of}
use Rattle.spec_protocol.specs.Seats.{OpenTransaction, Session, SeatState}
use Rattle.spec_protocol.specs.OpenOnes.{HasOpen, script_so_far, texts_so_far, script_end}
use Rattle.spec_protocol.specs.OpenScripts.{counted}
use Rattle.spec_protocol.specs.StandTogether.{History, Stands}
use Rattle.law_protocol_steps.proofs.Takes.{tables_now}
use Rattle.law_protocol_steps.proofs.Excluded.{HasX, HasNoX, has_x_or_not}
use Rattle.law_protocol_steps.proofs.OfCells.{in_journal}
use Rattle.law_protocol_steps.proofs.OthersScripts.{is_short, locked, sound_for}
use Rattle.law_protocol_steps.proofs.ScriptLeaves.{key_left, none_requested_by}
use Rattle.law_protocol_steps.proofs.Ids.{others}
use Rattle.law_protocol_steps.proofs.Ids as ids

-- ---- a script that has X on no row of a key

-- ---- sound tables

module _ (v : Server) (cells : List Cell) (seats : List SeatState) {history : History} (S : Stands v history cells seats) (j : ℕ) (x : Session) (o : OpenTransaction) (has_open : HasOpen seats j x o) (fixed : o.end ≡ unfixed) where
  abbrev T : Tables
  T = tables_now S

  -- it isn't in the journal
  pub elsewhere : AllByRecursion (IsOther o.id) S.ledger.items
  elsewhere = ids.others o.id S.ledger.items (ids.outside v history S.ledger seats S.transcripts_agree j x o has_open fixed)

  -- the tables that the journal leads to have no event of an open transaction
  pub sound : Sound o.id 0 T
  sound = sound_for v cells seats S j x o has_open fixed

  module _ (whole_script : script_so_far x o ≡ o.script) where
    texts_alone : o.explicit ≡ false → texts_so_far x o ≡ []
    texts_alone e = ap (map (λ (l : Line). l.0)) (whole_script ∙ (S.open_scripts j x o has_open fixed).alone e)

    pub end_alone : o.explicit ≡ false → (script_end v T x o).state.tables ≡ T
    end_alone e = ap (λ (ts : List Text). (script v.reads o.explicit T o.id ts).state.tables) (texts_alone e) ∙ ap (λ r. r.state.tables) (nothing_done v.reads o.explicit T o.id)

    pub end_sound : Sound o.id o.seq (script_end v T x o).state.tables
    end_sound = subst (λ (n : ℕ). Sound o.id n (script_end v T x o).state.tables) (sym (S.open_scripts j x o has_open fixed).counter) (by o.explicit refl)
      where
        by : (b : Bool) → o.explicit ≡ b → Sound o.id (script_end v T x o).state.seq (script_end v T x o).state.tables
        by true e = subst (λ (b : Bool). Sound o.id (script v.reads b T o.id (texts_so_far x o)).state.seq (script v.reads b T o.id (texts_so_far x o)).state.tables) (sym e) (script_sound v.reads T o.id (texts_so_far x o) sound)
        by false e = subst (λ (ts : List Text). Sound o.id (script v.reads o.explicit T o.id ts).state.seq (script v.reads o.explicit T o.id ts).state.tables) (sym (texts_alone e))
            (subst (λ r. Sound o.id r.state.seq r.state.tables) (sym (nothing_done v.reads o.explicit T o.id)) sound)

    module _ (id : ℕ) (one_le : 1 ≤ id) where
      abbrev columns : List ColumnDef
      columns = columns_at (defs_of T) id

      abbrev V : List Version
      V = versions_at cells id

      abbrev W : List Version
      W = versions_of (script_end v T x o).state.tables id

      pub script_left : (key : Key) → HasNoX (holds_at cells (cell_of id)) o.id key → of_key columns key W ≡ of_key columns key (versions_of T id)
      script_left key free = key_left v.reads T o.id sound id key o.explicit (texts_so_far x o) (is_short v x o (S.open_scripts j x o has_open fixed).alone)
          (none_requested_by (λ n. holds_at cells n) o.id id key free v (defs_of T) o.explicit (texts_so_far x o) (locked v cells seats S j x o has_open fixed))

      module _ (counts : (vs : List Version) → counted o.id id x.place vs ≡ vs) where
        -- the rows of a key on which nobody else has X
        pub rows_for : (key : Key) → ((h : Hold) → In h (holds_at cells (cell_of id)) → h.tx ≢ o.id → lets_change key h.request ≡ false) → of_key columns key V ≡ of_key columns key W
        rows_for key others = by (has_x_or_not (holds_at cells (cell_of id)) o.id key)
          where
            not_free : HasNoX (holds_at cells (cell_of id)) o.id key → (h : Hold) → In h (holds_at cells (cell_of id)) → lets_change key h.request ≡ true → in_journal S.ledger.items (h.tx, 0) ≡ true
            not_free free h has q = absurd (⊎_elim
                (λ (e : h.tx ≡ o.id). let z : lets_change key h.request ≡ false = free h has e in cc)
                (λ (ne : h.tx ≢ o.id). let z : lets_change key h.request ≡ false = others h has ne in cc)
                (cases_eq h.tx o.id))

            by : HasX (holds_at cells (cell_of id)) o.id key ⊎ HasNoX (holds_at cells (cell_of id)) o.id key → of_key columns key V ≡ of_key columns key W
            by (inl k) = sym (counts (of_key columns key V)) ∙ S.rows_agree.own j x o has_open fixed id key one_le k.hold k.has k.mine k.reaches
            by (inr free) = S.rows_agree.free id key one_le (not_free free) ∙ sym (script_left key free)

        all_for : Rising V → Rising W → ((key : Key) → of_key columns key V ≡ of_key columns key W) → V ≡ W
        all_for r q h = by_keys columns V W r q h

        item_for : (m : Mode) (i : Item) → (Relies m → (key : Key) → has_key key i ≡ true → of_key columns key V ≡ of_key columns key W) → AgreeOn columns V W (record { item = i; mode = m })
        item_for mode.IS i h = tt
        item_for mode.IX i h = tt
        item_for mode.S item.Whole h = all_for (S.rows_agree.rising id one_le) (rising_at o.id o.seq id _ end_sound.each) (λ key. h tt key refl)
        item_for mode.X item.Whole h = all_for (S.rows_agree.rising id one_le) (rising_at o.id o.seq id _ end_sound.each) (λ key. h tt key refl)
        item_for mode.S (item.Key k) h = h tt k (same_itself k)
        item_for mode.X (item.Key k) h = h tt k (same_itself k)

        -- on wants that nobody else is in the way of, the table is as the script has it
        pub agree_on : (ws : List LockRequest) → ((w : LockRequest) → In w ws → Relies w.mode → (key : Key) → has_key key w.item ≡ true → (h : Hold) → In h (holds_at cells (cell_of id)) → h.tx ≢ o.id → lets_change key h.request ≡ false) → AgreeOnAll columns ws V W
        agree_on [] others = tt
        agree_on (w ∷ ws) others = (item_for w.mode w.item (λ r key q. rows_for key (others w (inl refl) r key q)), agree_on ws (λ u i. others u (inr i)))
