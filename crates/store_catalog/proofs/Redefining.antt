-- What ALTER TABLE and DROP TABLE come to, in the cell and in the transaction's context.
use Rattle.std.proofs.Common.{◌≡◌, ℕ, ◌+◌, refl, sym, ap, subst, ◌∙◌, List, [], ◌∷◌, map, length, arith}
use Rattle.std.specs.List.{AllByRecursion}
use Rattle.sql_types.specs.declared.change.Change.{Change}
use Rattle.sql_types.specs.declared.table.TableDef.{TableDef}
use Rattle.sql_types.specs.declared.version.Version.{Version}
use Rattle.format_event.specs.Leaf.{event_bytes}
use Rattle.spec_model.specs.Alter.{Altered}
use Rattle.spec_model.specs.Changes.{changed_all}
use Rattle.spec_model.specs.Runs.{MadeBefore}
use Rattle.spec_protocol.specs.CatalogVisits.{with_altered, with_altered_leaves}
use Rattle.spec_protocol.specs.Cells.{CatalogCell}
use Rattle.spec_protocol.specs.Doing.{events_from, grown}
use Rattle.spec_protocol.specs.Moves.{noting}
use Rattle.spec_protocol.specs.Seats.{OpenTransaction, Tree}
use Rattle.store_tx.specs.Represents.{Represents}
use Rattle.store_tx.specs.declared.context.TxCtx.{TxCtx}
use Rattle.store_catalog.specs.Calls.{HasAltered}
use Rattle.store_catalog.specs.Definitions.{redefined}
use Rattle.store_catalog.specs.Noted.{with_leaves}
use Rattle.store_catalog.specs.Rows.{starts_of, IsRow}
use Rattle.store_catalog.proofs.Creates.{as_events, as_many, cell_of}
use Rattle.store_catalog.proofs.NotedLeaves.{same_grown, same_leaves}

-- the definition and its one row
abbrev pub in_columns : TableDef → Change → Altered
in_columns def row = record { def = def; first = []; second = row ∷ [] }

abbrev pub in_tables : TableDef → Change → Altered
in_tables def row = record { def = def; first = row ∷ []; second = [] }

-- ---- the cell

module _ (tx seq : ℕ) (def : TableDef) (row : Change) (c d : CatalogCell) (vs : List Version) where
  pub column_altered : vs ≡ changed_all tx seq (row ∷ []) c.columns → d ≡ redefined tx def (cell_of c.defs c.creator c.tables vs c.holds) → d ≡ with_altered tx seq (in_columns def row) c.holds c
  unfolding changed_all
  column_altered now e =
      let at : seq ≡ seq + 0 = omega arith in
      e
      ∙ ap (λ (us : List Version). redefined tx def (cell_of c.defs c.creator c.tables us c.holds)) (now ∙ ap (λ (n : ℕ). changed_all tx n (row ∷ []) c.columns) at)

  pub table_gone : vs ≡ changed_all tx seq (row ∷ []) c.tables → d ≡ redefined tx def (cell_of c.defs c.creator vs c.columns c.holds) → d ≡ with_altered tx seq (in_tables def row) c.holds c
  unfolding changed_all
  table_gone now e = e ∙ ap (λ (us : List Version). redefined tx def (cell_of c.defs c.creator us c.columns c.holds)) now

-- ---- the context

module _ {H : Type 0} (digest : H → List ℕ → List ℕ) where
  -- one row started in a table of the system, and this is its leaf
  module _ (table tx seq : ℕ) (row : Change) (is_row : IsRow row) (ls : List (List ℕ)) (leaves : ls ≡ map event_bytes (starts_of table tx seq (row ∷ [])))
      (vs ws : List Version) (old : AllByRecursion (MadeBefore tx seq) vs) (now : ws ≡ changed_all tx seq (row ∷ []) vs) where
    pub one_leaf : length ls ≡ 1
    one_leaf = as_many table tx seq seq (row ∷ []) ls leaves (is_row, tt)

    one_noted : (h : H) (ctx : TxCtx H) (o : OpenTransaction) (n : ℕ) → n ≡ seq + 1 → Represents digest h ctx (noting (seq + length ls) (with_leaves table ls o.trees) o)
        → Represents digest h ctx (noting n (grown table (events_from tx seq table ws) o.trees) o)
    one_noted h ctx o n is r =
        same_leaves digest h ctx o (seq + length ls) n (with_leaves table ls o.trees) (grown table (events_from tx seq table ws) o.trees)
        (same_grown table ls (events_from tx seq table ws) o.trees o.trees
        (as_events table tx seq seq (row ∷ []) ls leaves (is_row, tt) vs ws (omega arith) old old now) (λ id. refl))
        (omega (arith, one_leaf, is)) r

    -- for each transaction of which the context may be
    pub has_altered : (a : Altered) (c d : CatalogCell) → d ≡ with_altered tx seq a c.holds c → ((trees : List Tree) → with_altered_leaves tx seq a.first d trees ≡ grown table (events_from tx seq table ws) trees)
        → length a.first + length a.second ≡ 1
        → (h : H) (ctx : TxCtx H) (o : OpenTransaction) → tx ≡ o.id → seq ≡ o.seq → Represents digest h ctx (noting (o.seq + length ls) (with_leaves table ls o.trees) o)
        → HasAltered digest h c a o d ctx
    has_altered a c d cell trees one h ctx o i s r =
        let now_seen : Represents digest h ctx (noting (seq + length a.first + length a.second) (with_altered_leaves tx seq a.first d o.trees) o) =
        subst (λ (ts : List Tree). Represents digest h ctx (noting (seq + length a.first + length a.second) ts o)) (sym (trees o.trees))
        (one_noted h ctx o (seq + length a.first + length a.second) (omega (arith, one)) (subst (λ (n : ℕ). Represents digest h ctx (noting (n + length ls) (with_leaves table ls o.trees) o)) (sym s) r)) in
        record {
          cell = subst (λ (n : ℕ). d ≡ with_altered n o.seq a c.holds c) i (subst (λ (n : ℕ). d ≡ with_altered tx n a c.holds c) s cell);
          context = subst (λ (n : ℕ). Represents digest h ctx (noting (o.seq + length a.first + length a.second) (with_altered_leaves n o.seq a.first d o.trees) o)) i
              (subst (λ (n : ℕ). Represents digest h ctx (noting (n + length a.first + length a.second) (with_altered_leaves tx n a.first d o.trees) o)) s now_seen);
        }
