-- A cell, its versions with their orders, and its locks.
use Rattle.std.proofs.Common.{◌≡◌, ◌⊎◌, ◌+◌, ◌-◌, ℕ, zero, suc, inl, inr, refl, sym, ap, ap₂, subst, ◌∙◌, List, [], ◌∷◌, ◌++◌, length, map, slice_get, None, Some, arith}
use Rattle.sql_types.specs.declared.lock.Hold.{Hold}
use Rattle.sql_types.specs.declared.lock.LockRequest.{LockRequest}
use Rattle.sql_types.specs.declared.statement.RowStmt.{RowStmt}
use Rattle.sql_types.specs.declared.table.TableDef.{TableDef}
use Rattle.sql_types.specs.declared.table.IndexDef.{IndexDef}
use Rattle.sql_types.specs.declared.version.Version.{Version}
use Rattle.spec_model.specs.Changes.{changed_all}
use Rattle.spec_model.specs.Holds.{holds_after}
use Rattle.spec_model.specs.InTheWay.{first_conflict}
use Rattle.spec_model.specs.Keys.{key_places}
use Rattle.spec_protocol.specs.Cells.{TableCell, Index}
use Rattle.spec_protocol.specs.Doing.{grown, events_from}
use Rattle.spec_protocol.specs.Moves.{noting}
use Rattle.spec_protocol.specs.Seats.{OpenTransaction}
use Rattle.spec_protocol.specs.TablesAreSerial.{index_order, ordinals_of}
use Rattle.spec_protocol.specs.TableVisits.{new_index, with_holds, with_indexes, with_versions}
use Rattle.store_tx.specs.Represents.{Represents}
use Rattle.store_tx.specs.declared.context.TxCtx.{TxCtx}
use Rattle.store_table.specs.Calls.{LocksTaken, RowsChanged, RowsWritten}
use Rattle.store_table.specs.Stored as stored
use Rattle.store_table.specs.Stored.{Stored, reordered}

abbrev pub seen : ℕ → Stored → List Hold → TableCell
seen id s holds = record { id = id; key = s.key; versions = s.versions; order = s.order; indexes = s.indexes; holds = holds }

abbrev pub store_of : TableCell → Stored
store_of c = record { key = c.key; versions = c.versions; order = c.order; indexes = c.indexes }

module _ {H : Type 0} (digest : H → List ℕ → List ℕ) where
  pub changed_under : (c l : TableCell) (tx id : ℕ) (requests : List LockRequest) (s t : Stored) (holds : List Hold) (before after : TxCtx H) (def : TableDef) (row : RowStmt) (count : ℕ)
      → LocksTaken c tx requests l → seen id s holds ≡ l → def.id ≡ c.id → ((h : H) (o : OpenTransaction) → Represents digest h before o → tx ≡ o.id)
      → RowsWritten digest s before def row count t after → RowsChanged digest c before def row requests count (seen id t holds) after
  changed_under c l tx id requests s t holds before after def row count locks is here of_tx written =
      let whole : seen id s holds ≡ with_holds (holds_after c.holds tx requests) c = is ∙ locks.cell in
      let same : s ≡ store_of c = ap store_of whole in
      let w : RowsWritten digest (store_of c) before def row count t after = subst (λ (x : Stored). RowsWritten digest x before def row count t after) same written in
      record {
        changes = w.changes;
        changed = w.changed;
        made = λ h o r.
            let mine = of_tx h o r in
            let one = w.written h o r in
            record {
              free = subst (λ (n : ℕ). first_conflict c.holds n requests ≡ None) mine locks.free;
              cell = ap₂ (λ (x : Stored) (y : TableCell). seen y.id x y.holds) one.stored whole
                  ∙ ap (λ (n : ℕ). with_holds (holds_after c.holds n requests) (with_versions (key_places def.columns) (changed_all o.id o.seq w.changes c.versions) c)) mine;
              context = subst (λ (n : ℕ). Represents digest h after (noting (o.seq + length w.changes) (grown n (events_from o.id o.seq n t.versions) o.trees) o)) here one.context;
            };
      }

-- ---- an index more

ordinals_more : (key : List ℕ) (vs : List Version) (is : List Index) (last : List ℕ) (defs : List IndexDef) → map (λ i. i.ordinals) is ++ last ∷ [] ≡ ordinals_of defs
    → map (reordered key vs) is ++ record { ordinals = last; order = index_order key last vs } ∷ [] ≡ map (new_index key vs) defs
ordinals_more key vs [] last [] e = cc
ordinals_more key vs [] last (d ∷ []) e = let one : last ≡ d.ordinals = cc in ap (λ (ns : List ℕ). record { ordinals = ns; order = index_order key ns vs } ∷ []) one
ordinals_more key vs [] last (d ∷ f ∷ fs) e = cc
ordinals_more key vs (i ∷ is) last [] e = cc
ordinals_more key vs (i ∷ is) last (d ∷ ds) e =
    let one : i.ordinals ≡ d.ordinals = cc in
    let rest : map (λ j. j.ordinals) is ++ last ∷ [] ≡ ordinals_of ds = cc in
    ap₂ (λ (ns : List ℕ) (l : List Index). record { ordinals = ns; order = index_order key ns vs } ∷ l) one (ordinals_more key vs is last ds rest)

by_key : (key places : List ℕ) (vs : List Version) (is : List Index) (last : List ℕ) (defs : List IndexDef) → (vs ≡ []) ⊎ (key ≡ places)
    → map (λ i. i.ordinals) is ++ last ∷ [] ≡ ordinals_of defs
    → map (reordered key vs) is ++ record { ordinals = last; order = index_order key last vs } ∷ [] ≡ map (new_index places vs) defs
by_key key places vs is last defs which e = elim which [
  | inl none ↦ subst (λ (ws : List Version). map (reordered key ws) is ++ record { ordinals = last; order = index_order key last ws } ∷ [] ≡ map (new_index places ws) defs) (sym none)
      (ordinals_more places [] is last defs e)
  | inr same ↦ ap (λ (k : List ℕ). map (reordered k vs) is ++ record { ordinals = last; order = index_order k last vs } ∷ []) same ∙ ordinals_more places vs is last defs e
]

-- the last of a definition's indexes has the ordinals that are lacking
last_of : (k : ℕ) (defs : List IndexDef) (front : List (List ℕ)) (last : List ℕ) (d : IndexDef) → length defs ≡ suc k → front ++ last ∷ [] ≡ ordinals_of defs → slice_get defs k ≡ Some d → last ≡ d.ordinals
last_of k [] front last d long e got = cc
last_of zero (i ∷ []) [] last d long e got =
    let one : last ≡ i.ordinals = cc in
    let same : i ≡ d = cc in
    one ∙ ap (λ (x : IndexDef). x.ordinals) same
last_of zero (i ∷ []) (x ∷ []) last d long e got = cc
last_of zero (i ∷ []) (x ∷ y ∷ front) last d long e got = cc
last_of zero (i ∷ j ∷ defs) front last d long e got = absurd (omega (arith, long))
last_of (suc k) (i ∷ []) front last d long e got = cc
last_of (suc k) (i ∷ j ∷ defs) [] last d long e got = cc
last_of (suc k) (i ∷ j ∷ defs) (x ∷ front) last d long e got =
    let rest : front ++ last ∷ [] ≡ ordinals_of (j ∷ defs) = cc in
    last_of k (j ∷ defs) front last d (omega (arith, long)) rest got

pub last_index : (defs : List IndexDef) (front : List (List ℕ)) (last : List ℕ) (d : IndexDef) → front ++ last ∷ [] ≡ ordinals_of defs → slice_get defs (length defs - 1) ≡ Some d → last ≡ d.ordinals
last_index [] front last d e got = cc
last_index (i ∷ defs) front last d e got =
    let less : suc (length defs) - 1 ≡ length defs = omega arith in
    last_of (length defs) (i ∷ defs) front last d refl e (subst (λ (n : ℕ). slice_get (i ∷ defs) n ≡ Some d) less got)

-- the last index of a definition is added
pub index_added : (id : ℕ) (s : Stored) (holds : List Hold) (c : TableCell) (def : TableDef) (last : List ℕ) → s ≡ stored.with_versions s.key s.versions s → seen id s holds ≡ c
    → (c.versions ≡ []) ⊎ (c.key ≡ key_places def.columns) → map (λ i. i.ordinals) c.indexes ++ last ∷ [] ≡ ordinals_of def.indexes
    → seen id (stored.with_index last s) holds ≡ with_indexes def c
index_added id s holds c def last follows is which e =
    let same : s ≡ store_of c = ap store_of is in
    let follows_there : c.indexes ≡ map (reordered c.key c.versions) c.indexes =
    subst (λ (t : Stored). t.indexes ≡ map (reordered t.key t.versions) t.indexes) same (ap (λ (t : Stored). t.indexes) follows) in
    ap₂ (λ (t : Stored) (d : TableCell). seen d.id (stored.with_index last t) d.holds) same is
    ∙ ap (λ (l : List Index). record { id = c.id; key = c.key; versions = c.versions; order = c.order; indexes = l; holds = c.holds })
    (ap (λ (l : List Index). l ++ record { ordinals = last; order = index_order c.key last c.versions } ∷ []) follows_there
    ∙ by_key c.key (key_places def.columns) c.versions c.indexes last def.indexes which e)
