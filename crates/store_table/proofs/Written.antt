-- What a statement that changes rows writes.
use Rattle.std.proofs.Common.{◌≡◌, ◌<◌, ◌+◌, ◌^◌, ℕ, sym, ap, ap₂, subst, ◌∙◌, List, [], ◌∷◌, length, map, Ok, arith}
use Rattle.std.proofs.lemmas.List.{length-map}
use Rattle.std.specs.List.{AllByRecursion}
use Rattle.sql_types.specs.declared.event.Event.{Event}
use Rattle.sql_types.specs.declared.statement.RowStmt.{RowStmt}
use Rattle.sql_types.specs.declared.table.TableDef.{TableDef}
use Rattle.sql_types.specs.declared.version.Version.{Version}
use Rattle.spec_model.specs.Changes.{Change, changed_all, row_changes}
use Rattle.spec_model.specs.Checks.{row_statement_check}
use Rattle.spec_model.specs.Keys.{key_places}
use Rattle.spec_model.specs.Runs.{MadeBefore, Rising}
use Rattle.law_journal.specs.Fits.{FitsSoFar}
use Rattle.format_event.specs.Leaf.{event_bytes}
use Rattle.spec_protocol.specs.Doing.{events_from, grown}
use Rattle.spec_protocol.specs.Moves.{noting}
use Rattle.spec_protocol.specs.Seats.{OpenTransaction}
use Rattle.store_tx.specs.Represents.{HasRoom, Represents}
use Rattle.store_tx.specs.declared.context.TxCtx.{TxCtx}
use Rattle.store_table.specs.Calls.{HasWritten, MayChange, RowsWritten}
use Rattle.store_table.specs.Made.{events_made, IsMade, IsWorkedOut, MayNoteAll, with_leaves}
use Rattle.store_table.specs.Stored.{Stored, with_versions}
use Rattle.store_table.proofs.Events.{events_are, made_long}
use Rattle.store_table.proofs.Keeping.{with_twice}
use Rattle.store_table.proofs.Noted.{alike, same_leaves}
use Rattle.store_table.proofs.RowsMade.{row_made}

module _ (def : TableDef) (V : List Version) (rising : Rising V) (fit : AllByRecursion (λ v. FitsSoFar def.columns v.values) V) (stmt : RowStmt)
    (passes : row_statement_check (def ∷ []) stmt ≡ Ok def) where
  pub worked_out : (tx seq count : ℕ) (changes : List Change) (leaves : List (List ℕ)) → row_changes def V stmt ≡ Ok (changes, count) → seq + length changes < 2 ^ 63
      → leaves ≡ map event_bytes (events_made def.id tx seq changes V) → IsWorkedOut def V stmt tx seq changes count leaves
  worked_out tx seq count changes leaves e room is = record {
    changed = e;
    made = (row_made def V rising fit stmt (changes, count) passes e).made;
    room = room;
    leaves_are = is;
  }

  pub all_made : (count : ℕ) (changes : List Change) → row_changes def V stmt ≡ Ok (changes, count) → AllByRecursion (IsMade def.columns V) changes
  all_made count changes e = (row_made def V rising fit stmt (changes, count) passes e).made

module _ {H : Type 0} (digest : H → List ℕ → List ℕ) (tx seq : ℕ) (before : TxCtx H)
    (id_is : (h : H) (o : OpenTransaction) → Represents digest h before o → tx ≡ o.id) (seq_is : (h : H) (o : OpenTransaction) → Represents digest h before o → seq ≡ o.seq) where
  pub made_before : (vs : List Version) → MayChange digest before vs → AllByRecursion (MadeBefore tx seq) vs
  made_before vs may =
      subst (λ (n : ℕ). AllByRecursion (MadeBefore n seq) vs) (sym (id_is may.h may.o may.is))
      (subst (λ (n : ℕ). AllByRecursion (MadeBefore may.o.id n) vs) (sym (seq_is may.h may.o may.is)) may.before)

  pub may_note_all : (table count : ℕ) (vs : List Version) (mid : TxCtx H) → MayChange digest before vs → ((h : H) (o : OpenTransaction) → Represents digest h before o → Represents digest h mid o)
      → HasRoom count table mid → seq + count < 2 ^ 63 → MayNoteAll digest table count mid
  may_note_all table count vs mid may still tree room = record {
    h = may.h;
    o = may.o;
    is = still may.h may.o may.is;
    open_tree = tree;
    room = (let e = seq_is may.h may.o may.is in omega (arith, e, room));
  }

  module _ (def : TableDef) (s : Stored) (rising : Rising s.versions) (fit : AllByRecursion (λ v. FitsSoFar def.columns v.values) s.versions) (stmt : RowStmt)
      (passes : row_statement_check (def ∷ []) stmt ≡ Ok def) (may : MayChange digest before s.versions)
      (count : ℕ) (changes : List Change) (leaves : List (List ℕ)) (worked : IsWorkedOut def s.versions stmt tx seq changes count leaves) where
    abbrev es : List Event
    es = events_made def.id tx seq changes s.versions

    new_events : events_from tx seq def.id (changed_all tx seq changes s.versions) ≡ es
    new_events =
        let m = row_made def s.versions rising fit stmt (changes, count) passes worked.changed in
        events_are tx def.id def.columns seq changes s.versions (made_before s.versions may) rising m.made m.apart

    pub leaves_count : length leaves ≡ length changes
    leaves_count = ap length worked.leaves_are ∙ length-map es event_bytes ∙ made_long tx def.id def.columns seq changes s.versions worked.made

    carried : (roomy t : Stored) → roomy ≡ with_versions (key_places def.columns) s.versions s → t ≡ with_versions roomy.key (changed_all tx seq changes roomy.versions) roomy
        → t ≡ with_versions (key_places def.columns) (changed_all tx seq changes s.versions) s
    carried roomy t made_room out =
        out ∙ ap (λ (x : Stored). with_versions x.key (changed_all tx seq changes x.versions) x) made_room
        ∙ with_twice (key_places def.columns) (changed_all tx seq changes s.versions) s.versions s

    has_written : (mid after : TxCtx H) (t : Stored) → t ≡ with_versions (key_places def.columns) (changed_all tx seq changes s.versions) s
        → (h : H) (o : OpenTransaction) → Represents digest h before o
        → Represents digest h after (noting (o.seq + length leaves) (with_leaves def.id leaves o.trees) o)
        → HasWritten digest h s def changes o t after
    has_written mid after t is h o r noted =
        let mine : tx ≡ o.id = id_is h o r in
        let from : seq ≡ o.seq = seq_is h o r in
        let there : t ≡ with_versions (key_places def.columns) (changed_all o.id o.seq changes s.versions) s =
        is ∙ ap₂ (λ (n m : ℕ). with_versions (key_places def.columns) (changed_all n m changes s.versions) s) mine from in
        let events : es ≡ events_from o.id o.seq def.id t.versions =
        sym new_events ∙ ap₂ (λ (n m : ℕ). events_from n m def.id (changed_all n m changes s.versions)) mine from
        ∙ ap (λ (x : Stored). events_from o.id o.seq def.id x.versions) (sym there) in
        record {
          stored = there;
          context =
              subst (λ (fs : List Event). Represents digest h after (noting (o.seq + length changes) (grown def.id fs o.trees) o)) events
              (alike digest h after (o.seq + length changes) (with_leaves def.id (map event_bytes es) o.trees) (grown def.id es o.trees) o (same_leaves def.id es o.trees)
              (subst (λ (ls : List (List ℕ)). Represents digest h after (noting (o.seq + length changes) (with_leaves def.id ls o.trees) o)) worked.leaves_are
              (subst (λ (n : ℕ). Represents digest h after (noting (o.seq + n) (with_leaves def.id leaves o.trees) o)) leaves_count noted)));
        }

    pub rows_written : (mid after : TxCtx H) (roomy t : Stored) → ((h : H) (o : OpenTransaction) → Represents digest h before o → Represents digest h mid o)
        → roomy ≡ with_versions (key_places def.columns) s.versions s → t ≡ with_versions roomy.key (changed_all tx seq changes roomy.versions) roomy
        → ((h : H) (o : OpenTransaction) → Represents digest h mid o → Represents digest h after (noting (o.seq + length leaves) (with_leaves def.id leaves o.trees) o))
        → RowsWritten digest s before def stmt count t after
    rows_written mid after roomy t still made_room out noted = record {
      changes = changes;
      changed = worked.changed;
      written = λ h o r. has_written mid after t (carried roomy t made_room out) h o r (noted h o (still h o r));
    }
