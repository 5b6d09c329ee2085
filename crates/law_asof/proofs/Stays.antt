-- What some transactions made stays under the script of another one.
use Rattle.std.proofs.Common.{◌≡◌, ◌≤◌, ℕ, ◌+◌, refl, ap, sym, subst, ◌∙◌, Bool, true, false, List, [], ◌∷◌, ◌++◌, map, Option, Some, None, arith}
use Rattle.std.specs.Prelude.{◌==◌, if◌then◌else◌}
use Rattle.std.specs.List.{AllByRecursion, filter}
use Rattle.std.proofs.lemmas.List.Sums.{sum_by-cons}
use Rattle.sql_value.specs.declared.column.ColumnDef.{ColumnDef}
use Rattle.sql_types.specs.declared.statement.Stmt.{Stmt}
use Rattle.sql_types.specs.declared.version.Table.{Table}
use Rattle.sql_types.specs.declared.version.TypedValue.{TypedValue}
use Rattle.sql_types.specs.declared.version.Version.{Version}
use Rattle.spec_model.specs.Catalog.{Tables, versions_of, with_versions}
use Rattle.spec_model.specs.Changes.{Change, Starts, Ends, changed}
use Rattle.spec_model.specs.Effect.{Effect, effect}
use Rattle.spec_model.specs.ChangeSets.{TableChange, changed_in, changed_from, Definition, as_before, new, in_place, altered, defined, ChangeSet, change_set}
use Rattle.spec_model.specs.Rows.{EventId, same_event, start_cmp, started, with_end, ended}
use Rattle.spec_model.specs.Script.{Reading, script}
use Rattle.law_frame.proofs.AtTable.{new_table, redefined_table}
use Rattle.law_frame.proofs.ChangeSets.{carries_change_set_out}
use Rattle.law_frame.proofs.UndoneVersions.{filter_inserted}
use Rattle.law_frame.proofs.WholeScripts.{whole_script}
use Rattle.law_journal.specs.Described.{Described}
use Rattle.law_journal.specs.Fine.{HasLive, IsFine, IsFineIn, AllFine}
use Rattle.law_journal.specs.Kept.{count, count_all, Kept}
use Rattle.law_journal.proofs.Counts.{ended_cons, hit, missed, one_less}
use Rattle.law_journal.proofs.Keeping.{statement_kept, statement_described}
use Rattle.law_journal.proofs.Lift.{of_all as of_all_tables}
use Rattle.law_journal.proofs.Statements.{change_set_fine}
use Rattle.law_journal.proofs.Tables.{Split, split_from, table_count, once, kept_changed}
use Rattle.spec_asof.specs.DatabaseAt.{end_at, with_end_at, left_of}

-- ---- the versions of one table

abbrev pub with_this_end : Version → Option EventId → Version
with_this_end v o = record { values = v.values; start = v.start; end = o }

module _ (has : ℕ → Bool) (other : ℕ) (none : has other ≡ false) where
  abbrev kept_one : Version → Version
  kept_one v = with_end_at has v

  -- a version more, before the same others
  head_alike : (b : Bool) (v w : Version) (vs ws : List Version) → kept_one v ≡ kept_one w → map kept_one vs ≡ map kept_one ws
      → map kept_one (if b then v ∷ vs else vs) ≡ map kept_one (if b then w ∷ ws else ws)
  head_alike true v w vs ws e f = ap (λ (x : Version). x ∷ map kept_one vs) e ∙ ap (λ (l : List Version). kept_one w ∷ l) f
  head_alike false v w vs ws e f = f

  with_new : (m : ℕ) (values : List (Option TypedValue)) (vs : List Version) → left_of has (started (other, m) values vs) ≡ left_of has vs
  unfolding started
  with_new m values vs = ap (map kept_one) (filter_inserted (λ v. has v.start.0) start_cmp (record { values = values; start = (other, m); end = None }) vs none)

  its_end : (m : ℕ) (v : Version) → v.end ≡ None → kept_one (with_end (other, m) v) ≡ kept_one v
  its_end m v e =
      ap (with_this_end v)
      (ap (λ (b : Bool). if b then Some (other, m) else None) none ∙ sym (ap (end_at has) e))

  ended_at : (m : ℕ) (start : EventId) (b : Bool) (v : Version) (vs : List Version) → same_event v.start start ≡ b → count start (v ∷ vs) ≤ 1 → HasLive start (v ∷ vs)
      → (HasLive start vs → left_of has (ended (other, m) start vs) ≡ left_of has vs) → left_of has (ended (other, m) start (v ∷ vs)) ≡ left_of has (v ∷ vs)
  ended_at m start true v vs e few there rest =
      let it = hit (other, m) start v vs e few there in
      ap (left_of has) it.is ∙ head_alike (has v.start.0) (with_end (other, m) v) v (filter (λ w. has w.start.0) vs) (filter (λ w. has w.start.0) vs) (its_end m v it.is_live) refl
  ended_at m start false v vs e few there rest =
      ap (left_of has) (ended_cons (other, m) start false v vs e)
      ∙ head_alike (has v.start.0) v v (filter (λ w. has w.start.0) (ended (other, m) start vs)) (filter (λ w. has w.start.0) vs) refl (rest (missed start v vs e there))

  with_ended : (m : ℕ) (start : EventId) (vs : List Version) → count start vs ≤ 1 → HasLive start vs → left_of has (ended (other, m) start vs) ≡ left_of has vs
  with_ended m start [] few there = absurd there
  with_ended m start (v ∷ vs) few there = ended_at m start (same_event v.start start) v vs refl few there (with_ended m start vs (one_less start v vs few))

  with_change : (m : ℕ) (columns : List ColumnDef) (c : Change) (vs : List Version) → ((a : EventId) → count a vs ≤ 1) → IsFine columns c vs → left_of has (changed (other, m) c vs) ≡ left_of has vs
  with_change m columns (Starts values) vs few fine = with_new m values vs
  with_change m columns (Ends start) vs few fine = with_ended m start vs (few start) fine

  -- ---- all tables

  module _ (place : ℕ → ℕ) (id : ℕ) where
    abbrev At : Tables → List Version
    At T = left_of has (versions_of T id)

    first_alike : (b : Bool) (t u : Table) (rest : List Version) → left_of has u.versions ≡ left_of has t.versions → left_of has (if b then u.versions else rest) ≡ left_of has (if b then t.versions else rest)
    first_alike true t u rest e = e
    first_alike false t u rest e = refl

    rest_alike : (b : Bool) (t : Table) (vs ws : List Version) → left_of has vs ≡ left_of has ws → left_of has (if b then t.versions else vs) ≡ left_of has (if b then t.versions else ws)
    rest_alike true t vs ws e = refl
    rest_alike false t vs ws e = e

    replaced : (A : Tables) (t : Table) (f : List Version → List Version) (B : Tables) → left_of has (f t.versions) ≡ left_of has t.versions → At (A ++ with_versions f t ∷ B) ≡ At (A ++ t ∷ B)
    replaced [] t f B e = first_alike (t.def.id == id) t (with_versions f t) (versions_of B id) e
    replaced (x ∷ A) t f B e = rest_alike (x.def.id == id) x (versions_of (A ++ with_versions f t ∷ B) id) (versions_of (A ++ t ∷ B) id) (replaced A t f B e)

    abbrev Few : Table → Type 0
    Few t = (a : EventId) → count a t.versions ≤ 1

    few_each : (T : Tables) → ((a : EventId) → count_all a T ≤ 1) → AllByRecursion Few T
    few_each [] h = tt
    few_each (t ∷ ts) h =
        ((λ a. (let l = sum_by-cons (table_count a) t ts in let o = h a in omega (arith, l, o))), few_each ts (λ a. (let l = sum_by-cons (table_count a) t ts in let o = h a in omega (arith, l, o))))

    change_leaves : (seq : ℕ) (c : TableChange) (T : Tables) → Kept place other seq T → IsFineIn c T → At (changed_in (other, seq) c T) ≡ At T
    change_leaves seq c T k fine =
        let P : Table → Type 0 = λ t. Few t × IsFine t.def.columns c.1 t.versions in
        let s : Split c.0 P T = (split_from 1 c.0 P T k.sound.ids (of_all_tables c.0 Few (λ t. IsFine t.def.columns c.1 t.versions) T (few_each T (once place other seq T k)) fine)).split in
        ap At (s.changed_ (changed (other, seq) c.1))
        ∙ replaced s.front s.table (changed (other, seq) c.1) s.back (with_change seq s.table.def.columns c.1 s.table.versions s.holds.0 s.holds.1)
        ∙ ap At (sym s.is)

    changes_leave : (seq : ℕ) (cs : List TableChange) (T : Tables) → Kept place other seq T → AllFine other seq cs T → At (changed_from other seq cs T) ≡ At T
    changes_leave seq [] T k fine = refl
    changes_leave seq (c ∷ cs) T k fine =
        changes_leave (seq + 1) cs (changed_in (other, seq) c T) (kept_changed place other seq c T k fine.0) fine.1 ∙ change_leaves seq c T k fine.0

    definition_leaves : (d : Definition) (T : Tables) → At (defined d T) ≡ At T
    definition_leaves as_before T = refl
    definition_leaves (new def) T = ap (left_of has) (new_table def id T)
    definition_leaves (in_place def) T = ap (left_of has) (redefined_table def id T)
    definition_leaves (altered def) T = ap (left_of has) (redefined_table def id T)

    statement_leaves : (seq : ℕ) (T : Tables) (stmt : Stmt) → Kept place other seq T → Described T → At (effect T other seq stmt).tables ≡ At T
    statement_leaves seq T stmt k d =
        let p : ChangeSet = change_set T stmt in
        subst (λ (e : Effect). At e.tables ≡ At T) (sym (carries_change_set_out T other seq stmt))
        (definition_leaves p.definition (changed_from other seq p.changes T) ∙ changes_leave seq p.changes T k (change_set_fine place other seq T stmt k d))

    module _ (V : List Version) where
      abbrev Leaves : ℕ → Tables → Type 0
      Leaves seq T = (Kept place other seq T × Described T) × (At T ≡ V)

      step : (seq : ℕ) (T : Tables) (stmt : Stmt) → Leaves seq T → Leaves (effect T other seq stmt).seq (effect T other seq stmt).tables
      step seq T stmt l =
          ((statement_kept place other seq T stmt l.0.0 l.0.1, statement_described place other seq T stmt l.0.0.sound.ids l.0.1), statement_leaves seq T stmt l.0.0 l.0.1 ∙ l.1)

      pub script_leaves : (reads : Reading) (explicit : Bool) (T : Tables) (texts : List (List ℕ)) → Kept place other 0 T → Described T → At T ≡ V
          → At (script reads explicit T other texts).state.tables ≡ V
      script_leaves reads explicit T texts k d e = (whole_script other Leaves step reads explicit T texts ((k, d), e)).0.1
