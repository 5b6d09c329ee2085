-- A transaction makes no event of another one.
use Rattle.std.proofs.Common.{◌≢◌, ℕ, ◌+◌, sym, subst, Bool, true, false, List, [], ◌∷◌}
use Rattle.std.specs.Prelude.{◌==◌, if◌then◌else◌}
use Rattle.std.specs.List.{AllByRecursion}
use Rattle.sql_types.specs.declared.statement.Stmt.{Stmt}
use Rattle.sql_types.specs.declared.table.TableDef.{TableDef}
use Rattle.sql_types.specs.declared.version.Table.{Table}
use Rattle.sql_types.specs.declared.version.Version.{Version}
use Rattle.spec_model.specs.Rows.{same_event, start_cmp, started, with_end, ended}
use Rattle.spec_model.specs.Changes.{Change, Starts, Ends, changed}
use Rattle.spec_model.specs.Catalog.{Tables, with_versions}
use Rattle.spec_model.specs.Effect.{Effect, effect, with_def}
use Rattle.spec_model.specs.ChangeSets.{TableChange, changed_in, changed_from, Definition, as_before, new, in_place, altered, defined, ChangeSet, change_set}
use Rattle.spec_model.specs.Runs.{IsBefore, MadeBefore, SoundTable, Sound}
use Rattle.spec_model.specs.Script.{Reading, script}
use Rattle.law_frame.proofs.Alls.{all_weaker, all_both, all_append, all_map, all_inserted}
use Rattle.law_frame.proofs.ChangeSets.{carries_change_set_out}
use Rattle.law_frame.proofs.SoundStatements.{statement_sound}
use Rattle.law_frame.proofs.WholeScripts.{whole_script}

module _ (tx other n : ℕ) (differs : tx ≢ other) where
  not_its_own : (m : ℕ) → IsBefore other n (tx, m)
  not_its_own m e = absurd (differs e)

  abbrev Untouched : Table → Type 0
  Untouched t = AllByRecursion (MadeBefore other n) t.versions

  abbrev pub AllUntouched : Tables → Type 0
  AllUntouched T = AllByRecursion Untouched T

  ends_here : (m : ℕ) (b : Bool) (v : Version) → MadeBefore other n v → MadeBefore other n (if b then with_end (tx, m) v else v)
  ends_here m true v h = record { start = h.start; end = not_its_own m }
  ends_here m false v h = h

  pub versions_untouched : (m : ℕ) (c : Change) (vs : List Version) → AllByRecursion (MadeBefore other n) vs → AllByRecursion (MadeBefore other n) (changed (tx, m) c vs)
  unfolding started ended
  versions_untouched m (Starts values) vs h = all_inserted (MadeBefore other n) start_cmp _ vs (record { start = not_its_own m; end = tt }) h
  versions_untouched m (Ends begun) vs h =
      all_map (MadeBefore other n) (MadeBefore other n) (λ v. if same_event v.start begun then with_end (tx, m) v else v)
      (λ v. ends_here m (same_event v.start begun) v) vs h

  table_untouched : (m : ℕ) (c : Change) (b : Bool) (t : Table) → Untouched t → Untouched (if b then with_versions (changed (tx, m) c) t else t)
  table_untouched m c true t h = versions_untouched m c t.versions h
  table_untouched m c false t h = h

  changes_untouched : (m : ℕ) (cs : List TableChange) (T : Tables) → AllUntouched T → AllUntouched (changed_from tx m cs T)
  changes_untouched m [] T h = h
  changes_untouched m (c ∷ cs) T h =
      changes_untouched (m + 1) cs (changed_in (tx, m) c T)
      (all_map Untouched Untouched (λ t. if t.def.id == c.0 then with_versions (changed (tx, m) c.1) t else t) (λ t. table_untouched m c.1 (t.def.id == c.0) t) T h)

  def_untouched : (def : TableDef) (b : Bool) (t : Table) → Untouched t → Untouched (if b then with_def def t else t)
  def_untouched def true t h = h
  def_untouched def false t h = h

  defined_untouched : (d : Definition) (T : Tables) → AllUntouched T → AllUntouched (defined d T)
  defined_untouched as_before T h = h
  defined_untouched (new def) T h = all_append Untouched T (record { def = def; versions = [] } ∷ []) h (tt, tt)
  defined_untouched (in_place def) T h = all_map Untouched Untouched (λ t. if t.def.id == def.id then with_def def t else t) (λ t. def_untouched def (t.def.id == def.id) t) T h
  defined_untouched (altered def) T h = all_map Untouched Untouched (λ t. if t.def.id == def.id then with_def def t else t) (λ t. def_untouched def (t.def.id == def.id) t) T h

  effect_untouched : (T : Tables) (seq : ℕ) (stmt : Stmt) → AllUntouched T → AllUntouched (effect T tx seq stmt).tables
  effect_untouched T seq stmt h =
      let p : ChangeSet = change_set T stmt in
      subst (λ (e : Effect). AllUntouched e.tables) (sym (carries_change_set_out T tx seq stmt)) (defined_untouched p.definition (changed_from tx seq p.changes T) (changes_untouched seq p.changes T h))

  -- ---- a script

  pub record Both (seq : ℕ) (T : Tables) : Type 0 where
    pub own : Sound tx seq T
    pub others : AllUntouched T

  effect_both : (seq : ℕ) (T : Tables) (stmt : Stmt) → Both seq T → Both (effect T tx seq stmt).seq (effect T tx seq stmt).tables
  effect_both seq T stmt h = record { own = statement_sound tx seq T stmt h.own; others = effect_untouched T seq stmt h.others }

  script_both : (reads : Reading) (explicit : Bool) (T : Tables) (texts : List (List ℕ)) → Both 0 T
      → Both (script reads explicit T tx texts).state.seq (script reads explicit T tx texts).state.tables
  script_both reads explicit T texts h = (whole_script tx Both effect_both reads explicit T texts h).0

  -- tables that are sound for two transactions
  combined : (seq : ℕ) (T : Tables) → Both seq T → Sound other n T
  combined seq T h = record {
    ids = h.own.ids;
    each = all_weaker (λ t. SoundTable tx seq t × Untouched t) (SoundTable other n) (λ t k. record { names = k.0.names; rising = k.0.rising; before = k.1 }) T
        (all_both (SoundTable tx seq) Untouched T h.own.each h.others);
  }

  -- what is sound for another transaction stays so
  pub others_sound : (reads : Reading) (explicit : Bool) (T : Tables) (texts : List (List ℕ)) → Sound tx 0 T → Sound other n T → Sound other n (script reads explicit T tx texts).state.tables
  others_sound reads explicit T texts h k =
      combined (script reads explicit T tx texts).state.seq (script reads explicit T tx texts).state.tables
      (script_both reads explicit T texts (record { own = h; others = all_weaker (SoundTable other n) Untouched (λ t x. x.before) T k.each }))
