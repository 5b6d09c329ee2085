-- The versions of one table, after those of a table have changed.
use Rattle.std.proofs.Common.{◌≡◌, ℕ, ◌⊎◌, refl, sym, ap, subst, ◌∙◌, Bool, true, false, List, [], ◌∷◌, ◌++◌, inl, inr}
use Rattle.std.proofs.lemmas.Bool.{eqb-true}
use Rattle.std.specs.Prelude.{◌==◌, if◌then◌else◌}
use Rattle.std.specs.List.{AllByRecursion}
use Rattle.sql_value.specs.declared.column.ColumnDef.{ColumnDef}
use Rattle.sql_types.specs.declared.table.TableDef.{TableDef}
use Rattle.sql_types.specs.declared.version.Table.{Table}
use Rattle.sql_types.specs.declared.version.Version.{Version}
use Rattle.spec_model.specs.Lists.{repeats}
use Rattle.spec_model.specs.Catalog.{Tables, defs_of, versions_of, with_versions, changed_table}
use Rattle.spec_model.specs.Create.{names_of}
use Rattle.spec_model.specs.Effect.{with_def, redefined}
use Rattle.spec_model.specs.Agreement.{columns_at}
use Rattle.spec_model.specs.Runs.{Rising, MadeBefore, SoundTable}
use Rattle.law_frame.proofs.ChangeSets.{same_def}

-- the versions of table i after those of table id have changed: they are those from before, or i is this table
abbrev pub ChangedAt : ℕ → ℕ → (List Version → List Version) → Tables → List Version → Type 0
ChangedAt id i f T after = (after ≡ versions_of T i) ⊎ ((id ≡ i) × (after ≡ f (versions_of T i)))

by_id : (id i : ℕ) (f : List Version → List Version) (t : Table) (ts : Tables) (rest : List Version) (b c : Bool) → (t.def.id == i) ≡ b → (t.def.id == id) ≡ c
    → ChangedAt id i f ts rest
    → (if b then (if c then with_versions f t else t).versions else rest) ≡ (if b then (if c then with_versions f t else t).versions else rest)
    → (let old : List Version = if b then t.versions else versions_of ts i in let new : List Version = if b then (if c then with_versions f t else t).versions else rest in (new ≡ old) ⊎ ((id ≡ i) × (new ≡ f old)))
by_id id i f t ts rest true true e g h _ = inr (sym (eqb-true t.def.id id g) ∙ eqb-true t.def.id i e, refl)
by_id id i f t ts rest true false e g h _ = inl refl
by_id id i f t ts rest false c e g h _ = h

pub changed_at : (id i : ℕ) (f : List Version → List Version) (T : Tables) → ChangedAt id i f T (versions_of (changed_table id f T) i)
changed_at id i f [] = inl refl
changed_at id i f (t ∷ ts) =
    subst (λ (vs : List Version). ChangedAt id i f (t ∷ ts) vs)
    (ap (λ (def : TableDef). if def.id == i then (if t.def.id == id then with_versions f t else t).versions else versions_of (changed_table id f ts) i) (sym (same_def (t.def.id == id) f t)))
    (by_id id i f t ts (versions_of (changed_table id f ts) i) (t.def.id == i) (t.def.id == id) refl refl (changed_at id i f ts) refl)

-- ---- definitions

end_of_list : (b : Bool) (vs ws : List Version) → vs ≡ ws → (t : Table) → (if b then t.versions else vs) ≡ (if b then t.versions else ws)
end_of_list b vs ws e t = ap (λ (us : List Version). if b then t.versions else us) e

none_or_none : (b : Bool) → let vs : List Version = if b then [] else [] in vs ≡ []
none_or_none true = refl
none_or_none false = refl

-- a new table has no versions
pub new_table : (def : TableDef) (i : ℕ) (T : Tables) → versions_of (T ++ record { def = def; versions = [] } ∷ []) i ≡ versions_of T i
new_table def i [] = none_or_none (def.id == i)
new_table def i (t ∷ ts) = end_of_list (t.def.id == i) _ _ (new_table def i ts) t

in_its_place : (b c : Bool) (def : TableDef) (t : Table) (i : ℕ) (vs : List Version) → (t.def.id == def.id) ≡ b
    → (let u : Table = if b then with_def def t else t in if u.def.id == i then u.versions else vs) ≡ (if t.def.id == i then t.versions else vs)
in_its_place true c def t i vs e = ap (λ (n : ℕ). if n == i then t.versions else vs) (sym (eqb-true t.def.id def.id e))
in_its_place false c def t i vs e = refl

pub redefined_table : (def : TableDef) (i : ℕ) (T : Tables) → versions_of (redefined def T) i ≡ versions_of T i
redefined_table def i [] = refl
redefined_table def i (t ∷ ts) = in_its_place (t.def.id == def.id) true def t i (versions_of (redefined def ts) i) refl ∙ end_of_list (t.def.id == i) _ _ (redefined_table def i ts) t

-- ---- what holds of each table holds of this one

module _ (tx seq : ℕ) (i : ℕ) where
  found_rising : (b : Bool) (vs ws : List Version) → Rising vs → Rising ws → Rising (if b then vs else ws)
  found_rising true vs ws h k = h
  found_rising false vs ws h k = k

  pub rising_at : (T : Tables) → AllByRecursion (SoundTable tx seq) T → Rising (versions_of T i)
  rising_at [] h = tt
  rising_at (t ∷ ts) h = found_rising (t.def.id == i) t.versions (versions_of ts i) h.0.rising (rising_at ts h.1)

  found_before : (b : Bool) (vs ws : List Version) → AllByRecursion (MadeBefore tx seq) vs → AllByRecursion (MadeBefore tx seq) ws → AllByRecursion (MadeBefore tx seq) (if b then vs else ws)
  found_before true vs ws h k = h
  found_before false vs ws h k = k

  pub before_at : (T : Tables) → AllByRecursion (SoundTable tx seq) T → AllByRecursion (MadeBefore tx seq) (versions_of T i)
  before_at [] h = tt
  before_at (t ∷ ts) h = found_before (t.def.id == i) t.versions (versions_of ts i) h.0.before (before_at ts h.1)

  found_names : (b : Bool) (cs ds : List ColumnDef) → repeats (names_of cs) ≡ false → repeats (names_of ds) ≡ false → repeats (names_of (if b then cs else ds)) ≡ false
  found_names true cs ds h k = h
  found_names false cs ds h k = k

  pub names_at : (T : Tables) → AllByRecursion (SoundTable tx seq) T → repeats (names_of (columns_at (defs_of T) i)) ≡ false
  names_at [] h = refl
  names_at (t ∷ ts) h = found_names (t.def.id == i) t.def.columns (columns_at (defs_of ts) i) h.0.names (names_at ts h.1)
