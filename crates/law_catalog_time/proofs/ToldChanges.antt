-- What a change leaves of what rows tell of the columns of users' tables, and what another definition does.
use Rattle.std.proofs.Common.{◌≡◌, ◌≤◌, ◌<◌, ℕ, ◌+◌, refl, sym, ap, subst, ◌∙◌, ⊎_elim, Bool, true, false, List, [], ◌∷◌, ◌++◌, map, length, inl, inr, Option, arith}
use Rattle.std.proofs.lemmas.Bool.{eqb-true, eq-eqb}
use Rattle.std.specs.Prelude.{◌==◌, if◌then◌else◌}
use Rattle.std.specs.List.{AllByRecursion}
use Rattle.sql_value.specs.declared.column.ColumnDef.{ColumnDef}
use Rattle.sql_types.specs.declared.table.TableDef.{TableDef}
use Rattle.sql_types.specs.declared.version.Table.{Table}
use Rattle.sql_types.specs.declared.version.TypedValue.{TypedValue}
use Rattle.sql_types.specs.declared.version.Version.{Version}
use Rattle.spec_model.specs.Lists.{inserted}
use Rattle.spec_model.specs.Rows.{EventId, same_event, start_cmp, started, value_or_null, with_end, ended}
use Rattle.spec_model.specs.Changes.{Change, Starts, Ends, changed}
use Rattle.spec_model.specs.Catalog.{Defs, Tables, defs_of, versions_of, with_versions, changed_table}
use Rattle.spec_model.specs.SystemTables.{columns_id, columns_columns}
use Rattle.spec_model.specs.Effect.{with_def, redefined}
use Rattle.spec_model.specs.ChangeSets.{TableChange, changed_in, changed_from}
use Rattle.spec_model.specs.Agreement.{IdsFrom}
use Rattle.law_frame.proofs.Alls.{all_weaker, all_both, all_append, all_map, all_inserted}
use Rattle.law_frame.proofs.AtTable.{changed_at, new_table, redefined_table}
use Rattle.law_frame.proofs.Definitions.{same_defs}
use Rattle.law_journal.specs.Fits.{FitsSoFar}
use Rattle.law_journal.specs.Fine.{IsFine, OfTable, IsFineIn, AllFine}
use Rattle.law_journal.specs.Kept.{IsPast, KeptTable, Kept}
use Rattle.law_journal.specs.Described.{Described}
use Rattle.law_journal.proofs.DefLists.{all_defs, IsOnly}
use Rattle.law_journal.proofs.Lift.{of_weaker}
use Rattle.law_journal.proofs.Order.{new_version}
use Rattle.law_journal.proofs.Tables.{SplitFrom, split_from, kept_changed}
use Rattle.law_catalog_time.specs.AsOfStart.{IsAboutColumn}
use Rattle.law_catalog_time.proofs.ToldColumns.{AreTold, NoneBehind, Took, ToldTable, started_taken, still_told_table}
use Rattle.law_catalog_time.proofs.Statements.{past_at}

-- ---- one change

-- a start of such a row is about no column of the table
abbrev pub IsOfNoColumn : Change → ℕ → Type 0
IsOfNoColumn (Starts values) id = (n : ℕ) → n < 1000 → IsAboutColumn id n (map value_or_null values) → ⊥
IsOfNoColumn (Ends start) id = ⊥

-- where it is in the table of columns, it starts a row about no column of one of the users' tables that there are
abbrev pub IsOfNoColumns : Defs → TableChange → Type 0
IsOfNoColumns defs c = c.0 ≡ columns_id → AllByRecursion (λ (d : TableDef). 2 < d.id → IsOfNoColumn c.1 d.id) defs

-- tables of at most so many columns
abbrev pub AreFew : Defs → Type 0
AreFew defs = AllByRecursion (λ (d : TableDef). length d.columns ≤ 64) defs

-- what holds of the table with an id holds of each that has it
later_ids : (P : Table → Type 0) (n id : ℕ) (T : Tables) → IdsFrom n (defs_of T) → id < n → AllByRecursion (λ t. t.def.id ≡ id → P t) T
later_ids P n id [] ids lt = tt
later_ids P n id (t ∷ ts) ids lt = ((λ e. absurd (omega (arith, e, ids.0, lt))), later_ids P (n + 1) id ts ids.1 (omega (arith, lt)))

each_of_id : (P : Table → Type 0) (n id : ℕ) (T : Tables) → IdsFrom n (defs_of T) → OfTable id P T → AllByRecursion (λ t. t.def.id ≡ id → P t) T
each_of_id P n id [] ids o = absurd o
each_of_id P n id (t ∷ ts) ids o = elim o [
  | inl p ↦ ((λ e. p.1), later_ids P (n + 1) id ts ids.1 (omega (arith, p.0, ids.0)))
  | inr q ↦ (let r : SplitFrom (n + 1) id P ts = split_from (n + 1) id P ts ids.1 q in ((λ e. absurd (let from = r.from in omega (arith, e, ids.0, from))), each_of_id P (n + 1) id ts ids.1 q))
]

module _ (place : ℕ → ℕ) where
  -- the versions of the table of columns tell of the columns of a user's table
  abbrev pub ToldIn : List Version → Table → Type 0
  ToldIn second t = 2 < t.def.id → ToldTable place second t

  abbrev pub AllTold : Tables → Type 0
  AllTold T = AllByRecursion (ToldIn (versions_of T columns_id)) T

  module _ (second : List Version) (now : EventId) (past : AllByRecursion (IsPast place now) second) where
    -- ---- a change in the table

    took_still : (id : ℕ) (columns : List ColumnDef) (b : Bool) (v : Version) → Took place second id columns v → Took place second id columns (if b then with_end now v else v)
    took_still id columns true v h = h
    took_still id columns false v h = h

    took_changed : (c : Change) (t : Table) → IsFine t.def.columns c t.versions → ToldTable place second t → AllByRecursion (Took place second t.def.id t.def.columns) (changed now c t.versions)
    unfolding started ended
    took_changed (Starts values) t fine h =
        all_inserted (Took place second t.def.id t.def.columns) start_cmp (new_version now values) t.versions
        (started_taken place second t.def.id now past t.def.columns values h.columns fine.0) h.versions
    took_changed (Ends start) t fine h =
        all_map (Took place second t.def.id t.def.columns) (Took place second t.def.id t.def.columns) (λ v. if same_event v.start start then with_end now v else v)
        (λ v k. took_still t.def.id t.def.columns (same_event v.start start) v k) t.versions h.versions

    in_its_table : (c : TableChange) (b : Bool) (t : Table) → (t.def.id == c.0) ≡ b → (t.def.id ≡ c.0 → IsFine t.def.columns c.1 t.versions) → ToldIn second t
        → ToldIn second (if b then with_versions (changed now c.1) t else t)
    in_its_table c true t e fine h =
        λ lt. record { columns = (h lt).columns; behind = (h lt).behind; versions = took_changed c.1 t (fine (eqb-true t.def.id c.0 e)) (h lt) }
    in_its_table c false t e fine h = h

    -- ---- a row of the table of columns

    row_more : (c : Change) (t : Table) → (2 < t.def.id → IsOfNoColumn c t.def.id) → length t.def.columns ≤ 64 → AllByRecursion (IsPast place now) t.versions → ToldIn second t → ToldIn (changed now c second) t
    unfolding started
    row_more (Starts values) t none few before h = λ lt. still_told_table place second now (new_version now values) t refl (none lt) few before (h lt)
    row_more (Ends start) t none few before h = λ lt. absurd (none lt)

  -- a user's table isn't the table of columns
  not_of_columns : (id : ℕ) (f : List Version → List Version) (second : List Version) (t : Table) (b : Bool) → (t.def.id == id) ≡ b → id ≡ columns_id → ToldIn second t → ToldIn second (if b then with_versions f t else t)
  not_of_columns id f second t true e is h = λ lt. absurd (let same = eqb-true t.def.id id e in omega (arith, same, is, lt))
  not_of_columns id f second t false e is h = h

  module _ (tx seq : ℕ) where
    changed_told : (c : TableChange) (T : Tables) → Kept place tx seq T → IsFineIn c T → AreFew (defs_of T) → IsOfNoColumns (defs_of T) c → AllTold T → AllTold (changed_in (tx, seq) c T)
    changed_told c T k fine few none h =
        let S : List Version = versions_of T columns_id in
        let past : AllByRecursion (IsPast place (tx, seq)) S = past_at place (tx, seq) columns_id T k.each in
        ⊎_elim
        (λ (same : versions_of (changed_in (tx, seq) c T) columns_id ≡ S).
        subst (λ (second : List Version). AllByRecursion (ToldIn second) (changed_in (tx, seq) c T)) (sym same)
        (all_map (λ t. (t.def.id ≡ c.0 → IsFine t.def.columns c.1 t.versions) × ToldIn S t) (ToldIn S) (λ t. if t.def.id == c.0 then with_versions (changed (tx, seq) c.1) t else t)
        (λ t j. in_its_table S (tx, seq) past c (t.def.id == c.0) t refl j.0 j.1) T
        (all_both (λ t. t.def.id ≡ c.0 → IsFine t.def.columns c.1 t.versions) (ToldIn S) T (each_of_id (λ t. IsFine t.def.columns c.1 t.versions) 1 c.0 T k.sound.ids fine) h)))
        (λ (own : (c.0 ≡ columns_id) × (versions_of (changed_in (tx, seq) c T) columns_id ≡ changed (tx, seq) c.1 S)).
        subst (λ (second : List Version). AllByRecursion (ToldIn second) (changed_in (tx, seq) c T)) (sym own.1)
        (all_map (ToldIn (changed (tx, seq) c.1 S)) (ToldIn (changed (tx, seq) c.1 S)) (λ t. if t.def.id == c.0 then with_versions (changed (tx, seq) c.1) t else t)
        (λ t j. not_of_columns c.0 (changed (tx, seq) c.1) (changed (tx, seq) c.1 S) t (t.def.id == c.0) refl own.0 j) T
        (all_weaker (λ t. ((2 < t.def.id → IsOfNoColumn c.1 t.def.id) × (length t.def.columns ≤ 64)) × (KeptTable place (tx, seq) t × ToldIn S t)) (ToldIn (changed (tx, seq) c.1 S))
        (λ t j. row_more S (tx, seq) past c.1 t j.0.0 j.0.1 j.1.0.past j.1.1) T
        (all_both (λ t. (2 < t.def.id → IsOfNoColumn c.1 t.def.id) × (length t.def.columns ≤ 64)) (λ t. KeptTable place (tx, seq) t × ToldIn S t) T
        (all_both (λ t. 2 < t.def.id → IsOfNoColumn c.1 t.def.id) (λ t. length t.def.columns ≤ 64) T
        (all_defs (λ (d : TableDef). 2 < d.id → IsOfNoColumn c.1 d.id) T (none own.0)) (all_defs (λ (d : TableDef). length d.columns ≤ 64) T few))
        (all_both (KeptTable place (tx, seq)) (ToldIn S) T k.each h)))))
        (changed_at c.0 columns_id (changed (tx, seq) c.1) T)

  module _ (tx : ℕ) where
    pub all_told : (seq : ℕ) (cs : List TableChange) (T : Tables) → Kept place tx seq T → AllFine tx seq cs T → AreFew (defs_of T) → AllByRecursion (IsOfNoColumns (defs_of T)) cs → AllTold T → AllTold (changed_from tx seq cs T)
    all_told seq [] T k fine few none h = h
    all_told seq (c ∷ cs) T k fine few none h =
        let same : defs_of (changed_in (tx, seq) c T) ≡ defs_of T = same_defs c.0 (changed (tx, seq) c.1) T in
        all_told (seq + 1) cs (changed_in (tx, seq) c T) (kept_changed place tx seq c T k fine.0) fine.1
        (subst AreFew (sym same) few) (subst (λ (ds : Defs). AllByRecursion (IsOfNoColumns ds) cs) (sym same) none.1)
        (changed_told tx seq c T k fine.0 few none.0 h)

  -- ---- definitions

  pub new_told : (def : TableDef) (U : Tables) → ToldTable place (versions_of U columns_id) (record { def = def; versions = [] }) → AllTold U → AllTold (U ++ record { def = def; versions = [] } ∷ [])
  new_told def U own h =
      subst (λ (second : List Version). AllByRecursion (ToldIn second) (U ++ record { def = def; versions = [] } ∷ [])) (sym (new_table def columns_id U))
      (all_append (ToldIn (versions_of U columns_id)) U (record { def = def; versions = [] } ∷ []) h ((λ lt. own), tt))

  -- the table with the id of this definition has its columns
  abbrev pub HasColumns : TableDef → Table → Type 0
  HasColumns def t = t.def.id ≡ def.id → t.def.columns ≡ def.columns

  with_same_columns : (second : List Version) (def : TableDef) (t : Table) → t.def.id ≡ def.id → t.def.columns ≡ def.columns → ToldTable place second t → ToldTable place second (with_def def t)
  with_same_columns second def t same e h = record {
    columns = subst (λ (id : ℕ). AreTold place second id 1 def.columns) same (subst (AreTold place second t.def.id 1) e h.columns);
    behind = subst (λ (id : ℕ). NoneBehind place second id (length def.columns)) same (subst (λ (cs : List ColumnDef). NoneBehind place second t.def.id (length cs)) e h.behind);
    versions = subst (λ (id : ℕ). AllByRecursion (Took place second id def.columns) t.versions) same (subst (λ (cs : List ColumnDef). AllByRecursion (Took place second t.def.id cs) t.versions) e h.versions);
  }

  in_its_place : (second : List Version) (def : TableDef) (t : Table) (b : Bool) → (t.def.id == def.id) ≡ b → HasColumns def t → ToldIn second t → ToldIn second (if b then with_def def t else t)
  in_its_place second def t true e has h =
      let same : t.def.id ≡ def.id = eqb-true t.def.id def.id e in
      λ lt. with_same_columns second def t same (has same) (h (omega (arith, same, lt)))
  in_its_place second def t false e has h = h

  pub redefined_told : (def : TableDef) (U : Tables) → AllByRecursion (HasColumns def) U → AllTold U → AllTold (redefined def U)
  redefined_told def U has h =
      let S : List Version = versions_of U columns_id in
      subst (λ (second : List Version). AllByRecursion (ToldIn second) (redefined def U)) (sym (redefined_table def columns_id U))
      (all_map (λ t. HasColumns def t × ToldIn S t) (ToldIn S) (λ t. if t.def.id == def.id then with_def def t else t) (λ t j. in_its_place S def t (t.def.id == def.id) refl j.0 j.1) U
      (all_both (HasColumns def) (ToldIn S) U has h))

-- ---- the versions of a table that changed

with_head : (id : ℕ) (f : List Version → List Version) (t : Table) (vs ws : List Version) (b : Bool) → (t.def.id == id) ≡ b → (b ≡ false → ws ≡ f vs)
    → (let u : Table = if b then with_versions f t else t in if u.def.id == id then u.versions else ws) ≡ f (if b then t.versions else vs)
with_head id f t vs ws true e h = ap (λ (c : Bool). if c then f t.versions else ws) e
with_head id f t vs ws false e h = ap (λ (c : Bool). if c then t.versions else ws) e ∙ h refl

pub versions_changed : (id : ℕ) (f : List Version → List Version) (P : Table → Type 0) (T : Tables) → OfTable id P T → versions_of (changed_table id f T) id ≡ f (versions_of T id)
versions_changed id f P [] o = absurd o
versions_changed id f P (t ∷ ts) o =
    with_head id f t (versions_of ts id) (versions_of (changed_table id f ts) id) (t.def.id == id) refl
    (λ other. elim o [ inl p ↦ absurd (let yes : (t.def.id == id) ≡ true = eq-eqb t.def.id id p.0 in cc) | inr q ↦ versions_changed id f P ts q ])

-- ---- ALTER TABLE

module _ (place : ℕ → ℕ) (tx seq : ℕ) (T : Tables) (k : Kept place tx seq T) (d : Described T) (told : AllTold place T) where
  abbrev now : EventId
  now = (tx, seq)

  abbrev S : List Version
  S = versions_of T columns_id

  past : AllByRecursion (IsPast place now) S
  past = past_at place now columns_id T k.each

  module _ (old def : TableDef) (values : List (Option TypedValue)) (same : def.id ≡ old.id) (about : (i n : ℕ) → IsAboutColumn i n (map value_or_null values) → def.id ≡ i)
      (own : (t : Table) → t.def ≡ old → AllByRecursion (IsPast place now) t.versions → AllByRecursion (λ v. FitsSoFar t.def.columns v.values) t.versions → ToldTable place S t
      → ToldTable place (inserted start_cmp (new_version now values) S) (with_def def t)) where
    abbrev More : List Version
    More = inserted start_cmp (new_version now values) S

    -- told of under the definition, where the table is the one with its id, and else as it is
    abbrev Ready : Table → Type 0
    Ready t = 2 < t.def.id → (t.def.id ≡ def.id → ToldTable place More (with_def def t)) × ((t.def.id ≡ def.id → ⊥) → ToldTable place More t)

    ready : (t : Table) → IsOnly old t.def → length t.def.columns ≤ 64 → KeptTable place now t → ToldIn place S t → Ready t
    ready t only few kept h =
        λ lt. (
          (λ e. own t (only (e ∙ same)) kept.past kept.fit (h lt)),
          (λ other. still_told_table place S now (new_version now values) t refl (λ n low a. other (sym (about t.def.id n a))) few kept.past (h lt)),
        )

    ready_still : (t : Table) (b : Bool) → (t.def.id == columns_id) ≡ b → Ready t → Ready (if b then with_versions (changed now (Starts values)) t else t)
    ready_still t true e h = λ lt. absurd (let is = eqb-true t.def.id columns_id e in omega (arith, is, lt))
    ready_still t false e h = h

    entered_in : (t : Table) (b : Bool) → (t.def.id == def.id) ≡ b → Ready t → ToldIn place More (if b then with_def def t else t)
    entered_in t true e h = λ lt. (let is : t.def.id ≡ def.id = eqb-true t.def.id def.id e in (h (omega (arith, is, lt))).0 is)
    entered_in t false e h = λ lt. (h lt).1 (λ is. (let yes : (t.def.id == def.id) ≡ true = eq-eqb t.def.id def.id is in cc))

    pub entered_told : AllByRecursion (λ t. IsOnly old t.def) T → AllTold place (redefined def (changed_in now (columns_id, Starts values) T))
    unfolding started
    entered_told only =
        let U : Tables = changed_in now (columns_id, Starts values) T in
        subst (λ (second : List Version). AllByRecursion (ToldIn place second) (redefined def U))
        (sym (redefined_table def columns_id U ∙ versions_changed columns_id (changed now (Starts values)) (λ t. t.def.columns ≡ columns_columns) T (of_weaker columns_id _ (λ t. t.def.columns ≡ columns_columns) T (λ t h. h.0) d.of_columns)))
        (all_map Ready (ToldIn place More) (λ t. if t.def.id == def.id then with_def def t else t) (λ t r. entered_in t (t.def.id == def.id) refl r) U
        (all_map Ready Ready (λ t. if t.def.id == columns_id then with_versions (changed now (Starts values)) t else t) (λ t r. ready_still t (t.def.id == columns_id) refl r) T
        (all_weaker (λ t. (IsOnly old t.def × (length t.def.columns ≤ 64)) × (KeptTable place now t × ToldIn place S t)) Ready (λ t h. ready t h.0.0 h.0.1 h.1.0 h.1.1) T
        (all_both (λ t. IsOnly old t.def × (length t.def.columns ≤ 64)) (λ t. KeptTable place now t × ToldIn place S t) T
        (all_both (λ t. IsOnly old t.def) (λ t. length t.def.columns ≤ 64) T only (all_defs (λ (d : TableDef). length d.columns ≤ 64) T d.few))
        (all_both (KeptTable place now) (ToldIn place S) T k.each told)))))
