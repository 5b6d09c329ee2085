-- What ALTER TABLE and DROP TABLE make, and the one definition that theirs takes the place of.
use Rattle.std.proofs.Common.{◌≡◌, ℕ, sym, subst, ◌∙◌, true, List, [], ◌∷◌, Ok, inl, inr}
use Rattle.std.specs.List.{AllByRecursion}
use Rattle.sql_value.specs.declared.column.ColumnDef.{ColumnDef}
use Rattle.sql_types.specs.declared.statement.Alter.{Alter}
use Rattle.sql_types.specs.declared.table.TableDef.{TableDef}
use Rattle.sql_types.specs.declared.table.Part.TheVariants.{Base}
use Rattle.sql_types.specs.declared.version.Table.{Table}
use Rattle.sql_types.specs.declared.version.Version.{Version}
use Rattle.spec_model.specs.Keys.{same_key, key_places, version_key_at}
use Rattle.spec_model.specs.Catalog.{Defs, Tables, defs_of, versions_of}
use Rattle.spec_model.specs.Alter.{WithColumn, alter_check, drop_check, next_change, Altered, altered_table, gone_table, alteration, table_drop}
use Rattle.spec_model.specs.Agreement.{IdsFrom}
use Rattle.law_frame.specs.Alters.{ColumnsStay, Altering}
use Rattle.law_frame.proofs.Alls.{all_weaker}
use Rattle.law_frame.proofs.Checked.{Led, led}
use Rattle.law_journal.specs.Fine.{OfTable}
use Rattle.law_journal.specs.Fits.{FitsSoFar}
use Rattle.law_journal.specs.Kept.{Apart, AllApart}
use Rattle.law_journal.proofs.DefLists.{all_defs, IsOnly, is_listed_once}
use Rattle.law_journal.proofs.Lift.{of_weaker, of_all, found_table}
use Rattle.law_journal.proofs.SoFar.{stay_fit}

-- ---- by what was checked

module _ (defs : Defs) (first second : List Version) (P : Altered → Type 0) where
  pub by_alter : (y : Alter) (a : Altered) → alteration defs first second y ≡ Ok a
      → ((x : WithColumn) → alter_check defs y ≡ Ok x → P (altered_table (next_change x.0.id first second) x)) → P a
  by_alter y a e h =
      let l : Led (alter_check defs y) (λ x. Ok (altered_table (next_change x.0.id first second) x)) a = led _ _ a e in
      let last : Ok (altered_table (next_change l.value.0.id first second) l.value) ≡ Ok a = l.then_ in
      let is : altered_table (next_change l.value.0.id first second) l.value ≡ a = cc in
      subst P is (h l.value l.was)

  pub by_drop : (name : List ℕ) (a : Altered) → table_drop defs first second name ≡ Ok a
      → ((def : TableDef) → drop_check defs name ≡ Ok def → P (gone_table (next_change def.id first second) def)) → P a
  by_drop name a e h =
      let l : Led (drop_check defs name) (λ def. Ok (gone_table (next_change def.id first second) def)) a = led _ _ a e in
      let last : Ok (gone_table (next_change l.value.id first second) l.value) ≡ Ok a = l.then_ in
      let is : gone_table (next_change l.value.id first second) l.value ≡ a = cc in
      subst P is (h l.value l.was)

-- ---- the definition before

pub of_out : (id : ℕ) (P : Table → Type 0) (R : Type 0) (T : Tables) → OfTable id P T → ((t : Table) → P t → R) → R
of_out id P R [] o f = absurd o
of_out id P R (t ∷ ts) o f = elim o [ inl p ↦ f t p.1 | inr q ↦ of_out id P R ts q f ]

-- what holds of all definitions
pub of_def : (P : TableDef → Type 0) (T : Tables) (x : TableDef) → AllByRecursion P (defs_of T) → OfTable x.id (λ t. t.def ≡ x) T → P x
of_def P T x h o = of_out x.id (λ t. P t.def × (t.def ≡ x)) (P x) T (of_all x.id (λ t. P t.def) (λ t. t.def ≡ x) T (all_defs P T h) o) (λ t k. subst P k.1 k.0)

pub has_old : (T : Tables) (def : TableDef) → IdsFrom 1 (defs_of T) → (g : Altering (defs_of T) def) → OfTable g.old.id (λ t. t.def ≡ g.old) T
has_old T def ids g =
    let f = (found_table 1 T g.name (g.old, Base) ids g.found).there in
    of_weaker g.old.id (λ t. (t.def ≡ g.old) × (t.versions ≡ versions_of T g.old.id)) (λ t. t.def ≡ g.old) T (λ t k. k.0) f

pub only_old : (T : Tables) (def : TableDef) → IdsFrom 1 (defs_of T) → (g : Altering (defs_of T) def) → AllByRecursion (IsOnly g.old) (defs_of T)
only_old T def ids g = (is_listed_once 1 g.old T ids (has_old T def ids g)).only

-- the table with the id of this definition keeps its key and its columns
abbrev pub StaysIn : TableDef → Table → Type 0
StaysIn def t = t.def.id ≡ def.id → ColumnsStay t.def.columns def.columns × (key_places def.columns ≡ key_places t.def.columns)

pub all_stay : (T U : Tables) (def : TableDef) → defs_of U ≡ defs_of T → IdsFrom 1 (defs_of T) → Altering (defs_of T) def → AllByRecursion (StaysIn def) U
all_stay T U def e ids g =
    all_weaker (λ t. IsOnly g.old t.def) (StaysIn def)
    (λ t o same. (let is : g.old ≡ t.def = sym (o (same ∙ g.alters.id)) in
    subst (λ (d : TableDef). ColumnsStay d.columns def.columns × (key_places def.columns ≡ key_places d.columns)) is (g.alters.columns, g.alters.key))) U
    (all_defs (IsOnly g.old) U (subst (λ (ds : Defs). AllByRecursion (IsOnly g.old) ds) (sym e) (only_old T def ids g)))

-- ---- what stands in a table under the other definition

module _ (place : ℕ → ℕ) (cs ds : List ColumnDef) (key : key_places ds ≡ key_places cs) where
  apart_as : (v w : Version) → Apart place cs v w → Apart place ds v w
  apart_as v w h e = h (subst (λ (places : List ℕ). same_key (version_key_at places v) (version_key_at places w) ≡ true) key e)

  pub apart_stays : (vs : List Version) → AllApart place cs vs → AllApart place ds vs
  apart_stays [] h = tt
  apart_stays (v ∷ vs) h = (all_weaker (Apart place cs v) (Apart place ds v) (apart_as v) vs h.0, apart_stays vs h.1)

pub fit_stays : (cs ds : List ColumnDef) → ColumnsStay cs ds → (vs : List Version) → AllByRecursion (λ v. FitsSoFar cs v.values) vs → AllByRecursion (λ v. FitsSoFar ds v.values) vs
fit_stays cs ds s vs h = all_weaker (λ v. FitsSoFar cs v.values) (λ v. FitsSoFar ds v.values) (λ v k. stay_fit cs ds v.values s k) vs h
