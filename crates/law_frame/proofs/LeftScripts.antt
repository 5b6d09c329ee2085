-- What a script leaves alone: the rows of which none of its statements wants X.
use Rattle.std.proofs.Common.{◌≡◌, ℕ, refl, sym, subst, ◌∙◌, true, false, List, [], ◌∷◌, Option, Some, None}
use Rattle.std.specs.List.{AllByRecursion}
use Rattle.sql_types.specs.declared.lock.Mode.{Mode}
use Rattle.sql_types.specs.declared.statement.Stmt.{Stmt}
use Rattle.sql_types.specs.declared.statement.Stmt.TheVariants as s
use Rattle.spec_model.specs.Keys.{Key, of_key}
use Rattle.spec_model.specs.Catalog.{Defs, Tables, defs_of, versions_of}
use Rattle.spec_model.specs.Effect.{effect}
use Rattle.spec_model.specs.Locks as request
use Rattle.spec_model.specs.Agreement.{columns_at, requests_of}
use Rattle.spec_model.specs.Reach.{creates, reaches, reaches_table}
use Rattle.spec_model.specs.Runs.{Sound}
use Rattle.spec_model.specs.Script.{Reading, start, script}
use Rattle.spec_model.specs.ScriptRequests.{text_requests, script_requests}
use Rattle.law_frame.proofs.Definitions.{defs_after}
use Rattle.law_frame.proofs.LeftTables.{left_key, left_table}
use Rattle.law_frame.proofs.SoundStatements.{kept_sound}
use Rattle.law_frame.proofs.StepByStep.{OnText, Throughout, throughout, script_keeps_where}

-- what doesn't create wants the same in the catalog, whether BEGIN opened the transaction or not
pub same_catalog_request : (stmt : Stmt) → creates stmt ≡ false → request.catalog_request true stmt ≡ request.catalog_request false stmt
same_catalog_request (s.Create c) e = cc
same_catalog_request (s.Index c) e = cc
same_catalog_request (s.Alter a) e = cc
same_catalog_request (s.Drop name) e = cc
same_catalog_request (s.Change stmt) e = refl
same_catalog_request (s.Select q) e = refl
same_catalog_request s.Begin e = refl
same_catalog_request s.Commit e = refl
same_catalog_request (s.Save name) e = refl
same_catalog_request (s.Rollback name) e = refl
same_catalog_request s.Digest e = refl
same_catalog_request s.Image e = refl

module _ (tx : ℕ) (T : Tables) (id : ℕ) where
  -- ---- the rows of a key

  module _ (key : Key) where
    pub record LeftKey (n : ℕ) (U : Tables) : Type 0 where
      pub sound : Sound tx n U
      pub defs : defs_of U ≡ defs_of T
      pub left : of_key (columns_at (defs_of T) id) key (versions_of U id) ≡ of_key (columns_at (defs_of T) id) key (versions_of T id)

    abbrev NotReached : Stmt → Type 0
    NotReached stmt = reaches id key (requests_of (defs_of T) true stmt) ≡ false

    leaves_key : (n : ℕ) (U : Tables) (stmt : Stmt) → creates stmt ≡ false → NotReached stmt → LeftKey n U → LeftKey (effect U tx n stmt).seq (effect U tx n stmt).tables
    leaves_key n U stmt k q h =
        let other : reaches id key (requests_of (defs_of T) false stmt) ≡ false = subst (λ (m : Option Mode). reaches id key (record { catalog = m; cell = request.cell_requests (defs_of T) stmt }) ≡ false) (same_catalog_request stmt k) q in
        let mine : reaches id key (requests_of (defs_of U) false stmt) ≡ false = subst (λ (ds : Defs). reaches id key (requests_of ds false stmt) ≡ false) (sym h.defs) other in
        record {
          sound = kept_sound tx n U stmt k h.sound;
          defs = defs_after U tx n stmt k ∙ h.defs;
          left = subst (λ (ds : Defs). of_key (columns_at ds id) key (versions_of (effect U tx n stmt).tables id) ≡ of_key (columns_at ds id) key (versions_of U id)) h.defs
              (left_key tx n U id h.sound key stmt mine) ∙ h.left;
        }

    on_texts : (reads : Reading) (texts : List (List ℕ)) → AllByRecursion (λ w. reaches id key w ≡ false) (script_requests reads (defs_of T) true texts) → AllByRecursion (λ t. OnText NotReached (reads t)) texts
    on_texts reads [] h = tt
    on_texts reads (t ∷ ts) h = (here (reads t) h.0, on_texts reads ts h.1)
      where
        here : (o : Option Stmt) → reaches id key (text_requests (defs_of T) true o) ≡ false → OnText NotReached o
        here None e = tt
        here (Some stmt) e = e

    key_throughout : (reads : Reading) (texts : List (List ℕ)) → Sound tx 0 T → AllByRecursion (λ w. reaches id key w ≡ false) (script_requests reads (defs_of T) true texts) → Throughout LeftKey (script reads true T tx texts).state
    key_throughout reads texts sound h =
        script_keeps_where tx NotReached (Throughout LeftKey) (throughout LeftKey tx NotReached leaves_key) reads (start T) texts (on_texts reads texts h)
        (record { sound = sound; defs = refl; left = refl }, tt)

    pub script_leaves_key : (reads : Reading) (texts : List (List ℕ)) → Sound tx 0 T → AllByRecursion (λ w. reaches id key w ≡ false) (script_requests reads (defs_of T) true texts)
        → of_key (columns_at (defs_of T) id) key (versions_of (script reads true T tx texts).state.tables id) ≡ of_key (columns_at (defs_of T) id) key (versions_of T id)
    script_leaves_key reads texts sound h = (key_throughout reads texts sound h).0.left

  -- ---- a table

  pub record LeftTable (n : ℕ) (U : Tables) : Type 0 where
    pub defs : defs_of U ≡ defs_of T
    pub left : versions_of U id ≡ versions_of T id

  abbrev TableNotReached : Stmt → Type 0
  TableNotReached stmt = reaches_table id (requests_of (defs_of T) true stmt) ≡ false

  leaves_table : (n : ℕ) (U : Tables) (stmt : Stmt) → creates stmt ≡ false → TableNotReached stmt → LeftTable n U → LeftTable (effect U tx n stmt).seq (effect U tx n stmt).tables
  leaves_table n U stmt k q h =
      let other : reaches_table id (requests_of (defs_of T) false stmt) ≡ false = subst (λ (m : Option Mode). reaches_table id (record { catalog = m; cell = request.cell_requests (defs_of T) stmt }) ≡ false) (same_catalog_request stmt k) q in
      let mine : reaches_table id (requests_of (defs_of U) false stmt) ≡ false = subst (λ (ds : Defs). reaches_table id (requests_of ds false stmt) ≡ false) (sym h.defs) other in
      record { defs = defs_after U tx n stmt k ∙ h.defs; left = left_table tx n U id stmt mine ∙ h.left }

  on_table_texts : (reads : Reading) (texts : List (List ℕ)) → AllByRecursion (λ w. reaches_table id w ≡ false) (script_requests reads (defs_of T) true texts) → AllByRecursion (λ t. OnText TableNotReached (reads t)) texts
  on_table_texts reads [] h = tt
  on_table_texts reads (t ∷ ts) h = (here (reads t) h.0, on_table_texts reads ts h.1)
    where
      here : (o : Option Stmt) → reaches_table id (text_requests (defs_of T) true o) ≡ false → OnText TableNotReached o
      here None e = tt
      here (Some stmt) e = e

  table_throughout : (reads : Reading) (texts : List (List ℕ)) → AllByRecursion (λ w. reaches_table id w ≡ false) (script_requests reads (defs_of T) true texts) → Throughout LeftTable (script reads true T tx texts).state
  table_throughout reads texts h =
      script_keeps_where tx TableNotReached (Throughout LeftTable) (throughout LeftTable tx TableNotReached leaves_table) reads (start T) texts (on_table_texts reads texts h)
      (record { defs = refl; left = refl }, tt)

  pub script_leaves_table : (reads : Reading) (texts : List (List ℕ)) → AllByRecursion (λ w. reaches_table id w ≡ false) (script_requests reads (defs_of T) true texts)
      → versions_of (script reads true T tx texts).state.tables id ≡ versions_of T id
  script_leaves_table reads texts h = (table_throughout reads texts h).0.left
