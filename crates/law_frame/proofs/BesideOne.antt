-- Beside a statement alone that it doesn't clash with, a statement finds all that it wants as before.
use Rattle.std.proofs.Common.{◌≡◌, ℕ, refl, sym, subst, Bool, true, false, List, [], ◌∷◌, Option, Some, None}
use Rattle.std.specs.Prelude.{◌||◌}
use Rattle.sql_types.specs.declared.lock.Mode.{Mode}
use Rattle.sql_types.specs.declared.lock.Mode.TheVariants.{IS, IX, S, X}
use Rattle.sql_types.specs.declared.statement.Stmt.{Stmt}
use Rattle.sql_types.specs.declared.statement.Stmt.TheVariants as s
use Rattle.spec_model.specs.Catalog.{Tables, defs_of}
use Rattle.spec_model.specs.Locks as request
use Rattle.spec_model.specs.Agreement.{AgreeInCell, AgreeInCatalog, AgreeFor, requests_of}
use Rattle.spec_model.specs.Reach.{creates}
use Rattle.spec_model.specs.Runs.{Sound}
use Rattle.spec_model.specs.Script.{Reading, saves, rolls_back_to, in_transaction, alone, by_statement, start, text_step, script_from, script}
use Rattle.spec_model.specs.NoClash.{text_clash}
use Rattle.law_frame.proofs.SameKeys.{or_false}
use Rattle.law_frame.proofs.Definitions.{cell_requests_share}
use Rattle.law_frame.proofs.LeftScripts.{same_catalog_request}
use Rattle.law_frame.proofs.Beside.{beside}

same_alone : (tx : ℕ) (T : Tables) (b : Stmt) → creates b ≡ false → (in_transaction tx (start T) b).0.tables ≡ (alone tx (start T) b).0.tables
unfolding saves rolls_back_to
same_alone tx T (s.Create c) k = cc
same_alone tx T (s.Index c) k = cc
same_alone tx T (s.Alter b) k = cc
same_alone tx T (s.Drop name) k = cc
same_alone tx T (s.Change stmt) k = refl
same_alone tx T (s.Select q) k = refl
same_alone tx T s.Begin k = refl
same_alone tx T s.Commit k = refl
same_alone tx T (s.Save name) k = refl
same_alone tx T (s.Rollback (Some name)) k = refl
same_alone tx T (s.Rollback None) k = refl
same_alone tx T s.Digest k = refl
same_alone tx T s.Image k = refl

-- who wants nothing in the catalog wants nothing at all
module _ (T U : Tables) (p : Bool) (a : Stmt) (none : request.catalog_request p a ≡ None) where
  nothing : (c : request.CellRequests) → request.cell_requests (defs_of T) a ≡ c → AgreeInCell c T U
  nothing None e = tt
  nothing (Some c) e = absurd (let shares : request.catalog_request p a ≡ Some S = cell_requests_share (defs_of T) p a c e in cc)

  requests_nothing : AgreeFor T U (requests_of (defs_of T) p a)
  requests_nothing = record { catalog = subst (λ (m : Option Mode). AgreeInCatalog m T U) (sym none) tt; cell = nothing (request.cell_requests (defs_of T) a) refl }

no_conflict : (m : Option Mode) → request.catalog_clash m (Some X) ≡ false → m ≡ None
unfolding request.conflict
no_conflict None e = refl
no_conflict (Some IS) e = cc
no_conflict (Some IX) e = cc
no_conflict (Some S) e = cc
no_conflict (Some X) e = cc

creator_requests : (b : Stmt) → creates b ≡ true → request.catalog_request false b ≡ Some X
creator_requests (s.Create c) k = refl
creator_requests (s.Index c) k = refl
creator_requests (s.Alter b) k = refl
creator_requests (s.Drop name) k = refl
creator_requests (s.Change stmt) k = cc
creator_requests (s.Select q) k = cc
creator_requests s.Begin k = cc
creator_requests s.Commit k = cc
creator_requests (s.Save name) k = cc
creator_requests (s.Rollback name) k = cc
creator_requests s.Digest k = cc
creator_requests s.Image k = cc

module _ (reads : Reading) (T : Tables) (tx : ℕ) (text : List ℕ) (sound : Sound tx 0 T) (a : Stmt) (p : Bool) where
  abbrev Kept : Tables → Type 0
  Kept U = AgreeFor T U (requests_of (defs_of T) p a)

  opened_one : (o : Option Stmt) → reads text ≡ o → text_clash (defs_of T) p a true o ≡ false → Kept (by_statement true tx (start T) o).0.tables
  unfolding script_from text_step
  opened_one o e h =
      subst (λ (x : Option Stmt). Kept (by_statement true tx (start T) x).0.tables) e
      (beside reads T tx (text ∷ []) sound a p (subst (λ (x : Option Stmt). text_clash (defs_of T) p a true x ≡ false) (sym e) h, tt))

  by_create : (b : Stmt) (k : Bool) → creates b ≡ k → reads text ≡ Some b → text_clash (defs_of T) p a false (Some b) ≡ false → Kept (alone tx (start T) b).0.tables
  unfolding request.clash
  by_create b false k e h =
      subst Kept (same_alone tx T b k)
      (opened_one (Some b) e
      (subst (λ (m : Option Mode). (request.catalog_clash (request.catalog_request p a) m || request.cells_clash (request.cell_requests (defs_of T) a) (request.cell_requests (defs_of T) b)) ≡ false) (sym (same_catalog_request b k)) h))
  by_create b true k e h =
      let free : request.catalog_clash (request.catalog_request p a) (request.catalog_request false b) ≡ false = (or_false (request.catalog_clash (request.catalog_request p a) (request.catalog_request false b)) _ h).0 in
      requests_nothing T (alone tx (start T) b).0.tables p a (no_conflict (request.catalog_request p a) (subst (λ (m : Option Mode). request.catalog_clash (request.catalog_request p a) m ≡ false) (creator_requests b k) free))

  alone_one : (o : Option Stmt) → reads text ≡ o → text_clash (defs_of T) p a false o ≡ false → Kept (by_statement false tx (start T) o).0.tables
  alone_one None e h = opened_one None e refl
  alone_one (Some b) e h = by_create b (creates b) refl e h

  pub beside_one : text_clash (defs_of T) p a false (reads text) ≡ false → Kept (script reads false T tx (text ∷ [])).state.tables
  unfolding script_from text_step
  beside_one h = alone_one (reads text) refl h
