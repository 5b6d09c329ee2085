-- Tables of which cells can be made.
use Rattle.std.specs.Prelude.{◌≤◌, [], length}
use Rattle.std.specs.List.{AllByRecursion}
use Rattle.spec_model.specs.Catalog.{Tables, defs_of}
use Rattle.spec_model.specs.Runs.{Rising}
use Rattle.server_engine.specs.Definitions.{AreFormed}
use Rattle.server_engine.specs.GoingOn.{HaveNewNames}

-- the system's two are there, the definitions are formed and each has new names, and versions rise
pub record AreReady (T : Tables) : Type 0 where
  pub system : 2 ≤ length T
  pub formed : AreFormed (defs_of T)
  pub names : HaveNewNames [] (defs_of T)
  pub rise : AllByRecursion (λ t. Rising t.versions) T
