-- Ids that follow one another rise.
use Rattle.std.proofs.Common.{◌≡◌, ◌<◌, ℕ, ◌+◌, List, [], ◌∷◌, arith}
use Rattle.spec_model.specs.Agreement.{IdsFrom}
use Rattle.spec_model.specs.Catalog.{Defs, Tables, defs_of}
use Rattle.sql_reference.specs.Ids.{IdsRise}
use Rattle.sql_reference.specs.StatementResult.{IsReady}

pub ids_rise : (n last : ℕ) (defs : Defs) → last < n → IdsFrom n defs → IdsRise last defs
ids_rise n last [] lt ids = tt
ids_rise n last (def ∷ defs) lt ids = (omega (arith, lt, ids.0), ids_rise (n + 1) def.id defs (omega (arith, ids.0)) ids.1)

-- those of tables in which a statement may run
pub ready_rise : (tx seq : ℕ) (T : Tables) → IsReady tx seq T → IdsRise 0 (defs_of T)
ready_rise tx seq T h = ids_rise 1 0 (defs_of T) (omega arith) h.0.1.sound.ids
