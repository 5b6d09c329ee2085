-- Definitions whose ids rise, with gaps or without.
use Rattle.std.specs.Prelude.{ℕ, ◌<◌, List, [], ◌∷◌}
use Rattle.spec_model.specs.Catalog.{Defs}

-- the ids are above this one and rise strictly
abbrev pub IdsRise : ℕ → Defs → Type 0
IdsRise last [] = Unit {0}
IdsRise last (def ∷ defs) = (last < def.id) × IdsRise def.id defs
