-- Definitions that come one behind another.
use Rattle.std.specs.Prelude.{[], ◌∷◌, ◌++◌}
use Rattle.spec_model.specs.Catalog.{Defs}
use Rattle.store_catalog.specs.Names.{HasNewNames}

-- each has new names, behind these definitions and those in front of it
abbrev pub HaveNewNames : Defs → Defs → Type 0
HaveNewNames before [] = Unit {0}
HaveNewNames before (def ∷ defs) = HasNewNames before def × HaveNewNames (before ++ def ∷ []) defs
