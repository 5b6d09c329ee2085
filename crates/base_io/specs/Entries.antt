-- The entries of a vault in memory, one a name.
use Rattle.std.specs.Prelude.{◌≡◌, ℕ, List, [], ◌∷◌, if◌then◌else◌, bytes_eq, zero, suc, true, false, Option, Some, None}
use Rattle.base_io.specs.Store.{NameContent, Absent, Open, Bytes, SameBut}
use Rattle.base_io.specs.declared.mem_vault.Entry.{Entry}

-- these bytes, or that nobody can tell
abbrev pub shown : Option (List ℕ) → NameContent
shown (Some bytes) = Bytes bytes
shown None = Open

-- what stands under a name: what its first entry says
abbrev pub held_in : List Entry → List ℕ → NameContent
held_in [] name = Absent
held_in (e ∷ es) name = if bytes_eq e.name name then shown e.held else held_in es name

-- the new entries have this under the name, and all else as before
pub record HoldsNow (old new : List Entry) (name : List ℕ) (held : NameContent) : Type 0 where
  pub here : held_in new name ≡ held
  pub elsewhere : SameBut (held_in old) (held_in new) name

-- the first entry of the name stands at this place
abbrev pub IsPlaceOf : List Entry → List ℕ → ℕ → Type 0
IsPlaceOf [] name at = ⊥
IsPlaceOf (e ∷ es) name zero = bytes_eq e.name name ≡ true
IsPlaceOf (e ∷ es) name (suc at) = (bytes_eq e.name name ≡ false) × IsPlaceOf es name at
