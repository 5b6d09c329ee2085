-- What a vault has.
use Rattle.std.specs.Prelude.{◌≡◌, ◌≢◌, ℕ, List}

-- what stands under a name: nothing, something that nobody can tell, or these bytes
pub data NameContent : Type 0 where
  Absent : NameContent
  Open : NameContent
  Bytes : List ℕ → NameContent

-- what stands under each name
abbrev pub Names : Type 0
Names = List ℕ → NameContent

-- all names but this one are as before
abbrev pub SameBut : Names → Names → List ℕ → Type 0
SameBut old new name = (other : List ℕ) → other ≢ name → new other ≡ old other
