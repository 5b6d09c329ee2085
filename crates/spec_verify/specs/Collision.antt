-- Collisions of a hash.
use Rattle.std.specs.Prelude.{ℕ, ◌≡◌, ◌≢◌, List}

-- two different strings of bytes with one hash
pub record Collides (h : List ℕ → List ℕ) (x y : List ℕ) : Type 0 where
  pub differ : x ≢ y
  pub same : h x ≡ h y
