-- A history without its first sessions, which are over before it begins.
use Rattle.std.specs.Prelude.{ℕ, ◌≡◌, ◌+◌, ◌-◌, ◌<◌, List, [], ◌∷◌, None}
use Rattle.spec_history.specs.Acts.{Act, by, closes}
use Rattle.spec_history.specs.Sessions.{gone}
use Rattle.spec_history.specs.Worlds.{World}

-- the others have numbers from 0 on
abbrev pub without : ℕ → List Act → List Act
without count [] = []
without count (by s a ∷ es) = by (s - count) a ∷ without count es
without count (closes k ∷ es) = closes k ∷ without count es

-- the first world without its first sessions, which are over and have no transaction, is the second
pub record IsWithout (count : ℕ) (w v : World) : Type 0 where
  pub items : v.items ≡ w.items
  pub next : v.next ≡ w.next
  pub issued : v.issued ≡ w.issued
  pub at : (n : ℕ) → v.at n ≡ w.at (count + n)
  pub over : (n : ℕ) → n < count → (w.at n).phase ≡ gone
  pub free : (n : ℕ) → n < count → (w.at n).transaction ≡ None
